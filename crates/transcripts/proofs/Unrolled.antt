-- The transcript of bytes by their first line.
use Rattle.std.proofs.Common.{arith}
use Rattle.std.proofs.Common.{◌≡◌, ℕ, zero, suc, ◌+◌, refl, ap, subst, ◌∙◌, sym, List, [], take, drop, Option, Some, None, Result, Ok, Err}
use Rattle.schedule_text.specs.{declared.commands.Line.{Line}, Parsing.{parsed}}
use Rattle.schedule_lines.specs.declared.{faults.Fault.{Fault, TheVariants.{LineTooLong, CutOff, TooManyLines}}, lines.Front.{Front}}
use Rattle.schedule_lines.specs.{declared.lines.Front.TheVariants.{Line as WholeLine, TooLong, Part}, Lines.{front_of}}
use Rattle.transcripts.specs.Replayed.{MayGoOn}
use Rattle.transcripts.specs.Transcript.{ReplayState, Transcript, stops, ends, ends_or, then_prints, tasks_of, line_effect, transcript_from}
use Rattle.transcripts.proofs.Faults.{fault_of_effect}
use Rattle.schedule_lines.proofs.bytes.Fronts.{none_part}

-- after a line that is understood, by its fault
abbrev by_effect : ℕ → ℕ → Option ReplayState → List ℕ → ℕ → Line → Option Fault → Transcript
by_effect left done p bytes n line fault =
    elim fault [
      | Some fault ↦ record { printed = (line_effect p line).printed; fault = Some (done + 1, fault) }
      | None ↦ then_prints (line_effect p line).printed (transcript_from left (done + 1) (line_effect p line).play (drop (n + 1) bytes))
    ]

-- by what the first line asks for
abbrev by_line : ℕ → ℕ → Option ReplayState → List ℕ → ℕ → Result Line Fault → Transcript
by_line left done p bytes n line =
    elim line [
      | Err fault ↦ stops done fault
      | Ok line ↦ by_effect left done p bytes n line (line_effect p line).fault
    ]

-- by what the bytes begin with
abbrev by_front : ℕ → ℕ → Option ReplayState → List ℕ → Front → Transcript
by_front left done p bytes front =
    elim front [
      | WholeLine n ↦ by_line left done p bytes n (parsed (take n bytes) (tasks_of p))
      | TooLong ↦ stops done LineTooLong
      | Part ↦ ends_or done p CutOff bytes
    ]

-- the transcript, by what the bytes begin with
unrolled : (left done : ℕ) (p : Option ReplayState) (bytes : List ℕ) (front : Front) → front_of bytes ≡ front →
    transcript_from (suc left) done p bytes ≡ by_front left done p bytes front
unfolding transcript_from
unrolled left done p bytes front e = ap (by_front left done p bytes) e

module _ (left done : ℕ) (p : Option ReplayState) (bytes : List ℕ) (n : ℕ) (front : front_of bytes ≡ WholeLine n) where
  -- the transcript, by its first line
  at_line : (line : Result Line Fault) → parsed (take n bytes) (tasks_of p) ≡ line →
      transcript_from (suc left) done p bytes ≡ by_line left done p bytes n line
  at_line line e = unrolled left done p bytes (WholeLine n) front ∙ ap (by_line left done p bytes n) e

  -- a line with no fault prints what it prints, and the lines behind it follow
  pub after_line : (line : Line) → parsed (take n bytes) (tasks_of p) ≡ Ok line → (line_effect p line).fault ≡ None →
      transcript_from (suc left) done p bytes
      ≡ then_prints (line_effect p line).printed (transcript_from left (done + 1) (line_effect p line).play (drop (n + 1) bytes))
  after_line line e none = at_line (Ok line) e ∙ ap (by_effect left done p bytes n line) none

  -- a line that isn't understood
  pub line_fault : (fault : Fault) → parsed (take n bytes) (tasks_of p) ≡ Err fault →
      transcript_from (suc left) done p bytes ≡ stops done fault
  line_fault fault e = at_line (Err fault) e

  -- a line that is understood and refused
  pub effect_fault : (line : Line) (fault : Fault) → parsed (take n bytes) (tasks_of p) ≡ Ok line →
      (line_effect p line).fault ≡ Some fault → transcript_from (suc left) done p bytes ≡ stops done fault
  effect_fault line fault e is =
      at_line (Ok line) e ∙ ap (by_effect left done p bytes n line) is
      ∙ ap (λ (l : List ℕ). let t : Transcript = record { printed = l; fault = Some (done + 1, fault) } in t)
      (fault_of_effect p line fault is).0

-- bytes that begin with more than a line may have
pub long_fault : (left done : ℕ) (p : Option ReplayState) (bytes : List ℕ) → front_of bytes ≡ TooLong →
    transcript_from (suc left) done p bytes ≡ stops done LineTooLong
long_fault left done p bytes front = unrolled left done p bytes TooLong front

-- a part of a line, or nothing
pub part_ends : (left done : ℕ) (p : Option ReplayState) (bytes : List ℕ) → front_of bytes ≡ Part →
    transcript_from (suc left) done p bytes ≡ ends_or done p CutOff bytes
part_ends left done p bytes front = unrolled left done p bytes Part front

-- no line may follow
pub lines_spent : (done : ℕ) (p : Option ReplayState) (bytes : List ℕ) → transcript_from 0 done p bytes ≡ ends_or done p TooManyLines bytes
unfolding transcript_from
lines_spent done p bytes = refl

-- at the end of the input
pub none_left : (left done : ℕ) (p : Option ReplayState) → transcript_from left done p [] ≡ ends done p
none_left zero done p = lines_spent done p []
none_left (suc left) done p = part_ends left done p [] none_part

-- the same, or inside a line
ends_or_silent : (done : ℕ) (p : Option ReplayState) (fault : Fault) (bytes : List ℕ) → (ends_or done p fault bytes).printed ≡ []
ends_or_silent done p fault bytes = grind arith

-- nothing is printed of a part of a line
pub part_silent : (left done : ℕ) (p : Option ReplayState) (bytes : List ℕ) → front_of bytes ≡ Part →
    (transcript_from left done p bytes).printed ≡ []
part_silent zero done p bytes front =
    ap (λ (t : Transcript). t.printed) (lines_spent done p bytes) ∙ ends_or_silent done p TooManyLines bytes
part_silent (suc left) done p bytes front =
    ap (λ (t : Transcript). t.printed) (part_ends left done p bytes front) ∙ ends_or_silent done p CutOff bytes

-- at the end of the input there is no fault but that no configuration came
ends_sound : (done : ℕ) (p : Option ReplayState) → MayGoOn (done + 1) (ends done p).fault
ends_sound done p = grind arith

-- nor is there one where it ends inside a line, but just that
cut_sound : (done : ℕ) (p : Option ReplayState) (bytes : List ℕ) → MayGoOn (done + 1) (ends_or done p CutOff bytes).fault
cut_sound done p bytes = grind arith

-- no line has a fault where nothing follows
pub none_sound : (left done : ℕ) (p : Option ReplayState) → MayGoOn (done + 1) (transcript_from left done p []).fault
none_sound left done p = subst (λ (t : Transcript). MayGoOn (done + 1) t.fault) (sym (none_left left done p)) (ends_sound done p)

-- nor where a part of a line follows
pub part_sound : (left done : ℕ) (p : Option ReplayState) (bytes : List ℕ) → front_of bytes ≡ Part →
    MayGoOn (done + 1) (transcript_from (suc left) done p bytes).fault
part_sound left done p bytes front =
    subst (λ (t : Transcript). MayGoOn (done + 1) t.fault) (sym (part_ends left done p bytes front)) (cut_sound done p bytes)
