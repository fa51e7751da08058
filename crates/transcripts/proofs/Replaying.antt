-- A replay from one step to the next, and to its end.
use Rattle.std.proofs.lemmas.Grind.{common_steps}
use Rattle.std.proofs.Common.{◌≡◌, ℕ, zero, suc, ◌+◌, ◌-◌, ◌<◌, ◌≤◌, refl, sym, ap, subst, ◌∙◌, arith, List, [], ◌∷◌, ◌++◌, length, take, drop, append_assoc, append-nil, length-take, length-append, take-append-drop, true, false, Option, Some, None, Result, Ok, Err, ◌⊎◌, inl, inr}
use Rattle.std.proofs.KnownBytes.{Consumes-nil, Consumes-kept, Appends-nil, Appends-trans}
use Rattle.std.proofs.lemmas.List.{take-append-le, drop-append-le, drop-take, Sums.{sum_by-append}}
use Rattle.std.specs.{Prelude.{IfSome, IsSome, IfOk, IfErr, OnOk, OnErr}, Result.{result_and}, List.{count_by}}
use Rattle.std.specs.Io.KnownBytes.{Appends, Consumes, Keeps, IsAtEnd}
use lib.Seq.{take-take}
use Rattle.access_model.specs.declared.errors.GateError.TheVariants.{NoMemory}
use Rattle.schedule_text.specs.{declared.commands.Line.{Line}, Parsing.{parsed}}
use Rattle.schedule_lines.specs.declared.faults.Fault.{Fault}
use Rattle.schedule_lines.specs.declared.faults.Fault.TheVariants.{TooManyLines, LineTooLong, CutOff, ConfigExpected, ReadFailed, WriteFailed, Refused}
use Rattle.schedule_lines.specs.{declared.lines.Front.TheVariants.{Line as WholeLine, TooLong, Part}, Lines.{is_newline, front_of}}
use Rattle.schedule_lines.specs.{bytes.{Reading.{ReadsOn}, Writing.{AppendsPart}}, declared.bytes.replay_faults.ReplayFault.{ReplayFault}}
use Rattle.transcripts.specs.Replayed.{IsFront, MayGoOn, PrintsBefore, EndsWhole, EndsBy, Reports, Replayed}
use Rattle.transcripts.specs.Replaying.{ReplayUnderWay, Stops, AllDone, LinesEnd}
use Rattle.transcripts.specs.Transcript.{ReplayState, Transcript, stops, ends, ends_or, then_prints, tasks_of, line_effect, transcript_from, transcript}
use Rattle.transcripts.proofs.Faults.{is_own, ends_by_own, ends_whole, fault_of_parsed, fault_of_effect}
use Rattle.transcripts.proofs.Unrolled.{after_line, line_fault, effect_fault, long_fault, part_ends, lines_spent, none_left, part_silent, none_sound, part_sound}
use Rattle.schedule_lines.proofs.bytes.Fronts.{line_within, line_stays, line_alone, too_long_stays, part_short, part_lines, one_line, none_part}

-- ---- the first of some bytes

-- the first of the first are the first
front_of_front : (a b c : List ℕ) → IsFront a b → IsFront b c → IsFront a c
front_of_front a b c h k = (h.0 ++ k.0, k.1 ∙ ap (λ (l : List ℕ). l ++ k.0) h.1 ∙ append_assoc a h.0 k.0)

-- the same behind other bytes
front_behind : (a b c : List ℕ) → IsFront b c → IsFront (a ++ b) (a ++ c)
front_behind a b c h = (h.0, ap (λ (l : List ℕ). a ++ l) h.1 ∙ sym (append_assoc a b h.0))

-- so many bytes are the first
front_taken : (n : ℕ) (bytes : List ℕ) → IsFront (take n bytes) bytes
front_taken n bytes = (drop n bytes, sym (take-append-drop n bytes))

-- ---- texts that are printed one behind the other

-- a fault prints nothing
prints_nothing : (printed : List ℕ) (done : ℕ) (fault : Fault) →
    then_prints printed (stops done fault) ≡ record { printed = printed; fault = Some (done + 1, fault) }
prints_nothing printed done fault =
    ap (λ (l : List ℕ). let t : Transcript = record { printed = l; fault = Some (done + 1, fault) } in t) (append-nil printed)

-- one text, then another
prints_both : (a b : List ℕ) (t : Transcript) → then_prints a (then_prints b t) ≡ then_prints (a ++ b) t
prints_both a b t = ap (λ (l : List ℕ). let u : Transcript = record t { printed = l } in u) (sym (append_assoc a b t.printed))

-- ---- the whole input, from what was read of it and what follows

-- what may follow: what is left, or nothing
abbrev Follows : Option (List ℕ) → List ℕ → Type 0
Follows left more = (left ≡ Some more) ⊎ (more ≡ [])

-- what holds of the bytes read with all that is left holds of the input
of_input : (input left : Option (List ℕ)) (taken : List ℕ) (t : Transcript) → Consumes input left taken →
    ((more : List ℕ) → left ≡ Some more → transcript (taken ++ more) ≡ t) → IfSome input (λ text. transcript text ≡ t)
of_input input left taken t c h = grind arith

-- what holds of the bytes read with all that may follow holds of them alone, and of the input
of_all : (input left : Option (List ℕ)) (taken : List ℕ) (t : Transcript) → Consumes input left taken →
    ((more : List ℕ) → Follows left more → transcript (taken ++ more) ≡ t) →
    (transcript taken ≡ t) × IfSome input (λ text. transcript text ≡ t)
of_all input left taken t c h =
    (ap transcript (sym (append-nil taken)) ∙ h [] (inr refl), of_input input left taken t c (λ (more : List ℕ) e. h more (inl e)))

-- at the end nothing follows
none_after : (left : Option (List ℕ)) (more : List ℕ) → IsAtEnd left → Follows left more → more ≡ []
none_after left more at_end h = grind arith

-- a line may follow
line_left : (done : ℕ) → done < 1048576 → 1048576 - done ≡ suc (1048576 - (done + 1))
line_left done h = omega arith

-- ---- on the way

-- nothing is done yet
pub opens : (input held : Option (List ℕ)) → ReplayUnderWay input held 0 [] input [] held None
unfolding transcript
opens input held = record {
  whole = [];
  written = [];
  reads = Consumes-nil input;
  writes = Appends-nil held;
  lines = refl;
  prints = λ more. refl;
}

module _ {input held left holds : Option (List ℕ)} {done : ℕ} {pending printed : List ℕ} {play : Option ReplayState}
    (way : ReplayUnderWay input held done pending left printed holds play) where
  -- what follows after so many lines
  abbrev rest : List ℕ → Transcript
  rest bytes = transcript_from (1048576 - done) done play bytes

  -- all bytes that were read
  abbrev taken : List ℕ
  taken = way.whole ++ pending

  -- all that was printed
  abbrev all_printed : List ℕ
  all_printed = way.written ++ printed

  -- the same bytes in other places
  pub same : (pending_after printed_after : List ℕ) → pending_after ≡ pending → printed_after ≡ printed →
      ReplayUnderWay input held done pending_after left printed_after holds play
  same pending_after printed_after a b = grind arith

  -- more is read
  pub reads_on : (left_after : Option (List ℕ)) (pending_after : List ℕ) (count : ℕ) →
      ReadsOn left left_after pending pending_after count → ReplayUnderWay input held done pending_after left_after printed holds play
  reads_on left_after pending_after count reads = grind (arith, common_steps)

  -- what was printed is written
  pub writes_out : (holds_after : Option (List ℕ)) → Appends holds holds_after printed →
      ReplayUnderWay input held done pending left [] holds_after play
  writes_out holds_after writes = record {
    whole = way.whole;
    written = all_printed;
    reads = way.reads;
    writes = Appends-trans held holds holds_after way.written printed way.writes writes;
    lines = way.lines;
    prints = λ (more : List ℕ). way.prints more ∙ ap (λ (l : List ℕ). then_prints l (rest more)) (sym (append-nil all_printed));
  }

  -- ---- what was printed so far

  -- it is what the bytes read print at least
  prints_front : IsFront all_printed (transcript taken).printed
  prints_front = ((rest pending).printed, ap (λ (t : Transcript). t.printed) (way.prints pending))

  -- it is what the lines done print, and they have no fault
  before : PrintsBefore taken (done + 1) all_printed
  before =
      let so : transcript way.whole ≡ then_prints all_printed (rest []) =
      ap transcript (sym (append-nil way.whole)) ∙ way.prints [] in
      let silent = part_silent (1048576 - done) done play [] none_part in
      record {
        front = way.whole;
        others = pending;
        split = refl;
        lines = ap (λ (n : ℕ). n + 1) (sym way.lines);
        prints = sym (ap (λ (t : Transcript). t.printed) so ∙ ap (λ (l : List ℕ). all_printed ++ l) silent ∙ append-nil all_printed);
        sound = subst (λ (t : Transcript). MayGoOn (done + 1) t.fault) (sym so) (none_sound (1048576 - done) done play);
      }

  -- no line has a fault where a part of one is pending, if one may follow
  sound_so : front_of pending ≡ Part → (done < 1048576) ⊎ (pending ≡ []) → MayGoOn (done + 1) (rest pending).fault
  sound_so front (inl less) =
      subst (λ (n : ℕ). MayGoOn (done + 1) (transcript_from n done play pending).fault) (sym (line_left done less))
      (part_sound (1048576 - (done + 1)) done play pending front)
  sound_so front (inr e) =
      subst (λ (l : List ℕ). MayGoOn (done + 1) (rest l).fault) (sym e) (none_sound (1048576 - done) done play)

  -- what a read that fails says holds before each read
  reads_next : front_of pending ≡ Part → (done < 1048576) ⊎ (pending ≡ []) → EndsWhole input taken all_printed (done + 1) ReadFailed
  reads_next front how =
      let silent = part_silent (1048576 - done) done play pending front in
      let lines : count_by is_newline taken ≡ count_by is_newline way.whole + count_by is_newline pending =
      sum_by-append _ way.whole pending in (
        sym (ap (λ (t : Transcript). t.printed) (way.prints pending)
            ∙ ap (λ (l : List ℕ). all_printed ++ l) silent ∙ append-nil all_printed),
        omega (arith, way.lines, lines, part_lines pending front),
        subst (λ (t : Transcript). MayGoOn (done + 1) t.fault) (sym (way.prints pending)) (sound_so front how),
      )

  -- ---- where a fault ends it

  -- a fault of the schedule, by the text that follows
  stops_by : (fault : Fault) → is_own fault ≡ true →
      ((more : List ℕ) → Follows left more → rest (pending ++ more) ≡ stops done fault) →
      Stops input held left printed holds done fault
  stops_by fault own is = record {
    taken = taken;
    written = way.written;
    reads = way.reads;
    writes = way.writes;
    within = prints_front;
    ends = ends_whole input taken all_printed (done + 1) fault (ends_by_own input taken all_printed (done + 1) fault own
        (of_all input left taken _ way.reads (λ (more : List ℕ) e.
        ap transcript (append_assoc way.whole pending more) ∙ way.prints (pending ++ more)
        ∙ ap (then_prints all_printed) (is more e) ∙ prints_nothing all_printed done fault)));
    spent = λ e. let not_own : false ≡ true = ap is_own (sym e) ∙ own in cc;
  }

  -- the same where the text that follows makes no difference
  stops_before : (fault : Fault) → is_own fault ≡ true → done < 1048576 →
      ((more : List ℕ) → transcript_from (suc (1048576 - (done + 1))) done play (pending ++ more) ≡ stops done fault) →
      Stops input held left printed holds done fault
  stops_before fault own less is = stops_by fault own (λ (more : List ℕ) e.
      ap (λ (n : ℕ). transcript_from n done play (pending ++ more)) (line_left done less) ∙ is more)

  -- a line that is too long
  pub too_long : done < 1048576 → front_of pending ≡ TooLong → Stops input held left printed holds done LineTooLong
  too_long less front = grind (arith, common_steps, stops_before, long_fault, too_long_stays)

  -- bytes with no line that may follow
  some_left : (fault : Fault) (p : Option ReplayState) (bytes : List ℕ) → 0 < length bytes → ends_or done p fault bytes ≡ stops done fault
  some_left fault p bytes some = grind arith

  -- at the end of the input only what is pending is left
  at_end : (more : List ℕ) → IsAtEnd left → Follows left more → pending ++ more ≡ pending
  at_end more end e = ap (λ (l : List ℕ). pending ++ l) (none_after left more end e) ∙ append-nil pending

  -- the end of the input inside a line
  pub cut_off : done < 1048576 → front_of pending ≡ Part → 0 < length pending → IsAtEnd left →
      Stops input held left printed holds done CutOff
  cut_off less front some end =
      stops_by CutOff refl (λ (more : List ℕ) e.
      ap rest (at_end more end e)
      ∙ ap (λ (n : ℕ). transcript_from n done play pending) (line_left done less)
      ∙ part_ends (1048576 - (done + 1)) done play pending front ∙ some_left CutOff play pending some)

  -- one line more than there may be
  pub too_many : done ≡ 1048576 → 0 < length pending → Stops input held left printed holds done TooManyLines
  too_many all some = grind (arith, common_steps, stops_by, transcript_from, lines_spent, some_left, length-append)

  -- the end of the input
  all_read : (more : List ℕ) → pending ≡ [] → IsAtEnd left → Follows left more → rest (pending ++ more) ≡ ends done play
  all_read more none end e = ap rest (at_end more end e ∙ none) ∙ none_left (1048576 - done) done play

  -- the end of the input where no configuration came
  pub no_config : pending ≡ [] → IsAtEnd left → play ≡ None → Stops input held left printed holds done ConfigExpected
  no_config none end without =
      stops_by ConfigExpected refl (λ (more : List ℕ) e. all_read more none end e ∙ ap (ends done) without)

  -- with a play the end of the input is no fault
  ends_well : (p : Option ReplayState) → IsSome p → ends done p ≡ record { printed = []; fault = None }
  ends_well p some = grind arith

  -- the end of the input, where all was done and written
  all_written : pending ≡ [] → printed ≡ [] → IsAtEnd left → IsSome play → Replayed input left held holds (Ok tt)
  all_written none all end some = record {
    taken = taken;
    written = way.written;
    reads = way.reads;
    writes = way.writes;
    ends = of_all input left taken _ way.reads (λ (more : List ℕ) e.
        ap transcript (append_assoc way.whole pending more) ∙ way.prints (pending ++ more)
        ∙ ap (then_prints all_printed) (all_read more none end e ∙ ends_well play some)
        ∙ ap (λ (l : List ℕ). let t : Transcript = record { printed = l; fault = None } in t)
        (append-nil all_printed ∙ ap (λ (l : List ℕ). way.written ++ l) all ∙ append-nil way.written));
  }

  -- the same, where what was printed is still to be written
  pub all_done : pending ≡ [] → IsAtEnd left → IsSome play → AllDone input held left printed holds done
  all_done none end some = record { play = play; way = same [] printed (sym none) refl; at_end = end; begun = some }

  -- the end of the input, by whether there was a configuration
  pub lines_end : (outcome : Result (Unit {0}) Fault) → pending ≡ [] → IsAtEnd left → OnOk outcome (IsSome play) →
      IfErr outcome (λ fault. (fault ≡ ConfigExpected) × (play ≡ None)) → LinesEnd input held left printed holds done outcome
  lines_end outcome none end some without = grind (arith, common_steps, all_done, no_config)

  -- a read that failed
  pub read_failed : (left_after : Option (List ℕ)) → front_of pending ≡ Part → (done < 1048576) ⊎ (pending ≡ []) →
      Keeps left left_after → Stops input held left_after printed holds done ReadFailed
  read_failed left_after front how kept = record {
    taken = taken;
    written = way.written;
    reads = Consumes-kept input left left_after taken way.reads kept;
    writes = way.writes;
    within = prints_front;
    ends = reads_next front how;
    spent = λ e. cc;
  }

  -- what a write that failed has written is the first of what was printed
  written_front : (n : ℕ) → IsFront ((way.written ++ take n printed) ++ []) all_printed
  written_front n =
      subst (λ (l : List ℕ). IsFront l all_printed) (sym (append-nil (way.written ++ take n printed)))
      (front_behind way.written (take n printed) printed (front_taken n printed))

  -- a write that failed, at whatever line, by what it says of this
  stops_writing : (holds_after : Option (List ℕ)) (at : ℕ) (part : AppendsPart holds holds_after printed) →
      EndsBy input taken ((way.written ++ take part.0 printed) ++ []) (at + 1) WriteFailed →
      Stops input held left [] holds_after at WriteFailed
  stops_writing holds_after at part is = grind (arith, common_steps)

  -- a write that failed before a read
  pub write_failed : (holds_after : Option (List ℕ)) → front_of pending ≡ Part → (done < 1048576) ⊎ (pending ≡ []) →
      AppendsPart holds holds_after printed → Stops input held left [] holds_after done WriteFailed
  write_failed holds_after front how part = stops_writing holds_after done part (
    front_of_front _ _ _ (written_front part.0) prints_front,
    inl record { fault = ReadFailed; printed = all_printed; ends = reads_next front how; part = written_front part.0 },
  )

  -- a write that failed of what the last line filled a block with
  pub write_filled : (holds_after : Option (List ℕ)) (at : ℕ) → done ≡ at + 1 → 65536 ≤ length printed →
      AppendsPart holds holds_after printed → Stops input held left [] holds_after at WriteFailed
  write_filled holds_after at is full part = stops_writing holds_after at part (
    front_of_front _ _ _ (written_front part.0) prints_front,
    inr record {
      before = way.written;
      block = printed;
      some = take part.0 printed;
      prints = subst (λ (n : ℕ). PrintsBefore taken (n + 1) all_printed) is before;
      full = full;
      part = front_taken part.0 printed;
      writes = append-nil (way.written ++ take part.0 printed);
    },
  )

  -- memory that was refused for the next line
  pub out_of_memory : Stops input held left printed holds done (Refused NoMemory)
  out_of_memory = grind (arith, common_steps, prints_front, ends, before)

  -- ---- a line

  module _ (n : ℕ) (less : done < 1048576) (front : front_of pending ≡ WholeLine n) where
    -- the line with its newline
    abbrev first : List ℕ
    first = take (n + 1) pending

    -- the line stays the same where more follows
    first_line : (more : List ℕ) → take n (pending ++ more) ≡ take n pending
    first_line more = take-append-le n pending more (omega (arith, line_within pending n front))

    -- a line that isn't understood
    pub bad_line : (fault : Fault) → parsed (take n pending) (tasks_of play) ≡ Err fault → Stops input held left printed holds done fault
    bad_line fault e =
        stops_before fault (fault_of_parsed (take n pending) (tasks_of play) fault e) less (λ (more : List ℕ).
        line_fault (1048576 - (done + 1)) done play (pending ++ more) n (line_stays pending more n front) fault
        (ap (λ (l : List ℕ). parsed l (tasks_of play)) (first_line more) ∙ e))

    module _ (line : Line) (is : parsed (take n pending) (tasks_of play) ≡ Ok line) where
      -- a line that is understood and refused
      pub refused_line : (fault : Fault) → (line_effect play line).fault ≡ Some fault → Stops input held left printed holds done fault
      refused_line fault e =
          stops_before fault (fault_of_effect play line fault e).1 less (λ (more : List ℕ).
          effect_fault (1048576 - (done + 1)) done play (pending ++ more) n (line_stays pending more n front) line fault
          (ap (λ (l : List ℕ). parsed l (tasks_of play)) (first_line more) ∙ is) e)

      -- as a line that is understood may fail
      pub failed_line : (fault : Fault) (printed_after : List ℕ) →
          (fault ≡ Refused NoMemory) ⊎ ((line_effect play line).fault ≡ Some fault) → printed_after ≡ printed →
          Stops input held left printed_after holds done fault
      failed_line fault printed_after how kept =
          subst (λ (l : List ℕ). Stops input held left l holds done fault) (sym kept) (by how)
        where
          by : (fault ≡ Refused NoMemory) ⊎ ((line_effect play line).fault ≡ Some fault) → Stops input held left printed holds done fault
          by (inl h) = subst (λ (f : Fault). Stops input held left printed holds done f) (sym h) out_of_memory
          by (inr h) = refused_line fault h

      -- how long the line is with its newline
      length_first : length first ≡ n + 1
      length_first = omega (arith, length-take (n + 1) pending, line_within pending n front)

      -- the line is alone with its newline
      alone : (more : List ℕ) → take n (first ++ more) ≡ take n pending
      alone more = grind (arith, common_steps, take-append-le, length_first, take-take)

      -- what follows the line
      behind : (more : List ℕ) → drop (n + 1) (first ++ more) ≡ more
      behind more = grind (arith, common_steps, drop-append-le, length_first, drop, take, drop-take)

      -- what the line does, and then what follows it
      prints_line : (more : List ℕ) → (line_effect play line).fault ≡ None →
          rest (first ++ more)
          ≡ then_prints (line_effect play line).printed
          (transcript_from (1048576 - (done + 1)) (done + 1) (line_effect play line).play more)
      prints_line more none =
          let e = line_effect play line in
          ap (λ (k : ℕ). transcript_from k done play (first ++ more)) (line_left done less)
          ∙ after_line (1048576 - (done + 1)) done play (first ++ more) n (line_stays first more n (line_alone pending n front)) line
          (ap (λ (l : List ℕ). parsed l (tasks_of play)) (alone more) ∙ is) none
          ∙ ap (λ (l : List ℕ). then_prints e.printed (transcript_from (1048576 - (done + 1)) (done + 1) e.play l)) (behind more)

      -- the line is done
      pub line_done : (pending_after printed_after : List ℕ) → pending_after ≡ drop (n + 1) pending →
          printed_after ≡ printed ++ (line_effect play line).printed → (line_effect play line).fault ≡ None →
          ReplayUnderWay input held (done + 1) pending_after left printed_after holds (line_effect play line).play
      line_done pending_after printed_after left_over more none =
          let e = line_effect play line in
          let whole : taken ≡ (way.whole ++ first) ++ pending_after =
          ap (λ (l : List ℕ). way.whole ++ l) (sym (take-append-drop (n + 1) pending) ∙ ap (λ (l : List ℕ). first ++ l) (sym left_over))
          ∙ sym (append_assoc way.whole first pending_after) in
          let all : count_by is_newline pending ≡ count_by is_newline first + count_by is_newline (drop (n + 1) pending) =
          ap (count_by is_newline) (sym (take-append-drop (n + 1) pending)) ∙ sum_by-append _ first (drop (n + 1) pending) in
          let sum : count_by is_newline (way.whole ++ first) ≡ count_by is_newline way.whole + count_by is_newline first =
          sum_by-append _ way.whole first in
          record {
            whole = way.whole ++ first;
            written = way.written;
            reads = subst (λ (l : List ℕ). Consumes input left l) whole way.reads;
            writes = way.writes;
            lines = omega (arith, way.lines, all, sum, one_line pending n front);
            prints = λ (after : List ℕ).
                ap transcript (append_assoc way.whole first after) ∙ way.prints (first ++ after)
                ∙ ap (then_prints all_printed) (prints_line after none)
                ∙ prints_both all_printed e.printed _
                ∙ ap (λ (l : List ℕ). then_prints l (transcript_from (1048576 - (done + 1)) (done + 1) e.play after))
                (append_assoc way.written printed e.printed ∙ ap (λ (l : List ℕ). way.written ++ l) (sym more));
          }

-- ---- what a read answers

-- a read of nothing leaves what is pending, at the end of the input
pub nothing_read : (r : Result ℕ Fault) (left left_after : Option (List ℕ)) (first pending pending_after : List ℕ) →
    IfOk r (ReadsOn left left_after pending pending_after) →
    IfOk r (λ (n : ℕ). n ≡ 0 → length pending < 65536 → IsAtEnd left_after) → pending ≡ first → front_of first ≡ Part →
    IfOk r (λ (n : ℕ). n ≡ 0 → (pending_after ≡ first) × IsAtEnd left_after)
nothing_read (Err fault) left left_after first pending pending_after grows end is front = tt
nothing_read (Ok n) left left_after first pending pending_after grows end is front = λ e. (
  grows.grown ∙ ap (λ (l : List ℕ). pending ++ l) (no_bytes grows.more (grows.counted ∙ e)) ∙ append-nil pending ∙ is,
  end e (omega (arith, ap length is, part_short first front)),
)
  where
    no_bytes : (l : List ℕ) → length l ≡ 0 → l ≡ []
    no_bytes [] h = refl
    no_bytes (x ∷ l) h = absurd (omega arith)

-- a failed call, whose only fault this is
pub fails_by : {A : Type 0} (r : Result A Fault) (K : Type 0) (P : Fault → Type 0) (fault : Fault) → IfErr r (λ f. f ≡ fault) →
    OnErr r K → (K → P fault) → IfErr r P
fails_by r K P fault is kept h = grind arith

-- ---- the end by a fault

-- all that was printed is written
ended : {input held left holds : Option (List ℕ)} {printed : List ℕ} {done : ℕ} {fault : Fault} →
    Stops input held left printed holds done fault → (holds_after : Option (List ℕ)) (answer : ReplayFault) →
    Appends holds holds_after printed → Reports answer fault → answer.line ≡ done + 1 → Replayed input left held holds_after (Err answer)
ended {input} {held} {left} {holds} {printed} {done} {fault} stop holds_after answer writes reports at = record {
  taken = stop.taken;
  written = stop.written ++ printed;
  reads = stop.reads;
  writes = Appends-trans held holds holds_after stop.written printed stop.writes writes;
  ends = (fault, reports, subst (λ (n : ℕ). EndsBy input stop.taken (stop.written ++ printed) n fault) (sym at) stop.ends);
}

-- a write that fails at the end of a replay
cut_short : (input : Option (List ℕ)) (bytes written all : List ℕ) (line : ℕ) (fault : Fault) → EndsBy input bytes all line fault →
    IsFront all (transcript bytes).printed → IsFront written all → (fault ≡ WriteFailed → written ≡ all) →
    EndsBy input bytes written line WriteFailed
cut_short input bytes written all line WriteFailed is within part same =
    subst (λ (l : List ℕ). EndsBy input bytes l line WriteFailed) (sym (same refl)) is
cut_short input bytes written all line fault is within part same =
    (front_of_front written all _ part within, inl record { fault = fault; printed = all; ends = is; part = part })

-- of nothing the first bytes are nothing
none_taken : (n : ℕ) (bytes : List ℕ) → bytes ≡ [] → take n bytes ≡ bytes
none_taken zero [] e = refl
none_taken (suc n) [] e = refl
none_taken zero (byte ∷ others) e = cc
none_taken (suc n) (byte ∷ others) e = cc

-- only the first of what was printed is written
ended_early : {input held left holds : Option (List ℕ)} {printed : List ℕ} {done : ℕ} {fault : Fault} →
    Stops input held left printed holds done fault → (holds_after : Option (List ℕ)) (answer : ReplayFault) →
    AppendsPart holds holds_after printed → Reports answer WriteFailed → answer.line ≡ done + 1 →
    Replayed input left held holds_after (Err answer)
ended_early {input} {held} {left} {holds} {printed} {done} {fault} stop holds_after answer part reports at =
    let some = stop.written ++ take part.0 printed in
    let short : EndsBy input stop.taken some (done + 1) WriteFailed =
    cut_short input stop.taken some (stop.written ++ printed) (done + 1) fault stop.ends stop.within
    (front_behind stop.written (take part.0 printed) printed (front_taken part.0 printed))
    (λ failed. ap (λ (l : List ℕ). stop.written ++ l) (none_taken part.0 printed (stop.spent failed))) in
    record {
      taken = stop.taken;
      written = some;
      reads = stop.reads;
      writes = Appends-trans held holds holds_after stop.written (take part.0 printed) stop.writes part.2;
      ends = (WriteFailed, reports, subst (λ (n : ℕ). EndsBy input stop.taken some n WriteFailed) (sym at) short);
    }

-- ---- the end, by how the lines have ended and by whether what they printed is written

-- all was done, and is written
pub ended_well : (input held left holds holds_after : Option (List ℕ)) (printed : List ℕ) (done : ℕ) (written outcome : Result (Unit {0}) Fault) →
    LinesEnd input held left printed holds done outcome → OnOk written (Appends holds holds_after printed) →
    result_and written outcome ≡ Ok tt → Replayed input left held holds_after (Ok tt)
ended_well input held left holds holds_after printed done (Ok x) (Ok y) end writes e =
    all_written (writes_out end.way holds_after writes) refl refl end.at_end end.begun
ended_well input held left holds holds_after printed done (Ok x) (Err fault) end writes e = cc
ended_well input held left holds holds_after printed done (Err failed) outcome end writes e = cc

-- what a fault says of another that is the same
same_fault : (P : Fault → Type 0) (a b : Fault) → ◌≡◌ {A = Result (Unit {0}) Fault} (Err a) (Err b) → P b → P a
same_fault P a b e h = let is : b ≡ a = cc in subst P is h

-- a fault ended the lines, or the writing
pub ended_by : (input held left holds holds_after : Option (List ℕ)) (printed : List ℕ) (done : ℕ) (written outcome : Result (Unit {0}) Fault)
    (fault : Fault) (answer : ReplayFault) → LinesEnd input held left printed holds done outcome →
    OnOk written (Appends holds holds_after printed) → OnErr written (AppendsPart holds holds_after printed) →
    IfErr written (λ failed. failed ≡ WriteFailed) → result_and written outcome ≡ Err fault → Reports answer fault → answer.line ≡ done + 1 →
    Replayed input left held holds_after (Err answer)
ended_by input held left holds holds_after printed done (Ok x) (Ok y) fault answer end writes part is e reports at = cc
ended_by input held left holds holds_after printed done (Ok x) (Err own) fault answer stop writes part is e reports at =
    ended stop holds_after answer writes (same_fault (Reports answer) own fault e reports) at
ended_by input held left holds holds_after printed done (Err failed) (Ok y) fault answer end writes part is e reports at =
    let failing : Reports answer WriteFailed = subst (Reports answer) is (same_fault (Reports answer) failed fault e reports) in
    ended (write_failed end.way holds_after none_part (inr refl) part) holds_after answer (Appends-nil holds_after) failing at
ended_by input held left holds holds_after printed done (Err failed) (Err own) fault answer stop writes part is e reports at =
    ended_early stop holds_after answer part (subst (Reports answer) is (same_fault (Reports answer) failed fault e reports)) at

-- no memory to begin with
pub never_begun : (input held : Option (List ℕ)) (answer : ReplayFault) → Reports answer (Refused NoMemory) → answer.line ≡ 1 →
    Replayed input input held held (Err answer)
unfolding transcript
never_begun input held answer reports at = record {
  taken = [];
  written = [];
  reads = Consumes-nil input;
  writes = Appends-nil held;
  ends = (
    Refused NoMemory,
    reports,
    (
      ((transcript []).printed, refl),
      record {
        front = [];
        others = [];
        split = refl;
        lines = at;
        prints = sym (ap (λ (t : Transcript). t.printed) (none_left 1048576 0 None));
        sound = subst (λ (n : ℕ). MayGoOn n (transcript []).fault) (sym at) (none_sound 1048576 0 None);
      },
    ),
  );
}

-- ---- whether there is a play

-- with a number of tasks there is one
pub has_play : (play : Option ReplayState) (tasks : ℕ) → Some tasks ≡ tasks_of play → IsSome play
has_play play tasks e = grind arith

-- with none there is none
pub no_play : (play : Option ReplayState) → ◌≡◌ {A = Option ℕ} None (tasks_of play) → play ≡ None
no_play play e = grind arith
