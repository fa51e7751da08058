-- The lines of a text, by what it begins with.
use Rattle.std.proofs.Common.{List, None, Some, [], ap, arith, drop, false, length, refl, suc, sym, take, zero, ℕ, ◌+◌, ◌-◌, ◌<◌, ◌∙◌, ◌∷◌, ◌≡◌, ◌≤◌}
use Rattle.std.specs.Bool.{◌==◌}
use Rattle.schedule_lines.specs.{Lines.front_of, declared.{faults.Fault.{Fault, TheVariants.{CutOff, LineTooLong, TooManyLines}}, lines.Front.Front}}
use Rattle.schedule_lines.specs.declared.lines.Front.TheVariants.{Line as WholeLine, Part, TooLong}
use Rattle.race_files.specs.Left.{Left, behind, line_before, lines_in, none_left, part_left}

-- a line may follow
may_follow : (done : ℕ) → done < 1048576 → 1048576 - done ≡ suc (1048576 - (done + 1))
may_follow done h = omega arith

-- what a front makes of a text, where so many lines may follow its first
abbrev by_front : ℕ → List ℕ → Front → Left
by_front more bytes front = elim front [
  | WholeLine n ↦ line_before (take n bytes) (lines_in more (drop (n + 1) bytes))
  | TooLong ↦ none_left (Some LineTooLong)
  | Part ↦ part_left CutOff bytes
]

-- no bytes are a part
empty_front : front_of [] ≡ Part
unfolding front_of
empty_front = refl

-- so it is where a line may follow
pub of_front : (done : ℕ) (bytes : List ℕ) (front : Front) → done < 1048576 → front_of bytes ≡ front →
    lines_in (1048576 - done) bytes ≡ by_front (1048576 - (done + 1)) bytes front
unfolding lines_in
of_front done bytes front less e =
    ap (λ (n : ℕ). lines_in n bytes) (may_follow done less) ∙ ap (by_front (1048576 - (done + 1)) bytes) e

-- bytes of which none ends a line
pub some_part : (fault : Fault) (bytes : List ℕ) → 0 < length bytes → part_left fault bytes ≡ none_left (Some fault)
some_part fault [] some = absurd (omega arith)
some_part fault (byte ∷ others) some = refl

-- none may follow
pub too_many : (done : ℕ) (bytes : List ℕ) → 1048576 ≤ done → lines_in (1048576 - done) bytes ≡ part_left TooManyLines bytes
unfolding lines_in
too_many done bytes full = let none : 1048576 - done ≡ zero = omega arith in ap (λ (n : ℕ). lines_in n bytes) none

-- no bytes have no line
pub no_bytes : (n : ℕ) (bytes : List ℕ) → length bytes ≡ 0 → lines_in n bytes ≡ none_left None
unfolding lines_in
no_bytes zero [] e = refl
no_bytes (suc n) [] e = ap (by_front n []) empty_front
no_bytes n (byte ∷ others) e = absurd (omega arith)

-- a line before others is the first
pub first_of : (left others : Left) (line : List ℕ) → left ≡ line_before line others → left.lines ≡ line ∷ (behind left).lines
first_of left others line e =
    ap (λ (x : Left). x.lines) e ∙ ap (λ (x : Left). line ∷ (behind x).lines) (sym e)

-- where one is taken there are as many as before
pub one_taken : (done : ℕ) (left now : Left) (line : List ℕ) → left.lines ≡ line ∷ (behind left).lines → now ≡ behind left →
    (done + 1) + length now.lines ≡ done + length left.lines
one_taken done left now line first e =
    let n : length left.lines ≡ suc (length (behind left).lines) = ap length first in
    let m : length now.lines ≡ length (behind left).lines = ap (λ (x : Left). length x.lines) e in
    omega (arith, n, m)

-- a part has no line
pub part_lines : (fault : Fault) (bytes : List ℕ) → behind (part_left fault bytes) ≡ part_left fault bytes
part_lines fault [] = refl
part_lines fault (byte ∷ others) = refl

-- no line may follow
pub none_behind : (done : ℕ) (bytes : List ℕ) → 1048576 ≤ done → lines_in (1048576 - done) bytes ≡ behind (lines_in (1048576 - done) bytes)
none_behind done bytes full =
    let e = too_many done bytes full in
    e ∙ sym (part_lines TooManyLines bytes) ∙ sym (ap behind e)

-- or none does
pub front_behind : (done : ℕ) (bytes : List ℕ) (front : Front) → done < 1048576 → front_of bytes ≡ front →
    behind (by_front (1048576 - (done + 1)) bytes front) ≡ by_front (1048576 - (done + 1)) bytes front →
    lines_in (1048576 - done) bytes ≡ behind (lines_in (1048576 - done) bytes)
front_behind done bytes front less e same =
    let h = of_front done bytes front less e in
    h ∙ sym same ∙ sym (ap behind h)

-- a list is no other list behind its first
pub no_first : (left : Left) (line : List ℕ) → left ≡ behind left → left.lines ≡ line ∷ (behind left).lines → {A : Type 0} → A
no_first left line e h = absurd (longer left.lines line (h ∙ ap (λ (x : Left). line ∷ x.lines) (sym e)))
  where
    longer : (lines : List (List ℕ)) (line : List ℕ) → lines ≡ line ∷ lines → ⊥
    longer lines line e = let n : length lines ≡ length (line ∷ lines) = ap length e in omega arith

-- a text that is not empty
pub some_bytes : (bytes : List ℕ) → (length bytes == 0) ≡ false → 0 < length bytes
some_bytes [] e = cc
some_bytes (byte ∷ others) e = omega arith
