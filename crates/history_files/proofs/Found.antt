-- Where the line `history` stands, line by line.
use Rattle.std.proofs.Common.{List, None, Option, Some, ap, arith, bytes_eq, codes, drop, false, if◌then◌else◌, length, length-drop, refl, suc, take}
use Rattle.std.proofs.{Common.{true, zero, ℕ, ◌+◌, ◌-◌, ◌<◌, ◌∙◌, ◌≡◌, ◌≤◌}, lemmas.List.take_all}
use Rattle.schedule_lines.specs.{Lines.front_of, declared.lines.Front.{Front, TheVariants.{Line, Part, TooLong}}}
use Rattle.history_files.specs.{Files.history_from, declared.files.HistoryPlace.HistoryPlace}

-- all bytes from a place on
pub whole_rest : (at : ℕ) (bytes : List ℕ) → take (length bytes - at) (drop at bytes) ≡ drop at bytes
whole_rest at bytes = let rest = length-drop at bytes in take_all (length bytes - at) (drop at bytes) (omega (arith, rest))

-- one line less is left
one_less : (all done : ℕ) → done < all → all - done ≡ suc (all - (done + 1))
one_less all done less = omega (arith, less)

-- by what the bytes from a place on begin with
abbrev by_front : ℕ → ℕ → ℕ → List ℕ → Front → Option HistoryPlace
by_front more done at bytes front = elim front [
  | Line n ↦ (
      if bytes_eq (take n (drop at bytes)) (codes "history") then Some (record { before = at; behind = at + n + 1; number = done + 1 }) else
      history_from more (done + 1) (at + n + 1) bytes)
  | TooLong ↦ None
  | Part ↦ None
]

module _ (all done at : ℕ) (bytes : List ℕ) where
  of_front : (front : Front) → done < all → front_of (drop at bytes) ≡ front →
      history_from (all - done) done at bytes ≡ by_front (all - (done + 1)) done at bytes front
  unfolding history_from
  of_front front less e =
      ap (λ (left : ℕ). history_from left done at bytes) (one_less all done less) ∙ ap (by_front (all - (done + 1)) done at bytes) e

  pub is_there : (n : ℕ) → done < all → front_of (drop at bytes) ≡ Line n → bytes_eq (take n (drop at bytes)) (codes "history") ≡ true →
      history_from (all - done) done at bytes ≡ Some (record { before = at; behind = at + n + 1; number = done + 1 })
  is_there n less front e = of_front (Line n) less front ∙ (rw e refl)

  pub is_further : (n : ℕ) → done < all → front_of (drop at bytes) ≡ Line n → bytes_eq (take n (drop at bytes)) (codes "history") ≡ false →
      history_from (all - done) done at bytes ≡ history_from (all - (done + 1)) (done + 1) (at + n + 1) bytes
  is_further n less front e = of_front (Line n) less front ∙ (rw e refl)

  -- no line is whole there
  no_line : (front : Front) → ((n : ℕ) → front ≡ Line n → ⊥) → by_front (all - (done + 1)) done at bytes front ≡ None
  no_line (Line n) not = absurd (not n refl)
  no_line TooLong not = refl
  no_line Part not = refl

  pub is_cut_off : (front : Front) → done < all → front_of (drop at bytes) ≡ front → ((n : ℕ) → front ≡ Line n → ⊥) →
      history_from (all - done) done at bytes ≡ None
  is_cut_off front less e not = of_front front less e ∙ no_line front not

  -- or there are too many
  pub is_nowhere : all ≤ done → history_from (all - done) done at bytes ≡ None
  unfolding history_from
  is_nowhere full = let none : all - done ≡ zero = omega (arith, full) in ap (λ (left : ℕ). history_from left done at bytes) none
