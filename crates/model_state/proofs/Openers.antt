-- How many tasks have a file open: those past the last task have none, so it is those of the list of all tasks' accesses.
use Rattle.std.proofs.{Common.{List, ap, arith, false, get_or, inl, inr, length, refl, suc, zero, ℕ, ◌≡◌, ◌≤◌}, lemmas.Bool.Decides.eqb_tells}
use Rattle.std.proofs.lemmas.List.{get_or_past}
use Rattle.{access_model.specs.States.{most_tasks, one_if, openers}, finite_sums.specs.Sums.total}
use Rattle.model_state.specs.{Shown.{nothing, opens_of}, declared.model.Accesses.Accesses}

-- a sum of values that are 0 from a bound on is that below the bound
pub total_to : (n k : ℕ) (f : ℕ → ℕ) → n ≤ k → ((x : ℕ) → n ≤ x → f x ≡ 0) → total n f ≡ total k f
total_to zero zero f le none = refl
total_to (suc n) zero f le none = absurd (omega (arith, le))
total_to n (suc k) f le none =
    elim (eqb_tells n (suc k)) [
      | inl h ↦ ap (λ x. total x f) h.1
      | inr h ↦
          let below : n ≤ k = omega (arith, le, h.1) in
          let earlier = total_to n k f below none in
          let last = none k below in
          omega (arith, earlier, last)
    ]

-- the tasks of the list that have a file open are all that have it open
pub openers_in : (all : List Accesses) (n : ℕ) → length all ≤ 64 → total (length all) (λ t. one_if (opens_of all t n)) ≡ openers (opens_of all) n
unfolding most_tasks
openers_in all n few =
    total_to (length all) 64 (λ t. one_if (opens_of all t n)) few
    (λ t past. ap (λ (a : Accesses). one_if (get_or a.files n false)) (get_or_past all t nothing past))
