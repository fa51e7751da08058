-- How writers of levels stand with them: none is on the fast path, and who has closed a level has closed each one below it.
use Rattle.gate_schedules.proofs.Prelude.{arith, cases_Bool, inl, inr, ltb-false, nat_lt, true, ℕ, ◌<◌, ◌≡◌}

pub below : (i n : ℕ) → i < n → nat_lt i n ≡ true
below i n lt = elim (cases_Bool (nat_lt i n)) [ inl h ↦ h | inr h ↦ absurd (omega (arith, lt, ltb-false i n h)) ]
