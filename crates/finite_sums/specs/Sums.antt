-- Functions with one place changed, and sums of the values below a bound.
use Rattle.std.specs.Prelude.{ℕ, zero, suc, ◌+◌, true, false, ◌==◌}

-- f with v at t
abbrev pub update : {A : Type 0} → (ℕ → A) → ℕ → A → ℕ → A
update f t v x = elim (x == t) [ true ↦ v | false ↦ f x ]

-- f 0 + .. + f (n - 1)
abbrev pub total : ℕ → (ℕ → ℕ) → ℕ
total zero f = 0
total (suc n) f = total n f + f n
