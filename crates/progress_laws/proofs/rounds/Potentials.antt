-- The potential: it falls with the steps, where the others don't rise; with the changes and the starts, if the steps don't rise; and with the tries.
use Rattle.progress_laws.proofs.Prelude.{ap, arith, eqb_tells, inl, inr, suc, total, total_le, zero, ℕ, ◌*◌, ◌+◌, ◌<◌, ◌∙◌, ◌≡◌, ◌≤◌}
use Rattle.std.proofs.{Common.◌-◌, Math.Nat.suc-mul}
use Rattle.progress_laws.specs.StepsLeft.{as_one}

mul_more : (a n k : ℕ) → a * k ≤ (a + n) * k
mul_more a zero k = let e : (a + zero) * k ≡ a * k = ap (λ z. z * k) (omega arith) in omega (arith, e)
mul_more a (suc n) k =
    let e : a + suc n ≡ suc (a + n) = omega arith in
    let f : (a + suc n) * k ≡ (a + n) * k + k = ap (λ z. z * k) e ∙ suc-mul (a + n) k in
    omega (arith, f, mul_more a n k)

pub mul_comm : (a b : ℕ) → a * b ≡ b * a
mul_comm a b = grind arith

pub mul_le : (a b k : ℕ) → a ≤ b → a * k ≤ b * k
mul_le a b k le =
    let e : a + (b - a) ≡ b = omega (arith, le) in
    omega (arith, mul_more a (b - a) k, ap (λ z. z * k) e)

-- a number and a rest below its unit
pub unit_falls : (u u' r d d' : ℕ) → u' < u → d' < r → u' * r + d' < u * r + d
unit_falls u u' r d d' lt small = omega (arith, suc-mul u' r, mul_le (suc u') u r (omega (arith, lt)), small)

module _ (r a a' k k' b b' d d' : ℕ) where
  pub steps_fall : a' < a → k' + b' ≤ k + b → d' ≤ d → as_one r a' k' b' d' < as_one r a k b d
  steps_fall h m l = omega (arith, h, mul_le (k' + b') (k + b) (r + 1) m, l)

  pub moves_fall : a' ≤ a → k' + b' < k + b → d' ≤ r → as_one r a' k' b' d' < as_one r a k b d
  moves_fall h m l = omega (arith, h, unit_falls (k + b) (k' + b') (r + 1) d d' m (omega (arith, l)))

  pub tries_fall : a' ≤ a → k' + b' ≤ k + b → d' < d → as_one r a' k' b' d' < as_one r a k b d
  tries_fall h m l = omega (arith, h, mul_le (k' + b') (k + b) (r + 1) m, l)

-- below that of the bounds
pub as_one_small : (r r' h m a k b d : ℕ) → r ≤ r' → a ≤ h → k + b ≤ m → d ≤ r → as_one r a k b d < h + (m + 1) * (r' + 1)
as_one_small r r' h m a k b d lr la lm ld =
    let x : ℕ = k + b in
    let u : x * (r + 1) ≤ x * (r' + 1) = omega (arith, mul_le (r + 1) (r' + 1) x (omega (arith, lr)), mul_comm x (r + 1), mul_comm x (r' + 1)) in
    omega (arith, la, u, suc-mul x (r' + 1), mul_le (suc x) (m + 1) (r' + 1) (omega (arith, lm)), ld, lr)

-- a sum with one term lower by so much, and none higher
pub total_lower_by : (n t by : ℕ) (f g : ℕ → ℕ) → t < n → ((x : ℕ) → x < n → (x ≡ t → ⊥) → g x ≤ f x) → g t + by ≤ f t → total n g + by ≤ total n f
total_lower_by zero t by f g lt others here = absurd (omega (arith, lt))
total_lower_by (suc n) t by f g lt others here =
    elim (eqb_tells n t) [
      | inl e ↦
          let a : total n g ≤ total n f = total_le n g f (λ x lx. others x (omega (arith, lx)) (λ q. omega (arith, lx, q, e.1))) in
          let p : g n ≡ g t = ap g e.1 in
          let q : f n ≡ f t = ap f e.1 in
          omega (arith, a, p, q, here)
      | inr e ↦
          let a : total n g + by ≤ total n f =
          total_lower_by n t by f g (omega (arith, lt, e.1)) (λ x lx ne. others x (omega (arith, lx)) ne) here in
          omega (arith, a, others n (omega arith) e.1)
    ]

pub total_lower : (n t : ℕ) (f g : ℕ → ℕ) → t < n → ((x : ℕ) → x < n → (x ≡ t → ⊥) → g x ≤ f x) → g t < f t → total n g < total n f
total_lower n t f g lt others here =
    let a : total n g + 1 ≤ total n f = total_lower_by n t 1 f g lt others (omega (arith, here)) in
    omega (arith, a)
