-- The 0/1 numbers of a gate's view, and the words ahead of a sum.
use Rattle.finite_sums.{proofs.Totals.{total_changed_by, total_none, total_same}, specs.Sums.{total, update}}
use Rattle.std.proofs.Common.{ap, arith, if◌then◌else◌, inl, inr, nat_le, refl, suc, zero, ℕ, ◌+◌, ◌<◌, ◌≡◌, ◌≤◌, ◌⊎◌}
use Rattle.std.proofs.lemmas.{Bool.{Decides.eqb_tells, le-leb, lt-leb}, Grind.common_steps}
use Rattle.cpu_words.specs.{Sums.{ahead, lead}, Touches.{wrap_add, wrap_sub}, gate_counts.Gates.below}

-- what the number of `below` tells
pub below_tells : (i n : ℕ) → ((below i n ≡ 1) × (i < n)) ⊎ ((below i n ≡ 0) × (n ≤ i))
below_tells i zero = inr (refl, omega arith)
below_tells zero (suc n) = inl (refl, omega arith)
below_tells (suc i) (suc n) = elim (below_tells i n) [ inl h ↦ inl (h.0, omega (arith, h.1)) | inr h ↦ inr (h.0, omega (arith, h.1)) ]

-- it is 0 or 1
pub below_le : (i n : ℕ) → below i n ≤ 1
below_le i n = grind (arith, below_tells)

-- one place on it falls by 1 at most, and it never rises
pub below_step : (i n : ℕ) → (below (suc i) n ≤ below i n) × (below i n ≤ below (suc i) n + 1)
below_step i n = grind (arith, below_tells i n, below_tells (suc i) n)

pub below_first : (i n : ℕ) → below i n ≤ below 0 n
below_first i n = grind (arith, below_tells i n, below_tells 0 n)

pub one_more : (q i : ℕ) → (i ≡ q → ⊥) → below i (suc q) ≤ below i q
one_more q i ne = grind (arith, common_steps, below_tells, below_le)

pub ahead_none : (processors : ℕ) (count : ℕ → ℕ) → ahead processors count 0 ≡ total processors count
ahead_none processors count = total_same processors _ _ (λ q lq. rw (le-leb 0 q (omega arith)))

pub ahead_past : (processors k : ℕ) (count : ℕ → ℕ) → processors ≤ k → ahead processors count k ≡ 0
ahead_past processors k count h = total_none processors _ (λ q lq. rw (lt-leb k q (omega arith)))

-- the word read leaves the words ahead
pub ahead_step : (processors k : ℕ) (count : ℕ → ℕ) → k < processors →
    ahead processors count k ≡ count k + ahead processors count (suc k)
ahead_step zero k count h = absurd (omega arith)
ahead_step (suc n) k count h =
    elim (eqb_tells n k) [
      | inl e ↦
          let a : (if nat_le k n then count n else 0) ≡ count n = rw (le-leb k n (omega (arith, e.1))) in
          let b : (if nat_le (suc k) n then count n else 0) ≡ 0 = rw (lt-leb (suc k) n (omega (arith, e.1))) in
          let past : (k : ℕ) → n ≤ k → ahead n count k ≡ 0 = λ k. ahead_past n k count in
          omega (arith, a, b, ap count e.1, past k (omega (arith, e.1)), past (suc k) (omega (arith, e.1)))
      | inr e ↦
          let a : (if nat_le k n then count n else 0) ≡ count n = rw (le-leb k n (omega (arith, e.1, h))) in
          let b : (if nat_le (suc k) n then count n else 0) ≡ count n = rw (le-leb (suc k) n (omega (arith, e.1, h))) in
          omega (arith, a, b, ahead_step n k count (omega (arith, e.1, h)))
    ]

-- what a change of one word does to the words ahead of a sum: they change with it, if its reader is still to come there
pub ahead_changed : (processors k : ℕ) (count : ℕ → ℕ) (p c : ℕ) → p < processors →
    ((below k (suc p) ≡ 1) × (ahead processors (update count p c) k + count p ≡ ahead processors count k + c)) ⊎
    ((below k (suc p) ≡ 0) × (ahead processors (update count p c) k ≡ ahead processors count k))
ahead_changed processors k count p c lp =
    let e : ahead processors (update count p c) k + (if nat_le k p then count p else 0) ≡
    ahead processors count k + (if nat_le k p then c else 0) =
    total_changed_by (λ q n. if nat_le k q then n else 0) processors p count c lp in
    elim (below_tells k (suc p)) [
      | inl h ↦ inl (h.0, rw (le-leb k p (omega (arith, h.1))) at e)
      | inr h ↦ inr (h.0, omega (arith, rw (lt-leb k p (omega (arith, h.1))) at e))
    ]

-- an addition on processor p moves the lead up, where p is still to be read
pub lead_up : (processors k sum : ℕ) (count : ℕ → ℕ) (p : ℕ) → p < processors → lead processors count k sum ≤ 100000 →
    lead processors (update count p (wrap_add (count p) 1)) k sum + 0 ≡ lead processors count k sum + below k (suc p)
lead_up processors k sum count p lp small =
    elim (ahead_changed processors k count p (wrap_add (count p) 1) lp) [ inl e ↦ omega (arith, e) | inr e ↦ omega (arith, e) ]

-- a subtraction moves it down
pub lead_down : (processors k sum : ℕ) (count : ℕ → ℕ) (p : ℕ) → p < processors → below k (suc p) ≤ lead processors count k sum + 0 →
    lead processors (update count p (wrap_sub (count p) 1)) k sum + below k (suc p) ≡ lead processors count k sum + 0
lead_down processors k sum count p lp some =
    elim (ahead_changed processors k count p (wrap_sub (count p) 1) lp) [ inl e ↦ omega (arith, e) | inr e ↦ omega (arith, e) ]
