-- sums below a bound, where one place changes
use Rattle.std.proofs.Common.{◌≡◌, ℕ, zero, suc, ◌+◌, ◌*◌, ◌%◌, ◌<◌, ◌≤◌, refl, sym, ap, ◌∙◌, subst, inl, inr, arith}
use Rattle.std.proofs.{lemmas.Bool.{eq-eqb, ne_eqb, Decides.{eqb_tells}}, Math.Path.{fun_ext}}
use Rattle.finite_sums.specs.Sums.{update, total}

pub update_at : {A : Type 0} (f : ℕ → A) (t : ℕ) (v : A) → update f t v t ≡ v
update_at f t v = rw (eq-eqb t t refl, update)

pub update_off : {A : Type 0} (f : ℕ → A) (t : ℕ) (v : A) (x : ℕ) → (x ≡ t → ⊥) → update f t v x ≡ f x
update_off f t v x h = rw (ne_eqb x t h, update)

-- the values of an updated function are an update of the values
pub update_map : {A B : Type 0} (g : A → B) (f : ℕ → A) (t : ℕ) (v : A) → (λ x. g (update f t v x)) ≡ update (λ x. g (f x)) t (g v)
update_map g f t v = fun_ext (λ x. elim (eqb_tells x t) [ inl h ↦ rw (h.0, update) | inr h ↦ rw (h.0, update) ])

-- an update to the value that is there changes nothing
pub update_same : {A : Type 0} (f : ℕ → A) (t : ℕ) → update f t (f t) ≡ f
update_same f t = fun_ext (λ x. elim (eqb_tells x t) [ inl h ↦ rw (h.0, update) (ap f (sym h.1)) | inr h ↦ rw (h.0, update) ])

-- what holds of the new value and of each other old one holds of each
pub each_updated : {A : Type 0} (P : ℕ → A → Type 0) (f : ℕ → A) (t : ℕ) (v : A) (x : ℕ) → P t v → ((x ≡ t → ⊥) → P x (f x)) →
    P x (update f t v x)
each_updated P f t v x here there =
    elim (eqb_tells x t) [
      | inl h ↦ rw (h.0, update) (subst (λ y. P y v) (sym h.1) here)
      | inr h ↦ rw (h.0, update) (there h.1)
    ]

pub total_same : (n : ℕ) (f g : ℕ → ℕ) → ((x : ℕ) → x < n → f x ≡ g x) → total n f ≡ total n g
total_same zero f g h = refl
total_same (suc n) f g h = omega (arith, total_same n f g (λ x lt. h x (omega arith)), h n (omega arith))

-- a sum with one place changed, where what is summed may read the place too
pub total_changed_by : {A : Type 0} (f : ℕ → A → ℕ) (n t : ℕ) (at : ℕ → A) (v : A) → t < n →
    total n (λ x. f x (update at t v x)) + f t (at t) ≡ total n (λ x. f x (at x)) + f t v
total_changed_by f zero t at v lt = absurd (omega arith)
total_changed_by f (suc n) t at v lt =
    elim (eqb_tells n t) [
      | inl h ↦
          let e : total n (λ x. f x (update at t v x)) ≡ total n (λ x. f x (at x)) =
          total_same n _ _ (λ x l. ap (f x) (update_off at t v x (λ q. absurd (omega arith)))) in
          let e2 : f n (update at t v n) ≡ f n v = rw (h.0, update) in
          let e3 : f n (at n) ≡ f t (at t) = ap (λ y. f y (at y)) h.1 in
          let e4 : f n v ≡ f t v = ap (λ y. f y v) h.1 in
          omega arith
      | inr h ↦
          let e : total n (λ x. f x (update at t v x)) + f t (at t) ≡ total n (λ x. f x (at x)) + f t v =
          total_changed_by f n t at v (omega arith) in
          let e2 : f n (update at t v n) ≡ f n (at n) = rw (h.0, update) in
          omega arith
    ]

pub total_updated : {A : Type 0} (f : A → ℕ) (n t : ℕ) (at : ℕ → A) (v : A) → t < n →
    total n (λ x. f (update at t v x)) + f (at t) ≡ total n (λ x. f (at x)) + f v
total_updated f n t at v lt = total_changed_by (λ x. f) n t at v lt

pub total_le : (n : ℕ) (f g : ℕ → ℕ) → ((x : ℕ) → x < n → f x ≤ g x) → total n f ≤ total n g
total_le zero f g h = omega arith
total_le (suc n) f g h = omega (arith, total_le n f g (λ x lt. h x (omega arith)), h n (omega arith))

pub total_bound : (n c : ℕ) (f : ℕ → ℕ) → ((x : ℕ) → x < n → f x ≤ c) → total n f ≤ n * c
total_bound zero c f h = omega arith
total_bound (suc n) c f h = omega (arith, total_bound n c f (λ x lt. h x (omega arith)), h n (omega arith))

pub total_add : (n : ℕ) (f g : ℕ → ℕ) → total n (λ x. f x + g x) ≡ total n f + total n g
total_add zero f g = omega arith
total_add (suc n) f g = omega (arith, total_add n f g)

pub total_zero : (n : ℕ) → total n (λ x. 0) ≡ 0
total_zero zero = refl
total_zero (suc n) = omega (arith, total_zero n)

-- sums over two ranges may change places
pub total_swap : (n k : ℕ) (f : ℕ → ℕ → ℕ) → total n (λ x. total k (f x)) ≡ total k (λ y. total n (λ x. f x y))
total_swap zero k f = sym (total_zero k)
total_swap (suc n) k f = omega (arith, total_swap n k f, total_add k (λ y. total n (λ x. f x y)) (λ y. f n y))

-- one place of a sum is at most the sum
pub total_at : (n t : ℕ) (f : ℕ → ℕ) → t < n → f t ≤ total n f
total_at zero t f lt = absurd (omega arith)
total_at (suc n) t f lt =
    elim (eqb_tells n t) [
      | inl h ↦ let e : f n ≡ f t = ap f h.1 in omega arith
      | inr h ↦ omega (arith, total_at n t f (omega arith))
    ]

pub total_none : (n : ℕ) (f : ℕ → ℕ) → ((x : ℕ) → x < n → f x ≡ 0) → total n f ≡ 0
total_none n f h = total_same n f (λ x. 0) h ∙ total_zero n

-- an index below n with a value above 0
abbrev pub HasPlace : ℕ → (ℕ → ℕ) → Type 0
HasPlace n f = (y : ℕ) × (y < n) × (f y ≡ 0 → ⊥)

-- a sum that is not 0 has one
pub total_place : (n : ℕ) (f : ℕ → ℕ) → (total n f ≡ 0 → ⊥) → HasPlace n f
total_place zero f some = absurd (some refl)
total_place (suc n) f some =
    elim (eqb_tells (f n) 0) [
      | inl h ↦
          let k : HasPlace n f = total_place n f (λ z. some (omega (arith, z, h.1))) in
          (k.0, omega (arith, k.1), k.2)
      | inr h ↦ (n, omega arith, h.1)
    ]

-- equal residues word by word give equal residues of the sums
pub residues : (n : ℕ) (c a b : ℕ → ℕ) → ((p : ℕ) → p < n → (c p + a p) % 18446744073709551616 ≡ b p % 18446744073709551616) →
    (total n c + total n a) % 18446744073709551616 ≡ total n b % 18446744073709551616
residues zero c a b h = refl
residues (suc n) c a b h = omega (arith, residues n c a b (λ p lt. h p (omega arith)), h n (omega arith))
