-- The numbers stay dealt to the seats.
use Rattle.gate_steps.proofs.Prelude.{Dealt, DealtNumbers, HaveViews, List, Numbered, View, [], ap, arith, at_set, dite, get_elem?, numbered, refl}
use Rattle.gate_steps.proofs.Prelude.{set, some, some-injective, some-ne-none, subst, suc, sym, times, zero, ℕ, ⊎_elim, ◌++◌, ◌+◌, ◌<◌, ◌∙◌, ◌∷◌, ◌≡◌}
use Rattle.gate_steps.proofs.Prelude.{◌≤◌}
use Rattle.std.proofs.Common.{eq-eqb, eqb, ne_eqb, ◌≢◌}
use Rattle.gate_steps.specs.Seating.{one_if, times_all}
use native.Mathlib.Decide.{dec_lt}

pub one_if-same : (n : ℕ) → one_if (eqb n n) ≡ 1
one_if-same n = ap one_if (eq-eqb n n refl)

pub one_if-other : (m n : ℕ) → m ≢ n → one_if (eqb m n) ≡ 0
one_if-other m n ne = ap one_if (ne_eqb m n ne)

-- a number that stands in a list is counted there
pub times-at : (l : DealtNumbers) (k : ℕ) (x : Numbered) → get_elem? l k ≡ some x → 1 ≤ times x.number l
times-at [] k x e = absurd (some-ne-none x (sym e))
times-at (y ∷ ys) zero x e = let same : one_if (eqb y.number x.number) ≡ 1 =
    ap (λ (z : Numbered). one_if (eqb z.number x.number)) (some-injective y x e) ∙ one_if-same x.number in omega arith
times-at (y ∷ ys) (suc k) x e = let r = times-at ys k x e in omega arith

pub times-append : (n : ℕ) (l m : DealtNumbers) → times n (l ++ m) ≡ times n l + times n m
times-append n [] m = omega arith
times-append n (x ∷ xs) m = let r = times-append n xs m in omega arith

pub times_all-set : (n : ℕ) (ls : List DealtNumbers) (i : ℕ) (l m : DealtNumbers) → get_elem? ls i ≡ some l →
    times_all n (set ls i m) + times n l ≡ times_all n ls + times n m
times_all-set n [] i l m e = absurd (some-ne-none l (sym e))
times_all-set n (y ∷ ys) zero l m e = let same : times n y ≡ times n l = ap (times n) (some-injective y l e) in omega arith
times_all-set n (y ∷ ys) (suc i) l m e = let r = times_all-set n ys i l m e in omega arith

pub times_all-one : (n : ℕ) (ls : List DealtNumbers) (i : ℕ) (l : DealtNumbers) → get_elem? ls i ≡ some l → times n l ≤ times_all n ls
times_all-one n [] i l e = absurd (some-ne-none l (sym e))
times_all-one n (y ∷ ys) zero l e = let same : times n y ≡ times n l = ap (times n) (some-injective y l e) in omega arith
times_all-one n (y ∷ ys) (suc i) l e = let r = times_all-one n ys i l e in omega arith

pub times_all-two : (n : ℕ) (ls : List DealtNumbers) (i j : ℕ) (l m : DealtNumbers) → i ≢ j → get_elem? ls i ≡ some l → get_elem? ls j ≡ some m →
    times n l + times n m ≤ times_all n ls
times_all-two n [] i j l m ne e f = absurd (some-ne-none l (sym e))
times_all-two n (y ∷ ys) zero zero l m ne e f = absurd (ne refl)
times_all-two n (y ∷ ys) zero (suc j) l m ne e f = let same : times n y ≡ times n l = ap (times n) (some-injective y l e) in let r =
    times_all-one n ys j m f in omega arith
times_all-two n (y ∷ ys) (suc i) zero l m ne e f = let same : times n y ≡ times n m = ap (times n) (some-injective y m f) in let r =
    times_all-one n ys i l e in omega arith
times_all-two n (y ∷ ys) (suc i) (suc j) l m ne e f = let same = times_all-two n ys i j l m (λ q. ne (ap suc q)) e f in omega arith

pub times_all-snoc : (n : ℕ) (ls : List DealtNumbers) (l : DealtNumbers) → times_all n (ls ++ l ∷ []) ≡ times_all n ls + times n l
times_all-snoc n [] l = omega arith
times_all-snoc n (y ∷ ys) l = let r = times_all-snoc n ys l in omega arith

module _ (tasks : ℕ) (views : ℕ → View) (seats : List DealtNumbers) (dealt : Dealt tasks views seats) where
  -- a number that stands somewhere is counted once, and is a task's
  pub known : (n : ℕ) → 1 ≤ times_all n seats → (n < tasks) × (times_all n seats ≡ 1)
  known n some_there = dite (dec_lt n tasks) (λ lt. (lt, dealt.once n lt))
      (λ ge. let e = dealt.no_other n (omega arith) in absurd (omega arith))

  module _ (id : ℕ) (l : DealtNumbers) (at : get_elem? seats id ≡ some l) where
    pub known_here : (n : ℕ) → 1 ≤ times n l → n < tasks
    known_here n here = let one = times_all-one n seats id l at in (known n (omega arith)).0

    -- what stands in another seat is another number
    pub apart : (n j k : ℕ) (m : DealtNumbers) (y : Numbered) → 1 ≤ times n l → j ≢ id → get_elem? seats j ≡ some m → get_elem? m k ≡ some y →
        y.number ≢ n
    apart n j k m y here ne e f q =
        let two = times_all-two n seats j id m l ne e at in
        let one = times_all-one n seats id l at in
        let o = known n (omega arith) in
        let there : 1 ≤ times n m = subst (λ z. 1 ≤ times z m) q (times-at m k y f) in
        let o' = o.1 in
        omega arith

    -- the number t, which stands in the first place of the seat id, gets the view w, and no other view changes
    module _ (t : ℕ) (v w : View) (rest : DealtNumbers) (is : l ≡ numbered t v ∷ rest) (new : ℕ → View) (mine : new t ≡ w)
        (others : (y : ℕ) → (y ≡ t → ⊥) → new y ≡ views y) where
      here : 1 ≤ times t l
      here = subst (λ z. 1 ≤ times t z) (sym is) (omega (arith, one_if-same t))

      few : times t (numbered t v ∷ rest) ≤ 1
      few =
          let all = times_all-one t seats id l at in
          let h = here in
          let o = (known t (omega arith)).1 in
          let f : times t l ≡ times t (numbered t v ∷ rest) = ap (times t) is in
          omega arith

      -- so the seat has these views
      pub inside : HaveViews new (numbered t w ∷ rest)
      inside zero y f = subst (λ (z : Numbered). new z.number ≡ z.view) (some-injective (numbered t w) y f) mine
      inside (suc k) y f =
          let there = times-at rest k y f in
          let ne : y.number ≡ t → ⊥ = λ q. let t' : 1 ≤ times t rest = subst (λ z. 1 ≤ times z rest) q there in
          omega (arith, one_if-same t, few) in
          others y.number ne ∙ dealt.same id (numbered t v ∷ rest) (at ∙ ap some is) (suc k) y f

      same_count : (n : ℕ) → times_all n (set seats id (numbered t w ∷ rest)) ≡ times_all n seats
      same_count n =
          let e = times_all-set n seats id l (numbered t w ∷ rest) at in
          let f : times n l ≡ times n (numbered t w ∷ rest) = ap (times n) is in
          omega arith

      pub redealt : Dealt tasks new (set seats id (numbered t w ∷ rest))
      redealt = record {
        once = λ n lt. same_count n ∙ dealt.once n lt;
        no_other = λ n ge. same_count n ∙ dealt.no_other n ge;
        same = λ j m e k y f. ⊎_elim
            (λ q. inside k y (subst (λ z. get_elem? z k ≡ some y) (sym q.1) f))
            (λ q. others y.number (apart t j k m y here q.0 q.1 f) ∙ dealt.same j m q.1 k y f)
            (at_set seats id j (numbered t w ∷ rest) m e);
      }
