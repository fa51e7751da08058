-- A scheduler that steps one task until it stops, and one after the other.
use Rattle.progress_laws.proofs.Prelude.{Bool, Config, HookAnswer, IsGood, IsWithin, None, Option, Phase, Some, Steps, Words, World, after_step, ap}
use Rattle.progress_laws.proofs.Prelude.{arith, cases_Bool, false, happens, happens_is, inl, inr, refl, subst, suc, sym, true, true≢false, zero, ℕ}
use Rattle.progress_laws.proofs.Prelude.{◌+◌, ◌<◌, ◌∙◌, ◌≡◌, ◌≤◌, ◌⊎◌}
use Rattle.gate_schedules.{proofs.operations.deadlocks.FreezeProgress.{not_none, search_below}, specs.operations.Progress.HasReply}
use Rattle.progress_laws.{proofs.rounds.Settling.step_good, specs.FirstReply.ReplyOr}

module _ (c : Config) (lim : IsWithin c) (lost : ℕ → Bool) where
  pub no_nearer : (P : World → Type 0) (n m : ℕ) (w : World) → n ≤ m → ReplyOr c lost P n w → ReplyOr c lost P m w
  no_nearer P zero zero w le h = h
  no_nearer P zero (suc m) w le h = inl h
  no_nearer P (suc n) zero w le h = absurd (omega arith)
  no_nearer P (suc n) (suc m) w le (inl h) = inl h
  no_nearer P (suc n) (suc m) w le (inr s) = inr (
    s.0,
    s.1,
    s.2,
    s.3,
    λ hook. elim (s.4 hook) [
      | inl r ↦ inl r
      | inr h ↦ inr (no_nearer P n m (happens c w (Steps s.0 hook)) (omega arith) h)
    ],
  )

  -- one thing after the other
  pub and_then : (P Q : World → Type 0) (n m k : ℕ) (w : World) → n + m ≤ k → IsGood c w → ReplyOr c lost P n w →
      ((v : World) → IsGood c v → P v → ReplyOr c lost Q m v) → ReplyOr c lost Q k w
  and_then P Q zero m k w le good h goes = no_nearer Q m k w (omega arith) (goes w good h)
  and_then P Q (suc n) m zero w le good h goes = absurd (omega arith)
  and_then P Q (suc n) m (suc k) w le good (inl h) goes = no_nearer Q m (suc k) w (omega arith) (goes w good h)
  and_then P Q (suc n) m (suc k) w le good (inr s) goes = inr (
    s.0,
    s.1,
    s.2,
    s.3,
    λ hook. elim (s.4 hook) [
      | inl r ↦ inl r
      | inr h ↦
          inr (and_then P Q n m k (happens c w (Steps s.0 hook)) (omega arith)
          (subst (IsGood c) (sym (happens_is c w s.0 s.1 hook s.3.0 s.3.1)) (step_good c lim w good s.0 s.1 hook s.3.0 s.3.1)) h goes)
    ],
  )

  pub step_to : (P : World → Type 0) (n : ℕ) (w : World) (t : ℕ) → t < c.tasks → lost t ≡ false → (phase : Phase) → (w.views t).phase ≡ Some phase →
      ((hook : HookAnswer) → HasReply (after_step w t phase hook) t ⊎ ReplyOr c lost P n (after_step w t phase hook)) → ReplyOr c lost P (suc n) w
  step_to P n w t lt live phase at h = inr (
    t,
    lt,
    live,
    (phase, at),
    λ hook. subst (λ (v : World). HasReply v t ⊎ ReplyOr c lost P n v) (sym (happens_is c w t lt hook phase at)) (h hook),
  )

  -- One task alone, as long as it goes on: this holds of each state that it comes to, and its number falls.
  module _ (t : ℕ) (lt : t < c.tasks) (live : lost t ≡ false) (goes : Words → Phase → Bool) (left : Words → Phase → ℕ) (I : World → Type 0) where
    abbrev pub Stopped : World → Type 0
    Stopped v = I v × (q : Phase) × ((v.views t).phase ≡ Some q) × (goes v.words q ≡ false)

    abbrev pub Makes : World → Phase → HookAnswer → Type 0
    Makes w phase hook =
        HasReply (after_step w t phase hook) t ⊎
        ((q : Phase) × (((after_step w t phase hook).views t).phase ≡ Some q) × I (after_step w t phase hook) ×
        (goes (after_step w t phase hook).words q ≡ true → left (after_step w t phase hook).words q < left w.words phase))

    module _
        (some : (w : Words) (phase : Phase) → goes w phase ≡ true → 0 < left w phase)
        (makes : (w : World) → IsGood c w → (phase : Phase) → (w.views t).phase ≡ Some phase → goes w.words phase ≡ true → I w → (hook : HookAnswer) →
        Makes w phase hook) where
      pub runs : (n : ℕ) (w : World) → IsGood c w → (phase : Phase) → (w.views t).phase ≡ Some phase → I w →
          (goes w.words phase ≡ true → left w.words phase ≤ n) → ReplyOr c lost Stopped n w
      runs zero w good phase at i le =
          elim (cases_Bool (goes w.words phase)) [
            | inl g ↦ absurd (omega (arith, le g, some w.words phase g))
            | inr g ↦ (i, phase, at, g)
          ]
      runs (suc n) w good phase at i le =
          elim (cases_Bool (goes w.words phase)) [
            | inl g ↦
                step_to Stopped n w t lt live phase at (λ hook. elim (makes w good phase at g i hook) [
                  | inl r ↦ inl r
                  | inr s ↦
                      inr (runs n (after_step w t phase hook) (step_good c lim w good t lt hook phase at) s.0 s.1 s.2
                      (λ more. omega (arith, le g, s.3 more)))
                ])
            | inr g ↦ inl (i, phase, at, g)
          ]

  -- a task that goes on, or none does
  abbrev pub SomeGoes : (Words → Phase → Bool) → World → Type 0
  SomeGoes goes w = (t : ℕ) × (t < c.tasks) × (lost t ≡ false) × (phase : Phase) × ((w.views t).phase ≡ Some phase) × (goes w.words phase ≡ true)

  abbrev pub NoneGoes : (Words → Phase → Bool) → World → Type 0
  NoneGoes goes w = (t : ℕ) → t < c.tasks → lost t ≡ false → (phase : Phase) → (w.views t).phase ≡ Some phase → goes w.words phase ≡ false

  pub some_or_none : (goes : Words → Phase → Bool) (w : World) → SomeGoes goes w ⊎ NoneGoes goes w
  some_or_none goes w =
      elim (search_below c.tasks
      (λ t. (lost t ≡ false) × (phase : Phase) × ((w.views t).phase ≡ Some phase) × (goes w.words phase ≡ true))
      (λ t. lost t ≡ false → (phase : Phase) → (w.views t).phase ≡ Some phase → goes w.words phase ≡ false)
      (λ t lt. one t (w.views t).phase refl)) [
        | inl s ↦ inl (s.0, s.1, s.2.0, s.2.1, s.2.2, s.2.3)
        | inr all ↦ inr all
      ]
    where
      some_same : (p q : Phase) → Some p ≡ Some q → p ≡ q
      some_same p q e = ap (λ (o : Option Phase). elim o [ None ↦ p | Some x ↦ x ]) e

      one : (t : ℕ) (p : Option Phase) → (w.views t).phase ≡ p →
          ((lost t ≡ false) × (phase : Phase) × ((w.views t).phase ≡ Some phase) × (goes w.words phase ≡ true)) ⊎
          (lost t ≡ false → (phase : Phase) → (w.views t).phase ≡ Some phase → goes w.words phase ≡ false)
      one t None at = inr (λ live phase is. absurd (not_none phase (sym is ∙ at)))
      one t (Some q) at =
          elim (cases_Bool (lost t)) [
            | inl dead ↦ inr (λ live phase is. absurd (true≢false (sym dead ∙ live)))
            | inr live ↦ elim (cases_Bool (goes w.words q)) [
              | inl g ↦ inl (live, q, at, g)
              | inr g ↦ inr (λ also phase is. subst (λ (x : Phase). goes w.words x ≡ false) (some_same q phase (sym at ∙ is)) g)
            ]
          ]
