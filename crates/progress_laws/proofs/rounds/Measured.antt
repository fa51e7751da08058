-- Rounds by a number that falls with each step that doesn't wait: after enough of them all wait.
use Rattle.progress_laws.proofs.Prelude.{Begins, Bool, Config, Entry, HookAnswer, IsGood, IsWithin, KeepWaiting, List, None, Option, Phase, Some}
use Rattle.progress_laws.proofs.Prelude.{Steps, World, [], after_step, ap, arith, false, happens, happens_is, hook_of, inl, inr, is_outside, refl}
use Rattle.progress_laws.proofs.Prelude.{run, subst, sym, true, ℕ, ◌<◌, ◌∙◌, ◌∷◌, ◌≡◌, ◌≤◌, ◌⊎◌}
use Rattle.std.proofs.{Common.{length, ◌++◌}, lemmas.Bool.{cases_lt, le-ltb, lt-ltb}}
use Rattle.{gate_schedules.proofs.schedules.Schedule.happens_keeps, gate_world.specs.Worlds.{step_of, task_of}}
use Rattle.progress_laws.specs.Answers.{AllAnswerSo, AnswersSo, RoundsAnswerSo}
use Rattle.progress_laws.specs.FairRounds.{AreRounds, IsRound, IsServed, MayAllStep, MayStep, rests_at, run_all}

module _ (c : Config) (lim : IsWithin c) (lost : ℕ → Bool) where
  pub after_good : (w : World) → IsGood c w → (e : Entry) → IsGood c (happens c w e)
  after_good w good e = (happens_keeps c lim w good e).0

  pub run_good : (es : List Entry) (w : World) → IsGood c w → IsGood c (run c w es)
  run_good [] w good = good
  run_good (e ∷ es) w good = run_good es (happens c w e) (after_good w good e)

  pub rounds_good : (rounds : List (List Entry)) (w : World) → IsGood c w → IsGood c (run_all c w rounds)
  rounds_good [] w good = good
  rounds_good (es ∷ rounds) w good = rounds_good rounds (run c w es) (run_good es w good)

  pub idle_is : (w : World) (t : ℕ) → t < c.tasks → (hook : HookAnswer) → (w.views t).phase ≡ None → happens c w (Steps t hook) ≡ w
  idle_is w t lt hook at = rw (lt-ltb t c.tasks lt) (ap (step_of w t hook) at)

  pub absent_is : (w : World) (t : ℕ) → c.tasks ≤ t → (hook : HookAnswer) → happens c w (Steps t hook) ≡ w
  absent_is w t ge hook = rw (le-ltb t c.tasks ge) refl

  -- where `keep_waiting` answers so, by what is told of a task whether it waits
  module _ (such : ℕ → HookAnswer → Type 0) (waits : World → ℕ → Bool) where
    -- each that isn't lost does
    abbrev pub AllSo : World → Type 0
    AllSo w = (t : ℕ) → t < c.tasks → lost t ≡ false → waits w t ≡ true

    -- a step of a task that isn't lost, and isn't asleep
    abbrev pub IsStep : World → ℕ → Phase → HookAnswer → Type 0
    IsStep w t phase hook =
        (t < c.tasks) × (lost t ≡ false) × ((w.views t).phase ≡ Some phase) × (is_outside w.words phase ≡ false) ×
        (hook_of phase ≡ Some KeepWaiting → such t hook)

    -- by what is so of such steps it is so of transitions
    pub by_entry : (P : World → Type 0) (w : World) (e : Entry) → MayStep lost w e → AnswersSo such w e → P w →
        ((t : ℕ) (phase : Phase) (hook : HookAnswer) → IsStep w t phase hook → P (after_step w t phase hook)) → P (happens c w e)
    by_entry P w (Begins t op) may answers still steps = absurd may
    by_entry P w (Steps t hook) may answers still steps =
        elim (cases_lt t c.tasks) [
          | inl lt ↦ stepped lt (w.views t).phase refl
          | inr ge ↦ subst P (sym (absent_is w t ge hook)) still
        ]
      where
        stepped : t < c.tasks → (o : Option Phase) → (w.views t).phase ≡ o → P (happens c w (Steps t hook))
        stepped lt None at = subst P (sym (idle_is w t lt hook at)) still
        stepped lt (Some phase) at =
            subst P (sym (happens_is c w t lt hook phase at)) (steps t phase hook (lt, may.0, at, may.1 phase at, answers phase at))

    -- where all wait, no such step changes that
    abbrev pub Keeps : Type 0
    Keeps = (w : World) → IsGood c w → AllSo w → (t : ℕ) (phase : Phase) (hook : HookAnswer) → IsStep w t phase hook → AllSo (after_step w t phase hook)

    module _ (keeps : Keeps) where
      pub run_keeps : (es : List Entry) (w : World) → IsGood c w → MayAllStep c lost w es → AllAnswerSo such c w es → AllSo w → AllSo (run c w es)
      run_keeps [] w good may answers all = all
      run_keeps (e ∷ es) w good may answers all =
          run_keeps es (happens c w e) (after_good w good e) may.1 answers.1 (by_entry AllSo w e may.0 answers.0 all (keeps w good all))

      pub rounds_keep : (rounds : List (List Entry)) (w : World) → IsGood c w → AreRounds c lost w rounds → RoundsAnswerSo such c w rounds →
          AllSo w → AllSo (run_all c w rounds)
      rounds_keep [] w good are answers all = all
      rounds_keep (es ∷ rounds) w good are answers all =
          rounds_keep rounds (run c w es) (run_good es w good) are.1 answers.1 (run_keeps es w good are.0.0 answers.0 all)

    -- a number, and what it needs of a state
    module _ (measure : World → ℕ) (IsMeasured : World → Type 0) where
      -- a step leaves a lower number; or the same, with the same tasks that wait, and its own is one of them
      abbrev pub Leaves : World → ℕ → World → Type 0
      Leaves w t next =
          (measure next < measure w) ⊎ ((measure next ≡ measure w) × ((y : ℕ) → waits next y ≡ waits w y) × (waits w t ≡ true))

      pub record Measures : Type 0 where
        pub rest : (w : World) (t : ℕ) → rests_at w.words (w.views t).phase ≡ true → waits w t ≡ true
        pub step : (w : World) → IsGood c w → IsMeasured w → (t : ℕ) (phase : Phase) (hook : HookAnswer) → IsStep w t phase hook →
            Leaves w t (after_step w t phase hook)
        pub measured : (w : World) → IsGood c w → IsMeasured w → (t : ℕ) (phase : Phase) (hook : HookAnswer) → IsStep w t phase hook →
            IsMeasured (after_step w t phase hook)

      module _ (facts : Measures) where
        entry_measured : (w : World) → IsGood c w → IsMeasured w → (e : Entry) → MayStep lost w e → AnswersSo such w e → IsMeasured (happens c w e)
        entry_measured w good is e may answers = by_entry IsMeasured w e may answers is (facts.measured w good is)

        run_measured : (es : List Entry) (w : World) → IsGood c w → IsMeasured w → MayAllStep c lost w es → AllAnswerSo such c w es →
            IsMeasured (run c w es)
        run_measured [] w good is may answers = is
        run_measured (e ∷ es) w good is may answers =
            run_measured es (happens c w e) (after_good w good e) (entry_measured w good is e may.0 answers.0) may.1 answers.1

        entry_leaves : (w : World) → IsGood c w → IsMeasured w → (e : Entry) → MayStep lost w e → AnswersSo such w e →
            (measure (happens c w e) < measure w) ⊎
            ((measure (happens c w e) ≡ measure w) × ((y : ℕ) → waits (happens c w e) y ≡ waits w y) × (task_of e < c.tasks → waits w (task_of e) ≡ true))
        entry_leaves w good is (Begins t op) may answers = absurd may
        entry_leaves w good is (Steps t hook) may answers =
            elim (cases_lt t c.tasks) [
              | inl lt ↦ stepped lt (w.views t).phase refl
              | inr ge ↦
                  let same : happens c w (Steps t hook) ≡ w = absent_is w t ge hook in
                  inr (ap measure same, λ y. ap (λ v. waits v y) same, λ lt. absurd (omega (arith, lt, ge)))
            ]
          where
            stepped : t < c.tasks → (o : Option Phase) → (w.views t).phase ≡ o →
                (measure (happens c w (Steps t hook)) < measure w) ⊎
                ((measure (happens c w (Steps t hook)) ≡ measure w) × ((y : ℕ) → waits (happens c w (Steps t hook)) y ≡ waits w y) ×
                (t < c.tasks → waits w t ≡ true))
            stepped lt None at =
                let same : happens c w (Steps t hook) ≡ w = idle_is w t lt hook at in
                inr (ap measure same, λ y. ap (λ v. waits v y) same, λ l. facts.rest w t (ap (rests_at w.words) at))
            stepped lt (Some phase) at =
                subst (λ v. (measure v < measure w) ⊎ ((measure v ≡ measure w) × ((y : ℕ) → waits v y ≡ waits w y) × (t < c.tasks → waits w t ≡ true)))
                (sym (happens_is c w t lt hook phase at))
                (elim (facts.step w good is t phase hook (lt, may.0, at, may.1 phase at, answers phase at)) [
                  | inl falls ↦ inl falls
                  | inr same ↦ inr (same.0, same.1, λ l. same.2)
                ])

        -- all transitions of a round: only such have taken steps
        run_leaves : (es : List Entry) (w : World) → IsGood c w → IsMeasured w → MayAllStep c lost w es → AllAnswerSo such c w es →
            (measure (run c w es) < measure w) ⊎
            ((measure (run c w es) ≡ measure w) × ((y : ℕ) → waits (run c w es) y ≡ waits w y) ×
            ((t : ℕ) → t < c.tasks → IsServed c t w es → waits w t ≡ true))
        run_leaves [] w good is may answers = inr (refl, λ y. refl, λ t lt served. facts.rest w t served)
        run_leaves (e ∷ es) w good is may answers =
            let rest = run_leaves es (happens c w e) (after_good w good e) (entry_measured w good is e may.0 answers.0) may.1 answers.1 in
            elim (entry_leaves w good is e may.0 answers.0) [
              | inl falls ↦ elim rest [
                | inl lower ↦ inl (omega (arith, falls, lower))
                | inr same ↦ inl (omega (arith, falls, same.0))
              ]
              | inr first ↦ elim rest [
                | inl lower ↦ inl (omega (arith, first.0, lower))
                | inr same ↦ inr (
                  same.0 ∙ first.0,
                  λ y. same.1 y ∙ first.1 y,
                  λ t lt served. elim served [
                    | inl now ↦ facts.rest w t now
                    | inr later ↦ elim later [
                      | inl mine ↦ subst (λ x. waits w x ≡ true) mine (first.2 (subst (λ x. x < c.tasks) (sym mine) lt))
                      | inr after ↦ sym (first.1 t) ∙ same.2 t lt after
                    ]
                  ],
                )
              ]
            ]

        -- a round in which the number doesn't fall finds all waiting
        round_leaves : (es : List Entry) (w : World) → IsGood c w → IsMeasured w → IsRound c lost w es → AllAnswerSo such c w es →
            (measure (run c w es) < measure w) ⊎ AllSo (run c w es)
        round_leaves es w good is round answers =
            elim (run_leaves es w good is round.0 answers) [
              | inl lower ↦ inl lower
              | inr same ↦ inr (λ t lt live. same.1 t ∙ same.2 t lt (round.1 t lt live))
            ]

        -- so they do after one of the rounds
        abbrev pub AtSome : World → List (List Entry) → Type 0
        AtSome w rounds = (first : List (List Entry)) × (rest : List (List Entry)) × (rounds ≡ first ++ rest) × AllSo (run_all c w first)

        pub rounds_once : (rounds : List (List Entry)) (w : World) → IsGood c w → IsMeasured w → AreRounds c lost w rounds →
            RoundsAnswerSo such c w rounds → measure w < length rounds → AtSome w rounds
        rounds_once [] w good is are answers le = absurd (omega (arith, le))
        rounds_once (es ∷ rounds) w good is are answers le =
            elim (round_leaves es w good is are.0 answers.0) [
              | inl lower ↦
                  let more : AtSome (run c w es) rounds =
                  rounds_once rounds (run c w es) (run_good es w good) (run_measured es w good is are.0.0 answers.0) are.1 answers.1
                  (omega (arith, lower, le)) in
                  (es ∷ more.0, more.1, ap (λ (z : List (List Entry)). es ∷ z) more.2, more.3)
              | inr all ↦ (es ∷ [], rounds, refl, all)
            ]

        -- and after all, where that stays
        pub rounds_settle : Keeps → (rounds : List (List Entry)) (w : World) → IsGood c w → IsMeasured w → AreRounds c lost w rounds →
            RoundsAnswerSo such c w rounds → measure w < length rounds → AllSo (run_all c w rounds)
        rounds_settle keeps [] w good is are answers le = absurd (omega (arith, le))
        rounds_settle keeps (es ∷ rounds) w good is are answers le =
            elim (round_leaves es w good is are.0 answers.0) [
              | inl lower ↦
                  rounds_settle keeps rounds (run c w es) (run_good es w good) (run_measured es w good is are.0.0 answers.0) are.1 answers.1
                  (omega (arith, lower, le))
              | inr all ↦ rounds_keep keeps rounds (run c w es) (run_good es w good) are.1 answers.1 all
            ]
