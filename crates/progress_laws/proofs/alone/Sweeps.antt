-- One kind after the other comes to wait: a task of a kind, stepped alone, ends none of the waits of its kind and of those before it.
use Rattle.progress_laws.proofs.Prelude.{Bool, Callback, CallbackStep, Config, HookAnswer, IsGood, IsWithin, MountPhase, Next, None, Option, Phase}
use Rattle.progress_laws.proofs.Prelude.{PhaseFits, Some, SyncAt, SyncHoldsIn, Transition, TransitionNext, Words, World, after_of, after_step, ap}
use Rattle.progress_laws.proofs.Prelude.{arith, cases_Bool, eq-eqb, eqb_tells, false, fits_at, found_at, held_of, if◌then◌else◌, inl, inr, map_next}
use Rattle.progress_laws.proofs.Prelude.{must_wait, phase_after, refl, stands_after, subst, suc, sym, sync_role_of, total, total_at, total_le}
use Rattle.progress_laws.proofs.Prelude.{transition_after, true, words_after, zero, ℕ, ◌*◌, ◌+◌, ◌-◌, ◌<◌, ◌∙◌, ◌≡◌, ◌≤◌}
use Rattle.std.proofs.Math.Nat.{suc-mul}
use Rattle.finite_sums.proofs.Totals.{total_add, total_bound}
use Rattle.{freeze_laws.specs.{levels.{Operations.callback_role, Roles.claimed as has_claimed}, stages.Roles.bit}, gate_world.specs.Fits.GraceFits}
use Rattle.percpu_rwsem.specs.{Callbacks.{at_callback, claimed}, SyncWords.{bit as taken_bit, on_claim}}
use Rattle.progress_laws.proofs.alone.{Alone.{HasRoom, step_alone}, RunAlone.{Makes, NoneGoes, Stopped, and_then, no_nearer, runs, some_or_none}}
use Rattle.progress_laws.proofs.alone.WaitKinds.{NextIs, callback_kind, claimed_keeps, goes_is, goes_not, goes_of, graces_kept, is_callback, kind}
use Rattle.progress_laws.proofs.alone.WaitKinds.{next_all, next_map, quick_keeps, waits_kept}
use Rattle.progress_laws.proofs.nearer.AllNearer.{close_steps, exchange_few, grace_few, phase_comes, starts_small, want_few, write_steps}
use Rattle.progress_laws.proofs.{nearer.Nearer.ComesNearer, rounds.{Potentials.total_lower, Settling.{others_same, start_room_few}}}
use Rattle.progress_laws.specs.{Alone.alone_left, FirstReply.{ReplyOr, most_of_kinds}, StepsLeft.{callback_changes, callback_left, callback_tries}}

-- what a task is at waits, if its kind is below this one
abbrev pub WaitsBelow : ℕ → Words → Option Phase → Type 0
WaitsBelow k w None = Unit {0}
WaitsBelow k w (Some phase) = kind phase < k → must_wait w phase ≡ true

pub below_kept : (k : ℕ) (w after : Words) → ((q : Phase) → kind q < k → must_wait w q ≡ true → must_wait after q ≡ true) → (p : Option Phase) →
    WaitsBelow k w p → WaitsBelow k after p
below_kept k w after kept None h = tt
below_kept k w after kept (Some q) h = λ lt. kept q lt (h lt)

below_more : (k : ℕ) (w : Words) (p : Option Phase) → WaitsBelow k w p → ((phase : Phase) → p ≡ Some phase → goes_of k w phase ≡ false) →
    WaitsBelow (suc k) w p
below_more k w p h none = grind (arith, kind, goes_not)

-- 1 for one of this kind that need not wait
abbrev goes_in : ℕ → Words → Option Phase → ℕ
goes_in k w None = 0
goes_in k w (Some phase) = bit (goes_of k w phase)

goes_le : (k : ℕ) (w : Words) (p : Option Phase) → goes_in k w p ≤ 1
goes_le k w p = grind arith

goes_fall : (k : ℕ) (w after : Words) → ((q : Phase) → kind q ≡ k → must_wait w q ≡ true → must_wait after q ≡ true) → (p : Option Phase) →
    goes_in k after p ≤ goes_in k w p
goes_fall k w after kept p = grind (arith, goes_of, goes_is, eq-eqb, kind)

module _ (c : Config) (lim : IsWithin c) (lost : ℕ → Bool) where
  -- all those that aren't lost, of the kinds below this one, wait
  abbrev pub AllBelow : ℕ → World → Type 0
  AllBelow k w = (t : ℕ) → t < c.tasks → lost t ≡ false → WaitsBelow k w.words (w.views t).phase

  abbrev going : ℕ → World → ℕ → ℕ
  going k w t = if lost t then 0 else goes_in k w.words (w.views t).phase

  going_fall : (k : ℕ) (b : Bool) (m n : ℕ) → m ≤ n → (if b then 0 else m) ≤ (if b then 0 else n)
  going_fall k true m n le = omega arith
  going_fall k false m n le = le

  -- what a kind has to be for this
  pub record Sweeps (k most : ℕ) (left : Words → Phase → ℕ) : Type 0 where
    pub keeps : (w : Words) (phase : Phase) (hook : HookAnswer) → kind phase ≡ k → (q : Phase) → kind q ≤ k → must_wait w q ≡ true →
        must_wait (words_after w phase hook) q ≡ true
    pub kinds : (w : Words) (phase : Phase) (hook : HookAnswer) → kind phase ≡ k → NextIs (λ q. k ≤ kind q) (after_of phase (found_at w phase hook) hook).0
    pub falls : (w : World) → IsGood c w → (t : ℕ) → t < c.tasks → (phase : Phase) → (w.views t).phase ≡ Some phase → kind phase ≡ k →
        must_wait w.words phase ≡ false → (hook : HookAnswer) →
        NextIs (λ q. goes_of k (words_after w.words phase hook) q ≡ true → left (words_after w.words phase hook) q < left w.words phase)
        (after_of phase (found_at w.words phase hook) hook).0
    pub some : (w : Words) (phase : Phase) → goes_of k w phase ≡ true → 0 < left w phase
    pub small : (w : World) → IsGood c w → (t : ℕ) → t < c.tasks → (phase : Phase) → (w.views t).phase ≡ Some phase → kind phase ≡ k →
        left w.words phase ≤ most

  module _ (k most : ℕ) (left : Words → Phase → ℕ) (facts : Sweeps k most left) where
    module _ (first : World) (t : ℕ) (lt : t < c.tasks) (live : lost t ≡ false) where
      -- those before it wait, and no other one of its kind begins to go
      abbrev Keeps : World → Type 0
      Keeps v = AllBelow k v × ((x : ℕ) → x < c.tasks → (x ≡ t → ⊥) → going k v x ≤ going k first x)

      module _ (w : World) (good : IsGood c w) (phase : Phase) (at : (w.views t).phase ≡ Some phase) (is : kind phase ≡ k) (i : Keeps w)
          (hook : HookAnswer) where
        abbrev next : World
        next = after_step w t phase hook

        keeps_on : (q : Phase) → (next.views t).phase ≡ Some q → k ≤ kind q → Keeps next
        keeps_on q here high = (
          λ x lx live. elim (eqb_tells x t) [
            | inl e ↦
                subst (WaitsBelow k next.words) (sym (ap (λ y. (next.views y).phase) e.1 ∙ here)) (λ below. absurd (omega (arith, below, high)))
            | inr ne ↦
                subst (WaitsBelow k next.words) (sym (others_same c lim w good t lt phase at hook x ne.1))
                (below_kept k w.words next.words (λ p low waits. facts.keeps w.words phase hook is p (omega (arith, low)) waits) (w.views x).phase
                (i.0 x lx live))
          ],
          λ x lx ne.
              let same : (next.views x).phase ≡ (w.views x).phase = others_same c lim w good t lt phase at hook x ne in
              let falls : goes_in k next.words (w.views x).phase ≤ goes_in k w.words (w.views x).phase =
              goes_fall k w.words next.words (λ p here waits. facts.keeps w.words phase hook is p (omega (arith, here)) waits) (w.views x).phase in
              let less : going k next x ≤ going k w x =
              going_fall k (lost x) _ _ (omega (arith, falls, ap (goes_in k next.words) same)) in
              omega (arith, less, i.1 x lx ne),
        )

        makes_by : (coming : Next Phase) → (next.views t).phase ≡ phase_after coming → NextIs (λ q. k ≤ kind q) coming →
            NextIs (λ q. goes_of k next.words q ≡ true → left next.words q < left w.words phase) coming →
            Makes c lim lost t lt live (goes_of k) left Keeps w phase hook
        makes_by coming here high falls = grind (arith, keeps_on)

      makes : (w : World) → IsGood c w → (phase : Phase) → (w.views t).phase ≡ Some phase → goes_of k w.words phase ≡ true → Keeps w →
          (hook : HookAnswer) → Makes c lim lost t lt live (goes_of k) left Keeps w phase hook
      makes w good phase at goes i hook =
          let is = goes_is k w.words phase goes in
          makes_by w good phase at is.0 i hook (after_of phase (found_at w.words phase hook) hook).0 (stands_after c w t lt hook phase at)
          (facts.kinds w.words phase hook is.0) (facts.falls w good t lt phase at is.0 is.1 hook)

      comes : IsGood c first → AllBelow k first → (phase : Phase) → (first.views t).phase ≡ Some phase → goes_of k first.words phase ≡ true →
          ReplyOr c lost (Stopped c lim lost t lt live (goes_of k) left Keeps) most first
      comes good all phase at goes =
          runs c lim lost t lt live (goes_of k) left Keeps facts.some makes most first good phase at (all, λ x lx ne. omega arith)
          (λ g. facts.small first good t lt phase at (goes_is k first.words phase goes).0)

    -- once a task has stopped, one fewer goes
    fewer : (w v : World) (t : ℕ) (lt : t < c.tasks) (live : lost t ≡ false) (phase : Phase) → (w.views t).phase ≡ Some phase →
        goes_of k w.words phase ≡ true → Stopped c lim lost t lt live (goes_of k) left (Keeps w t lt live) v →
        total c.tasks (going k v) < total c.tasks (going k w)
    fewer w v t lt live phase at goes stopped =
        let now : going k v t ≡ 0 = rw live (ap (goes_in k v.words) stopped.2 ∙ ap bit stopped.3) in
        let before : going k w t ≡ 1 = rw live (ap (goes_in k w.words) at ∙ ap bit goes) in
        total_lower c.tasks t (going k w) (going k v) lt stopped.0.1 (omega (arith, now, before))

    all_stopped : (n : ℕ) (w : World) → AllBelow k w → NoneGoes c lim lost (goes_of k) w → ReplyOr c lost (AllBelow (suc k)) n w
    all_stopped n w all none =
        no_nearer c lim lost (AllBelow (suc k)) 0 n w (omega arith)
        (λ t lt live. below_more k w.words (w.views t).phase (all t lt live) (none t lt live))

    pub sweep : (m n : ℕ) → m * most ≤ n → (w : World) → IsGood c w → AllBelow k w → total c.tasks (going k w) ≤ m →
        ReplyOr c lost (AllBelow (suc k)) n w
    sweep zero n room w good all few =
        elim (some_or_none c lim lost (goes_of k) w) [
          | inl s ↦
              let before : going k w s.0 ≡ 1 = rw (s.2) (ap (goes_in k w.words) s.4 ∙ ap bit s.5) in
              absurd (omega (arith, few, before, total_at c.tasks s.0 (going k w) s.1))
          | inr none ↦ all_stopped n w all none
        ]
    sweep (suc m) n room w good all few =
        elim (some_or_none c lim lost (goes_of k) w) [
          | inl s ↦
              let much : m * most + most ≤ n = omega (arith, room, suc-mul m most) in
              and_then c lim lost (Stopped c lim lost s.0 s.1 s.2 (goes_of k) left (Keeps w s.0 s.1 s.2)) (AllBelow (suc k)) most (n - most) n w
              (omega (arith, much)) good (comes w s.0 s.1 s.2 good all s.3 s.4 s.5) (λ v sound stopped.
              sweep m (n - most) (omega (arith, much)) v sound stopped.0.0 (omega (arith, few, fewer w v s.0 s.1 s.2 s.3 s.4 s.5 stopped)))
          | inr none ↦ all_stopped n w all none
        ]

-- a task's number of itself falls with each step that it need not wait for
module _ (c : Config) (lim : IsWithin c) (starts tries : ℕ) where
  abbrev pub Falls : ℕ → Words → Next Phase → Type 0
  Falls n after next = NextIs (λ q. alone_left starts tries after (Some q) < n) next

  pub falls_alone : (w : World) → IsGood c w → (t : ℕ) (lt : t < c.tasks) → (phase : Phase) → (w.views t).phase ≡ Some phase → must_wait w.words phase ≡ false →
      HasRoom c lim t lt starts tries (Some phase) → (hook : HookAnswer) →
      Falls (alone_left starts tries w.words (Some phase)) (words_after w.words phase hook) (after_of phase (found_at w.words phase hook) hook).0
  falls_alone w good t lt phase at free room hook =
      by (after_of phase (found_at w.words phase hook) hook).0 ((after_step w t phase hook).views t).phase (stands_after c w t lt hook phase at)
      (step_alone c lim t lt starts tries w good phase at free room hook).0
    where
      by : (coming : Next Phase) (p : Option Phase) → p ≡ phase_after coming →
          alone_left starts tries (words_after w.words phase hook) p < alone_left starts tries w.words (Some phase) →
          Falls (alone_left starts tries w.words (Some phase)) (words_after w.words phase hook) coming
      by (Next.Go q) p is h = omega (arith, h, ap (alone_left starts tries (words_after w.words phase hook)) is)
      by (Next.Wait q) p is h = omega (arith, h, ap (alone_left starts tries (words_after w.words phase hook)) is)
      by (Next.Done answer) p is h = tt

-- The first kind: starts, wants, write accesses and closes; and callbacks that try to claim one.
abbrev pub quick_left : Words → Phase → ℕ
quick_left w (Phase.Callbacks b) = callback_tries (w.sync b.level) b.step + 1
quick_left w phase = alone_left 7 0 w (Some phase)

quick_some : (w : Words) (phase : Phase) → 0 < quick_left w phase
quick_some w phase = grind arith

module _ (c : Config) (lim : IsWithin c) (w : World) (good : IsGood c w) (t : ℕ) (lt : t < c.tasks) where
  quick_in : {A : Type 0} (to : A → Phase) (n : ℕ) (after : Words) → ((y : A) → quick_left after (to y) ≡ alone_left 7 0 after (Some (to y))) → (next : Next A) →
      Falls c lim 7 0 n after (map_next to next) → NextIs (λ q. goes_of 0 after q ≡ true → quick_left after q < n) (map_next to next)
  quick_in to n after same next h = grind arith

  claims_fall : (after : Words) (b : Callback) (x : Transition) (next : TransitionNext) → b.step ≡ CallbackStep.Claims x →
      ComesNearer w.words after (Phase.Callbacks b) (map_next Phase.Callbacks (claimed b next)) →
      NextIs (λ q. goes_of 0 after q ≡ true → quick_left after q < quick_left w.words (Phase.Callbacks b)) (map_next Phase.Callbacks (claimed b next))
  claims_fall after b x next is h = grind (arith, goes_is)

  claims_of : (b : Callback) (s : CallbackStep) → (w.views t).phase ≡ Some (Phase.Callbacks (at_callback b s)) → callback_kind s ≡ 0 → (hook : HookAnswer) →
      NextIs (λ q. goes_of 0 (words_after w.words (Phase.Callbacks (at_callback b s)) hook) q ≡ true →
      quick_left (words_after w.words (Phase.Callbacks (at_callback b s)) hook) q < quick_left w.words (Phase.Callbacks (at_callback b s)))
      (after_of (Phase.Callbacks (at_callback b s)) (found_at w.words (Phase.Callbacks (at_callback b s)) hook) hook).0
  claims_of b (CallbackStep.Claims x) at is hook =
      let p : Phase = Phase.Callbacks (at_callback b (CallbackStep.Claims x)) in
      claims_fall (words_after w.words p hook) (at_callback b (CallbackStep.Claims x)) x (transition_after on_claim x (found_at w.words p hook)) refl
      ((phase_comes c p).nears lim w good t lt hook at refl)
  claims_of b s at is hook = absurd (omega (arith, is))

  quick_falls : (phase : Phase) → (w.views t).phase ≡ Some phase → kind phase ≡ 0 → must_wait w.words phase ≡ false → (hook : HookAnswer) →
      NextIs (λ q. goes_of 0 (words_after w.words phase hook) q ≡ true → quick_left (words_after w.words phase hook) q < quick_left w.words phase)
      (after_of phase (found_at w.words phase hook) hook).0
  quick_falls (Phase.Mounts x) at is free hook =
      quick_in Phase.Mounts _ (words_after w.words (Phase.Mounts x) hook) (λ y. refl) _
      (falls_alone c lim 7 0 w good t lt (Phase.Mounts x) at free (omega arith, omega arith) hook)
  quick_falls (Phase.DownReads x) at is free hook =
      quick_in Phase.DownReads _ (words_after w.words (Phase.DownReads x) hook) (λ y. refl) _
      (falls_alone c lim 7 0 w good t lt (Phase.DownReads x) at free (omega arith, omega arith) hook)
  quick_falls (Phase.Writes x) at is free hook =
      quick_in Phase.Writes _ (words_after w.words (Phase.Writes x) hook) (λ y. refl) _
      (falls_alone c lim 7 0 w good t lt (Phase.Writes x) at free (start_room_few (Some (Phase.Writes x)), omega arith) hook)
  quick_falls (Phase.Closes x) at is free hook =
      quick_in Phase.Closes _ (words_after w.words (Phase.Closes x) hook) (λ y. refl) _
      (falls_alone c lim 7 0 w good t lt (Phase.Closes x) at free (start_room_few (Some (Phase.Closes x)), omega arith) hook)
  quick_falls (Phase.Callbacks b) at is free hook = claims_of b b.step at is hook
  quick_falls phase at is free hook = absurd (omega (arith, is))

  quick_small : (phase : Phase) → kind phase ≡ 0 → quick_left w.words phase ≤ 17
  quick_small (Phase.Mounts (MountPhase.Want x)) is = omega (arith, want_few x.step)
  quick_small (Phase.DownReads r) is = omega (arith, starts_small w.words (Phase.DownReads r))
  quick_small (Phase.Writes x) is =
      omega (arith, write_steps x, starts_small w.words (Phase.Writes x), start_room_few (Some (Phase.Writes x)))
  quick_small (Phase.Closes x) is =
      omega (arith, close_steps x, starts_small w.words (Phase.Closes x), start_room_few (Some (Phase.Closes x)))
  quick_small (Phase.Callbacks b) is = few (w.words.sync b.level) b.step
    where
      few : (sync : ℕ) (s : CallbackStep) → callback_tries sync s + 1 ≤ 17
      few sync s = grind (arith, exchange_few)
  quick_small phase is = absurd (omega (arith, is))

  -- the second kind: a callback that is claimed
  claimed_small : (b : Callback) → (w.views t).phase ≡ Some (Phase.Callbacks b) → callback_kind b.step ≡ 1 →
      alone_left 0 2 w.words (Some (Phase.Callbacks b)) ≤ 2 * c.tasks + 8
  claimed_small b at is =
      let f : PhaseFits c t (held_of (w.views t)) (Phase.Callbacks b) = fits_at c w good t lt (Phase.Callbacks b) at in
      few (w.words.sync b.level) b.tasks b.step f.3 is
    where
      few : (sync tasks : ℕ) (s : CallbackStep) → GraceFits c.tasks s → callback_kind s ≡ 1 →
          callback_left tasks s + 1 + (callback_changes s + 0) * 3 + callback_tries sync s ≤ 2 * c.tasks + 8
      few sync tasks (CallbackStep.Claims x) f is = absurd (omega (arith, is))
      few sync tasks (CallbackStep.AwaitsSections g) f is = omega (arith, grace_few g, f.0)
      few sync tasks (CallbackStep.CallsBack x) f is = omega (arith, exchange_few sync x)

  claimed_room : (phase : Phase) → kind phase ≡ 1 → HasRoom c lim t lt 0 2 (Some phase)
  claimed_room phase is = let b = is_callback phase is in subst (λ p. HasRoom c lim t lt 0 2 (Some p)) (sym b.1) (omega arith, omega arith)

module _ (c : Config) (lim : IsWithin c) (lost : ℕ → Bool) where
  quick_facts : Sweeps c lim lost 0 17 quick_left
  quick_facts = record {
    keeps = λ w phase hook is q low waits.
        waits_kept w (words_after w phase hook) (quick_keeps w phase hook is) q (omega (arith, low)) waits;
    kinds = λ w phase hook is. next_all (λ q. 0 ≤ kind q) (λ q. omega arith) (after_of phase (found_at w phase hook) hook).0;
    falls = λ w good t lt phase at is free hook. quick_falls c lim w good t lt phase at is free hook;
    some = λ w phase goes. quick_some w phase;
    small = λ w good t lt phase at is. quick_small c lim w good t lt phase is;
  }

  claimed_facts : Sweeps c lim lost 1 (2 * c.tasks + 8) (λ w phase. alone_left 0 2 w (Some phase))
  claimed_facts = record {
    keeps = λ w phase hook is q low waits.
        let k = claimed_keeps w phase hook is in graces_kept w (words_after w phase hook) k.0 k.1 q low waits;
    kinds = λ w phase hook is.
        next_map (λ q. kind q ≡ 1) (λ q. 1 ≤ kind q) (λ q e. omega (arith, e)) (after_of phase (found_at w phase hook) hook).0
        (claimed_keeps w phase hook is).2;
    falls = λ w good t lt phase at is free hook.
        next_map (λ q. alone_left 0 2 (words_after w.words phase hook) (Some q) < alone_left 0 2 w.words (Some phase))
        (λ q. goes_of 1 (words_after w.words phase hook) q ≡ true →
        alone_left 0 2 (words_after w.words phase hook) (Some q) < alone_left 0 2 w.words (Some phase)) (λ q h g. h)
        (after_of phase (found_at w.words phase hook) hook).0
        (falls_alone c lim 0 2 w good t lt phase at free (claimed_room c lim w good t lt phase is) hook);
    some = λ w phase goes. omega arith;
    small = λ w good t lt phase at is.
        let b = is_callback phase is in
        omega (
          arith,
          ap (λ p. alone_left 0 2 w.words (Some p)) b.1,
          claimed_small c lim w good t lt b.0 (at ∙ ap Some b.1) (sym (ap kind b.1) ∙ is),
        );
  }

  -- each level has one callback that is claimed, at most
  module _ (w : World) (good : IsGood c w) where
    abbrev claims : ℕ → ℕ → ℕ
    claims i t = has_claimed (sync_role_of i (w.views t).phase)

    one_claims : (i : ℕ) → 1 ≤ i → i ≤ 3 → total c.tasks (claims i) ≤ 1
    one_claims i one three = let rule : SyncHoldsIn c w i = good (SyncAt i) one three in omega (arith, rule.holds.taken, bit_le rule.word.taken)
      where
        bit_le : (b : Bool) → taken_bit b ≤ 1
        bit_le b = grind arith

    claims_it : (i : ℕ) (b : Callback) → i ≡ b.level → callback_kind b.step ≡ 1 → has_claimed (sync_role_of i (Some (Phase.Callbacks b))) ≡ 1
    claims_it i b e is = rw (eq-eqb i b.level e) (of_step b.step is)
      where
        of_step : (s : CallbackStep) → callback_kind s ≡ 1 → has_claimed (callback_role s) ≡ 1
        of_step s is = grind arith

    goes_claims : (t : ℕ) → t < c.tasks → (p : Option Phase) → (w.views t).phase ≡ p →
        goes_in 1 w.words p ≤ has_claimed (sync_role_of 1 p) + (has_claimed (sync_role_of 2 p) + has_claimed (sync_role_of 3 p))
    goes_claims t lt None at = omega arith
    goes_claims t lt (Some q) at =
        elim (cases_Bool (goes_of 1 w.words q)) [
          | inl g ↦
              let is = (goes_is 1 w.words q g).0 in
              let b = is_callback q is in
              let here : (w.views t).phase ≡ Some (Phase.Callbacks b.0) = at ∙ ap Some b.1 in
              let f : PhaseFits c t (held_of (w.views t)) (Phase.Callbacks b.0) = fits_at c w good t lt (Phase.Callbacks b.0) here in
              let k : callback_kind b.0.step ≡ 1 = sym (ap kind b.1) ∙ is in
              subst (λ p. goes_in 1 w.words (Some p) ≤ has_claimed (sync_role_of 1 (Some p)) + (has_claimed (sync_role_of 2 (Some p)) +
              has_claimed (sync_role_of 3 (Some p)))) (sym b.1) (of_level b.0 f.0 f.1 k)
          | inr g ↦ omega (arith, ap bit g)
        ]
      where
        of_level : (b : Callback) → 1 ≤ b.level → b.level ≤ 3 → callback_kind b.step ≡ 1 →
            goes_in 1 w.words (Some (Phase.Callbacks b)) ≤ has_claimed (sync_role_of 1 (Some (Phase.Callbacks b))) +
            (has_claimed (sync_role_of 2 (Some (Phase.Callbacks b))) + has_claimed (sync_role_of 3 (Some (Phase.Callbacks b))))
        of_level b one three k =
            let le = goes_le 1 w.words (Some (Phase.Callbacks b)) in
            elim (eqb_tells 1 b.level) [
              | inl e ↦ omega (arith, le, claims_it 1 b e.1 k)
              | inr ne ↦ elim (eqb_tells 2 b.level) [
                | inl e ↦ omega (arith, le, claims_it 2 b e.1 k)
                | inr nq ↦ omega (arith, le, claims_it 3 b (omega (arith, one, three, ne.1, nq.1)) k)
              ]
            ]

    few_claimed : total c.tasks (going c lim lost 1 w) ≤ 3
    few_claimed =
        omega (
          arith,
          total_le c.tasks (going c lim lost 1 w) (λ t. claims 1 t + (claims 2 t + claims 3 t))
              (λ t lt. omega (arith, going_less (lost t) (goes_in 1 w.words (w.views t).phase), goes_claims t lt (w.views t).phase refl)),
          total_add c.tasks (claims 1) (λ t. claims 2 t + claims 3 t),
          total_add c.tasks (claims 2) (claims 3),
          one_claims 1 (omega arith) (omega arith),
          one_claims 2 (omega arith) (omega arith),
          one_claims 3 (omega arith) (omega arith),
        )
      where
        going_less : (b : Bool) (n : ℕ) → (if b then 0 else n) ≤ n
        going_less true n = omega arith
        going_less false n = omega arith

  some_below : (p : Option Phase) (w : Words) → WaitsBelow 0 w p
  some_below None w = tt
  some_below (Some q) w = λ lt. absurd (omega (arith, lt))

  -- so a live call replies, or all of the first two kinds wait
  pub first_kinds : (w : World) → IsGood c w → ReplyOr c lost (AllBelow c lim lost 2) (most_of_kinds c) w
  first_kinds w good =
      and_then c lim lost (AllBelow c lim lost 1) (AllBelow c lim lost 2) (17 * c.tasks) (3 * (2 * c.tasks + 8))
      (most_of_kinds c) w (omega arith) good
      (sweep c lim lost 0 17 quick_left quick_facts c.tasks (17 * c.tasks) (omega arith) w good (λ t lt live. some_below (w.views t).phase w.words)
      (omega (arith, total_bound c.tasks 1 (going c lim lost 0 w) (λ t lt. goes_one (lost t) (goes_in 0 w.words (w.views t).phase) (goes_le 0 w.words (w.views t).phase)))))
      (λ v sound all.
      sweep c lim lost 1 (2 * c.tasks + 8) (λ (v : Words) phase. alone_left 0 2 v (Some phase)) claimed_facts 3 (3 * (2 * c.tasks + 8)) (omega arith) v sound all
      (few_claimed v sound))
    where
      goes_one : (b : Bool) (n : ℕ) → n ≤ 1 → (if b then 0 else n) ≤ 1
      goes_one true n le = omega arith
      goes_one false n le = le
