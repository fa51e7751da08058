-- A callback runs out where nobody is inside a section.
use Rattle.gate_schedules.proofs.Prelude.{Callback, Config, Fits, Fitting, IsGood, IsUnblocked, None, Phase, PhaseEnds, PhaseFits, RankDecreases}
use Rattle.gate_schedules.proofs.Prelude.{SyncAt, SyncHoldsIn, Transition, TransitionNext, WordName, Words, World, ap, arith, eq-eqb, found_at}
use Rattle.gate_schedules.proofs.Prelude.{found_by, held_of, is_frozen_whole, left, on_callback, rank, read, refl, subst, sym, sync_role_if}
use Rattle.gate_schedules.proofs.Prelude.{sync_role_of, transition_after, update_at, words_after, ℕ, ◌%◌, ◌+◌, ◌<◌, ◌==◌, ◌∙◌, ◌≡◌, ◌≤◌}
use Rattle.{freeze_laws.specs.levels.{Operations.callback_role, Roles.{Ready, claimed as has_claimed}}, gate_world.specs.Fits.GraceFits}
use Rattle.percpu_rwsem.specs.{Callbacks.{callback_after, callback_looked, callback_next, called_back, claimed}, Graces.looked, SyncWords.on_claim}
use Rattle.percpu_rwsem.specs.{Transitions.transition_next, declared.{callbacks.CallbackStep.CallbackStep, grace.{Grace.Grace, GraceNext.GraceNext}}}
use Rattle.gate_schedules.proofs.{frames.Words.load_same, levels.Facts.{ExchangeFalls, callback_called, defined_falls, exchange_falls}}
use Rattle.gate_schedules.proofs.operations.deadlocks.RankDecreases.{after_event, falls_as}
use Rattle.gate_schedules.specs.operations.{Ranks.{callback_rank, exchange_rank, grace_rank}, Unblocked.NobodyInside}

-- what comes after a look at a section word that is even
abbrev pub GraceFalls : ℕ → GraceNext → Type 0
GraceFalls n (GraceNext.More g) = grace_rank g < n
GraceFalls n (GraceNext.Wait g) = ⊥
GraceFalls n GraceNext.Ended = Unit {0}

pub look_falls : (g : Grace) (found : ℕ) → found % 2 ≡ 0 → GraceFalls (grace_rank g) (looked g found)
look_falls g found even = grind arith

module _ (b : Callback) (sync : ℕ → ℕ) (free : Callback → Type 0) (is : (y : Callback) → free y) where
  claims_falls : (n : ℕ) (undefined : Type 0) (next : TransitionNext) → ExchangeFalls (sync b.level) n undefined next →
      RankDecreases (λ (y : Callback). callback_rank y.tasks (sync y.level) y.step) free (b.tasks + 3 + n) (claimed b next)
  claims_falls n undefined next h = grind arith

  -- of its grace period
  waits_falls : (n : ℕ) (next : GraceNext) → GraceFalls n next →
      RankDecreases (λ (y : Callback). callback_rank y.tasks (sync y.level) y.step) free (n + 2) (callback_looked b next)
  waits_falls n next h = grind arith

  -- and of its own transition
  calls_falls : (n : ℕ) (next : TransitionNext) → ExchangeFalls (sync b.level) n ⊥ next →
      RankDecreases (λ (y : Callback). callback_rank y.tasks (sync y.level) y.step) free n (called_back b next)
  calls_falls n next h = grind arith

module _ (c : Config) (w : World) (good : IsGood c w) (t : ℕ) (lt : t < c.tasks) (b : Callback) (one : 1 ≤ b.level) (three : b.level ≤ 3)
    (even : NobodyInside c w.words) where
  claim_by : (x : Transition) (sync : ℕ → ℕ) → sync b.level ≡ left (transition_next b.level x).1 (w.words.sync b.level) →
      ExchangeFalls (sync b.level) (exchange_rank (w.words.sync b.level) x) (on_claim (good (SyncAt b.level) one three).word ≡ None)
      (transition_after on_claim x (found_by (transition_next b.level x).1 (w.words.sync b.level)))
  claim_by x sync is =
      let s : SyncHoldsIn c w b.level = good (SyncAt b.level) one three in
      exchange_falls on_claim (w.words.sync b.level) (sync b.level) b.level s.word s.packed x is

  call_by : sync_role_of b.level (w.views t).phase ≡ Ready → (x : Transition) (sync : ℕ → ℕ) →
      sync b.level ≡ left (transition_next b.level x).1 (w.words.sync b.level) →
      ExchangeFalls (sync b.level) (exchange_rank (w.words.sync b.level) x) ⊥
      (transition_after on_callback x (found_by (transition_next b.level x).1 (w.words.sync b.level)))
  call_by role x sync is =
      let s : SyncHoldsIn c w b.level = good (SyncAt b.level) one three in
      defined_falls (sync b.level) (exchange_rank (w.words.sync b.level) x) (on_callback s.word ≡ None)
      (callback_called c.tasks s.word (w.words.block b.level) (is_frozen_whole w.words) w.words.section
      (λ u. sync_role_of b.level (w.views u).phase) s.holds t lt (ap has_claimed role))
      (transition_after on_callback x (found_by (transition_next b.level x).1 (w.words.sync b.level)))
      (exchange_falls on_callback (w.words.sync b.level) (sync b.level) b.level s.word s.packed x is)

  callback_falls : (s : CallbackStep) → sync_role_of b.level (w.views t).phase ≡ callback_role s → GraceFits c.tasks s →
      RankDecreases (λ (y : Callback). callback_rank y.tasks ((after_event w.words (callback_next b s)).sync y.level) y.step)
      (λ (y : Callback). NobodyInside c (after_event w.words (callback_next b s)))
      (callback_rank b.tasks (w.words.sync b.level) s)
      (callback_after b s (found_by (callback_next b s).1 (read w.words (callback_next b s).0))).0
  callback_falls (CallbackStep.Claims Transition.Loads) role fits =
      let sync : ℕ → ℕ = (after_event w.words (callback_next b (CallbackStep.Claims Transition.Loads))).sync in
      claims_falls b sync (λ y. NobodyInside c (after_event w.words (callback_next b (CallbackStep.Claims Transition.Loads)))) (λ y. even) 1 _
      (transition_after on_claim Transition.Loads (w.words.sync b.level))
      (claim_by Transition.Loads sync (update_at w.words.sync b.level (w.words.sync b.level)))
  callback_falls (CallbackStep.Claims (Transition.Exchanges from to)) role fits =
      let sync : ℕ → ℕ = (after_event w.words (callback_next b (CallbackStep.Claims (Transition.Exchanges from to)))).sync in
      claims_falls b sync (λ y. NobodyInside c (after_event w.words (callback_next b (CallbackStep.Claims (Transition.Exchanges from to))))) (λ y. even)
      (exchange_rank (w.words.sync b.level) (Transition.Exchanges from to)) _
      (transition_after on_claim (Transition.Exchanges from to) (w.words.sync b.level))
      (claim_by (Transition.Exchanges from to) sync
      (update_at w.words.sync b.level (left (transition_next b.level (Transition.Exchanges from to)).1 (w.words.sync b.level))))
  callback_falls (CallbackStep.AwaitsSections g) role fits =
      let same : after_event w.words (callback_next b (CallbackStep.AwaitsSections g)) ≡ w.words = load_same w.words (WordName.Section g.task) in
      waits_falls b (after_event w.words (callback_next b (CallbackStep.AwaitsSections g))).sync
      (λ y. NobodyInside c (after_event w.words (callback_next b (CallbackStep.AwaitsSections g))))
      (λ y. subst (NobodyInside c) (sym same) even) (grace_rank g) (looked g (w.words.section g.task))
      (look_falls g (w.words.section g.task) (even g.task fits.1))
  callback_falls (CallbackStep.CallsBack Transition.Loads) role fits =
      let sync : ℕ → ℕ = (after_event w.words (callback_next b (CallbackStep.CallsBack Transition.Loads))).sync in
      calls_falls b sync (λ y. NobodyInside c (after_event w.words (callback_next b (CallbackStep.CallsBack Transition.Loads)))) (λ y. even) 1
      (transition_after on_callback Transition.Loads (w.words.sync b.level))
      (call_by role Transition.Loads sync (update_at w.words.sync b.level (w.words.sync b.level)))
  callback_falls (CallbackStep.CallsBack (Transition.Exchanges from to)) role fits =
      let sync : ℕ → ℕ = (after_event w.words (callback_next b (CallbackStep.CallsBack (Transition.Exchanges from to)))).sync in
      calls_falls b sync (λ y. NobodyInside c (after_event w.words (callback_next b (CallbackStep.CallsBack (Transition.Exchanges from to))))) (λ y. even)
      (exchange_rank (w.words.sync b.level) (Transition.Exchanges from to))
      (transition_after on_callback (Transition.Exchanges from to) (w.words.sync b.level))
      (call_by role (Transition.Exchanges from to) sync
      (update_at w.words.sync b.level (left (transition_next b.level (Transition.Exchanges from to)).1 (w.words.sync b.level))))

pub callback_ends : (c : Config) (b : Callback) → PhaseEnds c (Phase.Callbacks b)
callback_ends c b = record {
  falls = λ lim w good t lt hook at free.
      let f : PhaseFits c t (held_of (w.views t)) (Phase.Callbacks b) =
      subst (Fits c t (held_of (w.views t))) at (good Fitting t lt) in
      let after : Words = words_after w.words (Phase.Callbacks b) hook in
      let here : sync_role_if (b.level == b.level) (callback_role b.step) ≡ callback_role b.step =
      ap (λ q. sync_role_if q (callback_role b.step)) (eq-eqb b.level b.level refl) in
      falls_as Phase.Callbacks (rank after) (IsUnblocked c after) (callback_rank b.tasks (w.words.sync b.level) b.step)
      (callback_after b b.step (found_at w.words (Phase.Callbacks b) hook)).0
      (callback_falls c w good t lt b f.0 f.1 free b.step (ap (sync_role_of b.level) at ∙ here) f.3);
}
