-- Where all have to wait, what keeps them in the end: a frozen level, an idle task inside one, or what a lost task left behind.
use Rattle.progress_laws.proofs.Prelude.{AllWait, Bool, CallbackIsBlockedBy, CallbackStep, ClosePhase, ClosingIsBlockedBy, Config, DownRead}
use Rattle.progress_laws.proofs.Prelude.{DownWrite, DownWriteStep, Freeze, FreezeFits, FreezeIsBlockedBy, FreezeStep, IsGood, MountPhase, Phase}
use Rattle.progress_laws.proofs.Prelude.{PhaseFits, Some, TreePhase, Words, World, WritePhase, ap, arith, at_level, cases_Bool, closed, eq-eqb, false}
use Rattle.progress_laws.proofs.Prelude.{fits_at, freeze_owns, freeze_waits, held_of, if◌then◌else◌, inl, inr, level_as_gate, must_wait, owns, refl}
use Rattle.progress_laws.proofs.Prelude.{start_waits, sym, sync_role_of, true, true≢false, ℕ, ◌<◌, ◌∙◌, ◌≡◌, ◌≤◌}
use Rattle.cpu_words.specs.gate_counts.{Gates.{below, counted, unread}, Levels.processor_of}
use Rattle.gate_world.specs.{Fits.ReadStepFits, Levels.level_role_of, Shown.{freeze_closing, is_summing}, Views.holds_level}
use Rattle.gate_schedules.proofs.{levels.Counts.held_bit, operations.deadlocks.WhoCanStep.{holds_below, holds_not_none, open_above}}
use Rattle.progress_laws.proofs.{blocked.Blame.{each_is_blocked, owner_goes}, rounds.FairlyBlocked.{enters_fits, start_wait, waits_out}}
use Rattle.progress_laws.specs.LostTasks.{CountIsStuck, FreezeSums, HoldIsLost, IsBlockedBy, LevelIsStuck, LockIsStuck, Remains, SectionIsLost}
use Rattle.progress_laws.specs.LostTasks.{WaitsForRemains}

-- who has a level closed and has to wait is a freeze
closer_freezes : (w : Words) (i : ℕ) (phase : Phase) → must_wait w phase ≡ true → closed (sync_role_of i (Some phase)) ≡ 1 →
    (x : Freeze) × (phase ≡ Phase.Freezes x)
closer_freezes w i phase waits h = grind arith

module _ (c : Config) (lost : ℕ → Bool) (w : World) (good : IsGood c w) (all : AllWait c lost w) where
  section_remains : (y : ℕ) → SectionIsLost c lost w y → Remains c lost w
  section_remains y h = inr (inr (y, h.0, h.1, inr (inr (inr (inl h.2)))))

  hold_remains : (m : ℕ) → HoldIsLost c lost w m → Remains c lost w
  hold_remains m h = inr (inr (h.0, h.1, h.2, inr (inl (m, h.3))))

  callback_remains : (s : CallbackStep) → CallbackIsBlockedBy c lost w s → Remains c lost w
  callback_remains (CallbackStep.AwaitsSections g) h = section_remains g.task h
  callback_remains s h = absurd h

  level_open : {A : Type 0} (z : ℕ) → z < c.tasks → (i : ℕ) → 1 ≤ i → holds_level (w.views z) i ≡ true → i ≤ 3 → (r : DownRead) → r.level ≤ 3 →
      ReadStepFits r.level (holds_level (w.views z)) r.step → start_waits w.words r r.step ≡ true → A
  level_open z lz i one is three r high f waits =
      let above : i < r.level =
      holds_below (holds_level (w.views z)) i r.level (enters_fits w.words r r.step (holds_level (w.views z)) waits f) one three is in
      absurd ((start_wait w.words r r.step waits).2 (open_above c w good i r.level z one above high lz is))

  -- who has to wait and holds a level is kept by what a lost task left
  holder_remains : (z : ℕ) → z < c.tasks → lost z ≡ false → (i : ℕ) → 1 ≤ i → i ≤ 3 → holds_level (w.views z) i ≡ true → (phase : Phase) →
      (w.views z).phase ≡ Some phase → PhaseFits c z (held_of (w.views z)) phase → must_wait w.words phase ≡ true → IsBlockedBy c lost w phase →
      Remains c lost w
  holder_remains z lz live i one three is (Phase.Mounts (MountPhase.Want x)) at f waits by = hold_remains x.mount by
  holder_remains z lz live i one three is (Phase.Mounts (MountPhase.Change x)) at f waits by = absurd (holds_not_none (holds_level (w.views z)) i f.3 one three is)
  holder_remains z lz live i one three is (Phase.Remounts x) at f waits by = absurd (holds_not_none (holds_level (w.views z)) i f.4 one three is)
  holder_remains z lz live i one three is (Phase.DownReads r) at f waits by = level_open z lz i one is three r f.1 f.4 waits
  holder_remains z lz live i one three is (Phase.Callbacks b) at f waits by = callback_remains b.step by
  holder_remains z lz live i one three is (Phase.Writes (WritePhase.Takes m r)) at f waits by = level_open z lz i one is three r f.0.1 f.0.4 waits
  holder_remains z lz live i one three is (Phase.Writes (WritePhase.Wants x)) at f waits by = hold_remains x.mount by
  holder_remains z lz live i one three is (Phase.Freezes x) at f waits by = absurd (holds_not_none (holds_level (w.views z)) i f.4 one three is)
  holder_remains z lz live i one three is (Phase.Thaws x) at f waits by = absurd (holds_not_none (holds_level (w.views z)) i f.1 one three is)
  holder_remains z lz live i one three is (Phase.Trees (TreePhase.Snapshot x)) at f waits by =
      absurd (holds_not_none (holds_level (w.views z)) i f.1 one three is)
  holder_remains z lz live i one three is (Phase.Closes (ClosePhase.Enters n node r)) at f waits by = level_open z lz i one is three r f.2.1 f.2.4 waits
  holder_remains z lz live i one three is phase at f waits by = absurd (true≢false (sym waits))

  -- who is counted and seeks nothing holds the level
  holds_there : (i z : ℕ) → 1 ≤ counted (level_as_gate (at_level i (w.views z))) → processor_of (level_role_of i (w.views z).phase) ≡ 0 →
      holds_level (w.views z) i ≡ true
  holds_there i z some none =
      elim (cases_Bool (holds_level (w.views z) i)) [
        | inl is ↦ is
        | inr lacks ↦
            let e : held_bit (holds_level (w.views z) i) ≡ held_bit false = ap held_bit lacks in
            let k : unread 0 (level_as_gate (at_level i (w.views z))) ≡ 0 = ap (below 0) none in
            absurd (omega (arith, some, e, k))
      ]

  count_remains : (i : ℕ) → 1 ≤ i → i ≤ 3 → FreezeSums c lost w i → CountIsStuck c lost w i → Remains c lost w
  count_remains i one three sums (z, lz, some, inl idle) =
      inr (inl (i, sums, (z, lz, idle, holds_there i z some (ap (λ p. processor_of (level_role_of i p)) idle))))
  count_remains i one three sums (z, lz, some, inr (inl dead)) = inr (inr (z, lz, dead, inr (inr (inr (inr (i, one, three, some))))))
  count_remains i one three sums (z, lz, some, inr (inr (live, phase, at, waits))) =
      let none : processor_of (level_role_of i (w.views z).phase) ≡ 0 =
      ap (λ p. processor_of (level_role_of i p)) at ∙ waits_out w.words i phase waits in
      holder_remains z lz live i one three (holds_there i z some none) phase at (fits_at c w good z lz phase at) waits
      (each_is_blocked c lost w good all z lz live phase at)

  -- a freeze that closes a level
  closing_remains : (y : ℕ) → y < c.tasks → lost y ≡ false → (x : Freeze) → (w.views y).phase ≡ Some (Phase.Freezes x) → (d : DownWrite) →
      1 ≤ d.level → d.level ≤ 3 → (s : DownWriteStep) → freeze_closing d.level x.step ≡ is_summing d.level d.level s → ClosingIsBlockedBy c lost w d s →
      Remains c lost w
  closing_remains y ly live x at d one three (DownWriteStep.AwaitsSections g) sums by = section_remains g.task by
  closing_remains y ly live x at d one three (DownWriteStep.Sums sum) sums by =
      count_remains d.level one three (y, ly, live, x, at, sums ∙ ap (λ b. if b then 1 else 0) (eq-eqb d.level d.level refl)) by
  closing_remains y ly live x at d one three s sums by = absurd by

  -- a freeze that owns `umount` and has to wait closes a level
  owner_remains : (y : ℕ) → y < c.tasks → lost y ≡ false → (x : Freeze) → (w.views y).phase ≡ Some (Phase.Freezes x) → (s : FreezeStep) →
      x.step ≡ s → FreezeFits c x.holder s → freeze_owns s ≡ 1 → freeze_waits w.words s ≡ true → FreezeIsBlockedBy c lost w s → Remains c lost w
  owner_remains y ly live x at (FreezeStep.Closes d) is fits own waits by =
      closing_remains y ly live x at d fits.0 fits.1 d.step (ap (freeze_closing d.level) is) by
  owner_remains y ly live x at (FreezeStep.Waits d) is fits own waits by =
      closing_remains y ly live x at d fits.0.0 fits.0.1 d.step (ap (freeze_closing d.level) is) by
  owner_remains y ly live x at (FreezeStep.LocksToUndo code) is fits own waits by = absurd (omega (arith, own))
  owner_remains y ly live x at FreezeStep.Locks is fits own waits by = absurd (omega (arith, own))
  owner_remains y ly live x at FreezeStep.LocksAgain is fits own waits by = absurd (omega (arith, own))
  owner_remains y ly live x at s is fits own waits by = absurd (true≢false (sym waits))

  -- whoever owns `umount`
  lock_remains : LockIsStuck c lost w → Remains c lost w
  lock_remains (y, ly, own, inl dead) = inr (inr (y, ly, dead, inl own))
  lock_remains (y, ly, own, inr (live, phase, at, waits)) =
      elim (owner_goes w.words phase (sym (ap owns at) ∙ own)) [
        | inl free ↦ absurd (true≢false (sym waits ∙ free))
        | inr x ↦
            let there : (w.views y).phase ≡ Some (Phase.Freezes x.0) = at ∙ ap Some x.1 in
            let f : PhaseFits c y (held_of (w.views y)) (Phase.Freezes x.0) = fits_at c w good y ly (Phase.Freezes x.0) there in
            owner_remains y ly live x.0 there x.0.step refl f.5 (sym (ap owns there) ∙ own) (all y ly live (Phase.Freezes x.0) there)
            (each_is_blocked c lost w good all y ly live (Phase.Freezes x.0) there)
      ]

  freeze_remains : (y : ℕ) → y < c.tasks → lost y ≡ false → (x : Freeze) → (w.views y).phase ≡ Some (Phase.Freezes x) →
      (s : FreezeStep) → x.step ≡ s → FreezeFits c x.holder s → freeze_waits w.words s ≡ true → FreezeIsBlockedBy c lost w s → Remains c lost w
  freeze_remains y ly live x at (FreezeStep.Closes d) is fits waits by =
      closing_remains y ly live x at d fits.0 fits.1 d.step (ap (freeze_closing d.level) is) by
  freeze_remains y ly live x at (FreezeStep.Waits d) is fits waits by =
      closing_remains y ly live x at d fits.0.0 fits.0.1 d.step (ap (freeze_closing d.level) is) by
  freeze_remains y ly live x at (FreezeStep.LocksToUndo code) is fits waits by = lock_remains by
  freeze_remains y ly live x at FreezeStep.Locks is fits waits by = lock_remains by
  freeze_remains y ly live x at FreezeStep.LocksAgain is fits waits by = lock_remains by
  freeze_remains y ly live x at s is fits waits by = absurd (true≢false (sym waits))

  level_remains : (i : ℕ) → LevelIsStuck c lost w i → Remains c lost w
  level_remains i (inl frozen) = inl frozen
  level_remains i (inr (y, ly, shut, inl dead)) = inr (inr (y, ly, dead, inr (inr (inl (i, shut)))))
  level_remains i (inr (y, ly, shut, inr (live, phase, at, waits))) =
      let x = closer_freezes w.words i phase waits (sym (ap (λ o. closed (sync_role_of i o)) at) ∙ shut) in
      let there : (w.views y).phase ≡ Some (Phase.Freezes x.0) = at ∙ ap Some x.1 in
      let f : PhaseFits c y (held_of (w.views y)) (Phase.Freezes x.0) = fits_at c w good y ly (Phase.Freezes x.0) there in
      freeze_remains y ly live x.0 there x.0.step refl f.5 (all y ly live (Phase.Freezes x.0) there)
      (each_is_blocked c lost w good all y ly live (Phase.Freezes x.0) there)

  phase_remains : (t : ℕ) → t < c.tasks → lost t ≡ false → (phase : Phase) → (w.views t).phase ≡ Some phase →
      PhaseFits c t (held_of (w.views t)) phase → must_wait w.words phase ≡ true → IsBlockedBy c lost w phase → Remains c lost w
  phase_remains t lt live (Phase.Mounts (MountPhase.Want x)) at f waits by = hold_remains x.mount by
  phase_remains t lt live (Phase.Mounts (MountPhase.Change x)) at f waits by = lock_remains by
  phase_remains t lt live (Phase.Remounts x) at f waits by = lock_remains by
  phase_remains t lt live (Phase.DownReads r) at f waits by = level_remains r.level by
  phase_remains t lt live (Phase.Callbacks b) at f waits by = callback_remains b.step by
  phase_remains t lt live (Phase.Writes (WritePhase.Takes m r)) at f waits by = level_remains r.level by
  phase_remains t lt live (Phase.Writes (WritePhase.Wants x)) at f waits by = hold_remains x.mount by
  phase_remains t lt live (Phase.Freezes x) at f waits by = freeze_remains t lt live x at x.step refl f.5 waits by
  phase_remains t lt live (Phase.Thaws x) at f waits by = lock_remains by
  phase_remains t lt live (Phase.Trees (TreePhase.Snapshot x)) at f waits by = lock_remains by
  phase_remains t lt live (Phase.Closes (ClosePhase.Enters n node r)) at f waits by = level_remains r.level by
  phase_remains t lt live phase at f waits by = absurd (true≢false (sym waits))

pub waits_for_remains : (c : Config) (lost : ℕ → Bool) (w : World) → IsGood c w → WaitsForRemains c lost w
waits_for_remains c lost w good all t lt live on =
    phase_remains c lost w good all t lt live on.0 on.1 (fits_at c w good t lt on.0 on.1) (all t lt live on.0 on.1)
    (each_is_blocked c lost w good all t lt live on.0 on.1)
