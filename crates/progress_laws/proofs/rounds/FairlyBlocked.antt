-- With no task lost, an operation that has to wait is blocked.
use Rattle.progress_laws.proofs.Prelude.{AllWait, AtLevel, Bool, CallbackIsBlockedBy, CallbackStep, ChangeStep, ClosePhase, ClosingIsBlockedBy}
use Rattle.progress_laws.proofs.Prelude.{Config, DownRead, DownReadStep, DownWrite, DownWriteStep, Freeze, FreezeFits, FreezeIsBlockedBy, FreezeStep}
use Rattle.progress_laws.proofs.Prelude.{IsGood, IsWithin, MountPhase, Option, Phase, PhaseFits, RemountStep, SnapshotStep, Some, ThawStep, TreePhase}
use Rattle.progress_laws.proofs.Prelude.{Words, World, WritePhase, ap, arith, at_freeze, at_level, cases_Bool, false, fits_at, freeze_owns}
use Rattle.progress_laws.proofs.Prelude.{freeze_waits, held_of, if◌then◌else◌, inl, inr, level_as_gate, must_wait, nat_lt, owns, refl, start_waits}
use Rattle.progress_laws.proofs.Prelude.{subst, sym, thaw_waits, true, true≢false, turns_left, ℕ, ◌<◌, ◌∙◌, ◌≡◌, ◌≤◌}
use Rattle.std.proofs.lemmas.Bool.{ltb-true}
use Rattle.cpu_words.specs.gate_counts.{Gates.{below, counted, unread}, Levels.processor_of}
use Rattle.gate_schedules.proofs.{levels.Counts.held_bit, operations.deadlocks.WhoCanStep.{holds_below, holds_not_none, open_above}}
use Rattle.gate_schedules.specs.operations.Progress.{AllAreBlocked, BlockedIfFreeze, ChangeIsBlocked, FreezeIsBlocked, HeldLevelAhead, IsBlockedAt}
use Rattle.gate_schedules.specs.operations.Progress.{IsHeldIdle, LockIsBlocked, RemountIsBlocked, SnapshotIsBlocked, StartIsBlocked, ThawIsBlocked}
use Rattle.gate_schedules.specs.operations.Progress.{is_admitted, is_first_lock, next_level}
use Rattle.gate_world.specs.{Fits.ReadStepFits, Levels.level_role_of, Operations.holds_none_from, Views.holds_level}
use Rattle.progress_laws.proofs.blocked.Blame.{each_is_blocked, lock_stuck, lock_waits, nonzero, owner_goes}
use Rattle.progress_laws.proofs.{blocked.OneFreeze.{freezing_at, one_freezes, owner_later}, rounds.{Measured.rounds_good, Rounds.settles_fairly}}
use Rattle.progress_laws.specs.{FairRounds.{BlockedAfterRounds, nobody, run_all}, LostTasks.{CountIsStuck, HoldIsLost, LockIsStuck}}
use Rattle.progress_laws.specs.Waiting.{change_waits, lock_taken, remount_waits, snapshot_waits}

abbrev as_number : Bool → ℕ
as_number b = if b then 1 else 0

-- who has to wait seeks no access at a level
pub waits_out : (w : Words) (i : ℕ) (phase : Phase) → must_wait w phase ≡ true → processor_of (level_role_of i (Some phase)) ≡ 0
waits_out w i phase h = grind arith

-- a start that has to wait holds no level from its own up
pub enters_fits : (w : Words) (r : DownRead) (s : DownReadStep) (levels : ℕ → Bool) → start_waits w r s ≡ true → ReadStepFits r.level levels s →
    holds_none_from r.level levels ≡ true
enters_fits w r s levels waits f = grind arith

pub start_wait : (w : Words) (r : DownRead) (s : DownReadStep) → start_waits w r s ≡ true → (r.wait ≡ true) × (is_admitted s ≡ false) × (w.block r.level ≡ 0 → ⊥)
start_wait w r s waits = grind arith

change_wait : (w : Words) (wait : Bool) (s : ChangeStep) → change_waits w wait s ≡ true → (s ≡ ChangeStep.Locks) × (wait ≡ true) × (lock_taken w ≡ true)
change_wait w wait s waits = grind arith

remount_wait : (w : Words) (s : RemountStep) → remount_waits w s ≡ true → (s ≡ RemountStep.Locks) × (lock_taken w ≡ true)
remount_wait w s waits = grind arith

thaw_wait : (w : Words) (s : ThawStep) → thaw_waits w s ≡ true → (s ≡ ThawStep.Locks) × (lock_taken w ≡ true)
thaw_wait w s waits = grind arith

snapshot_wait : (w : Words) (wait : Bool) (s : SnapshotStep) → snapshot_waits w wait s ≡ true →
    (s ≡ SnapshotStep.Locks) × (wait ≡ true) × (lock_taken w ≡ true)
snapshot_wait w wait s waits = grind arith

module _ (c : Config) (w : World) (good : IsGood c w) (all : AllWait c nobody w) where
  none_lost : {A : Type 0} (y : ℕ) → nobody y ≡ true → A
  none_lost y h = absurd (true≢false (sym h))

  section_kept : {A : Type 0} (s : CallbackStep) → CallbackIsBlockedBy c nobody w s → A
  section_kept (CallbackStep.AwaitsSections g) h = none_lost g.task h.1
  section_kept s h = absurd h

  level_open : (z : ℕ) → z < c.tasks → (i : ℕ) → 1 ≤ i → holds_level (w.views z) i ≡ true → i ≤ 3 → (r : DownRead) → r.level ≤ 3 →
      ReadStepFits r.level (holds_level (w.views z)) r.step → start_waits w.words r r.step ≡ true → ⊥
  level_open z lz i one is three r high f waits =
      let above : i < r.level =
      holds_below (holds_level (w.views z)) i r.level (enters_fits w.words r r.step (holds_level (w.views z)) waits f) one three is in
      (start_wait w.words r r.step waits).2 (open_above c w good i r.level z one above high lz is)

  -- nobody who has to wait holds a level that a freeze closes
  waiter : (z : ℕ) → z < c.tasks → (i : ℕ) → 1 ≤ i → i ≤ 3 → holds_level (w.views z) i ≡ true → (phase : Phase) → (w.views z).phase ≡ Some phase →
      PhaseFits c z (held_of (w.views z)) phase → must_wait w.words phase ≡ true → ⊥
  waiter z lz i one three is (Phase.Mounts (MountPhase.Want x)) at f waits =
      let h : HoldIsLost c nobody w x.mount = each_is_blocked c nobody w good all z lz refl (Phase.Mounts (MountPhase.Want x)) at in none_lost h.0 h.2
  waiter z lz i one three is (Phase.Mounts (MountPhase.Change x)) at f waits = holds_not_none (holds_level (w.views z)) i f.3 one three is
  waiter z lz i one three is (Phase.Remounts x) at f waits = holds_not_none (holds_level (w.views z)) i f.4 one three is
  waiter z lz i one three is (Phase.DownReads r) at f waits = level_open z lz i one is three r f.1 f.4 waits
  waiter z lz i one three is (Phase.Callbacks b) at f waits =
      section_kept b.step (each_is_blocked c nobody w good all z lz refl (Phase.Callbacks b) at)
  waiter z lz i one three is (Phase.Writes (WritePhase.Takes m r)) at f waits = level_open z lz i one is three r f.0.1 f.0.4 waits
  waiter z lz i one three is (Phase.Writes (WritePhase.Wants x)) at f waits =
      let h : HoldIsLost c nobody w x.mount = each_is_blocked c nobody w good all z lz refl (Phase.Writes (WritePhase.Wants x)) at in none_lost h.0 h.2
  waiter z lz i one three is (Phase.Freezes x) at f waits = holds_not_none (holds_level (w.views z)) i f.4 one three is
  waiter z lz i one three is (Phase.Thaws x) at f waits = holds_not_none (holds_level (w.views z)) i f.1 one three is
  waiter z lz i one three is (Phase.Trees (TreePhase.Snapshot x)) at f waits = holds_not_none (holds_level (w.views z)) i f.1 one three is
  waiter z lz i one three is (Phase.Closes (ClosePhase.Enters n node r)) at f waits = level_open z lz i one is three r f.2.1 f.2.4 waits
  waiter z lz i one three is phase at f waits = true≢false (sym waits)

  -- who is counted and seeks nothing holds the level
  holds_there : (i z : ℕ) → 1 ≤ counted (level_as_gate (at_level i (w.views z))) → processor_of (level_role_of i (w.views z).phase) ≡ 0 →
      holds_level (w.views z) i ≡ true
  holds_there i z some none =
      elim (cases_Bool (holds_level (w.views z) i)) [
        | inl is ↦ is
        | inr lacks ↦
            let e : held_bit (holds_level (w.views z) i) ≡ held_bit false = ap held_bit lacks in
            let k : unread 0 (level_as_gate (at_level i (w.views z))) ≡ 0 = ap (below 0) none in
            absurd (omega (arith, some, e, k))
      ]

  -- who is counted at a level that is summed is idle
  count_kept : (i : ℕ) → 1 ≤ i → i ≤ 3 → CountIsStuck c nobody w i → IsHeldIdle c w i
  count_kept i one three (z, lz, some, inl idle) =
      (z, lz, idle, holds_there i z some (ap (λ p. processor_of (level_role_of i p)) idle))
  count_kept i one three (z, lz, some, inr (inl dead)) = none_lost z dead
  count_kept i one three (z, lz, some, inr (inr (live, phase, at, waits))) =
      let none : processor_of (level_role_of i (w.views z).phase) ≡ 0 =
      ap (λ p. processor_of (level_role_of i p)) at ∙ waits_out w.words i phase waits in
      absurd (waiter z lz i one three (holds_there i z some none) phase at (fits_at c w good z lz phase at) waits)

  closing_kept : (d : DownWrite) (s : DownWriteStep) → 1 ≤ d.level → d.level ≤ 3 → ClosingIsBlockedBy c nobody w d s → IsHeldIdle c w d.level
  closing_kept d s one three h = grind (arith, none_lost, count_kept)

  second : (level : ℕ) → as_number (nat_lt 1 level) ≡ 1 → 2 ≤ level
  second level o = elim (cases_Bool (nat_lt 1 level)) [
    | inl l ↦ omega (arith, ltb-true 1 level l)
    | inr l ↦ absurd (omega (arith, o, ap as_number l))
  ]

  -- a freeze that owns `umount` and has to wait is blocked
  owner_kept : (x : Freeze) (s : FreezeStep) → FreezeFits c x.holder s → freeze_owns s ≡ 1 → freeze_waits w.words s ≡ true →
      FreezeIsBlockedBy c nobody w s → (2 ≤ next_level w.words s) × HeldLevelAhead c w s
  owner_kept x s fits own waits h = grind (arith, second, closing_kept)

  lock_kept : LockIsStuck c nobody w → LockIsBlocked c w
  lock_kept (y, ly, own, inl dead) = none_lost y dead
  lock_kept (y, ly, own, inr (live, phase, at, waits)) =
      let mine : owns (Some phase) ≡ 1 = sym (ap owns at) ∙ own in
      elim (owner_goes w.words phase mine) [
        | inl free ↦ absurd (true≢false (sym waits ∙ free))
        | inr x ↦
            let there : (w.views y).phase ≡ Some (Phase.Freezes x.0) = at ∙ ap Some x.1 in
            let f : PhaseFits c y (held_of (w.views y)) (Phase.Freezes x.0) = fits_at c w good y ly (Phase.Freezes x.0) there in
            let o : freeze_owns x.0.step ≡ 1 = sym (ap owns there) ∙ own in
            let v : freeze_waits w.words x.0.step ≡ true = all y ly refl (Phase.Freezes x.0) there in (
              y,
              ly,
              own,
              subst (BlockedIfFreeze c w) (sym there)
                  (owner_kept x.0 x.0.step f.5 o v (each_is_blocked c nobody w good all y ly refl (Phase.Freezes x.0) there)),
            )
      ]

  -- one that has given level 1 up finds it free: an owner that has to wait would be a freeze at a stage of its own
  undo_free : (t : ℕ) → t < c.tasks → (x : Freeze) → (w.views t).phase ≡ Some (Phase.Freezes x) → freeze_owns x.step ≡ 0 → is_first_lock x.step ≡ false →
      freeze_waits w.words x.step ≡ true → LockIsStuck c nobody w → ⊥
  undo_free t lt x at none first waits (y, ly, own, inl dead) = none_lost y dead
  undo_free t lt x at none first waits (y, ly, own, inr (live, phase, there, stuck)) =
      elim (owner_goes w.words phase (sym (ap owns there) ∙ own)) [
        | inl free ↦ true≢false (sym stuck ∙ free)
        | inr z ↦
            let here : (w.views y).phase ≡ Some (Phase.Freezes z.0) = there ∙ ap Some z.1 in
            let its : freeze_owns z.0.step ≡ 1 = sym (ap owns here) ∙ own in
            let same : y ≡ t =
            one_freezes c w good t y lt ly (freezing_at c w good t x at waits first)
            (freezing_at c w good y z.0 here (all y ly refl (Phase.Freezes z.0) here) (owner_later z.0.step its)) in
            omega (arith, own, none, ap (λ u. owns (w.views u).phase) same, ap owns at)
      ]

  lock_of : lock_taken w.words ≡ true → LockIsBlocked c w
  lock_of taken = lock_kept (lock_stuck c nobody w good all (lock_waits w.words taken))

  -- the level that keeps it keeps each freeze that is behind level 1
  kept_behind : (p : Option Phase) → BlockedIfFreeze c w p → HeldLevelAhead c w FreezeStep.LocksAgain
  kept_behind (Some (Phase.Freezes x)) h = (h.1.0, omega (arith, h.0, h.1.1), h.1.2, h.1.3)
  kept_behind p h = absurd h

  freeze_kept : (t : ℕ) → t < c.tasks → (x : Freeze) (s : FreezeStep) → (w.views t).phase ≡ Some (Phase.Freezes (at_freeze x s)) → FreezeFits c x.holder s →
      freeze_waits w.words s ≡ true → FreezeIsBlockedBy c nobody w s → FreezeIsBlocked c w s
  freeze_kept t lt x FreezeStep.Locks at fits waits h = inl (lock_of waits)
  freeze_kept t lt x (FreezeStep.Closes d) at fits waits h = (d.level, omega arith, fits.1, closing_kept d d.step fits.0 fits.1 h)
  freeze_kept t lt x (FreezeStep.Waits d) at fits waits h = (d.level, omega arith, fits.0.1, closing_kept d d.step fits.0.0 fits.0.1 h)
  freeze_kept t lt x (FreezeStep.LocksToUndo code) at fits waits h =
      absurd (undo_free t lt (at_freeze x (FreezeStep.LocksToUndo code)) at refl refl waits h)
  freeze_kept t lt x FreezeStep.LocksAgain at fits waits h = let l : LockIsBlocked c w = lock_of waits in kept_behind (w.views l.0).phase l.3
  freeze_kept t lt x s at fits waits h = absurd (true≢false (sym waits))

  start_kept : (r : DownRead) → 1 ≤ r.level → r.level ≤ 3 → start_waits w.words r r.step ≡ true → StartIsBlocked w r
  start_kept r one three waits =
      let h = start_wait w.words r r.step waits in
      (h.0, h.1, omega (arith, nonzero (w.words.block r.level) h.2, (good (AtLevel r.level) one three).known))

  -- so each is blocked
  phase_kept : (t : ℕ) → t < c.tasks → (phase : Phase) → (w.views t).phase ≡ Some phase → PhaseFits c t (held_of (w.views t)) phase →
      must_wait w.words phase ≡ true → IsBlockedAt c w phase
  phase_kept t lt (Phase.Mounts (MountPhase.Want x)) at f waits =
      let h : HoldIsLost c nobody w x.mount = each_is_blocked c nobody w good all t lt refl (Phase.Mounts (MountPhase.Want x)) at in none_lost h.0 h.2
  phase_kept t lt (Phase.Mounts (MountPhase.Change x)) at f waits =
      let h = change_wait w.words x.wait x.step waits in
      subst (λ s. ChangeIsBlocked c w s x.wait) (sym h.0) (h.1, lock_of h.2)
  phase_kept t lt (Phase.Remounts x) at f waits =
      let h = remount_wait w.words x.step waits in subst (RemountIsBlocked c w) (sym h.0) (lock_of h.1)
  phase_kept t lt (Phase.DownReads r) at f waits = start_kept r f.0 f.1 waits
  phase_kept t lt (Phase.Callbacks b) at f waits =
      section_kept b.step (each_is_blocked c nobody w good all t lt refl (Phase.Callbacks b) at)
  phase_kept t lt (Phase.Writes (WritePhase.Takes m r)) at f waits = start_kept r f.0.0 f.0.1 waits
  phase_kept t lt (Phase.Writes (WritePhase.Wants x)) at f waits =
      let h : HoldIsLost c nobody w x.mount = each_is_blocked c nobody w good all t lt refl (Phase.Writes (WritePhase.Wants x)) at in none_lost h.0 h.2
  phase_kept t lt (Phase.Freezes x) at f waits =
      freeze_kept t lt x x.step at f.5 waits (each_is_blocked c nobody w good all t lt refl (Phase.Freezes x) at)
  phase_kept t lt (Phase.Thaws x) at f waits =
      let h = thaw_wait w.words x.step waits in subst (ThawIsBlocked c w) (sym h.0) (lock_of h.1)
  phase_kept t lt (Phase.Trees (TreePhase.Snapshot x)) at f waits =
      let h = snapshot_wait w.words x.wait x.step waits in
      subst (λ s. SnapshotIsBlocked c w s x.wait) (sym h.0) (h.1, lock_of h.2)
  phase_kept t lt (Phase.Closes (ClosePhase.Enters n node r)) at f waits = start_kept r f.2.0 f.2.1 waits
  phase_kept t lt phase at f waits = absurd (true≢false (sym waits))

  pub all_blocked : AllAreBlocked c w
  all_blocked t lt phase at = phase_kept t lt phase at (fits_at c w good t lt phase at) (all t lt refl phase at)

pub blocked_after : (c : Config) → IsWithin c → (w : World) → IsGood c w → BlockedAfterRounds c (turns_left c w) w
blocked_after c lim w good rounds are patient le =
    all_blocked c (run_all c w rounds) (rounds_good c lim nobody rounds w good) (settles_fairly c lim nobody w good rounds are patient le)
