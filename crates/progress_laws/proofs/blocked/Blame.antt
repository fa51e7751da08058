-- Where all have to wait, each is kept by what a lost task left, by an idle task, by a frozen level, or by one that is kept so itself.
use Rattle.progress_laws.proofs.Prelude.{AllWait, AtLevel, Bool, CallbackIsBlockedBy, CallbackStep, ChangeStep, ClosePhase, ClosingIsBlockedBy}
use Rattle.progress_laws.proofs.Prelude.{Config, DownRead, DownReadStep, DownWrite, DownWriteStep, DownWriteStepFits, Freeze, FreezeFits}
use Rattle.progress_laws.proofs.Prelude.{FreezeIsBlockedBy, FreezeStep, Grace, IsGood, MountPhase, None, Option, Phase, PhaseFits, RemountStep}
use Rattle.progress_laws.proofs.Prelude.{SnapshotStep, Some, SyncAt, SyncHoldsIn, ThawStep, TreePhase, Want, WantStep, Words, World, WritePhase, ap}
use Rattle.progress_laws.proofs.Prelude.{arith, at_level, callback_waits, cases_Bool, closed, closing_waits, eqb_tells, false, fits_at, freeze_waits}
use Rattle.progress_laws.proofs.Prelude.{has_flag, held_of, inl, inr, level_as_gate, must_wait, not, owns, refl, start_waits, sym, sync_role_of}
use Rattle.progress_laws.proofs.Prelude.{thaw_waits, total, true, true≢false, ℕ, ◌<◌, ◌==◌, ◌∙◌, ◌≡◌, ◌≤◌, ◌⊎◌}
use Rattle.std.proofs.{Common.◌%◌, lemmas.Bool.and_parts}
use Rattle.{cpu_words.{proofs.gate_counts.Events.words_sum, specs.gate_counts.Gates.counted}, finite_sums.proofs.Totals.{HasPlace, total_place}}
use Rattle.freeze_laws.specs.levels.Roles.{SyncRole}
use Rattle.gate_schedules.proofs.{frames.Owners.{hold_owns, owns_le, who_holds}, operations.deadlocks.WhoCanStep.{HasOwner, has_owner}}
use Rattle.gate_world.specs.{Fits.GraceFits, Levels.inside, Rules.{AtMount, LevelHoldsIn, Sections, role_of}}
use Rattle.mount_counts.{proofs.laws.Bits.hold_set, specs.Roles.has_hold}
use Rattle.progress_laws.specs.LostTasks.{CountIsStuck, EachIsBlockedBy, HoldIsLost, IsBlockedBy, IsStuck, LevelIsStuck, LockIsStuck, SectionIsLost}
use Rattle.progress_laws.specs.Waiting.{change_waits, grace_waits, lock_taken, remount_waits, snapshot_waits, want_waits}

-- an owner of `umount` that has to wait is a freeze
pub owner_goes : (w : Words) (phase : Phase) → owns (Some phase) ≡ 1 → (must_wait w phase ≡ false) ⊎ ((x : Freeze) × (phase ≡ Phase.Freezes x))
owner_goes w phase h = grind arith

-- nobody waits inside a section
inside_goes : (w : Words) (phase : Phase) → inside (Some phase) ≡ 1 → must_wait w phase ≡ false
inside_goes w phase h = grind arith

pub not_zero : (n : ℕ) → not (n == 0) ≡ true → n ≡ 0 → ⊥
not_zero n h e = grind arith

pub nonzero : (n : ℕ) → (n ≡ 0 → ⊥) → 1 ≤ n
nonzero n h = elim (eqb_tells n 0) [ inl e ↦ absurd (h e.1) | inr e ↦ omega (arith, e.1) ]

closed_le : (r : SyncRole) → closed r ≤ 1
closed_le r = grind arith

pub lock_waits : (w : Words) → lock_taken w ≡ true → w.umount ≡ 0 → ⊥
lock_waits w h e = grind arith

change_locks : (w : Words) (wait : Bool) (s : ChangeStep) → change_waits w wait s ≡ true → w.umount ≡ 0 → ⊥
change_locks w wait s h e = grind arith

remount_locks : (w : Words) (s : RemountStep) → remount_waits w s ≡ true → w.umount ≡ 0 → ⊥
remount_locks w s h e = grind arith

thaw_locks : (w : Words) (s : ThawStep) → thaw_waits w s ≡ true → w.umount ≡ 0 → ⊥
thaw_locks w s h e = grind arith

snapshot_locks : (w : Words) (wait : Bool) (s : SnapshotStep) → snapshot_waits w wait s ≡ true → w.umount ≡ 0 → ⊥
snapshot_locks w wait s h e = grind arith

want_finds : (w : Words) (x : Want) (s : WantStep) → want_waits w x s ≡ true → has_flag (w.flags x.mount) 2 ≡ true
want_finds w x s h = grind arith

start_finds : (w : Words) (r : DownRead) (s : DownReadStep) → start_waits w r s ≡ true → w.block r.level ≡ 0 → ⊥
start_finds w r s h e = grind arith

grace_finds : (w : Words) (g : Grace) → grace_waits w g ≡ true → w.section g.task % 2 ≡ 1
grace_finds w g h = grind arith

module _ (c : Config) (lost : ℕ → Bool) (w : World) (good : IsGood c w) (all : AllWait c lost w) where
  -- who is under way is lost, or has to wait
  stuck : (y : ℕ) → y < c.tasks → (phase : Phase) → (w.views y).phase ≡ Some phase → IsStuck lost w y
  stuck y ly phase at =
      elim (cases_Bool (lost y)) [ inl dead ↦ inl dead | inr live ↦ inr (live, phase, at, all y ly live phase at) ]

  -- and is lost, if it needn't wait
  lost_if : (y : ℕ) → y < c.tasks → (phase : Phase) → (w.views y).phase ≡ Some phase → must_wait w.words phase ≡ false → lost y ≡ true
  lost_if y ly phase at free =
      elim (cases_Bool (lost y)) [ inl dead ↦ dead | inr live ↦ absurd (true≢false (sym (all y ly live phase at) ∙ free)) ]

  pub lock_stuck : (w.words.umount ≡ 0 → ⊥) → LockIsStuck c lost w
  lock_stuck taken =
      let u : HasOwner c w = has_owner c w good taken in
      (u.task, u.there, ap owns u.at ∙ u.owner, stuck u.task u.there u.phase u.at)

  hold_lost : (t : ℕ) → t < c.tasks → owns (w.views t).phase ≡ 0 → (m : ℕ) → m < c.mounts → has_flag (w.words.flags m) 2 ≡ true → HoldIsLost c lost w m
  hold_lost t lt none m lm set =
      let mine : has_hold (role_of m (w.views t).phase) ≡ 0 = omega (arith, hold_owns m (w.views t).phase, none) in
      let who : (y : ℕ) × (y < c.tasks) × (y ≡ t → ⊥) × (has_hold (role_of m (w.views y).phase) ≡ 1) =
      who_holds c w good t lt m lm (hold_set (w.words.flags m) (good (AtMount m) lm).bits set) mine in
      (who.0, who.1, holder who.0 (w.views who.0).phase refl who.1 who.3, who.3)
    where
      holder : (y : ℕ) (p : Option Phase) → (w.views y).phase ≡ p → y < c.tasks → has_hold (role_of m p) ≡ 1 → lost y ≡ true
      holder y None at ly h = absurd (omega (arith, h))
      holder y (Some phase) at ly h =
          let own : owns (Some phase) ≡ 1 = omega (arith, h, hold_owns m (Some phase), owns_le (Some phase)) in
          elim (owner_goes w.words phase own) [
            | inl free ↦ lost_if y ly phase at free
            | inr x ↦ absurd (omega (arith, h, ap (λ q. has_hold (role_of m (Some q))) x.1))
          ]

  section_lost : (g : Grace) → g.task < c.tasks → grace_waits w.words g ≡ true → SectionIsLost c lost w g.task
  section_lost g ly waits =
      let here : inside (w.views g.task).phase ≡ 1 = sym (good Sections g.task ly) ∙ grace_finds w.words g waits in
      (ly, within (w.views g.task).phase refl here, here)
    where
      within : (p : Option Phase) → (w.views g.task).phase ≡ p → inside p ≡ 1 → lost g.task ≡ true
      within None at h = absurd (omega (arith, h))
      within (Some phase) at h = lost_if g.task ly phase at (inside_goes w.words phase h)

  level_stuck : (i : ℕ) → 1 ≤ i → i ≤ 3 → (w.words.block i ≡ 0 → ⊥) → LevelIsStuck c lost w i
  level_stuck i one three set =
      let s : SyncHoldsIn c w i = good (SyncAt i) one three in
      let l : LevelHoldsIn c w i = good (AtLevel i) one three in
      elim (eqb_tells (total c.tasks (λ y. closed (sync_role_of i (w.views y).phase))) 0) [
        | inl none ↦ inl (omega (arith, none.1, s.holds.blocked, l.known, nonzero (w.words.block i) set))
        | inr some ↦
            let y : HasPlace c.tasks (λ y. closed (sync_role_of i (w.views y).phase)) =
            total_place c.tasks (λ y. closed (sync_role_of i (w.views y).phase)) some.1 in
            inr (y.0, y.1, omega (arith, closed_le (sync_role_of i (w.views y.0).phase), nonzero _ y.2), closer y.0 (w.views y.0).phase refl y.1 y.2)
      ]
    where
      closer : (y : ℕ) (p : Option Phase) → (w.views y).phase ≡ p → y < c.tasks → (closed (sync_role_of i p) ≡ 0 → ⊥) → IsStuck lost w y
      closer y None at ly h = absurd (h refl)
      closer y (Some phase) at ly h = stuck y ly phase at

  count_stuck : (i : ℕ) → 1 ≤ i → i ≤ 3 → (total c.processors (w.words.level i) % 18446744073709551616 ≡ 0 → ⊥) → CountIsStuck c lost w i
  count_stuck i one three some =
      let l : LevelHoldsIn c w i = good (AtLevel i) one three in
      let y : HasPlace c.tasks (λ y. counted (level_as_gate (at_level i (w.views y)))) =
      total_place c.tasks (λ y. counted (level_as_gate (at_level i (w.views y)))) (λ none. some (omega (arith, words_sum l.gate.counts, none))) in
      (y.0, y.1, nonzero _ y.2, who y.0 (w.views y.0).phase refl y.1)
    where
      who : (y : ℕ) (p : Option Phase) → (w.views y).phase ≡ p → y < c.tasks → ((w.views y).phase ≡ None) ⊎ IsStuck lost w y
      who y None at ly = inl at
      who y (Some phase) at ly = inr (stuck y ly phase at)

  closing_blocked : (d : DownWrite) (s : DownWriteStep) → 1 ≤ d.level → d.level ≤ 3 → d.processors ≡ c.processors → DownWriteStepFits c s →
      closing_waits w.words d s ≡ true → ClosingIsBlockedBy c lost w d s
  closing_blocked d s one three processors fits waits = grind (arith, section_lost, count_stuck, not_zero, and_parts)

  freeze_blocked : (x : Freeze) (s : FreezeStep) → FreezeFits c x.holder s → freeze_waits w.words s ≡ true → FreezeIsBlockedBy c lost w s
  freeze_blocked x s fits waits = grind (arith, lock_stuck, lock_waits, closing_blocked)

  callback_blocked : (s : CallbackStep) → GraceFits c.tasks s → callback_waits w.words s ≡ true → CallbackIsBlockedBy c lost w s
  callback_blocked (CallbackStep.AwaitsSections g) fits waits = section_lost g (omega (arith, fits.0, fits.1)) waits
  callback_blocked s fits waits = absurd (true≢false (sym waits))

  module _ (t : ℕ) (lt : t < c.tasks) where
    phase_blocked : (phase : Phase) → (w.views t).phase ≡ Some phase → PhaseFits c t (held_of (w.views t)) phase → must_wait w.words phase ≡ true →
        IsBlockedBy c lost w phase
    phase_blocked (Phase.Mounts (MountPhase.Want x)) at f waits = hold_lost t lt (ap owns at) x.mount f.0 (want_finds w.words x x.step waits)
    phase_blocked (Phase.Mounts (MountPhase.Change x)) at f waits = lock_stuck (change_locks w.words x.wait x.step waits)
    phase_blocked (Phase.Remounts x) at f waits = lock_stuck (remount_locks w.words x.step waits)
    phase_blocked (Phase.DownReads r) at f waits = level_stuck r.level f.0 f.1 (start_finds w.words r r.step waits)
    phase_blocked (Phase.Callbacks b) at f waits = callback_blocked b.step f.3 waits
    phase_blocked (Phase.Writes (WritePhase.Takes m r)) at f waits = level_stuck r.level f.0.0 f.0.1 (start_finds w.words r r.step waits)
    phase_blocked (Phase.Writes (WritePhase.Wants x)) at f waits = hold_lost t lt (ap owns at) x.mount f.0.0 (want_finds w.words x x.step waits)
    phase_blocked (Phase.Freezes x) at f waits = freeze_blocked x x.step f.5 waits
    phase_blocked (Phase.Thaws x) at f waits = lock_stuck (thaw_locks w.words x.step waits)
    phase_blocked (Phase.Trees (TreePhase.Snapshot x)) at f waits = lock_stuck (snapshot_locks w.words x.wait x.step waits)
    phase_blocked (Phase.Closes (ClosePhase.Enters n node r)) at f waits = level_stuck r.level f.2.0 f.2.1 (start_finds w.words r r.step waits)
    phase_blocked phase at f waits = absurd (true≢false (sym waits))

pub each_is_blocked : (c : Config) (lost : ℕ → Bool) (w : World) → IsGood c w → EachIsBlockedBy c lost w
each_is_blocked c lost w good all t lt live phase at =
    phase_blocked c lost w good all t lt phase at (fits_at c w good t lt phase at) (all t lt live phase at)
