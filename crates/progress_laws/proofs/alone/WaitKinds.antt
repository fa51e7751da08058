-- Four kinds of phases, by what they may wait for; and which waits a step of each leaves.
use Rattle.progress_laws.proofs.Prelude.{Bool, Callback, CallbackStep, ChangeStep, ClosePhase, DownRead, DownReadStep, DownWrite, DownWriteStep, Err}
use Rattle.progress_laws.proofs.Prelude.{Freeze, FreezeStep, HookAnswer, MountPhase, Next, Ok, Phase, RemountStep, SnapshotStep, ThawStep, Transition}
use Rattle.progress_laws.proofs.Prelude.{TransitionNext, TreePhase, UpWrite, Want, WantStep, WordName, Words, WritePhase, after_closing, after_event}
use Rattle.progress_laws.proofs.Prelude.{after_of, ap, arith, callback_after, callback_next, callback_waits, common_steps, down_read_next}
use Rattle.progress_laws.proofs.Prelude.{down_write_next, eqb_tells, false, found_at, found_by, freeze_after, freeze_next, freeze_waits, has_flag}
use Rattle.progress_laws.proofs.Prelude.{inl, inr, level_closed, load_same, map_next, must_wait, not, read, refl, start_waits, subst, sym, thaw_after}
use Rattle.progress_laws.proofs.Prelude.{thaw_waits, true, true≢false, words_after, ℕ, ◌&&◌, ◌-◌, ◌==◌, ◌∙◌, ◌≡◌, ◌≤◌}
use Rattle.composite_ops.specs.{file_closes.Phases.next as close_next, write_access.Phases.next as write_next}
use Rattle.{cpu_words.specs.{Words.put, declared.events.Touch.Touch}, finite_sums.specs.Sums.update}
use Rattle.freeze_levels.specs.{Freezes.{after_clearing, after_reopening, after_undoing, freeze_fails, freeze_undone}, Thaws.thaw_next}
use Rattle.freeze_levels.specs.declared.thaws.Thaw.{Thaw}
use Rattle.gate_schedules.{proofs.operations.freeze.Closes.by_wait, specs.operations.Progress.is_first_lock}
use Rattle.gated_tree.specs.{Phases.{after as tree_after, next as tree_next, snapshot_after, snapshot_next}, declared.snapshots.Snapshot.Snapshot}
use Rattle.mount_counts.specs.{Phases.{change_after, change_next, want_next}, Remounts.{remount_after, remount_next}, declared.phases.Change.Change}
use Rattle.mount_counts.specs.declared.remounts.Remount.{Remount}
use Rattle.{node_words.specs.declared.marks.ClearMarks.ClearMarks, percpu_rwsem.specs.Transitions.transition_next}
use Rattle.progress_laws.{proofs.nearer.Calls.lock_free, specs.Waiting.{change_waits, remount_waits, snapshot_waits, tree_waits, want_waits}}

abbrev pub callback_kind : CallbackStep → ℕ
callback_kind (CallbackStep.Claims x) = 0
callback_kind s = 1

-- 0 of those that wait for HOLD or for a level; 1 of a callback once it is claimed; 2 of a freeze; 3 of those that wait for `umount` alone, or never
abbrev pub kind : Phase → ℕ
kind (Phase.Mounts (MountPhase.Want x)) = 0
kind (Phase.DownReads r) = 0
kind (Phase.Writes x) = 0
kind (Phase.Closes x) = 0
kind (Phase.Callbacks b) = callback_kind b.step
kind (Phase.Freezes x) = 2
kind phase = 3

-- one of this kind need not wait
abbrev pub goes_of : ℕ → Words → Phase → Bool
goes_of k w phase = (kind phase == k) && not (must_wait w phase)

-- of the second there are callbacks alone
pub is_callback : (phase : Phase) → kind phase ≡ 1 → (b : Callback) × (phase ≡ Phase.Callbacks b)
is_callback (Phase.Callbacks b) is = (b, refl)
is_callback (Phase.Mounts (MountPhase.Change x)) is = absurd (omega (arith, is))
is_callback phase is = absurd (omega (arith, is))

pub goes_is : (k : ℕ) (w : Words) (phase : Phase) → goes_of k w phase ≡ true → (kind phase ≡ k) × (must_wait w phase ≡ false)
goes_is k w phase h = grind arith

pub goes_not : (k : ℕ) (w : Words) (phase : Phase) → goes_of k w phase ≡ false → kind phase ≡ k → must_wait w phase ≡ true
goes_not k w phase h is = grind arith

-- the words of waits but `umount`: no HOLD is cleared, no level opened
pub record KeepsClosed (w after : Words) : Type 0 where
  pub flags : after.flags ≡ w.flags
  pub blocks : (i : ℕ) → (w.block i == 0) ≡ false → (after.block i == 0) ≡ false

want_kept : (w after : Words) → KeepsClosed w after → (x : Want) (s : WantStep) → want_waits w x s ≡ true → want_waits after x s ≡ true
want_kept w after keeps x WantStep.LoadsHold h = ap (λ (f : ℕ → ℕ). x.wait && has_flag (f x.mount) 2) keeps.flags ∙ h
want_kept w after keeps x s h = absurd (true≢false (sym h))

start_kept : (w after : Words) → KeepsClosed w after → (r : DownRead) (s : DownReadStep) → start_waits w r s ≡ true → start_waits after r s ≡ true
start_kept w after keeps r s h = grind arith

grace_kept : (w after : Words) → after.section ≡ w.section → (s : CallbackStep) → callback_waits w s ≡ true → callback_waits after s ≡ true
grace_kept w after same s h = grind arith

-- who waits for HOLD or a level goes on waiting
pub waits_kept : (w after : Words) → KeepsClosed w after → (q : Phase) → kind q ≡ 0 → must_wait w q ≡ true → must_wait after q ≡ true
waits_kept w after keeps (Phase.Mounts (MountPhase.Want x)) is h = want_kept w after keeps x x.step h
waits_kept w after keeps (Phase.DownReads r) is h = start_kept w after keeps r r.step h
waits_kept w after keeps (Phase.Writes (WritePhase.Takes m r)) is h = start_kept w after keeps r r.step h
waits_kept w after keeps (Phase.Writes (WritePhase.Wants x)) is h = want_kept w after keeps x x.step h
waits_kept w after keeps (Phase.Closes (ClosePhase.Enters f node r)) is h = start_kept w after keeps r r.step h
waits_kept w after keeps (Phase.Callbacks b) is h = claims b.step is h
  where
    claims : (s : CallbackStep) → callback_kind s ≡ 0 → callback_waits w s ≡ true → callback_waits after s ≡ true
    claims (CallbackStep.Claims x) is h = absurd (true≢false (sym h))
    claims s is h = absurd (omega (arith, is))
waits_kept w after keeps (Phase.Mounts (MountPhase.Change x)) is h = absurd (omega (arith, is))
waits_kept w after keeps (Phase.Remounts x) is h = absurd (omega (arith, is))
waits_kept w after keeps (Phase.UpReads u) is h = absurd (omega (arith, is))
waits_kept w after keeps (Phase.Freezes x) is h = absurd (omega (arith, is))
waits_kept w after keeps (Phase.Thaws x) is h = absurd (omega (arith, is))
waits_kept w after keeps (Phase.Trees x) is h = absurd (omega (arith, is))
waits_kept w after keeps phase is h = absurd (true≢false (sym h))

-- and who waits for a section, if none has changed
pub graces_kept : (w after : Words) → KeepsClosed w after → after.section ≡ w.section → (q : Phase) → kind q ≤ 1 → must_wait w q ≡ true →
    must_wait after q ≡ true
graces_kept w after keeps same q is h = grind (arith, grace_kept, waits_kept)

-- words that are no HOLD and open no level
abbrev turns_waits : WordName → Bool
turns_waits (WordName.Block i) = true
turns_waits (WordName.MountFlags m) = true
turns_waits name = false

beside_waits : (w : Words) (name : WordName) (v : ℕ) → turns_waits name ≡ false → KeepsClosed w (put w name v)
beside_waits w (WordName.Block i) v h = absurd (true≢false h)
beside_waits w (WordName.MountFlags m) v h = absurd (true≢false h)
beside_waits w name v h = record { flags = refl; blocks = λ i z. z }

load_keeps : (w : Words) (name : WordName) → KeepsClosed w (put w name (read w name))
load_keeps w name = subst (KeepsClosed w) (sym (load_same w name)) (record { flags = refl; blocks = λ i z. z })

want_keeps : (w : Words) (x : Want) (s : WantStep) → KeepsClosed w (after_event w (want_next x s))
want_keeps w x s = grind (arith, load_keeps, beside_waits)

start_keeps : (w : Words) (r : DownRead) (s : DownReadStep) → KeepsClosed w (after_event w (down_read_next r s))
start_keeps w r DownReadStep.LoadsBlock = load_keeps w (WordName.Block r.level)
start_keeps w r s = beside_waits w (down_read_next r s).0 _ refl

write_keeps : (w : Words) (x : WritePhase) → KeepsClosed w (after_event w (write_next x))
write_keeps w x = grind (arith, start_keeps, want_keeps, beside_waits)

close_keeps : (w : Words) (x : ClosePhase) → KeepsClosed w (after_event w (close_next x))
close_keeps w (ClosePhase.Enters f node r) = start_keeps w r r.step
close_keeps w x = beside_waits w (close_next x).0 _ refl

transition_keeps : (w : Words) (level : ℕ) (x : Transition) →
    KeepsClosed w (after_event w (transition_next level x)) × ((after_event w (transition_next level x)).section ≡ w.section)
transition_keeps w level Transition.Loads = (beside_waits w (WordName.Sync level) _ refl, refl)
transition_keeps w level (Transition.Exchanges from to) = (beside_waits w (WordName.Sync level) _ refl, refl)

looks_keep : (w : Words) (t : ℕ) →
    KeepsClosed w (after_event w (WordName.Section t, Touch.Load)) × ((after_event w (WordName.Section t, Touch.Load)).section ≡ w.section)
looks_keep w t = (load_keeps w (WordName.Section t), ap (λ (v : Words). v.section) (load_same w (WordName.Section t)))

callback_keeps : (w : Words) (b : Callback) (s : CallbackStep) →
    KeepsClosed w (after_event w (callback_next b s)) × ((after_event w (callback_next b s)).section ≡ w.section)
callback_keeps w b s = grind (arith, transition_keeps, looks_keep)

-- a step of the first kind clears no HOLD and opens no level
pub quick_keeps : (w : Words) (phase : Phase) (hook : HookAnswer) → kind phase ≡ 0 → KeepsClosed w (words_after w phase hook)
quick_keeps w phase hook is = grind (arith, want_keeps, start_keeps, write_keeps, close_keeps, callback_keeps)

-- what comes next is such
abbrev pub NextIs : {P : Type 0} → (P → Type 0) → Next P → Type 0
NextIs holds (Next.Go q) = holds q
NextIs holds (Next.Wait q) = holds q
NextIs holds (Next.Done answer) = Unit {0}

next_in : {A B : Type 0} (to : A → B) (holds : B → Type 0) (next : Next A) → NextIs (λ x. holds (to x)) next → NextIs holds (map_next to next)
next_in to holds next h = grind arith

pub next_all : {P : Type 0} (holds : P → Type 0) → ((x : P) → holds x) → (next : Next P) → NextIs holds next
next_all holds h next = grind arith

pub next_map : {P : Type 0} (one other : P → Type 0) → ((x : P) → one x → other x) → (next : Next P) → NextIs one next → NextIs other next
next_map one other h next i = grind arith

-- a callback that is claimed changes no section either, and stays so to its end
claimed_next : (b : Callback) (s : CallbackStep) (found : ℕ) → callback_kind s ≡ 1 → NextIs (λ (y : Callback). callback_kind y.step ≡ 1) (callback_after b s found).0
claimed_next b s found is = grind (arith, common_steps)

pub claimed_keeps : (w : Words) (phase : Phase) (hook : HookAnswer) → kind phase ≡ 1 →
    KeepsClosed w (words_after w phase hook) × ((words_after w phase hook).section ≡ w.section) ×
    NextIs (λ q. kind q ≡ 1) (after_of phase (found_at w phase hook) hook).0
claimed_keeps w phase hook is = grind (arith, callback_keeps, next_in, claimed_next)

-- An operation that waits for nobody but the owner of `umount` never waits after a step.
abbrev pub NeverWaits : Phase → Type 0
NeverWaits q = (kind q ≡ 3) × ((w : Words) → must_wait w q ≡ false)

change_goes : (w : Words) (x : Change) (s : ChangeStep) → change_waits w x.wait s ≡ false →
    NextIs (λ (y : Change). (w : Words) → change_waits w y.wait y.step ≡ false) (change_after x s (found_by (change_next x s).1 (read w (change_next x s).0))).0
change_goes w x s free = grind (arith, common_steps)

remount_goes : (w : Words) (x : Remount) (s : RemountStep) (hook : HookAnswer) → remount_waits w s ≡ false →
    NextIs (λ (y : Remount). (w : Words) → remount_waits w y.step ≡ false)
    (remount_after x s (found_by (remount_next x s hook).1 (read w (remount_next x s hook).0)) hook).0
remount_goes w x s hook free = grind (arith, common_steps)

thaw_goes : (w : Words) (x : Thaw) (s : ThawStep) (hook : HookAnswer) → thaw_waits w s ≡ false →
    NextIs (λ (y : Thaw). (w : Words) → thaw_waits w y.step ≡ false)
    (thaw_after x s (found_by (thaw_next x s hook).1 (read w (thaw_next x s hook).0)) hook).0
thaw_goes w x s hook free = grind (arith, common_steps)

snapshot_goes : (w : Words) (x : Snapshot) (s : SnapshotStep) → snapshot_waits w x.wait s ≡ false →
    NextIs (λ (y : Snapshot). (w : Words) → snapshot_waits w y.wait y.step ≡ false)
    (snapshot_after x s (found_by (snapshot_next x s).1 (read w (snapshot_next x s).0))).0
snapshot_goes w x s free = grind (arith, common_steps)

tree_goes : (w : Words) (x : TreePhase) (hook : HookAnswer) → tree_waits w x ≡ false →
    NextIs (λ (y : TreePhase). (w : Words) → tree_waits w y ≡ false) (tree_after x (found_by (tree_next x hook).1 (read w (tree_next x hook).0)) hook).0
tree_goes w (TreePhase.Snapshot x) hook free =
    next_in TreePhase.Snapshot (λ (y : TreePhase). (w : Words) → tree_waits w y ≡ false) _ (snapshot_goes w x x.step free)
tree_goes w x hook free = grind (arith, common_steps)

pub never_next : (w : Words) (phase : Phase) (hook : HookAnswer) → kind phase ≡ 3 → must_wait w phase ≡ false →
    NextIs NeverWaits (after_of phase (found_at w phase hook) hook).0
never_next w (Phase.Mounts (MountPhase.Change x)) hook is free =
    next_in Phase.Mounts NeverWaits _ (next_in MountPhase.Change (λ (y : MountPhase). NeverWaits (Phase.Mounts y)) _
    (next_map (λ (y : Change). (v : Words) → change_waits v y.wait y.step ≡ false) (λ (y : Change). NeverWaits (Phase.Mounts (MountPhase.Change y))) (λ y h. (refl, h)) _
    (change_goes w x x.step free)))
never_next w (Phase.Mounts (MountPhase.Want x)) hook is free = absurd (omega (arith, is))
never_next w (Phase.Mounts x) hook is free = tt
never_next w (Phase.Remounts x) hook is free =
    next_in Phase.Remounts NeverWaits _ (next_map (λ (y : Remount). (v : Words) → remount_waits v y.step ≡ false) (λ (y : Remount). NeverWaits (Phase.Remounts y)) (λ y h. (refl, h)) _
    (remount_goes w x x.step hook free))
never_next w (Phase.Thaws x) hook is free =
    next_in Phase.Thaws NeverWaits _ (next_map (λ (y : Thaw). (v : Words) → thaw_waits v y.step ≡ false) (λ (y : Thaw). NeverWaits (Phase.Thaws y)) (λ y h. (refl, h)) _
    (thaw_goes w x x.step hook free))
never_next w (Phase.Trees x) hook is free = next_in Phase.Trees NeverWaits _ (next_map (λ (y : TreePhase). (v : Words) → tree_waits v y ≡ false) (λ (y : TreePhase). NeverWaits (Phase.Trees y)) (λ y h. (refl, h)) _
    (tree_goes w x hook free))
never_next w (Phase.UpReads u) hook is free = tt
never_next w (Phase.Callbacks b) hook is free = claims b.step is
  where
    claims : {A : Type 0} (s : CallbackStep) → callback_kind s ≡ 3 → A
    claims (CallbackStep.Claims x) is = absurd (omega (arith, is))
    claims s is = absurd (omega (arith, is))
never_next w phase hook is free = absurd (omega (arith, is))

-- A freeze: once a hook has failed it opens its levels, and waits no more, but for `umount` where it has given level 1 up.
abbrev pub is_failing : FreezeStep → Bool
is_failing (FreezeStep.Undoes level transition code) = true
is_failing (FreezeStep.LocksToUndo code) = true
is_failing (FreezeStep.GivesUp level code) = true
is_failing (FreezeStep.Reopens u code) = true
is_failing (FreezeStep.Releases answer) = true
is_failing s = false

-- it does so, or begins to with this answer
abbrev pub fails_now : FreezeStep → HookAnswer → Bool
fails_now (FreezeStep.Waits d) (Err code) = true
fails_now s hook = is_failing s

-- it comes to its first lock only by waiting there, and one that fails goes on failing
abbrev pub FreezeGoes : Bool → Next Freeze → Type 0
FreezeGoes fails next = NextIs (λ (y : Freeze). (is_first_lock y.step ≡ false) × (fails ≡ true → is_failing y.step ≡ true)) next

closed_is : (level nodes : ℕ) → is_first_lock (level_closed level nodes) ≡ false
closed_is level nodes = grind arith

fails_is : (level code : ℕ) → (is_first_lock (freeze_fails level code) ≡ false) × (is_failing (freeze_fails level code) ≡ true)
fails_is level code = grind arith

closing_goes : (x : Freeze) (level : ℕ) (next : Next DownWrite) → FreezeGoes false (after_closing x level next)
closing_goes x level next = grind (arith, by_wait, closed_is)

clearing_goes : (x : Freeze) (next : Next ClearMarks) → FreezeGoes false (after_clearing x next)
clearing_goes x next = grind arith

reopening_goes : (x : Freeze) (level code : ℕ) (next : Next UpWrite) → FreezeGoes true (after_reopening x level code next)
reopening_goes x level code next = grind (arith, fails_is)

undone_is : (level code : ℕ) → (is_first_lock (freeze_undone level code) ≡ false) × (is_failing (freeze_undone level code) ≡ true)
undone_is level code = grind arith

undoing_goes : (x : Freeze) (level code : ℕ) (n : TransitionNext) → FreezeGoes true (after_undoing x level code n)
undoing_goes x level code n = grind (arith, undone_is)

pub freeze_goes : (w : Words) (x : Freeze) (s : FreezeStep) (hook : HookAnswer) → freeze_waits w s ≡ false →
    FreezeGoes (fails_now s hook) (freeze_after x s (found_by (freeze_next x s hook).1 (read w (freeze_next x s hook).0)) hook).0
freeze_goes w x (FreezeStep.Closes d) hook free = closing_goes x d.level _
freeze_goes w x (FreezeStep.Waits d) (Ok answer) free = closing_goes x d.level _
freeze_goes w x (FreezeStep.Waits d) (Err code) free = (refl, λ h. refl)
freeze_goes w x (FreezeStep.Undoes level transition code) hook free = undoing_goes x level code _
freeze_goes w x (FreezeStep.LocksToUndo code) hook free = rw (lock_free w free) (refl, λ h. refl)
freeze_goes w x (FreezeStep.GivesUp level code) hook free = ((fails_is (level - 1) code).0, λ h. (fails_is (level - 1) code).1)
freeze_goes w x (FreezeStep.Reopens u code) hook free = reopening_goes x u.level code _
freeze_goes w x (FreezeStep.Cleans marks) hook free = clearing_goes x _
freeze_goes w x FreezeStep.Locks hook free = rw (lock_free w free) (refl, λ h. absurd (true≢false (sym h)))
freeze_goes w x FreezeStep.LocksAgain hook free = rw (lock_free w free) (refl, λ h. absurd (true≢false (sym h)))
freeze_goes w x s hook free = grind (arith, common_steps)

closing_keeps : (w : Words) (d : DownWrite) (s : DownWriteStep) →
    KeepsClosed w (after_event w (down_write_next d s)) × ((after_event w (down_write_next d s)).section ≡ w.section)
closing_keeps w d (DownWriteStep.Enters x) = transition_keeps w d.level x
closing_keeps w d (DownWriteStep.AwaitsSections g) = looks_keep w g.task
closing_keeps w d (DownWriteStep.CallsBack x) = transition_keeps w d.level x
closing_keeps w d DownWriteStep.AwaitsPassed = (beside_waits w (WordName.Sync d.level) _ refl, refl)
closing_keeps w d DownWriteStep.SetsBlock = (
  record {
    flags = refl;
    blocks = λ i h. elim (eqb_tells i d.level) [
      | inl e ↦ rw (e.0, update) refl
      | inr e ↦ rw (e.0, update) h
    ];
  },
  refl,
)
closing_keeps w d (DownWriteStep.Sums sum) = (beside_waits w (WordName.LevelCount d.level sum.words) _ refl, refl)

-- a step of one that doesn't fail opens no level, and changes no section
pub freeze_keeps : (w : Words) (x : Freeze) (s : FreezeStep) (hook : HookAnswer) → fails_now s hook ≡ false →
    KeepsClosed w (after_event w (freeze_next x s hook)) × ((after_event w (freeze_next x s hook)).section ≡ w.section)
freeze_keeps w x s hook on = grind (arith, closing_keeps, beside_waits)
