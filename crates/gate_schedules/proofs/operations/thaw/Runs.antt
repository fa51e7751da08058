-- Each step of a thaw is one of each level, or leaves it.
use Rattle.gate_schedules.proofs.Prelude.{Config, Err, GateError, HookAnswer, IsGood, IsWithin, Next, None, Ok, Phase, Reply, Some, Thaw, ThawStep}
use Rattle.gate_schedules.proofs.Prelude.{Words, World, after_step, found_at, found_by, holders_in, if◌then◌else◌, is_frozen_whole, map_next}
use Rattle.gate_schedules.proofs.Prelude.{phase_after, read, refl, up_write_after, up_write_next, value_at, view_after, words_after, ℕ, ◌<◌, ◌==◌}
use Rattle.gate_schedules.proofs.Prelude.{◌≡◌}
use Rattle.freeze_levels.specs.{Levels.reopening, Thaws.{at_thaw, thaw_after}}
use Rattle.gate_schedules.proofs.{frames.{Frames.SameLevelWords, OperationLaws.by_bool}, levels.FreezeCompletes.thaws_runs}
use Rattle.gate_schedules.proofs.levels.{LevelPositions.{HasPosition, LevelsRun}, Runs.{levels_stay_runs, up_write_runs}}
use Rattle.gate_schedules.proofs.operations.thaw.Events.{IsHere, here_fits, here_knows, here_stands, idle_stands, opening_stands, thaw_stands}
use Rattle.gate_schedules.proofs.operations.thaw.Fits.{finds_cases}

module _ (c : Config) (lim : IsWithin c) (w : World) (good : IsGood c w) (t : ℕ) (lt : t < c.tasks) (x : Thaw) where
  -- the step of this program point is one of each level
  abbrev Runs : HookAnswer → ThawStep → Type 0
  Runs hook s = LevelsRun c w (after_step w t (Phase.Thaws (at_thaw x s)) hook)

  abbrev words_then : HookAnswer → ThawStep → Words
  words_then hook s = words_after w.words (Phase.Thaws (at_thaw x s)) hook

  -- a step by a thaw that has closed no level, and has none after it, which leaves the words of the levels
  leaves : (hook : HookAnswer) (s : ThawStep) → SameLevelWords w.words (words_then hook s) → HasPosition (w.views t).phase None →
      HasPosition (phase_after (map_next Phase.Thaws (thaw_after x s (found_at w.words (Phase.Thaws (at_thaw x s)) hook) hook).0)) None → Runs hook s
  leaves hook s words was now =
      levels_stay_runs c w t lt (words_then hook s)
      (view_after (w.views t) (Phase.Thaws (at_thaw x s)) (value_at w.words (Phase.Thaws (at_thaw x s)) hook) hook) None words was now

  -- stage 0 is stored, with which the thaw takes all levels over
  sets_unfrozen : (hook : HookAnswer) → IsHere c lim w good t lt x ThawStep.SetsUnfrozen → Runs hook ThawStep.SetsUnfrozen
  sets_unfrozen hook e =
      let k : (w.words.stage ≡ 4) × (w.words.sb ≡ 0) = here_knows c lim w good t lt x ThawStep.SetsUnfrozen e in
      let frozen : is_frozen_whole w.words ≡ 1 = rw (k.0, k.1) refl in
      let phase : Phase = Phase.Thaws (at_thaw x ThawStep.SetsUnfrozen) in
      thaws_runs c lim w good t lt (words_then hook ThawStep.SetsUnfrozen) (view_after (w.views t) phase w.words.stage hook) (assumption)
      (here_stands c lim w good t lt x ThawStep.SetsUnfrozen e) (thaw_stands (at_thaw x (ThawStep.Reopens (reopening 3)))) frozen refl

  -- it is stored that nobody holds a freeze, or `umount` is given back, where the file system refused
  leaves_last : (hook : HookAnswer) → IsHere c lim w good t lt x ThawStep.LeavesLast → Runs hook ThawStep.LeavesLast
  leaves_last (Ok answer) e =
      leaves (Ok answer) ThawStep.LeavesLast (assumption) (here_stands c lim w good t lt x ThawStep.LeavesLast e)
      (thaw_stands (at_thaw x ThawStep.SetsUnfrozen))
  leaves_last (Err code) e =
      leaves (Err code) ThawStep.LeavesLast (assumption) (here_stands c lim w good t lt x ThawStep.LeavesLast e) idle_stands

  thaw_run : (hook : HookAnswer) (s : ThawStep) → IsHere c lim w good t lt x s → Runs hook s
  thaw_run hook ThawStep.Locks e =
      leaves hook ThawStep.Locks (assumption) (here_stands c lim w good t lt x ThawStep.Locks e)
      (by_bool (w.words.umount == 0)
      (λ b. HasPosition (phase_after (map_next Phase.Thaws (if b then Next.Go (at_thaw x ThawStep.LoadsStage) else Next.Wait (at_thaw x ThawStep.Locks)))) None)
      (thaw_stands (at_thaw x ThawStep.LoadsStage)) (thaw_stands (at_thaw x ThawStep.Locks)))
  thaw_run hook ThawStep.LoadsStage e =
      leaves hook ThawStep.LoadsStage (assumption) (here_stands c lim w good t lt x ThawStep.LoadsStage e)
      (by_bool (w.words.stage == 4)
      (λ b. HasPosition (phase_after (map_next Phase.Thaws
      (if b then Next.Go (at_thaw x ThawStep.LoadsHolders) else Next.Go (at_thaw x (ThawStep.Releases (Err GateError.Invalid)))))) None)
      (thaw_stands (at_thaw x ThawStep.LoadsHolders)) (thaw_stands (at_thaw x (ThawStep.Releases (Err GateError.Invalid)))))
  thaw_run hook ThawStep.LoadsHolders e =
      leaves hook ThawStep.LoadsHolders (assumption) (here_stands c lim w good t lt x ThawStep.LoadsHolders e)
      (finds_cases x (holders_in w.words.holders) (λ s. HasPosition (Some (Phase.Thaws (at_thaw x s))) None)
      (λ other. thaw_stands (at_thaw x (ThawStep.Releases (Err GateError.Invalid)))) (λ own alone. thaw_stands (at_thaw x ThawStep.LoadsSuperblock))
      (λ own shared. thaw_stands (at_thaw x (ThawStep.Leaves (holders_in w.words.holders)))))
  thaw_run hook (ThawStep.Leaves held) e =
      leaves hook (ThawStep.Leaves held) (assumption)
      (here_stands c lim w good t lt x (ThawStep.Leaves held) e) (thaw_stands (at_thaw x (ThawStep.Releases (Ok Reply.Unit))))
  thaw_run hook ThawStep.LeavesReadOnly e =
      leaves hook ThawStep.LeavesReadOnly (assumption) (here_stands c lim w good t lt x ThawStep.LeavesReadOnly e)
      (thaw_stands (at_thaw x ThawStep.UnfreezesReadOnly))
  thaw_run hook ThawStep.LeavesLast e = leaves_last hook e
  thaw_run hook ThawStep.LoadsSuperblock e =
      leaves hook ThawStep.LoadsSuperblock (assumption) (here_stands c lim w good t lt x ThawStep.LoadsSuperblock e)
      (by_bool (w.words.sb == 0)
      (λ b. HasPosition (phase_after
      (map_next Phase.Thaws (if b then Next.Go (at_thaw x ThawStep.LeavesLast) else Next.Go (at_thaw x ThawStep.LeavesReadOnly)))) None)
      (thaw_stands (at_thaw x ThawStep.LeavesLast)) (thaw_stands (at_thaw x ThawStep.LeavesReadOnly)))
  thaw_run hook ThawStep.UnfreezesReadOnly e =
      let k : (w.words.stage ≡ 4) × (w.words.sb ≡ 1) = here_knows c lim w good t lt x ThawStep.UnfreezesReadOnly e in
      leaves hook ThawStep.UnfreezesReadOnly
      (record { block_same = refl; level_same = refl; sync_same = refl; section_same = refl; whole_same = rw (k.0, k.1) refl })
      (here_stands c lim w good t lt x ThawStep.UnfreezesReadOnly e) (thaw_stands (at_thaw x (ThawStep.Releases (Ok Reply.Unit))))
  thaw_run hook ThawStep.SetsUnfrozen e = sets_unfrozen hook e
  thaw_run hook (ThawStep.Reopens u) e =
      let phase : Phase = Phase.Thaws (at_thaw x (ThawStep.Reopens u)) in
      up_write_runs c lim w good t lt u (view_after (w.views t) phase (value_at w.words phase hook) hook)
      (here_fits c lim w good t lt x (ThawStep.Reopens u) e).2 (here_stands c lim w good t lt x (ThawStep.Reopens u) e)
      (opening_stands x u.level
      (up_write_after u u.step (found_by (up_write_next u u.step).1 (read w.words (up_write_next u u.step).0))).0)
  thaw_run hook (ThawStep.Releases answer) e =
      leaves hook (ThawStep.Releases answer) (assumption) (here_stands c lim w good t lt x (ThawStep.Releases answer) e) idle_stands

-- each step of a thaw is one of each level
pub thaw_runs : (c : Config) → IsWithin c → (w : World) → IsGood c w → (t : ℕ) → t < c.tasks → (hook : HookAnswer) (x : Thaw) →
    (w.views t).phase ≡ Some (Phase.Thaws x) → LevelsRun c w (after_step w t (Phase.Thaws x) hook)
thaw_runs c lim w good t lt hook x e = thaw_run c lim w good t lt x hook x.step e
