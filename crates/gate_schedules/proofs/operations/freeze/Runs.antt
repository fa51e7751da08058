-- Each step of a freeze is one of each level, or leaves it.
use Rattle.gate_schedules.proofs.Prelude.{ClearMarks, Config, Err, Freeze, FreezeStep, GateError, HookAnswer, IsGood, IsWithin, LevelPosition, Next}
use Rattle.gate_schedules.proofs.Prelude.{None, Ok, Option, Phase, Reply, Some, Stages, Transition, UpWriteStep, Words, World, after_step, ap, arith}
use Rattle.gate_schedules.proofs.Prelude.{at_freeze, closed_to, down_write_role, found_at, holders_in, if◌then◌else◌, map_next, node_after, on_exit}
use Rattle.gate_schedules.proofs.Prelude.{phase_after, refl, stage_role_of, subst, transition_after, value_at, view_after, words_after, ℕ, ◌-◌, ◌<◌}
use Rattle.gate_schedules.proofs.Prelude.{◌==◌, ◌≡◌}
use Rattle.{access_model.specs.Holders.nobody, freeze_laws.{proofs.stages.Facts.at_level, specs.stages.Roles.{has_position, is_full}}}
use Rattle.freeze_levels.specs.Freezes.{after_clearing, freeze_after, freeze_closes, freeze_fails, freeze_locked}
use Rattle.{gate_world.specs.{Fits.DownWriteFits, Roles.{down_count_role, open_from}}, node_words.specs.Phases.clears_at}
use Rattle.percpu_rwsem.specs.Writers.{sum_begun}
use Rattle.gate_schedules.proofs.{frames.{Frames.SameLevelWords, OperationLaws.by_bool}, levels.DownWrite.entered_by_nobody}
use Rattle.gate_schedules.proofs.levels.{FreezeCompletes.freezes_runs, GivenUp.summing_at, LevelPositions.{HasPosition, LevelsRun}}
use Rattle.gate_schedules.proofs.levels.PositionRoles.{closing_first, closing_next, closing_says, closing_says_none, stands_so}
use Rattle.gate_schedules.proofs.levels.Runs.{down_write_runs, levels_stay_runs, unblocked_runs, up_write_runs}
use Rattle.gate_schedules.proofs.operations.freeze.Closes.{after_closing_stands, stands_then as stands_closing}
use Rattle.gate_schedules.proofs.operations.freeze.{Events.stands_then as stands_reopening, Fits.found_cases, GivesUp.undone_stands}
use Rattle.gate_schedules.proofs.operations.freeze.Stages.{IsHere, freeze_stands, here_fits, here_knows, here_stands, idle_stands}

-- with level 2 closed, a freeze clears another mark or asks the file system for its sync
cleared_stands : (x : Freeze) (marks : ClearMarks) (node : Option ℕ) →
    HasPosition (phase_after (map_next Phase.Freezes (after_clearing x (clears_at marks node)))) (Some (closed_to 2))
cleared_stands x marks next = grind arith

-- an attempt at `umount` leaves how a freeze stands with the levels, where the step that it is for stands so
locked_stands : (x : Freeze) (again step : FreezeStep) (found : ℕ) (stand : Option LevelPosition) →
    HasPosition (Some (Phase.Freezes (at_freeze x again))) stand → HasPosition (Some (Phase.Freezes (at_freeze x step))) stand →
    HasPosition (phase_after (map_next Phase.Freezes (freeze_locked x again found step))) stand
locked_stands x again step found stand vain won = grind arith

-- so does a load, of which two steps may come
found_stands : (x : Freeze) (some other : FreezeStep) (found : ℕ) (stand : Option LevelPosition) →
    HasPosition (Some (Phase.Freezes (at_freeze x some))) stand → HasPosition (Some (Phase.Freezes (at_freeze x other))) stand →
    HasPosition (phase_after (map_next Phase.Freezes (if found == 0 then Next.Go (at_freeze x some) else Next.Go (at_freeze x other)))) stand
found_stands x some other found stand first second = grind arith

module _ (c : Config) (lim : IsWithin c) (w : World) (good : IsGood c w) (t : ℕ) (lt : t < c.tasks) (x : Freeze) where
  -- the step of this program point is one of each level
  abbrev Runs : HookAnswer → FreezeStep → Type 0
  Runs hook s = LevelsRun c w (after_step w t (Phase.Freezes (at_freeze x s)) hook)

  abbrev words_then : HookAnswer → FreezeStep → Words
  words_then hook s = words_after w.words (Phase.Freezes (at_freeze x s)) hook

  -- a step that leaves the words of the levels, and how the freeze stands with them
  leaves : (hook : HookAnswer) (s : FreezeStep) (stand : Option LevelPosition) → SameLevelWords w.words (words_then hook s) →
      HasPosition (w.views t).phase stand →
      HasPosition (phase_after (map_next Phase.Freezes (freeze_after x s (found_at w.words (Phase.Freezes (at_freeze x s)) hook) hook).0)) stand →
      Runs hook s
  leaves hook s stand words was now =
      levels_stay_runs c w t lt (words_then hook s)
      (view_after (w.views t) (Phase.Freezes (at_freeze x s)) (value_at w.words (Phase.Freezes (at_freeze x s)) hook) hook) stand words was now

  sets_fs : (hook : HookAnswer) → IsHere c lim w good t lt x FreezeStep.SetsFs → Runs hook FreezeStep.SetsFs
  sets_fs (Ok answer) e =
      let k : w.words.stage ≡ 2 = here_knows c lim w good t lt x FreezeStep.SetsFs e in
      leaves (Ok answer) FreezeStep.SetsFs (Some (closed_to 2))
      (record { block_same = refl; level_same = refl; sync_same = refl; section_same = refl; whole_same = rw k refl })
      (here_stands c lim w good t lt x FreezeStep.SetsFs e)
      (closing_next (Some (Phase.Freezes (at_freeze x (freeze_closes x 3)))) 2 x.tasks x.processors (omega arith)
      (freeze_stands (at_freeze x (freeze_closes x 3))))
  sets_fs (Err code) e =
      let k : w.words.stage ≡ 2 = here_knows c lim w good t lt x FreezeStep.SetsFs e in
      leaves (Err code) FreezeStep.SetsFs (Some (closed_to 2))
      (record { block_same = refl; level_same = refl; sync_same = refl; section_same = refl; whole_same = rw k refl })
      (here_stands c lim w good t lt x FreezeStep.SetsFs e) (freeze_stands (at_freeze x (freeze_fails 2 code)))

  sets_complete : (hook : HookAnswer) → IsHere c lim w good t lt x FreezeStep.SetsComplete → Runs hook FreezeStep.SetsComplete
  sets_complete (Ok answer) e =
      let k : w.words.stage ≡ 3 = here_knows c lim w good t lt x FreezeStep.SetsComplete e in
      let sb : w.words.sb ≡ 0 = (good Stages).writable (rw k refl) in
      let phase : Phase = Phase.Freezes (at_freeze x FreezeStep.SetsComplete) in
      freezes_runs c lim w good t lt (words_then (Ok answer) FreezeStep.SetsComplete) (view_after (w.views t) phase w.words.stage (Ok answer))
      (record { block_same = refl; level_same = refl; sync_same = refl; section_same = refl })
      (here_stands c lim w good t lt x FreezeStep.SetsComplete e)
      (freeze_stands (at_freeze x (FreezeStep.Holds nobody))) (rw sb refl)
  sets_complete (Err code) e =
      let k : w.words.stage ≡ 3 = here_knows c lim w good t lt x FreezeStep.SetsComplete e in
      leaves (Err code) FreezeStep.SetsComplete (Some (closed_to 3))
      (record { block_same = refl; level_same = refl; sync_same = refl; section_same = refl; whole_same = rw k refl })
      (here_stands c lim w good t lt x FreezeStep.SetsComplete e) (freeze_stands (at_freeze x (freeze_fails 3 code)))

  -- a store of stage 0 by which it gives up
  given_up : (hook : HookAnswer) (level code : ℕ) → IsHere c lim w good t lt x (FreezeStep.GivesUp level code) →
      is_full 0 w.words.sb ≡ is_full w.words.stage w.words.sb →
      HasPosition (Some (Phase.Freezes (at_freeze x (freeze_fails (level - 1) code)))) (Some (open_from level)) →
      Runs hook (FreezeStep.GivesUp level code)
  given_up hook level code e whole now =
      leaves hook (FreezeStep.GivesUp level code) (Some (open_from level))
      (record { block_same = refl; level_same = refl; sync_same = refl; section_same = refl; whole_same = whole })
      (here_stands c lim w good t lt x (FreezeStep.GivesUp level code) e) now

  freeze_run : (hook : HookAnswer) (s : FreezeStep) → IsHere c lim w good t lt x s → Runs hook s
  freeze_run hook FreezeStep.Locks e =
      leaves hook FreezeStep.Locks None (assumption) (here_stands c lim w good t lt x FreezeStep.Locks e)
      (locked_stands x FreezeStep.Locks FreezeStep.LoadsStage w.words.umount None (freeze_stands (at_freeze x FreezeStep.Locks))
      (freeze_stands (at_freeze x FreezeStep.LoadsStage)))
  freeze_run hook FreezeStep.LoadsStage e =
      leaves hook FreezeStep.LoadsStage None (assumption) (here_stands c lim w good t lt x FreezeStep.LoadsStage e)
      (by_bool (w.words.stage == 0)
      (λ b. HasPosition (phase_after (map_next Phase.Freezes (if b then Next.Go (at_freeze x FreezeStep.LoadsSuperblock) else
      if w.words.stage == 4 then Next.Go (at_freeze x FreezeStep.LoadsHolders) else Next.Go (at_freeze x (FreezeStep.Releases (Err GateError.Busy)))))) None)
      (freeze_stands (at_freeze x FreezeStep.LoadsSuperblock))
      (by_bool (w.words.stage == 4)
      (λ b. HasPosition (phase_after
      (map_next Phase.Freezes
      (if b then Next.Go (at_freeze x FreezeStep.LoadsHolders) else Next.Go (at_freeze x (FreezeStep.Releases (Err GateError.Busy)))))) None)
      (freeze_stands (at_freeze x FreezeStep.LoadsHolders)) (freeze_stands (at_freeze x (FreezeStep.Releases (Err GateError.Busy))))))
  freeze_run hook FreezeStep.LoadsHolders e =
      leaves hook FreezeStep.LoadsHolders None (assumption) (here_stands c lim w good t lt x FreezeStep.LoadsHolders e)
      (found_cases x (holders_in w.words.holders) (λ s. HasPosition (Some (Phase.Freezes (at_freeze x s))) None)
      (λ own. freeze_stands (at_freeze x (FreezeStep.Releases (Err GateError.Busy))))
      (λ other. freeze_stands (at_freeze x (FreezeStep.Holds (holders_in w.words.holders)))))
  freeze_run hook (FreezeStep.Holds beside) e =
      leaves hook (FreezeStep.Holds beside) None (assumption)
      (here_stands c lim w good t lt x (FreezeStep.Holds beside) e) (freeze_stands (at_freeze x (FreezeStep.Releases (Ok Reply.Unit))))
  freeze_run hook FreezeStep.LoadsSuperblock e =
      leaves hook FreezeStep.LoadsSuperblock None (assumption) (here_stands c lim w good t lt x FreezeStep.LoadsSuperblock e)
      (found_stands x FreezeStep.SetsWrite FreezeStep.CompletesReadOnly w.words.sb None (freeze_stands (at_freeze x FreezeStep.SetsWrite))
      (freeze_stands (at_freeze x FreezeStep.CompletesReadOnly)))
  freeze_run hook FreezeStep.CompletesReadOnly e =
      let k : (w.words.stage ≡ 0) × (w.words.sb ≡ 1) = here_knows c lim w good t lt x FreezeStep.CompletesReadOnly e in
      leaves hook FreezeStep.CompletesReadOnly None
      (record { block_same = refl; level_same = refl; sync_same = refl; section_same = refl; whole_same = rw (k.0, k.1) refl })
      (here_stands c lim w good t lt x FreezeStep.CompletesReadOnly e) (freeze_stands (at_freeze x (FreezeStep.Holds nobody)))
  freeze_run hook FreezeStep.SetsWrite e =
      let k : (w.words.stage ≡ 0) × (w.words.sb ≡ 0) = here_knows c lim w good t lt x FreezeStep.SetsWrite e in
      leaves hook FreezeStep.SetsWrite None
      (record { block_same = refl; level_same = refl; sync_same = refl; section_same = refl; whole_same = rw k.0 refl })
      (here_stands c lim w good t lt x FreezeStep.SetsWrite e) (freeze_stands (at_freeze x FreezeStep.Unlocks))
  freeze_run hook FreezeStep.Unlocks e =
      leaves hook FreezeStep.Unlocks None (assumption) (here_stands c lim w good t lt x FreezeStep.Unlocks e)
      (closing_first (Some (Phase.Freezes (at_freeze x (freeze_closes x 1)))) x.tasks x.processors
      (freeze_stands (at_freeze x (freeze_closes x 1))))
  freeze_run hook (FreezeStep.Closes d) e =
      let phase : Phase = Phase.Freezes (at_freeze x (FreezeStep.Closes d)) in
      down_write_runs c lim w good t lt d (view_after (w.views t) phase (value_at w.words phase hook) hook)
      (here_fits c lim w good t lt x (FreezeStep.Closes d) e).5 (here_stands c lim w good t lt x (FreezeStep.Closes d) e)
      (stands_closing c lim w good t lt x hook d e)
      (entered_by_nobody c w good t lt (ap (λ p. has_position (stage_role_of p)) e) d.level)
  freeze_run (Ok answer) (FreezeStep.Waits d) e =
      let phase : Phase = Phase.Freezes (at_freeze x (FreezeStep.Waits d)) in
      let fits : DownWriteFits c d = (here_fits c lim w good t lt x (FreezeStep.Waits d) e).5.0 in
      down_write_runs c lim w good t lt d (view_after (w.views t) phase (value_at w.words phase (Ok answer)) (Ok answer))
      fits (here_stands c lim w good t lt x (FreezeStep.Waits d) e)
      (after_closing_stands x d fits.0 fits.1 (found_at w.words phase (Ok answer)))
      (entered_by_nobody c w good t lt (ap (λ p. has_position (stage_role_of p)) e) d.level)
  freeze_run (Err code) (FreezeStep.Waits d) e =
      let phase : Phase = Phase.Freezes (at_freeze x (FreezeStep.Waits d)) in
      let fits : DownWriteFits c d × (d.step ≡ sum_begun) = (here_fits c lim w good t lt x (FreezeStep.Waits d) e).5 in
      let was : HasPosition (w.views t).phase (Some (summing_at d.level)) =
      subst (λ s. HasPosition (w.views t).phase (Some record { level = d.level; count = down_count_role s; sync = down_write_role s })) fits.1
      (here_stands c lim w good t lt x (FreezeStep.Waits d) e) in
      unblocked_runs c lim w good t lt d.level (view_after (w.views t) phase (w.words.block d.level) (Err code)) was
      (freeze_stands (at_freeze x (FreezeStep.Undoes d.level Transition.Loads code)))
  freeze_run hook (FreezeStep.Undoes level transition code) e =
      let phase : Phase = Phase.Freezes (at_freeze x (FreezeStep.Undoes level transition code)) in
      let fits : _ = (here_fits c lim w good t lt x (FreezeStep.Undoes level transition code) e).5 in
      up_write_runs c lim w good t lt (record { level = level; step = UpWriteStep.Exits transition })
      (view_after (w.views t) phase (value_at w.words phase hook) hook) fits
      (here_stands c lim w good t lt x (FreezeStep.Undoes level transition code) e)
      (undone_stands x level code fits.0 fits.1 transition (transition_after on_exit transition (found_at w.words phase hook)))
  freeze_run hook (FreezeStep.LocksToUndo code) e =
      leaves hook (FreezeStep.LocksToUndo code) (Some (open_from 1)) (assumption) (here_stands c lim w good t lt x (FreezeStep.LocksToUndo code) e)
      (locked_stands x (FreezeStep.LocksToUndo code) (FreezeStep.GivesUp 1 code) w.words.umount (Some (open_from 1))
      (freeze_stands (at_freeze x (FreezeStep.LocksToUndo code))) (freeze_stands (at_freeze x (FreezeStep.GivesUp 1 code))))
  freeze_run hook (FreezeStep.GivesUp level code) e =
      let fits : _ = (here_fits c lim w good t lt x (FreezeStep.GivesUp level code) e).5 in
      at_level (λ i. IsHere c lim w good t lt x (FreezeStep.GivesUp i code) → Runs hook (FreezeStep.GivesUp i code)) (
        λ here. given_up hook 1 code here (rw (here_knows c lim w good t lt x (FreezeStep.GivesUp 1 code) here) refl)
            (stands_so _ _ _ (closing_says_none 0 0) (freeze_stands (at_freeze x (freeze_fails 0 code)))),
        λ here. given_up hook 2 code here (rw (here_knows c lim w good t lt x (FreezeStep.GivesUp 2 code) here) refl)
            (stands_so _ _ _ (closing_says 1 0 0 (omega arith)) (freeze_stands (at_freeze x (freeze_fails 1 code)))),
        λ here. given_up hook 3 code here (rw (here_knows c lim w good t lt x (FreezeStep.GivesUp 3 code) here) refl)
            (stands_so _ _ _ (closing_says 2 0 0 (omega arith)) (freeze_stands (at_freeze x (freeze_fails 2 code)))),
      )
      level fits.0 fits.1 e
  freeze_run hook FreezeStep.LocksAgain e =
      leaves hook FreezeStep.LocksAgain (Some (closed_to 1)) (assumption) (here_stands c lim w good t lt x FreezeStep.LocksAgain e)
      (locked_stands x FreezeStep.LocksAgain FreezeStep.SetsPageFault w.words.umount (Some (closed_to 1)) (freeze_stands (at_freeze x FreezeStep.LocksAgain))
      (freeze_stands (at_freeze x FreezeStep.SetsPageFault)))
  freeze_run hook FreezeStep.SetsPageFault e =
      let k : w.words.stage ≡ 1 = here_knows c lim w good t lt x FreezeStep.SetsPageFault e in
      leaves hook FreezeStep.SetsPageFault (Some (closed_to 1))
      (record { block_same = refl; level_same = refl; sync_same = refl; section_same = refl; whole_same = rw k refl })
      (here_stands c lim w good t lt x FreezeStep.SetsPageFault e)
      (closing_next (Some (Phase.Freezes (at_freeze x (freeze_closes x 2)))) 1 x.tasks x.processors (omega arith)
      (freeze_stands (at_freeze x (freeze_closes x 2))))
  freeze_run hook (FreezeStep.Cleans marks) e =
      leaves hook (FreezeStep.Cleans marks) (Some (closed_to 2)) (assumption)
      (here_stands c lim w good t lt x (FreezeStep.Cleans marks) e) (cleared_stands x marks (node_after marks.node marks.nodes))
  freeze_run hook FreezeStep.SetsFs e = sets_fs hook e
  freeze_run hook FreezeStep.SetsComplete e = sets_complete hook e
  freeze_run hook (FreezeStep.Reopens u code) e =
      let phase : Phase = Phase.Freezes (at_freeze x (FreezeStep.Reopens u code)) in
      up_write_runs c lim w good t lt u (view_after (w.views t) phase (value_at w.words phase hook) hook)
      (here_fits c lim w good t lt x (FreezeStep.Reopens u code) e).5 (here_stands c lim w good t lt x (FreezeStep.Reopens u code) e)
      (stands_reopening x u code (found_at w.words phase hook))
  freeze_run hook (FreezeStep.Releases answer) e =
      leaves hook (FreezeStep.Releases answer) None (assumption) (here_stands c lim w good t lt x (FreezeStep.Releases answer) e) idle_stands

-- each step of a freeze is one of each level
pub freeze_runs : (c : Config) → IsWithin c → (w : World) → IsGood c w → (t : ℕ) → t < c.tasks → (hook : HookAnswer) (x : Freeze) →
    (w.views t).phase ≡ Some (Phase.Freezes x) → LevelsRun c w (after_step w t (Phase.Freezes x) hook)
freeze_runs c lim w good t lt hook x e = freeze_run c lim w good t lt x hook x.step e
