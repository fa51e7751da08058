-- What many of the proofs of this crate take, by one name each. Nothing of the proofs themselves is passed on here.
pub use Rattle.std.proofs.Common.{Bool, Err, List, None, Ok, Option, Result, Some, [], add-one, ap, arith, false, if◌then◌else◌, inl, inr, is_some}
pub use Rattle.std.proofs.Common.{length, nat_lt, not, refl, subst, suc, sym, true, true≢false, zero, ℕ, ◌%◌, ◌&&◌, ◌*◌, ◌+◌, ◌-◌, ◌<◌, ◌==◌, ◌||◌}
pub use Rattle.std.proofs.{Common.{◌∙◌, ◌∷◌, ◌≡◌, ◌≤◌, ◌⊎◌}, lemmas.Bool.Decides.eqb_tells}
pub use Rattle.std.proofs.lemmas.{Bool.{cases_Bool, cases_lt, eq-eqb, le-ltb, lt-ltb, ltb-false, ltb-true, ne_eqb}, Grind.common_steps}
pub use Rattle.access_model.specs.{Holders.held_by, Replies.map_next, States.{State, is_removed, one_if, openers}, declared.actions.Action.Action}
pub use Rattle.access_model.specs.declared.{actions.{Gate.Gate, Holder.Holder, Kind.Kind, NodeInfo.NodeInfo}, errors.GateError.GateError}
pub use Rattle.access_model.specs.declared.replies.{Next.{Next, TheVariants.{Done, Go, Wait}}, Reply.Reply}
pub use Rattle.composite_ops.specs.declared.{file_closes.phases.ClosePhase.ClosePhase, write_access.phases.WritePhase.WritePhase}
pub use Rattle.cpu_words.specs.{Hooks.HookAnswer, Names.IsWord, Touches.{event_of, found_by, left, wrap_add}, Words.{Words, put, read}}
pub use Rattle.cpu_words.specs.{declared.{events.{Event.Event, Touch.Touch}, names.WordName.WordName, sums.Sum.Sum}, gate_counts.Levels.LevelRole}
pub use Rattle.finite_sums.proofs.Totals.{each_updated, total_at, total_bound, total_none, total_updated, update_at, update_map, update_off}
pub use Rattle.finite_sums.{proofs.Totals.update_same, specs.Sums.{total, update}}
pub use Rattle.freeze_laws.specs.levels.{Events.{SyncLevelHolds, SyncStep}, Operations.{down_write_role, left_by}, Roles.{SyncRole, closed}}
pub use Rattle.freeze_laws.specs.stages.{Events.{SameDuties, StageEvent, playing}, Roles.{CleanBelow, Freezing, KnowsStage, Owning, StageRole}}
pub use Rattle.freeze_laws.specs.stages.Shown.{state_after}
pub use Rattle.freeze_levels.specs.{Freezes.{after_closing, at_freeze}, Holders.holders_in, declared.freezes.{Freeze.Freeze, FreezeStep.FreezeStep}}
pub use Rattle.freeze_levels.specs.{declared.thaws.{Thaw.Thaw, ThawStep.ThawStep}, holder_laws.Roles.Apart}
pub use Rattle.gate_world.specs.{Beginnings.first_phase, Configs.{IsWithin, extents_of, model_limits}, Fits.{ActionFits, Fits, FreezeFits, HasFile}}
pub use Rattle.gate_world.specs.{Fits.{PhaseFits, file_of}, Holdings.{Agree, Holdings, held_after, holdings_of}, LevelRuns.level_in, Levels.at_level}
pub use Rattle.gate_world.specs.{Levels.{inside, is_frozen_whole, level_added_by, level_role_of, level_taken_by, sync_role_of}, Remounts.RemountFits}
pub use Rattle.gate_world.specs.Roles.{LevelPosition, closed_to, freeze_stage_role, position_sync, remount_stage_role, sync_role_if}
pub use Rattle.gate_world.specs.Rules.{AtLevel, AtMount, Files, Fitting, GateStepKeeps, GatesHold, Holding, Holds, IsGood, IsSteady, Known}
pub use Rattle.gate_world.specs.Rules.{MountHoldsIn, Moves, Owner, OwnerHolds, Part, SameWords, Sections, Stages, StepKeeps, SyncAt, SyncHoldsIn}
pub use Rattle.gate_world.specs.Rules.{Tree, ViewFits, at_mount, holder_role_of, marks_of, owns, remounts, role_of, stage_role_of, stage_roles}
pub use Rattle.gate_world.specs.{SameRoles.{Roles, no_roles, rephased, roles_of}, Shown.{closing, shown}, Trees.{is_bare_at, tree_bounds, tree_of}}
pub use Rattle.gate_world.specs.{Trees.{tree_role_of, tree_roles}, Views.{actions_after, added_by, has_open, held_at, held_of, holds_level}}
pub use Rattle.gate_world.specs.{Views.{phase_after, taken_by, view_after, view_with, with_hook}, Work.{after_of, next_of}}
pub use Rattle.gate_world.specs.Worlds.{World, after_step, begin_of, found_at, happens, phase_action, run, step_of, value_at, words_after}
pub use Rattle.gate_world.specs.declared.{config.Config.Config, entries.Entry.{Entry, TheVariants.Steps}, operations.Op.Op, views.Traced.Traced}
pub use Rattle.gate_world.specs.{declared.{views.View.View, work.Phase.{Phase, TheVariants.DownReads}}, refusals.Causes.all_counted}
pub use Rattle.gate_world.specs.{refusals.{KeptCauses.CauseOf, Waits.HasReason}, traces.{Snapshots.values_noted, TraceStates.ReadIsValid}}
pub use Rattle.gate_world.specs.traces.Traces.{actions_of, most_events}
pub use Rattle.gated_tree.specs.{Calls.role_after, Phases.{create_after, grow_after, mark_after, move_after, open_after, remove_after, snapshot_next}}
pub use Rattle.gated_tree.specs.Roles.{AreWithin, Bounds, Clearing, Freeing, HasNoCharge, NobodyReads, Out, Role, RoleHolds, TreeHolds, TreeState}
pub use Rattle.gated_tree.specs.{Roles.{charge, child_charge, removal, seen_as}, declared.changes.{Create.Create, CreateStep.CreateStep}}
pub use Rattle.gated_tree.specs.declared.{changes.{MoveStep.MoveStep, MoveTo.MoveTo, Remove.Remove, RemoveStep.RemoveStep}, growth.Grow.Grow}
pub use Rattle.gated_tree.specs.declared.{growth.GrowStep.GrowStep, marks.{Mark.Mark, MarkStep.MarkStep}, opens.OpenFile.OpenFile}
pub use Rattle.gated_tree.specs.declared.{opens.OpenStep.OpenStep, phases.TreePhase.TreePhase, snapshots.Snapshot.Snapshot}
pub use Rattle.gated_tree.specs.declared.snapshots.SnapshotStep.{SnapshotStep}
pub use Rattle.mount_counts.specs.{Phases.{has_flag, want_after}, Remounts.{at_remount, give_up, leave_holds, let_go, past_mount}, Roles.has_hold}
pub use Rattle.mount_counts.specs.{Roles.ro_bit, Sets.has_mount, declared.phases.{ChangeStep.ChangeStep, MountPhase.MountPhase, Want.Want}}
pub use Rattle.mount_counts.specs.declared.{phases.WantStep.WantStep, remounts.{Remount.Remount, RemountStep.RemountStep}, sets.MountSet.MountSet}
pub use Rattle.node_words.specs.{Nodes.{dirty_in, node_after, node_shown, opens_in, unpacked, word_of}, Phases.{after_look, clear_after}}
pub use Rattle.node_words.specs.declared.{marks.ClearMarks.ClearMarks, nodes.NodeWord.NodeWord}
pub use Rattle.percpu_rwsem.specs.{Readers.{down_read_after, down_read_next}, SyncWords.{on_callback, on_enter, on_exit, unpack}}
pub use Rattle.percpu_rwsem.specs.Transitions.{transition_after}
pub use Rattle.percpu_rwsem.specs.Writers.{at_down_write, down_write_after, down_write_next, exit_made, up_write_after, up_write_next}
pub use Rattle.percpu_rwsem.specs.declared.{callbacks.Callback.Callback, readers.{DownRead.DownRead, DownReadStep.DownReadStep}}
pub use Rattle.percpu_rwsem.specs.declared.{sync_word.SyncWord.SyncWord, transitions.{Transition.Transition, TransitionNext.TransitionNext}}
pub use Rattle.percpu_rwsem.specs.declared.writers.{DownWrite.DownWrite, DownWriteStep.DownWriteStep, UpWrite.UpWrite, UpWriteStep.UpWriteStep}
pub use Rattle.gate_schedules.specs.operations.{Progress.{EventsKeepRule, ReplyWithin}, Ranks.rank, Unblocked.{IsUnblocked, PhaseEnds, RankDecreases}}
pub use Rattle.gate_schedules.specs.trees.Events.{turned}
