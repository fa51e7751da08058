-- What many of the proofs of this crate take, by one name each. Nothing of the proofs themselves is passed on here.
pub use Rattle.std.proofs.Common.{Bool, Err, List, None, Ok, Option, Some, [], ap, arith, false, if◌then◌else◌, inl, inr, nat_lt, not, refl, subst}
pub use Rattle.std.proofs.Common.{suc, sym, true, true≢false, zero, ℕ, ◌&&◌, ◌*◌, ◌+◌, ◌-◌, ◌<◌, ◌==◌, ◌∙◌, ◌∷◌, ◌≡◌, ◌≤◌, ◌⊎◌}
pub use Rattle.std.proofs.lemmas.{Bool.{Decides.eqb_tells, cases_Bool, eq-eqb}, Grind.common_steps}
pub use Rattle.access_model.specs.{Replies.map_next, declared.{errors.GateError.GateError, replies.Next.Next}}
pub use Rattle.composite_ops.specs.declared.{file_closes.phases.ClosePhase.ClosePhase, write_access.phases.WritePhase.WritePhase}
pub use Rattle.cpu_words.specs.{Hooks.HookAnswer, Touches.found_by, Words.{Words, read}, declared.{names.WordName.WordName, sums.Sum.Sum}}
pub use Rattle.cpu_words.specs.gate_counts.Levels.{level_as_gate}
pub use Rattle.{finite_sums.{proofs.Totals.{total_at, total_le, update_at, update_off}, specs.Sums.total}, freeze_laws.specs.levels.Roles.closed}
pub use Rattle.freeze_levels.specs.{Freezes.{after_closing, at_freeze, freeze_after, freeze_next, level_closed}, Thaws.thaw_after}
pub use Rattle.freeze_levels.specs.declared.{freezes.{Freeze.Freeze, FreezeStep.FreezeStep}, hooks.HookKind.TheVariants.KeepWaiting}
pub use Rattle.freeze_levels.specs.declared.thaws.ThawStep.{ThawStep}
pub use Rattle.gate_schedules.proofs.{frames.Words.load_same, operations.deadlocks.RankDecreases.{after_event, happens_is, stands_after}}
pub use Rattle.gate_schedules.proofs.{operations.deadlocks.WhoCanStep.fits_at, schedules.HeadlineProof.whole_rule}
pub use Rattle.gate_schedules.specs.operations.Ranks.{exchange_rank}
pub use Rattle.gate_world.specs.{Configs.IsWithin, Fits.{DownWriteStepFits, FreezeFits, PhaseFits}, Headline.world_after, Holdings.Holdings}
pub use Rattle.gate_world.specs.{Levels.{at_level, is_frozen_whole, sync_role_of}, Roles.freeze_owns, Rules.{AtLevel, IsGood, SyncAt, SyncHoldsIn}}
pub use Rattle.gate_world.specs.{Rules.owns, Views.{held_of, phase_after, view_after}, Work.{after_of, hook_of}}
pub use Rattle.gate_world.specs.{Worlds.{World, after_step, found_at, happens, run, value_at, words_after}, declared.config.Config.Config}
pub use Rattle.gate_world.specs.declared.{entries.Entry.{Entry, TheVariants.{Begins, Steps}}, operations.Op.Op, views.View.View, work.Phase.Phase}
pub use Rattle.gated_tree.specs.declared.{phases.TreePhase.TreePhase, snapshots.SnapshotStep.SnapshotStep}
pub use Rattle.mount_counts.specs.{Phases.has_flag, declared.phases.{ChangeStep.ChangeStep, MountPhase.MountPhase, Want.Want, WantStep.WantStep}}
pub use Rattle.mount_counts.specs.declared.remounts.RemountStep.{RemountStep}
pub use Rattle.percpu_rwsem.specs.{Callbacks.{callback_after, callback_next}, Graces.looked, Readers.{down_read_after, down_read_next}}
pub use Rattle.percpu_rwsem.specs.{Transitions.transition_after, Writers.{down_write_after, down_write_next, sections_awaited}}
pub use Rattle.percpu_rwsem.specs.declared.{callbacks.{Callback.Callback, CallbackStep.CallbackStep}, grace.{Grace.Grace, GraceNext.GraceNext}}
pub use Rattle.percpu_rwsem.specs.declared.{readers.{DownRead.DownRead, DownReadStep.DownReadStep}, transitions.Transition.Transition}
pub use Rattle.percpu_rwsem.specs.declared.{transitions.TransitionNext.TransitionNext, writers.{DownWrite.DownWrite, DownWriteStep.DownWriteStep}}
pub use Rattle.percpu_rwsem.specs.declared.writers.{UpWrite.UpWrite, UpWriteStep.UpWriteStep}
pub use Rattle.progress_laws.specs.LostTasks.{AllWait, CallbackIsBlockedBy, ClosingIsBlockedBy, FreezeIsBlockedBy}
pub use Rattle.progress_laws.specs.StepsLeft.{closing_left, closing_tries, freeze_left, freeze_tries, opening_left, opening_tries, start_steps}
pub use Rattle.progress_laws.specs.StepsLeft.{steps_left, tries_left, turns_left}
pub use Rattle.progress_laws.specs.Waiting.{callback_waits, closing_waits, freeze_waits, is_outside, must_wait, start_waits, thaw_waits}
