-- What many of the proofs of this crate take, by one name each. Nothing of the proofs themselves is passed on here.
pub use Rattle.std.proofs.Common.{Bool, Err, IfErr, List, None, Ok, Option, Result, Some, [], ap, arith, cond, eqb, false, get_or, if◌then◌else◌, inl}
pub use Rattle.std.proofs.Common.{inr, is_some, length, lt-ltb, not, option_map, refl, rules, set, slice_index, subst, suc, sym, true, true≢false}
pub use Rattle.std.proofs.{Common.{zero, ℕ, ◌%◌, ◌&&◌, ◌*◌, ◌++◌, ◌+◌, ◌-◌, ◌<◌, ◌==◌, ◌∙◌, ◌∷◌, ◌≡◌, ◌≤◌, ◌⊎◌}, lemmas.Bool.Decides.eqb_tells}
pub use Rattle.std.proofs.lemmas.{Bool.{and_parts, cases_Bool, false≢true}, List.{append-nil, append_assoc, append_cancel_right}}
pub use Rattle.std.{proofs.lemmas.Result.err_from_is_err_and, specs.Slots.slots_items}
pub use Rattle.access_model.{proofs.Lists.part_append, specs.{Actions.{IsAllowed, after_action}, Histories.{IsLegal, end_of, mounts_of, own_part}}}
pub use Rattle.access_model.specs.{Holders.{held_by, with_holder}, Replies.map_next, States.{Limits, State}, declared.actions.Action.Action}
pub use Rattle.access_model.specs.declared.actions.{Action.TheVariants.{Grant, Hold, SbRo, SbRw}, Gate.{Gate, TheVariants.{Level, Mount}}}
pub use Rattle.access_model.specs.declared.{actions.Holder.Holder, errors.GateError.{GateError, TheVariants.Busy}, replies.Next.Next}
pub use Rattle.access_model.specs.declared.replies.{Next.TheVariants.{Done, Go, Wait}, Reply.Reply}
pub use Rattle.atomic_table.specs.Seated.{TableId}
pub use Rattle.cpu_words.specs.{Hooks.HookAnswer, Names.{place, stride}, Touches.{event_of, found_by}, Words.{Words, read}}
pub use Rattle.cpu_words.specs.declared.{events.{Event.Event, Touch.Touch}, names.WordName.{TheVariants.Node, WordName}}
pub use Rattle.{finite_sums.{proofs.Totals.update_at, specs.Sums.total}, freeze_levels.specs.declared.hooks.HookCall.HookCall}
pub use Rattle.gate_schedules.proofs.schedules.HeadlineProof.{whole_rule, whole_run}
pub use Rattle.gate_steps.proofs.call_events.{Effects.call_effect, Giving.view_in-at, Grown.{after_more, only, same_stays_seen, stays_seen_on}}
pub use Rattle.gate_steps.{proofs.call_events.{Leading.still_stands, Moments.actions_append, Spanning.each_event}, specs.Rules.first_items}
pub use Rattle.gate_steps.specs.Seating.{DealtNumbers, HaveHistory, HaveViews, IsPrefix, deal, done_by, given_of, items_after, kept_of, numbered}
pub use Rattle.gate_steps.specs.{Seating.{times, view_in}, call_events.{GhostAgrees.{AllRest, GhostAgrees}, Grown.{HasSeen, StaySeen}}}
pub use Rattle.gate_steps.specs.call_events.Runs.{AreMoves, Called, OpUnderWay, Performs, Replies, completed_by, items_at, ran_items, ran_snapshot}
pub use Rattle.gate_steps.specs.call_events.{Runs.{the_reply, told_as, unit_of}, Spans.{IsEventDuring, TakesEffect}, Stepped.Stepped}
pub use Rattle.gate_steps.specs.{call_events.{TaskState.TaskState, Turns.state_at}, declared.seating.Numbered.Numbered}
pub use Rattle.gate_world.specs.{Beginnings.first_phase, Configs.{IsWithin, model_limits}, Headline.{actions_since, actions_so_far, world_after}}
pub use Rattle.gate_world.specs.{Shown.shown, Views.{held_of, opening_view, phase_after}, Work.{after_of, next_of}, Worlds.World}
pub use Rattle.gate_world.specs.declared.{accesses.Accesses.Accesses, config.Config.Config, entries.Entry.{Entry, TheVariants.{Begins, Steps}}}
pub use Rattle.gate_world.specs.declared.operations.Op.{Op}
pub use Rattle.gate_world.specs.declared.operations.Op.TheVariants.{Callback, ChangeMount, Close, Freeze, RemountSb, Start, Thaw, Want, WantWrite}
pub use Rattle.gate_world.specs.declared.{views.{Traced.Traced, View.View}, work.Phase.{Phase, TheVariants.Trees}}
pub use Rattle.gate_world.specs.traces.{Found.{found_read_only, found_sealed, is_load}, Snapshots.last_snapshot}
pub use Rattle.gate_world.specs.traces.{TraceStates.{IsTrace, state_of_trace, trace_state_after}, Traces.{IsHonestAnswer, actions_of}}
pub use Rattle.gated_tree.specs.{Phases.at_snapshot, declared.snapshots.SnapshotStep.TheVariants.{LoadsKids, LoadsNode, LoadsStage, LoadsUsed, Locks}}
pub use Rattle.gated_tree.specs.declared.{snapshots.SnapshotStep.TheVariants.Releases, trees.TreeWords.TreeWords}
pub use Rattle.{mount_counts.specs.Phases.has_flag, node_words.specs.Nodes.unpacked}
pub use Rattle.vfs_gates.specs.{Buffers.{BufferWords, BuffersMatch, completed, with_words, words_in}, Ended.EndedWith}
pub use Rattle.vfs_gates.specs.{Held.{IsAsBefore, Rests, own_actions}, Meetings.{Encloses, HasDone, HaveAll, Meets, NoneIs, NoneSince, Seals}}
pub use Rattle.vfs_gates.specs.{Noted.snapshot_at, Parts.SplitOf}
pub use Rattle.vfs_gates.specs.{TaskStates.{Empty, IsIdle, SeatedTask, own_number, own_view, refusal_at, spare_of, task_state}, Waits.WaitsTell}
pub use lib.ListN.{get_elem?}
pub use mathlib.Core.{Logic.dite, Option.some}
pub use native.Mathlib.Decide.{ℕ_discrete}
