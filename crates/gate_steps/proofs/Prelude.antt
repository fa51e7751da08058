-- What many of the proofs of this crate take, by one name each. Nothing of the proofs themselves is passed on here.
pub use Rattle.std.proofs.Common.{Bool, Err, List, None, Ok, Option, Result, Some, [], ap, arith, inl, inr, length, map, refl, set, subst, suc, sym}
pub use Rattle.std.proofs.{Common.{zero, ℕ, ⊎_elim, ◌++◌, ◌+◌, ◌<◌, ◌∙◌, ◌∷◌, ◌≡◌, ◌≤◌}, lemmas.List.{append-nil, append_assoc}}
pub use Rattle.access_model.specs.{Replies.map_next, declared.{actions.Action.Action, errors.GateError.GateError, replies.Next.Next}}
pub use Rattle.access_model.specs.declared.replies.{Next.TheVariants.{Done, Go, Wait}, Reply.Reply}
pub use Rattle.atomic_table.proofs.Lists.{at_map, at_set}
pub use Rattle.cpu_words.specs.{Hooks.HookAnswer, Names.place, Touches.{event_of, found_by}, declared.events.{Event.Event, Touch.Touch}}
pub use Rattle.cpu_words.specs.declared.names.WordName.{WordName}
pub use Rattle.gate_transitions.specs.Answers.{progress_of}
pub use Rattle.gate_world.specs.{Beginnings.first_phase, Configs.IsWithin, Headline.world_after}
pub use Rattle.gate_world.specs.{Views.{actions_after, held_of, phase_after, view_after_with_others}, Work.{after_of, next_of}}
pub use Rattle.gate_world.specs.{Worlds.{World, happens, opening, run}, declared.{accesses.Accesses.Accesses, config.Config.Config}}
pub use Rattle.gate_world.specs.declared.{entries.Entry.{Entry, TheVariants.{Begins, Steps}}, operations.Op.Op, views.{Traced.Traced, View.View}}
pub use Rattle.gate_world.specs.{declared.work.Phase.Phase, traces.{TraceStates.state_of_trace, Traces.actions_of}}
pub use Rattle.gate_steps.specs.{Rules.{TableInvariantHolds, table_index, table_length}, Seating.{Dealt, DealtNumbers, HasWitness, HaveSeen}}
pub use Rattle.gate_steps.specs.Seating.{HaveViews, IsPrefix, NoneOf, done_by, entered, items_after, items_of, knows, numbered, times}
pub use Rattle.gate_steps.specs.call_events.{Asking.{Ask, asks_of, asks_with, call_at}, Runs.{AreMoves, Called, IsNextMove}}
pub use Rattle.gate_steps.specs.{call_events.{SeatedTasks.{SeatedTask, own_number, own_view}, Stepped.Stepped}, declared.seating.Knowledge.Knowledge}
pub use Rattle.gate_steps.specs.declared.seating.Numbered.{Numbered}
pub use lib.ListN.{get_elem?}
pub use mathlib.Core.{Logic.dite, Option.{some, some-injective, some-ne-none}}
