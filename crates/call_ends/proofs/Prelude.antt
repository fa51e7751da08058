-- What many of the proofs of this crate take, by one name each. Nothing of the proofs themselves is passed on here.
pub use Rattle.std.proofs.Common.{Bool, None, Ok, Some, ap, arith, false, refl, subst, sym, true, ℕ, ◌-◌, ◌∙◌, ◌≡◌}
pub use Rattle.access_model.specs.{Replies.map_next, declared.replies.Next.{Next, TheVariants.{Go, Wait}}}
pub use Rattle.freeze_levels.specs.declared.freezes.FreezeStep.TheVariants.{Cleans}
pub use Rattle.gate_steps.proofs.call_events.Leading.{asking_from, asking_on, asking_stands, led_from, led_nowhere, led_on, led_once, led_to}
pub use Rattle.gate_steps.{proofs.call_events.Leading.{led_unasked, seated_stands, stands_from, still_stands}, specs.call_events.Led.Led}
pub use Rattle.gate_steps.specs.call_events.SeatedTasks.{SeatedTask}
pub use Rattle.gate_world.specs.{Work.after_of, declared.{accesses.Accesses.Accesses, operations.Op.Op, work.Phase.{Phase, TheVariants.Writes}}}
pub use Rattle.percpu_rwsem.specs.declared.{callbacks.CallbackStep.TheVariants.AwaitsSections, transitions.Transition.TheVariants.Loads}
pub use Rattle.percpu_rwsem.specs.declared.writers.DownWriteStep.TheVariants.{Sums}
pub use Rattle.call_ends.specs.{CallingBack.calling_at, Closings.{closing_at, standing}, Remounting.remounting_at}
