-- What many of the proofs of this crate take, by one name each. Nothing of the proofs themselves is passed on here.
pub use Rattle.std.proofs.Common.{Bool, Err, IfErr, IfOk, List, None, Ok, Option, Result, Some, [], ap, arith, false, inl, inr, length, refl, rules}
pub use Rattle.std.proofs.Common.{subst, suc, sym, true, vec_len, zero, ℕ, ◌++◌, ◌+◌, ◌-◌, ◌<◌, ◌∙◌, ◌∷◌, ◌≡◌, ◌≤◌, ◌⊎◌}
pub use Rattle.std.proofs.lemmas.Result.{err_from_is_err_and}
pub use Rattle.access_model.specs.declared.{actions.{Action.Action, Holder.TheVariants.User, Kind.TheVariants.File}, errors.GateError.GateError}
pub use Rattle.access_model.specs.declared.{errors.GateError.TheVariants.{Again, ReadOnly}, replies.Reply.Reply}
pub use Rattle.gate_world.specs.declared.{config.Config.Config, operations.Op.{Op, TheVariants.{Create, DropWrite, Freeze, Grow, WantWrite}}}
pub use Rattle.gate_world.specs.declared.views.{Traced.Traced, View.View}
pub use Rattle.run_plans.specs.declared.{counts.{Copies.Copies, Remounts.Remounts, Writes.Writes}, plans.Plan.Plan}
pub use Rattle.vfs_gates.{proofs.Holding.adds, specs.{Frozen.{MayFreeze, NeverFreezes}, Held.{Rests, own_actions}, Runs.{Called, Performs}}}
pub use Rattle.vfs_gates.specs.{Seating.DealtNumbers, Splitting.{Gives, HasBegun}}
pub use Rattle.vfs_gates.specs.{TaskStates.{IsFrom, SeatedTask, own_number, own_view, refusal_at, spare_of}, declared.Gates.Gates}
pub use Rattle.gate_runs.specs.{Counts.{CountsRounds, counted}, Keeping.HaveNotFrozen, Parts.Among, Patience.GaveUp}
pub use Rattle.gate_runs.specs.Refusals.{FoundOthers, HasWriteAccess, WriterRefused}
pub use Rattle.gate_runs.specs.Rounds.{BackupRound, CallsBack, CreatesFile, Does, IsRefused, RemountRound, Repeats, Waits, WriterRound}
