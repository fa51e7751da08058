-- A snapshot takes nothing, so it leaves the task as it was.
use Rattle.std.proofs.Common.{of_calls, refl, rules, subst, sym, true}
use Rattle.vfs_gates.{proofs.Holding.keeps, specs.{Held.IsAsBefore, Op.TheVariants.Snapshot, Runs.{Replies, unit_of}, TaskStates.IsIdle}}
use Rattle.test_gates.proofs.tests.pairs.copies_inside.Goals as goal

pub with_freeze-copied-requires-clause-keeps : goal.with_freeze-copied-requires-clause-keeps
with_freeze-copied-requires-clause-keeps g c = λ there mid answer idle took returns.
    let call : Replies unit_of (Snapshot true) returns.shown.now returns.left.now answer =
    first_of (assumption returns.met, search (rules, returns.met), search (rules, of_calls, returns.met)) in
    let same : IsAsBefore returns.shown.now returns.left.now =
    keeps unit_of (Snapshot true) returns.shown.now returns.left.now answer (subst IsIdle (sym returns.shows) idle) call refl in
    subst (λ s. IsAsBefore s mid) returns.shows (subst (IsAsBefore returns.shown.now) returns.leaves same)
