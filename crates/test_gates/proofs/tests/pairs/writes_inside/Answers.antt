-- A create takes nothing, so it leaves the task as it was.
use Rattle.std.proofs.Common.{of_calls, refl, rules, subst, sym}
use Rattle.access_model.specs.declared.actions.Kind.TheVariants.{File}
use Rattle.vfs_gates.{proofs.Holding.keeps, specs.{Held.IsAsBefore, Op.TheVariants.Create, Runs.{Replies, node_of}, TaskStates.IsIdle}}
use Rattle.test_gates.proofs.tests.pairs.writes_inside.Goals as goal

pub with_write-made-requires-clause-keeps : goal.with_write-made-requires-clause-keeps
with_write-made-requires-clause-keeps g c = λ there mid answer idle took returns.
    let call : Replies node_of (Create 0 File) returns.shown.now returns.left.now answer =
    first_of (assumption returns.met, search (rules, returns.met), search (rules, of_calls, returns.met)) in
    let same : IsAsBefore returns.shown.now returns.left.now =
    keeps node_of (Create 0 File) returns.shown.now returns.left.now answer (subst IsIdle (sym returns.shows) idle) call refl in
    subst (λ s. IsAsBefore s mid) returns.shows (subst (IsAsBefore returns.shown.now) returns.leaves same)
