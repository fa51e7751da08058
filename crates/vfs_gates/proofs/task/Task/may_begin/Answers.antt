-- why the operation can't begin, as the task's fields say
use Rattle.vfs_gates.proofs.Admitting.{admitted_as, within}
use Rattle.vfs_gates.proofs.task.Task.may_begin.Goals as goal

pub may_begin-requires-clause-mounts : goal.may_begin-requires-clause-mounts
may_begin-requires-clause-mounts c = let t = c.self.inside in (within t.number t.config t.begins t.state t.spare t.seat.me.0.items c.self.invariant.0).mounts

pub may_begin-requires-clause-nodes : goal.may_begin-requires-clause-nodes
may_begin-requires-clause-nodes c = let t = c.self.inside in (within t.number t.config t.begins t.state t.spare t.seat.me.0.items c.self.invariant.0).nodes

pub returns : goal.returns
returns c =
    admitted_as c.args.op c.self.inside c.args.self.now c.self.view_is c.self.invariant.0 c.is_some-under_way.result
    c.is_some-under_way.ensures
    c.may_begin.result c.may_begin.ensures
