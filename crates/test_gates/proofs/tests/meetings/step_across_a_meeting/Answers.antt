-- the operation goes on across the meeting
use Rattle.std.proofs.Common.{List, ap, sym, ◌∙◌}
use Rattle.vfs_gates.{proofs.{AtOnce.goes_by, several_tasks.{Beside.met_stays, GoingOn.goes_on_still}}, specs.{Grown.StaySeen, Meetings.Entry, Op.Op}}
use Rattle.vfs_gates.specs.{Rounds.SeatedTask, Runs.OpUnderWay}
use Rattle.test_gates.proofs.tests.meetings.step_across_a_meeting.Goals as goal

pub returns : goal.returns
returns c =
    let op : Op = c.args.op in
    let start : SeatedTask = c.args.one.now in
    let now : SeatedTask = c.step-first.new.self in
    let later : SeatedTask = c.meet.new.self in
    let begun = c.in_ok-begin.ensures in
    let did = c.step-first.ensures.event _ (ap (λ (s : SeatedTask). s.phase) begun.begun) in
    let goes : OpUnderWay op start now =
    goes_by op start now c.step-first.result.progress c.in_default.not-Done (c.step-first.ensures.told op start begun.goes) in
    let met = c.meet.ensures in
    let same = met.first ∙ ap (λ (l : List (List Entry)). record now { seen = l }) (sym (ap (λ (s : SeatedTask). s.seen) met.first)) in
    let stays : StaySeen now.seen later.seen = (met_stays now c.args.two.now later c.meet.new.other met).0 in
    c.step-second.ensures.told op start (goes_on_still op start now later goes (ap (λ (s : SeatedTask). s.begins) did.new) same stays)
