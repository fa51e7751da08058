-- the operation begins after all that either had seen
use Rattle.std.proofs.Common.{List, ap, subst, sym, ◌∙◌}
use Rattle.vfs_gates.{proofs.several_tasks.{Beside.met_stays, GoingOn.begins_still}, specs.{Grown.StaySeen, Meetings.Entry, Op.Op, Rounds.SeatedTask}}
use Rattle.vfs_gates.specs.Runs.{OpUnderWay}
use Rattle.test_gates.proofs.tests.meetings.begin_before_a_meeting.Goals as goal

pub returns : goal.returns
returns c =
    let op : Op = c.args.op in
    let start : SeatedTask = c.args.one.now in
    let now : SeatedTask = c.begin.new.self in
    let later : SeatedTask = c.meet.new.self in
    let begun = c.in_ok-begin.ensures in
    let met = c.meet.ensures in
    let same = met.first ∙ ap (λ (l : List (List Entry)). record now { seen = l }) (sym (ap (λ (s : SeatedTask). s.seen) met.first)) in
    let goes : OpUnderWay op (record start { seen = later.seen }) later =
    begins_still op op start now later begun.goes (ap (λ (s : SeatedTask). s.begins) begun.begun) same in
    let stays = met_stays now c.args.two.now later c.meet.new.other met in (
      later.seen,
      subst (λ (l : List (List Entry)). StaySeen l later.seen) (ap (λ (s : SeatedTask). s.seen) begun.begun) stays.0,
      stays.1,
      c.step-first.ensures.told op (record start { seen = later.seen }) goes,
    )
