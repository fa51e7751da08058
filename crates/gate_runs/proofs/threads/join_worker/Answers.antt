-- the task that comes back has done its part
use Rattle.gate_runs.proofs.Prelude.{Gates, IfErr, WriterRefused, subst}
use Rattle.gate_runs.proofs.{Homes.{came_home, home_refused}, Resting.{joined_rests, joined_there}, Staying.stays_among}
use Rattle.gate_runs.proofs.threads.join_worker.Goals as goal

pub returns-clause-others : goal.returns-clause-others
returns-clause-others g c = stays_among c.args.task.now c.join-other.result.task c.join.new.self c.in-Ok.ensures.joined.4

pub returns-clause-rests : goal.returns-clause-rests
returns-clause-rests g c = (
  joined_rests c.args.task.now c.join-other.result.task c.join.new.self c.requires.there c.requires.rests c.in-Ok.ensures.joined.4,
  joined_there c.args.task.now c.join-other.result.task c.join.new.self c.requires.there c.in-Ok.ensures.joined.4,
)

pub returns-clause-part : goal.returns-clause-part
returns-clause-part g c =
    let home = c.args.worker.promise in
    came_home (g.W.RunObserver.held home.watch.now) home.gates.now home.plan home.number c.join-other.result.task
    c.args.task.now c.join.new.self c.join-other.result.met c.join-other.ensures c.in-Ok.ensures.joined.4

pub returns-clause-refused : goal.returns-clause-refused
returns-clause-refused g c =
    let home = c.args.worker.promise in
    let met = c.join-other.result.met in
    subst (λ (d : Gates). IfErr met (WriterRefused d home.plan.tasks home.plan.processors home.plan.rounds)) c.requires.home
    (home_refused (g.W.RunObserver.held home.watch.now) home.gates.now home.plan home.number c.join-other.result.task met c.join-other.ensures)

pub unreachable-requires : goal.unreachable-requires
unreachable-requires g c = c.in_default.ensures.refused.3 (c.requires.rests.0, c.requires.rests.1, c.join-other.ensures.1.0, c.join-other.ensures.1.1)

pub returns-clause-took : goal.returns-clause-took
returns-clause-took g c = (c.join-other.result.task, c.join-other.ensures.2, c.in-Ok.ensures.joined.4)
