-- a beginning that is refused, and one that isn't
use Rattle.vfs_gates.proofs.Prelude.{SeatedTask, ap, err_from_is_err_and, refl, sym}
use Rattle.gate_steps.proofs.call_events.Running.{starts}
use Rattle.vfs_gates.proofs.{Calling.{Call, begun, begun_state, call_of}, Rooming.begun_in}
use Rattle.vfs_gates.proofs.task.Task.begin.Goals.{After-first_phase}
use Rattle.vfs_gates.proofs.task.Task.begin.Goals as goal

pub returns-in_err-may_begin-clause-answer : goal.returns-in_err-may_begin-clause-answer
returns-in_err-may_begin-clause-answer c = let p = err_from_is_err_and c.from_residual.result c.from_residual.ensures.1 in
    rw (p.1, p.2) c.in_err-may_begin.ensures

pub returns-in_err-may_begin-clause-begun : goal.returns-in_err-may_begin-clause-begun
returns-in_err-may_begin-clause-begun c = let p = err_from_is_err_and c.from_residual.result c.from_residual.ensures.1 in rw p.1 tt

pub returns-in_err-may_begin-clause-goes : goal.returns-in_err-may_begin-clause-goes
returns-in_err-may_begin-clause-goes c = let p = err_from_is_err_and c.from_residual.result c.from_residual.ensures.1 in rw p.1 tt

pub returns-in_err-may_begin-clause-refused : goal.returns-in_err-may_begin-clause-refused
returns-in_err-may_begin-clause-refused c = let p = err_from_is_err_and c.from_residual.result c.from_residual.ensures.1 in rw p.1 refl

-- the call, whose configuration is the task's own
abbrev call : After-first_phase → Call
call c =
    call_of c.args.op c.self.inside c.self.inside.config c.args.self.now c.self.view_is
    (sym (ap (λ (s : SeatedTask). s.config) c.self.view_is)) c.self.invariant.0
    c.in_ok-may_begin.ensures c.first_phase.result c.first_phase.ensures

pub invariant_of-self : goal.invariant_of-self
invariant_of-self c = (
  begun (call (goal.at.invariant_of-self c).After-first_phase),
  c.self.invariant.1,
  begun_in (call (goal.at.invariant_of-self c).After-first_phase) _ c.self.inside.begins c.self.inside.state.phase
      c.self.invariant.2,
  c.self.invariant.3,
)

pub returns-clause-answer : goal.returns-clause-answer
returns-clause-answer c = c.in_ok-may_begin.ensures

pub returns-clause-begun : goal.returns-clause-begun
returns-clause-begun c = begun_state (call (goal.at.returns-clause-begun c).After-first_phase)

pub returns-clause-goes : goal.returns-clause-goes
returns-clause-goes c =
    starts c.args.op c.args.self.now _ c.in_ok-may_begin.ensures
    (begun_state (call (goal.at.returns-clause-goes c).After-first_phase))
