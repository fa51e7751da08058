-- a call that has a most number of steps: its beginning, its steps, and what the task shows then
use Rattle.vfs_gates.proofs.Prelude.{Done, SeatedTask, ap, own_number, refl, sym, ◌∙◌}
use Rattle.vfs_gates.proofs.{Calling.{Call, Left, call_with, ended_at, ghost_agrees_done, has_begun, is_agrees}}
use Rattle.vfs_gates.proofs.{Rooming.room_done, Waiting.{left_tells, waits_for_nobody}, task.Task.call.Goals.After-run_to_reply}
use Rattle.gate_steps.{proofs.call_events.Running.{told_whole, was_done, was_refused}, specs.call_events.Runs.the_reply}
use Rattle.vfs_gates.proofs.task.Task.call.Goals as goal

-- the call, and what its steps have left
abbrev call : (g : _) → After-run_to_reply g → Call
call g c =
    call_with c.args.op c.self.inside c.args.gates.now.words.config c.args.self.now c.self.view_is c.requires.from.1 c.self.invariant.0
    c.may_begin.result c.may_begin.ensures c.in_default.not-Err (g.P.PendingOp.as_phase c.args.first) c.requires.first

abbrev left : (g : _) (c : After-run_to_reply g) → Left (call g c)
left g c = record {
  next = Done c.run_to_reply.result;
  accesses = c.run_to_reply.new.accesses;
  known = c.run_to_reply.new.seat.me.0;
  table = c.run_to_reply.new.seat.table_id;
  agrees = c.run_to_reply.ensures.seated.agrees;
  waits = 0;
  went = let called = c.run_to_reply.ensures.called (call g c).op (call g c).start (has_begun (call g c)) in
      (called, waits_for_nobody (call g c).start.config (own_number (call g c).start.items) (call g c).op called.trace c.requires.tries called.waits);
}

pub run_to_reply-requires-clause-stands : goal.run_to_reply-requires-clause-stands
run_to_reply-requires-clause-stands g c =
    record {
      table = ap (λ (s : SeatedTask). s.table) c.self.view_is ∙ c.requires.from.0;
      agrees =
          is_agrees (call_with c.args.op c.self.inside c.args.gates.now.words.config c.args.self.now c.self.view_is c.requires.from.1 c.self.invariant.0
          c.may_begin.result c.may_begin.ensures c.in_default.not-Err (g.P.PendingOp.as_phase c.args.first) c.requires.first);
    }

pub run_to_reply-requires-clause-trying : goal.run_to_reply-requires-clause-trying
run_to_reply-requires-clause-trying g c =
    let call = call_with c.args.op c.self.inside c.args.gates.now.words.config c.args.self.now c.self.view_is c.requires.from.1 c.self.invariant.0
    c.may_begin.result c.may_begin.ensures c.in_default.not-Err (g.P.PendingOp.as_phase c.args.first) c.requires.first in
    record { op = call.op; start = call.start; goes = has_begun call; tries = c.requires.tries }

pub invariant_of-self : goal.invariant_of-self
invariant_of-self g c =
    let d = (goal.at.invariant_of-self g c).After-run_to_reply in (
      ghost_agrees_done (call g d) (left g d) c.run_to_reply.result refl,
      c.run_to_reply.ensures.seated.same_slots ∙ c.self.invariant.1,
      room_done (call g d) _ c.requires.other c.self.invariant.2 (left g d) c.run_to_reply.result refl,
      left_tells (call g d) (left g d) 0 refl,
    )

pub returns : goal.returns
returns g c =
    let d = (goal.at.returns g c).After-run_to_reply in
    was_done the_reply (call g d).op (call g d).start _ c.run_to_reply.result c.run_to_reply.result (sym (told_whole c.run_to_reply.result))
    (call g d).admitted (ended_at (call g d) (left g d) c.run_to_reply.result refl)

pub returns-in-Err : goal.returns-in-Err
returns-in-Err g c =
    was_refused the_reply c.args.op c.args.self.now c.args.self.now c.in-Err.refusal
    (sym c.in-Err.is ∙ c.may_begin.ensures) refl
