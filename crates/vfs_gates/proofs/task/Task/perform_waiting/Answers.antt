-- a call that does its steps until it replies: its beginning, the steps, and what the task shows then
use Rattle.vfs_gates.proofs.Prelude.{Done, None, SeatedTask, [], ap, own_number, refl, sym, task_state, the_reply, ◌∙◌}
use Rattle.std.proofs.Common.{add-zero}
use Rattle.gate_steps.{proofs.call_events.{Asking.{was_done_asking, was_refused_asking}, Running.told_whole}, specs.call_events.Asking.CalledAsking}
use Rattle.gate_steps.specs.call_events.Waited.{counted, waits_in}
use Rattle.vfs_gates.proofs.{Calling.{Call, Left, call_with, ended_asking, ghost_agrees_done, has_asked_none, is_agrees}}
use Rattle.vfs_gates.proofs.{Rooming.room_done, Waiting.left_tells, task.Task.perform_waiting.Goals.After-wait_for_reply-answer}
use Rattle.vfs_gates.proofs.task.Task.perform_waiting.Goals as goal

-- the call, and what its steps have left
abbrev call : (g : _) → After-wait_for_reply-answer g → Call
call g c =
    call_with c.args.op c.self.inside c.args.gates.now.words.config c.args.self.now c.self.view_is c.requires.from.1 c.self.invariant.0
    c.may_begin.result c.may_begin.ensures c.in_default.not-Err (g.P.PendingOp.as_phase c.args.first) c.requires.first

-- done whole, it has asked the hooks that its steps read
asking : (g : _) (c : After-wait_for_reply-answer g) →
    CalledAsking g.H.TimedHooks.answers (call g c).op (call g c).start c.args.hooks.now
    (task_state c.wait_for_reply-answer.new.seat.table_id c.args.gates.now.words.config None None c.wait_for_reply-answer.new.seat.me.0) c.wait_for_reply-answer.result.0
    c.wait_for_reply-answer.result.1 c.wait_for_reply-answer.new.hooks
asking g c = c.wait_for_reply-answer.ensures.called (call g c).op (call g c).start c.args.hooks.now ([], has_asked_none (call g c), refl)

abbrev left : (g : _) (c : After-wait_for_reply-answer g) → Left (call g c)
left g c = record {
  next = Done c.wait_for_reply-answer.result.0;
  accesses = c.wait_for_reply-answer.new.accesses;
  known = c.wait_for_reply-answer.new.seat.me.0;
  table = c.wait_for_reply-answer.new.seat.table_id;
  agrees = c.wait_for_reply-answer.ensures.seated.agrees;
  waits = waits_in (call g c).start.config (own_number (call g c).start.items) (call g c).op (asking g c).0.trace;
  went = ((asking g c).0, refl);
}

pub wait_for_reply-answer-requires : goal.wait_for_reply-answer-requires
wait_for_reply-answer-requires g c =
    record {
      table = ap (λ (s : SeatedTask). s.table) c.self.view_is ∙ c.requires.from.0;
      agrees =
          is_agrees (call_with c.args.op c.self.inside c.args.gates.now.words.config c.args.self.now c.self.view_is c.requires.from.1 c.self.invariant.0
          c.may_begin.result c.may_begin.ensures c.in_default.not-Err (g.P.PendingOp.as_phase c.args.first) c.requires.first);
    }

pub invariant_of-self : goal.invariant_of-self
invariant_of-self g c =
    let d = (goal.at.invariant_of-self g c).After-wait_for_reply-answer in (
      ghost_agrees_done (call g d) (left g d) c.wait_for_reply-answer.result.0 refl,
      c.wait_for_reply-answer.ensures.seated.same_slots ∙ c.self.invariant.1,
      room_done (call g d) _ c.requires.other c.self.invariant.2 (left g d) c.wait_for_reply-answer.result.0 refl,
      left_tells (call g d) (left g d) c.wait_for_reply-answer.result.1 ((asking g d).2 ∙ ap (λ n. counted n) (sym (add-zero (left g d).waits))),
    )

pub returns : goal.returns
returns g c =
    let d = (goal.at.returns g c).After-wait_for_reply-answer in
    was_done_asking g.H.TimedHooks.answers the_reply (call g d).op (call g d).start _ c.wait_for_reply-answer.result.0 c.wait_for_reply-answer.result.0
    (sym (told_whole c.wait_for_reply-answer.result.0)) (call g d).admitted c.args.hooks.now c.wait_for_reply-answer.new.hooks
    c.wait_for_reply-answer.result.1
    (ended_asking (call g d) (left g d) g.H.TimedHooks.answers c.args.hooks.now c.wait_for_reply-answer.new.hooks c.wait_for_reply-answer.result.0
    c.wait_for_reply-answer.result.1 refl (asking g d))

pub returns-in-Err : goal.returns-in-Err
returns-in-Err g c =
    was_refused_asking g.H.TimedHooks.answers the_reply c.args.op c.args.self.now c.args.self.now c.in-Err.refusal
    (sym c.in-Err.is ∙ c.may_begin.ensures) refl c.args.hooks.now
