-- a beginning, and a line of steps that may ask hooks
use Rattle.vfs_gates.proofs.Prelude.{Phase, SeatedTask, Some, ap, map_next, sym, ◌∙◌}
use Rattle.vfs_gates.proofs.{AtOnce.{refused_at_once, told_at_once, went_there}, Calling.{Call, Left, call_with, ended_at}}
use Rattle.vfs_gates.proofs.{Calling.{ghost_agrees_at, ghost_agrees_done, goes_at, has_asked_none, is_agrees, not_begun}, Rooming.room_at}
use Rattle.vfs_gates.proofs.{Rooming.room_done, Waiting.{left_tells, once}, task.Task.perform_at_once.Goals.After-begin_in_line-next}
use Rattle.gate_steps.{proofs.call_events.Onward.{done_at, stands_at}, specs.call_events.Progress.TheVariants.{Done, Going}}
use Rattle.vfs_gates.proofs.task.Task.perform_at_once.Goals as goal

-- the call, and what its line has left
abbrev call : (g : _) → After-begin_in_line-next g → Call
call g c =
    call_with c.args.op c.self.inside c.args.gates.now.words.config c.args.self.now c.self.view_is c.requires.from.1 c.self.invariant.0
    c.may_begin.result c.may_begin.ensures c.in_default.not-Err (g.P.PendingOp.as_phase c.args.first) c.requires.first

abbrev left : (g : _) (c : After-begin_in_line-next g) → Left (call g c)
left g c = record {
  next = map_next g.P.PendingOp.as_phase c.begin_in_line-next.result;
  accesses = c.begin_in_line-next.new.accesses;
  known = c.begin_in_line-next.new.seat.me.0;
  table = c.begin_in_line-next.new.seat.table_id;
  agrees = c.begin_in_line-next.ensures.seated.agrees;
  waits = 0;
  went = went_there (call g c).op (call g c).start c.begin_in_line-next.ensures (has_asked_none (call g c));
}

pub begin_in_line-next-requires : goal.begin_in_line-next-requires
begin_in_line-next-requires g c =
    record {
      table = ap (λ (s : SeatedTask). s.table) c.self.view_is ∙ c.requires.from.0;
      agrees =
          is_agrees (call_with c.args.op c.self.inside c.args.gates.now.words.config c.args.self.now c.self.view_is c.requires.from.1 c.self.invariant.0
          c.may_begin.result c.may_begin.ensures c.in_default.not-Err (g.P.PendingOp.as_phase c.args.first) c.requires.first);
    }

pub invariant_of-self : goal.invariant_of-self
invariant_of-self g c =
    let d = (goal.at.invariant_of-self g c).After-begin_in_line-next in (
      ghost_agrees_done (call g d) (left g d) c.in-Done.answer (done_at g.P.PendingOp.as_phase c.begin_in_line-next.result c.in-Done.answer c.in-Done.is),
      c.begin_in_line-next.ensures.seated.same_slots ∙ c.self.invariant.1,
      room_done (call g d) _ c.requires.other c.self.invariant.2 (left g d) c.in-Done.answer
          (done_at g.P.PendingOp.as_phase c.begin_in_line-next.result c.in-Done.answer c.in-Done.is),
      left_tells (call g d) (left g d) c.waits-self-inside.result (once (map_next g.P.PendingOp.as_phase c.begin_in_line-next.result) c.waits-self-inside.result c.waits-self-inside.ensures),
    )

pub invariant_of-self-in-Go : goal.invariant_of-self-in-Go
invariant_of-self-in-Go g c =
    let d = (goal.at.invariant_of-self-in-Go g c).After-begin_in_line-next in
    let stands = stands_at g.P.PendingOp.as_phase c.begin_in_line-next.result c.in-Go.under_way c.in-Go.is ∙ ap (λ (p : Phase). Some p) (sym c.phase.ensures) in (
      ghost_agrees_at (call g d) (left g d) _ stands,
      c.begin_in_line-next.ensures.seated.same_slots ∙ c.self.invariant.1,
      room_at (call g d) _ c.requires.other c.self.invariant.2 (left g d) _ stands,
      left_tells (call g d) (left g d) c.waits-self-inside.result (once (map_next g.P.PendingOp.as_phase c.begin_in_line-next.result) c.waits-self-inside.result c.waits-self-inside.ensures),
    )

pub returns-in-Done : goal.returns-in-Done
returns-in-Done g c =
    let d = (goal.at.returns-in-Done g c).After-begin_in_line-next in
    let called = ended_at (call g d) (left g d) c.in-Done.answer (done_at g.P.PendingOp.as_phase c.begin_in_line-next.result c.in-Done.answer c.in-Done.is) in
    told_at_once (call g d).op (call g d).start _ (call g d).admitted (ap (λ s. s.table) called.after) (ap (λ s. s.config) called.after)
    (not_begun (call g d)) (Done c.in-Done.answer) called

pub returns-in-Go : goal.returns-in-Go
returns-in-Go g c =
    let d = (goal.at.returns-in-Go g c).After-begin_in_line-next in
    let goes = goes_at (call g d) (left g d) c.phase.result (stands_at g.P.PendingOp.as_phase c.begin_in_line-next.result c.in-Go.under_way c.in-Go.is ∙
    ap (λ (p : Phase). Some p) (sym c.phase.ensures)) in
    told_at_once (call g d).op (call g d).start _ (call g d).admitted goes.table goes.config (not_begun (call g d)) Going goes

pub returns-in-Err : goal.returns-in-Err
returns-in-Err g c =
    refused_at_once c.args.op c.args.self.now c.in-Err.refusal (sym c.in-Err.is ∙ c.may_begin.ensures)
