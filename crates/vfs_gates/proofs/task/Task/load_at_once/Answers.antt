-- a beginning, and a line of steps whose loads are noted
use Rattle.vfs_gates.proofs.Prelude.{BuffersMatch, Config, Locks, Phase, SeatedTask, Some, Trees, ap, arith, refl, snapshot_at, subst, sym, words_in}
use Rattle.vfs_gates.proofs.Prelude.{◌∙◌, ◌≡◌, ◌≤◌}
use Rattle.gate_steps.{proofs.call_events.Onward.{done_at, stands_at}, specs.call_events.Progress.TheVariants.{Done, Going}}
use Rattle.gate_world.specs.declared.operations.Op.TheVariants.{Snapshot as SnapshotOp}
use Rattle.vfs_gates.proofs.{AtOnce.{refused_at_once, told_at_once, went_so}, Calling.{Call, Left, call_with, ended_at}}
use Rattle.vfs_gates.proofs.Calling.{ghost_agrees_at, ghost_agrees_done, goes_at, has_asked_none, is_agrees, items_of, not_begun}
use Rattle.vfs_gates.proofs.{Loading.{loaded_buffers, loaded_done, nodes_as_begun}, Rooming.begun_in, Waiting.{left_tells, once}}
use Rattle.vfs_gates.{proofs.task.Task.load_at_once.Goals.After-snapshot_first-next, specs.{Buffers.IsSized, Noted.of_tree}}
use Rattle.vfs_gates.proofs.task.Task.load_at_once.Goals as goal

-- the call, and what its line has left
abbrev call : After-snapshot_first-next → Call
call c =
    call_with (SnapshotOp c.args.wait) c.self.inside c.args.gates.now.words.config c.args.self.now c.self.view_is c.requires.1
    c.self.invariant.0 c.may_begin.result c.may_begin.ensures c.in_default.not-Err (snapshot_at c.first_snapshot-first.result Locks)
    c.first_snapshot-first.ensures

abbrev left : (c : After-snapshot_first-next) → Left (call c)
left c = record {
  next = of_tree c.snapshot_first-next.result;
  accesses = c.self.inside.state.accesses;
  known = c.snapshot_first-next.new.seat.me.0;
  table = c.snapshot_first-next.new.seat.table_id;
  agrees = c.snapshot_first-next.ensures.led.seated.agrees;
  waits = 0;
  went = went_so (call c).op (call c).start c.snapshot_first-next.ensures.led (has_asked_none (call c));
}

-- as the call begins, its buffers tell of the operation's first phase
begun : (c : After-snapshot_first-next) →
    BuffersMatch (call c).task.config.nodes (words_in c.self.inside.buffers) (Some (call c).op) (Some (call c).first) (items_of (call c))
begun c = begun_in (call c) (words_in c.self.inside.buffers) c.self.inside.begins c.self.inside.state.phase c.self.invariant.2

pub snapshot_first-next-requires-clause-stands : goal.snapshot_first-next-requires-clause-stands
snapshot_first-next-requires-clause-stands c =
    record {
      table = ap (λ (s : SeatedTask). s.table) c.self.view_is ∙ c.requires.0;
      agrees =
          is_agrees (call_with (SnapshotOp c.args.wait) c.self.inside c.args.gates.now.words.config c.args.self.now c.self.view_is c.requires.1
          c.self.invariant.0 c.may_begin.result c.may_begin.ensures c.in_default.not-Err (snapshot_at c.first_snapshot-first.result Locks)
          c.first_snapshot-first.ensures);
    }

-- there is room for as many nodes as it loads
pub snapshot_first-next-requires-clause-many : goal.snapshot_first-next-requires-clause-many
snapshot_first-next-requires-clause-many c =
    let nodes : c.first_snapshot-first.result.nodes ≡ c.self.inside.config.nodes =
    nodes_as_begun c.first_snapshot-first.result c.args.self.now.config _ c.args.wait c.first_snapshot-first.ensures ∙
    sym (ap (λ (s : SeatedTask). s.config.nodes) c.self.view_is) in
    let same : c.self.inside.config ≡ c.args.gates.now.words.config = ap (λ (s : SeatedTask). s.config) c.self.view_is ∙ c.requires.1 in
    let some : 2 ≤ c.self.inside.config.nodes = subst (λ (d : Config). 2 ≤ d.nodes) (sym same) c.args.gates.now.words.within.some_node in (
      subst (λ n. IsSized n (words_in c.self.inside.buffers).next) (sym nodes) c.self.invariant.2.room.1,
      omega arith,
    )

pub invariant_of-self : goal.invariant_of-self
invariant_of-self c =
    let d = (goal.at.invariant_of-self c).After-snapshot_first-next in
    let done = done_at Trees c.snapshot_first-next.result c.in-Done.answer c.in-Done.is in (
      ghost_agrees_done (call d) (left d) c.in-Done.answer done,
      c.snapshot_first-next.ensures.led.seated.same_slots ∙ c.self.invariant.1,
      loaded_done (call d) (of_tree c.snapshot_first-next.result) (c.snapshot_first-next.ensures.tells (words_in c.self.inside.buffers) refl)
          (begun d) c.in-Done.answer done,
      left_tells (call d) (left d) c.waits-self-inside.result (once (of_tree c.snapshot_first-next.result) c.waits-self-inside.result c.waits-self-inside.ensures),
    )

pub invariant_of-self-in-Go : goal.invariant_of-self-in-Go
invariant_of-self-in-Go c =
    let d = (goal.at.invariant_of-self-in-Go c).After-snapshot_first-next in
    let stands = stands_at Trees c.snapshot_first-next.result c.in-Go.under_way c.in-Go.is ∙ ap (λ (p : Phase). Some p) (sym c.phase.ensures) in (
      ghost_agrees_at (call d) (left d) _ stands,
      c.snapshot_first-next.ensures.led.seated.same_slots ∙ c.self.invariant.1,
      loaded_buffers (call d) (of_tree c.snapshot_first-next.result)
          (c.snapshot_first-next.ensures.tells (words_in c.self.inside.buffers) refl) (begun d) _ stands,
      left_tells (call d) (left d) c.waits-self-inside.result (once (of_tree c.snapshot_first-next.result) c.waits-self-inside.result c.waits-self-inside.ensures),
    )

pub returns-in-Done : goal.returns-in-Done
returns-in-Done c =
    let d = (goal.at.returns-in-Done c).After-snapshot_first-next in
    let called = ended_at (call d) (left d) c.in-Done.answer (done_at Trees c.snapshot_first-next.result c.in-Done.answer c.in-Done.is) in
    told_at_once (call d).op (call d).start _ (call d).admitted (ap (λ s. s.table) called.after) (ap (λ s. s.config) called.after)
    (not_begun (call d)) (Done c.in-Done.answer) called

pub returns-in-Go : goal.returns-in-Go
returns-in-Go c =
    let d = (goal.at.returns-in-Go c).After-snapshot_first-next in
    let goes = goes_at (call d) (left d) c.phase.result (stands_at Trees c.snapshot_first-next.result c.in-Go.under_way c.in-Go.is ∙
    ap (λ (p : Phase). Some p) (sym c.phase.ensures)) in
    told_at_once (call d).op (call d).start _ (call d).admitted goes.table goes.config (not_begun (call d)) Going goes

pub returns-in-Err : goal.returns-in-Err
returns-in-Err c =
    refused_at_once (SnapshotOp c.args.wait) c.args.self.now c.in-Err.refusal
    (sym c.in-Err.is ∙ c.may_begin.ensures)
