-- What callers know of their calls in the order of time.
use Rattle.std.specs.Prelude.{Err, List, None, Ok, Result, Some, true, ℕ, ◌++◌, ◌≡◌}
use Rattle.access_model.specs.{Laws.IsFrozenStill, declared.{actions.Holder.Holder, errors.GateError.GateError, replies.Reply.Reply}}
use Rattle.gate_steps.specs.call_events.{Runs.{Called, Performs}, Spans.{AreInOrder, HasItsCauseDuring, IsTreeDuring, TakesEffect}}
use Rattle.gate_world.specs.{Shown.shown, Worlds.World, declared.operations.Op.{Op, TheVariants.{Freeze as FreezeOp, Snapshot as SnapshotOp}}}
use Rattle.gate_world.specs.{declared.views.Snapshot.Snapshot, traces.TraceStates.state_of_trace}
use Rattle.vfs_gates.specs.{Ended.{ClosedState, Ended, IsLeftAfter}, Found.WasSoDuring, Held.own_actions, Meetings.ComesAfterList}
use Rattle.vfs_gates.specs.TaskStates.{SeatedTask, own_number, own_view, refusal_at}

-- A call took effect between call and return: the actions that were added meanwhile have its own among them.
pub record TookEffect (op : Op) (old left : SeatedTask) : Type 0 where
  pub reply : Reply
  pub called : Called op old left (Ok reply)
  pub effect : TakesEffect old.config old.items op called.trace old.seen left.seen called.history.history.log

-- A call that added nothing found that so between call and return.
abbrev pub FoundItSo : Op → SeatedTask → SeatedTask → Type 0
FoundItSo op old left = own_actions left ≡ own_actions old → (reply : Reply) × WasSoDuring old.config old.items op reply old.seen left.seen

-- Of two calls the second was refused, for what was so once the first was done.
pub record RefusedSince (one two : Op) (old left : SeatedTask) (refusal : GateError) : Type 0 where
  pub between : SeatedTask
  pub first : Performs one old between (Ok tt)
  pub during : refusal_at two between ≡ None → (called : Called two between left (Err refusal)) ×
      HasItsCauseDuring between.config between.items two called.trace refusal between.seen left.seen

-- A task made a call and told another of it, whose call comes after it: in the history that the second leaves, all that it added comes after all that
-- the first added, and after all else that the first task had done.
pub record DoneInOrder (one two : Op) (old left other other_left : SeatedTask) : Type 0 where
  pub told : SeatedTask
  pub same : told ≡ record other { seen = told.seen }
  pub reply : Reply
  pub answer : Reply
  pub first : Called one old left (Ok reply)
  pub second : Called two told other_left (Ok answer)
  pub order : AreInOrder (own_number old.items) (state_of_trace old.config (own_number old.items) one first.trace).added
      (own_number told.items) (state_of_trace told.config (own_number told.items) two second.trace).added second.history.history.log
  pub behind : ComesAfterList (own_number left.items) (own_actions left) told other_left

-- A new task made a call, which comes after what its maker's first call had left.
pub record ComesAfterItsMaker (one : Op) (old new : SeatedTask) : Type 0 where
  pub left : SeatedTask
  pub first : Performs one old left (Ok tt)
  pub begins : SeatedTask
  pub behind : ComesAfterList (own_number left.items) (own_actions left) begins new

-- A task that took another in made a call, which comes after what the other's call had left.
pub record ComesAfterTheOther (one : Op) (other left : SeatedTask) : Type 0 where
  pub gone : SeatedTask
  pub first : Performs one other gone (Ok tt)
  pub both : SeatedTask
  pub behind : ComesAfterList (own_number gone.items) (own_actions gone) both left

-- Closed gates are left by a schedule that goes on from all that two tasks had seen.
abbrev pub LeftAfterBoth : ClosedState → SeatedTask → SeatedTask → Type 0
LeftAfterBoth c one two = (w : World) × IsLeftAfter c.config c.words w (one.items ++ two.items) (one.seen ++ two.seen)

-- A task has copied a tree that was frozen between call and return.
abbrev pub CopiedDuring : SeatedTask → SeatedTask → Type 0
CopiedDuring old left = (s : Snapshot) × ((own_view left.items).snapshot ≡ Some s) ×
    IsTreeDuring old.config old.items (SnapshotOp true) old.seen left.seen s.loaded

-- A task has frozen all for a holder, and after a later call all is frozen still, with the same tree.
pub record StayedFrozen (h : Holder) (op : Op) : Type 0 where
  pub old : SeatedTask
  pub frozen : SeatedTask
  pub left : SeatedTask
  pub reply : Reply
  pub answer : Result Reply GateError
  pub first : Called (FreezeOp h) old frozen (Ok reply)
  pub last : Called op frozen left answer
  pub still : IsFrozenStill h (shown old.config first.history.world) (shown frozen.config last.history.world)

-- A task has frozen all for a holder, and in the state that closed gates leave all is frozen still, with the same tree.
pub record LeftFrozen (h : Holder) (words : List ℕ) : Type 0 where
  pub old : SeatedTask
  pub frozen : SeatedTask
  pub reply : Reply
  pub first : Called (FreezeOp h) old frozen (Ok reply)
  pub ended : Ended old.config words
  pub still : IsFrozenStill h (shown old.config first.history.world) (shown old.config ended.world)
