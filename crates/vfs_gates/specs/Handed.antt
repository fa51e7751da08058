-- What a call of a task has behind it to which another task was joined.
use Rattle.std.specs.Prelude.{List, ◌++◌, ◌≡◌}
use Rattle.{access_model.specs.Histories.{Done, own_part}, gate_steps.specs.Seating.HaveHistory}
use Rattle.vfs_gates.specs.{Held.own_actions, TaskStates.{SeatedTask, own_number}}

-- In the one history that a call leaves, all that the other task's number had done stands before all that was added since the call began; and what
-- the call has added to its task's list is among the latter.
pub record ComesAfter (other old left : SeatedTask) : Type 0 where
  pub all : HaveHistory old.config left.items left.seen
  pub since : List Done
  pub before : List Done
  pub is : all.history.log ≡ since ++ before
  pub behind : own_part (own_number other.items) before ≡ own_actions other
  pub adds : own_actions left ≡ own_part (own_number old.items) since ++ own_actions old
