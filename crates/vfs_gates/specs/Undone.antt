-- What a freeze that a hook has refused leaves.
use Rattle.std.specs.Prelude.{List, [], ◌∷◌, ◌≡◌}
use Rattle.{gate_world.specs.{Headline.world_after, declared.entries.Entry.Entry}, progress_laws.specs.Undone.IsUndone}
use Rattle.vfs_gates.specs.TaskStates.{SeatedTask, own_number}

-- A call leaves nothing behind in the gates. At its answer its task has seen one schedule, which ends with the call's last step; in the state of that
-- schedule the stage is 0, no level is closed, `umount` is free, the task holds what it held when the call began, and at most marks were cleared.
pub record LeavesNothing (old left : SeatedTask) : Type 0 where
  pub entries : List Entry
  pub seen : left.seen ≡ entries ∷ []
  pub undone : IsUndone (world_after old.config entries) (own_number old.items)
