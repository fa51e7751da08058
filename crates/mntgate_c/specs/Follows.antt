-- What a handle has once its task comes back that it lent.
use Rattle.std.specs.Prelude.{true}
use Rattle.vfs_gates.specs.TaskStates.{SeatedTask}
use Rattle.mntgate_c.specs.contracts.{handles.TaskHandle.the_row as handle_row, members.Member.the_row as member_row}
use Rattle.mntgate_c.specs.declared.handles.TaskHandle.{TaskHandle}
use base.Fml.{Fml}
use denote.{Follow.follows, Ref.MutBor}

-- the handle of a task that came to this state
abbrev pub with_state : TaskHandle → SeatedTask → TaskHandle
with_state h s = record { at = h.at; full = true; state = s }

-- the handle then has the task in the state to which the loan has brought it
abbrev pub handle_follows : MutBor TaskHandle → MutBor SeatedTask → Fml
handle_follows h s = follows handle_row member_row h.ghost_name s.ghost_name (with_state h.now)
