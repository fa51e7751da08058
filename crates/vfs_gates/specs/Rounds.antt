-- What a task has done between its calls, round by round, and how a number ends. A caller finds the words for it here, too.
use Rattle.std.specs.Prelude.{◌≡◌, ℕ, ◌==◌, ◌+◌, if◌then◌else◌, Ok, Err, List, [], ◌∷◌}
use Rattle.gate_world.specs.declared.views.View.{View}
pub use Rattle.access_model.specs.declared.actions.Action.{Action}
pub use Rattle.access_model.specs.declared.actions.Action.TheVariants.{Grant}
pub use Rattle.access_model.specs.declared.actions.Gate.{Gate}
pub use Rattle.access_model.specs.declared.actions.Gate.TheVariants.{Mount, Level}
pub use Rattle.access_model.specs.declared.errors.GateError.{GateError}
pub use Rattle.access_model.specs.declared.errors.GateError.TheVariants.{Busy, NoMemory, ReadOnly}
pub use Rattle.gate_world.specs.declared.operations.Op.{Op}
pub use Rattle.gate_world.specs.declared.operations.Op.TheVariants.{ChangeMount}
pub use Rattle.gate_steps.specs.call_events.Runs.{Performs}
pub use Rattle.vfs_gates.specs.Ended.{Ended, ClosedState}
pub use Rattle.vfs_gates.specs.Handed.{ComesAfter}
pub use Rattle.vfs_gates.specs.Held.{Rests, own_actions}
pub use Rattle.gate_steps.specs.Seating.{times}
pub use Rattle.vfs_gates.specs.TaskStates.{SeatedTask, IsFrom, own_view, spare_of}

-- two calls that were done, one right after the other
abbrev pub BothDone : Op → Op → SeatedTask → SeatedTask → Type 0
BothDone one two first last = (there : SeatedTask) × Performs one first there (Ok tt) × Performs two there last (Ok tt)

-- so many rounds from one state of a task to another, one after the other, with calls between them that were refused
pub data Rounds (Round : SeatedTask → SeatedTask → Type 0) : ℕ → SeatedTask → SeatedTask → Type 0 where
  none : {s : SeatedTask} → Rounds Round 0 s s
  refused : {n : ℕ} {first mid last : SeatedTask} {op : Op} {refusal : GateError} → Rounds Round n first mid →
      Performs op mid last (Err refusal) → Rounds Round n first last
  round : {n : ℕ} {first mid last : SeatedTask} → Rounds Round n first mid → Round mid last → Rounds Round (n + 1) first last

-- 1 where both are one gate
abbrev one_gate : Gate → Gate → ℕ
one_gate (Mount m) (Mount n) = if m == n then 1 else 0
one_gate (Level i) (Level j) = if i == j then 1 else 0
one_gate gate other = 0

-- how often an access at a gate was granted in a list of actions
abbrev pub granted_in : Gate → List Action → ℕ
granted_in gate [] = 0
granted_in gate (Grant other ∷ earlier) = one_gate gate other + granted_in gate earlier
granted_in gate (a ∷ earlier) = granted_in gate earlier

-- so many accesses at a gate were granted to a task on its way from one state to another
abbrev pub Granted : Gate → ℕ → SeatedTask → SeatedTask → Type 0
Granted gate n first last = granted_in gate (own_actions last) ≡ n + granted_in gate (own_actions first)

-- a number that has this view in the end is that of a task which had done nothing, and then did this
pub record Did (view : View) (Does : SeatedTask → SeatedTask → Type 0) : Type 0 where
  pub begins : SeatedTask
  pub ends : SeatedTask
  pub nothing : own_actions begins ≡ []
  pub does : Does begins ends
  pub last : view ≡ own_view ends.items
