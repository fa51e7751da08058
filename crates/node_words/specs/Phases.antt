-- What comes after a look at a node, and the order of steps of a clearing of all dirty marks.
use Rattle.std.specs.Prelude.{ℕ, ◌==◌, if◌then◌else◌, Option, Some, None, Result, Ok, Err}
use Rattle.access_model.specs.declared.{actions.Action.{Action, TheVariants.{Clean}}, errors.GateError.{GateError}, replies.Next.{Next}}
use Rattle.access_model.specs.declared.replies.{Next.TheVariants.{Go, Done}, Reply.TheVariants.{Unit as UnitReply}}
use Rattle.cpu_words.specs.declared.{names.WordName.{WordName, TheVariants.{Node}}, events.Touch.{Touch, TheVariants.{And}}}
use Rattle.node_words.specs.{declared.marks.ClearMarks.{ClearMarks}, Nodes.{dirty_in, node_after}}

-- What comes after a load of a node that a call needs to be of a kind: the call goes on with the node, or it is refused. A word that is
-- no node's is loaded again, which never happens behind the gates.
abbrev pub after_look : {A P : Type 0} → P → (A → P) → Option (Result A GateError) → Next P
after_look again to None = Go again
after_look again to (Some (Ok a)) = Go (to a)
after_look again to (Some (Err refusal)) = Done (Err refusal)

-- Clear marks: an `and` with not 4 of each node but the root.
abbrev pub clear_next : ClearMarks → WordName × Touch
clear_next x = (Node x.node, And 18446744073709551611)

-- the clearing at this node, or at none: it has ended
abbrev pub clears_at : ClearMarks → Option ℕ → Next ClearMarks
clears_at x (Some node) = Go (record x { node = node })
clears_at x None = Done (Ok UnitReply)

-- what comes after a step of a clearing: a node whose mark was set is clean now
abbrev pub clear_after : ClearMarks → ℕ → Next ClearMarks × Option Action
clear_after x found = (
  clears_at x (node_after x.node x.nodes),
  if dirty_in found == 1 then Some (Clean x.node) else None,
)
