-- The order of steps of a close: which word a step touches and how, and what comes after it.
use Rattle.access_model.specs.declared.actions.{Action.{Action, TheVariants.{Close as CloseAction, Return}}, Gate.TheVariants.Level}
use Rattle.access_model.specs.declared.{errors.GateError.TheVariants.Again, replies.Next.{Next, TheVariants.{Done, Go, Wait}}}
use Rattle.access_model.specs.declared.replies.Reply.TheVariants.{Unit as UnitReply}
use Rattle.cpu_words.specs.declared.{events.Touch.{TheVariants.{Cas, Load, Sub}, Touch}, names.WordName.{TheVariants.{Node, Removed, Used}, WordName}}
use Rattle.node_words.specs.{Nodes.{any_file_in, closed_node, word_of}, Phases.after_look, declared.nodes.NodeWord.NodeWord}
use Rattle.percpu_rwsem.specs.{Readers.{down_read_after, down_read_next, up_read_next}, declared.readers.DownRead.DownRead}
use Rattle.percpu_rwsem.specs.declared.readers.{DownReadStep.TheVariants.EntersSection, UpRead.UpRead}
use Rattle.std.specs.Prelude.{Err, None, Ok, Option, Some, if◌then◌else◌, ℕ, ◌&&◌, ◌==◌}
use Rattle.composite_ops.specs.declared.file_closes.phases.ClosePhase.{ClosePhase, TheVariants.{Enters, FreesNode, Leaves, LoadsFile, LowersCount}}
use Rattle.composite_ops.specs.declared.file_closes.phases.{ClosePhase.TheVariants.{RefundsBlocks, Uncounts}, Closing.Closing}

-- the up-read of level 3 on a processor
abbrev pub leaves_on : ℕ → UpRead
leaves_on p = record { level = 3; cpu = p }

-- a last close goes inside level 3
abbrev pub enters : Closing → NodeWord → ClosePhase
enters x node = Enters x.file node (record { level = 3; cpu = x.cpu; task = x.task; wait = x.wait; step = EntersSection })

-- What comes after a file was found. At one that no task has open the load is done again, which never happens behind the gates.
abbrev pub closed_from : Closing → NodeWord → ClosePhase
closed_from x node =
    if node.opens == 0 then LoadsFile x else
    if node.removed && (node.opens == 1) then enters x node else LowersCount x node

-- after a step at the level: inside it, the node is freed, on the same processor
abbrev pub then_frees : ℕ → NodeWord → ℕ → Next DownRead → Next ClosePhase
then_frees f node p (Go r) = Go (Enters f node r)
then_frees f node p (Wait r) = Wait (Enters f node r)
then_frees f node p (Done (Ok reply)) = Go (FreesNode f p node)
then_frees f node p (Done (Err refusal)) = Done (Err refusal)

-- the word and the touch of the next step
abbrev pub next : ClosePhase → WordName × Touch
next (LoadsFile x) = (Node x.file, Load)
next (LowersCount x node) = (Node x.file, Cas (word_of node) (word_of (closed_node node)))
next (Enters f node r) = down_read_next r r.step
next (FreesNode f p node) = (Node f, Cas (word_of node) 0)
next (RefundsBlocks p blocks) = (Used, Sub blocks)
next (Uncounts p) = (Removed, Sub 1)
next (Leaves p) = up_read_next (leaves_on p)

-- What comes after the step that found this value, and the action that the step adds. The compare-exchange of a last close can't fail
-- behind the gates; where it does, it is done again.
abbrev pub after : ClosePhase → ℕ → Next ClosePhase × Option Action
after (LoadsFile x) found = (after_look (LoadsFile x) (closed_from x) (any_file_in found), None)
after (LowersCount x node) found = (
  if found == word_of node then Done (Ok UnitReply) else Done (Err Again),
  if found == word_of node then Some (CloseAction x.file) else None,
)
after (Enters f node r) found = (then_frees f node r.cpu (down_read_after r r.step found).0, (down_read_after r r.step found).1)
after (FreesNode f p node) found = (
  if found == word_of node then Go (RefundsBlocks p node.size) else Go (FreesNode f p node),
  if found == word_of node then Some (CloseAction f) else None,
)
after (RefundsBlocks p blocks) found = (Go (Uncounts p), None)
after (Uncounts p) found = (Go (Leaves p), None)
after (Leaves p) found = (Done (Ok UnitReply), Some (Return (Level 3)))
