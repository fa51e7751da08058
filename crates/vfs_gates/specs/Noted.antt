-- Lines of steps of a snapshot, whose loads its task notes in its buffers, and where they have led.
use Rattle.access_model.specs.{Replies.map_next, declared.replies.{Next.{Next, TheVariants.Done}, Reply.TheVariants.Tree as TreeReply}}
use Rattle.gate_steps.specs.{call_events.Led.{Led, TaskSeat}, declared.call_events.words.GateWords.GateWords}
use Rattle.gate_world.specs.{Views.phase_after, declared.{accesses.Accesses.Accesses, operations.Op.Op, work.Phase.{Phase, TheVariants.Trees}}}
use Rattle.gated_tree.specs.declared.{phases.TreePhase.{TheVariants.Snapshot as Snapshots, TreePhase}, snapshots.Snapshot.Snapshot}
use Rattle.gated_tree.specs.declared.{snapshots.SnapshotStep.{SnapshotStep, TheVariants.{LoadsKids, LoadsNode, Releases}}, trees.TreeWords.TreeWords}
use Rattle.std.specs.Prelude.{Bool, List, None, Ok, Option, Some, false, true, ℕ}
use Rattle.vfs_gates.specs.Buffers.{BufferWords, BuffersMatch, completed, with_words}

-- what comes next of a call at the tree, as phases
abbrev pub of_tree : Next TreePhase → Next Phase
of_tree next = map_next Trees next

-- after the line of a snapshot: it is taken, or this comes next
abbrev pub taken_or : Bool → Next TreePhase → Next Phase
taken_or true rest = Done (Ok TreeReply)
taken_or false rest = of_tree rest

-- a snapshot with this step to come
abbrev pub snapshot_at : Snapshot → SnapshotStep → Phase
snapshot_at s step = Trees (Snapshots (record s { step = step }))

-- one that has loaded its nodes up to this one, whose word is no node's; where there is none, it has loaded all
abbrev pub nodes_loaded : Snapshot → Option ℕ → Phase
nodes_loaded s (Some node) = snapshot_at s (LoadsNode node)
nodes_loaded s None = snapshot_at s (LoadsKids 0)

-- one that has loaded all words, or its nodes up to this one
abbrev pub words_loaded : Snapshot → Option ℕ → Phase
words_loaded s (Some node) = snapshot_at s (LoadsNode node)
words_loaded s None = snapshot_at s (Releases (Ok TreeReply))

-- the buffers with these words of the nodes, of their children, or of the whole tree
abbrev pub with_nodes : List ℕ → BufferWords → BufferWords
with_nodes nodes r = record r { next = record r.next { nodes = nodes } }

abbrev pub with_kids : List ℕ → BufferWords → BufferWords
with_kids kids r = record r { next = record r.next { kids = kids } }

-- with the words of the whole tree, which are those of a complete snapshot unless a node's word was none
abbrev pub with_loaded : Option ℕ → TreeWords → BufferWords → BufferWords
with_loaded (Some node) words r = with_words words r
with_loaded None words r = completed (with_words words r)

-- Steps have led a snapshot from where it stood to where it stands, and what they have loaded was noted: what a task's buffers told of its
-- numbers before, if they were like this, they tell of them after, as this makes them.
pub record Noted (gates : GateWords) (begins : Option Op) (next : Next Phase) (accesses : Accesses) (seat : TaskSeat) (Were : BufferWords → Type 0)
    (further : Next Phase) (left : TaskSeat) (made : BufferWords → BufferWords) : Type 0 where
  pub led : Led gates begins next accesses seat further accesses left
  pub tells : (r : BufferWords) → Were r → BuffersMatch gates.config.nodes r begins (phase_after next) seat.me.0.items →
      BuffersMatch gates.config.nodes (made r) None (phase_after further) left.me.0.items
