-- The orders of steps of the calls at the tree: which word a step touches and how, and what comes after it.
use Rattle.std.specs.Prelude.{ℕ, ◌+◌, ◌==◌, Bool, true, false, if◌then◌else◌, nat_lt, Option, Some, None, Ok, Err, is_some}
use Rattle.access_model.specs.declared.actions.Action.{Action}
use Rattle.access_model.specs.declared.actions.Action.TheVariants.{Create as CreateAction, Remove as RemoveAction, Grow as GrowAction, MoveTo as MoveToAction, Dirty, Clean, Open as OpenAction}
use Rattle.access_model.specs.declared.{errors.GateError.{TheVariants.{Again, Invalid, NoSpace}}, replies.Next.{Next}}
use Rattle.access_model.specs.declared.replies.Next.TheVariants.{Go, Wait, Done}
use Rattle.access_model.specs.declared.replies.Reply.TheVariants.{Unit as UnitReply, Node as NodeReply, Tree as TreeReply}
use Rattle.access_model.specs.Replies.{map_next}
use Rattle.cpu_words.specs.declared.names.WordName.{WordName, TheVariants.{Umount, Stage, Removed, Used, Node, Kids}}
use Rattle.cpu_words.specs.{declared.events.Touch.{Touch, TheVariants.{Load, Store, Add, Sub, Cas}}, Hooks.{HookAnswer}}
use Rattle.gated_tree.specs.declared.changes.{Create.{Create}, CreateStep.{CreateStep}}
use Rattle.gated_tree.specs.declared.changes.CreateStep.TheVariants.{LoadsDirectory, LoadsNode, ChargesChild, TakesNode, RefundsChild}
use Rattle.gated_tree.specs.declared.changes.{Remove.{Remove}, RemoveStep.{RemoveStep}}
use Rattle.gated_tree.specs.declared.changes.RemoveStep.TheVariants.{LoadsFile as LoadsFileToRemove, FreesNode, CountsRemoved, MarksRemoved, RefundsRemoved, RefundsBlocks as RefundsItsBlocks, RefundsChild as RefundsItsChild}
use Rattle.gated_tree.specs.declared.changes.{MoveTo.{MoveTo}, MoveStep.{MoveStep}}
use Rattle.gated_tree.specs.declared.changes.MoveStep.TheVariants.{LoadsFile as LoadsFileToMove, LoadsDirectory as LoadsTarget, ChargesChild as ChargesTarget, MovesFile, RefundsChild as RefundsOne}
use Rattle.gated_tree.specs.declared.growth.{Grow.{Grow}, GrowStep.{GrowStep}}
use Rattle.gated_tree.specs.declared.growth.GrowStep.TheVariants.{LoadsFile as LoadsFileToGrow, LoadsUsed, ChargesBlocks, GrowsFile, RefundsBlocks}
use Rattle.gated_tree.specs.declared.marks.{Mark.{Mark}, MarkStep.{MarkStep, TheVariants.{LoadsFile as LoadsFileToMark, MarksFile}}}
use Rattle.gated_tree.specs.declared.opens.{OpenFile.{OpenFile}, OpenStep.{OpenStep, TheVariants.{LoadsFile as LoadsFileToOpen, OpensFile}}}
use Rattle.gated_tree.specs.declared.snapshots.{Snapshot.{Snapshot}, SnapshotStep.{SnapshotStep}}
use Rattle.gated_tree.specs.declared.snapshots.SnapshotStep.TheVariants.{Locks, LoadsStage, LoadsUsed as LoadsUsedWord, LoadsNode as LoadsNodeWord, LoadsKids, Releases}
use Rattle.gated_tree.specs.declared.phases.TreePhase.{TreePhase}
use Rattle.gated_tree.specs.declared.phases.TreePhase.TheVariants.{Create as Creates, Remove as Removes, Grow as Grows, MoveTo as Moves, Mark as Marks, OpenFile as OpensOne, Snapshot as Snapshots, ClearMarks as Clears}
use Rattle.node_words.specs.{declared.nodes.NodeWord.{NodeWord}, Phases.{after_look, clear_next, clear_after}}
use Rattle.node_words.specs.Nodes.{word_of, unpacked, new_node, grown_node, moved_node, marked_node, opened_node, unlinked_node, file_in, directory_in, node_after}

-- Create: find the directory, and a free node; charge a child to the directory, and take the node. Where it was taken meanwhile, the
-- child is subtracted again.
abbrev pub create_next : Create → CreateStep → WordName × Touch
create_next c LoadsDirectory = (Node c.dir, Load)
create_next c (LoadsNode node) = (Node node, Load)
create_next c (ChargesChild node) = (Kids c.dir, Add 1)
create_next c (TakesNode node) = (Node node, Cas 0 (word_of (new_node c.kind c.dir)))
create_next c RefundsChild = (Kids c.dir, Sub 1)

-- the same create, with this step to come
abbrev pub at_create : Create → CreateStep → Create
at_create c step = record c { step = step }

-- a look at this node, or at none: all nodes are taken
abbrev pub create_looks_at : Create → Option ℕ → Next Create
create_looks_at c None = Done (Err NoSpace)
create_looks_at c (Some node) = Go (at_create c (LoadsNode node))

-- a node was found taken: the next one is looked at
abbrev pub create_past : Create → ℕ → Next Create
create_past c node = create_looks_at c (node_after node c.nodes)

-- a node was found free, or taken, or its word is no node's
abbrev pub create_looked : Create → ℕ → Option NodeWord → Next Create
create_looked c node None = Go (at_create c (LoadsNode node))
create_looked c node (Some found) = if is_some found.kind then create_past c node else Go (at_create c (ChargesChild node))

-- what comes after each step of a create: it is done where it takes the node
abbrev pub create_after : Create → CreateStep → ℕ → Next Create × Option Action
create_after c LoadsDirectory found = (
  after_look (at_create c LoadsDirectory) (λ directory. at_create c (LoadsNode 1)) (directory_in found),
  None,
)
create_after c (LoadsNode node) found = (create_looked c node (unpacked found), None)
create_after c (ChargesChild node) found = (Go (at_create c (TakesNode node)), None)
create_after c (TakesNode node) found = (
  if found == 0 then Done (Ok (NodeReply node)) else Go (at_create c RefundsChild),
  if found == 0 then Some (CreateAction node c.dir c.kind) else None,
)
create_after c RefundsChild found = (Done (Err Again), None)

-- Remove: free the file's node, and then subtract its blocks and the child that it was. Where some task has it open, count one removed file
-- more, and mark the node; then it keeps its blocks. Where its node changed meanwhile, the count is taken back.
abbrev pub remove_next : Remove → RemoveStep → WordName × Touch
remove_next r LoadsFileToRemove = (Node r.file, Load)
remove_next r (FreesNode file) = (Node r.file, Cas (word_of file) 0)
remove_next r (CountsRemoved file) = (Removed, Add 1)
remove_next r (MarksRemoved file) = (Node r.file, Cas (word_of file) (word_of (unlinked_node file)))
remove_next r RefundsRemoved = (Removed, Sub 1)
remove_next r (RefundsItsBlocks file) = (Used, Sub file.size)
remove_next r (RefundsItsChild file) = (Kids file.parent, Sub 1)

-- the same remove, with this step to come
abbrev pub at_remove : Remove → RemoveStep → Remove
at_remove r step = record r { step = step }

-- a file that no task has open is freed, another one is marked
abbrev pub removes_file : NodeWord → ℕ → RemoveStep
removes_file file opens = if opens == 0 then FreesNode file else CountsRemoved file

-- what comes after each step of a remove
abbrev pub remove_after : Remove → RemoveStep → ℕ → Next Remove × Option Action
remove_after r LoadsFileToRemove found = (
  after_look (at_remove r LoadsFileToRemove) (λ file. at_remove r (removes_file file file.opens)) (file_in found),
  None,
)
remove_after r (FreesNode file) found = (
  if found == word_of file then Go (at_remove r (RefundsItsBlocks file)) else Done (Err Again),
  if found == word_of file then Some (RemoveAction r.file) else None,
)
remove_after r (CountsRemoved file) found = (Go (at_remove r (MarksRemoved file)), None)
remove_after r (MarksRemoved file) found = (
  if found == word_of file then Go (at_remove r (RefundsItsChild file)) else Go (at_remove r RefundsRemoved),
  if found == word_of file then Some (RemoveAction r.file) else None,
)
remove_after r RefundsRemoved found = (Done (Err Again), None)
remove_after r (RefundsItsBlocks file) found = (Go (at_remove r (RefundsItsChild file)), None)
remove_after r (RefundsItsChild file) found = (Done (Ok UnitReply), None)

-- Grow: charge the blocks, where there is room for them, and then make the file larger. Where its node changed meanwhile, the blocks are
-- subtracted again.
abbrev pub grow_next : Grow → GrowStep → WordName × Touch
grow_next g LoadsFileToGrow = (Node g.file, Load)
grow_next g (LoadsUsed file) = (Used, Load)
grow_next g (ChargesBlocks file used) = (Used, Cas used (used + g.blocks))
grow_next g (GrowsFile file) = (Node g.file, Cas (word_of file) (word_of (grown_node g.blocks file)))
grow_next g RefundsBlocks = (Used, Sub g.blocks)

-- the same grow, with this step to come
abbrev pub at_grow : Grow → GrowStep → Grow
at_grow g step = record g { step = step }

-- So many blocks were found charged: there is no room for more, or the file as it was loaded would get too large, so that it isn't what it
-- was when the blocks were loaded, or they are charged.
abbrev pub grow_from : Grow → NodeWord → ℕ → Next Grow
grow_from g file used =
    if nat_lt g.capacity (used + g.blocks) then Done (Err NoSpace) else
    if nat_lt g.capacity (file.size + g.blocks) then Done (Err Again) else
    Go (at_grow g (ChargesBlocks file used))

-- what comes after each step of a grow
abbrev pub grow_after : Grow → GrowStep → ℕ → Next Grow × Option Action
grow_after g LoadsFileToGrow found = (after_look (at_grow g LoadsFileToGrow) (λ file. at_grow g (LoadsUsed file)) (file_in found), None)
grow_after g (LoadsUsed file) found = (grow_from g file found, None)
grow_after g (ChargesBlocks file used) found = (if found == used then Go (at_grow g (GrowsFile file)) else Done (Err Again), None)
grow_after g (GrowsFile file) found = (
  if found == word_of file then Done (Ok UnitReply) else Go (at_grow g RefundsBlocks),
  if found == word_of file then Some (GrowAction g.file g.blocks) else None,
)
grow_after g RefundsBlocks found = (Done (Err Again), None)

-- Move: charge a child to the new directory, give the file its new parent, and subtract the child from the old one; where the file's node
-- changed meanwhile, from the new one.
abbrev pub move_next : MoveTo → MoveStep → WordName × Touch
move_next m LoadsFileToMove = (Node m.file, Load)
move_next m (LoadsTarget file) = (Node m.dir, Load)
move_next m (ChargesTarget file) = (Kids m.dir, Add 1)
move_next m (MovesFile file) = (Node m.file, Cas (word_of file) (word_of (moved_node m.dir file)))
move_next m (RefundsOne dir answer) = (Kids dir, Sub 1)

-- the same move, with this step to come
abbrev pub at_move : MoveTo → MoveStep → MoveTo
at_move m step = record m { step = step }

-- what comes after each step of a move
abbrev pub move_after : MoveTo → MoveStep → ℕ → Next MoveTo × Option Action
move_after m LoadsFileToMove found = (after_look (at_move m LoadsFileToMove) (λ file. at_move m (LoadsTarget file)) (file_in found), None)
move_after m (LoadsTarget file) found = (
  after_look (at_move m (LoadsTarget file)) (λ directory. at_move m (ChargesTarget file)) (directory_in found),
  None,
)
move_after m (ChargesTarget file) found = (Go (at_move m (MovesFile file)), None)
move_after m (MovesFile file) found = (
  if found == word_of file then Go (at_move m (RefundsOne file.parent (Ok UnitReply))) else Go (at_move m (RefundsOne m.dir (Err Again))),
  if found == word_of file then Some (MoveToAction m.file m.dir) else None,
)
move_after m (RefundsOne dir answer) found = (Done answer, None)

-- Mark: a page fault sets a file's dirty mark, a write-back clears it.
abbrev pub mark_next : Mark → MarkStep → WordName × Touch
mark_next m LoadsFileToMark = (Node m.file, Load)
mark_next m (MarksFile file) = (Node m.file, Cas (word_of file) (word_of (marked_node m.dirty file)))

-- the same mark, with this step to come
abbrev pub at_mark : Mark → MarkStep → Mark
at_mark m step = record m { step = step }

-- the action of a mark that was set, or cleared
abbrev pub mark_done : Bool → ℕ → Action
mark_done true file = Dirty file
mark_done false file = Clean file

-- what comes after each step of a mark
abbrev pub mark_after : Mark → MarkStep → ℕ → Next Mark × Option Action
mark_after m LoadsFileToMark found = (after_look (at_mark m LoadsFileToMark) (λ file. at_mark m (MarksFile file)) (file_in found), None)
mark_after m (MarksFile file) found = (
  if found == word_of file then Done (Ok UnitReply) else Done (Err Again),
  if found == word_of file then Some (mark_done m.dirty m.file) else None,
)

-- Open: count one task more that has the file open. At a file that 64 tasks have open the load is done again, which never happens behind the
-- gates.
abbrev pub open_next : OpenFile → OpenStep → WordName × Touch
open_next o LoadsFileToOpen = (Node o.file, Load)
open_next o (OpensFile file) = (Node o.file, Cas (word_of file) (word_of (opened_node file)))

-- the same open, with this step to come
abbrev pub at_open : OpenFile → OpenStep → OpenFile
at_open o step = record o { step = step }

-- a file that so many tasks have open is opened
abbrev pub opens_from : NodeWord → Bool → OpenStep
opens_from file room = if room then OpensFile file else LoadsFileToOpen

-- what comes after each step of an open
abbrev pub open_after : OpenFile → OpenStep → ℕ → Next OpenFile × Option Action
open_after o LoadsFileToOpen found = (
  after_look (at_open o LoadsFileToOpen) (λ file. at_open o (opens_from file (nat_lt file.opens 64))) (file_in found),
  None,
)
open_after o (OpensFile file) found = (
  if found == word_of file then Done (Ok UnitReply) else Done (Err Again),
  if found == word_of file then Some (OpenAction o.file) else None,
)

-- Snapshot: under `umount`, and at stage 4 alone, load all words of the tree.
abbrev pub snapshot_next : Snapshot → SnapshotStep → WordName × Touch
snapshot_next s Locks = (Umount, Cas 0 (s.task + 1))
snapshot_next s LoadsStage = (Stage, Load)
snapshot_next s LoadsUsedWord = (Used, Load)
snapshot_next s (LoadsNodeWord node) = (Node node, Load)
snapshot_next s (LoadsKids node) = (Kids node, Load)
snapshot_next s (Releases answer) = (Umount, Store 0)

-- the same snapshot, with this step to come
abbrev pub at_snapshot : Snapshot → SnapshotStep → Snapshot
at_snapshot s step = record s { step = step }

-- `umount` was found taken: a snapshot that waits tries again
abbrev pub snapshot_locked_out : Snapshot → Bool → Next Snapshot
snapshot_locked_out s true = Wait (at_snapshot s Locks)
snapshot_locked_out s false = Done (Err Again)

-- the next node, and after the last one the children of the first
abbrev pub node_step : Option ℕ → SnapshotStep
node_step (Some node) = LoadsNodeWord node
node_step None = LoadsKids 0

-- the children of the next node, and after the last one the end
abbrev pub kids_step : Option ℕ → SnapshotStep
kids_step (Some node) = LoadsKids node
kids_step None = Releases (Ok TreeReply)

-- what comes after each step of a snapshot: a word that is no node's is loaded again
abbrev pub snapshot_after : Snapshot → SnapshotStep → ℕ → Next Snapshot × Option Action
snapshot_after s Locks found = (if found == 0 then Go (at_snapshot s LoadsStage) else snapshot_locked_out s s.wait, None)
snapshot_after s LoadsStage found = (
  if found == 4 then Go (at_snapshot s LoadsUsedWord) else Go (at_snapshot s (Releases (Err Invalid))),
  None,
)
snapshot_after s LoadsUsedWord found = (Go (at_snapshot s (LoadsNodeWord 0)), None)
snapshot_after s (LoadsNodeWord node) found = (
  if is_some (unpacked found) then Go (at_snapshot s (node_step (node_after node s.nodes))) else Go (at_snapshot s (LoadsNodeWord node)),
  None,
)
snapshot_after s (LoadsKids node) found = (Go (at_snapshot s (kids_step (node_after node s.nodes))), None)
snapshot_after s (Releases answer) found = (Done answer, None)

-- the word and the touch of the next step
abbrev pub next : TreePhase → HookAnswer → WordName × Touch
next (Creates c) hook = create_next c c.step
next (Removes r) hook = remove_next r r.step
next (Grows g) hook = grow_next g g.step
next (Moves m) hook = move_next m m.step
next (Marks m) hook = mark_next m m.step
next (OpensOne o) hook = open_next o o.step
next (Snapshots s) hook = snapshot_next s s.step
next (Clears x) hook = clear_next x

-- what comes after the step that found this value, and the action that the step adds
abbrev pub after : TreePhase → ℕ → HookAnswer → Next TreePhase × Option Action
after (Creates c) found hook = (map_next Creates (create_after c c.step found).0, (create_after c c.step found).1)
after (Removes r) found hook = (map_next Removes (remove_after r r.step found).0, (remove_after r r.step found).1)
after (Grows g) found hook = (map_next Grows (grow_after g g.step found).0, (grow_after g g.step found).1)
after (Moves m) found hook = (map_next Moves (move_after m m.step found).0, (move_after m m.step found).1)
after (Marks m) found hook = (map_next Marks (mark_after m m.step found).0, (mark_after m m.step found).1)
after (OpensOne o) found hook = (map_next OpensOne (open_after o o.step found).0, (open_after o o.step found).1)
after (Snapshots s) found hook = (map_next Snapshots (snapshot_after s s.step found).0, (snapshot_after s s.step found).1)
after (Clears x) found hook = (map_next Clears (clear_after x found).0, (clear_after x found).1)
