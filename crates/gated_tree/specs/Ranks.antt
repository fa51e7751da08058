-- How many steps of a call at the tree may still come after its next one, where its way is free and no other task does anything.
use Rattle.std.specs.Prelude.{ℕ, ◌+◌, ◌-◌}
use Rattle.gated_tree.specs.declared.changes.CreateStep.{CreateStep, TheVariants.{LoadsDirectory, LoadsNode, ChargesChild, TakesNode, RefundsChild}}
use Rattle.gated_tree.specs.declared.changes.MoveStep.{MoveStep, TheVariants.{LoadsFile as LoadsFileToMove, LoadsDirectory as LoadsTarget}}
use Rattle.gated_tree.specs.declared.changes.MoveStep.TheVariants.{ChargesChild as ChargesTarget, MovesFile, RefundsChild as RefundsOne}
use Rattle.gated_tree.specs.declared.changes.RemoveStep.{RemoveStep, TheVariants.{LoadsFile as LoadsFileToRemove, FreesNode, CountsRemoved, MarksRemoved}}
use Rattle.gated_tree.specs.declared.changes.RemoveStep.TheVariants.{RefundsRemoved, RefundsBlocks as RefundsItsBlocks, RefundsChild as RefundsItsChild}
use Rattle.gated_tree.specs.declared.growth.GrowStep.{GrowStep, TheVariants.{LoadsFile as LoadsFileToGrow, LoadsUsed, ChargesBlocks, GrowsFile}}
use Rattle.gated_tree.specs.declared.{growth.GrowStep.TheVariants.RefundsBlocks, marks.MarkStep.{MarkStep, TheVariants.LoadsFile as LoadsFileToMark}}
use Rattle.gated_tree.specs.declared.{marks.MarkStep.TheVariants.MarksFile, opens.OpenStep.{OpenStep, TheVariants.{LoadsFile as LoadsFileToOpen, OpensFile}}}
use Rattle.gated_tree.specs.declared.phases.TreePhase.{TreePhase, TheVariants.{Create as Creates, Remove as Removes, Grow as Grows, MoveTo as Moves}}
use Rattle.gated_tree.specs.declared.phases.TreePhase.TheVariants.{Mark as TreeMarks, OpenFile as OpensOne, Snapshot as Snapshots, ClearMarks as TreeClears}
use Rattle.gated_tree.specs.declared.snapshots.SnapshotStep.{SnapshotStep, TheVariants.{Locks as SLocks, LoadsStage as SLoadsStage, LoadsUsed as SLoadsUsed}}
use Rattle.gated_tree.specs.declared.snapshots.SnapshotStep.TheVariants.{LoadsNode as SLoadsNode, LoadsKids as SLoadsKids, Releases as SReleases}

-- the calls at the tree
abbrev pub create_rank : ℕ → CreateStep → ℕ
create_rank nodes LoadsDirectory = nodes + 4
create_rank nodes (LoadsNode node) = nodes - node + 3
create_rank nodes (ChargesChild node) = 2
create_rank nodes (TakesNode node) = 1
create_rank nodes RefundsChild = 0

abbrev pub remove_rank : RemoveStep → ℕ
remove_rank LoadsFileToRemove = 3
remove_rank (FreesNode file) = 2
remove_rank (CountsRemoved file) = 2
remove_rank (MarksRemoved file) = 1
remove_rank RefundsRemoved = 0
remove_rank (RefundsItsBlocks file) = 1
remove_rank (RefundsItsChild file) = 0

abbrev pub grow_rank : GrowStep → ℕ
grow_rank LoadsFileToGrow = 4
grow_rank (LoadsUsed file) = 3
grow_rank (ChargesBlocks file used) = 2
grow_rank (GrowsFile file) = 1
grow_rank RefundsBlocks = 0

abbrev pub move_rank : MoveStep → ℕ
move_rank LoadsFileToMove = 4
move_rank (LoadsTarget file) = 3
move_rank (ChargesTarget file) = 2
move_rank (MovesFile file) = 1
move_rank (RefundsOne dir answer) = 0

abbrev pub mark_rank : MarkStep → ℕ
mark_rank LoadsFileToMark = 1
mark_rank (MarksFile file) = 0

abbrev pub open_rank : OpenStep → ℕ
open_rank LoadsFileToOpen = 1
open_rank (OpensFile file) = 0

abbrev pub snapshot_rank : ℕ → SnapshotStep → ℕ
snapshot_rank nodes SLocks = nodes + nodes + 6
snapshot_rank nodes SLoadsStage = nodes + nodes + 5
snapshot_rank nodes SLoadsUsed = nodes + nodes + 4
snapshot_rank nodes (SLoadsNode node) = nodes + (nodes - node) + 3
snapshot_rank nodes (SLoadsKids node) = nodes - node + 1
snapshot_rank nodes (SReleases answer) = 0

abbrev pub tree_rank : TreePhase → ℕ
tree_rank (Creates x) = create_rank x.nodes x.step
tree_rank (Removes x) = remove_rank x.step
tree_rank (Grows x) = grow_rank x.step
tree_rank (Moves x) = move_rank x.step
tree_rank (TreeMarks x) = mark_rank x.step
tree_rank (OpensOne x) = open_rank x.step
tree_rank (Snapshots x) = snapshot_rank x.nodes x.step
tree_rank (TreeClears x) = x.nodes - x.node
