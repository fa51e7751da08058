-- What each phase is doing at the tree, and what its numbers must be.
use Rattle.std.specs.Prelude.{◌≡◌, ℕ, suc, ◌+◌, ◌<◌, ◌≤◌, Option, Some, None, Result, Ok, Err}
use Rattle.access_model.specs.declared.{errors.GateError.{GateError, TheVariants.{Again}}, replies.{Reply.{Reply}, Next.{Next}}}
use Rattle.access_model.specs.declared.replies.Next.TheVariants.{Go, Wait, Done}
use Rattle.gated_tree.specs.declared.changes.{Create.{Create}, CreateStep.{CreateStep}}
use Rattle.gated_tree.specs.declared.changes.CreateStep.TheVariants.{LoadsDirectory, LoadsNode, ChargesChild, TakesNode, RefundsChild}
use Rattle.gated_tree.specs.declared.changes.{Remove.{Remove}, RemoveStep.{RemoveStep}}
use Rattle.gated_tree.specs.declared.changes.RemoveStep.TheVariants.{LoadsFile as LoadsFileToRemove, FreesNode, CountsRemoved, MarksRemoved, RefundsRemoved, RefundsBlocks as RefundsItsBlocks, RefundsChild as RefundsItsChild}
use Rattle.gated_tree.specs.declared.changes.{MoveTo.{MoveTo}, MoveStep.{MoveStep}}
use Rattle.gated_tree.specs.declared.changes.MoveStep.TheVariants.{LoadsFile as LoadsFileToMove, LoadsDirectory as LoadsTarget, ChargesChild as ChargesTarget, MovesFile, RefundsChild as RefundsOne}
use Rattle.gated_tree.specs.declared.growth.{Grow.{Grow}, GrowStep.{GrowStep}}
use Rattle.gated_tree.specs.declared.growth.GrowStep.TheVariants.{LoadsFile as LoadsFileToGrow, LoadsUsed, ChargesBlocks, GrowsFile, RefundsBlocks}
use Rattle.gated_tree.specs.declared.marks.{Mark.{Mark}, MarkStep.{MarkStep, TheVariants.{LoadsFile as LoadsFileToMark, MarksFile}}}
use Rattle.gated_tree.specs.declared.opens.{OpenFile.{OpenFile}, OpenStep.{OpenStep, TheVariants.{LoadsFile as LoadsFileToOpen, OpensFile}}}
use Rattle.gated_tree.specs.declared.snapshots.SnapshotStep.{SnapshotStep}
use Rattle.gated_tree.specs.declared.snapshots.SnapshotStep.TheVariants.{LoadsUsed as LoadsUsedWord, LoadsNode as LoadsNodeWord, LoadsKids, Releases}
use Rattle.gated_tree.specs.declared.phases.TreePhase.{TreePhase}
use Rattle.gated_tree.specs.declared.phases.TreePhase.TheVariants.{Create as Creates, Remove as Removes, Grow as Grows, MoveTo as Moves, Mark as Marks, OpenFile as OpensOne, Snapshot as Snapshots, ClearMarks as Clears}
use Rattle.gated_tree.specs.Roles.{Role, Out, Loaded, Found, Placing, Targets, Moving, Growing, Charged, Refunding, Freed, Returning, Removing, Uncounting, Clearing, Reading, Bounds}

-- a create has found its directory until it charges a child there
abbrev pub create_role : Create → CreateStep → Role
create_role c LoadsDirectory = Out
create_role c (LoadsNode node) = Found c.dir
create_role c (ChargesChild node) = Found c.dir
create_role c (TakesNode node) = Placing c.dir
create_role c RefundsChild = Returning c.dir

-- a remove that has freed its file's node still charges the file's blocks and the child; one that has marked it the child
abbrev pub remove_role : Remove → RemoveStep → Role
remove_role r LoadsFileToRemove = Out
remove_role r (FreesNode file) = Loaded file
remove_role r (CountsRemoved file) = Loaded file
remove_role r (MarksRemoved file) = Removing file
remove_role r RefundsRemoved = Uncounting
remove_role r (RefundsItsBlocks file) = Freed file.size file.parent
remove_role r (RefundsItsChild file) = Returning file.parent

-- a grow charges its blocks until its file has them
abbrev pub grow_role : Grow → GrowStep → Role
grow_role g LoadsFileToGrow = Out
grow_role g (LoadsUsed file) = Loaded file
grow_role g (ChargesBlocks file used) = Growing file g.blocks used
grow_role g (GrowsFile file) = Charged file g.blocks
grow_role g RefundsBlocks = Refunding g.blocks

-- a move charges a child to the new directory, and then to the old one
abbrev pub move_role : MoveTo → MoveStep → Role
move_role m LoadsFileToMove = Out
move_role m (LoadsTarget file) = Loaded file
move_role m (ChargesTarget file) = Targets file m.dir
move_role m (MovesFile file) = Moving file m.dir
move_role m (RefundsOne dir answer) = Returning dir

-- a page fault and a write-back charge nothing
abbrev pub mark_role : Mark → MarkStep → Role
mark_role m LoadsFileToMark = Out
mark_role m (MarksFile file) = Loaded file

-- an open charges nothing
abbrev pub open_role : OpenFile → OpenStep → Role
open_role o LoadsFileToOpen = Out
open_role o (OpensFile file) = Loaded file

-- how many words of the tree a snapshot of so many nodes has loaded, from its load of stage 4 up to its release
abbrev pub words_loaded : ℕ → SnapshotStep → Option ℕ
words_loaded nodes LoadsUsedWord = Some 0
words_loaded nodes (LoadsNodeWord node) = Some (suc node)
words_loaded nodes (LoadsKids node) = Some (suc (nodes + node))
words_loaded nodes (Releases (Ok reply)) = Some (suc (nodes + nodes))
words_loaded nodes step = None

-- a snapshot that has loaded so many words, which had these values, in their order
abbrev pub reading : (ℕ → ℕ) → Option ℕ → Role
reading values None = Out
reading values (Some words) = Reading words values

abbrev pub snapshot_role : ℕ → (ℕ → ℕ) → SnapshotStep → Role
snapshot_role nodes values step = reading values (words_loaded nodes step)

-- the role of a phase, which for a snapshot has loaded these values
abbrev pub phase_role : (ℕ → ℕ) → TreePhase → Role
phase_role values (Creates c) = create_role c c.step
phase_role values (Removes r) = remove_role r r.step
phase_role values (Grows g) = grow_role g g.step
phase_role values (Moves m) = move_role m m.step
phase_role values (Marks m) = mark_role m m.step
phase_role values (OpensOne o) = open_role o o.step
phase_role values (Snapshots s) = snapshot_role s.nodes values s.step
phase_role values (Clears x) = Clearing x.node

-- the role that a step leaves, by what comes after it: none where the call has ended
abbrev pub role_after : {P : Type 0} → (P → Role) → Next P → Role
role_after role (Go phase) = role phase
role_after role (Wait phase) = role phase
role_after role (Done answer) = Out

-- a create's node to come is one of the tree's
abbrev pub CreateStepFits : Bounds → CreateStep → Type 0
CreateStepFits c LoadsDirectory = Unit {0}
CreateStepFits c (LoadsNode node) = node < c.nodes
CreateStepFits c (ChargesChild node) = node < c.nodes
CreateStepFits c (TakesNode node) = node < c.nodes
CreateStepFits c RefundsChild = Unit {0}

-- the parent of a file that a remove has loaded fits its bits, and it is open where it is to be marked
abbrev pub RemoveStepFits : RemoveStep → Type 0
RemoveStepFits LoadsFileToRemove = Unit {0}
RemoveStepFits (FreesNode file) = (file.parent < 64) × (file.opens ≡ 0)
RemoveStepFits (CountsRemoved file) = (file.parent < 64) × (1 ≤ file.opens)
RemoveStepFits (MarksRemoved file) = (file.parent < 64) × (1 ≤ file.opens)
RemoveStepFits RefundsRemoved = Unit {0}
RemoveStepFits (RefundsItsBlocks file) = file.parent < 64
RemoveStepFits (RefundsItsChild file) = file.parent < 64

-- the answer that a move is to give: done, or again
abbrev pub IsMoveAnswer : Result Reply GateError → Type 0
IsMoveAnswer (Ok reply) = Unit {0}
IsMoveAnswer (Err Again) = Unit {0}
IsMoveAnswer (Err refusal) = ⊥

-- so does that of a file that a move has loaded, and the directory from which it subtracts a child
abbrev pub MoveStepFits : MoveStep → Type 0
MoveStepFits LoadsFileToMove = Unit {0}
MoveStepFits (LoadsTarget file) = file.parent < 64
MoveStepFits (ChargesTarget file) = file.parent < 64
MoveStepFits (MovesFile file) = file.parent < 64
MoveStepFits (RefundsOne dir answer) = (dir < 64) × IsMoveAnswer answer

-- fewer than 64 tasks have a file open that an open has loaded
abbrev pub OpenStepFits : OpenStep → Type 0
OpenStepFits LoadsFileToOpen = Unit {0}
OpenStepFits (OpensFile file) = file.opens < 64

-- a snapshot's node to come is one of the tree's
abbrev pub SnapshotStepFits : Bounds → SnapshotStep → Type 0
SnapshotStepFits c (LoadsNodeWord node) = node < c.nodes
SnapshotStepFits c (LoadsKids node) = node < c.nodes
SnapshotStepFits c step = Unit {0}

-- the numbers of a phase are in range, and are those of the tree
abbrev pub TreePhaseFits : Bounds → ℕ → TreePhase → Type 0
TreePhaseFits c t (Creates x) = (x.dir < c.nodes) × (x.nodes ≡ c.nodes) × CreateStepFits c x.step
TreePhaseFits c t (Removes x) = (x.file < c.nodes) × RemoveStepFits x.step
TreePhaseFits c t (Grows x) = (x.file < c.nodes) × (1 ≤ x.blocks) × (x.capacity ≡ c.capacity)
TreePhaseFits c t (Moves x) = (x.file < c.nodes) × (x.dir < c.nodes) × MoveStepFits x.step
TreePhaseFits c t (Marks x) = x.file < c.nodes
TreePhaseFits c t (OpensOne x) = (x.file < c.nodes) × OpenStepFits x.step
TreePhaseFits c t (Snapshots x) = (x.task ≡ t) × (x.nodes ≡ c.nodes) × SnapshotStepFits c x.step
TreePhaseFits c t (Clears x) = (x.node < c.nodes) × (x.nodes ≡ c.nodes)

-- what comes after a step fits
abbrev pub NextFits : Bounds → ℕ → Next TreePhase → Type 0
NextFits c t (Go phase) = TreePhaseFits c t phase
NextFits c t (Wait phase) = TreePhaseFits c t phase
NextFits c t (Done answer) = Unit {0}
