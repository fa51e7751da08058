-- When an action is allowed, and what it does.
use Rattle.std.specs.Prelude.{◌≡◌, ℕ, zero, suc, ◌+◌, ◌-◌, ◌<◌, ◌≤◌, ◌⊎◌, Bool, true, false, if◌then◌else◌, ◌==◌, ◌&&◌, Option, Some, None, option_map}
use Rattle.finite_sums.specs.Sums.{update}
use Rattle.access_model.specs.declared.actions.Action.{Action}
use Rattle.access_model.specs.declared.actions.Action.TheVariants.{Grant, Return, MountRo, MountRw, SbRo, SbRw, Stage, Hold, Leave, Pass, Reopen, Create, Remove, Grow, MoveTo, Dirty, Clean, Open, Close}
use Rattle.access_model.specs.declared.actions.{Gate.TheVariants.{Mount, Level}, NodeInfo.{NodeInfo}}
use Rattle.access_model.specs.Holders.{held_by, with_holder, is_unheld}
use Rattle.access_model.specs.States.{Limits, State, IsLevel, NobodyHolds, IsFile, IsDirectory, used_blocks, IsClean, IsLinkedFile, is_removed, openers, NoneRemoved}

-- the task holds an access at some mount
abbrev pub HoldsSomeMount : Limits → State → ℕ → Type 0
HoldsSomeMount l s t = (m : ℕ) × (m < l.mounts) × (0 < s.mounts t m)

-- the task may change the tree: it is inside level 1, and holds an access at some mount
abbrev pub IsWriter : Limits → State → ℕ → Type 0
IsWriter l s t = (s.levels t 1 ≡ true) × HoldsSomeMount l s t

-- A freeze may go to this stage: up one at a time, each where the level before is closed, and to 3 and 4 only with no file dirty; from 0
-- to 4 at once where the superblock is read-only; and back to 0 from 2 or 3, from 4 where no freeze is held, or from 1, 2 or 3 where it
-- gives up and has not passed the level of that number.
abbrev pub MayStage : Limits → State → ℕ → Type 0
MayStage l s zero =
    ((s.stage ≡ 2) × (s.passed ≡ 2)) ⊎ (((s.stage ≡ 3) × (s.passed ≡ 3)) ⊎
    (((s.stage ≡ 4) × (is_unheld s.holders ≡ true)) ⊎ (IsLevel s.stage × (s.passed + 1 ≡ s.stage))))
MayStage l s (suc zero) = (s.stage ≡ 0) × (s.passed ≡ 0) × (s.sb_ro ≡ false)
MayStage l s (suc (suc zero)) = (s.stage ≡ 1) × (s.passed ≡ 1)
MayStage l s (suc (suc (suc zero))) = (s.stage ≡ 2) × (s.passed ≡ 2) × IsClean l s
MayStage l s (suc (suc (suc (suc zero)))) =
    IsClean l s × (((s.stage ≡ 3) × (s.passed ≡ 3)) ⊎ ((s.stage ≡ 0) × (s.passed ≡ 0) × (s.sb_ro ≡ true)))
MayStage l s (suc (suc (suc (suc (suc n))))) = ⊥

-- the action is one that this task may do now
abbrev pub MayDo : Limits → State → ℕ → Action → Type 0
MayDo l s t (Grant (Mount m)) = (m < l.mounts) × (s.mount_ro m ≡ false) × (s.sb_ro ≡ false) × (s.mounts t m < 1024)
MayDo l s t (Grant (Level i)) = IsLevel i × (s.passed < i) × ((j : ℕ) → i ≤ j → j ≤ 3 → s.levels t j ≡ false)
MayDo l s t (Return (Mount m)) = (m < l.mounts) × (0 < s.mounts t m)
MayDo l s t (Return (Level i)) = IsLevel i × (s.levels t i ≡ true)
MayDo l s t (MountRo m) = (m < l.mounts) × NobodyHolds l s (Mount m)
MayDo l s t (MountRw m) = m < l.mounts
MayDo l s t SbRo = (s.stage ≡ 0) × ((m : ℕ) → m < l.mounts → NobodyHolds l s (Mount m)) × NoneRemoved l s
MayDo l s t SbRw = s.stage ≡ 0
MayDo l s t (Stage n) = MayStage l s n
MayDo l s t (Hold h) = (s.stage ≡ 4) × (held_by s.holders h ≡ false)
MayDo l s t (Leave h) = (s.stage ≡ 4) × (held_by s.holders h ≡ true)
MayDo l s t (Pass i) = IsLevel i × (s.stage ≡ i) × (s.passed + 1 ≡ i) × NobodyHolds l s (Level i)
MayDo l s t (Reopen i) = IsLevel i × (s.stage ≡ 0) × (s.passed ≡ i)
MayDo l s t (Create n d kind) = IsWriter l s t × (n < l.nodes) × (d < l.nodes) × (s.tree n ≡ None) × IsDirectory (s.tree d)
MayDo l s t (Remove n) = IsWriter l s t × (n < l.nodes) × IsLinkedFile (s.tree n)
MayDo l s t (Grow n blocks) = IsWriter l s t × (n < l.nodes) × IsLinkedFile (s.tree n) × (0 < blocks) × (used_blocks l s + blocks ≤ l.capacity)
MayDo l s t (MoveTo n d) = IsWriter l s t × (n < l.nodes) × (d < l.nodes) × IsLinkedFile (s.tree n) × IsDirectory (s.tree d)
MayDo l s t (Dirty n) = (s.levels t 2 ≡ true) × HoldsSomeMount l s t × (n < l.nodes) × IsLinkedFile (s.tree n)
MayDo l s t (Clean n) = (n < l.nodes) × IsFile (s.tree n) × ((s.levels t 3 ≡ true) ⊎ ((s.passed ≡ 2) ⊎ (s.sb_ro ≡ true)))
MayDo l s t (Open n) = (n < l.nodes) × IsLinkedFile (s.tree n) × (s.opens t n ≡ false)
MayDo l s t (Close n) =
    (n < l.nodes) × (s.opens t n ≡ true) × (is_removed (s.tree n) ≡ true → openers s.opens n ≡ 1 → s.levels t 3 ≡ true)

-- there is that task, and it may do the action now
abbrev pub IsAllowed : Limits → State → ℕ → Action → Type 0
IsAllowed l s t a = (t < l.tasks) × MayDo l s t a

-- what an action leaves of its own task's accesses at the mounts: a grant at a mount adds one, a return takes one
abbrev pub mounts_after : Action → (ℕ → ℕ) → ℕ → ℕ
mounts_after (Grant (Mount m)) held = update held m (held m + 1)
mounts_after (Return (Mount m)) held = update held m (held m - 1)
mounts_after (Grant (Level i)) held = held
mounts_after (Return (Level i)) held = held
mounts_after (MountRo m) held = held
mounts_after (MountRw m) held = held
mounts_after SbRo held = held
mounts_after SbRw held = held
mounts_after (Stage n) held = held
mounts_after (Hold h) held = held
mounts_after (Leave h) held = held
mounts_after (Pass i) held = held
mounts_after (Reopen i) held = held
mounts_after (Create n d kind) held = held
mounts_after (Remove n) held = held
mounts_after (Grow n blocks) held = held
mounts_after (MoveTo n d) held = held
mounts_after (Dirty n) held = held
mounts_after (Clean n) held = held
mounts_after (Open n) held = held
mounts_after (Close n) held = held

-- what an action leaves of its own task's levels: a grant at a level goes inside, a return leaves it
abbrev pub levels_after : Action → (ℕ → Bool) → ℕ → Bool
levels_after (Grant (Level i)) held = update held i true
levels_after (Return (Level i)) held = update held i false
levels_after (Grant (Mount m)) held = held
levels_after (Return (Mount m)) held = held
levels_after (MountRo m) held = held
levels_after (MountRw m) held = held
levels_after SbRo held = held
levels_after SbRw held = held
levels_after (Stage n) held = held
levels_after (Hold h) held = held
levels_after (Leave h) held = held
levels_after (Pass i) held = held
levels_after (Reopen i) held = held
levels_after (Create n d kind) held = held
levels_after (Remove n) held = held
levels_after (Grow n blocks) held = held
levels_after (MoveTo n d) held = held
levels_after (Dirty n) held = held
levels_after (Clean n) held = held
levels_after (Open n) held = held
levels_after (Close n) held = held

-- what an action leaves of its own task's open files
abbrev pub opens_after : Action → (ℕ → Bool) → ℕ → Bool
opens_after (Open n) open_files = update open_files n true
opens_after (Close n) open_files = update open_files n false
opens_after (Grant gate) open_files = open_files
opens_after (Return gate) open_files = open_files
opens_after (MountRo m) open_files = open_files
opens_after (MountRw m) open_files = open_files
opens_after SbRo open_files = open_files
opens_after SbRw open_files = open_files
opens_after (Stage n) open_files = open_files
opens_after (Hold h) open_files = open_files
opens_after (Leave h) open_files = open_files
opens_after (Pass i) open_files = open_files
opens_after (Reopen i) open_files = open_files
opens_after (Create n d kind) open_files = open_files
opens_after (Remove n) open_files = open_files
opens_after (Grow n blocks) open_files = open_files
opens_after (MoveTo n d) open_files = open_files
opens_after (Dirty n) open_files = open_files
opens_after (Clean n) open_files = open_files

-- a file that got so many blocks more, which makes it dirty
abbrev pub grown : ℕ → NodeInfo → NodeInfo
grown blocks node = record node { size = node.size + blocks; dirty = true }

-- a file under another parent
abbrev pub moved : ℕ → NodeInfo → NodeInfo
moved d node = record node { parent = d }

-- a file with the dirty mark set or cleared
abbrev pub marked : Bool → NodeInfo → NodeInfo
marked dirty node = record node { dirty = dirty }

-- a file that is removed while somebody has it open: it keeps its blocks, and nothing of it is to be written back
abbrev pub unlinked : NodeInfo → NodeInfo
unlinked node = record node { dirty = false; removed = true }

-- what a remove leaves of a file that so many tasks have open
abbrev pub after_remove : ℕ → Option NodeInfo → Option NodeInfo
after_remove count node = if count == 0 then None else option_map unlinked node

-- what a close leaves of a file that so many tasks have open: it is free where it was removed and nobody else has it open
abbrev pub after_close : ℕ → Option NodeInfo → Option NodeInfo
after_close count node = if is_removed node && (count == 1) then None else node

-- what an action leaves of the tree, of whose files so many tasks have each open: only an action that names a node changes it, and at that
-- node alone
abbrev pub tree_after : Action → (ℕ → ℕ) → (ℕ → Option NodeInfo) → ℕ → Option NodeInfo
tree_after (Create n d kind) counts tree = update tree n (Some record { kind = kind; parent = d; size = 0; dirty = false; removed = false })
tree_after (Remove n) counts tree = update tree n (after_remove (counts n) (tree n))
tree_after (Grow n blocks) counts tree = update tree n (option_map (grown blocks) (tree n))
tree_after (MoveTo n d) counts tree = update tree n (option_map (moved d) (tree n))
tree_after (Dirty n) counts tree = update tree n (option_map (marked true) (tree n))
tree_after (Clean n) counts tree = update tree n (option_map (marked false) (tree n))
tree_after (Open n) counts tree = tree
tree_after (Close n) counts tree = update tree n (after_close (counts n) (tree n))
tree_after (Grant gate) counts tree = tree
tree_after (Return gate) counts tree = tree
tree_after (MountRo m) counts tree = tree
tree_after (MountRw m) counts tree = tree
tree_after SbRo counts tree = tree
tree_after SbRw counts tree = tree
tree_after (Stage n) counts tree = tree
tree_after (Hold h) counts tree = tree
tree_after (Leave h) counts tree = tree
tree_after (Pass i) counts tree = tree
tree_after (Reopen i) counts tree = tree

-- The state after an action of this task. Each action has its row, here and above, so that a new one is an error until its rows stand.
abbrev pub after_action : State → ℕ → Action → State
after_action s t (Grant gate) = record s {
  mounts = update s.mounts t (mounts_after (Grant gate) (s.mounts t));
  levels = update s.levels t (levels_after (Grant gate) (s.levels t));
}
after_action s t (Return gate) = record s {
  mounts = update s.mounts t (mounts_after (Return gate) (s.mounts t));
  levels = update s.levels t (levels_after (Return gate) (s.levels t));
}
after_action s t (MountRo m) = record s { mount_ro = update s.mount_ro m true }
after_action s t (MountRw m) = record s { mount_ro = update s.mount_ro m false }
after_action s t SbRo = record s { sb_ro = true }
after_action s t SbRw = record s { sb_ro = false }
after_action s t (Stage n) = record s { stage = n }
after_action s t (Hold h) = record s { holders = with_holder h true s.holders }
after_action s t (Leave h) = record s { holders = with_holder h false s.holders }
after_action s t (Pass i) = record s { passed = i }
after_action s t (Reopen i) = record s { passed = i - 1 }
after_action s t (Create n d kind) = record s { tree = tree_after (Create n d kind) (openers s.opens) s.tree }
after_action s t (Remove n) = record s { tree = tree_after (Remove n) (openers s.opens) s.tree }
after_action s t (Grow n blocks) = record s { tree = tree_after (Grow n blocks) (openers s.opens) s.tree }
after_action s t (MoveTo n d) = record s { tree = tree_after (MoveTo n d) (openers s.opens) s.tree }
after_action s t (Dirty n) = record s { tree = tree_after (Dirty n) (openers s.opens) s.tree }
after_action s t (Clean n) = record s { tree = tree_after (Clean n) (openers s.opens) s.tree }
after_action s t (Open n) = record s { opens = update s.opens t (opens_after (Open n) (s.opens t)) }
after_action s t (Close n) = record s {
  opens = update s.opens t (opens_after (Close n) (s.opens t));
  tree = tree_after (Close n) (openers s.opens) s.tree;
}
