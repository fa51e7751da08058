-- The state of the access model.
use Rattle.std.specs.Prelude.{Bool, None, Option, Some, false, true, ℕ, ◌<◌, ◌≡◌, ◌≤◌}
use Rattle.finite_sums.specs.Sums.{total, update}
use Rattle.access_model.specs.{Holders.nobody, declared.actions.{Gate.{Gate, TheVariants.{Level, Mount}}, Holders.Holders}}
use Rattle.access_model.specs.declared.actions.{Kind.TheVariants.{Dir, File}, NodeInfo.NodeInfo}

-- how many tasks, mounts and nodes there are, and how many blocks all files may have together
pub record Limits : Type 0 where
  pub tasks : ℕ
  pub mounts : ℕ
  pub nodes : ℕ
  pub capacity : ℕ

-- what the model knows at one moment
pub record State : Type 0 where
  -- the accesses that a task holds at a mount
  pub mounts : ℕ → ℕ → ℕ
  -- whether a task holds a level
  pub levels : ℕ → ℕ → Bool
  -- whether a task has a file open
  pub opens : ℕ → ℕ → Bool
  -- a mount's own read-only flag, and the superblock's
  pub mount_ro : ℕ → Bool
  pub sb_ro : Bool
  -- SB_UNFROZEN 0 to SB_FREEZE_COMPLETE 4
  pub stage : ℕ
  -- who holds a freeze
  pub holders : Holders
  -- the levels 1 to `passed` have been closed by a freeze and not yet opened again
  pub passed : ℕ
  -- the nodes that are not free
  pub tree : ℕ → Option NodeInfo

-- the root: a directory, its own parent
abbrev pub root : NodeInfo
root = record { kind = Dir; parent = 0; size = 0; dirty = false; removed = false }

-- nothing is held, no flag is set, nothing is frozen, and there is the root alone
abbrev pub opening_state : State
opening_state = record {
  mounts = λ t m. 0;
  levels = λ t i. false;
  opens = λ t n. false;
  mount_ro = λ m. false;
  sb_ro = false;
  stage = 0;
  holders = nobody;
  passed = 0;
  tree = update (λ n. None) 0 (Some root);
}

-- a freeze level has this number
abbrev pub IsLevel : ℕ → Type 0
IsLevel i = (1 ≤ i) × (i ≤ 3)

-- no task holds an access at the gate
abbrev pub NobodyHolds : Limits → State → Gate → Type 0
NobodyHolds l s (Mount m) = (t : ℕ) → t < l.tasks → s.mounts t m ≡ 0
NobodyHolds l s (Level i) = (t : ℕ) → t < l.tasks → s.levels t i ≡ false

-- the blocks of a node, none where it is free
abbrev pub size_of : Option NodeInfo → ℕ
size_of None = 0
size_of (Some node) = node.size

-- whether there is a node, changed since it was last written back
abbrev pub is_dirty : Option NodeInfo → Bool
is_dirty None = false
is_dirty (Some node) = node.dirty

-- there is a node, and it is a file
abbrev pub IsFile : Option NodeInfo → Type 0
IsFile None = ⊥
IsFile (Some node) = node.kind ≡ File

-- whether there is a node, and it is a file that was removed while somebody had it open
abbrev pub is_removed : Option NodeInfo → Bool
is_removed None = false
is_removed (Some node) = node.removed

-- there is a node, and it is a file that wasn't removed
abbrev pub IsLinkedFile : Option NodeInfo → Type 0
IsLinkedFile None = ⊥
IsLinkedFile (Some node) = (node.kind ≡ File) × (node.removed ≡ false)

-- there is a node, and it is a directory
abbrev pub IsDirectory : Option NodeInfo → Type 0
IsDirectory None = ⊥
IsDirectory (Some node) = node.kind ≡ Dir

-- the blocks of all files
abbrev pub used_blocks : Limits → State → ℕ
used_blocks l s = total l.nodes (λ n. size_of (s.tree n))

-- 1 for true, 0 for false
abbrev pub one_if : Bool → ℕ
one_if true = 1
one_if false = 0

-- the most tasks that a model may have
unfoldable pub most_tasks : ℕ
most_tasks = 64

-- how many tasks have each file open, of the tasks that a model may have
abbrev pub openers : (ℕ → ℕ → Bool) → ℕ → ℕ
openers opens n = total most_tasks (λ t. one_if (opens t n))

-- no file is removed
abbrev pub NoneRemoved : Limits → State → Type 0
NoneRemoved l s = (n : ℕ) → n < l.nodes → is_removed (s.tree n) ≡ false

-- no node is dirty
abbrev pub IsClean : Limits → State → Type 0
IsClean l s = (n : ℕ) → n < l.nodes → is_dirty (s.tree n) ≡ false

-- the model with its limits, as its callers see it
pub record BoundedState : Type 0 where
  pub limits : Limits
  pub state : State
