-- The tree behind the gates: what holds of its words between any two steps, and what that reads of each task's phase.
use Rattle.std.specs.Prelude.{None, Option, Some, false, if◌then◌else◌, nat_le, nat_lt, suc, true, zero, ℕ, ◌+◌, ◌-◌, ◌<◌, ◌==◌, ◌||◌, ◌≡◌, ◌≤◌}
use Rattle.access_model.specs.{States.{IsDirectory, is_dirty, is_removed, one_if, size_of}, declared.actions.Kind.TheVariants.File}
use Rattle.access_model.specs.declared.actions.NodeInfo.{NodeInfo}
use Rattle.{finite_sums.specs.Sums.total, node_words.specs.{Nodes.{IsNode, node_shown, word_of}, declared.nodes.NodeWord.NodeWord}}
use Rattle.gated_tree.specs.Trees.{is_child, is_same}

-- What a task is doing at the tree. `file` is its file's node as it was loaded, `dir` a directory's number, `blocks` a charge.
pub data Role : Type 0 where
  -- nothing that the tree counts
  Out : Role
  -- loaded a file's node
  Loaded : (file : NodeWord) → Role
  -- a create: found a directory; charged a child to it
  Found : (dir : ℕ) → Role
  Placing : (dir : ℕ) → Role
  -- a move: loaded a file's node and found a directory; charged a child to it
  Targets : (file : NodeWord) (dir : ℕ) → Role
  Moving : (file : NodeWord) (dir : ℕ) → Role
  -- a grow: found room for its blocks where so many were charged; charged them; is to subtract them
  Growing : (file : NodeWord) (blocks : ℕ) (used : ℕ) → Role
  Charged : (file : NodeWord) (blocks : ℕ) → Role
  Refunding : (blocks : ℕ) → Role
  -- a remove: is to subtract the file's blocks, and then its child
  Freed : (blocks : ℕ) (dir : ℕ) → Role
  -- is to subtract a child
  Returning : (dir : ℕ) → Role
  -- a remove of a file that is open: counted it in `removed`
  Removing : (file : NodeWord) → Role
  -- a last close: loaded its node's word; freed it, and is to subtract the file's blocks
  Freeing : (node : ℕ) (file : NodeWord) → Role
  Dropped : (blocks : ℕ) → Role
  -- is to subtract one of `removed`
  Uncounting : Role
  -- a remount of a superblock to read-only, which found no removed file and holds all mounts
  Bare : Role
  -- clears the dirty marks, and is at this node
  Clearing : (node : ℕ) → Role
  -- a snapshot: loaded so many words, which had these values
  Reading : (words : ℕ) (values : ℕ → ℕ) → Role

-- how many tasks and nodes there are, and how many blocks all files may have together
pub record Bounds : Type 0 where
  pub tasks : ℕ
  pub nodes : ℕ
  pub capacity : ℕ

-- they are within the limits
pub record AreWithin (c : Bounds) : Type 0 where
  pub tasks : c.tasks ≤ 64
  pub some_node : 2 ≤ c.nodes
  pub nodes : c.nodes ≤ 64
  pub capacity : c.capacity < 4294967296

-- The words of the tree and the roles of all tasks at one moment. `sealed` is 1 where the tree must be clean: the superblock is read-only,
-- or the stage is 3 or 4. `bare` is 1 where no file may be removed and open: the superblock is read-only, or a remount has made it so.
pub record TreeState : Type 0 where
  pub sealed : ℕ
  pub bare : ℕ
  pub used : ℕ
  pub removed : ℕ
  pub node : ℕ → ℕ
  pub kids : ℕ → ℕ
  pub at : ℕ → Role

-- 1 where the superblock is read-only, or the stage is 3 or 4
abbrev pub sealed_by : (sb stage : ℕ) → ℕ
sealed_by sb stage = if sb == 1 || nat_le 3 stage then 1 else 0

-- 1 where the superblock is read-only, by its flag or by a remount under way
abbrev pub bare_by : (remount sb : ℕ) → ℕ
bare_by remount sb = if remount == 1 || sb == 1 then 1 else 0

-- the blocks that a role has charged
abbrev pub charge : Role → ℕ
charge (Charged file blocks) = blocks
charge (Refunding blocks) = blocks
charge (Freed blocks dir) = blocks
charge (Dropped blocks) = blocks
charge _ = 0

-- 1 where it has charged a child to this directory
abbrev pub child_charge : ℕ → Role → ℕ
child_charge d (Placing dir) = is_same dir d
child_charge d (Moving file dir) = is_same dir d
child_charge d (Freed blocks dir) = is_same dir d
child_charge d (Returning dir) = is_same dir d
child_charge d _ = 0

-- 1 where it has counted a removed file that is none, or none any more
abbrev pub removal : Role → ℕ
removal (Removing file) = 1
removal (Dropped blocks) = 1
removal Uncounting = 1
removal _ = 0

-- 1 where it relies on the word of this node, which it is to free
abbrev pub frees : ℕ → Role → ℕ
frees n (Freeing node file) = is_same node n
frees n _ = 0

-- 1 for a remount that relies on that no file is removed
abbrev pub is_bare : Role → ℕ
is_bare Bare = 1
is_bare _ = 0

-- the nodes below this one it has cleared
abbrev pub cleared : Role → ℕ
cleared (Clearing node) = node
cleared _ = 0

-- how many words a snapshot has loaded
abbrev pub words_read : Role → ℕ
words_read (Reading words values) = words
words_read _ = 0

-- the words of the tree in the order in which a snapshot loads them: `used`, the nodes, the children
abbrev pub tree_word : ℕ → ℕ → (ℕ → ℕ) → (ℕ → ℕ) → ℕ → ℕ
tree_word nodes used node kids zero = used
tree_word nodes used node kids (suc i) = if nat_lt i nodes then node i else kids (i - nodes)

-- what counts of a word for a snapshot: of a node what it shows, however many tasks have it open; of any other word its value
abbrev pub seen_as : ℕ → ℕ → ℕ → Option NodeInfo × ℕ
seen_as nodes zero value = (None, value)
seen_as nodes (suc i) value = if nat_lt i nodes then (node_shown value, 0) else (None, value)

-- there is that node, and it is a directory
abbrev pub IsDirectoryAt : ℕ → (ℕ → ℕ) → ℕ → Type 0
IsDirectoryAt nodes node d = (d < nodes) × IsDirectory (node_shown (node d))

-- the parent of a node that is there is a directory
abbrev pub HasParent : ℕ → (ℕ → ℕ) → Option NodeInfo → Type 0
HasParent nodes node None = Unit {0}
HasParent nodes node (Some info) = IsDirectoryAt nodes node info.parent

-- a file as it was loaded, with its parent in range; it wasn't removed
pub record IsFileNode (nodes : ℕ) (file : NodeWord) : Type 0 where
  pub kind : file.kind ≡ Some File
  pub parent : file.parent < nodes
  pub opens : file.opens ≤ 64
  pub linked : file.removed ≡ false

-- a removed file as it was loaded, which one task alone has open
pub record IsLastOpen (node : ℕ → ℕ) (n : ℕ) (file : NodeWord) : Type 0 where
  pub kind : file.kind ≡ Some File
  pub word : node n ≡ word_of file
  pub parent : file.parent < 64
  pub opens : file.opens ≡ 1
  pub removed : file.removed ≡ true

-- such a file, that may grow by so many blocks
pub record MayGrow (c : Bounds) (file : NodeWord) (blocks : ℕ) : Type 0 where
  pub loaded : IsFileNode c.nodes file
  pub some : 0 < blocks
  pub size : file.size + blocks ≤ c.capacity

module _ (c : Bounds) (used removed : ℕ) (node kids : ℕ → ℕ) where
  -- What a role says. A node that was loaded is a file's. A directory that was found is one: no directory ever changes. A grow is within
  -- its bounds. The nodes that a clearing has passed are clean. Each word that a snapshot loaded is still what it was, but for how many tasks
  -- have files open. The word that a last close has loaded is still what it was. A remount that found no removed file still finds none.
  abbrev pub RoleHolds : Role → Type 0
  RoleHolds (Loaded file) = IsFileNode c.nodes file
  RoleHolds (Found dir) = IsDirectoryAt c.nodes node dir
  RoleHolds (Placing dir) = IsDirectoryAt c.nodes node dir
  RoleHolds (Targets file dir) = IsFileNode c.nodes file × IsDirectoryAt c.nodes node dir
  RoleHolds (Moving file dir) = IsFileNode c.nodes file × IsDirectoryAt c.nodes node dir
  RoleHolds (Growing file blocks found) = MayGrow c file blocks × (found + blocks ≤ c.capacity)
  RoleHolds (Charged file blocks) = MayGrow c file blocks
  RoleHolds (Freed blocks dir) = dir < c.nodes
  RoleHolds (Returning dir) = dir < c.nodes
  RoleHolds (Clearing at) = (n : ℕ) → n < at → is_dirty (node_shown (node n)) ≡ false
  RoleHolds (Reading words values) =
      (i : ℕ) → i < words → seen_as c.nodes i (values i) ≡ seen_as c.nodes i (tree_word c.nodes used node kids i)
  RoleHolds (Removing file) = IsFileNode c.nodes file × (1 ≤ file.opens)
  RoleHolds (Freeing n file) = (n < c.nodes) × IsLastOpen node n file
  RoleHolds Bare = removed ≡ 0
  RoleHolds _ = Unit {0}

-- what holds of the tree between any two steps
pub record TreeHolds (c : Bounds) (s : TreeState) : Type 0 where
  -- each node word is one that a node may have; node 0 is a directory
  pub words : (n : ℕ) → n < c.nodes → IsNode (s.node n)
  pub root : IsDirectory (node_shown (s.node 0))
  -- each parent is in range, and is a directory
  pub parents : (n : ℕ) → n < c.nodes → HasParent c.nodes s.node (node_shown (s.node n))
  -- the blocks charged are those of all files, with what tasks have charged, and are within the capacity
  pub blocks : s.used ≡ total c.nodes (λ n. size_of (node_shown (s.node n))) + total c.tasks (λ t. charge (s.at t))
  pub room : s.used ≤ c.capacity
  -- the children charged to a node are those that it has, with those that tasks have charged
  pub children : (d : ℕ) → d < c.nodes →
      s.kids d ≡ total c.nodes (λ n. is_child d n (node_shown (s.node n))) + total c.tasks (λ t. child_charge d (s.at t))
  -- the count of removed files is that of those that there are, with those that tasks have counted
  pub removals : s.removed ≡ total c.nodes (λ n. one_if (is_removed (node_shown (s.node n)))) + total c.tasks (λ t. removal (s.at t))
  -- there is none where the superblock is read-only
  pub none : s.bare ≡ 1 → s.removed ≡ 0
  pub roles : (t : ℕ) → t < c.tasks → RoleHolds c s.used s.removed s.node s.kids (s.at t)
  pub clean : s.sealed ≡ 1 → (n : ℕ) → n < c.nodes → is_dirty (node_shown (s.node n)) ≡ false

-- no snapshot has loaded a word
abbrev pub NobodyReads : Bounds → TreeState → Type 0
NobodyReads c s = total c.tasks (λ t. words_read (s.at t)) ≡ 0

-- the tree needn't be clean, and nobody is clearing it
pub record MayDirty (c : Bounds) (s : TreeState) : Type 0 where
  pub unsealed : s.sealed ≡ 0
  pub nobody_clears : total c.tasks (λ t. cleared (s.at t)) ≡ 0

-- a file may be removed and stay open: the superblock is writable, and no remount relies on that there is none
pub record MayRemove (c : Bounds) (s : TreeState) : Type 0 where
  pub writable : s.bare ≡ 1 → ⊥
  pub nobody_bares : total c.tasks (λ t. is_bare (s.at t)) ≡ 0

-- no other task relies on the word of this node
abbrev pub NobodyElseFrees : Bounds → TreeState → ℕ → ℕ → Type 0
NobodyElseFrees c s t n = (u : ℕ) → u < c.tasks → (u ≡ t → ⊥) → frees n (s.at u) ≡ 0

-- a role that has charged nothing
pub record HasNoCharge (r : Role) : Type 0 where
  pub blocks : charge r ≡ 0
  pub removed : removal r ≡ 0
  pub children : (d : ℕ) → child_charge d r ≡ 0
