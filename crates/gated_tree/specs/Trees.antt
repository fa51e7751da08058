-- A snapshot of the tree: what it shows, and when it is sound and clean.
use Rattle.std.specs.Prelude.{Bool, None, Option, Some, false, if◌then◌else◌, is_some, length, not, replicate, slice_index, slice_set, suc, zero, ℕ}
use Rattle.std.specs.Prelude.{◌<◌, ◌==◌, ◌≡◌}
use Rattle.access_model.specs.{States.{IsDirectory, is_dirty, size_of}, declared.actions.NodeInfo.NodeInfo}
use Rattle.{cpu_words.specs.declared.names.WordName.{TheVariants.{Kids, Node, Used}, WordName}, finite_sums.specs.Sums.total}
use Rattle.node_words.specs.Nodes.{node_after, node_shown}
use Rattle.gated_tree.specs.declared.{snapshots.SnapshotStep.{SnapshotStep, TheVariants.LoadsKids}, trees.{Tree.Tree, TreeWords.TreeWords}}

-- the words of a snapshot
unfoldable pub words_of : Tree → TreeWords
words_of tree = record { used = tree.used; nodes = tree.nodes.items; kids = tree.kids.items }

-- room for the words of so many nodes, of which none was loaded
abbrev pub unloaded : ℕ → TreeWords
unloaded nodes = record { used = 0; nodes = replicate nodes 0; kids = replicate nodes 0 }

-- the words after one more was loaded; a word that is none of the tree's is not noted
abbrev pub loaded : TreeWords → WordName → ℕ → TreeWords
loaded words Used value = record words { used = value }
loaded words (Node n) value = record words { nodes = slice_set words.nodes n value }
loaded words (Kids n) value = record words { kids = slice_set words.kids n value }
loaded words name value = words

-- a node as its word shows it: nothing where it is free, or there is none of that number
abbrev pub node_at : TreeWords → ℕ → Option NodeInfo
node_at words n = node_shown (slice_index words.nodes n)

-- 1 where two numbers are one
abbrev pub is_same : ℕ → ℕ → ℕ
is_same a b = if a == b then 1 else 0

-- 1 for a node that is there, isn't removed, and has this parent
abbrev pub has_parent : ℕ → Option NodeInfo → ℕ
has_parent d None = 0
has_parent d (Some node) = if node.removed then 0 else is_same node.parent d

-- 1 for a child of this directory: the root, which is its own parent, is no child, nor is a removed file
abbrev pub is_child : ℕ → ℕ → Option NodeInfo → ℕ
is_child d zero entry = 0
is_child d (suc n) entry = has_parent d entry

-- the parent of a node that is there is one of so many nodes, and a directory
abbrev pub HasDirectory : ℕ → (ℕ → Option NodeInfo) → Option NodeInfo → Type 0
HasDirectory nodes tree None = Unit {0}
HasDirectory nodes tree (Some node) = (node.parent < nodes) × IsDirectory (tree node.parent)

-- each parent is a directory
abbrev pub HasDirectories : ℕ → (ℕ → Option NodeInfo) → Type 0
HasDirectories nodes tree = (n : ℕ) → n < nodes → HasDirectory nodes tree (tree n)

-- the blocks of all files
abbrev pub blocks_in : ℕ → (ℕ → Option NodeInfo) → ℕ
blocks_in nodes tree = total nodes (λ n. size_of (tree n))

-- how many children a node has
abbrev pub children_in : ℕ → (ℕ → Option NodeInfo) → ℕ → ℕ
children_in nodes tree d = total nodes (λ n. is_child d n (tree n))

-- the children charged to each node are its children
abbrev pub CountsChildren : ℕ → (ℕ → Option NodeInfo) → (ℕ → ℕ) → Type 0
CountsChildren nodes tree kids = (d : ℕ) → d < nodes → kids d ≡ children_in nodes tree d

-- A tree of so many nodes is sound: the blocks charged are those of all files, the children charged are those that there are, and each
-- parent is a directory.
pub record IsSound (nodes used : ℕ) (tree : ℕ → Option NodeInfo) (kids : ℕ → ℕ) : Type 0 where
  pub blocks : used ≡ blocks_in nodes tree
  pub children : CountsChildren nodes tree kids
  pub parents : HasDirectories nodes tree

-- no node is dirty
abbrev pub IsClean : ℕ → (ℕ → Option NodeInfo) → Type 0
IsClean nodes tree = (n : ℕ) → n < nodes → is_dirty (tree n) ≡ false

-- the tree that a snapshot loaded is sound
abbrev pub LoadedSound : TreeWords → Type 0
LoadedSound words = IsSound (length words.nodes) words.used (node_at words) (slice_index words.kids)

-- and clean
abbrev pub LoadedClean : TreeWords → Type 0
LoadedClean words = IsClean (length words.nodes) (node_at words)

-- a snapshot's last load is that of the children of the last node
abbrev pub loads_last : ℕ → SnapshotStep → Bool
loads_last nodes (LoadsKids n) = not (is_some (node_after n nodes))
loads_last nodes step = false
