-- The steps at the tree: what a task finds and does there, the tree that it leaves, and its action.
use Rattle.std.specs.Prelude.{None, Ok, Option, Some, bit_and, false, suc, true, ℕ, ◌+◌, ◌-◌, ◌<◌, ◌≡◌, ◌≤◌, ◌⊎◌}
use Rattle.access_model.specs.{Actions.{HoldsSomeMount, IsWriter, tree_after}, States.{IsDirectory, IsFile, IsLinkedFile, Limits, State, is_removed}}
use Rattle.access_model.specs.{States.{openers, size_of}, declared.actions.Action.{Action, TheVariants.{Clean, Close, Create, Dirty, Grow, MoveTo}}}
use Rattle.access_model.specs.declared.actions.{Action.TheVariants.{Open, Remove}, Kind.{Kind, TheVariants.File}, NodeInfo.NodeInfo}
use Rattle.{cpu_words.specs.Touches.{wrap_add, wrap_sub}, finite_sums.specs.Sums.{total, update}}
use Rattle.gated_tree.specs.Roles.{Bare, Bounds, Charged, Clearing, Dropped, Found, Freed, Freeing, Growing, HasNoCharge, Loaded, MayDirty, MayRemove}
use Rattle.gated_tree.specs.Roles.{Moving, NobodyElseFrees, NobodyReads, Out, Placing, Reading, Refunding, Removing, Returning, Role, Targets}
use Rattle.gated_tree.specs.Roles.{TreeState, Uncounting, tree_word}
use Rattle.node_words.specs.Nodes.{IsLawful, any_file_in, closed_node, directory_in, dirty_in, file_in, grown_node, marked_node, moved_node, new_node}
use Rattle.node_words.specs.{Nodes.{node_shown, opened_node, opens_in, unlinked_node, word_of}, declared.nodes.NodeWord.NodeWord}

-- the same tree, with another role of task t
abbrev pub turned : TreeState → ℕ → Role → TreeState
turned s t r = record s { at = update s.at t r }

-- the same, with another value of `used`
abbrev pub with_used : TreeState → ℕ → ℕ → Role → TreeState
with_used s used t r = record s { used = used; at = update s.at t r }

-- the same, with one child more or less charged to a directory
abbrev pub with_kids : TreeState → ℕ → ℕ → ℕ → Role → TreeState
with_kids s d kids t r = record s { kids = update s.kids d kids; at = update s.at t r }

-- the same, with another value of `removed`
abbrev pub with_removed : TreeState → ℕ → ℕ → Role → TreeState
with_removed s removed t r = record s { removed = removed; at = update s.at t r }

-- the same, with another word of one node
abbrev pub with_node : TreeState → ℕ → ℕ → ℕ → Role → TreeState
with_node s n word t r = record s { node = update s.node n word; at = update s.at t r }

-- no snapshot has loaded a word, or the tree is sealed, so that clearing a mark changes no word
abbrev pub MayClean : Bounds → TreeState → Type 0
MayClean c s = (s.sealed ≡ 1) ⊎ NobodyReads c s

-- the word of a node with its mark cleared
abbrev pub cleared_word : ℕ → ℕ
cleared_word word = bit_and word 18446744073709551611

-- A step of task t: what it finds, the tree that it leaves, and the action that it adds.
pub data Event (c : Bounds) (s : TreeState) (t : ℕ) : TreeState → Option Action → Type 0 where
  -- loads: a create finds its directory; a call finds its file; a move finds its directory, and a grow room for its blocks
  FindsDirectory : (d : ℕ) (dir : NodeWord) → s.at t ≡ Out → d < c.nodes → directory_in (s.node d) ≡ Some (Ok dir) →
      Event c s t (turned s t (Found d)) None
  FindsFile : (n : ℕ) (file : NodeWord) → s.at t ≡ Out → n < c.nodes → file_in (s.node n) ≡ Some (Ok file) →
      Event c s t (turned s t (Loaded file)) None
  FindsTarget : (file dir : NodeWord) (d : ℕ) → s.at t ≡ Loaded file → d < c.nodes → directory_in (s.node d) ≡ Some (Ok dir) →
      Event c s t (turned s t (Targets file d)) None
  FindsRoom : (file : NodeWord) (b : ℕ) → s.at t ≡ Loaded file → 0 < b → s.used + b ≤ c.capacity → file.size + b ≤ c.capacity →
      Event c s t (turned s t (Growing file b s.used)) None
  -- a step that changes no word and no role
  Looks : Event c s t (turned s t (s.at t)) None
  -- a refusal, an end, or a failed compare-exchange, where nothing is charged; a failed one where something is
  Leaves : HasNoCharge (s.at t) → Event c s t (turned s t Out) None
  CreateFails : (d : ℕ) → s.at t ≡ Placing d → Event c s t (turned s t (Returning d)) None
  MoveFails : (file : NodeWord) (d : ℕ) → s.at t ≡ Moving file d → Event c s t (turned s t (Returning d)) None
  RemoveFails : (file : NodeWord) → s.at t ≡ Removing file → Event c s t (turned s t Uncounting) None
  GrowFails : (file : NodeWord) (b : ℕ) → s.at t ≡ Charged file b → Event c s t (turned s t (Refunding b)) None
  -- steps of `used`: a grow charges its blocks, or subtracts them again; a remove subtracts its file's
  ChargesBlocks : (file : NodeWord) (b : ℕ) → NobodyReads c s → s.at t ≡ Growing file b s.used →
      Event c s t (with_used s (s.used + b) t (Charged file b)) None
  RefundsBlocks : (b : ℕ) → NobodyReads c s → s.at t ≡ Refunding b → Event c s t (with_used s (wrap_sub s.used b) t Out) None
  FreesBlocks : (b d : ℕ) → NobodyReads c s → s.at t ≡ Freed b d → Event c s t (with_used s (wrap_sub s.used b) t (Returning d)) None
  DropsBlocks : (b : ℕ) → NobodyReads c s → s.at t ≡ Dropped b → Event c s t (with_used s (wrap_sub s.used b) t Uncounting) None
  -- steps of `removed`: a remove counts its file, which is open; a failed one, and a last close, take that back
  CountsRemoval : (file : NodeWord) → MayRemove c s → s.at t ≡ Loaded file → 1 ≤ file.opens →
      Event c s t (with_removed s (wrap_add s.removed 1) t (Removing file)) None
  Uncounts : s.at t ≡ Uncounting → Event c s t (with_removed s (wrap_sub s.removed 1) t Out) None
  -- steps of the children that are charged
  CreateAdds : (d : ℕ) → NobodyReads c s → s.at t ≡ Found d → Event c s t (with_kids s d (wrap_add (s.kids d) 1) t (Placing d)) None
  MoveAdds : (file : NodeWord) (d : ℕ) → NobodyReads c s → s.at t ≡ Targets file d →
      Event c s t (with_kids s d (wrap_add (s.kids d) 1) t (Moving file d)) None
  SubtractsChild : (d : ℕ) → NobodyReads c s → s.at t ≡ Returning d → Event c s t (with_kids s d (wrap_sub (s.kids d) 1) t Out) None
  -- compare-exchanges of a node that found what was loaded, each with its action
  Creates : (n d : ℕ) (kind : Kind) → NobodyReads c s → s.at t ≡ Placing d → n < c.nodes → s.node n ≡ 0 →
      Event c s t (with_node s n (word_of (new_node kind d)) t Out) (Some (Create n d kind))
  Removes : (file : NodeWord) (n : ℕ) → NobodyReads c s → s.at t ≡ Loaded file → n < c.nodes → s.node n ≡ word_of file → file.opens ≡ 0 →
      Event c s t (with_node s n 0 t (Freed file.size file.parent)) (Some (Remove n))
  MarksRemoved : (file : NodeWord) (n : ℕ) → NobodyReads c s → s.at t ≡ Removing file → n < c.nodes → s.node n ≡ word_of file →
      Event c s t (with_node s n (word_of (unlinked_node file)) t (Returning file.parent)) (Some (Remove n))
  Grows : (file : NodeWord) (b n : ℕ) → NobodyReads c s → MayDirty c s → s.at t ≡ Charged file b → n < c.nodes → s.node n ≡ word_of file →
      Event c s t (with_node s n (word_of (grown_node b file)) t Out) (Some (Grow n b))
  Moves : (file : NodeWord) (d n : ℕ) → NobodyReads c s → s.at t ≡ Moving file d → n < c.nodes → s.node n ≡ word_of file →
      Event c s t (with_node s n (word_of (moved_node d file)) t (Returning file.parent)) (Some (MoveTo n d))
  Dirties : (file : NodeWord) (n : ℕ) → NobodyReads c s → MayDirty c s → s.at t ≡ Loaded file → n < c.nodes → s.node n ≡ word_of file →
      Event c s t (with_node s n (word_of (marked_node true file)) t Out) (Some (Dirty n))
  Flushes : (file : NodeWord) (n : ℕ) → MayClean c s → s.at t ≡ Loaded file → n < c.nodes → s.node n ≡ word_of file →
      Event c s t (with_node s n (word_of (marked_node false file)) t Out) (Some (Clean n))
  -- an open, and a close of a file that stays
  OpensFile : (file : NodeWord) (n : ℕ) → s.at t ≡ Loaded file → n < c.nodes → s.node n ≡ word_of file → file.opens < 64 →
      Event c s t (with_node s n (word_of (opened_node file)) t Out) (Some (Open n))
  ClosesFile : (file : NodeWord) (n : ℕ) → s.at t ≡ Out → n < c.nodes → s.node n ≡ word_of file → file.kind ≡ Some File → IsLawful file →
      1 ≤ file.opens →
      (file.removed ≡ false) ⊎ (2 ≤ file.opens) →
      Event c s t (with_node s n (word_of (closed_node file)) t Out) (Some (Close n))
  -- a last close: it finds a removed file that nobody else has open, and frees it
  FindsLast : (file : NodeWord) (n : ℕ) → s.at t ≡ Out → n < c.nodes → any_file_in (s.node n) ≡ Some (Ok file) → file.removed ≡ true →
      file.opens ≡ 1 →
      Event c s t (turned s t (Freeing n file)) None
  FreesFile : (file : NodeWord) (n : ℕ) → NobodyReads c s → NobodyElseFrees c s t n → s.at t ≡ Freeing n file →
      Event c s t (with_node s n 0 t (Dropped file.size)) (Some (Close n))
  -- a remount finds no removed file, and then the superblock is read-only; it is writable again
  FindsNone : s.at t ≡ Out → s.removed ≡ 0 → Event c s t (turned s t Bare) None
  GoesBare : s.at t ≡ Bare → Event c s t (record (turned s t Out) { bare = 1 }) None
  StopsBare : Event c s t (record s { bare = 0 }) None
  -- a clearing: it begins; it comes to a node that is marked, or to one that isn't; it ends with the store that seals the tree. The tree
  -- is opened again.
  BeginsClearing : s.at t ≡ Out → Event c s t (turned s t (Clearing 1)) None
  Clears : (n : ℕ) → MayClean c s → s.at t ≡ Clearing n → n < c.nodes → dirty_in (s.node n) ≡ 1 →
      Event c s t (with_node s n (cleared_word (s.node n)) t (Clearing (suc n))) (Some (Clean n))
  Passes : (n : ℕ) → s.at t ≡ Clearing n → n < c.nodes → dirty_in (s.node n) ≡ 0 →
      Event c s t (with_node s n (cleared_word (s.node n)) t (Clearing (suc n))) None
  Seals : (n : ℕ) → c.nodes ≤ n → s.at t ≡ Clearing n → Event c s t (record (turned s t Out) { sealed = 1 }) None
  Opens : Event c s t (record s { sealed = 0 }) None
  -- a snapshot begins, and loads its next word
  BeginsReading : (values : ℕ → ℕ) → s.at t ≡ Out → Event c s t (turned s t (Reading 0 values)) None
  Reads : (k : ℕ) (values next : ℕ → ℕ) → s.at t ≡ Reading k values → next k ≡ tree_word c.nodes s.used s.node s.kids k →
      ((i : ℕ) → i < k → next i ≡ values i) → Event c s t (turned s t (Reading (suc k) next)) None

-- the tree that node words show
abbrev pub tree_shown : (ℕ → ℕ) → ℕ → Option NodeInfo
tree_shown node = λ n. node_shown (node n)

-- how many tasks have each node open, as node words say
abbrev pub opens_shown : (ℕ → ℕ) → ℕ → ℕ
opens_shown node = λ n. opens_in (node n)

-- what an action leaves of how many tasks have each node open
abbrev pub counts_after : Action → (ℕ → ℕ) → ℕ → ℕ
counts_after (Open n) counts = update counts n (counts n + 1)
counts_after (Close n) counts = update counts n (counts n - 1)
counts_after action counts = counts

-- The model allows the action, as far as the tree is concerned: there is the node and the directory, the node is free or a file, the
-- blocks are within the capacity.
abbrev pub TreeAllows : Bounds → (ℕ → Option NodeInfo) → Action → Type 0
TreeAllows c tree (Create n d kind) = (n < c.nodes) × (d < c.nodes) × (tree n ≡ None) × IsDirectory (tree d)
TreeAllows c tree (Remove n) = (n < c.nodes) × IsLinkedFile (tree n)
TreeAllows c tree (Grow n blocks) =
    (n < c.nodes) × IsLinkedFile (tree n) × (0 < blocks) × (total c.nodes (λ x. size_of (tree x)) + blocks ≤ c.capacity)
TreeAllows c tree (MoveTo n d) = (n < c.nodes) × (d < c.nodes) × IsLinkedFile (tree n) × IsDirectory (tree d)
TreeAllows c tree (Dirty n) = (n < c.nodes) × IsLinkedFile (tree n)
TreeAllows c tree (Clean n) = (n < c.nodes) × IsFile (tree n)
TreeAllows c tree (Open n) = (n < c.nodes) × IsLinkedFile (tree n)
TreeAllows c tree (Close n) = n < c.nodes
TreeAllows c tree _ = ⊥

-- the shown tree does this action: it is allowed, and what is shown afterwards is its effect
pub record TreeDoes (c : Bounds) (node after : ℕ → ℕ) (action : Action) : Type 0 where
  pub allowed : TreeAllows c (tree_shown node) action
  pub effect : tree_shown after ≡ tree_after action (opens_shown node) (tree_shown node)
  pub opens : opens_shown after ≡ counts_after action (opens_shown node)

-- the shown tree moves by the action, or not at all
abbrev pub MovesBy : Bounds → (ℕ → ℕ) → (ℕ → ℕ) → Option Action → Type 0
MovesBy c node after None = (tree_shown after ≡ tree_shown node) × (opens_shown after ≡ opens_shown node)
MovesBy c node after (Some action) = TreeDoes c node after action

-- the tree as it begins: the root alone
abbrev pub opening_tree : TreeState
opening_tree = record { sealed = 0; bare = 0; used = 0; removed = 0; node = update (λ n. 0) 0 2; kids = λ d. 0; at = λ t. Out }

-- nobody has charged anything
abbrev pub IsQuiet : Bounds → TreeState → Type 0
IsQuiet c s = (t : ℕ) → t < c.tasks → HasNoCharge (s.at t)

-- the accesses that the model asks of a task for a change of the tree; no other action is one
abbrev pub HasLeave : Limits → State → ℕ → Action → Type 0
HasLeave l s t (Create n d kind) = IsWriter l s t
HasLeave l s t (Remove n) = IsWriter l s t
HasLeave l s t (Grow n blocks) = IsWriter l s t
HasLeave l s t (MoveTo n d) = IsWriter l s t
HasLeave l s t (Dirty n) = (s.levels t 2 ≡ true) × HoldsSomeMount l s t
HasLeave l s t (Clean n) = (s.levels t 3 ≡ true) ⊎ ((s.passed ≡ 2) ⊎ (s.sb_ro ≡ true))
HasLeave l s t (Open n) = s.opens t n ≡ false
HasLeave l s t (Close n) =
    (s.opens t n ≡ true) × (is_removed (s.tree n) ≡ true → openers s.opens n ≡ 1 → s.levels t 3 ≡ true)
HasLeave l s t _ = ⊥

-- the model's numbers of tasks, nodes and blocks
abbrev pub bounds_of : Limits → Bounds
bounds_of l = record { tasks = l.tasks; nodes = l.nodes; capacity = l.capacity }
