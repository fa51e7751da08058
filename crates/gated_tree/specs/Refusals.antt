-- Why a call at the tree is refused: tests of one step, and for each call what its steps must have found. `Seen test` is that some
-- step of the call passed the test.
use Rattle.std.specs.Prelude.{Bool, false, nat_lt, not, true, ℕ, ◌&&◌, ◌+◌, ◌<◌, ◌==◌, ◌||◌, ◌≡◌, ◌≤◌, ◌⊎◌}
use Rattle.access_model.specs.declared.errors.GateError.{GateError, TheVariants.{Again, Invalid, IsDir, NoEntry, NoSpace, NotDir}}
use Rattle.cpu_words.specs.declared.events.{Event.Event, Touch.{TheVariants.{Cas, Load}, Touch}}
use Rattle.cpu_words.specs.declared.names.WordName.{TheVariants.{Node, Stage, Umount, Used}, WordName}
use Rattle.node_words.specs.Nodes.{kind_in, removed_in, size_in}
use Rattle.gated_tree.specs.declared.{changes.{Create.Create, MoveTo.MoveTo}, growth.Grow.Grow, snapshots.Snapshot.Snapshot}

-- the step loads this node
abbrev pub loads_node : ℕ → WordName → Touch → Bool
loads_node n (Node m) Load = m == n
loads_node n word touch = false

-- it loads `used`
abbrev pub loads_used : WordName → Touch → Bool
loads_used Used Load = true
loads_used word touch = false

-- it loads the stage
abbrev pub loads_stage : WordName → Touch → Bool
loads_stage Stage Load = true
loads_stage word touch = false

-- it is a compare-exchange, and found another value than it expected
abbrev pub misses : Touch → ℕ → Bool
misses (Cas expect put) found = not (found == expect)
misses touch found = false

-- it is a compare-exchange
abbrev pub is_exchange : Touch → Bool
is_exchange (Cas expect put) = true
is_exchange touch = false

-- the word is `umount`
abbrev pub is_umount : WordName → Bool
is_umount Umount = true
is_umount word = false

-- a load found this node free
abbrev pub finds_free : ℕ → Event → Bool
finds_free n e = loads_node n e.word e.touch && (e.found == 0)

-- a load found there a free node, or a file that was removed
abbrev pub finds_gone : ℕ → Event → Bool
finds_gone n e = loads_node n e.word e.touch && (e.found == 0 || removed_in e.found == 1)

-- a load found it taken
abbrev pub finds_taken : ℕ → Event → Bool
finds_taken n e = loads_node n e.word e.touch && not (e.found == 0)

-- a load found a file there
abbrev pub finds_file : ℕ → Event → Bool
finds_file n e = loads_node n e.word e.touch && (kind_in e.found == 1)

-- a load found a directory there
abbrev pub finds_directory : ℕ → Event → Bool
finds_directory n e = loads_node n e.word e.touch && (kind_in e.found == 2)

-- a load found this node with a size that such a growth would take past the capacity
abbrev pub finds_large : ℕ → ℕ → ℕ → Event → Bool
finds_large n blocks capacity e = loads_node n e.word e.touch && nat_lt capacity (size_in e.found + blocks)

-- a load found so many blocks charged that such a growth would go past the capacity
abbrev pub finds_full : ℕ → ℕ → Event → Bool
finds_full blocks capacity e = loads_used e.word e.touch && nat_lt capacity (e.found + blocks)

-- a compare-exchange found another value than it expected
abbrev pub finds_other : Event → Bool
finds_other e = misses e.touch e.found

-- a compare-exchange found `umount` taken
abbrev pub finds_owner : Event → Bool
finds_owner e = is_umount e.word && (is_exchange e.touch && not (e.found == 0))

-- a load found a stage at which not all is frozen
abbrev pub finds_thawed : Event → Bool
finds_thawed e = loads_stage e.word e.touch && not (e.found == 4)

module _ (Seen : (Event → Bool) → Type 0) where
  -- a create: its directory was free or a file, all nodes were taken, or its node was taken meanwhile
  abbrev pub CreateHonest : Create → GateError → Type 0
  CreateHonest x NoEntry = Seen (finds_free x.dir)
  CreateHonest x NotDir = Seen (finds_file x.dir)
  CreateHonest x NoSpace = (n : ℕ) → 1 ≤ n → n < x.nodes → Seen (finds_taken n)
  CreateHonest x Again = Seen finds_other
  CreateHonest x refusal = ⊥

  -- a call on one file: it was free, removed or a directory, or changed meanwhile
  abbrev pub FileHonest : ℕ → GateError → Type 0
  FileHonest file NoEntry = Seen (finds_gone file)
  FileHonest file IsDir = Seen (finds_directory file)
  FileHonest file Again = Seen finds_other
  FileHonest file refusal = ⊥

  -- a grow: its file so, or no room for its blocks, or its file as it was loaded would have become too large
  abbrev pub GrowHonest : Grow → GateError → Type 0
  GrowHonest x NoEntry = Seen (finds_gone x.file)
  GrowHonest x IsDir = Seen (finds_directory x.file)
  GrowHonest x NoSpace = Seen (finds_full x.blocks x.capacity)
  GrowHonest x Again = Seen finds_other ⊎ Seen (finds_large x.file x.blocks x.capacity)
  GrowHonest x refusal = ⊥

  -- a move: its file so, or its directory was free or a file
  abbrev pub MoveHonest : MoveTo → GateError → Type 0
  MoveHonest x NoEntry = Seen (finds_gone x.file) ⊎ Seen (finds_free x.dir)
  MoveHonest x IsDir = Seen (finds_directory x.file)
  MoveHonest x NotDir = Seen (finds_file x.dir)
  MoveHonest x Again = Seen finds_other
  MoveHonest x refusal = ⊥

  -- a snapshot: `umount` was taken and it doesn't wait, or not all was frozen
  abbrev pub SnapshotHonest : Snapshot → GateError → Type 0
  SnapshotHonest x Again = (x.wait ≡ false) × Seen finds_owner
  SnapshotHonest x Invalid = Seen finds_thawed
  SnapshotHonest x refusal = ⊥
