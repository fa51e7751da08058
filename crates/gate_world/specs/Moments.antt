-- The moments of snapshots in a history.
use Rattle.std.specs.Prelude.{List, None, Option, Some, length, slice_index, ℕ, ◌<◌, ◌∷◌, ◌≡◌}
use Rattle.{access_model.specs.Histories.Done, cpu_words.specs.{Hooks.HookAnswer, Words.Words}, freeze_laws.specs.moments.Moments.WasFrozenWith}
use Rattle.{gated_tree.specs.{Trees.{LoadedClean, LoadedSound, node_at}, declared.trees.TreeWords.TreeWords}, node_words.specs.Nodes.node_shown}
use Rattle.gate_world.specs.{Worlds.{World, found_at}, declared.{config.Config.Config, views.Snapshot.Snapshot, work.Phase.Phase}}
use Rattle.gate_world.specs.traces.Snapshots.{completes}

-- A snapshot of a task number has a moment in a history. It is of all nodes, and of a tree that is sound and clean; and after some of
-- the history's first actions everything was frozen, the tree was the one loaded, and this number and each other one of its task had done
-- just what they had done at the snapshot's last load.
pub record IsOfMoment (c : Config) (log : List Done) (t : ℕ) (s : Snapshot) : Type 0 where
  pub whole : length s.loaded.nodes ≡ c.nodes
  pub sound : LoadedSound s.loaded
  pub clean : LoadedClean s.loaded
  pub stands : WasFrozenWith c.nodes (node_at s.loaded) ((t, s.done) ∷ s.others) log

-- so it is of a number's last snapshot, where it has one
abbrev pub HasMoment : Config → List Done → ℕ → Option Snapshot → Type 0
HasMoment c log t None = Unit {0}
HasMoment c log t (Some s) = IsOfMoment c log t s

-- each number's last snapshot has one
abbrev pub AllHaveMoments : Config → List Done → World → Type 0
AllHaveMoments c log w = (t : ℕ) → HasMoment c log t (w.views t).snapshot

-- everything is frozen, and what was loaded are the present words of the tree, of all nodes, but for how many tasks have files open
pub record IsPresentTree (c : Config) (words : Words) (loaded : TreeWords) : Type 0 where
  pub frozen : words.stage ≡ 4
  pub whole : length loaded.nodes ≡ c.nodes
  pub used : words.used ≡ loaded.used
  pub nodes : (n : ℕ) → n < c.nodes → node_shown (words.node n) ≡ node_at loaded n
  pub kids : (n : ℕ) → n < c.nodes → words.kids n ≡ slice_index loaded.kids n

-- where the next step of a phase completes a snapshot, it is of the present tree
abbrev pub CompletesNow : Config → World → ℕ → HookAnswer → Phase → Type 0
CompletesNow c w t hook phase =
    (loaded : TreeWords) → completes phase (w.views t).trace (found_at w.words phase hook) ≡ Some loaded → IsPresentTree c w.words loaded
