-- What a task's last snapshot is of.
use Rattle.std.specs.Prelude.{List, Some, length, ℕ, ◌∷◌, ◌≡◌}
use Rattle.{freeze_laws.specs.moments.Moments.MomentTells, gate_steps.specs.Seating.{DealtNumbers, HaveHistory, done_by}}
use Rattle.gate_world.specs.{Configs.model_limits, Moments.IsOfMoment, declared.{config.Config.Config, entries.Entry.Entry, views.Snapshot.Snapshot}}
use Rattle.gated_tree.specs.Trees.{node_at}
use Rattle.vfs_gates.specs.TaskStates.{own_number, own_view, spare_of}

-- The snapshot of this number is of a moment of the one history in which the numbers of a task have their views. It is of all nodes, sound
-- and clean. At that moment everything was frozen, the tree was the one loaded, and the numbers that the snapshot notes had done just what
-- it notes. What had been done until then is an allowed trace, which cuts their own lists there, and no node of the tree was dirty.
pub record IsOfAMoment (c : Config) (number : ℕ) (items : DealtNumbers) (s : Snapshot) : Type 0 where
  pub last_seen : List (List Entry)
  pub all : HaveHistory c items last_seen
  pub moment : IsOfMoment c all.history.log number s
  pub tells : MomentTells (model_limits c) (node_at s.loaded) ((number, s.done) ∷ s.others) (λ t. (all.world.views t).actions)
      moment.stands.earlier

-- A task that had these numbers has taken a snapshot since, of a moment of the one history: its own number and those that it had to give
-- have done nothing in between.
pub record HasTaken (c : Config) (before items : DealtNumbers) : Type 0 where
  pub seen : Snapshot
  pub shows : (own_view items).snapshot ≡ Some seen
  pub done : seen.done ≡ length (own_view before).actions
  pub others : seen.others ≡ done_by (spare_of before)
  pub moment : IsOfAMoment c (own_number before) items seen
