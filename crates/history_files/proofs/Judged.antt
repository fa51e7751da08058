-- What the search has found of a history's markers.
use Rattle.std.proofs.Common.{List, length, subst, ℕ, ◌+◌, ◌<◌, ◌≡◌, ◌≤◌}
use Rattle.{exploration.specs.Tables.AreTooMany, gate_core.specs.Memory.{Memory, Represents}, gate_world.specs.Worlds.World, races.specs.Normal.normal}
use Rattle.histories.specs.{Eager.next_eager, Executions.{Has, HasMost, beginning}, Places.alike, declared.markers.Marker.Marker}
use Rattle.history_files.{proofs.Few.admitted, specs.Verdicts.{HasTooMany, IsImpossible, IsPossible}}

module _ (core : Memory) (judged markers : List Marker) (same : judged ≡ markers) (passed : ℕ) where
  -- some execution has as many markers as there are
  pub is_possible : ((w : World) → Represents core w → Has core.config judged w passed) → length markers ≤ passed → IsPossible core markers
  is_possible has all w shows = admitted core.config markers w passed all (subst (λ (m : List Marker). Has core.config m w passed) same (has w shows))

  -- none has more
  pub is_impossible : ((w : World) → Represents core w → HasMost core.config judged w passed) → passed < length markers → IsImpossible core markers passed
  is_impossible most some = record {
    some = some;
    most = λ w shows. subst (λ (m : List Marker). HasMost core.config m w passed) same (most w shows);
  }

-- the states of a history that has these markers, and as many tasks as the core
module _ (core : Memory) (judged markers : List Marker) (same : judged ≡ markers) (tasks limit : ℕ) (all : tasks ≡ core.config.tasks) where
  pub too_many : AreTooMany (next_eager tasks judged) (tasks + 1) alike (beginning core.config (normal core)) limit → HasTooMany core markers limit
  too_many many = subst (λ (m : List Marker). HasTooMany core m limit) same
      (subst (λ n. AreTooMany (next_eager n judged) (n + 1) alike (beginning core.config (normal core)) limit) all many)
