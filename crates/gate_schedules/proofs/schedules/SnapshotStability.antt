-- A snapshot under way stands in a frozen tree, from its load of stage 4 to its release.
use Rattle.gate_schedules.proofs.Prelude.{Config, IsGood, KnowsStage, RoleHolds, SnapshotStep, Some, Stages, Tree, World, arith, stage_role_of, subst}
use Rattle.gate_schedules.proofs.Prelude.{tree_bounds, tree_role_of, values_noted, ℕ, ◌≡◌}
use Rattle.{gate_world.specs.{Headline.SnapshotsStand, Roles.snapshot_stage_role}, gated_tree.specs.Calls.{reading, words_loaded}}

-- who has loaded words relies on stage 4
relies : (stage sb nodes words : ℕ) (s : SnapshotStep) → words_loaded nodes s ≡ Some words → KnowsStage stage sb (snapshot_stage_role s) →
    stage ≡ 4
relies stage sb nodes words s e knows = grind arith

pub snapshots_stand : (c : Config) (w : World) → IsGood c w → SnapshotsStand c w
snapshots_stand c w good t x words lt at e = (
  relies w.words.stage w.words.sb x.nodes words x.step e
      (subst (λ p. KnowsStage w.words.stage w.words.sb (stage_role_of p)) at ((good Stages).knows t lt)),
  subst (λ o. RoleHolds (tree_bounds c) w.words.used w.words.removed w.words.node w.words.kids
      (reading (values_noted x.nodes (w.views t).trace) o)) e
      (subst (λ p. RoleHolds (tree_bounds c) w.words.used w.words.removed w.words.node w.words.kids (tree_role_of (w.views t).trace p)) at
      ((good Tree).roles t lt)),
)
