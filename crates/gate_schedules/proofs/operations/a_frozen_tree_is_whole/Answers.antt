-- a lemma
use Rattle.gate_schedules.proofs.trees.worlds.Frozen.{frozen_whole}
use Rattle.gate_schedules.proofs.operations.a_frozen_tree_is_whole.Goals as goal

pub returns : goal.returns
returns g = λ c within w good. frozen_whole c within w good
