-- both are lemmas
use Rattle.vfs_gates.proofs.call_laws.TreeStays.{tree_stays, tree_stays_between}
use Rattle.vfs_gates.proofs.laws.in_time.a_frozen_tree_stays_until_it_is_thawed.Goals as goal

pub returns-clause-calls : goal.returns-clause-calls
returns-clause-calls c = tree_stays_between

pub returns-clause-worlds : goal.returns-clause-worlds
returns-clause-worlds c = tree_stays
