-- both are lemmas
use Rattle.vfs_gates.proofs.Prelude.{call_effect}
use Rattle.vfs_gates.proofs.call_laws.NothingAdded.{was_so}
use Rattle.vfs_gates.proofs.laws.in_time.a_call_takes_effect_between_call_and_return.Goals as goal

pub returns-clause-actions : goal.returns-clause-actions
returns-clause-actions c = call_effect

pub returns-clause-nothing : goal.returns-clause-nothing
returns-clause-nothing c = was_so
