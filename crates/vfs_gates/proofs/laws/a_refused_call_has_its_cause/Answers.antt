-- the law is a lemma
use Rattle.gate_steps.proofs.call_events.Caused.{call_caused}
use Rattle.vfs_gates.proofs.laws.a_refused_call_has_its_cause.Goals as goal

pub returns : goal.returns
returns c = call_caused
