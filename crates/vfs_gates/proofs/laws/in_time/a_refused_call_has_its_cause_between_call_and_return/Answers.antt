-- the law is a lemma
use Rattle.gate_steps.proofs.call_events.Caused.{call_caused_during}
use Rattle.vfs_gates.proofs.laws.in_time.a_refused_call_has_its_cause_between_call_and_return.Goals as goal

pub returns : goal.returns
returns c = call_caused_during
