-- the law is a lemma
use Rattle.gate_steps.proofs.call_events.Grown.{call_goes_on}
use Rattle.gate_steps.proofs.call_events.laws.a_call_goes_on_from_what_was_seen.Goals as goal

pub returns : goal.returns
returns c = call_goes_on
