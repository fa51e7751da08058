-- the law is a lemma
use Rattle.gate_steps.proofs.call_events.ThawAsks.{granted_thaw}
use Rattle.gate_steps.proofs.call_events.laws.a_granted_thaw_asks_at_most_once.Goals as goal

pub returns : goal.returns
returns c = granted_thaw
