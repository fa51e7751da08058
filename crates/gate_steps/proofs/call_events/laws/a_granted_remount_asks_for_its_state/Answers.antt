-- the law is a lemma
use Rattle.gate_steps.proofs.call_events.RemountAsks.{granted_remount}
use Rattle.gate_steps.proofs.call_events.laws.a_granted_remount_asks_for_its_state.Goals as goal

pub returns : goal.returns
returns c = granted_remount
