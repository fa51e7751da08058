-- the law is a lemma
use Rattle.gate_steps.proofs.call_events.FreezeAsks.{granted_freeze}
use Rattle.gate_steps.proofs.call_events.laws.a_granted_freeze_asks_each_hook_once.Goals as goal

pub returns : goal.returns
returns c = granted_freeze
