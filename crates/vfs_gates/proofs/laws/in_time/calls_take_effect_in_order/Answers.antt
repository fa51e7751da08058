-- the law is a lemma
use Rattle.vfs_gates.proofs.call_laws.Timing.{calls_in_order}
use Rattle.vfs_gates.proofs.laws.in_time.calls_take_effect_in_order.Goals as goal

pub returns : goal.returns
returns c = calls_in_order
