-- the freeze that is left stands there
use Rattle.call_ends.proofs.Prelude.{Wait, ap}
use Rattle.call_ends.proofs.closings.leave_to_wait.Goals as goal

pub returns : goal.returns
returns c = ap (λ p. Wait p) c.closing.ensures
