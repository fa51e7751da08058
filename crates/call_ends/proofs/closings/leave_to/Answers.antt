-- the freeze that is left stands there
use Rattle.call_ends.proofs.Prelude.{Go, ap}
use Rattle.call_ends.proofs.closings.leave_to.Goals as goal

pub returns : goal.returns
returns c = ap (λ p. Go p) c.closing.ensures
