-- which level it was says what comes
use Rattle.call_ends.proofs.Prelude.{arith, asking_from, stands_from}
use Rattle.call_ends.proofs.Closing.{closed_first, closed_second, closed_third}
use Rattle.call_ends.proofs.freeze_lines.go_on_closed.Goals as goal

pub lock_again-requires : goal.lock_again-requires
lock_again-requires g c = stands_from (closed_first c.args.freeze.now c.args.level (omega arith)) c.requires

pub returns-then-level-eq1 : goal.returns-then-level-eq1
returns-then-level-eq1 g c = asking_from (closed_first c.args.freeze.now c.args.level (omega arith)) c.lock_again.ensures

pub sync-requires : goal.sync-requires
sync-requires g c = stands_from (closed_second c.args.freeze.now c.args.level (omega arith)) c.requires

pub returns-then-level-eq2 : goal.returns-then-level-eq2
returns-then-level-eq2 g c = asking_from (closed_second c.args.freeze.now c.args.level (omega arith)) c.sync.ensures

pub complete-requires : goal.complete-requires
complete-requires g c = stands_from (closed_third c.args.freeze.now c.args.level (λ is. omega arith) (λ is. omega arith)) c.requires

pub returns : goal.returns
returns g c = asking_from (closed_third c.args.freeze.now c.args.level (λ is. omega arith) (λ is. omega arith)) c.complete.ensures
