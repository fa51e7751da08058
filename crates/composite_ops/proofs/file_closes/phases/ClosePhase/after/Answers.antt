-- what comes after a step at the level, along what the phase is and what its calls ensure
use Rattle.std.proofs.Common.{sym, ◌∙◌}
use Rattle.composite_ops.specs.file_closes.Phases.{after, then_frees}
use Rattle.composite_ops.proofs.file_closes.phases.ClosePhase.after.Goals as goal

pub returns-in-Enters : goal.returns-in-Enters
returns-in-Enters c = let e = c.in-Enters in
    (λ i. (c.frees_then.ensures i, c.after-next.result.1)) ∙
    ((λ i. (then_frees e.file e.node e.read.cpu (c.after-next.ensures i).0, (c.after-next.ensures i).1)) ∙
    (λ i. after (sym e.is i) c.args.found))
