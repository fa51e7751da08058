use Rattle.percpu_rwsem.specs.declared.phases.SemPhase.TheVariants.{UpRead as UpReads}
use Rattle.percpu_rwsem.proofs.phases.SemPhase.after.Goals as goal

pub returns-in-UpRead : goal.returns-in-UpRead
returns-in-UpRead c = let e = c.map_after-in-UpRead.ensures UpReads (λ x y h. h) in rw (e, c.after-in-UpRead.ensures, c.in-UpRead.is)
