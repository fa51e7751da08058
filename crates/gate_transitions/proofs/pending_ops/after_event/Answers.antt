-- an up-read has one step, whatever it finds
use Rattle.gate_world.specs.declared.work.Phase.TheVariants.{UpReads}
use Rattle.gate_transitions.proofs.pending_ops.after_event.Goals as goal

pub returns-in-UpReads : goal.returns-in-UpReads
returns-in-UpReads c = let e = c.map_after-in-UpReads.ensures UpReads (λ x y h. h) in rw (e, c.after-in-UpReads.ensures, c.in-UpReads.is)
