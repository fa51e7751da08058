use Rattle.std.proofs.Common.{refl}
use Rattle.cpu_words.proofs.gate_counts.Readers.{adds}
use Rattle.cpu_words.proofs.gate_counts.an_addition_keeps_the_gate.Goals as goal

pub returns : goal.returns
returns c = λ tasks processors bit unowned shut count at good t p lt lp few narrow none.
    adds good t lt few narrow p lp (at t).barring refl none
