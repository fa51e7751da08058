use Rattle.std.proofs.Common.{refl}
use Rattle.cpu_words.proofs.gate_counts.Readers.{returns as gives_back}
use Rattle.cpu_words.proofs.gate_counts.a_return_keeps_the_gate.Goals as goal

pub returns : goal.returns
returns c = λ tasks processors bit unowned shut count at good t p held lt lp few narrow e none.
    gives_back good t lt few narrow p lp held (at t).barring refl e none
