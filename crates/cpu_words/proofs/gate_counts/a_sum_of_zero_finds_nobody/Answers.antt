use Rattle.std.proofs.Common.{subst}
use Rattle.cpu_words.proofs.gate_counts.Flags.{MaySay, sum_ends}
use Rattle.cpu_words.proofs.gate_counts.a_sum_of_zero_finds_nobody.Goals as goal

pub returns : goal.returns
returns c = λ tasks processors bit unowned shut count at good t k sum lt few narrow e last z.
    sum_ends good few narrow k sum last z (subst (MaySay good) e (good.sums t lt))
