use Rattle.cpu_words.proofs.gate_counts.Flags.{none_admitted}
use Rattle.cpu_words.proofs.gate_counts.nobody_is_admitted_until_the_flag_is_cleared.Goals as goal

pub returns : goal.returns
returns c = λ tasks processors bit unowned shut count at good t lt e. none_admitted good t lt e
