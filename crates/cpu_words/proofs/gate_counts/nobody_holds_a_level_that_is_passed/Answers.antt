use Rattle.cpu_words.proofs.gate_counts.LevelLaws.{none_closed}
use Rattle.cpu_words.proofs.gate_counts.nobody_holds_a_level_that_is_passed.Goals as goal

pub returns : goal.returns
returns c = λ tasks processors block full count at good set none. none_closed good set none
