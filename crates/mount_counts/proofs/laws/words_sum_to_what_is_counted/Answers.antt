use Rattle.cpu_words.proofs.gate_counts.Events.{words_sum}
use Rattle.mount_counts.proofs.laws.words_sum_to_what_is_counted.Goals as goal

pub returns : goal.returns
returns c = λ tasks processors count at. words_sum
