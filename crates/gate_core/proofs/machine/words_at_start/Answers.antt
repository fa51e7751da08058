-- zeros, with the root's word written
use Rattle.std.proofs.Common.{arith}
use Rattle.cpu_words.{proofs.Places.opening_from, specs.Names.words_in_all}
use Rattle.gate_core.proofs.machine.words_at_start.Goals as goal

pub returns : goal.returns
returns c =
    opening_from (λ place. place) words_in_all c.place.result c.in_ok-words.words.items (omega arith) c.place.ensures
    (c.in_ok-words.ensures.items_if_clones_equal (λ y e. e))
