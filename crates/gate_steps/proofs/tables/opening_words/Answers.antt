-- zeros, with the root's word written
use Rattle.gate_steps.proofs.Prelude.{arith, table_index, table_length}
use Rattle.cpu_words.proofs.Places.{opening_from}
use Rattle.gate_steps.proofs.tables.opening_words.Goals as goal

pub returns : goal.returns
returns c =
    opening_from table_index table_length c.index_of.result c.in_ok-words.words.items (omega arith) c.index_of.ensures
    (c.in_ok-words.ensures.items_if_clones_equal (λ y e. e))
