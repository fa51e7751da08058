use Rattle.gate_steps.proofs.Prelude.{get_elem?, place, some, subst, sym, table_index, ℕ, ◌≡◌}
use Rattle.std.specs.Slots.{slots_items}
use Rattle.gate_steps.proofs.TableWords.{read_at}
use Rattle.gate_steps.proofs.tables.word_of.Goals as goal

pub returns : goal.returns
returns c =
    let ws = slots_items c.args.closed.now.words in
    sym (read_at ws (table_index (place c.args.name)) c.word.result
    (subst (λ (i : ℕ). get_elem? ws i ≡ some c.word.result) c.index_of.ensures c.word.ensures))
