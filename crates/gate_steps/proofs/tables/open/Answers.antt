use Rattle.gate_steps.proofs.Prelude.{List, [], subst, sym, ℕ, ◌∷◌}
use Rattle.gate_steps.{proofs.Opening.opening_held, specs.Rules.{TableInvariantHolds, first_known}}
use Rattle.gate_steps.proofs.tables.open.Goals as goal

pub of_words-requires : goal.of_words-requires
of_words-requires c =
    let config = c.args.config.now in
    subst (λ (l : List ℕ). TableInvariantHolds config l (first_known config ∷ [])) (sym c.deref.ensures.value)
    (opening_held config c.requires c.in_ok-words.words.items c.in_ok-words.ensures)
