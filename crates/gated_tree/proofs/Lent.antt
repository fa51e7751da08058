-- A snapshot whose words were lent has them as they were left.
use Rattle.std.proofs.{Common.{List, ap, length, sym, ℕ, ◌∙◌, ◌≡◌}, lemmas.List.with_items_is}
use Rattle.gated_tree.specs.{Lending.{with_kids, with_nodes}, Trees.words_of, declared.trees.Tree.Tree}

pub words_with_nodes : (tree : Tree) (nodes : List ℕ) → length nodes ≡ length (words_of tree).nodes →
    words_of (with_nodes tree nodes) ≡ record (words_of tree) { nodes = nodes }
unfolding words_of
words_with_nodes tree nodes many =
    ap (λ l. record (words_of tree) { nodes = l }) (with_items_is tree.nodes nodes (many ∙ sym tree.nodes.ok.0))

pub words_with_kids : (tree : Tree) (kids : List ℕ) → length kids ≡ length (words_of tree).kids →
    words_of (with_kids tree kids) ≡ record (words_of tree) { kids = kids }
unfolding words_of
words_with_kids tree kids many =
    ap (λ l. record (words_of tree) { kids = l }) (with_items_is tree.kids kids (many ∙ sym tree.kids.ok.0))
