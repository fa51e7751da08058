-- What a snapshot lends of its words, and what they are once the borrow is over.
use Rattle.std.specs.{Prelude.{ℕ, List}, Borrow.{Array, Fml, Lends, MutBor, u64}, Vec.{with_items}}
use Rattle.gated_tree.specs.{declared.trees.Tree.{Tree}, contracts.trees.Tree.{the_row}}

-- a snapshot with these words of its nodes
abbrev pub with_nodes : Tree → List ℕ → Tree
with_nodes tree nodes = record tree { nodes = with_items tree.nodes nodes }

-- and with these of the children charged to them
abbrev pub with_kids : Tree → List ℕ → Tree
with_kids tree kids = record tree { kids = with_items tree.kids kids }

-- it ends with the words of its nodes as they are left
abbrev pub LendsNodes : MutBor Tree → MutBor (List ℕ) → Fml
LendsNodes tree nodes = Lends the_row (Array u64 0) tree nodes (with_nodes tree.now)

-- and with those of the children
abbrev pub LendsKids : MutBor Tree → MutBor (List ℕ) → Fml
LendsKids tree kids = Lends the_row (Array u64 0) tree kids (with_kids tree.now)
