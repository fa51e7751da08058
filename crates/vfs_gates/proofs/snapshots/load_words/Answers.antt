-- each part goes on from what the one before it left, and what was lent has the words that were loaded
use Rattle.vfs_gates.proofs.Prelude.{BufferWords, TreeWords, ap, arith, at_snapshot, length, sym, ◌∙◌, ◌≡◌}
use Rattle.vfs_gates.{proofs.Loading.{noted_as, noted_on, taking_leaves, used_noted}, specs.Buffers.{completed, with_words}}
use Rattle.gated_tree.{proofs.Lent.{words_with_kids, words_with_nodes}, specs.Lending.{with_kids as kids_lent, with_nodes as nodes_lent}}
use Rattle.gated_tree.specs.{Trees.words_of, declared.{snapshots.SnapshotStep.TheVariants.LoadsUsed, trees.Tree.Tree}}
use Rattle.gate_steps.proofs.call_events.Leading.{still_stands}
use Rattle.vfs_gates.proofs.snapshots.load_words.Goals as goal

pub find-used-requires-clause-leaves : goal.find-used-requires-clause-leaves
find-used-requires-clause-leaves c found = taking_leaves c.args.accesses.now (at_snapshot c.args.snapshot LoadsUsed) found

pub load_nodes-requires-clause-stands : goal.load_nodes-requires-clause-stands
load_nodes-requires-clause-stands c = still_stands c.find-used.ensures.led c.requires.stands

pub returns-in-Some : goal.returns-in-Some
returns-in-Some c =
    let tree : Tree = c.load.new.self in
    let words : TreeWords = words_of c.args.tree.now in
    let nodes = c.load_nodes.new.nodes in
    let left : words_of (nodes_lent tree nodes) ≡ record words { used = c.find-used.result; nodes = nodes } =
    words_with_nodes tree nodes (omega (arith, ap length c.nodes_mut.ensures.words)) ∙
    ap (λ (v : TreeWords). record v { nodes = nodes }) c.load.ensures in
    noted_as (λ (r : BufferWords) were. (were, ap (λ (v : TreeWords). with_words v r) (sym left)))
    (noted_on (used_noted c.args.snapshot c.find-used.result words c.find-used.ensures.led c.find-used.ensures.items c.requires.stands)
    (λ r were. sym (c.nodes_mut.ensures.words ∙ ap (λ (v : TreeWords). v.nodes) c.load.ensures)) c.in-Some.ensures)

pub load_kids-requires-clause-many : goal.load_kids-requires-clause-many
load_kids-requires-clause-many c =
    let tree : Tree = c.load.new.self in
    let nodes = c.load_nodes.new.nodes in
    let left : words_of (nodes_lent tree nodes) ≡ record (words_of tree) { nodes = nodes } =
    words_with_nodes tree nodes (omega (arith, ap length c.nodes_mut.ensures.words)) in (
      ap length (c.kids_mut.ensures.words ∙ (ap (λ (v : TreeWords). v.kids) left ∙ ap (λ (v : TreeWords). v.kids) c.load.ensures)) ∙ c.requires.many.0.1,
      c.requires.many.1,
    )

pub load_kids-requires-clause-stands : goal.load_kids-requires-clause-stands
load_kids-requires-clause-stands c = still_stands c.in_default.ensures.led (still_stands c.find-used.ensures.led c.requires.stands)

pub returns : goal.returns
returns c =
    let tree : Tree = c.load.new.self in
    let words : TreeWords = words_of c.args.tree.now in
    let nodes = c.load_nodes.new.nodes in
    let kids = c.load_kids.new.kids in
    let half : words_of (nodes_lent tree nodes) ≡ record words { used = c.find-used.result; nodes = nodes } =
    words_with_nodes tree nodes (omega (arith, ap length c.nodes_mut.ensures.words)) ∙
    ap (λ (v : TreeWords). record v { nodes = nodes }) c.load.ensures in
    let lent = c.kids_mut.ensures.words in
    let left : words_of (kids_lent (nodes_lent tree nodes) kids) ≡ record words { used = c.find-used.result; nodes = nodes; kids = kids } =
    words_with_kids (nodes_lent tree nodes) kids (omega (arith, ap length lent)) ∙ ap (λ (v : TreeWords). record v { kids = kids }) half in
    noted_as (λ (r : BufferWords) were. (were, ap (λ (v : TreeWords). completed (with_words v r)) (sym left)))
    (noted_on (noted_on (used_noted c.args.snapshot c.find-used.result words c.find-used.ensures.led c.find-used.ensures.items c.requires.stands)
    (λ r were. sym (c.nodes_mut.ensures.words ∙ ap (λ (v : TreeWords). v.nodes) c.load.ensures)) c.in_default.ensures)
    (λ r were. sym (lent ∙ ap (λ (v : TreeWords). v.kids) half)) c.load_kids.ensures)
