-- what was loaded becomes the last snapshot, and the lock is given back
use Rattle.vfs_gates.proofs.Prelude.{BufferWords, Ok, Releases, ap, at_snapshot, completed, refl, still_stands, sym, with_words, words_in, ◌∙◌, ◌≡◌}
use Rattle.{access_model.specs.declared.replies.Reply.TheVariants.Tree as TreeReply, gated_tree.specs.Trees.words_of}
use Rattle.vfs_gates.proofs.Loading.{noted_as, noted_on, noted_to, unnoted}
use Rattle.vfs_gates.proofs.snapshots.load_tree.Goals as goal

pub find-freed-requires-clause-stands : goal.find-freed-requires-clause-stands
find-freed-requires-clause-stands c = still_stands c.in_default.ensures.led c.requires.stands

pub returns : goal.returns
returns c =
    let loaded = c.in_default.ensures in
    noted_as {Are = λ r. r ≡ words_in c.args.buffers.now} (λ (r : BufferWords) were. (
      ap (λ (z : BufferWords). z.next) were ∙ ap words_of (sym c.deref_mut.ensures.value),
      ap (λ (z : BufferWords). completed (with_words (words_of c.load_words.new.tree) z)) were ∙ sym c.complete.ensures,
    ))
    (noted_on loaded (λ r were. refl)
    (unnoted {Were = λ r. r ≡ r} (at_snapshot c.args.snapshot (Releases (Ok TreeReply))) c.find-freed.result (λ r. refl) refl
    c.find-freed.ensures.led c.find-freed.ensures.items (still_stands loaded.led c.requires.stands)))

pub returns-in-Some : goal.returns-in-Some
returns-in-Some c =
    noted_as {Are = λ r. r ≡ words_in c.args.buffers.now} (λ (r : BufferWords) were. (
      ap (λ (z : BufferWords). z.next) were ∙ ap words_of (sym c.deref_mut.ensures.value),
      ap (λ (z : BufferWords). with_words (words_of c.load_words.new.tree) z) were,
    ))
    (noted_to (sym c.leave_at_node.ensures) c.in-Some.ensures)
