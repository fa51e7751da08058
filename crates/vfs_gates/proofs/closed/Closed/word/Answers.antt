use Rattle.vfs_gates.proofs.Prelude.{Some, WordName, ap, place, refl, slice_index, slots_items, stride, subst, sym, ℕ, ◌%◌, ◌*◌, ◌<◌, ◌∙◌, ◌≡◌}
use Rattle.{cpu_words.specs.Names.IsWord, gate_world.specs.Configs.extents_of}
use Rattle.vfs_gates.proofs.closed_gates.Ending.{no_hold, no_remount, no_section, none_removed, umount_free}
use Rattle.vfs_gates.proofs.closed.Closed.word.Goals as goal

pub returns-then-has_word-clause-umount : goal.returns-then-has_word-clause-umount
returns-then-has_word-clause-umount c is = let w = c.self.inside in let ws = slots_items w.closed.words in
    ap (λ (v : ℕ). Some v)
    (c.word_of.ensures ∙ (ap (λ (n : WordName). slice_index ws (stride * place n)) is ∙ umount_free w.config ws c.self.invariant.4))

pub returns-then-has_word-clause-remount : goal.returns-then-has_word-clause-remount
returns-then-has_word-clause-remount c is = let w = c.self.inside in let ws = slots_items w.closed.words in
    ap (λ (v : ℕ). Some v)
    (c.word_of.ensures ∙ (ap (λ (n : WordName). slice_index ws (stride * place n)) is ∙ no_remount w.config ws c.self.invariant.4))

pub returns-then-has_word-clause-removed : goal.returns-then-has_word-clause-removed
returns-then-has_word-clause-removed c is = let w = c.self.inside in let ws = slots_items w.closed.words in
    ap (λ (v : ℕ). Some v)
    (c.word_of.ensures ∙ (ap (λ (n : WordName). slice_index ws (stride * place n)) is ∙ none_removed w.config ws c.self.invariant.4))

pub returns-then-has_word-clause-hold : goal.returns-then-has_word-clause-hold
returns-then-has_word-clause-hold c m is = let w = c.self.inside in let ws = slots_items w.closed.words in
    let there = subst (λ (n : WordName). IsWord (extents_of w.config) n) is (c.if-has_word.ensures.0 refl) in
    subst (λ (v : ℕ). v < 2) (sym (c.word_of.ensures ∙ ap (λ (n : WordName). slice_index ws (stride * place n)) is))
    (no_hold w.config ws c.self.invariant.4 m there)

pub returns-then-has_word-clause-sections : goal.returns-then-has_word-clause-sections
returns-then-has_word-clause-sections c t is = let w = c.self.inside in let ws = slots_items w.closed.words in
    let there = subst (λ (n : WordName). IsWord (extents_of w.config) n) is (c.if-has_word.ensures.0 refl) in
    subst (λ (v : ℕ). v % 2 ≡ 0) (sym (c.word_of.ensures ∙ ap (λ (n : WordName). slice_index ws (stride * place n)) is))
    (no_section w.config ws c.self.invariant.4 t there)
