use Rattle.vfs_gates.proofs.Prelude.{Gate, Some, WordName, ap, arith, place, refl, slice_index, slots_items, stride, subst, sym, total, true≢false, ℕ}
use Rattle.vfs_gates.proofs.Prelude.{◌%◌, ◌*◌, ◌<◌, ◌∙◌, ◌≡◌}
use Rattle.{cpu_words.specs.Names.IsWord, gate_steps.{proofs.TableWords.lies_inside, specs.Rules.table_index}}
use Rattle.gate_world.specs.Configs.{extents_kept, extents_of}
use Rattle.vfs_gates.proofs.closed_gates.{Ending.{level_sums_to_none, sums_to_none}, Gating.{counts_on, counts_one_more, has_count, is_gate}}
use Rattle.vfs_gates.specs.{Ended.ClosedState, Sums.{IsGate, count_word}}
use Rattle.vfs_gates.proofs.closed.Closed.gate_sum.Goals as goal

pub returns-clause-mounts : goal.returns-clause-mounts
returns-clause-mounts c m is lt = let w = c.self.inside in let ws = slots_items w.closed.words in
    let there : m < w.config.mounts = subst (λ (e : ClosedState). m < e.config.mounts) (sym c.self.view_is) lt in
    let all : c.loop-cpu.cpu ≡ w.config.processors = (let x = c.loop-cpu.auto in let y = c.loop-cpu-test.false in omega arith) in
    let sum : ℕ → Gate → ℕ = λ n g. total n (λ p. slice_index ws (stride * place (count_word g p))) % 18446744073709551616 in
    ap (λ (v : ℕ). Some v)
    (c.loop-cpu.invariant ∙ (ap (λ (n : ℕ). sum n c.args.gate) all ∙
    (ap (λ (g : Gate). sum w.config.processors g) is ∙ sums_to_none w.config ws c.self.invariant.4 m there)))

pub returns-clause-levels : goal.returns-clause-levels
returns-clause-levels c i is l1 l3 = let w = c.self.inside in let ws = slots_items w.closed.words in
    let all : c.loop-cpu.cpu ≡ w.config.processors = (let x = c.loop-cpu.auto in let y = c.loop-cpu-test.false in omega arith) in
    let sum : ℕ → Gate → ℕ = λ n g. total n (λ p. slice_index ws (stride * place (count_word g p))) % 18446744073709551616 in
    ap (λ (v : ℕ). Some v)
    (c.loop-cpu.invariant ∙ (ap (λ (n : ℕ). sum n c.args.gate) all ∙
    (ap (λ (g : Gate). sum w.config.processors g) is ∙ level_sums_to_none w.config ws c.self.invariant.4 i l1 l3)))

pub returns-clause-there : goal.returns-clause-there
returns-clause-there c there = let w = c.self.inside in
    let all : c.loop-cpu.cpu ≡ w.config.processors = (let x = c.loop-cpu.auto in let y = c.loop-cpu-test.false in omega arith) in
    subst (λ (e : ClosedState). Some c.loop-cpu.sum ≡
    Some (total e.config.processors (λ p. slice_index e.words (stride * place (count_word c.args.gate p))) % 18446744073709551616)) c.self.view_is
    (ap (λ (v : ℕ). Some v) (c.loop-cpu.invariant ∙
    ap (λ (n : ℕ). total n (λ p. slice_index (slots_items w.closed.words) (stride * place (count_word c.args.gate p))) % 18446744073709551616) all))

pub returns-then-not-has_word-clause-there : goal.returns-then-not-has_word-clause-there
returns-then-not-has_word-clause-there c there = let w = c.self.inside in
    let gate : IsGate w.config c.args.gate = subst (λ (e : ClosedState). IsGate e.config c.args.gate) (sym c.self.view_is) there in
    let word : IsWord (extents_of w.config) c.count_of.result =
    subst (λ (n : WordName). IsWord (extents_of w.config) n) (sym c.count_of.ensures) (has_count w.config c.self.invariant.0 c.args.gate gate) in
    absurd (true≢false (sym (c.if-not-has_word.ensures.1 word)))

pub returns-clause-not_there : goal.returns-clause-not_there
returns-clause-not_there c not_there = let w = c.self.inside in
    let word : IsWord (extents_of w.config) (count_word c.args.gate 0) =
    subst (λ (n : WordName). IsWord (extents_of w.config) n) c.count_of.ensures (c.if-not-has_word.ensures.0 refl) in
    absurd (not_there (subst (λ (e : ClosedState). IsGate e.config c.args.gate) c.self.view_is (is_gate w.config c.args.gate word)))

pub returns-then-not-has_word-clause-mounts : goal.returns-then-not-has_word-clause-mounts
returns-then-not-has_word-clause-mounts c m is lt = let w = c.self.inside in
    let gate : IsGate w.config c.args.gate = subst (λ (g : Gate). IsGate w.config g) (sym is)
    (subst (λ (e : ClosedState). m < e.config.mounts) (sym c.self.view_is) lt) in
    let word : IsWord (extents_of w.config) c.count_of.result =
    subst (λ (n : WordName). IsWord (extents_of w.config) n) (sym c.count_of.ensures) (has_count w.config c.self.invariant.0 c.args.gate gate) in
    absurd (true≢false (sym (c.if-not-has_word.ensures.1 word)))

pub returns-then-not-has_word-clause-levels : goal.returns-then-not-has_word-clause-levels
returns-then-not-has_word-clause-levels c i is l1 l3 = let w = c.self.inside in
    let gate : IsGate w.config c.args.gate = subst (λ (g : Gate). IsGate w.config g) (sym is) (l1, l3) in
    let word : IsWord (extents_of w.config) c.count_of.result =
    subst (λ (n : WordName). IsWord (extents_of w.config) n) (sym c.count_of.ensures) (has_count w.config c.self.invariant.0 c.args.gate gate) in
    absurd (true≢false (sym (c.if-not-has_word.ensures.1 word)))

pub word_of-sum-requires-clause-inside : goal.word_of-sum-requires-clause-inside
word_of-sum-requires-clause-inside c = let w = c.self.inside in let name = c.count_of-in-loop-cpu.result in
    let word : IsWord (extents_kept w.config) name = subst (λ (n : WordName). IsWord (extents_kept w.config) n) (sym c.count_of-in-loop-cpu.ensures)
    (counts_on w.config c.args.gate (subst (λ (n : WordName). IsWord (extents_of w.config) n) c.count_of.ensures (c.if-not-has_word.ensures.0 refl))
    c.loop-cpu.cpu c.loop-cpu-test.true) in
    subst (λ (n : ℕ). table_index (place name) < n) (sym c.self.invariant.2) (lies_inside w.config c.self.invariant.0 name word)

pub loop-cpu-preserved : goal.loop-cpu-preserved
loop-cpu-preserved c = let ws = slots_items c.self.inside.closed.words in
    let count : ℕ → ℕ = λ p. slice_index ws (stride * place (count_word c.args.gate p)) in
    let counted : c.word_of-sum.result ≡ count c.loop-cpu.cpu =
    c.word_of-sum.ensures ∙ ap (λ (n : WordName). slice_index ws (stride * place n)) c.count_of-in-loop-cpu.ensures in
    counts_one_more count c.loop-cpu.cpu c.loop-cpu.sum c.word_of-sum.result c.loop-cpu.invariant counted
