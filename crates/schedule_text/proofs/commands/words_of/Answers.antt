use Rattle.std.proofs.Common.{ap, arith, length, rules, sym, ◌+◌, ◌∙◌}
use Rattle.schedule_lines.specs.Words.{word_count}
use Rattle.schedule_text.proofs.Counting.{few_words, one_word, one_word_more}
use Rattle.schedule_text.proofs.commands.words_of.Goals as goal

pub overflow_add-result : goal.overflow_add-result
overflow_add-result c =
    let few = few_words c.args.after.now in
    let is = c.word_count.ensures in
    search (rules, few, is)

pub returns-then-first-text-clause-count : goal.returns-then-first-text-clause-count
returns-then-first-text-clause-count c =
    sym (one_word c.args.text.now (sym (ap (λ l. length l) c.requires.first) ∙ c.if-first-text.true))

pub returns-else-first-text-clause-count : goal.returns-else-first-text-clause-count
returns-else-first-text-clause-count c =
    ap (λ n. 1 + n) (c.word_count.ensures ∙ ap word_count c.requires.after)
    ∙ sym (one_word_more c.args.text.now (λ same. c.if-first-text.false (ap (λ l. length l) c.requires.first ∙ same)))

pub returns-else-first-text-clause-few : goal.returns-else-first-text-clause-few
returns-else-first-text-clause-few c =
    let more = one_word_more c.args.text.now (λ same. c.if-first-text.false (ap (λ l. length l) c.requires.first ∙ same)) in
    let count = c.word_count.ensures ∙ ap word_count c.requires.after in
    omega (arith, more, count, few_words c.args.text.now)
