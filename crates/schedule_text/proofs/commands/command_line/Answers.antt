use Rattle.std.proofs.Common.{ap, length, rules, sym, ◌+◌, ◌∙◌, ◌≡◌}
use Rattle.schedule_lines.specs.Words.{first_word, word_count}
use Rattle.schedule_text.{proofs.Counting.{is_more, is_one_word, one_word_more}, specs.Parsing.command_line}
use Rattle.schedule_text.proofs.commands.command_line.Goals as goal

pub returns-then-first-line : goal.returns-then-first-line
unfolding command_line
returns-then-first-line c =
    let one = is_one_word c.args.line.now (sym (ap (λ l. length l) c.split_word.ensures.first) ∙ c.if-first-line.true) in
    search (rules, one)

pub returns-else-first-line : goal.returns-else-first-line
unfolding command_line
returns-else-first-line c =
    let part : ¬ (length (first_word c.args.line.now) ≡ length c.args.line.now) = λ same. c.if-first-line.false (ap (λ l. length l) c.split_word.ensures.first ∙ same) in
    let more = is_more c.args.line.now part in
    let count = one_word_more c.args.line.now part ∙ ap (λ l. 1 + word_count l) (sym c.split_word.ensures.after) in
    let is = c.task_line.ensures c.args.line.now c.split_word.ensures.first c.split_word.ensures.after count in
    search (rules, more, is)
