use Rattle.std.proofs.Common.{List, ap, subst, ℕ, ◌++◌, ◌+◌, ◌-◌, ◌∙◌, ◌≡◌}
use Rattle.schedule_lines.specs.{Printed.Prints, Words.first_word}
use Rattle.history_files.{proofs.Words.{no_word, one_word}, specs.Operations.{behind_next, shown_words, word_text}}
use Rattle.history_files.specs.declared.operations.Behind.{Behind}
use Rattle.history_files.proofs.operations.put_words.Goals as goal

pub loop-taken-preserved : goal.loop-taken-preserved
loop-taken-preserved c =
    let more = c.args.count - (c.loop-taken.taken + 1) in
    let word : c.first_word-word.result.now ≡ first_word c.loop-taken.rest.now = c.first_word-word.ensures in
    let prints = subst (λ (w : List ℕ). Prints c.loop-taken.lines c.put_word.new.lines (word_text c.args.task.now c.loop-taken.behind w)) word
    c.put_word.ensures in
    record {
      whole = λ whole. c.loop-taken.invariant.whole (c.put_word.ensures.whole whole);
      printed = λ whole.
          ap (λ (behind : Behind). c.put_word.new.lines.bytes.items ++ shown_words c.args.task.now more behind c.after_word-rest.result.now)
          (c.behind_next-behind.ensures ∙ ap (behind_next c.loop-taken.behind) word) ∙
          (ap (λ (rest : List ℕ). c.put_word.new.lines.bytes.items ++
          shown_words c.args.task.now more (behind_next c.loop-taken.behind (first_word c.loop-taken.rest.now)) rest) c.after_word-rest.ensures ∙
          one_word c.args.task.now c.args.count c.loop-taken.taken c.loop-taken.behind c.loop-taken.rest.now _ c.loop-taken.lines c.put_word.new.lines
          c.loop-taken-test.true prints c.loop-taken.invariant.printed whole);
    }

pub returns : goal.returns
returns c = record {
  whole = c.loop-taken.invariant.whole;
  printed = λ whole. no_word c.args.task.now c.args.count c.loop-taken.taken c.loop-taken.behind c.loop-taken.rest.now _ _ c.loop-taken-test.false
      (c.loop-taken.invariant.printed whole);
}
