use Rattle.std.proofs.Common.{true, ◌++◌, ◌-◌, ◌≡◌}
use Rattle.history_files.specs.{Operations.shown_words, declared.operations.Behind.TheVariants.Nothing}
use Rattle.history_files.proofs.operations.put_words.Given as goal

-- the words so far, and those that are left, are all words
abbrev pub invariant-loop-taken : goal.invariant-loop-taken
invariant-loop-taken l = record {
  whole : l.lines.is_whole ≡ true → l.initial.lines.is_whole ≡ true;
  printed : l.lines.is_whole ≡ true →
      l.lines.bytes.items ++ shown_words l.task (l.count - l.taken) l.behind l.rest ≡ l.initial.lines.bytes.items ++ shown_words l.task l.count Nothing l.words;
}
