use Rattle.std.proofs.Common.{◌≡◌, ◌-◌, ◌≤◌, length}
use Rattle.history_files.specs.Files.{history_from}
use Rattle.history_files.proofs.files.find_history.Given as goal

-- no line so far is `history`
abbrev pub invariant-loop-done : goal.invariant-loop-done
invariant-loop-done l = record {
  from : history_from 1048576 0 0 l.bytes ≡ history_from (1048576 - l.done) l.done l.at l.bytes;
  within : l.at ≤ length l.bytes;
}
