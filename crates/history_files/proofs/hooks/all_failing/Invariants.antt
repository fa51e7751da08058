use Rattle.std.proofs.Common.{◌≡◌, ◌-◌}
use Rattle.history_files.specs.Records.{failing_from}
use Rattle.history_files.proofs.hooks.all_failing.Given as goal

-- the operations so far, and those that are left, are all
abbrev pub invariant-loop-turn : goal.invariant-loop-turn
invariant-loop-turn l = failing_from 8 0 l.failure l.initial.row ≡ failing_from (8 - l.turn) l.turn l.failure l.row
