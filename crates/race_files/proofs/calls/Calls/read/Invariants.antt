use Rattle.std.proofs.Common.{◌≡◌, length}
use Rattle.race_files.specs.{Calls.{calls_of}, FirstFaults.{AreCalled}, Left.{calls_left, left_in, line_count}}
use Rattle.race_files.proofs.calls.Calls.read.Given as goal

-- There are as many tasks as before, and what all lines call is what those that are left do after the calls so far. The lines before them call those.
abbrev pub invariant-loop-calls : goal.invariant-loop-calls
invariant-loop-calls l =
    (l.calls.race.tasks ≡ l.tasks) ×
    (calls_left l.tasks (left_in l.initial.lines) ≡ calls_of l.tasks (left_in l.lines).fault (left_in l.lines).lines l.calls.race.calls.items) ×
    AreCalled l.tasks (left_in l.initial.lines) (left_in l.lines) l.calls.race.calls.items ×
    (line_count l.lines ≡ line_count l.initial.lines)

abbrev pub decreases-loop-calls : goal.decreases-loop-calls
decreases-loop-calls l = length (left_in l.lines).lines
