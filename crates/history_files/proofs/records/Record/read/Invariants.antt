use Rattle.std.proofs.Common.{◌≡◌, ◌+◌, length}
use Rattle.history_files.specs.{Faults.{AreRecorded}, Readings.{read_in}, Records.{reading_left, reading_of}}
use Rattle.race_files.specs.Left.{left_in, line_count}
use Rattle.history_files.proofs.records.Record.read.Given as goal

-- There are as many tasks as before; what all lines record is what those that are left do after the lines so far, which record what was read.
abbrev pub invariant-loop-reading : goal.invariant-loop-reading
invariant-loop-reading l = record {
  tasks : l.reading.tasks ≡ l.tasks;
  read : reading_left l.tasks (l.history + 1) (left_in l.initial.lines) ≡
      reading_of l.tasks (left_in l.lines).fault (l.history + 1 + l.lines.done) (left_in l.lines).lines (read_in l.reading);
  recorded : AreRecorded l.tasks (l.history + 1) (left_in l.initial.lines) (left_in l.lines) (read_in l.reading);
  count : line_count l.lines ≡ line_count l.initial.lines;
}

abbrev pub decreases-loop-reading : goal.decreases-loop-reading
decreases-loop-reading l = length (left_in l.lines).lines
