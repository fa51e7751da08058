use Rattle.std.proofs.Common.{◌≡◌, length, None}
use Rattle.race_files.specs.{Left.{AreLeftOf, left_in, line_count}, SettingUp.{SetsUp}}
use Rattle.race_files.proofs.setting_up.open.Given as goal

-- some lines were taken, which make no play
abbrev pub invariant-loop-line : goal.invariant-loop-line
invariant-loop-line l = record {
  left : AreLeftOf (left_in l.initial.lines) (left_in l.lines);
  count : line_count l.lines ≡ line_count l.initial.lines;
  made : SetsUp None None (left_in l.initial.lines) (left_in l.lines);
}

abbrev pub decreases-loop-line : goal.decreases-loop-line
decreases-loop-line l = length (left_in l.lines).lines
