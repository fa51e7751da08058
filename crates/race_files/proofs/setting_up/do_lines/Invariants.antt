use Rattle.std.proofs.Common.{Some, length, ◌≡◌}
use Rattle.{gate_core.specs.Drivers.CoreShows, transcripts.specs.{Sessions.ShowsPlay, Transcript.ReplayState}}
use Rattle.race_files.specs.{Left.{AreLeftOf, left_in, line_count}, Observed.ShowsLines, SettingUp.SetsUp}
use Rattle.race_files.proofs.setting_up.do_lines.Given as goal

-- some lines were taken, and the session shows what they make
abbrev pub invariant-loop-line : goal.invariant-loop-line
invariant-loop-line g l = record {
  left : AreLeftOf (left_in l.initial.lines) (left_in l.lines);
  count : line_count l.lines ≡ line_count l.initial.lines;
  made : (p : ReplayState) → ShowsPlay CoreShows l.initial.session p →
      (q : ReplayState) × SetsUp (Some p) (Some q) (left_in l.initial.lines) (left_in l.lines) × ShowsPlay CoreShows l.session q ×
      ShowsLines g.W.SetUpObserver.takes (line_count l.initial.lines) (Some p) (Some q) (left_in l.initial.lines) (left_in l.lines)
      (l.initial.watch, l.initial.printed) (l.watch, l.printed);
}

abbrev pub decreases-loop-line : goal.decreases-loop-line
decreases-loop-line g l = length (left_in l.lines).lines
