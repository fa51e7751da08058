use Rattle.std.proofs.Common.{◌≡◌, ◌≤◌, ap, List, length, arith}
use Rattle.histories.specs.declared.markers.Marker.{Marker}
use Rattle.history_files.proofs.validating.judge_file.Goals as goal

pub returns-in-Ok-verdict_of-clause-possible : goal.returns-in-Ok-verdict_of-clause-possible
returns-in-Ok-verdict_of-clause-possible g c = λ all.
    let same : length c.in-Ok-verdict_of.verdict.history.markers.items ≡ length c.in-Ok.file.markers.items =
    ap (λ (m : List Marker). length m) c.in-Ok-verdict_of.ensures.markers in
    let enough : length c.in-Ok.file.markers.items ≤ c.in-Ok-verdict_of.verdict.judged.passed = omega (arith, all, same) in
    record {
      core = _;
      markers = _;
      lines = _;
      history = c.in-Ok.ensures.history;
      possible = c.in-Ok-verdict_of.ensures.possible enough;
    }
