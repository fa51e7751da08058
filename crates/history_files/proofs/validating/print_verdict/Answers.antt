use Rattle.std.proofs.Common.{length}
use Rattle.history_files.proofs.PrintedVerdicts.{tells}
use Rattle.history_files.proofs.validating.print_verdict.Goals as goal

pub returns-in-Ok-clause-told : goal.returns-in-Ok-clause-told
returns-in-Ok-clause-told c =
    let verdict = c.in_ok-notes.field-0.verdict in
    tells c.args.bytes.now c.in_ok-notes.field-0.notes.lines.items verdict.judged.passed (length verdict.history.markers.items) c.args.printed.now
    c.put_verdict.new.text c.in_ok-notes.ensures.possible c.in_ok-notes.ensures.impossible c.put_verdict.ensures.possible
    c.put_verdict.ensures.impossible
