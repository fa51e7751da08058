use Rattle.std.proofs.Common.{ap, arith, is_some, length, sym, ◌∙◌, ◌≡◌}
use Rattle.exploration.proofs.Lists.{err_from}
use Rattle.history_files.{proofs.Begins.{begins, row_fails, under_way}, specs.Readings.read_in}
use Rattle.history_files.proofs.records.Record.read_begin.Goals as goal

pub returns-in_err-row-clause-fault : goal.returns-in_err-row-clause-fault
returns-in_err-row-clause-fault c =
    err_from _ c.in_err-row.field-0.0 _ c.from_residual.ensures.1
    (row_fails (read_in c.args.self.now) c.args.number c.args.self.now.tasks c.args.task c.args.line.now c.in-Ok.operations.lines.bytes.items c.in-Ok.ensures
    c.in_err-row.field-0.0 c.in_err-row.ensures.fault)

pub returns-then-is_some-clause-fault : goal.returns-then-is_some-clause-fault
returns-then-is_some-clause-fault c =
    under_way (read_in c.args.self.now) c.args.number c.args.self.now.tasks c.args.task c.args.line.now c.in-Ok.operations.lines.bytes.items c.in-Ok.ensures
    c.in_ok-row.row c.in_ok-row.ensures.read (ap is_some (sym c.begun_at.ensures) ∙ (sym c.is_some.ensures ∙ c.if-is_some.true))

pub returns-clause-read : goal.returns-clause-read
returns-clause-read c =
    let there : c.len-at.result ≡ length c.args.self.now.markers.items = omega (arith, c.len-at.ensures, c.args.self.now.markers.ok.0) in
    begins (read_in c.args.self.now) c.args.number c.args.self.now.tasks c.args.task c.args.line.now c.in-Ok.operations.lines.bytes.items c.in-Ok.ensures
    c.in_ok-row.row c.in_ok-row.ensures.read c.add.result c.len-at.result (read_in c.add.new.self)
    (ap is_some (sym c.begun_at.ensures) ∙ (sym c.is_some.ensures ∙ c.if-is_some.false)) there c.add.ensures.read
