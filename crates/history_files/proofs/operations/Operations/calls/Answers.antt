use Rattle.std.proofs.Common.{ap, ◌∙◌}
use Rattle.race_files.{proofs.FirstFaults.fault_weaker, specs.Left.{left_in, lines_in}}
use Rattle.history_files.proofs.Calls.{fails_told}
use Rattle.history_files.proofs.operations.Operations.calls.Goals as goal

pub returns-clause-fault : goal.returns-clause-fault
returns-clause-fault c =
    fault_weaker c.read.result _ _
    (fails_told c.args.tasks (left_in c.new.result) (left_in c.read.new.lines) (lines_in 1048576 c.args.self.now.lines.bytes.items)
    (c.new.ensures.lines ∙ ap (lines_in 1048576) c.as_slice.ensures.value))
    c.read.ensures.fault
