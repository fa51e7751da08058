use Rattle.std.proofs.Common.{◌≡◌, ◌++◌, ◌∙◌, sym, subst}
use Rattle.std.specs.Prelude.{OnOk, Result}
use Rattle.access_model.specs.declared.errors.GateError.{GateError}
use Rattle.schedule_lines.specs.Printing.{refused_line}
use Rattle.schedule_lines.proofs.Printed.{printed_if_whole}
use Rattle.transcripts.specs.Transcript.{begin_text}
use Rattle.transcripts.proofs.session.Session.begin.Goals as goal

pub returns-in-Err-clause-prints : goal.returns-in-Err-clause-prints
returns-in-Err-clause-prints g c p h =
    let old = c.args.out.now.bytes.items in
    let new = c.refused_line.new.self.bytes.items in
    let x = c.try_begin.ensures.answer p h in
    let k : OnOk c.settled.result (new ≡ old ++ refused_line c.args.task c.in-Err.refusal) =
    printed_if_whole c.settled.result c.refused_line.ensures c.settled.ensures.whole in
    subst (λ (r : Result (Unit {0}) GateError). OnOk c.settled.result (new ≡ old ++ begin_text c.args.task r)) (sym c.in-Err.is ∙ x) k
