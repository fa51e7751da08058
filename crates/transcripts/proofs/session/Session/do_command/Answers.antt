use Rattle.std.proofs.Common.{◌≡◌, ℕ, List, ◌++◌, ◌∙◌, ap, sym, subst}
use Rattle.std.specs.Prelude.{OnOk}
use Rattle.gate_transitions.specs.{Answers.{step_answer}, declared.steps.Step.{Step}}
use Rattle.schedule_text.specs.declared.commands.TaskCommand.{TaskCommand}
use Rattle.schedule_lines.proofs.Printed.{printed_if_whole}
use Rattle.transcripts.specs.{Printing.{step_text}, Transcript.{command_outcome}}
use Rattle.transcripts.proofs.Showing.{same_step}
use Rattle.transcripts.proofs.session.Session.do_command.Goals as goal

pub returns-in_ok-step-in-Step-clause-prints : goal.returns-in_ok-step-in-Step-clause-prints
returns-in_ok-step-in-Step-clause-prints g c p h =
    let t = c.args.task in
    let step = c.in_ok-step-in-Step.step in
    let old = c.args.out.now.bytes.items in
    let new = c.print_step.new.out.bytes.items in
    let k : OnOk c.settled.result (new ≡ old ++ step_text t step c.used.result) =
    printed_if_whole {text = step_text t step c.used.result} c.settled.result c.print_step.ensures c.settled.ensures.whole in
    let same = same_step step _ (c.in_ok-step-in-Step.ensures.answer p h) in
    let used = c.used.ensures _ (c.in_ok-step-in-Step.ensures.shows p h) in
    let e = ap (λ (s : Step). step_text t s c.used.result) same
    ∙ ap (λ (u : ℕ). step_text t (step_answer p.config p.world t c.in-Step.hook) u) used
    ∙ ap (λ (command : TaskCommand). (command_outcome p t command).printed) (sym c.in-Step.is) in
    subst (λ (text : List ℕ). OnOk c.settled.result (new ≡ old ++ text)) e k
