use Rattle.std.proofs.Common.{IfSome, Ok, ap, inl, refl, subst, sym, ◌∙◌, ◌∷◌, ◌≡◌}
use Rattle.{exploration.proofs.Lists.err_from, transcripts.proofs.Opening.answer_mapped}
use Rattle.race_files.{proofs.Reading.{at_end, at_line, end_fails, line_fails, none_called, one_called}, specs.Calls.{calls_of, no_calls}}
use Rattle.race_files.specs.{Left.{Left, behind, left_in}, declared.faults.RaceFault.TheVariants.Schedule}
use Rattle.race_files.proofs.calls.Calls.read.Goals as goal

pub loop-calls-init : goal.loop-calls-init
loop-calls-init c =
    let left = left_in c.args.lines.now in
    let none = answer_mapped c.new.result c.map_err.result c.in_ok-calls.calls (λ calls. calls.race.calls.items ≡ no_calls c.args.tasks) _
    c.new.ensures.none c.map_err.ensures.cases c.map_err.ensures.variant c.in_ok-calls.was in
    let tasks = answer_mapped c.new.result c.map_err.result c.in_ok-calls.calls (λ calls. calls.race.tasks ≡ c.args.tasks) _
    c.new.ensures.tasks c.map_err.ensures.cases c.map_err.ensures.variant c.in_ok-calls.was in
    (tasks, ap (calls_of c.args.tasks left.fault left.lines) (sym none), none_called _ _ _ none, refl)

pub returns-in_err-line-clause-fault : goal.returns-in_err-line-clause-fault
returns-in_err-line-clause-fault c =
    err_from _ (Schedule c.in_err-line.field-0.0) _ c.from_residual-in_err-line.ensures.1
    (inl (end_fails _ _ _ _ c.in_err-line.field-0.0 c.loop-calls.invariant.2 c.in_err-line.ensures.fault))

pub returns-in_err-read_line-clause-fault : goal.returns-in_err-read_line-clause-fault
returns-in_err-read_line-clause-fault c =
    let left = left_in c.loop-calls.lines in
    let first : left.lines ≡ c.in-Some.line.now ∷ (behind left).lines =
    subst (λ found. IfSome found (λ line. left.lines ≡ line.now ∷ (behind left).lines)) c.in-Some.is c.in_ok-line.ensures.some in
    err_from _ c.in_err-read_line.field-0.0 _ c.from_residual-in_err-read_line.ensures.1
    (line_fails _ _ _ left _ _ _ c.loop-calls.invariant.2 c.loop-calls.invariant.0 first c.in_err-read_line.ensures.fault)

pub loop-calls-preserved : goal.loop-calls-preserved
loop-calls-preserved c =
    let left = left_in c.loop-calls.lines in
    let more = c.read_line.new.self.race.calls.items in
    let first : left.lines ≡ c.in-Some.line.now ∷ (behind left).lines =
    subst (λ found. IfSome found (λ line. left.lines ≡ line.now ∷ (behind left).lines)) c.in-Some.is c.in_ok-line.ensures.some in (
      c.in_ok-read_line.ensures.tasks ∙ c.loop-calls.invariant.0,
      c.loop-calls.invariant.1 ∙ at_line _ _ _ _ _ (Ok more) c.loop-calls.invariant.0 first c.in_ok-read_line.ensures.read
          ∙ sym (ap (λ (x : Left). calls_of c.args.tasks x.fault x.lines more) c.take.ensures.left),
      one_called _ _ _ left _ _ more _ c.loop-calls.invariant.2 c.loop-calls.invariant.0 first c.take.ensures.left c.in_ok-read_line.ensures.read,
      c.take.ensures.count ∙ c.loop-calls.invariant.3,
    )

pub returns-clause-read : goal.returns-clause-read
returns-clause-read c = c.loop-calls.invariant.1 ∙ at_end _ _ _ _ (c.in_ok-line.ensures.none (ap Ok c.in_default.is))
