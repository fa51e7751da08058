-- the plan is what was asked for
use Rattle.gate_runs.proofs.Prelude.{None, Option, Plan, err_from_is_err_and, refl, subst, ℕ, ◌≡◌}
use Rattle.{access_model.specs.declared.errors.GateError.TheVariants.Invalid, run_plans.specs.Meetings.unseen}
use Rattle.gate_runs.specs.{Refusals.RunRefused, Told.TellsRun}
use Rattle.gate_runs.proofs.runs.run_with.Goals as goal

-- what is said of a plan's numbers is said of those that were asked for
as_asked : (Says : ℕ → ℕ → ℕ → ℕ → Type 0) (plan : Plan) (tasks processors rounds freezes : ℕ) →
    (plan.tasks ≡ tasks) × (plan.processors ≡ processors) × (plan.rounds ≡ rounds) × (plan.freezes ≡ freezes) →
    Says plan.tasks plan.processors plan.rounds plan.freezes → Says tasks processors rounds freezes
as_asked Says plan tasks processors rounds freezes asked says =
    subst (λ n. Says tasks processors rounds n) asked.3
    (subst (λ n. Says tasks processors n plan.freezes) asked.2
    (subst (λ n. Says tasks n plan.rounds plan.freezes) asked.1
    (subst (λ n. Says n plan.processors plan.rounds plan.freezes) asked.0 says)))

pub returns-clause-tells : goal.returns-clause-tells
returns-clause-tells g c =
    let answer = c.in_ok-totals in
    let Tells : Option ℕ → ℕ → ℕ → ℕ → ℕ → Type 0 = λ patience tasks processors rounds freezes.
    TellsRun (g.M.Meeting.held c.args.meeting.now) unseen tasks processors rounds freezes patience answer.totals answer._details answer.closed in
    let plan = c.in_ok-plan.plan in (
      answer._details,
      as_asked (Tells None) plan c.args.tasks c.args.processors c.args.rounds c.args.freezes c.in_ok-plan.ensures.asked
          (subst (λ p. Tells p plan.tasks plan.processors plan.rounds plan.freezes) c.in_ok-plan.ensures.patience answer.ensures.tells),
    )

pub returns-in_err-totals-clause-refused : goal.returns-in_err-totals-clause-refused
returns-in_err-totals-clause-refused g c = λ within.
    let p = err_from_is_err_and c.from_residual-in_err-totals.result c.from_residual-in_err-totals.ensures.1 in
    rw (p.1, p.2) (as_asked (λ tasks processors rounds freezes. RunRefused tasks processors rounds c.in_err-totals.field-0.0)
    c.in_ok-plan.plan c.args.tasks c.args.processors c.args.rounds c.args.freezes c.in_ok-plan.ensures.asked c.in_err-totals.ensures.refused)

pub returns-clause-within : goal.returns-clause-within
returns-clause-within g c = c.in_ok-plan.ensures.within

pub returns-clause-invalid : goal.returns-clause-invalid
returns-clause-invalid g c = λ not. absurd (not c.in_ok-plan.ensures.within)

pub returns-in_err-plan-clause-within : goal.returns-in_err-plan-clause-within
returns-in_err-plan-clause-within g c = let p = err_from_is_err_and c.from_residual.result c.from_residual.ensures.1 in rw p.1 tt

pub returns-in_err-plan-clause-invalid : goal.returns-in_err-plan-clause-invalid
returns-in_err-plan-clause-invalid g c = λ not.
    let p = err_from_is_err_and c.from_residual.result c.from_residual.ensures.1 in rw (p.1, p.2, c.in_err-plan.ensures.refused.0) refl

pub returns-in_err-plan-clause-refused : goal.returns-in_err-plan-clause-refused
returns-in_err-plan-clause-refused g c = λ within. absurd (c.in_err-plan.ensures.refused.1 within)

pub returns-in_err-plan-clause-tells : goal.returns-in_err-plan-clause-tells
returns-in_err-plan-clause-tells g c = let p = err_from_is_err_and c.from_residual.result c.from_residual.ensures.1 in rw p.1 tt

pub returns-in_err-totals-clause-within : goal.returns-in_err-totals-clause-within
returns-in_err-totals-clause-within g c =
    let p = err_from_is_err_and c.from_residual-in_err-totals.result c.from_residual-in_err-totals.ensures.1 in rw p.1 tt

pub returns-in_err-totals-clause-invalid : goal.returns-in_err-totals-clause-invalid
returns-in_err-totals-clause-invalid g c = λ not. absurd (not c.in_ok-plan.ensures.within)

pub returns-in_err-totals-clause-tells : goal.returns-in_err-totals-clause-tells
returns-in_err-totals-clause-tells g c =
    let p = err_from_is_err_and c.from_residual-in_err-totals.result c.from_residual-in_err-totals.ensures.1 in rw p.1 tt

pub returns-in_err-plan-clause-in_order : goal.returns-in_err-plan-clause-in_order
returns-in_err-plan-clause-in_order g c =
    let p = err_from_is_err_and c.from_residual.result c.from_residual.ensures.1 in
    let is : c.in_err-plan.field-0.0 ≡ Invalid = c.in_err-plan.ensures.refused.0 in
    rw (p.1, p.2, is) ((λ same. let f : ⊥ = cc in f), (λ same. let f : ⊥ = cc in f))

pub returns-in_err-totals-clause-in_order : goal.returns-in_err-totals-clause-in_order
returns-in_err-totals-clause-in_order g c =
    let p = err_from_is_err_and c.from_residual-in_err-totals.result c.from_residual-in_err-totals.ensures.1 in
    rw (p.1, p.2) (c.in_err-totals.ensures.in_order.0, c.in_err-totals.ensures.in_order.1)

-- within the limits it isn't Invalid
pub returns-in_err-plan-clause-frozen : goal.returns-in_err-plan-clause-frozen
returns-in_err-plan-clause-frozen g c = λ within. absurd (c.in_err-plan.ensures.refused.1 within)

pub returns-in_err-totals-clause-frozen : goal.returns-in_err-totals-clause-frozen
returns-in_err-totals-clause-frozen g c = λ within.
    let p = err_from_is_err_and c.from_residual-in_err-totals.result c.from_residual-in_err-totals.ensures.1 in
    rw (p.1, p.2) c.in_err-totals.ensures.in_order.2
