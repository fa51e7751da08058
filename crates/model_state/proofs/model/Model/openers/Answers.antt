-- the loop has counted all tasks of the list
use Rattle.std.proofs.Common.{ap, arith, length, ◌∙◌, ◌≡◌, ◌≤◌}
use Rattle.{access_model.specs.States.one_if, finite_sums.specs.Sums.total}
use Rattle.model_state.{proofs.Openers.openers_in, specs.Shown.{bounded_state_of, opens_of}}
use Rattle.model_state.proofs.model.Model.openers.Goals as goal

pub returns : goal.returns
unfolding bounded_state_of
returns c =
    let m = c.args.self.now in
    let few : length m.accesses.items ≤ 64 = omega (arith, m.few_tasks, m.each_task, m.accesses.ok.0) in
    let all : c.loop-held.held-index ≡ length m.accesses.items =
    omega (arith, c.loop-held-test.false, c.loop-held.auto.held-index-end, ap length c.deref-held-items.ensures.value) in
    c.loop-held.invariant.sums ∙ ap (λ k. total k (λ t. one_if (opens_of m.accesses.items t c.args.node))) all ∙
    openers_in m.accesses.items c.args.node few
