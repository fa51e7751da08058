-- one refusal more, or done
use Rattle.gate_runs.proofs.Prelude.{Err, IsRefused, Ok, Performs, ReadOnly, Waits, WantWrite, ap, rules, subst, ◌+◌, ◌-◌, ◌∙◌, ◌≡◌}
use Rattle.gate_runs.proofs.{Answering.{is_inside, rests_refused}, Repeating.{counted_more, one_more, taken}}
use Rattle.std.proofs.Common.{min, ◌^◌}
use Rattle.gate_runs.proofs.workers.want_write.Goals as goal

pub want_write-answer-requires : goal.want_write-answer-requires
want_write-answer-requires g c = c.loop.invariant.0

pub returns-in-Ok-clause-from : goal.returns-in-Ok-clause-from
returns-in-Ok-clause-from g c =
    (c.want_write-answer.ensures.table ∙ c.loop.invariant.0.0, c.want_write-answer.ensures.config ∙ c.loop.invariant.0.1)

pub loop-preserved : goal.loop-preserved
loop-preserved g c =
    let before = c.loop.invariant in
    let refused : c.want_write-answer.result ≡ Err ReadOnly = search rules in (
      (c.want_write-answer.ensures.table ∙ before.0.0, c.want_write-answer.ensures.config ∙ before.0.1),
      rests_refused (WantWrite 0 c.args.cpu) ReadOnly c.loop.task c.want_write-answer.new.self before.1
          (subst (Performs (WantWrite 0 c.args.cpu) c.loop.task c.want_write-answer.new.self) refused c.want_write-answer.ensures),
      before.2 + 1,
      one_more (λ k. Waits (IsRefused (WantWrite 0 c.args.cpu) ReadOnly)) before.2 _ _ _ before.3
          (subst (Performs (WantWrite 0 c.args.cpu) c.loop.task c.want_write-answer.new.self) refused c.want_write-answer.ensures, c.with_waits-waits.ensures),
      c.saturating_add-denied.ensures ∙ (ap (λ n. min (n + 1) (2 ^ 64 - 1)) before.4 ∙ counted_more before.2),
    )

pub returns-in-Ok-clause-took : goal.returns-in-Ok-clause-took
returns-in-Ok-clause-took g c =
    let before = c.loop.invariant in
    let done : c.want_write-answer.result ≡ Ok tt = search rules in
    taken c.args.cpu (c.args.task.now, c.args.so_far) (c.loop.task, c.loop.waits) (c.want_write-answer.new.self, c.with_waits-waits.result)
    before.2 c.loop.denied before.3
    (subst (Performs (WantWrite 0 c.args.cpu) c.loop.task c.want_write-answer.new.self) done c.want_write-answer.ensures, c.with_waits-waits.ensures) before.4

pub returns-in-Ok-clause-inside : goal.returns-in-Ok-clause-inside
returns-in-Ok-clause-inside g c =
    let done : c.want_write-answer.result ≡ Ok tt = search rules in
    is_inside c.args.cpu c.loop.task c.want_write-answer.new.self c.loop.invariant.1
    (subst (Performs (WantWrite 0 c.args.cpu) c.loop.task c.want_write-answer.new.self) done c.want_write-answer.ensures)
