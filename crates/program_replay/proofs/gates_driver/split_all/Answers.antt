-- A split leaves its task at the same gates with the next numbers to give, and the new one comes from them too; it is refused for memory.
use Rattle.std.proofs.{Common.{arith, ◌∙◌}, lemmas.{List.Elements.All-push, Result.err_from_is_err_and}}
use Rattle.vfs_gates.{proofs.Splitting.{gives_on, has_next, numbered_more, refused_for_memory}, specs.TaskStates.IsFrom}
use Rattle.program_replay.{proofs.Opening.{new_given, new_kept}, specs.Shown.IsNew}
use Rattle.program_replay.proofs.gates_driver.split_all.Goals as goal

pub returns-in_err-other-clause-memory : goal.returns-in_err-other-clause-memory
returns-in_err-other-clause-memory c =
    let p = err_from_is_err_and c.from_residual.result c.from_residual.ensures.1 in
    let refused = c.in_err-other.ensures.refused.1 in
    rw (p.1, p.2) (refused_for_memory _ _ _ _ c.loop-number.invariant.gives c.loop-number-test.true refused)

pub loop-number-preserved : goal.loop-number-preserved
loop-number-preserved c =
    let before = c.loop-number.invariant in
    let split = c.in_ok-other.ensures in
    let next = has_next _ _ _ _ _ before.gives c.loop-number-test.true split.made in
    record {
      first = (c.split.ensures.table ∙ before.first.0, c.split.ensures.config ∙ before.first.1);
      new = new_kept _ _ _ before.new split.made.kept;
      others = rw c.in-Ok.ensures.items (All-push (λ task. IsFrom task c.args.gates.now) _ _ before.others split.from);
      news = rw c.in-Ok.ensures.items (All-push IsNew _ _ before.news (new_given _ _ _ before.new split.made.given));
      gives = gives_on _ _ _ _ _ before.gives c.loop-number-test.true split.made;
      numbers = rw c.in-Ok.ensures.items (numbered_more 1 _ _ before.numbers (omega (arith, next, before.count)));
      count = omega (arith, c.in-Ok.ensures.len, before.count);
    }
