-- Every task comes from the gates.
use Rattle.std.proofs.{Common.◌∙◌, lemmas.List.Elements.All-push}
use Rattle.vfs_gates.specs.TaskStates.{IsFrom}
use Rattle.bench_gates.proofs.at_gates.split_off.Goals as goal

-- A split leaves its task at the same gates, and the new one comes from them too.
pub loop-number-preserved : goal.loop-number-preserved
loop-number-preserved c =
    let before = c.loop-number.invariant in (
      (c.split.ensures.table ∙ before.0.0, c.split.ensures.config ∙ before.0.1),
      rw c.in-Ok.ensures.items (All-push (λ task. IsFrom task c.args.gates.now) _ _ before.1 c.in_ok-other.ensures.from),
    )
