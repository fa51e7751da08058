-- what is left of an operation that has not ended
use Rattle.vfs_gates.proofs.Prelude.{refl, subst, unit_of}
use Rattle.vfs_gates.{proofs.AtOnce.{begun_by, goes_by}, specs.AtOnce.BeginsAtOnce}
use Rattle.gate_steps.proofs.call_events.Running.{was_done}
use Rattle.vfs_gates.proofs.task.Task.finish_begun_waiting.Goals as goal

pub returns : goal.returns
returns g c op start begins =
    let told = begun_by op start c.args.self.now c.in_ok-progress.progress _ refl
    (subst (λ b. BeginsAtOnce op start c.args.self.now b) c.in_ok-progress.was begins) in
    let done = c.finish_waiting.ensures op start
    (goes_by op start c.args.self.now c.in_ok-progress.progress c.in_default.not-Done told.1) in
    was_done unit_of op start c.finish_waiting.new.self done.0 c.finish_waiting.result done.1 told.0 done.2
