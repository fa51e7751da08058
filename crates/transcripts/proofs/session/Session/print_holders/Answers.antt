use Rattle.std.proofs.Common.{◌<◌, subst}
use Rattle.access_model.specs.Histories.{end_of}
use Rattle.gate_world.specs.declared.config.Config.{Config}
use Rattle.transcripts.specs.Transcript.{task_text}
use Rattle.transcripts.proofs.Texts.{one_more}
use Rattle.transcripts.proofs.session.Session.print_holders.Goals as goal

pub loop-task-preserved : goal.loop-task-preserved
loop-task-preserved g c p h =
    one_more (task_text p.config (end_of p.done)) c.loop-task.task (c.loop-task.invariant p h)
    (c.print_held.ensures p h (subst (λ (x : Config). c.loop-task.task < x.tasks) h.config c.loop-task-test.true))
