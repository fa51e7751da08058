-- The backup's task rests once the writer's is joined to it, and its first change comes after all that the writer had done.
use Rattle.std.proofs.Common.{Bool, Err, Ok, OnOk, Result, ap, ◌∙◌}
use Rattle.vfs_gates.{proofs.Rounds.{GateError, SeatedTask, done_after, joined_rests, times-append}, specs.Seating.times}
use Rattle.example_backup.specs.Reports.{HasCopied, HasEveryWrite}
use Rattle.example_backup.proofs.run.copy_at_the_end.Goals as goal

-- where a copy was made, it is one of all writes
has_every_write : (copied : Result Bool GateError) (backup writer old left : SeatedTask) → (HasCopied old left → HasEveryWrite backup writer left) →
    OnOk copied (HasCopied old left) → OnOk copied (HasEveryWrite backup writer left)
has_every_write (Ok torn) backup writer old left every made = every made
has_every_write (Err refusal) backup writer old left every made = tt

pub copy_once-copied-requires-clause-rests : goal.copy_once-copied-requires-clause-rests
copy_once-copied-requires-clause-rests g c = joined_rests c.args.backup c.args.writer c.join-task.ensures.joined c.requires.there.0 c.requires.rests.0

pub returns-clause-every_write : goal.returns-clause-every_write
returns-clause-every_write g c =
    has_every_write c.copy_once-copied.result c.args.backup c.args.writer c.join-task.result c.copy_once-copied.new.task
    (λ made. record {
      joined = c.join-task.result;
      joins = c.join-task.ensures.joined;
      there = made.0;
      closes = made.1;
      after = done_after c.args.backup c.join-task.ensures.numbers c.requires.there.0 c.requires.there.1 made.1;
      opens = made.2;
    })
    c.copy_once-copied.ensures.made

pub returns-clause-numbers : goal.returns-clause-numbers
returns-clause-numbers g c = λ n.
    c.copy_once-copied.ensures.numbers n ∙ (ap (times n) c.join-task.ensures.numbers ∙ times-append n c.args.backup.items c.args.writer.items)
