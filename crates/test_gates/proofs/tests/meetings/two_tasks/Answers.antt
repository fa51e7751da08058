-- the first task, of which the other was split, is of the gates still
use Rattle.std.proofs.Common.{ap, sym, ◌∙◌}
use Rattle.vfs_gates.specs.Rounds.{SeatedTask}
use Rattle.test_gates.proofs.tests.meetings.two_tasks.Goals as goal

pub returns : goal.returns
returns c =
    let made = c.in_ok-gates.ensures.made in (
      (
        c.split.ensures.table ∙ ap (λ (s : SeatedTask). s.table) made.1,
        c.split.ensures.config ∙ (ap (λ (s : SeatedTask). s.config) made.1 ∙ sym made.0),
      ),
      c.in_ok-backup.ensures.from,
    )
