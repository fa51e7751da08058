-- The second change is done, and both leave a task that rests, and are a copy.
use Rattle.vfs_gates.proofs.Rounds.{ℕ, SeatedTask, rules, refused, reopened, round, spare_stays, spare_stays_on, times_stay, times_stay_on}
use Rattle.example_backup.specs.Reports.{Copies}
use Rattle.example_backup.proofs.backup.copy_once.Goals as goal

pub returns-in_err-change_mount-clause-copied_nothing : goal.returns-in_err-change_mount-clause-copied_nothing
returns-in_err-change_mount-clause-copied_nothing g c =
    let tried = λ (n : ℕ) (first : SeatedTask) (so_far : Copies n first c.args.task.now). refused so_far c.in_err-change_mount.ensures in search (rules, tried)

pub returns-in_err-change_mount-2 : goal.returns-in_err-change_mount-2
returns-in_err-change_mount-2 g c = search (
  rules,
  reopened c.requires.rests c.in_ok-change_mount.ensures c.change_mount-2.ensures,
  spare_stays_on c.in_ok-change_mount.ensures c.change_mount-2.ensures,
  times_stay_on c.in_ok-change_mount.ensures c.change_mount-2.ensures,
)

pub returns : goal.returns
returns g c = search (
  rules,
  reopened c.requires.rests c.in_ok-change_mount.ensures c.change_mount-2.ensures,
  round,
  spare_stays_on c.in_ok-change_mount.ensures c.change_mount-2.ensures,
  times_stay_on c.in_ok-change_mount.ensures c.change_mount-2.ensures,
)

pub returns-in_err-change_mount-clause-others : goal.returns-in_err-change_mount-clause-others
returns-in_err-change_mount-clause-others g c = spare_stays c.in_err-change_mount.ensures

pub returns-in_err-change_mount-clause-numbers : goal.returns-in_err-change_mount-clause-numbers
returns-in_err-change_mount-clause-numbers g c = times_stay c.in_err-change_mount.ensures
