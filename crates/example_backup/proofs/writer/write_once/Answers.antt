-- An access that was granted is given back, and its task rests again.
use Rattle.vfs_gates.proofs.Rounds.{rules, rests_back, times_stay, times_stay_on}
use Rattle.example_backup.proofs.writer.write_once.Goals as goal

pub returns : goal.returns
returns g c = search (rules, rests_back c.requires.rests c.in_ok-want.ensures c.drop_mount.ensures, times_stay_on c.in_ok-want.ensures c.drop_mount.ensures)

pub returns-in_err-want-clause-numbers : goal.returns-in_err-want-clause-numbers
returns-in_err-want-clause-numbers g c = times_stay c.in_err-want.ensures
