-- the laws are lemmas
use Rattle.vfs_gates.proofs.several_tasks.BothFrozen.{both_keep_starts_out, both_keep_writers_out, both_refuse_a_start}
use Rattle.vfs_gates.proofs.laws.one_world.two_tasks_with_all_numbers_know_a_freeze.Goals as goal

pub returns-clause-writes : goal.returns-clause-writes
returns-clause-writes c = λ h m p one two begins beside left first second asks third fourth outcome meets freeze again want at_last all.
    both_keep_writers_out h one two begins beside left first second asks third fourth outcome meets freeze again at_last all m p want

pub returns-clause-starts : goal.returns-clause-starts
returns-clause-starts c = λ h i p wait one two begins beside left first second asks third fourth outcome meets freeze again start at_last all writable.
    both_keep_starts_out h one two begins beside left first second asks third fourth outcome meets freeze again at_last all i p wait writable start

pub returns-clause-again : goal.returns-clause-again
returns-clause-again c = λ h i p one two begins beside left first second asks third fourth outcome meets freeze again start at_last all writable begin_so.
    both_refuse_a_start h one two begins beside left first second asks third fourth outcome meets freeze again at_last all i p writable begin_so start
