-- the laws are lemmas
use Rattle.vfs_gates.proofs.Prelude.{WantWrite, refl}
use Rattle.vfs_gates.proofs.several_tasks.BothShut.{both_read_only, both_shut}
use Rattle.vfs_gates.proofs.laws.one_world.two_tasks_with_all_numbers_know_a_read_only_mount.Goals as goal

pub returns-clause-none : goal.returns-clause-none
returns-clause-none c = both_shut

pub returns-clause-write : goal.returns-clause-write
returns-clause-write c = λ m p wait one two begins beside left first second asks third fourth outcome meets change again want at_last all rests.
    both_read_only m wait (WantWrite m p) one two begins beside left first second asks third fourth outcome refl meets change again want at_last all p
    refl rests
