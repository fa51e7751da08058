-- the law is a lemma
use Rattle.vfs_gates.proofs.{Resting.{change_busy, change_rests}, Rounds.made_writable}
use Rattle.vfs_gates.proofs.laws.a_change_leaves_a_task_at_rest.Goals as goal

pub returns-clause-done : goal.returns-clause-done
returns-clause-done c = λ m old left outcome rests mount does. made_writable rests mount does

pub returns-clause-rests : goal.returns-clause-rests
returns-clause-rests c = λ m read_only old left outcome rests mount does.
    (change_busy m read_only old left outcome rests does mount, change_rests m read_only old left outcome rests does)
