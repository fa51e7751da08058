-- each is a lemma
use Rattle.gate_schedules.proofs.trees.Ends.{create_ends, grow_ends, mark_ends, move_ends, open_ends, remove_ends, snapshot_ends}
use Rattle.gate_schedules.specs.trees.Ends.{Passed}
use Rattle.gate_schedules.proofs.trees.each_call_ends_honestly.Goals as goal

pub returns-clause-create : goal.returns-clause-create
returns-clause-create c = λ seen more. create_ends (Passed seen) (Passed more)

pub returns-clause-remove : goal.returns-clause-remove
returns-clause-remove c = λ seen more. remove_ends (Passed seen) (Passed more)

pub returns-clause-grow : goal.returns-clause-grow
returns-clause-grow c = λ seen more. grow_ends (Passed seen) (Passed more)

pub returns-clause-move_to : goal.returns-clause-move_to
returns-clause-move_to c = λ seen more. move_ends (Passed seen) (Passed more)

pub returns-clause-mark : goal.returns-clause-mark
returns-clause-mark c = λ seen more. mark_ends (Passed seen) (Passed more)

pub returns-clause-open_file : goal.returns-clause-open_file
returns-clause-open_file c = λ seen more. open_ends (Passed seen) (Passed more)

pub returns-clause-snapshot : goal.returns-clause-snapshot
returns-clause-snapshot c = λ seen more. snapshot_ends (Passed seen) (Passed more)
