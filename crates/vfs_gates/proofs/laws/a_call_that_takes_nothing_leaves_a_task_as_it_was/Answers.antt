-- the law is a lemma
use Rattle.vfs_gates.proofs.Prelude.{unit_of}
use Rattle.vfs_gates.proofs.{Holding.{keeps, refused_call_keeps}, Rounds.rests_after}
use Rattle.vfs_gates.proofs.laws.a_call_that_takes_nothing_leaves_a_task_as_it_was.Goals as goal

pub returns-clause-kept : goal.returns-clause-kept
returns-clause-kept c = λ op old left outcome idle none call. keeps unit_of op old left outcome idle call none

pub returns-clause-refused : goal.returns-clause-refused
returns-clause-refused c = λ op old left refusal idle call. refused_call_keeps unit_of op old left refusal idle call

pub returns-clause-rests : goal.returns-clause-rests
returns-clause-rests c = λ op old left outcome rests none call. rests_after none rests call
