-- the laws are lemmas
use Rattle.vfs_gates.proofs.several_tasks.Told.{comes_after_list, own_list, sent_list}
use Rattle.vfs_gates.proofs.laws.one_world.a_call_comes_after_what_its_task_was_told.Goals as goal

pub returns-clause-after : goal.returns-clause-after
returns-clause-after c = comes_after_list

pub returns-clause-own : goal.returns-clause-own
returns-clause-own c = own_list

pub returns-clause-sent : goal.returns-clause-sent
returns-clause-sent c = sent_list
