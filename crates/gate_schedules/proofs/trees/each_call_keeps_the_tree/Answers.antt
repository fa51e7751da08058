-- both are lemmas
use Rattle.gate_schedules.proofs.trees.Phases.{each_phase, word_there}
use Rattle.gate_schedules.proofs.trees.each_call_keeps_the_tree.Goals as goal

pub returns-clause-events : goal.returns-clause-events
returns-clause-events c = each_phase

pub returns-clause-words : goal.returns-clause-words
returns-clause-words c = word_there
