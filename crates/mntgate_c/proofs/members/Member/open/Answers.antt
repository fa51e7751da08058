use Rattle.std.proofs.Common.{ap, subst, sym}
use Rattle.{gate_world.specs.declared.config.Config.Config, vfs_gates.specs.{Ended.HasOpeningWords, TaskStates.SeatedTask}}
use Rattle.mntgate_c.proofs.Results.{if_ok_then}
use Rattle.mntgate_c.proofs.members.Member.open.Goals as goal

-- the block has the task that the gates were made with
pub returns-clause-words : goal.returns-clause-words
returns-clause-words c =
    let Words : SeatedTask → Type 0 = λ s. HasOpeningWords s.config s.items in let made = c.in_ok-gates.ensures in
    let own : Words c.in_ok-gates.task = subst (λ (k : Config). HasOpeningWords k c.in_ok-gates.task.items) (sym (ap (λ (s : SeatedTask). s.config) made.made.1)) made.words in
    if_ok_then c.boxed.result (λ b same. subst Words (sym same) own) c.boxed.ensures.made
