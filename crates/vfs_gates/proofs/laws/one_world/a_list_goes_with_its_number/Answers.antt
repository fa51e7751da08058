-- the laws are lemmas
use Rattle.vfs_gates.proofs.Prelude.{inl, inr}
use Rattle.vfs_gates.proofs.several_tasks.Moving.{joined_first, joined_second, split_keeps}
use Rattle.vfs_gates.proofs.laws.one_world.a_list_goes_with_its_number.Goals as goal

pub returns-clause-splits : goal.returns-clause-splits
returns-clause-splits c = split_keeps

pub returns-clause-joins : goal.returns-clause-joins
returns-clause-joins c = λ n list items others has.
    elim has [ inl mine ↦ joined_first n list items others mine | inr its ↦ joined_second n list items others its ]
