use Rattle.gate_steps.proofs.steps.give.Given as goal

abbrev pub ghosts-give_as : goal.ghosts-give_as
ghosts-give_as a = record { number = a.number }
