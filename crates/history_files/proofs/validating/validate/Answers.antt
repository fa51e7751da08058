use Rattle.history_files.proofs.validating.validate.Goals as goal

pub returns-in-Ok-clause-possible : goal.returns-in-Ok-clause-possible
returns-in-Ok-clause-possible g c = λ none. c.in_ok-notes.ensures.possible (c.in-Ok.ensures.possible none)
