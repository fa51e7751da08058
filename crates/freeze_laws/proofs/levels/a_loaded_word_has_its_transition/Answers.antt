use Rattle.freeze_laws.proofs.levels.NumberLaws.{always_goes_on}
use Rattle.freeze_laws.proofs.levels.a_loaded_word_has_its_transition.Goals as goal

pub returns : goal.returns
returns c = always_goes_on
