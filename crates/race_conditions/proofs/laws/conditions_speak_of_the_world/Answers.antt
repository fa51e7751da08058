use Rattle.race_conditions.proofs.ModelsAlike.{holds_alike, seen_shown, words_shown, seen_kept, words_kept}
use Rattle.race_conditions.proofs.laws.conditions_speak_of_the_world.Goals as goal

pub returns-clause-reads : goal.returns-clause-reads
returns-clause-reads c = λ config f named courses s s' words words' e same. holds_alike config s s' e words words' same f courses named

pub returns-clause-sees : goal.returns-clause-sees
returns-clause-sees c = λ memory w sound shows. (seen_shown memory w sound shows, words_shown memory w sound shows)

pub returns-clause-counts : goal.returns-clause-counts
returns-clause-counts c = λ most memory short sound alike. (seen_kept most memory short sound alike, words_kept most memory short sound alike)
