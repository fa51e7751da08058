use Rattle.std.proofs.{Common.{◌∙◌, rules, tests, bytes_eq}, lemmas.Iterator.{YieldsList-from_slice, Search.{find_from_yields_List}}}
use Rattle.access_model.specs.Errors.{name_of}
use Rattle.race_conditions.specs.Parsing.{reason_of}
use Rattle.race_conditions.proofs.parsing.reason_of.Goals as goal

pub returns : goal.returns
unfolding reason_of
returns c =
    c.copied.ensures ∙ find_from_yields_List (λ reason. bytes_eq c.args.word.now (name_of reason)) _ _ c.find.result c.find.ensures.ran
    (YieldsList-from_slice _ c.iter.ensures.rest) (λ x b q k. search (rules, tests))
