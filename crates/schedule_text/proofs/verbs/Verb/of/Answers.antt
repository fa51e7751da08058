use Rattle.std.proofs.{Common.{bytes_eq, codes, refl, rules, sym, tests, ◌∙◌}, lemmas.Iterator.{Search.find_from_yields_List, YieldsList-from_slice}}
use Rattle.schedule_text.{proofs.Naming.named, specs.{Verbs.{verb_name, verb_of}, declared.verbs.Verb.TheVariants.{Change, Drop, Run, Step, Want}}}
use Rattle.schedule_text.proofs.verbs.Verb.of.Goals as goal

pub returns-then-is_word : goal.returns-then-is_word
unfolding verb_of
returns-then-is_word c = named c.args.word.now (codes "run") Run (sym c.is_word.ensures ∙ c.if-is_word.true) refl

pub returns-then-is_word-2 : goal.returns-then-is_word-2
unfolding verb_of
returns-then-is_word-2 c = named c.args.word.now (codes "step") Step (sym c.is_word-else-is_word.ensures ∙ c.if-is_word-2.true) refl

pub returns-then-is_word-3 : goal.returns-then-is_word-3
unfolding verb_of
returns-then-is_word-3 c = named c.args.word.now (codes "want") Want (sym c.is_word-else-is_word-2.ensures ∙ c.if-is_word-3.true) refl

pub returns-then-is_word-4 : goal.returns-then-is_word-4
unfolding verb_of
returns-then-is_word-4 c = named c.args.word.now (codes "drop") Drop (sym c.is_word-else-is_word-3.ensures ∙ c.if-is_word-4.true) refl

pub returns-then-is_word-5 : goal.returns-then-is_word-5
unfolding verb_of
returns-then-is_word-5 c = named c.args.word.now (codes "change") Change (sym c.is_word-else-is_word-4.ensures ∙ c.if-is_word-5.true) refl

pub returns-else-is_word-5 : goal.returns-else-is_word-5
unfolding verb_of
returns-else-is_word-5 c =
    c.copied.ensures ∙ find_from_yields_List (λ verb. bytes_eq c.args.word.now (verb_name verb)) _ _ c.find.result c.find.ensures.ran
    (YieldsList-from_slice _ c.iter.ensures.rest) (λ x b q k. search (rules, tests))
