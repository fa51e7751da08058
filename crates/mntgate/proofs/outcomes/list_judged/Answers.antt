use Rattle.std.proofs.Common.{ap, ◌∙◌}
use Rattle.schedule_lines.specs.declared.output.Output.{Output}
use Rattle.mntgate.proofs.Listed.{own_lines, tells_as, verdicts_told}
use Rattle.mntgate.proofs.outcomes.list_judged.Goals as goal

pub returns-clause-told : goal.returns-clause-told
returns-clause-told g c = λ text pairs.
    let tells = tells_as _ _ _ _ _ _ _ c.is_whole-is_whole.ensures c.in_ok-listing.ensures.table.lengths c.in_ok-listing.ensures.expanded
    c.requires.tasks (c.in_ok-listing.ensures.all text pairs) (c.in_ok-listing.ensures.some text pairs) in
    record {
      core = c.args.core;
      calls = c.args.source.calls.now.race.calls.items;
      race = c.requires.race;
      outcomes = c.list_race.new.told.bytes.items;
      tells = tells;
      apart = own_lines _ _ _ _ _ _ _ tells c.requires.race;
      verdicts = c.judge_claims.new.verdicts.bytes.items;
      judging = verdicts_told _ _ _ _ _ _ _ _ _ c.new-verdicts.ensures.nothing c.in_ok-settled.ensures.whole (c.in_ok-judged.ensures.told text);
      claims = λ none. (ap (λ (o : Output). o.bytes.items) (c.in_ok-judged.ensures.nothing none) ∙ c.new-verdicts.ensures.nothing, c.in_ok-judged.ensures.holds none);
      written = (c.tell_verdicts.ensures text).printed c.in_ok-settled-2.ensures.whole;
    }
