use Rattle.std.proofs.Common.{IfSome, subst}
use Rattle.program_checks.specs.Claims.{HasBadClaim, race_lines}
use Rattle.mntgate.proofs.outcomes.expect_claims.Goals as goal

pub returns-in-Ok-None-clause-claims : goal.returns-in-Ok-None-clause-claims
returns-in-Ok-None-clause-claims c = c.in-Ok-None.ensures.none c.in-Ok-None.field-0-is

pub returns-in-Ok-Some-clause-why : goal.returns-in-Ok-Some-clause-why
returns-in-Ok-Some-clause-why c =
    let calls = c.args.source.calls.now.race.calls.items in
    record {
      core = c.args.core.now;
      calls = calls;
      race = c.requires;
      bad = subst (λ found. IfSome found (λ text. HasBadClaim c.args.core.now calls (race_lines c.args.source.bytes.now)))
          c.in-Ok-Some.field-0-is c.in-Ok-Some.ensures.some;
    }
