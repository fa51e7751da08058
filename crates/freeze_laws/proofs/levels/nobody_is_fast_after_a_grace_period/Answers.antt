use Rattle.freeze_laws.proofs.levels.{CitedLaws.fast_finds_open, GraceLaws.graces_are_whole, SlowLaws.stays_slow}
use Rattle.freeze_laws.proofs.levels.nobody_is_fast_after_a_grace_period.Goals as goal

pub returns : goal.returns
returns c = record { finds_open = fast_finds_open; slow = stays_slow; whole = graces_are_whole }
