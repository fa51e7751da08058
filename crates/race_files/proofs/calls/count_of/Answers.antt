use Rattle.std.proofs.Common.{is_none, sym, ◌∙◌}
use Rattle.race_files.proofs.Words.{nowhere_is_end}
use Rattle.race_files.proofs.calls.count_of.Goals as goal

pub returns-in-None-clause-is : goal.returns-in-None-clause-is
returns-in-None-clause-is c = nowhere_is_end is_none c.args.calls.now (sym c.first_free.ensures ∙ c.in-None.is)
