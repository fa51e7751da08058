use Rattle.std.proofs.Common.{ap, codes, decimal, ℕ, ◌++◌, ◌∙◌}
use Rattle.schedule_lines.proofs.Printed.{prints_both, prints_same}
use Rattle.history_files.proofs.telling.put_verdict.Goals as goal

pub returns-clause-impossible : goal.returns-clause-impossible
returns-clause-impossible c = λ less.
    prints_same (prints_both c.numbered.ensures c.text.ensures.printed)
    (ap (λ (n : ℕ). (codes "impossible at " ++ decimal n) ++ codes "\n") (c.from.ensures ∙ c.first_line.ensures))
