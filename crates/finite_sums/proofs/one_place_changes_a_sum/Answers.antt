use Rattle.finite_sums.proofs.Totals.{total_updated}
use Rattle.finite_sums.proofs.one_place_changes_a_sum.Goals as goal

pub returns : goal.returns
returns c = λ f n t v lt. total_updated (λ x. x) n t f v lt
