use Rattle.std.proofs.Common.{List, subst, ℕ}
use Rattle.outcome_forms.{proofs.Parts.{asked_lines, no_details, not_asked}, specs.Told.TellsDetails}
use Rattle.outcome_forms.proofs.telling.tell_under.Goals as goal

pub returns-then-are_none : goal.returns-then-are_none
returns-then-are_none c = no_details _ _ _

pub returns : goal.returns
returns c =
    asked_lines _ _ _ _ (not_asked _ _ c.are_none.ensures c.if-are_none.false)
    (subst (λ (m : List ℕ). TellsDetails m ⊥ c.args.out.now c.put_lines.new.out) c.margin.ensures c.put_lines.ensures)
