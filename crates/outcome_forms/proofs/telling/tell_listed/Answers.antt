use Rattle.schedule_lines.proofs.Printed.{prints_both, prints_same}
use Rattle.outcome_forms.proofs.telling.tell_listed.Goals as goal

pub returns : goal.returns
returns c = record {
  counts = c.tell_head.new.out.bytes.items;
  counted = (prints_both (prints_same c.text.ensures.printed c.mark.ensures) c.tell_head.ensures).printed c.in_ok-tell_outcomes.ensures.whole;
  told = c.in_ok-tell_outcomes.ensures.told;
}
