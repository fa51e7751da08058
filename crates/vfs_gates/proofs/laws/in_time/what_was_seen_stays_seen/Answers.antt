-- the laws are lemmas
use Rattle.vfs_gates.proofs.Prelude.{Entry, List, SeatedTask, StaySeen, ap, stays_seen_on, subst, sym}
use Rattle.gate_steps.proofs.call_events.Grown.{both_stay_seen, call_stays_seen, same_stays_seen}
use Rattle.vfs_gates.proofs.laws.in_time.what_was_seen_stays_seen.Goals as goal

pub returns-clause-calls : goal.returns-clause-calls
returns-clause-calls c = call_stays_seen

pub returns-clause-splits : goal.returns-clause-splits
returns-clause-splits c = λ old left other is. (
  subst (StaySeen old.seen) (ap (λ (s : SeatedTask). s.seen) (sym is.kept)) (same_stays_seen old.seen),
  subst (StaySeen old.seen) (ap (λ (s : SeatedTask). s.seen) (sym is.given)) (same_stays_seen old.seen),
)

pub returns-clause-joins : goal.returns-clause-joins
returns-clause-joins c = λ first second joined is.
    subst (λ (l : List (List Entry)). StaySeen first.seen l × StaySeen second.seen l) (sym is) (both_stay_seen first.seen second.seen)

pub returns-clause-further : goal.returns-clause-further
returns-clause-further c = λ first second third f g. stays_seen_on first.seen second.seen third.seen f g
