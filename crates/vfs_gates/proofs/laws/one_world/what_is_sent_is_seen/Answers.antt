-- the laws are lemmas
use Rattle.vfs_gates.proofs.Prelude.{Entry, List, StaySeen, subst, sym}
use Rattle.vfs_gates.proofs.several_tasks.Beside.{met_stays}
use Rattle.gate_steps.proofs.call_events.Grown.{both_stay_seen}
use Rattle.vfs_gates.proofs.laws.one_world.what_is_sent_is_seen.Goals as goal

pub returns-clause-meetings : goal.returns-clause-meetings
returns-clause-meetings c = met_stays

pub returns-clause-receipts : goal.returns-clause-receipts
returns-clause-receipts c = λ old left receipt is.
    subst (λ (l : List (List Entry)). StaySeen old.seen l × StaySeen receipt.seen l) (sym is) (both_stay_seen old.seen receipt.seen)
