-- Each clause is a lemma on whole executions.
use Rattle.gate_schedules.proofs.schedules.{Deadlocks.{whole_kept, whole_progress, whole_replies, whole_settles}, HeadlineProof.whole_causes}
use Rattle.gate_schedules.proofs.schedules.HeadlineProof.{whole_freezes, whole_frozen, whole_holders, whole_idle, whole_leads, whole_moves}
use Rattle.gate_schedules.proofs.schedules.HeadlineProof.{whole_nobody, whole_operations, whole_rests, whole_run, whole_snapshots, whole_stays}
use Rattle.gate_schedules.proofs.schedules.{HeadlineProof.{whole_sums, whole_trees, whole_waits}, LevelRuns.whole_levels}
use Rattle.gate_schedules.proofs.schedules.every_schedule.Goals as goal

pub returns-clause-moves : goal.returns-clause-moves
returns-clause-moves c = whole_moves

pub returns-clause-run : goal.returns-clause-run
returns-clause-run c = whole_run

pub returns-clause-inside : goal.returns-clause-inside
returns-clause-inside c = whole_nobody

pub returns-clause-frozen : goal.returns-clause-frozen
returns-clause-frozen c = whole_frozen

pub returns-clause-sums : goal.returns-clause-sums
returns-clause-sums c = whole_sums

pub returns-clause-idle : goal.returns-clause-idle
returns-clause-idle c = whole_idle

pub returns-clause-leads : goal.returns-clause-leads
returns-clause-leads c = whole_leads

pub returns-clause-rests : goal.returns-clause-rests
returns-clause-rests c = whole_rests

pub returns-clause-freezes : goal.returns-clause-freezes
returns-clause-freezes c = whole_freezes

pub returns-clause-holders : goal.returns-clause-holders
returns-clause-holders c = whole_holders

pub returns-clause-trees : goal.returns-clause-trees
returns-clause-trees c = whole_trees

pub returns-clause-stays : goal.returns-clause-stays
returns-clause-stays c = whole_stays

pub returns-clause-snapshots : goal.returns-clause-snapshots
returns-clause-snapshots c = whole_snapshots

pub returns-clause-levels : goal.returns-clause-levels
returns-clause-levels c = whole_levels

pub returns-clause-operations : goal.returns-clause-operations
returns-clause-operations c = whole_operations

pub returns-clause-causes : goal.returns-clause-causes
returns-clause-causes c = whole_causes

pub returns-clause-waits : goal.returns-clause-waits
returns-clause-waits c = whole_waits

pub returns-clause-progress : goal.returns-clause-progress
returns-clause-progress c = whole_progress

pub returns-clause-settles : goal.returns-clause-settles
returns-clause-settles c = whole_settles

pub returns-clause-replies : goal.returns-clause-replies
returns-clause-replies c = whole_replies

pub returns-clause-blocked_stays : goal.returns-clause-blocked_stays
returns-clause-blocked_stays c = whole_kept
