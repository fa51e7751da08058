-- What is proved of each operation, by the folder named after it: the one place that knows them all.
use Rattle.gate_schedules.proofs.Prelude.{Config, MountPhase, Op, Phase, PhaseEnds}
use Rattle.gate_schedules.proofs.{frames.OperationLaws.{OpLaws, PhaseLaws}, mounts.Progress.{change_ends, drop_ends, want_ends}}
use Rattle.gate_schedules.proofs.operations.{callback.{Laws.{callback_op, callback_phase}, Progress.callback_ends}, calls.Laws.create_keeps}
use Rattle.gate_schedules.proofs.operations.calls.Laws.{fault_keeps, flush_keeps, grow_keeps, move_keeps, open_keeps, remove_keeps, snapshot_keeps}
use Rattle.gate_schedules.proofs.operations.{calls.{PhaseLaws.tree_phase_keeps, Progress.tree_ends}, change.Laws.{change_op, change_phase}}
use Rattle.gate_schedules.proofs.operations.{close.{Laws.close_phase, Progress.close_ends, Trace.close_op}, freeze.Laws.{freeze_op, freeze_phase}}
use Rattle.gate_schedules.proofs.operations.{freeze.Progress.freeze_ends, readers.{Laws.{end_op, end_phase, read_phase, start_op}, Progress.end_ends}}
use Rattle.gate_schedules.proofs.operations.{readers.Progress.{read_ends, write_ends}, remount.Laws.{remount_op, remount_phase}}
use Rattle.gate_schedules.proofs.operations.{remount.Progress.remount_ends, thaw.{Laws.{thaw_op, thaw_phase}, Progress.thaw_ends}, want.Laws.drop_op}
use Rattle.gate_schedules.proofs.operations.{want.Laws.{drop_phase, want_op, want_phase}, write_access.Laws.{drop_write_op, want_write_op}}
use Rattle.gate_schedules.proofs.operations.write_access.Laws.{write_phase}

pub phase_keeps : (c : Config) (phase : Phase) → PhaseLaws c phase
phase_keeps c (Phase.Mounts (MountPhase.Want x)) = want_phase c x
phase_keeps c (Phase.Mounts (MountPhase.Drop m p)) = drop_phase c m p
phase_keeps c (Phase.Mounts (MountPhase.Change x)) = change_phase c x
phase_keeps c (Phase.Remounts x) = remount_phase c x
phase_keeps c (Phase.DownReads r) = read_phase c r
phase_keeps c (Phase.UpReads u) = end_phase c u
phase_keeps c (Phase.Callbacks b) = callback_phase c b
phase_keeps c (Phase.Writes x) = write_phase c x
phase_keeps c (Phase.Freezes x) = freeze_phase c x
phase_keeps c (Phase.Thaws x) = thaw_phase c x
phase_keeps c (Phase.Trees x) = tree_phase_keeps c x
phase_keeps c (Phase.Closes x) = close_phase c x

pub op_keeps : (c : Config) (op : Op) → OpLaws c op
op_keeps c (Op.Want m p wait) = want_op c m p wait
op_keeps c (Op.DropMount m p) = drop_op c m p
op_keeps c (Op.ChangeMount m read_only wait) = change_op c m read_only wait
op_keeps c (Op.RemountSb read_only) = remount_op c read_only
op_keeps c (Op.Start i p wait) = start_op c i p wait
op_keeps c (Op.End i p) = end_op c i p
op_keeps c (Op.WantWrite m p) = want_write_op c m p
op_keeps c (Op.DropWrite m p) = drop_write_op c m p
op_keeps c (Op.Callback i) = callback_op c i
op_keeps c (Op.Freeze holder) = freeze_op c holder
op_keeps c (Op.Thaw holder) = thaw_op c holder
op_keeps c (Op.Create d kind) = create_keeps c d kind
op_keeps c (Op.Remove file) = remove_keeps c file
op_keeps c (Op.Grow file blocks) = grow_keeps c file blocks
op_keeps c (Op.MoveTo file d) = move_keeps c file d
op_keeps c (Op.Fault file) = fault_keeps c file
op_keeps c (Op.Flush file) = flush_keeps c file
op_keeps c (Op.Snapshot wait) = snapshot_keeps c wait
op_keeps c (Op.Open file) = open_keeps c file
op_keeps c (Op.Close file cpu wait) = close_op c file cpu wait

-- and of each phase, where its way is free
pub phase_ends : (c : Config) (phase : Phase) → PhaseEnds c phase
phase_ends c (Phase.Mounts (MountPhase.Want x)) = want_ends c x
phase_ends c (Phase.Mounts (MountPhase.Drop m p)) = drop_ends c m p
phase_ends c (Phase.Mounts (MountPhase.Change x)) = change_ends c x
phase_ends c (Phase.Remounts x) = remount_ends c x
phase_ends c (Phase.DownReads r) = read_ends c r
phase_ends c (Phase.UpReads u) = end_ends c u
phase_ends c (Phase.Callbacks b) = callback_ends c b
phase_ends c (Phase.Writes x) = write_ends c x
phase_ends c (Phase.Freezes x) = freeze_ends c x
phase_ends c (Phase.Thaws x) = thaw_ends c x
phase_ends c (Phase.Trees x) = tree_ends c x
phase_ends c (Phase.Closes x) = close_ends c x
