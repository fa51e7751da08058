-- All that is proved of the beginnings and the traces of the operations at the tree.
use Rattle.gate_schedules.proofs.Prelude.{Bool, Config, Kind, Op, arith, ltb-true, ℕ}
use Rattle.std.proofs.lemmas.Bool.{and_parts}
use Rattle.gate_schedules.proofs.frames.{Agreeing.{faulter_agrees, none_agree, writer_agrees}, OperationLaws.OpLaws}
use Rattle.gate_schedules.proofs.operations.calls.{CreateTrace.create_traces, GrowTrace.grow_traces, MarkTrace.{fault_traces, flush_traces}}
use Rattle.gate_schedules.proofs.operations.calls.{MoveTrace.move_traces, OpenTrace.open_traces, RemoveTrace.remove_traces}
use Rattle.gate_schedules.proofs.operations.snapshot.Trace.{snapshot_traces}

pub create_keeps : (c : Config) (d : ℕ) (kind : Kind) → OpLaws c (Op.Create d kind)
create_keeps c d kind = grind (arith, create_traces, writer_agrees, ltb-true)

pub remove_keeps : (c : Config) (file : ℕ) → OpLaws c (Op.Remove file)
remove_keeps c file = grind (arith, remove_traces, writer_agrees, ltb-true)

pub grow_keeps : (c : Config) (file blocks : ℕ) → OpLaws c (Op.Grow file blocks)
grow_keeps c file blocks = grind (arith, grow_traces, writer_agrees, ltb-true, and_parts)

pub move_keeps : (c : Config) (file dir : ℕ) → OpLaws c (Op.MoveTo file dir)
move_keeps c file dir = grind (arith, move_traces, writer_agrees, ltb-true, and_parts)

pub fault_keeps : (c : Config) (file : ℕ) → OpLaws c (Op.Fault file)
fault_keeps c file = grind (arith, fault_traces, faulter_agrees, ltb-true)

pub flush_keeps : (c : Config) (file : ℕ) → OpLaws c (Op.Flush file)
flush_keeps c file = grind (arith, flush_traces, ltb-true)

pub open_keeps : (c : Config) (file : ℕ) → OpLaws c (Op.Open file)
open_keeps c file = grind (arith, open_traces, ltb-true)

pub snapshot_keeps : (c : Config) (wait : Bool) → OpLaws c (Op.Snapshot wait)
snapshot_keeps c wait = grind (arith, none_agree, snapshot_traces)
