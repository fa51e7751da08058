-- What is proved of the beginning of a close, given what its trace says.
use Rattle.gate_schedules.proofs.Prelude.{Bool, Config, Op, arith, ℕ}
use Rattle.gate_schedules.proofs.{frames.OperationLaws.OpLaws, traces.TraceInvariant.TraceLaws}

pub close_op_from : (c : Config) (file p : ℕ) (wait : Bool) → TraceLaws c (Op.Close file p wait) → OpLaws c (Op.Close file p wait)
close_op_from c file p wait traces = grind arith
