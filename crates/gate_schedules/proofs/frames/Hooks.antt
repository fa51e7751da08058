-- A step that reads no hook's answer is the same whatever a hook answers.
use Rattle.gate_schedules.proofs.Prelude.{Phase, arith}
use Rattle.gate_world.specs.Work.{IgnoresAnswer, hook_of}

pub ignores : (phase : Phase) → IgnoresAnswer phase (hook_of phase)
ignores phase h a b found = grind arith
