-- Traces of a move.
use Rattle.gate_schedules.proofs.Prelude.{Action, Config, List, MoveStep, MoveTo, Op, Phase, Traced, TreePhase, arith, common_steps, false, ℕ}
use Rattle.{gate_world.specs.Operations.first_move, gated_tree.specs.Phases.at_move}
use Rattle.gate_schedules.proofs.{operations.calls.Trace.CallAt, traces.TraceInvariant.{TraceLaws, traces_given_reads}}
use Rattle.gate_schedules.specs.trees.Ends.{MoveKnows, move_added}

-- how many steps a move has done before a program point
abbrev events_before : MoveStep → ℕ
events_before MoveStep.LoadsFile = 0
events_before (MoveStep.LoadsDirectory file) = 1
events_before (MoveStep.ChargesChild file) = 2
events_before (MoveStep.MovesFile file) = 3
events_before (MoveStep.RefundsChild dir answer) = 4

module _ (c : Config) (file dir : ℕ) where
  -- the move at a step
  abbrev move_of : MoveStep → MoveTo
  move_of s = at_move (first_move file dir) s

  -- what its trace says at a phase: what it knows there and has added
  abbrev MoveAt : List Traced → Phase → List Action → Type 0
  MoveAt = CallAt MoveTo MoveStep TreePhase.MoveTo move_of (λ seen s. MoveKnows seen (move_of s) s) (λ s. move_added (move_of s) s) (λ trace s. Unit {0}) events_before false

  -- each step keeps it, so its traces tell what is to be told, and are short
  pub move_traces : TraceLaws c (Op.MoveTo file dir)
  move_traces = traces_given_reads (λ t. MoveAt) c (Op.MoveTo file dir) (λ t. grind (arith, common_steps))
