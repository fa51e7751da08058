-- Traces of a remove.
use Rattle.gate_schedules.proofs.Prelude.{Action, Config, List, Op, Phase, Remove, RemoveStep, Traced, TreePhase, arith, common_steps, false, ℕ}
use Rattle.{gate_world.specs.Operations.first_remove, gated_tree.specs.Phases.at_remove}
use Rattle.gate_schedules.proofs.{operations.calls.Trace.CallAt, traces.TraceInvariant.{TraceLaws, traces_given_reads}}
use Rattle.gate_schedules.specs.trees.Ends.{RemoveKnows, remove_added}

-- how many steps a remove has done before a program point
abbrev events_before : RemoveStep → ℕ
events_before RemoveStep.LoadsFile = 0
events_before (RemoveStep.FreesNode file) = 1
events_before (RemoveStep.CountsRemoved file) = 1
events_before (RemoveStep.MarksRemoved file) = 2
events_before RemoveStep.RefundsRemoved = 3
events_before (RemoveStep.RefundsBlocks file) = 2
events_before (RemoveStep.RefundsChild file) = 3

module _ (c : Config) (file : ℕ) where
  -- the remove at a step
  abbrev remove_of : RemoveStep → Remove
  remove_of s = at_remove (first_remove file) s

  -- what its trace says at a phase: what it knows there and has added
  abbrev RemoveAt : List Traced → Phase → List Action → Type 0
  RemoveAt = CallAt Remove RemoveStep TreePhase.Remove remove_of (λ seen s. RemoveKnows seen (remove_of s) s) (λ s. remove_added (remove_of s) s) (λ trace s. Unit {0}) events_before false

  -- each step keeps it, so its traces tell what is to be told, and are short
  pub remove_traces : TraceLaws c (Op.Remove file)
  remove_traces = traces_given_reads (λ t. RemoveAt) c (Op.Remove file) (λ t. grind (arith, common_steps))
