-- Traces of a grow.
use Rattle.gate_schedules.proofs.Prelude.{Action, Config, Grow, GrowStep, List, Op, Phase, Traced, TreePhase, [], arith, common_steps, false, ℕ}
use Rattle.{gate_world.specs.Operations.first_grow, gated_tree.specs.Phases.at_grow}
use Rattle.gate_schedules.{proofs.{operations.calls.Trace.CallAt, traces.TraceInvariant.{TraceLaws, traces_given_reads}}, specs.trees.Ends.GrowKnows}

-- how many steps a grow has done before a program point
abbrev events_before : GrowStep → ℕ
events_before GrowStep.LoadsFile = 0
events_before (GrowStep.LoadsUsed file) = 1
events_before (GrowStep.ChargesBlocks file used) = 2
events_before (GrowStep.GrowsFile file) = 3
events_before GrowStep.RefundsBlocks = 4

module _ (c : Config) (file blocks : ℕ) where
  -- the grow at a step
  abbrev grow_of : GrowStep → Grow
  grow_of s = at_grow (first_grow c file blocks) s

  -- what its trace says at a phase: what it knows there, and that it has added nothing
  abbrev GrowAt : List Traced → Phase → List Action → Type 0
  GrowAt = CallAt Grow GrowStep TreePhase.Grow grow_of (λ seen s. GrowKnows seen (grow_of s) s) (λ s. []) (λ trace s. Unit {0}) events_before false

  -- each step keeps it, so its traces tell what is to be told, and are short
  pub grow_traces : TraceLaws c (Op.Grow file blocks)
  grow_traces = traces_given_reads (λ t. GrowAt) c (Op.Grow file blocks) (λ t. grind (arith, common_steps))
