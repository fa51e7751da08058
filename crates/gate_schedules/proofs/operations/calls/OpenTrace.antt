-- Traces of an open.
use Rattle.gate_schedules.proofs.Prelude.{Action, Config, List, Op, OpenFile, OpenStep, Phase, Traced, TreePhase, [], arith, common_steps, false, ℕ}
use Rattle.{gate_world.specs.Operations.first_open, gated_tree.specs.Phases.at_open}
use Rattle.gate_schedules.proofs.{operations.calls.Trace.CallAt, traces.TraceInvariant.{TraceLaws, traces_given_reads}}

-- how many steps an open has done before a program point
abbrev events_before : OpenStep → ℕ
events_before OpenStep.LoadsFile = 0
events_before (OpenStep.OpensFile file) = 1

module _ (c : Config) (file : ℕ) where
  -- the open at a step
  abbrev open_of : OpenStep → OpenFile
  open_of s = at_open (first_open file) s

  -- what its trace says at a phase: it has added nothing
  abbrev OpenAt : List Traced → Phase → List Action → Type 0
  OpenAt = CallAt OpenFile OpenStep TreePhase.OpenFile open_of (λ seen s. Unit {0}) (λ s. []) (λ trace s. Unit {0}) events_before false

  -- each step keeps it, so its traces tell what is to be told, and are short
  pub open_traces : TraceLaws c (Op.Open file)
  open_traces = traces_given_reads (λ t. OpenAt) c (Op.Open file) (λ t. grind (arith, common_steps))
