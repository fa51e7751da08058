-- Traces of a create.
use Rattle.gate_schedules.proofs.Prelude.{Action, Config, Create, CreateStep, IsWithin, Kind, List, Op, Phase, Traced, TreePhase, [], arith}
use Rattle.gate_schedules.proofs.Prelude.{common_steps, false, ℕ, ◌+◌, ◌<◌}
use Rattle.{gate_world.specs.Operations.first_create, gated_tree.specs.Phases.at_create}
use Rattle.gate_schedules.proofs.{operations.calls.Trace.CallAt, traces.TraceInvariant.{TraceLaws, traces_given_reads}}
use Rattle.gate_schedules.specs.trees.Ends.{CreateKnows}

-- the node that a create loads is one of the tree's
abbrev StepInvariant : Config → List Traced → CreateStep → Type 0
StepInvariant c trace (CreateStep.LoadsNode node) = node < c.nodes
StepInvariant c trace step = Unit {0}

-- how many steps a create has done before a program point, at most
abbrev events_before : Config → CreateStep → ℕ
events_before c CreateStep.LoadsDirectory = 0
events_before c (CreateStep.LoadsNode node) = node
events_before c (CreateStep.ChargesChild node) = c.nodes
events_before c (CreateStep.TakesNode node) = c.nodes + 1
events_before c CreateStep.RefundsChild = c.nodes + 2

module _ (c : Config) (d : ℕ) (kind : Kind) where
  -- the create at a step
  abbrev create_of : CreateStep → Create
  create_of s = at_create (first_create c d kind) s

  -- what its trace says at a phase: what it knows there, and that it has added nothing
  abbrev CreateAt : List Traced → Phase → List Action → Type 0
  CreateAt = CallAt Create CreateStep TreePhase.Create create_of (λ seen s. CreateKnows seen (create_of s) s) (λ s. []) (StepInvariant c) (events_before c) false

  -- each step keeps it, so its traces tell what is to be told, and are short
  pub create_traces : IsWithin c → TraceLaws c (Op.Create d kind)
  create_traces lim = traces_given_reads (λ t. CreateAt) c (Op.Create d kind) (λ t. grind (arith, common_steps))
