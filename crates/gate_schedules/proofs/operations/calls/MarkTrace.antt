-- Traces of a page fault and of a write-back.
use Rattle.gate_schedules.proofs.Prelude.{Action, Bool, Config, List, Mark, MarkStep, Op, Phase, Traced, TreePhase, [], arith, common_steps, false}
use Rattle.gate_schedules.proofs.Prelude.{true, ℕ}
use Rattle.{gate_world.specs.Operations.first_mark, gated_tree.specs.Phases.at_mark}
use Rattle.gate_schedules.proofs.{operations.calls.Trace.CallAt, traces.TraceInvariant.{TraceLaws, traces_given_reads}}

-- how many steps one has done before a program point
abbrev events_before : MarkStep → ℕ
events_before MarkStep.LoadsFile = 0
events_before (MarkStep.MarksFile file) = 1

-- the operation: a page fault sets a file's mark, a write-back clears it
abbrev mark_op : ℕ → Bool → Op
mark_op file true = Op.Fault file
mark_op file false = Op.Flush file

module _ (c : Config) (file : ℕ) (dirty : Bool) where
  -- the mark at a step
  abbrev mark_of : MarkStep → Mark
  mark_of s = at_mark (first_mark dirty file) s

  -- what its trace says at a phase: it has added nothing
  abbrev MarkAt : List Traced → Phase → List Action → Type 0
  MarkAt = CallAt Mark MarkStep TreePhase.Mark mark_of (λ seen s. Unit {0}) (λ s. []) (λ trace s. Unit {0}) events_before false

  -- each step keeps it, so its traces tell what is to be told, and are short
  mark_traces : TraceLaws c (mark_op file dirty)
  mark_traces = traces_given_reads (λ t. MarkAt) c (mark_op file dirty) (λ t. grind (arith, common_steps))

pub fault_traces : (c : Config) (file : ℕ) → TraceLaws c (Op.Fault file)
fault_traces c file = mark_traces c file true

pub flush_traces : (c : Config) (file : ℕ) → TraceLaws c (Op.Flush file)
flush_traces c file = mark_traces c file false
