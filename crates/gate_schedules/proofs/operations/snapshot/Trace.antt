-- Traces of a snapshot.
use Rattle.gate_schedules.proofs.Prelude.{Action, Bool, Config, IsWithin, List, Op, Phase, Snapshot, SnapshotStep, Traced, TreePhase, [], arith, true}
use Rattle.gate_schedules.proofs.Prelude.{ℕ, ◌*◌, ◌+◌, ◌<◌, ◌≡◌}
use Rattle.{gate_world.specs.{Operations.first_snapshot, traces.Found.{each_event, finds_taken}}, gated_tree.specs.Phases.at_snapshot}
use Rattle.gate_schedules.proofs.{operations.calls.Trace.CallAt, traces.TraceInvariant.{IsInductiveGivenReads, TraceLaws, traces_given_reads}}
use Rattle.gate_schedules.specs.trees.Ends.{SnapshotKnows}

-- before `umount` is taken, each step has found it taken; after that, the node whose words a snapshot loads is one of the tree's
abbrev StepInvariant : Config → List Traced → SnapshotStep → Type 0
StepInvariant c trace SnapshotStep.Locks = each_event finds_taken trace ≡ true
StepInvariant c trace (SnapshotStep.LoadsNode node) = node < c.nodes
StepInvariant c trace (SnapshotStep.LoadsKids node) = node < c.nodes
StepInvariant c trace step = Unit {0}

-- how many steps a snapshot that doesn't wait has done before a program point, at most
abbrev events_before : Config → SnapshotStep → ℕ
events_before c SnapshotStep.Locks = 0
events_before c SnapshotStep.LoadsStage = 1
events_before c SnapshotStep.LoadsUsed = 2
events_before c (SnapshotStep.LoadsNode node) = node + 3
events_before c (SnapshotStep.LoadsKids node) = c.nodes + node + 3
events_before c (SnapshotStep.Releases answer) = 2 * c.nodes + 3

module _ (c : Config) (t : ℕ) (wait : Bool) where
  -- the snapshot at a step
  abbrev snapshot_of : SnapshotStep → Snapshot
  snapshot_of s = at_snapshot (first_snapshot c t wait) s

  -- what its trace says at a phase: what it knows there, and that it has added nothing
  abbrev SnapshotAt : List Traced → Phase → List Action → Type 0
  SnapshotAt = CallAt Snapshot SnapshotStep TreePhase.Snapshot snapshot_of (λ seen s. SnapshotKnows seen (snapshot_of s) s) (λ s. []) (StepInvariant c) (events_before c) wait

  -- and keeps it along
  snapshot_inductive : IsWithin c → IsInductiveGivenReads SnapshotAt c t (Op.Snapshot wait)
  snapshot_inductive lim = grind arith

pub snapshot_traces : (c : Config) (wait : Bool) → IsWithin c → TraceLaws c (Op.Snapshot wait)
snapshot_traces c wait lim = traces_given_reads (λ t. SnapshotAt c t wait) c (Op.Snapshot wait) (λ t. snapshot_inductive c t wait lim)
