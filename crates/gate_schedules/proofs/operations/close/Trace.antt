-- Traces of a close: that of its down-read of level 3, where it is a last one, between its own steps.
use Rattle.gate_schedules.proofs.Prelude.{Action, Bool, ClosePhase, Config, DownReadStep, Gate, List, Op, Phase, Traced, [], arith, common_steps}
use Rattle.gate_schedules.proofs.Prelude.{false, length, true, ℕ, ◌∷◌, ◌≡◌, ◌≤◌}
use Rattle.gate_world.specs.{Operations.first_close, traces.Found.found_dropped}
use Rattle.gate_schedules.proofs.{frames.OperationLaws.OpLaws, operations.{close.Beginning.close_op_from, readers.Trace.{ReadSays, read_at}}}
use Rattle.gate_schedules.proofs.traces.TraceInvariant.{IsInductiveGivenReads, traces_given_reads}

-- what a last close has added inside level 3: its grant, and then its action, too
abbrev entered : List Action
entered = Action.Grant (Gate.Level 3) ∷ []

abbrev freed : ℕ → List Action
freed file = Action.Close file ∷ entered

module _ (file p t : ℕ) (wait : Bool) where
  -- What a trace says of what was added, whether a step was on `removed`, and how many steps there are at most, where the close doesn't
  -- wait.
  abbrev HasAdded : List Action → Bool → ℕ → List Traced → List Action → Type 0
  HasAdded actions dropped most trace added =
      (added ≡ actions) × (found_dropped trace ≡ dropped) × (wait ≡ false → length trace ≤ most)

  -- What a trace says, by where the close stands. Inside level 3 it has one step and those of a down-read, at most five, before it frees
  -- its file.
  abbrev CloseSays : ClosePhase → List Traced → List Action → Type 0
  CloseSays (ClosePhase.LoadsFile x) trace added = (x ≡ first_close file p t wait) × (trace ≡ []) × (added ≡ [])
  CloseSays (ClosePhase.LowersCount x node) trace added = (x ≡ first_close file p t wait) × HasAdded [] false 1 trace added
  CloseSays (ClosePhase.Enters f node r) trace added =
      (f ≡ file) × ((s : DownReadStep) × (r ≡ read_at 3 p t wait s) × ReadSays 1 3 wait s trace added) × (found_dropped trace ≡ false)
  CloseSays (ClosePhase.FreesNode f q node) trace added = (f ≡ file) × HasAdded entered false 6 trace added
  CloseSays (ClosePhase.RefundsBlocks q blocks) trace added = HasAdded (freed file) false 7 trace added
  CloseSays (ClosePhase.Uncounts q) trace added = HasAdded (freed file) false 8 trace added
  CloseSays (ClosePhase.Leaves q) trace added = HasAdded (freed file) true 9 trace added

  -- what it says at a phase
  abbrev CloseAt : List Traced → Phase → List Action → Type 0
  CloseAt trace phase added = (x : ClosePhase) × (phase ≡ Phase.Closes x) × CloseSays x trace added

pub close_inductive : (c : Config) (file p t : ℕ) (wait : Bool) → IsInductiveGivenReads (CloseAt file p t wait) c t (Op.Close file p wait)
close_inductive c file p t wait = grind (arith, common_steps)

pub close_op : (c : Config) (file p : ℕ) (wait : Bool) → OpLaws c (Op.Close file p wait)
close_op c file p wait =
    close_op_from c file p wait
    (traces_given_reads (λ t. CloseAt file p t wait) c (Op.Close file p wait) (λ t. close_inductive c file p t wait))
