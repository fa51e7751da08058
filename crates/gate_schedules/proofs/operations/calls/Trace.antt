-- What the trace of a call at the tree says at a phase, whichever call it is.
use Rattle.gate_schedules.proofs.Prelude.{Action, Bool, Event, List, Phase, Traced, TreePhase, false, length, ℕ, ◌≡◌, ◌≤◌}
use Rattle.gate_world.specs.traces.Found.{SeenIn}

-- A kind of call: its steps and what it is at each, as a phase of the tree; what it knows and has added there, what its trace says
-- besides, and after how many steps it is there at most where it doesn't wait.
module _ (P S : Type 0) (to : P → TreePhase) (at : S → P) (Knows : ((Event → Bool) → Type 0) → S → Type 0) (so_far : S → List Action)
    (Is : List Traced → S → Type 0) (done : S → ℕ) (waits : Bool) where
  -- what the trace of a call says at a step
  abbrev pub CallSays : List Traced → S → List Action → Type 0
  CallSays trace s added =
      Is trace s × Knows (SeenIn trace) s × (added ≡ so_far s) × (waits ≡ false → length trace ≤ done s)

  -- the same at a phase
  abbrev pub CallAt : List Traced → Phase → List Action → Type 0
  CallAt trace phase added = (s : S) × (phase ≡ Phase.Trees (to (at s))) × CallSays trace s added
