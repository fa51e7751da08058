-- Traces of a start and of an end. What is said of a down-read is said of it alone, so that an operation that goes through one as a part of
-- its own has it too, after so many steps of its own.
use Rattle.gate_schedules.proofs.Prelude.{Action, Bool, Config, Done, DownRead, DownReadStep, DownReads, Err, Go, HookAnswer, List, Next, Ok, Option}
use Rattle.gate_schedules.proofs.Prelude.{Phase, SyncWord, Traced, Wait, [], actions_after, arith, down_read_after, down_read_next, event_of, false}
use Rattle.gate_schedules.proofs.Prelude.{found_by, length, true, with_hook, ℕ, ◌+◌, ◌∷◌, ◌≡◌, ◌≤◌}
use Rattle.access_model.specs.declared.{actions.{Action.TheVariants.Grant, Gate.TheVariants.Level}, errors.GateError.TheVariants.Again}
use Rattle.gate_world.specs.declared.{operations.Op.TheVariants.{End, Start}, work.Phase.TheVariants.UpReads}
use Rattle.gate_world.specs.traces.{Found.{backed_off, finds_closed, found_closed, left_closed, newest}, TraceStates.WordIsValid}
use Rattle.percpu_rwsem.specs.{Readers.step_found, declared.readers.DownReadStep.TheVariants.{CountsDown, CountsUpFast, CountsUpSlow, EntersSection}}
use Rattle.percpu_rwsem.specs.declared.readers.DownReadStep.TheVariants.{LeavesAdmitted, LeavesBlocked, LoadsBlock, LoadsSync}
use Rattle.gate_schedules.proofs.traces.TraceInvariant.{IsInductive, IsInductiveGivenReads}

-- a down-read of this level, processor, task and wait, at a step
abbrev pub read_at : ℕ → ℕ → ℕ → Bool → DownReadStep → DownRead
read_at i p t wait s = record { level = i; cpu = p; task = t; wait = wait; step = s }

-- how many steps a down-read that waits for nobody has done before a program point, at most
abbrev pub events_before : DownReadStep → ℕ
events_before EntersSection = 0
events_before LoadsSync = 1
events_before CountsUpFast = 2
events_before CountsUpSlow = 2
events_before LoadsBlock = 3
events_before CountsDown = 4
events_before LeavesAdmitted = 4
events_before LeavesBlocked = 5

-- it has added its grant before it leaves its section with it, and nothing before any other step
abbrev pub read_added : ℕ → DownReadStep → List Action
read_added i LeavesAdmitted = Grant (Level i) ∷ []
read_added i s = []

-- one that takes its count back has just found the level closed, and one that leaves its section blocked has just taken it back
abbrev pub HasFound : ℕ → DownReadStep → List Traced → Type 0
HasFound i CountsDown trace = (newest (finds_closed i) trace ≡ true) × (found_closed i trace ≡ true)
HasFound i LeavesBlocked trace = (backed_off i trace ≡ true) × (found_closed i trace ≡ true)
HasFound i s trace = Unit {0}

-- what the trace says at a program point, where the down-read came after so many steps
abbrev pub ReadSays : ℕ → ℕ → Bool → DownReadStep → List Traced → List Action → Type 0
ReadSays base i wait s trace added =
    (added ≡ read_added i s) × (wait ≡ false → length trace ≤ base + events_before s) × HasFound i s trace

-- What the trace says by what comes after a step of a down-read, whatever operation it stands in: the next program point's, where it waits that it
-- left the level closed, where it ends well its grant, and where it is refused that it found the level closed and doesn't wait.
abbrev pub ReadNext : ℕ → ℕ → ℕ → ℕ → Bool → List Traced → List Action → Next DownRead → Type 0
ReadNext base i p t wait trace added (Go r) = (s : DownReadStep) × (r ≡ read_at i p t wait s) × ReadSays base i wait s trace added
ReadNext base i p t wait trace added (Wait r) =
    ((s : DownReadStep) × (r ≡ read_at i p t wait s) × ReadSays base i wait s trace added) × (wait ≡ true) × (left_closed i trace ≡ true)
ReadNext base i p t wait trace added (Done (Ok reply)) = (added ≡ Grant (Level i) ∷ []) × (wait ≡ false → length trace ≤ base + 5)
ReadNext base i p t wait trace added (Done (Err Again)) =
    (added ≡ []) × ((wait ≡ false) × (found_closed i trace ≡ true)) × (wait ≡ false → length trace ≤ base + 6)
ReadNext base i p t wait trace added (Done (Err refusal)) = ⊥

-- what holds of another load too holds of the step that any number leads to
pub by_word : (P : DownReadStep → Type 0) → P LoadsSync → P CountsUpFast → P CountsUpSlow → (word : Option SyncWord) → P (step_found word)
by_word P again fast slow word = grind arith

module _ (base i p t : ℕ) (value : ℕ) (hook : HookAnswer) (earlier : List Traced) (added : List Action) where
  -- what the trace says after the step at a program point
  abbrev pub TraceAfterStep : Bool → DownReadStep → Type 0
  TraceAfterStep wait s =
      let r : DownRead = read_at i p t wait s in
      let found : ℕ = found_by (down_read_next r s).1 value in
      ReadNext base i p t wait (with_hook (event_of (down_read_next r s).0 (down_read_next r s).1 value) hook ∷ earlier)
      (actions_after (down_read_after r s found).1 added) (down_read_after r s found).0

  -- each step of a down-read keeps what its trace says: its sync word is one, so it is loaded once
  pub read_event : (wait : Bool) (s : DownReadStep) → WordIsValid (down_read_next (read_at i p t wait s) s).0 value →
      ReadSays base i wait s earlier added → TraceAfterStep wait s
  read_event wait s may h = grind arith

-- what a start's trace says at a phase
abbrev pub StartAt : ℕ → ℕ → ℕ → Bool → List Traced → Phase → List Action → Type 0
StartAt i p t wait trace phase added = (s : DownReadStep) × (phase ≡ DownReads (read_at i p t wait s)) × ReadSays 0 i wait s trace added

-- so it is kept along every trace of a start
pub start_inductive : (c : Config) (t i p : ℕ) (wait : Bool) → IsInductiveGivenReads (StartAt i p t wait) c t (Start i p wait)
start_inductive c t i p wait = grind arith

-- what an end's trace says at a phase
abbrev pub EndAt : ℕ → ℕ → List Traced → Phase → List Action → Type 0
EndAt i p trace phase added = (phase ≡ UpReads (record { level = i; cpu = p })) × (trace ≡ []) × (added ≡ [])

-- its one step is its last
pub end_inductive : (c : Config) (t i p : ℕ) → IsInductive (EndAt i p) c t (End i p)
end_inductive c t i p = grind arith
