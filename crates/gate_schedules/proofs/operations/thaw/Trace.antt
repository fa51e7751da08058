-- Traces of a thaw.
use Rattle.gate_schedules.proofs.Prelude.{Action, Config, GateError, Holder, List, Op, Phase, Reply, Result, Thaw, ThawStep, Traced, UpWriteStep, []}
use Rattle.gate_schedules.proofs.Prelude.{actions_of, arith, false, suc, true, zero, ℕ, ◌-◌, ◌∷◌, ◌≡◌, ◌≤◌}
use Rattle.gate_world.specs.traces.{Found.{each_event, finds_taken, found_sealed, found_shared}, Traces.IsHonestAnswer}
use Rattle.gate_schedules.proofs.traces.TraceInvariant.{IsInductive}

-- a thaw by a task, at this step
abbrev thaw_of : ℕ → Holder → ThawStep → Thaw
thaw_of t holder step = record { task = t; holder = holder; step = step }

-- nothing is added yet, and neither was the superblock found read-only nor another holder
abbrev FoundNothing : Holder → List Traced → List Action → Type 0
FoundNothing holder trace added = (added ≡ []) × (found_sealed trace ≡ false) × (found_shared holder trace ≡ false)

-- what is added with the levels from 3 down to this one still closed: that its holder left, stage 0, and the levels above it reopened, the
-- highest first
abbrev opened_to : Holder → ℕ → List Action
opened_to holder zero = Action.Reopen 1 ∷ (Action.Reopen 2 ∷ (Action.Reopen 3 ∷ (Action.Stage 0 ∷ (Action.Leave holder ∷ []))))
opened_to holder (suc zero) = Action.Reopen 2 ∷ (Action.Reopen 3 ∷ (Action.Stage 0 ∷ (Action.Leave holder ∷ [])))
opened_to holder (suc (suc zero)) = Action.Reopen 3 ∷ (Action.Stage 0 ∷ (Action.Leave holder ∷ []))
opened_to holder (suc (suc (suc n))) = Action.Stage 0 ∷ (Action.Leave holder ∷ [])

-- a level is reopened by the first step of its up-write
abbrev opened : Holder → ℕ → UpWriteStep → List Action
opened holder level UpWriteStep.ClearsBlock = opened_to holder level
opened holder level (UpWriteStep.Exits transition) = opened_to holder (level - 1)

-- what is answered is told already
abbrev Answers : Config → Holder → Result Reply GateError → List Traced → List Action → Type 0
Answers c holder answer trace added = (added ≡ actions_of (Op.Thaw holder) answer trace) × IsHonestAnswer c (Op.Thaw holder) answer trace

-- what a trace says at a step: what was found and added
abbrev StepSays : Config → Holder → ThawStep → List Traced → List Action → Type 0
StepSays c holder ThawStep.Locks trace added = (each_event finds_taken trace ≡ true) × FoundNothing holder trace added
StepSays c holder (ThawStep.Leaves held) trace added = (added ≡ []) × (found_shared holder trace ≡ true)
StepSays c holder ThawStep.LeavesReadOnly trace added = (added ≡ []) × (found_sealed trace ≡ true) × (found_shared holder trace ≡ false)
StepSays c holder ThawStep.UnfreezesReadOnly trace added =
    (added ≡ Action.Leave holder ∷ []) × (found_sealed trace ≡ true) × (found_shared holder trace ≡ false)
StepSays c holder ThawStep.SetsUnfrozen trace added =
    (added ≡ Action.Leave holder ∷ []) × (found_sealed trace ≡ false) × (found_shared holder trace ≡ false)
StepSays c holder (ThawStep.Reopens u) trace added =
    (added ≡ opened holder u.level u.step) × ((found_sealed trace ≡ false) × (found_shared holder trace ≡ false)) × (1 ≤ u.level) × (u.level ≤ 3)
StepSays c holder (ThawStep.Releases answer) trace added = Answers c holder answer trace added
StepSays c holder other trace added = FoundNothing holder trace added

-- what a thaw's trace says at a phase
abbrev pub ThawAt : Config → ℕ → Holder → List Traced → Phase → List Action → Type 0
ThawAt c t holder trace phase added = (step : ThawStep) × (phase ≡ Phase.Thaws (thaw_of t holder step)) × StepSays c holder step trace added

pub thaw_inductive : (c : Config) (t : ℕ) (holder : Holder) → IsInductive (ThawAt c t holder) c t (Op.Thaw holder)
thaw_inductive c t holder = grind arith
