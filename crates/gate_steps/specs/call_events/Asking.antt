-- The hooks that an operation asks: which, at which moment, and with what answer.
use Rattle.std.specs.Prelude.{Bool, List, None, Option, Result, Some, [], false, option_map, ℕ, ◌+◌, ◌∷◌, ◌≡◌}
use Rattle.access_model.specs.declared.{errors.GateError.GateError, replies.{Next.{Next, TheVariants.{Done, Go, Wait}}, Reply.Reply}}
use Rattle.cpu_words.specs.Hooks.{HookAnswer}
use Rattle.freeze_levels.specs.declared.{freezes.FreezeStep.{FreezeStep, TheVariants.Waits}, hooks.HookCall.HookCall}
use Rattle.freeze_levels.specs.declared.hooks.HookCall.TheVariants.{FreezeFs as FreezeCall, KeepWaiting as KeepWaitingCall}
use Rattle.freeze_levels.specs.declared.hooks.HookCall.TheVariants.{Reconfigure as ReconfigureCall, Sync as SyncCall, UnfreezeFs as UnfreezeCall}
use Rattle.freeze_levels.specs.declared.hooks.HookKind.{HookKind, TheVariants.{FreezeFs, KeepWaiting, Reconfigure, Sync, UnfreezeFs}}
use Rattle.gate_world.specs.{Work.hook_of, declared.{config.Config.Config, operations.Op.Op, views.Traced.Traced, work.Phase.Phase}}
use Rattle.gate_world.specs.{declared.work.Phase.TheVariants.{Freezes, Remounts}, traces.TraceStates.state_of_trace}
use Rattle.gate_steps.specs.{Seating.DealtNumbers, call_events.Runs.{Called, OpUnderWay, Replies, items_at, unit_of}}
use Rattle.gate_steps.specs.call_events.{SeatedTasks.{SeatedTask, own_number, refusal_at}, Waited.{counted, waits_in}}

-- the state for which a remount asks; nothing else asks for one
abbrev pub state_at : Phase → Bool
state_at (Remounts x) = x.read_only
state_at phase = false

-- the level that a freeze waits for at a step; at no other step it asks whether to wait
abbrev pub level_waited : FreezeStep → ℕ
level_waited (Waits d) = d.level
level_waited step = 0

abbrev pub level_at : Phase → ℕ
level_at (Freezes x) = level_waited x.step
level_at phase = 0

-- the call of a hook at a phase
abbrev pub call_of : Phase → HookKind → HookCall
call_of phase Sync = SyncCall
call_of phase FreezeFs = FreezeCall
call_of phase UnfreezeFs = UnfreezeCall
call_of phase Reconfigure = ReconfigureCall (state_at phase)
call_of phase KeepWaiting = KeepWaitingCall (level_at phase)

-- the hook whose answer the next step of a phase reads, with what it is asked
abbrev pub call_at : Phase → Option HookCall
call_at phase = option_map (call_of phase) (hook_of phase)

-- the same where an operation stands
abbrev pub next_call : Next Phase → Option HookCall
next_call (Go phase) = call_at phase
next_call (Wait phase) = call_at phase
next_call (Done answer) = None

-- A hook that was asked, the numbers of the task that asked as they stood then, and its answer.
pub record Ask : Type 0 where
  pub call : HookCall
  pub at : DealtNumbers
  pub answer : HookAnswer

-- one ask more, where a hook was asked
abbrev pub asks_with : Option HookCall → DealtNumbers → HookAnswer → List Ask → List Ask
asks_with None at answer earlier = earlier
asks_with (Some call) at answer earlier = record { call = call; at = at; answer = answer } ∷ earlier

-- The hooks whose answers the steps of a trace read, the newest first: each was asked where the steps before had led, with the answer that
-- stands in the trace.
abbrev pub asks_of : Config → Op → DealtNumbers → List Traced → List Ask
asks_of c op items [] = []
asks_of c op items (e ∷ earlier) =
    asks_with (next_call (state_of_trace c (own_number items) op earlier).comes) (items_at c op earlier items) e.hook (asks_of c op items earlier)

-- the hooks were asked just these, each once, in this order
abbrev pub WereAsked : {H : Type 0} → (HookCall → DealtNumbers → H → HookAnswer → H → Type 0) → List Ask → H → H → Type 0
WereAsked {H} answers [] old new = new ≡ old
WereAsked {H} answers (a ∷ earlier) old new = (mid : H) × WereAsked answers earlier old mid × answers a.call a.at mid a.answer new

-- an operation under way, of whose steps these read an answer, and so many came to a wait
abbrev pub OpUnderWayWith : List Ask → ℕ → Op → SeatedTask → SeatedTask → Type 0
OpUnderWayWith asks waits op start now = (goes : OpUnderWay op start now) × (asks_of start.config op start.items goes.trace ≡ asks)
    × (waits_in start.config (own_number start.items) op goes.trace ≡ waits)

-- one that was done whole
abbrev pub CalledWith : List Ask → ℕ → Op → SeatedTask → SeatedTask → Result Reply GateError → Type 0
CalledWith asks waits op start left answer = (called : Called op start left answer)
    × (asks_of start.config op start.items called.trace ≡ asks)
    × (waits_in start.config (own_number start.items) op called.trace ≡ waits)

-- the same by what comes after the last step, before which so many came to a wait
abbrev pub OpAfterStepWith : List Ask → ℕ → Op → SeatedTask → Next Phase → SeatedTask → Type 0
OpAfterStepWith asks waits op start (Go phase) now = OpUnderWayWith asks waits op start now
OpAfterStepWith asks waits op start (Wait phase) now = OpUnderWayWith asks (waits + 1) op start now
OpAfterStepWith asks waits op start (Done answer) now = CalledWith asks waits op start now answer

-- an operation under way, which has asked just the hooks whose answers its steps read
abbrev pub OpUnderWayAsking : {H : Type 0} → (HookCall → DealtNumbers → H → HookAnswer → H → Type 0) → ℕ → Op → SeatedTask → H → SeatedTask → H → Type 0
OpUnderWayAsking answers waits op start before now hooks =
    (asks : List Ask) × OpUnderWayWith asks waits op start now × WereAsked answers asks before hooks

-- the same by what comes after the last step
abbrev pub OpAfterStepAsking : {H : Type 0} → (HookCall → DealtNumbers → H → HookAnswer → H → Type 0) → ℕ → Op → SeatedTask → H → Next Phase →
    SeatedTask → H → Type 0
OpAfterStepAsking answers waits op start before next now hooks =
    (asks : List Ask) × OpAfterStepWith asks waits op start next now × WereAsked answers asks before hooks

-- one that was done whole, has asked just these, and tells how many of its steps came to a wait
abbrev pub CalledAsking : {H : Type 0} → (HookCall → DealtNumbers → H → HookAnswer → H → Type 0) → Op → SeatedTask → H → SeatedTask →
    Result Reply GateError → ℕ → H → Type 0
CalledAsking answers op start before left answer waited hooks =
    (called : Called op start left answer) × WereAsked answers (asks_of start.config op start.items called.trace) before hooks
    × (waited ≡ counted (waits_in start.config (own_number start.items) op called.trace))

-- A call that asks hooks. Where its beginning is refused, none is asked; else just those are whose answers the steps of its trace read, each
-- once, in their order, where the steps before had led, with the answer that stands in the trace.
pub record RepliesAsking {A H : Type 0} (answers : HookCall → DealtNumbers → H → HookAnswer → H → Type 0) (read : Reply → A) (op : Op)
    (old left : SeatedTask) (outcome : Result A GateError) (before hooks : H) : Type 0 where
  pub replies : Replies read op old left outcome
  pub refused : (refusal : GateError) → refusal_at op old ≡ Some refusal → hooks ≡ before
  pub asked : (admitted : refusal_at op old ≡ None) →
      WereAsked answers (asks_of old.config op old.items (replies.done admitted).2.trace) before hooks

-- the same of a call that tells only whether the operation was done
abbrev pub PerformsAsking : {H : Type 0} → (HookCall → DealtNumbers → H → HookAnswer → H → Type 0) → Op → SeatedTask → SeatedTask →
    Result (Unit {0}) GateError → H → H → Type 0
PerformsAsking answers op old left outcome before hooks = RepliesAsking answers unit_of op old left outcome before hooks
