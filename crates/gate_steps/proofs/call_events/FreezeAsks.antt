-- The hooks that a freeze has asked, by its steps.
use Rattle.gate_steps.proofs.Prelude.{Action, Ask, Called, DealtNumbers, Done, Err, GateError, Go, HookAnswer, List, Next, Ok, Phase, Reply, Result}
use Rattle.gate_steps.proofs.Prelude.{SeatedTask, Wait, [], actions_after, after_of, ap, arith, asks_with, call_at, map_next, refl, suc, zero, ℕ, ◌∷◌}
use Rattle.gate_steps.proofs.Prelude.{◌≡◌}
use Rattle.std.proofs.Common.{false, inl, inr, true}
use Rattle.access_model.specs.declared.{actions.Holder.Holder, errors.GateError.TheVariants.Hook}
use Rattle.percpu_rwsem.specs.{Writers.down_write_after, declared.writers.{DownWrite.DownWrite, DownWriteStep.DownWriteStep}}
use Rattle.freeze_levels.specs.{Freezes.{after_closing, at_freeze, freeze_after}, declared.freezes.{Freeze.Freeze, FreezeStep.FreezeStep}}
use Rattle.freeze_levels.specs.declared.freezes.FreezeStep.TheVariants.{Cleans, Closes, GivesUp, Holds, LocksAgain, LocksToUndo, Releases, Reopens}
use Rattle.freeze_levels.specs.declared.freezes.FreezeStep.TheVariants.{SetsComplete, SetsFs, SetsPageFault, Undoes, Waits}
use Rattle.freeze_levels.specs.declared.hooks.HookCall.TheVariants.{FreezeFs as FreezeCall, KeepWaiting as KeepWaitingCall, Sync as SyncCall}
use Rattle.gate_world.specs.{declared.{operations.Op.TheVariants.Freeze as FreezeOp, work.Phase.TheVariants.Freezes}, traces.Traces.actions_of}
use Rattle.gate_steps.{proofs.call_events.Asked.{AskedAt, asked_by_call}, specs.call_events.Asked.{AskedBeforeSync, AskedByFreeze}}
use Rattle.gate_steps.specs.call_events.{Asked.{AskedByRefusedFreeze, AskedSinceSync, agreed, failed, stored_third_stage}, Asking.asks_of}

-- nothing was asked
abbrev NoneAsked : List Action → List Ask → Type 0
NoneAsked added asks = (stored_third_stage added ≡ false) × (asks ≡ [])

-- at most whether to wait, before `sync`
abbrev SyncComes : List Action → List Ask → Type 0
SyncComes added asks = (stored_third_stage added ≡ false) × AskedBeforeSync asks

-- `sync` was
abbrev SyncAsked : List Action → List Ask → Type 0
SyncAsked added asks = (stored_third_stage added ≡ true) × AskedSinceSync asks

-- while a level is closed
abbrev AtLevel : ℕ → List Action → List Ask → Type 0
AtLevel (suc zero) added asks = SyncComes added asks
AtLevel (suc (suc zero)) added asks = SyncComes added asks
AtLevel (suc (suc (suc zero))) added asks = SyncAsked added asks
AtLevel level added asks = ⊥

abbrev AtStep : FreezeStep → List Action → List Ask → Type 0
AtStep (Closes d) added asks = AtLevel d.level added asks
AtStep (Waits d) added asks = AtLevel d.level added asks
AtStep (Undoes level transition code) added asks = AskedByRefusedFreeze (Hook code) added asks
AtStep (LocksToUndo code) added asks = AskedByRefusedFreeze (Hook code) added asks
AtStep (GivesUp level code) added asks = AskedByRefusedFreeze (Hook code) added asks
AtStep LocksAgain added asks = SyncComes added asks
AtStep SetsPageFault added asks = SyncComes added asks
AtStep (Cleans marks) added asks = SyncComes added asks
AtStep SetsFs added asks = SyncComes added asks
AtStep SetsComplete added asks = SyncAsked added asks
AtStep (Holds beside) added asks = AskedByFreeze added asks
AtStep (Reopens u code) added asks = AskedByRefusedFreeze (Hook code) added asks
AtStep (Releases (Ok reply)) added asks = AskedByFreeze added asks
AtStep (Releases (Err refusal)) added asks = AskedByRefusedFreeze refusal added asks
AtStep step added asks = NoneAsked added asks

-- a step that closes no level and asks no hook
abbrev IsQuiet : FreezeStep → Type 0
IsQuiet (Closes d) = ⊥
IsQuiet (Waits d) = ⊥
IsQuiet SetsFs = ⊥
IsQuiet SetsComplete = ⊥
IsQuiet step = Unit {0}

abbrev AtPhase : Phase → List Action → List Ask → Type 0
AtPhase (Freezes x) added asks = AtStep x.step added asks
AtPhase phase added asks = ⊥

abbrev Tells : Result Reply GateError → List Action → List Ask → Type 0
Tells (Ok reply) added asks = AskedByFreeze added asks
Tells (Err refusal) added asks = AskedByRefusedFreeze refusal added asks

-- what comes next in the steps of a freeze
abbrev AtNext : Next Freeze → List Action → List Ask → Type 0
AtNext next added asks = AskedAt AtPhase Tells (map_next Freezes next) added asks

-- a closing goes on at its level
abbrev KeepsLevel : ℕ → Next DownWrite → Type 0
KeepsLevel level (Go d) = d.level ≡ level
KeepsLevel level (Wait d) = d.level ≡ level
KeepsLevel level (Done answer) = Unit {0}

closes_on : (d : DownWrite) (step : DownWriteStep) (found : ℕ) (added : List Action) → KeepsLevel d.level (down_write_after d step found).0 ×
    (stored_third_stage (actions_after (down_write_after d step found).1 added) ≡ stored_third_stage added)
closes_on d step found added = grind arith

-- what was asked at a level is so after a step of its closing, which stores no stage
closing_keeps : (x : Freeze) (level : ℕ) (next : Next DownWrite) (added later : List Action) (asks : List Ask) → KeepsLevel level next →
    stored_third_stage later ≡ stored_third_stage added → AtLevel level added asks → AtNext (after_closing x level next) later asks
closing_keeps x level next added later asks on same is = grind arith

-- one ask more whether to wait, which was agreed
waits_more : (level : ℕ) (added : List Action) (asks : List Ask) (at : DealtNumbers) → AtLevel level added asks →
    AtLevel level added (agreed (KeepWaitingCall level) at ∷ asks)
waits_more (suc zero) added asks at is = (is.0, ((1, at, omega arith, omega arith, refl), is.1))
waits_more (suc (suc zero)) added asks at is = (is.0, ((2, at, omega arith, omega arith, refl), is.1))
waits_more (suc (suc (suc zero))) added asks at is =
    let (first, later, earlier, asked, waited, before) = is.1 in (
      is.0,
      (
        first,
        agreed (KeepWaitingCall 3) at ∷ later,
        earlier,
        ap (λ l. agreed (KeepWaitingCall 3) at ∷ l) asked,
        ((3, at, omega arith, omega arith, refl), waited),
        before,
      ),
    )
waits_more level added asks at is = absurd is

-- and one that failed
fails_waiting : (level code : ℕ) (added : List Action) (asks : List Ask) (at : DealtNumbers) → AtLevel level added asks →
    AskedByRefusedFreeze (Hook code) added (failed (KeepWaitingCall level) code at ∷ asks)
fails_waiting (suc zero) code added asks at is = inr (is.0, (KeepWaitingCall 1, at, asks, refl, inr (inl refl), is.1))
fails_waiting (suc (suc zero)) code added asks at is = inr (is.0, (KeepWaitingCall 2, at, asks, refl, inr (inr refl), is.1))
fails_waiting (suc (suc (suc zero))) code added asks at is = inl (is.0, (KeepWaitingCall 3, at, asks, refl, inr refl, is.1))
fails_waiting level code added asks at is = absurd is

-- one step more of a freeze that closes no level and asks no hook
quiet_keeps : (x : Freeze) (step : FreezeStep) (found : ℕ) (hook : HookAnswer) (added : List Action) (asks : List Ask) → IsQuiet step →
    AtStep step added asks → AtNext (freeze_after x step found hook).0 (actions_after (freeze_after x step found hook).1 added) asks
quiet_keeps x step found hook added asks quiet is = grind arith

-- and of any
step_keeps : (x : Freeze) (step : FreezeStep) (found : ℕ) (hook : HookAnswer) (at : DealtNumbers) (added : List Action) (asks : List Ask) →
    AtStep step added asks → AtNext (freeze_after x step found hook).0 (actions_after (freeze_after x step found hook).1 added)
    (asks_with (call_at (Freezes (at_freeze x step))) at hook asks)
step_keeps x (Closes d) found hook at added asks is =
    let closes = closes_on d d.step found added in
    closing_keeps x d.level (down_write_after d d.step found).0 added (actions_after (down_write_after d d.step found).1 added) asks closes.0 closes.1 is
step_keeps x (Waits d) found (Ok agrees) at added asks is =
    let closes = closes_on d d.step found added in
    closing_keeps x d.level (down_write_after d d.step found).0 added (actions_after (down_write_after d d.step found).1 added)
    (agreed (KeepWaitingCall d.level) at ∷ asks) closes.0 closes.1 (waits_more d.level added asks at is)
step_keeps x (Waits d) found (Err code) at added asks is = fails_waiting d.level code added asks at is
step_keeps x SetsFs found (Ok agrees) at added asks is = (refl, (at, [], asks, refl, tt, is.1))
step_keeps x SetsFs found (Err code) at added asks is = inr (is.0, (SyncCall, at, asks, refl, inl refl, is.1))
step_keeps x SetsComplete found (Ok agrees) at added asks is = inl (is.0, (at, asks, refl, is.1))
step_keeps x SetsComplete found (Err code) at added asks is = inl (is.0, (FreezeCall, at, asks, refl, inl refl, is.1))
step_keeps x step found hook at added asks is = quiet_keeps x step found hook added asks tt is

keeps : (p : Phase) (found : ℕ) (hook : HookAnswer) (at : DealtNumbers) (added : List Action) (asks : List Ask) → AtPhase p added asks →
    AskedAt AtPhase Tells (after_of p found hook).0 (actions_after (after_of p found hook).1 added) (asks_with (call_at p) at hook asks)
keeps (Freezes x) found hook at added asks is = step_keeps x x.step found hook at added asks is
keeps p found hook at added asks is = absurd is

module _ (holder : Holder) (old left : SeatedTask) where
  -- of a freeze that was granted
  pub granted_freeze : (reply : Reply) (called : Called (FreezeOp holder) old left (Ok reply)) →
      AskedByFreeze (actions_of (FreezeOp holder) (Ok reply) called.trace) (asks_of old.config (FreezeOp holder) old.items called.trace)
  granted_freeze reply called = asked_by_call AtPhase Tells keeps (FreezeOp holder) old left (refl, refl) (Ok reply) called

  -- and of one that was refused
  pub refused_freeze : (refusal : GateError) (called : Called (FreezeOp holder) old left (Err refusal)) →
      AskedByRefusedFreeze refusal (actions_of (FreezeOp holder) (Err refusal) called.trace)
      (asks_of old.config (FreezeOp holder) old.items called.trace)
  refused_freeze refusal called = asked_by_call AtPhase Tells keeps (FreezeOp holder) old left (refl, refl) (Err refusal) called
