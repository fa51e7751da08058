-- The hook that a thaw has asked, by its steps.
use Rattle.gate_steps.proofs.Prelude.{Action, Ask, Called, DealtNumbers, Err, GateError, HookAnswer, List, None, Ok, Phase, Reply, Result, SeatedTask}
use Rattle.gate_steps.proofs.Prelude.{[], actions_after, after_of, ap, arith, asks_with, call_at, map_next, refl, ℕ, ◌∷◌, ◌≡◌}
use Rattle.access_model.specs.declared.actions.Holder.{Holder}
use Rattle.freeze_levels.specs.{Thaws.{at_thaw, thaw_after, thaw_hook}, declared.hooks.HookCall.TheVariants.UnfreezeFs as UnfreezeCall}
use Rattle.freeze_levels.specs.declared.thaws.{Thaw.Thaw, ThawStep.{ThawStep, TheVariants.{LeavesLast, Releases, Reopens, SetsUnfrozen}}}
use Rattle.gate_world.specs.declared.{operations.Op.TheVariants.Thaw as ThawOp, work.Phase.TheVariants.Thaws}
use Rattle.gate_steps.{proofs.call_events.Asked.{AskedAt, asked_by_call}, specs.call_events.Asked.{AskedByRefused, AtMostAsked, OnceAsked, agreed}}
use Rattle.gate_steps.specs.call_events.{Asked.failed, Asking.asks_of}

abbrev AtStep : ThawStep → List Ask → Type 0
AtStep SetsUnfrozen asks = OnceAsked UnfreezeCall asks
AtStep (Reopens u) asks = OnceAsked UnfreezeCall asks
AtStep (Releases (Ok reply)) asks = AtMostAsked UnfreezeCall asks
AtStep (Releases (Err refusal)) asks = AskedByRefused UnfreezeCall refusal asks
AtStep step asks = asks ≡ []

abbrev AtPhase : Phase → List Action → List Ask → Type 0
AtPhase (Thaws x) added asks = AtStep x.step asks
AtPhase phase added asks = ⊥

abbrev Tells : Result Reply GateError → List Action → List Ask → Type 0
Tells (Ok reply) added asks = AtMostAsked UnfreezeCall asks
Tells (Err refusal) added asks = AskedByRefused UnfreezeCall refusal asks

-- one step more that asks no hook
quiet_keeps : (x : Thaw) (step : ThawStep) (found : ℕ) (hook : HookAnswer) (added : List Action) (asks : List Ask) → thaw_hook step ≡ None →
    AtStep step asks → AskedAt AtPhase Tells (map_next Thaws (thaw_after x step found hook).0) (actions_after (thaw_after x step found hook).1 added) asks
quiet_keeps x step found hook added asks quiet is = grind arith

-- and of any
step_keeps : (x : Thaw) (step : ThawStep) (found : ℕ) (hook : HookAnswer) (at : DealtNumbers) (added : List Action) (asks : List Ask) →
    AtStep step asks → AskedAt AtPhase Tells (map_next Thaws (thaw_after x step found hook).0)
    (actions_after (thaw_after x step found hook).1 added) (asks_with (call_at (Thaws (at_thaw x step))) at hook asks)
step_keeps x LeavesLast found (Ok agrees) at added asks is = (at, ap (λ l. agreed UnfreezeCall at ∷ l) is)
step_keeps x LeavesLast found (Err code) at added asks is = (at, ap (λ l. failed UnfreezeCall code at ∷ l) is)
step_keeps x step found hook at added asks is = quiet_keeps x step found hook added asks refl is

keeps : (p : Phase) (found : ℕ) (hook : HookAnswer) (at : DealtNumbers) (added : List Action) (asks : List Ask) → AtPhase p added asks →
    AskedAt AtPhase Tells (after_of p found hook).0 (actions_after (after_of p found hook).1 added) (asks_with (call_at p) at hook asks)
keeps (Thaws x) found hook at added asks is = step_keeps x x.step found hook at added asks is
keeps p found hook at added asks is = absurd is

module _ (holder : Holder) (old left : SeatedTask) where
  -- of a thaw that was granted
  pub granted_thaw : (reply : Reply) (called : Called (ThawOp holder) old left (Ok reply)) →
      AtMostAsked UnfreezeCall (asks_of old.config (ThawOp holder) old.items called.trace)
  granted_thaw reply called = asked_by_call AtPhase Tells keeps (ThawOp holder) old left refl (Ok reply) called

  -- and of one that was refused
  pub refused_thaw : (refusal : GateError) (called : Called (ThawOp holder) old left (Err refusal)) →
      AskedByRefused UnfreezeCall refusal (asks_of old.config (ThawOp holder) old.items called.trace)
  refused_thaw refusal called = asked_by_call AtPhase Tells keeps (ThawOp holder) old left refl (Err refusal) called
