-- The hook that a remount has asked, by its steps.
use Rattle.gate_steps.proofs.Prelude.{Action, Ask, Bool, Called, DealtNumbers, Err, GateError, HookAnswer, List, None, Ok, Phase, Reply, Result}
use Rattle.gate_steps.proofs.Prelude.{SeatedTask, [], actions_after, after_of, arith, asks_of, asks_with, call_at, inr, map_next, refl, ℕ, ◌∷◌, ◌≡◌}
use Rattle.freeze_levels.specs.declared.hooks.HookCall.TheVariants.{Reconfigure as ReconfigureCall}
use Rattle.gate_world.specs.{Roles.remount_hook, declared.{operations.Op.TheVariants.RemountSb, work.Phase.TheVariants.Remounts}}
use Rattle.mount_counts.specs.{Remounts.{at_remount, remount_after}, declared.remounts.{Remount.Remount, RemountStep.RemountStep}}
use Rattle.mount_counts.specs.declared.remounts.RemountStep.TheVariants.{ClearsRemount, Releases, SetsReadOnly, SetsWritable}
use Rattle.gate_steps.proofs.call_events.Asked.{AskedAt, asked_by_call}
use Rattle.gate_steps.specs.call_events.Asked.{AskedByRefused, AtMostAsked, OnceAsked, agreed, failed}

module _ (read_only : Bool) where
  -- it asks for this state
  abbrev AtStep : RemountStep → List Ask → Type 0
  AtStep ClearsRemount asks = OnceAsked (ReconfigureCall read_only) asks
  AtStep (Releases (Ok reply)) asks = AtMostAsked (ReconfigureCall read_only) asks
  AtStep (Releases (Err refusal)) asks = AskedByRefused (ReconfigureCall read_only) refusal asks
  AtStep step asks = asks ≡ []

  abbrev AtPhase : Phase → List Action → List Ask → Type 0
  AtPhase (Remounts x) added asks = (x.read_only ≡ read_only) × AtStep x.step asks
  AtPhase phase added asks = ⊥

  abbrev Tells : Result Reply GateError → List Action → List Ask → Type 0
  Tells (Ok reply) added asks = AtMostAsked (ReconfigureCall read_only) asks
  Tells (Err refusal) added asks = AskedByRefused (ReconfigureCall read_only) refusal asks

  -- one step more that asks no hook
  quiet_keeps : (x : Remount) (step : RemountStep) (found : ℕ) (hook : HookAnswer) (added : List Action) (asks : List Ask) →
      remount_hook step ≡ None → x.read_only ≡ read_only → AtStep step asks →
      AskedAt AtPhase Tells (map_next Remounts (remount_after x step found hook).0) (actions_after (remount_after x step found hook).1 added) asks
  quiet_keeps x step found hook added asks quiet same is = grind arith

  -- and of any
  step_keeps : (x : Remount) (step : RemountStep) (found : ℕ) (hook : HookAnswer) (at : DealtNumbers) (added : List Action) (asks : List Ask) →
      x.read_only ≡ read_only → AtStep step asks →
      AskedAt AtPhase Tells (map_next Remounts (remount_after x step found hook).0) (actions_after (remount_after x step found hook).1 added)
      (asks_with (call_at (Remounts (at_remount x step))) at hook asks)
  step_keeps x SetsWritable found (Ok agrees) at added asks same is = (same, inr (at, λ i. agreed (ReconfigureCall (same i)) at ∷ is i))
  step_keeps x SetsWritable found (Err code) at added asks same is = (at, λ i. failed (ReconfigureCall (same i)) code at ∷ is i)
  step_keeps x SetsReadOnly found (Ok agrees) at added asks same is = (same, (at, λ i. agreed (ReconfigureCall (same i)) at ∷ is i))
  step_keeps x SetsReadOnly found (Err code) at added asks same is = (same, (at, λ i. failed (ReconfigureCall (same i)) code at ∷ is i))
  step_keeps x step found hook at added asks same is = quiet_keeps x step found hook added asks refl same is

  keeps : (p : Phase) (found : ℕ) (hook : HookAnswer) (at : DealtNumbers) (added : List Action) (asks : List Ask) → AtPhase p added asks →
      AskedAt AtPhase Tells (after_of p found hook).0 (actions_after (after_of p found hook).1 added) (asks_with (call_at p) at hook asks)
  keeps (Remounts x) found hook at added asks is = step_keeps x x.step found hook at added asks is.0 is.1
  keeps p found hook at added asks is = absurd is

  module _ (old left : SeatedTask) where
    -- of a remount that was granted
    pub granted_remount : (reply : Reply) (called : Called (RemountSb read_only) old left (Ok reply)) →
        AtMostAsked (ReconfigureCall read_only) (asks_of old.config (RemountSb read_only) old.items called.trace)
    granted_remount reply called = asked_by_call AtPhase Tells keeps (RemountSb read_only) old left (refl, refl) (Ok reply) called

    -- and of one that was refused
    pub refused_remount : (refusal : GateError) (called : Called (RemountSb read_only) old left (Err refusal)) →
        AskedByRefused (ReconfigureCall read_only) refusal (asks_of old.config (RemountSb read_only) old.items called.trace)
    refused_remount refusal called = asked_by_call AtPhase Tells keeps (RemountSb read_only) old left (refl, refl) (Err refusal) called
