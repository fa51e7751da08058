-- With an operation under way, a reply is near, or the file system is frozen as a whole, or a freeze is blocked by an idle task.
use Rattle.gate_schedules.proofs.Prelude.{Bool, ChangeStep, ClosePhase, Config, EventsKeepRule, Freeze, FreezeStep, IsGood, IsWithin, MountPhase}
use Rattle.gate_schedules.proofs.Prelude.{None, Option, Phase, PhaseFits, RemountStep, Some, Stages, ThawStep, TreePhase, World, WritePhase, ap}
use Rattle.gate_schedules.proofs.Prelude.{arith, false, freeze_stage_role, held_of, inl, inr, is_frozen_whole, refl, remount_stage_role}
use Rattle.gate_schedules.proofs.Prelude.{stage_role_of, stage_roles, true, ℕ, ◌&&◌, ◌<◌, ◌==◌, ◌∙◌, ◌≡◌, ◌≤◌, ◌⊎◌}
use Rattle.std.proofs.lemmas.Bool.{lt-leb}
use Rattle.{finite_sums.proofs.Totals.{HasPlace, total_place}, freeze_laws.specs.stages.Roles.{bit, closed_by, closes, up_to}}
use Rattle.gate_world.specs.Roles.{thaw_stage_role, tree_stage_role}
use Rattle.gate_schedules.proofs.operations.{AllOperations.phase_ends, deadlocks.{BlockedOrProgress.world_goes, WhoCanStep.fits_at}}
use Rattle.gate_schedules.specs.operations.Progress.{AFreezeIsKept, ChangeIsBlocked, FreezeIsBlocked, HeldLevelAhead, IsBlockedAt, Progresses}
use Rattle.gate_schedules.specs.operations.{Progress.{RemountIsBlocked, ReplyOrFrozen, ThawIsBlocked, TreeIsBlocked}, Ranks.most_events_to_reply}

up_to_none : (i : ℕ) → 1 ≤ i → up_to i 0 ≡ 0
up_to_none i one = rw (lt-leb i 0 one)

remount_none : (nodes : ℕ) (s : RemountStep) → closed_by (remount_stage_role nodes s) ≡ 0
remount_none nodes s = grind arith

tree_none : (x : TreePhase) → closed_by (tree_stage_role x) ≡ 0
tree_none x = grind arith

-- who has a level closed is a freeze that is past its lock, or a thaw that is
closer_kept : (c : Config) (w : World) (i : ℕ) → 1 ≤ i → (phase : Phase) → (closes i (stage_role_of (Some phase)) ≡ 0 → ⊥) →
    IsBlockedAt c w phase → (x : Freeze) × (phase ≡ Phase.Freezes x) × HeldLevelAhead c w x.step
closer_kept c w i one (Phase.Remounts x) some k = absurd (some (ap (up_to i) (remount_none x.nodes x.step) ∙ up_to_none i one))
closer_kept c w i one (Phase.Freezes x) some k = (x, refl, freeze_kept x.step some k)
  where
    freeze_kept : (s : FreezeStep) → (closes i (freeze_stage_role x.nodes s) ≡ 0 → ⊥) → FreezeIsBlocked c w s → HeldLevelAhead c w s
    freeze_kept FreezeStep.Locks h k = absurd (h (up_to_none i one))
    freeze_kept s h k = k
closer_kept c w i one (Phase.Thaws x) some k = absurd (thaw_kept x.step some k)
  where
    thaw_kept : (s : ThawStep) → (closes i (thaw_stage_role s) ≡ 0 → ⊥) → ThawIsBlocked c w s → ⊥
    thaw_kept ThawStep.Locks h k = h (up_to_none i one)
    thaw_kept s h k = k
closer_kept c w i one (Phase.Trees x) some k = absurd (some (ap (up_to i) (tree_none x) ∙ up_to_none i one))
closer_kept c w i one phase some k = absurd (some (up_to_none i one))

full_or : (b : Bool) → (bit b ≡ 0) ⊎ (bit b ≡ 1)
full_or true = inr refl
full_or false = inl refl

module _ (c : Config) (w : World) (good : IsGood c w)
    (kept : (t : ℕ) → t < c.tasks → (phase : Phase) → (w.views t).phase ≡ Some phase → IsBlockedAt c w phase) where
  -- a task at a phase that has a level closed is a freeze that is blocked
  closer_at : (i y : ℕ) → 1 ≤ i → y < c.tasks → (p : Option Phase) → (w.views y).phase ≡ p → (closes i (stage_role_of p) ≡ 0 → ⊥) →
      AFreezeIsKept c w
  closer_at i y one ly None at some = absurd (some (up_to_none i one))
  closer_at i y one ly (Some phase) at some =
      let k : (x : Freeze) × (phase ≡ Phase.Freezes x) × HeldLevelAhead c w x.step = closer_kept c w i one phase some (kept y ly phase at) in
      (y, ly, k.0, at ∙ ap Some k.1, k.2)

  start_tells : (i : ℕ) → 1 ≤ i → i ≤ 3 → w.words.block i ≡ 1 → (is_frozen_whole w.words ≡ 1) ⊎ AFreezeIsKept c w
  start_tells i one three closed =
      elim (full_or (w.words.stage == 4 && w.words.sb == 0)) [
        | inr full ↦ inl full
        | inl none_full ↦
            let place : HasPlace c.tasks (λ y. closes i (stage_roles w y)) =
            total_place c.tasks (λ y. closes i (stage_roles w y))
            (λ none. omega (arith, none, none_full, closed, (good Stages).blocks i one three)) in
            inr (closer_at i place.0 one place.1 (w.views place.0).phase refl place.2)
      ]

  change_tells : (s : ChangeStep) (wait : Bool) → ChangeIsBlocked c w s wait → AFreezeIsKept c w
  change_tells s wait k = grind arith

  remount_tells : (s : RemountStep) → RemountIsBlocked c w s → AFreezeIsKept c w
  remount_tells s k = grind arith

  thaw_tells : (s : ThawStep) → ThawIsBlocked c w s → AFreezeIsKept c w
  thaw_tells s k = grind arith

  tree_tells : (x : TreePhase) → TreeIsBlocked c w x → AFreezeIsKept c w
  tree_tells x k = grind arith

  freeze_tells : (t : ℕ) → t < c.tasks → (x : Freeze) → (w.views t).phase ≡ Some (Phase.Freezes x) → (s : FreezeStep) → x.step ≡ s →
      FreezeIsBlocked c w s → AFreezeIsKept c w
  freeze_tells t lt x at s e k = grind arith

  -- each operation that is blocked
  kept_tells : (t : ℕ) → t < c.tasks → (phase : Phase) → (w.views t).phase ≡ Some phase →
      PhaseFits c t (held_of (w.views t)) phase → IsBlockedAt c w phase →
      (is_frozen_whole w.words ≡ 1) ⊎ AFreezeIsKept c w
  kept_tells t lt (Phase.Mounts (MountPhase.Change x)) at f k = inr (change_tells x.step x.wait k)
  kept_tells t lt (Phase.Remounts x) at f k = inr (remount_tells x.step k)
  kept_tells t lt (Phase.DownReads r) at f k = start_tells r.level f.0 f.1 k.2
  kept_tells t lt (Phase.Writes (WritePhase.Takes m r)) at f k = start_tells r.level f.0.0 f.0.1 k.2
  kept_tells t lt (Phase.Freezes x) at f k = inr (freeze_tells t lt x at x.step refl k)
  kept_tells t lt (Phase.Thaws x) at f k = inr (thaw_tells x.step k)
  kept_tells t lt (Phase.Trees x) at f k = inr (tree_tells x k)
  kept_tells t lt (Phase.Closes (ClosePhase.LoadsFile x)) at f k = start_tells 3 (omega arith) (omega arith) k.2
  kept_tells t lt (Phase.Closes (ClosePhase.Enters n node r)) at f k = start_tells r.level f.2.0 f.2.1 k.2
  kept_tells t lt phase at f k = absurd k

pub reply_or_frozen : (c : Config) (n : ℕ) (w : World) → IsGood c w → Progresses c n w → ReplyOrFrozen c n w
reply_or_frozen c n w good (inl near) t lt under = inl near
reply_or_frozen c n w good (inr kept) t lt under =
    inr (kept_tells c w good kept t lt under.0 under.1 (fits_at c w good t lt under.0 under.1) (kept t lt under.0 under.1))

pub world_replies : (c : Config) → IsWithin c → EventsKeepRule c → (w : World) → IsGood c w → ReplyOrFrozen c (most_events_to_reply c) w
world_replies c lim keeps w good =
    reply_or_frozen c (most_events_to_reply c) w good (world_goes c lim keeps (phase_ends c) w good)
