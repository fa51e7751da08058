-- Each operation under way is blocked, or a reply is near.
use Rattle.gate_schedules.proofs.Prelude.{AtLevel, Bool, ChangeStep, ClosePhase, Config, DownReadStep, EventsKeepRule, Freeze, FreezeStep, HookAnswer}
use Rattle.gate_schedules.proofs.Prelude.{IsGood, IsUnblocked, IsWithin, KnowsStage, MountPhase, None, Option, Phase, PhaseEnds, PhaseFits}
use Rattle.gate_schedules.proofs.Prelude.{RemountStep, ReplyWithin, SnapshotStep, Some, Stages, ThawStep, TreePhase, View, Words, World, WritePhase}
use Rattle.gate_schedules.proofs.Prelude.{after_of, after_step, ap, arith, at_freeze, cases_Bool, cases_lt, eqb_tells, false, found_at, held_of, inl}
use Rattle.gate_schedules.proofs.Prelude.{inr, le-ltb, nat_lt, owns, phase_after, refl, stage_role_of, subst, sym, true, true≢false, update_off}
use Rattle.gate_schedules.proofs.Prelude.{value_at, view_after, ℕ, ◌+◌, ◌<◌, ◌==◌, ◌∙◌, ◌≡◌, ◌≤◌, ◌⊎◌}
use Rattle.{freeze_laws.specs.stages.Roles.bit, gate_world.specs.{Remounts.remount_owns, Roles.{change_owns, freeze_owns, snapshot_owns, thaw_owns}}}
use Rattle.gate_schedules.proofs.operations.deadlocks.{Bounds.alone_settled, FreezeProgress.{FirstFree, IdleApart, callback_goes, freeze_goes}}
use Rattle.gate_schedules.proofs.operations.deadlocks.FreezeProgress.{kept_or_apart, not_none, search_below}
use Rattle.gate_schedules.proofs.operations.deadlocks.RankDecreases.{near_by, no_further, stands_after}
use Rattle.gate_schedules.proofs.operations.deadlocks.WhoCanStep.{HasOwner, fits_at, free_goes, has_owner, owner_free, want_goes}
use Rattle.gate_schedules.specs.operations.Progress.{BlockedIfFreeze, ChangeIsBlocked, FreezeIsBlocked, HeldLevelAhead, IsBlockedAt, LockIsBlocked}
use Rattle.gate_schedules.specs.operations.Progress.{Progresses, RemountIsBlocked, SnapshotIsBlocked, ThawIsBlocked, begins_freeze, is_admitted}
use Rattle.gate_schedules.specs.operations.{Progress.{is_first_lock, is_last_close, next_level}, Ranks.{most_alone, most_settled}}
use Rattle.gate_schedules.specs.operations.Unblocked.{ChangeIsUnblocked, RemountIsUnblocked, SnapshotIsUnblocked, ThawIsUnblocked}

-- a lock is free, or not, and then the task stands before it
change_either : (w : Words) (s : ChangeStep) (wait : Bool) →
    ChangeIsUnblocked w s wait ⊎ ((wait ≡ true) × (w.umount ≡ 0 → ⊥) × (s ≡ ChangeStep.Locks))
change_either w s wait = grind arith

snapshot_either : (w : Words) (s : SnapshotStep) (wait : Bool) →
    SnapshotIsUnblocked w s wait ⊎ ((wait ≡ true) × (w.umount ≡ 0 → ⊥) × (s ≡ SnapshotStep.Locks))
snapshot_either w s wait = grind arith

remount_either : (w : Words) (s : RemountStep) → RemountIsUnblocked w s ⊎ ((w.umount ≡ 0 → ⊥) × (s ≡ RemountStep.Locks))
remount_either w s = grind arith

thaw_either : (w : Words) (s : ThawStep) → ThawIsUnblocked w s ⊎ ((w.umount ≡ 0 → ⊥) × (s ≡ ThawStep.Locks))
thaw_either w s = grind arith

first_either : (w : Words) (s : FreezeStep) → FirstFree w s ⊎ ((w.umount ≡ 0 → ⊥) × (s ≡ FreezeStep.Locks))
first_either w s = grind arith

-- a start that waits finds its level open, or closed
read_either : (block : ℕ) (wait : Bool) (s : DownReadStep) → block ≤ 1 → (wait ≡ true → is_admitted s ≡ false → block ≡ 0) ⊎
    ((wait ≡ true) × (is_admitted s ≡ false) × (block ≡ 1))
read_either block wait s le = grind arith

-- so does a close that is to be a last one
last_either : (block : ℕ) (wait last : Bool) → block ≤ 1 → (wait ≡ true → last ≡ true → block ≡ 0) ⊎
    ((wait ≡ true) × (last ≡ true) × (block ≡ 1))
last_either block wait last le = grind arith

first_owned : (w : Words) (s : FreezeStep) → freeze_owns s ≡ 1 → FirstFree w s
first_owned w s h = grind arith

first_or_kept : (c : Config) (w : World) (s : FreezeStep) → (s ≡ FreezeStep.Locks) ⊎ (HeldLevelAhead c w s → FreezeIsBlocked c w s)
first_or_kept c w s = grind arith

pub first_is : (s : FreezeStep) → is_first_lock s ≡ true → s ≡ FreezeStep.Locks
first_is s h = grind arith

first_at : (p : Option Phase) → begins_freeze p ≡ true → (y : Freeze) × (p ≡ Some (Phase.Freezes (at_freeze y FreezeStep.Locks)))
first_at (Some (Phase.Freezes x)) h = (x, ap (λ s. Some (Phase.Freezes (at_freeze x s))) (first_is x.step h))
first_at p h = absurd (true≢false (sym h))

-- where a freeze at its first lock has a level to pass, the stage is 0 and the superblock writable
pub first_finds : (w : Words) (i : ℕ) → next_level w FreezeStep.Locks ≤ i → i ≤ 3 → ((w.stage == 0) ≡ true) × ((w.sb == 0) ≡ true)
first_finds w i low high = grind arith

abbrev pub or_phase : Phase → Option Phase → Phase
or_phase other None = other
or_phase other (Some phase) = phase

module _ (c : Config) (lim : IsWithin c)
    (keeps : EventsKeepRule c)
    (ends : (phase : Phase) → PhaseEnds c phase) where
  module _ (t : ℕ) (phase : Phase) where
    -- a task that has its reply, or another one, once `umount` is free with a freeze at stage 1
    abbrev Waits : Type 0
    Waits = (v : World) → IsGood c v → (v.views t).phase ≡ Some phase → v.words.umount ≡ 0 → v.words.stage ≡ 1 → ReplyWithin c (most_settled c) v

    module _ (waits : Waits) (u : ℕ) (lu : u < c.tasks) (ne : t ≡ u → ⊥) (y : Freeze) where
      -- a step of the owner leaves the view of the task that waits
      others : (v : World) (q : Phase) (hook : HookAnswer) → (v.views t).phase ≡ Some phase → ((after_step v u q hook).views t).phase ≡ Some phase
      others v q hook at = ap (λ (a : View). a.phase) (update_off v.views u (view_after (v.views u) q (value_at v.words q hook) hook) t ne) ∙ at

      -- a freeze that is to close level 1 releases `umount` first
      unlocks_goes : (v : World) → IsGood c v → (v.views u).phase ≡ Some (Phase.Freezes (at_freeze y FreezeStep.Unlocks)) → (v.views t).phase ≡ Some phase →
          ReplyWithin c (most_settled c + 1) v
      unlocks_goes v good at mine =
          let known : KnowsStage v.words.stage v.words.sb (stage_role_of (Some (Phase.Freezes (at_freeze y FreezeStep.Unlocks)))) =
          subst (λ p. KnowsStage v.words.stage v.words.sb (stage_role_of p)) at ((good Stages).knows u lu) in
          near_by c (most_settled c) (most_settled c + 1) (omega arith) v u lu (Phase.Freezes (at_freeze y FreezeStep.Unlocks)) at (λ hook.
          inr (waits (after_step v u (Phase.Freezes (at_freeze y FreezeStep.Unlocks)) hook)
          (keeps v good u lu hook (Phase.Freezes (at_freeze y FreezeStep.Unlocks)) at)
          (others v (Phase.Freezes (at_freeze y FreezeStep.Unlocks)) hook mine) refl known))

      sets_goes : (v : World) → IsGood c v → (v.views u).phase ≡ Some (Phase.Freezes (at_freeze y FreezeStep.SetsWrite)) → (v.views t).phase ≡ Some phase →
          ReplyWithin c (most_settled c + 2) v
      sets_goes v good at mine =
          near_by c (most_settled c + 1) (most_settled c + 2) (omega arith) v u lu (Phase.Freezes (at_freeze y FreezeStep.SetsWrite)) at (λ hook.
          inr (unlocks_goes (after_step v u (Phase.Freezes (at_freeze y FreezeStep.SetsWrite)) hook)
          (keeps v good u lu hook (Phase.Freezes (at_freeze y FreezeStep.SetsWrite)) at)
          (stands_after c v u lu hook (Phase.Freezes (at_freeze y FreezeStep.SetsWrite)) at)
          (others v (Phase.Freezes (at_freeze y FreezeStep.SetsWrite)) hook mine)))

      superblock_goes : (v : World) → IsGood c v → (v.views u).phase ≡ Some (Phase.Freezes (at_freeze y FreezeStep.LoadsSuperblock)) →
          (v.views t).phase ≡ Some phase → (v.words.sb == 0) ≡ true → ReplyWithin c (most_settled c + 3) v
      superblock_goes v good at mine z =
          near_by c (most_settled c + 2) (most_settled c + 3) (omega arith) v u lu (Phase.Freezes (at_freeze y FreezeStep.LoadsSuperblock)) at (λ hook.
          let q : Phase = Phase.Freezes (at_freeze y FreezeStep.LoadsSuperblock) in
          let n : phase_after (after_of q (found_at v.words q hook) hook).0 ≡ Some (Phase.Freezes (at_freeze y FreezeStep.SetsWrite)) = rw z refl in
          inr (sets_goes (after_step v u (Phase.Freezes (at_freeze y FreezeStep.LoadsSuperblock)) hook)
          (keeps v good u lu hook (Phase.Freezes (at_freeze y FreezeStep.LoadsSuperblock)) at)
          (stands_after c v u lu hook (Phase.Freezes (at_freeze y FreezeStep.LoadsSuperblock)) at ∙ n)
          (others v (Phase.Freezes (at_freeze y FreezeStep.LoadsSuperblock)) hook mine)))

      stage_goes : (v : World) → IsGood c v → (v.views u).phase ≡ Some (Phase.Freezes (at_freeze y FreezeStep.LoadsStage)) →
          (v.views t).phase ≡ Some phase → (v.words.stage == 0) ≡ true → (v.words.sb == 0) ≡ true → ReplyWithin c (most_settled c + 4) v
      stage_goes v good at mine z b =
          near_by c (most_settled c + 3) (most_settled c + 4) (omega arith) v u lu (Phase.Freezes (at_freeze y FreezeStep.LoadsStage)) at (λ hook.
          let q : Phase = Phase.Freezes (at_freeze y FreezeStep.LoadsStage) in
          let n : phase_after (after_of q (found_at v.words q hook) hook).0 ≡ Some (Phase.Freezes (at_freeze y FreezeStep.LoadsSuperblock)) = rw z refl in
          inr (superblock_goes (after_step v u (Phase.Freezes (at_freeze y FreezeStep.LoadsStage)) hook)
          (keeps v good u lu hook (Phase.Freezes (at_freeze y FreezeStep.LoadsStage)) at)
          (stands_after c v u lu hook (Phase.Freezes (at_freeze y FreezeStep.LoadsStage)) at ∙ n)
          (others v (Phase.Freezes (at_freeze y FreezeStep.LoadsStage)) hook mine) b))

      -- and one that takes it before
      begins_goes : (v : World) → IsGood c v → (v.views u).phase ≡ Some (Phase.Freezes (at_freeze y FreezeStep.Locks)) →
          (v.views t).phase ≡ Some phase → v.words.umount ≡ 0 → (v.words.stage == 0) ≡ true → (v.words.sb == 0) ≡ true → ReplyWithin c (most_settled c + 5) v
      begins_goes v good at mine free z b =
          near_by c (most_settled c + 4) (most_settled c + 5) (omega arith) v u lu (Phase.Freezes (at_freeze y FreezeStep.Locks)) at (λ hook.
          let q : Phase = Phase.Freezes (at_freeze y FreezeStep.Locks) in
          let n : phase_after (after_of q (found_at v.words q hook) hook).0 ≡ Some (Phase.Freezes (at_freeze y FreezeStep.LoadsStage)) = rw free refl in
          inr (stage_goes (after_step v u (Phase.Freezes (at_freeze y FreezeStep.Locks)) hook)
          (keeps v good u lu hook (Phase.Freezes (at_freeze y FreezeStep.Locks)) at)
          (stands_after c v u lu hook (Phase.Freezes (at_freeze y FreezeStep.Locks)) at ∙ n)
          (others v (Phase.Freezes (at_freeze y FreezeStep.Locks)) hook mine) z b))

      -- so a freeze that owns `umount` with level 1 still to be passed
      release_goes : (s : FreezeStep) (v : World) → IsGood c v → (v.views u).phase ≡ Some (Phase.Freezes (at_freeze y s)) →
          (v.views t).phase ≡ Some phase → freeze_owns s ≡ 1 → next_level v.words s < 2 → ReplyWithin c (most_settled c + 4) v
      release_goes FreezeStep.LoadsStage v good at mine own low =
          elim (cases_Bool (v.words.stage == 0)) [
            | inl z ↦ elim (cases_Bool (v.words.sb == 0)) [
              | inl b ↦ stage_goes v good at mine z b
              | inr b ↦ let l : 4 < 2 = rw (z, b) at low in absurd (omega (arith, l))
            ]
            | inr z ↦ let l : 4 < 2 = rw z at low in absurd (omega (arith, l))
          ]
      release_goes FreezeStep.LoadsSuperblock v good at mine own low =
          elim (cases_Bool (v.words.sb == 0)) [
            | inl b ↦ no_further c (most_settled c + 3) (most_settled c + 4) v (omega arith) (superblock_goes v good at mine b)
            | inr b ↦ let l : 4 < 2 = rw b at low in absurd (omega (arith, l))
          ]
      release_goes FreezeStep.SetsWrite v good at mine own low =
          no_further c (most_settled c + 2) (most_settled c + 4) v (omega arith) (sets_goes v good at mine)
      release_goes FreezeStep.Unlocks v good at mine own low =
          no_further c (most_settled c + 1) (most_settled c + 4) v (omega arith) (unlocks_goes v good at mine)
      release_goes (FreezeStep.Closes d) v good at mine own low =
          let first : nat_lt 1 d.level ≡ false = le-ltb 1 d.level (omega (arith, low)) in
          absurd (omega (arith, own, ap bit first))
      release_goes (FreezeStep.Waits d) v good at mine own low =
          let first : nat_lt 1 d.level ≡ false = le-ltb 1 d.level (omega (arith, low)) in
          absurd (omega (arith, own, ap bit first))
      release_goes s v good at mine own low = absurd (omega (arith, own, low))

  module _ (w : World) (good : IsGood c w) where
    near : ReplyWithin c (most_alone c) w → ReplyWithin c (most_settled c + 5) w
    near = no_further c (most_alone c) (most_settled c + 5) w (omega (arith, alone_settled c))

    nearly : ReplyWithin c (most_settled c) w → ReplyWithin c (most_settled c + 5) w
    nearly = no_further c (most_settled c) (most_settled c + 5) w (omega arith)

    lastly : ReplyWithin c (most_settled c + 4) w → ReplyWithin c (most_settled c + 5) w
    lastly = no_further c (most_settled c + 4) (most_settled c + 5) w (omega arith)

    -- where `umount` is taken, its owner has its reply, or is a freeze that releases it, or one that is blocked
    lock_taken : (t : ℕ) → t < c.tasks → (phase : Phase) → (w.views t).phase ≡ Some phase → owns (Some phase) ≡ 0 →
        Waits t phase → (w.words.umount ≡ 0 → ⊥) → ReplyWithin c (most_settled c + 5) w ⊎ LockIsBlocked c w
    lock_taken t lt phase at none waits taken =
        let u : HasOwner c w = has_owner c w good taken in
        elim (owner_free c w.words u.phase u.owner) [
          | inl free ↦ inl (near (free_goes c lim keeps ends w good u.task u.there u.phase u.at free))
          | inr y ↦
              let there : (w.views u.task).phase ≡ Some (Phase.Freezes y.0) = u.at ∙ ap Some y.1 in
              let own : owns (w.views u.task).phase ≡ 1 = ap owns u.at ∙ u.owner in
              let ne : t ≡ u.task → ⊥ = λ e. omega (arith, own, ap (λ a. owns (w.views a).phase) e, ap owns at, none) in
              elim (kept_or_apart c w y.0.step) [
                | inr apart ↦ inl (nearly (freeze_goes c lim keeps ends w good u.task u.there y.0 there apart
                    (first_owned w.words y.0.step (sym (ap owns there) ∙ own))))
                | inl kept ↦ elim (cases_lt (next_level w.words y.0.step) 2) [
                  | inr past ↦ inr (u.task, u.there, own, subst (BlockedIfFreeze c w) (sym there) (past, kept))
                  | inl low ↦ inl (lastly (release_goes t phase waits u.task u.there ne y.0 y.0.step w good there at
                      (sym (ap owns there) ∙ own) low))
                ]
              ]
        ]

    module _ (t : ℕ) (lt : t < c.tasks) where
      -- a task whose way is free
      goes : (phase : Phase) → (w.views t).phase ≡ Some phase → IsUnblocked c w.words phase → ReplyWithin c (most_settled c + 5) w ⊎ IsBlockedAt c w phase
      goes phase at free = inl (near (free_goes c lim keeps ends w good t lt phase at free))

      reaches : (v : World) → IsGood c v → (q : Phase) → (v.views t).phase ≡ Some q → IsUnblocked c v.words q → ReplyWithin c (most_settled c) v
      reaches v good' q at free = no_further c (most_alone c) (most_settled c) v (alone_settled c) (free_goes c lim keeps ends v good' t lt q at free)

      -- at stage 1 a freeze at its first lock has no level to pass
      apart_at_one : (v : World) → v.words.stage ≡ 1 → IdleApart c v FreezeStep.Locks
      apart_at_one v one i low high = grind arith

      -- so it has a reply near there
      freeze_waits : (x : Freeze) → x.step ≡ FreezeStep.Locks → Waits t (Phase.Freezes x)
      freeze_waits x e v good' at free one =
          freeze_goes c lim keeps ends v good' t lt x at (subst (IdleApart c v) (sym e) (apart_at_one v one))
          (subst (FirstFree v.words) (sym e) free)

      -- the operation of each task: a reply is near, or it is blocked
      task_goes : (phase : Phase) → (w.views t).phase ≡ Some phase →
          PhaseFits c t (held_of (w.views t)) phase → ReplyWithin c (most_settled c + 5) w ⊎ IsBlockedAt c w phase
      task_goes (Phase.Mounts (MountPhase.Want x)) at f =
          inl (near (want_goes c lim keeps ends w good t lt (Phase.Mounts (MountPhase.Want x)) at refl x.mount f.0 (λ clear. clear)))
      task_goes (Phase.Mounts (MountPhase.Change x)) at f =
          elim (change_either w.words x.step x.wait) [
            | inl free ↦ goes (Phase.Mounts (MountPhase.Change x)) at free
            | inr n ↦ elim (lock_taken t lt (Phase.Mounts (MountPhase.Change x)) at (ap change_owns n.2)
                (λ v good' at' free one. reaches v good' (Phase.Mounts (MountPhase.Change x)) at'
                (subst (λ s. ChangeIsUnblocked v.words s x.wait) (sym n.2) (λ e. free))) n.1) [
                  | inl h ↦ inl h
                  | inr kept ↦ inr (subst (λ s. ChangeIsBlocked c w s x.wait) (sym n.2) (n.0, kept))
                ]
          ]
      task_goes (Phase.Remounts x) at f =
          elim (remount_either w.words x.step) [
            | inl free ↦ goes (Phase.Remounts x) at free
            | inr n ↦ elim (lock_taken t lt (Phase.Remounts x) at (ap remount_owns n.1)
                (λ v good' at' free one. reaches v good' (Phase.Remounts x) at' (subst (RemountIsUnblocked v.words) (sym n.1) free)) n.0) [
                  | inl h ↦ inl h
                  | inr kept ↦ inr (subst (RemountIsBlocked c w) (sym n.1) kept)
                ]
          ]
      task_goes (Phase.DownReads r) at f =
          elim (read_either (w.words.block r.level) r.wait r.step (good (AtLevel r.level) f.0 f.1).known) [
            | inl free ↦ goes (Phase.DownReads r) at free
            | inr kept ↦ inr kept
          ]
      task_goes (Phase.Callbacks b) at f = inl (nearly (callback_goes c lim keeps ends w good t lt b at))
      task_goes (Phase.Writes (WritePhase.Takes m r)) at f =
          elim (read_either (w.words.block r.level) r.wait r.step (good (AtLevel r.level) f.0.0 f.0.1).known) [
            | inl free ↦ inl (near
                (want_goes c lim keeps ends w good t lt (Phase.Writes (WritePhase.Takes m r)) at refl m f.2 (λ clear. (free, clear))))
            | inr kept ↦ inr kept
          ]
      task_goes (Phase.Writes (WritePhase.Wants x)) at f =
          inl (near (want_goes c lim keeps ends w good t lt (Phase.Writes (WritePhase.Wants x)) at refl x.mount f.0.0 (λ clear. clear)))
      task_goes (Phase.Freezes x) at f =
          elim (first_either w.words x.step) [
            | inl first ↦ elim (kept_or_apart c w x.step) [
              | inl kept ↦ elim (first_or_kept c w x.step) [
                | inr is ↦ inr (is kept)
                | inl e ↦
                    let k : HeldLevelAhead c w FreezeStep.Locks = subst (HeldLevelAhead c w) e kept in
                    let free : w.words.umount ≡ 0 = subst (FirstFree w.words) e first in
                    elim (search_below c.tasks (λ y. (y ≡ t → ⊥) × (begins_freeze (w.views y).phase ≡ true))
                    (λ y. begins_freeze (w.views y).phase ≡ true → y ≡ t)
                    (λ y ly. elim (cases_Bool (begins_freeze (w.views y).phase)) [
                      | inl f ↦ elim (eqb_tells y t) [ inl q ↦ inr (λ g. q.1) | inr q ↦ inl (q.1, f) ]
                      | inr f ↦ inr (λ g. absurd (true≢false (sym g ∙ f)))
                    ])) [
                      | inr only ↦ inr (subst (FreezeIsBlocked c w) (sym e)
                          (inr (free, λ y z ly lz fy fz. only y ly fy ∙ sym (only z lz fz), k)))
                      | inl s ↦
                          let p : (y : Freeze) × ((w.views s.0).phase ≡ Some (Phase.Freezes (at_freeze y FreezeStep.Locks))) =
                          first_at (w.views s.0).phase s.2.1 in
                          let facts : ((w.words.stage == 0) ≡ true) × ((w.words.sb == 0) ≡ true) = first_finds w.words k.0 k.1 k.2 in
                          inl (begins_goes t (Phase.Freezes x) (freeze_waits x e) s.0 s.1 (λ q. s.2.0 (sym q)) p.0 w good p.1 at free facts.0 facts.1)
                    ]
              ]
              | inr apart ↦ inl (nearly (freeze_goes c lim keeps ends w good t lt x at apart first))
            ]
            | inr n ↦ elim (lock_taken t lt (Phase.Freezes x) at (ap freeze_owns n.1)
                (freeze_waits x n.1) n.0) [ inl h ↦ inl h | inr kept ↦ inr (subst (FreezeIsBlocked c w) (sym n.1) (inl kept)) ]
          ]
      task_goes (Phase.Thaws x) at f =
          elim (thaw_either w.words x.step) [
            | inl free ↦ goes (Phase.Thaws x) at free
            | inr n ↦ elim (lock_taken t lt (Phase.Thaws x) at (ap thaw_owns n.1)
                (λ v good' at' free one. reaches v good' (Phase.Thaws x) at' (subst (ThawIsUnblocked v.words) (sym n.1) free)) n.0) [
                  | inl h ↦ inl h
                  | inr kept ↦ inr (subst (ThawIsBlocked c w) (sym n.1) kept)
                ]
          ]
      task_goes (Phase.Trees (TreePhase.Snapshot x)) at f =
          elim (snapshot_either w.words x.step x.wait) [
            | inl free ↦ goes (Phase.Trees (TreePhase.Snapshot x)) at free
            | inr n ↦ elim (lock_taken t lt (Phase.Trees (TreePhase.Snapshot x)) at (ap snapshot_owns n.2)
                (λ v good' at' free one. reaches v good' (Phase.Trees (TreePhase.Snapshot x)) at'
                (subst (λ s. SnapshotIsUnblocked v.words s x.wait) (sym n.2) (λ e. free))) n.1) [
                  | inl h ↦ inl h
                  | inr kept ↦ inr (subst (λ s. SnapshotIsBlocked c w s x.wait) (sym n.2) (n.0, kept))
                ]
          ]
      task_goes (Phase.Closes (ClosePhase.LoadsFile x)) at f =
          elim (last_either (w.words.block 3) x.wait (is_last_close (w.words.node x.file)) (good (AtLevel 3) (omega arith) (omega arith)).known) [
            | inl free ↦ goes (Phase.Closes (ClosePhase.LoadsFile x)) at free
            | inr kept ↦ inr kept
          ]
      task_goes (Phase.Closes (ClosePhase.Enters n node r)) at f =
          elim (read_either (w.words.block r.level) r.wait r.step (good (AtLevel r.level) f.2.0 f.2.1).known) [
            | inl free ↦ goes (Phase.Closes (ClosePhase.Enters n node r)) at free
            | inr kept ↦ inr kept
          ]
      task_goes phase at f = goes phase at tt

      -- whatever it is at
      view_goes : (p : Option Phase) → (w.views t).phase ≡ p →
          ReplyWithin c (most_settled c + 5) w ⊎ ((phase : Phase) → (w.views t).phase ≡ Some phase → IsBlockedAt c w phase)
      view_goes None at = inr (λ phase e. absurd (not_none phase (sym e ∙ at)))
      view_goes (Some q) at =
          elim (task_goes q at (fits_at c w good t lt q at)) [
            | inl h ↦ inl h
            | inr kept ↦ inr (λ phase e.
                let same : q ≡ phase = ap (or_phase q) (sym at ∙ e) in
                subst (IsBlockedAt c w) same kept)
          ]

    pub world_goes : Progresses c (most_settled c + 5) w
    world_goes =
        elim (search_below c.tasks (λ t. ReplyWithin c (most_settled c + 5) w)
        (λ t. (phase : Phase) → (w.views t).phase ≡ Some phase → IsBlockedAt c w phase)
        (λ t lt. view_goes t lt (w.views t).phase refl)) [
          | inl h ↦ inl h.2
          | inr kept ↦ inr kept
        ]
