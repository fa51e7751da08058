-- Nothing is left behind: with no operation under way nobody has a lock, a remount or a hold.
use Rattle.gate_schedules.proofs.Prelude.{AtMount, Bool, Config, Freezing, Holding, IsGood, None, Owner, Sections, Stages, SyncAt, SyncHoldsIn, Tree}
use Rattle.gate_schedules.proofs.Prelude.{World, ap, arith, closed, eqb_tells, false, has_hold, holder_role_of, inl, inr, inside, is_frozen_whole}
use Rattle.gate_schedules.proofs.Prelude.{is_removed, one_if, owns, refl, remounts, removal, role_of, shown, stage_role_of, stage_roles, subst, suc}
use Rattle.gate_schedules.proofs.Prelude.{sym, sync_role_of, total, total_none, tree_role_of, true, unpack, zero, ℕ, ◌%◌, ◌+◌, ◌<◌, ◌∙◌, ◌≡◌, ◌≤◌}
use Rattle.gate_schedules.proofs.Prelude.{◌⊎◌}
use Rattle.std.proofs.Common.{◌/◌}
use Rattle.freeze_laws.{proofs.stages.{CitedLaws.freeze_is_under_way, Facts.{other_zero, way_is}}, specs.levels.Roles.claimed}
use Rattle.freeze_laws.specs.stages.Roles.{Place, freezes, under_way}
use Rattle.freeze_levels.{proofs.holder_laws.HolderLaws.held_exactly, specs.holder_laws.Roles.between}
use Rattle.gate_world.specs.Headline.{FreezeIsUnderWay, HeldWhereFrozen, IsAtRest, IsUntaken}
use Rattle.{mount_counts.{proofs.laws.Bits.hold_unset, specs.Roles.hold_bit}, percpu_rwsem.specs.SyncWords.bit}
use Rattle.gate_schedules.proofs.frames.{ByPhase.{apart_stage, freezing_is, stage_of}, Holders.holders_at, Stages.{stages_in, stages_right}}
use Rattle.gate_schedules.proofs.trees.worlds.Frozen.{idle_sound}

module _ (c : Config) (w : World) (good : IsGood c w) (idle : (t : ℕ) → t < c.tasks → (w.views t).phase ≡ None) where
  free : (u : ℕ) → u ≤ c.tasks → ((t : ℕ) → t < c.tasks → u ≡ suc t → owns (w.views t).phase ≡ 1) → u ≡ 0
  free zero le owned = refl
  free (suc t) le owned = absurd (omega (arith, owned t (omega arith) refl, ap owns (idle t (omega arith))))

  pub no_hold : (m : ℕ) → m < c.mounts → hold_bit (w.words.flags m) ≡ 0
  no_hold m lm =
      let none : total c.tasks (λ t. has_hold (role_of m (w.views t).phase)) ≡ 0 =
      total_none c.tasks _ (λ t lt. ap (λ p. has_hold (role_of m p)) (idle t lt)) in
      omega (arith, none, (good (AtMount m) lm).gate.flag)

  no_section : (t : ℕ) → t < c.tasks → w.words.section t % 2 ≡ 0
  no_section t lt = good Sections t lt ∙ ap inside (idle t lt)

  no_closed : (i : ℕ) → 1 ≤ i → i ≤ 3 → w.words.block i ≡ is_frozen_whole w.words
  no_closed i l1 l3 =
      let none : total c.tasks (λ t. closed (sync_role_of i (w.views t).phase)) ≡ 0 =
      total_none c.tasks _ (λ t lt. ap (λ p. closed (sync_role_of i p)) (idle t lt)) in
      omega (arith, none, (good (SyncAt i) l1 l3).holds.blocked)

  untaken : (b : Bool) → bit b ≡ 0 → b ≡ false
  untaken true h = absurd (omega (arith, h))
  untaken false h = refl

  no_callback : (i : ℕ) → 1 ≤ i → i ≤ 3 → IsUntaken (unpack (w.words.sync i))
  no_callback i l1 l3 =
      let s : SyncHoldsIn c w i = good (SyncAt i) l1 l3 in
      let none : total c.tasks (λ t. claimed (sync_role_of i (w.views t).phase)) ≡ 0 =
      total_none c.tasks _ (λ t lt. ap (λ p. claimed (sync_role_of i p)) (idle t lt)) in
      subst IsUntaken (sym s.packed) (untaken s.word.taken (omega (arith, none, s.holds.taken)))

  settled : (w.words.stage ≡ 0) ⊎ (w.words.stage ≡ 4)
  settled =
      let none : total c.tasks (λ t. freezes (stage_roles w t)) ≡ 0 =
      total_none c.tasks _ (λ t lt. ap (λ p. freezes (stage_role_of p)) (idle t lt)) in
      let way : under_way w.words.stage ≡ (w.words.stage % 4 + 3) / 4 = way_is w.words.stage (good Stages).stages in
      elim (eqb_tells w.words.stage 0) [
        | inl z ↦ inl z.1
        | inr z ↦ inr (omega (arith, z.1, none, way, (good Stages).freezing, (good Stages).stages))
      ]

  held : HeldWhereFrozen w
  held =
      let exactly = held_exactly c.tasks (holders_at w) (good Holding) in
      (λ some. (exactly.0 some).0, λ four. exactly.1 four (λ t lt. ap (λ p. between (holder_role_of p)) (idle t lt)))

  -- nobody has counted a removed file that there isn't, or not yet counted out one that there is no more
  removals : w.words.removed ≡ total c.nodes (λ n. one_if (is_removed ((shown c w).tree n)))
  removals =
      let none : total c.tasks (λ t. removal (tree_role_of (w.views t).trace (w.views t).phase)) ≡ 0 =
      total_none c.tasks _ (λ t lt. ap (λ p. removal (tree_role_of (w.views t).trace p)) (idle t lt)) in
      omega (arith, none, (good Tree).removals)

  pub at_rest : IsAtRest c w
  at_rest = record {
    umount_free = free w.words.umount (good Owner).known (good Owner).owned;
    remount_clear = (good Owner).remounting ∙ total_none c.tasks _ (λ t lt. ap remounts (idle t lt));
    hold_clear = λ m lm. hold_unset (w.words.flags m) (good (AtMount m) lm).bits (no_hold m lm);
    sections_even = no_section;
    levels_open = no_closed;
    callbacks_free = no_callback;
    stage_settled = settled;
    holders_settled = held;
    tree_sound = idle_sound c w good idle;
    removals_counted = removals;
  }

at_most_one : (c : Config) (w : World) → IsGood c w → total c.tasks (λ u. freezes (stage_roles w u)) ≤ 1
at_most_one c w good = omega (arith, (good Stages).freezing, way_is w.words.stage (good Stages).stages, (good Stages).stages)

pub a_freeze_is_under_way : (c : Config) (w : World) → IsGood c w → FreezeIsUnderWay c w
a_freeze_is_under_way c w good low high =
    let f : (t : ℕ) × (t < c.tasks) × (place : Place) × (owner : Bool) × (stage_roles w t ≡ Freezing w.words.stage place owner) =
    freeze_is_under_way c.tasks c.nodes (stages_in w) (stages_right c w good) low high in
    let one : total c.tasks (λ u. freezes (stage_roles w u)) ≤ 1 = at_most_one c w good in (
      f.0,
      f.1,
      freezing_is (w.views f.0).phase ∙ ap stage_of f.4,
      λ u lu ne. freezing_is (w.views u).phase ∙
          apart_stage (stage_roles w u) (other_zero c.tasks f.0 (λ y. freezes (stage_roles w y)) one f.1 (ap freezes f.4) u lu ne),
    )
