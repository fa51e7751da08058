-- Who can move: a task whose way is free, who has HOLD set at a mount, and an owner of `umount` that is no freeze; and what the invariant says of who
-- holds a level.
use Rattle.gate_schedules.proofs.Prelude.{AtLevel, AtMount, Bool, Config, EventsKeepRule, Fits, Fitting, Freeze, IsGood, IsUnblocked, IsWithin, None}
use Rattle.gate_schedules.proofs.Prelude.{Option, Owner, Phase, PhaseEnds, PhaseFits, ReplyWithin, Some, SyncAt, SyncHoldsIn, Words, World, ap, arith}
use Rattle.gate_schedules.proofs.Prelude.{at_level, cases_Bool, closed, common_steps, false, has_flag, has_hold, held_of, holds_level, inl, inr}
use Rattle.gate_schedules.proofs.Prelude.{inside, is_frozen_whole, level_role_of, ltb-true, nat_lt, not, owns, refl, role_of, subst, suc, sym}
use Rattle.gate_schedules.proofs.Prelude.{sync_role_of, total, total_at, total_none, true, true≢false, ℕ, ◌-◌, ◌<◌, ◌||◌, ◌∙◌, ◌≡◌, ◌≤◌, ◌⊎◌}
use Rattle.std.proofs.lemmas.Bool.{and_parts, not-true, or_cases}
use Rattle.cpu_words.{proofs.gate_counts.Events.words_sum, specs.gate_counts.Gates.{BarringHolds, admitted, below, counted, unread}}
use Rattle.cpu_words.specs.gate_counts.Levels.{Passed, barring_of, level_as_gate, processor_of}
use Rattle.{gate_world.specs.{Operations.{holds_none, holds_none_from}, Rules.LevelHoldsIn}, mount_counts.proofs.laws.Bits.hold_set}
use Rattle.gate_schedules.proofs.{frames.Owners.{hold_owns, owns_le, who_holds}, levels.Counts.held_bit}
use Rattle.gate_schedules.proofs.operations.deadlocks.{Bounds.{beside_small, is_beside, rank_small}, RankDecreases.runs_out}
use Rattle.gate_schedules.specs.operations.{Ranks.{most_alone, most_beside}, Unblocked.{HoldIsClear, NothingCounted}}

pub owner_free : (c : Config) (w : Words) (phase : Phase) → owns (Some phase) ≡ 1 → IsUnblocked c w phase ⊎ ((x : Freeze) × (phase ≡ Phase.Freezes x))
owner_free c w phase h = grind arith

phase_owns : (p : Option Phase) → owns p ≡ 1 → (phase : Phase) × (p ≡ Some phase)
phase_owns p h = grind arith

-- a task that owns `umount`
pub record HasOwner (c : Config) (w : World) : Type 0 where
  pub task : ℕ
  pub there : task < c.tasks
  pub phase : Phase
  pub at : (w.views task).phase ≡ Some phase
  pub owner : owns (Some phase) ≡ 1

pub has_owner : (c : Config) (w : World) → IsGood c w → (w.words.umount ≡ 0 → ⊥) → HasOwner c w
has_owner c w good taken =
    let y : ℕ = w.words.umount - 1 in
    let is : w.words.umount ≡ suc y = omega (arith, taken) in
    let ly : y < c.tasks = omega (arith, is, (good Owner).known) in
    let own : owns (w.views y).phase ≡ 1 = (good Owner).owned y ly is in
    let p : (phase : Phase) × ((w.views y).phase ≡ Some phase) = phase_owns (w.views y).phase own in
    record { task = y; there = ly; phase = p.0; at = p.1; owner = sym (ap owns p.1) ∙ own }

pub fits_at : (c : Config) (w : World) → IsGood c w → (t : ℕ) → t < c.tasks → (phase : Phase) → (w.views t).phase ≡ Some phase →
    PhaseFits c t (held_of (w.views t)) phase
fits_at c w good t lt phase at = subst (Fits c t (held_of (w.views t))) at (good Fitting t lt)

module _ (c : Config) (lim : IsWithin c)
    (keeps : EventsKeepRule c)
    (ends : (phase : Phase) → PhaseEnds c phase) where
  -- a task whose way is free has its reply within so many steps
  pub free_goes : (w : World) → IsGood c w → (t : ℕ) → t < c.tasks → (phase : Phase) → (w.views t).phase ≡ Some phase →
      IsUnblocked c w.words phase → ReplyWithin c (most_alone c) w
  free_goes w good t lt phase at free =
      runs_out c lim keeps ends (most_alone c) w good t lt phase at free
      (rank_small c lim w.words t (held_of (w.views t)) phase (fits_at c w good t lt phase at))

  -- fewer, where it is no remount and no snapshot
  pub beside_goes : (w : World) → IsGood c w → (t : ℕ) → t < c.tasks → (phase : Phase) → (w.views t).phase ≡ Some phase →
      IsUnblocked c w.words phase → is_beside phase ≡ true → ReplyWithin c (most_beside c) w
  beside_goes w good t lt phase at free beside =
      runs_out c lim keeps ends (most_beside c) w good t lt phase at free
      (beside_small c lim w.words t (held_of (w.views t)) phase (fits_at c w good t lt phase at) beside)

  -- so has who has HOLD set at a mount
  holder_of : (w : World) → IsGood c w → (y : ℕ) → y < c.tasks → (m : ℕ) → (p : Option Phase) → (w.views y).phase ≡ p →
      has_hold (role_of m p) ≡ 1 → ReplyWithin c (most_alone c) w
  holder_of w good y ly m None at h = absurd (omega (arith, h))
  holder_of w good y ly m (Some phase) at h =
      let own : owns (Some phase) ≡ 1 = omega (arith, h, hold_owns m (Some phase), owns_le (Some phase)) in
      elim (owner_free c w.words phase own) [
        | inl free ↦ free_goes w good y ly phase at free
        | inr x ↦ absurd (omega (arith, h, ap (λ q. has_hold (role_of m (Some q))) x.1))
      ]

  pub want_goes : (w : World) → IsGood c w → (t : ℕ) → t < c.tasks → (phase : Phase) → (w.views t).phase ≡ Some phase →
      owns (Some phase) ≡ 0 → (m : ℕ) → m < c.mounts → (HoldIsClear w.words m → IsUnblocked c w.words phase) → ReplyWithin c (most_alone c) w
  want_goes w good t lt phase at none m lm free =
      elim (cases_Bool (has_flag (w.words.flags m) 2)) [
        | inl set ↦
            let mine : has_hold (role_of m (w.views t).phase) ≡ 0 = omega (arith, hold_owns m (w.views t).phase, ap owns at, none) in
            let who : (y : ℕ) × (y < c.tasks) × (y ≡ t → ⊥) × (has_hold (role_of m (w.views y).phase) ≡ 1) =
            who_holds c w good t lt m lm (hold_set (w.words.flags m) (good (AtMount m) lm).bits set) mine in
            holder_of w good who.0 who.1 m (w.views who.0).phase refl who.3
        | inr clear ↦ free_goes w good t lt phase at (free clear)
      ]

-- `umount` is free, or a freeze's
abbrev pub OwnerFreezes : Config → World → Type 0
OwnerFreezes c w =
    (w.words.umount ≡ 0) ⊎ ((u : ℕ) × (u < c.tasks) × (x : Freeze) × ((w.views u).phase ≡ Some (Phase.Freezes x)) × (w.words.umount ≡ suc u))

-- then no mount has HOLD set
module _ (c : Config) (w : World) (good : IsGood c w) (freezing : OwnerFreezes c w) where
  freeze_owns : (y : ℕ) → y < c.tasks → owns (w.views y).phase ≡ 1 → (x : Freeze) × ((w.views y).phase ≡ Some (Phase.Freezes x))
  freeze_owns y ly own = elim freezing [
    | inl free ↦ absurd (omega (arith, (good Owner).locked y ly own, free))
    | inr u ↦
        let e : y ≡ u.0 = omega (arith, (good Owner).locked y ly own, u.4) in
        (u.2, ap (λ a. (w.views a).phase) e ∙ u.3)
  ]

  pub hold_clear : (t : ℕ) → t < c.tasks → owns (w.views t).phase ≡ 0 → (m : ℕ) → m < c.mounts → HoldIsClear w.words m
  hold_clear t lt none m lm =
      elim (cases_Bool (has_flag (w.words.flags m) 2)) [
        | inr clear ↦ clear
        | inl set ↦
            let mine : has_hold (role_of m (w.views t).phase) ≡ 0 = omega (arith, hold_owns m (w.views t).phase, none) in
            let who : (y : ℕ) × (y < c.tasks) × (y ≡ t → ⊥) × (has_hold (role_of m (w.views y).phase) ≡ 1) =
            who_holds c w good t lt m lm (hold_set (w.words.flags m) (good (AtMount m) lm).bits set) mine in
            let own : owns (w.views who.0).phase ≡ 1 =
            omega (arith, who.3, hold_owns m (w.views who.0).phase, owns_le (w.views who.0).phase) in
            absurd (omega (arith, who.3, ap (λ q. has_hold (role_of m q)) (freeze_owns who.0 who.1 own).1))
      ]

pub holds_not_none : (levels : ℕ → Bool) (i : ℕ) → holds_none levels ≡ true → 1 ≤ i → i ≤ 3 → levels i ≡ true → ⊥
holds_not_none levels i h one three is = grind (arith, not-true, and_parts)

below_or : (i j : ℕ) (b : Bool) → (nat_lt i j || not b) ≡ true → b ≡ true → i < j
below_or i j b h is =
    elim (or_cases (nat_lt i j) (not b) h) [ inl l ↦ ltb-true i j l | inr n ↦ absurd (true≢false (sym is ∙ not-true b n)) ]

pub holds_below : (levels : ℕ → Bool) (i j : ℕ) → holds_none_from j levels ≡ true → 1 ≤ i → i ≤ 3 → levels i ≡ true → i < j
holds_below levels i j h one three is = grind (arith, below_or, and_parts)

closed_passes : (i j : ℕ) (p : Option Phase) → i < j → 1 ≤ closed (sync_role_of j p) → level_role_of i p ≡ Passed
closed_passes i j p lt h = grind (arith, common_steps)

pub seeks_nothing : (i : ℕ) (p : Option Phase) → inside p ≡ 0 → processor_of (level_role_of i p) ≡ 0
seeks_nothing i p h = grind arith

module _ (c : Config) (w : World) (good : IsGood c w) where
  held_there : (i z : ℕ) → holds_level (w.views z) i ≡ true → admitted (level_as_gate (at_level i (w.views z))) ≡ 1
  held_there i z is = let e : held_bit (holds_level (w.views z) i) ≡ held_bit true = ap held_bit is in omega (arith, e)

  pub open_above : (i j z : ℕ) → 1 ≤ i → i < j → j ≤ 3 → z < c.tasks → holds_level (w.views z) i ≡ true → w.words.block j ≡ 0
  open_above i j z one lt three lz is =
      let s : SyncHoldsIn c w j = good (SyncAt j) (omega arith) three in
      let l : LevelHoldsIn c w i = good (AtLevel i) one (omega arith) in
      let some : 1 ≤ total c.tasks (λ y. admitted (level_as_gate (at_level i (w.views y)))) =
      omega (arith, held_there i z is, total_at c.tasks z (λ y. admitted (level_as_gate (at_level i (w.views y)))) lz) in
      let part : is_frozen_whole w.words ≡ 1 → ⊥ = λ f. omega (arith, some, l.gate.open_to 0 f) in
      let none : total c.tasks (λ y. closed (sync_role_of j (w.views y).phase)) ≡ 0 = total_none c.tasks _ (λ y ly.
      let no : 1 ≤ closed (sync_role_of j (w.views y).phase) → ⊥ = λ h.
      let e : level_role_of i (w.views y).phase ≡ Passed = closed_passes i j (w.views y).phase lt h in
      let z : total c.tasks (λ x. admitted (level_as_gate (at_level i (w.views x)))) ≡ 0 =
      subst (λ r. BarringHolds c.processors (w.words.level i) (total c.tasks (λ x. admitted (level_as_gate (at_level i (w.views x)))))
      (λ k. total c.tasks (λ x. unread k (level_as_gate (at_level i (w.views x))))) (barring_of r)) e (l.gate.sums y ly) in
      omega (arith, some, z) in
      omega (arith, no)) in
      let few : w.words.block j ≤ 1 = (good (AtLevel j) (omega arith) three).known in
      omega (arith, none, s.holds.blocked, part, few)

  -- nothing is counted at a level that nobody holds, where nobody is inside a section
  pub nothing_counted : (i : ℕ) → 1 ≤ i → i ≤ 3 → ((y : ℕ) → y < c.tasks → inside (w.views y).phase ≡ 0) →
      ((y : ℕ) → y < c.tasks → holds_level (w.views y) i ≡ false) → NothingCounted c w.words i
  nothing_counted i one three out none =
      let l : LevelHoldsIn c w i = good (AtLevel i) one three in
      let zero_each : total c.tasks (λ y. counted (level_as_gate (at_level i (w.views y)))) ≡ 0 = total_none c.tasks _ (λ y ly.
      let e : held_bit (holds_level (w.views y) i) ≡ held_bit false = ap held_bit (none y ly) in
      let k : unread 0 (level_as_gate (at_level i (w.views y))) ≡ 0 =
      ap (below 0) (seeks_nothing i (w.views y).phase (out y ly)) in
      omega (arith, e, k)) in
      omega (arith, words_sum l.gate.counts, zero_each)
