-- A freeze that no idle task keeps, and a callback, have a reply near, whoever is inside a section.
use Rattle.gate_schedules.proofs.Prelude.{Bool, Callback, ClosePhase, Config, DownReadStep, EventsKeepRule, Freeze, FreezeFits, FreezeStep, Freezing}
use Rattle.gate_schedules.proofs.Prelude.{Holder, HookAnswer, IsGood, IsWithin, KnowsStage, MountPhase, None, Option, Owner, Phase, PhaseEnds}
use Rattle.gate_schedules.proofs.Prelude.{PhaseFits, ReplyWithin, Sections, Some, Stages, TreePhase, View, Words, World, WritePhase, after_step, ap}
use Rattle.gate_schedules.proofs.Prelude.{arith, cases_Bool, cases_lt, each_updated, eqb_tells, false, freeze_stage_role, held_of, holds_level, inl}
use Rattle.gate_schedules.proofs.Prelude.{inr, inside, is_some, nat_lt, owns, refl, stage_role_of, stage_roles, subst, suc, sym, total, total_at}
use Rattle.gate_schedules.proofs.Prelude.{total_bound, total_updated, true, true≢false, update, update_off, value_at, view_after, zero, ℕ, ◌*◌, ◌+◌}
use Rattle.gate_schedules.proofs.Prelude.{◌-◌, ◌<◌, ◌∙◌, ◌≡◌, ◌≤◌, ◌⊎◌}
use Rattle.freeze_laws.{proofs.stages.Facts.other_zero, specs.levels.Operations.down_read_inside}
use Rattle.freeze_laws.specs.stages.Roles.{Before, HasPassed, Place, freezes, owns as stage_owns, under_way}
use Rattle.gate_world.specs.{Fits.ReadStepFits, Operations.holds_none_from, Roles.{freeze_owns, place_of}}
use Rattle.gate_schedules.proofs.{frames.ByPhase.freeze_owner, operations.deadlocks.Bounds.{alone_settled, beside_settled}}
use Rattle.gate_schedules.proofs.operations.deadlocks.RankDecreases.{no_further}
use Rattle.gate_schedules.proofs.operations.deadlocks.SectionExit.{StaysBeside, all_leave, all_within, inside_le, phase_beside}
use Rattle.gate_schedules.proofs.operations.deadlocks.WhoCanStep.{HasOwner, OwnerFreezes, beside_goes, fits_at, free_goes, has_owner, hold_clear}
use Rattle.gate_schedules.proofs.operations.deadlocks.WhoCanStep.{holds_below, holds_not_none, nothing_counted, open_above, owner_free}
use Rattle.gate_schedules.specs.operations.{Progress.{HeldLevelAhead, IsHeldIdle, next_level}, Ranks.{most_alone, most_beside, most_settled}}
use Rattle.gate_schedules.specs.operations.Unblocked.{FreezeIsUnblocked, FreezeLocksFree, NobodyInside}

-- one of the two for each number below a bound: the first for some, or the second for all
pub search_below : (n : ℕ) (P Q : ℕ → Type 0) → ((i : ℕ) → i < n → P i ⊎ Q i) → ((i : ℕ) × (i < n) × P i) ⊎ ((i : ℕ) → i < n → Q i)
search_below zero P Q h = inr (λ i lt. absurd (omega (arith, lt)))
search_below (suc n) P Q h =
    elim (search_below n P Q (λ i lt. h i (omega (arith, lt)))) [
      | inl p ↦ inl (p.0, omega (arith, p.1), p.2)
      | inr f ↦ elim (h n (omega arith)) [
        | inl p ↦ inl (n, omega arith, p)
        | inr q ↦ inr (λ i lt. elim (eqb_tells i n) [ inl e ↦ subst Q (sym e.1) q | inr e ↦ f i (omega (arith, lt, e.1)) ])
      ]
    ]

pub not_none : {A : Type 0} (x : A) → Some x ≡ None → ⊥
not_none x h = true≢false (ap is_some h)

-- no idle task holds a level
abbrev pub NoneIdle : Config → World → ℕ → Type 0
NoneIdle c w i = (z : ℕ) → z < c.tasks → (w.views z).phase ≡ None → holds_level (w.views z) i ≡ false

-- nor any that a freeze has to pass yet
abbrev pub IdleApart : Config → World → FreezeStep → Type 0
IdleApart c w step = (i : ℕ) → next_level w.words step ≤ i → i ≤ 3 → NoneIdle c w i

idle_at : (p : Option Phase) (b : Bool) → ((p ≡ None) × (b ≡ true)) ⊎ (p ≡ None → b ≡ false)
idle_at p b = grind (arith, not_none)

idle_level : (c : Config) (w : World) (i : ℕ) → IsHeldIdle c w i ⊎ NoneIdle c w i
idle_level c w i =
    elim (search_below c.tasks (λ z. ((w.views z).phase ≡ None) × (holds_level (w.views z) i ≡ true))
    (λ z. (w.views z).phase ≡ None → holds_level (w.views z) i ≡ false)
    (λ z lz. idle_at (w.views z).phase (holds_level (w.views z) i))) [
      | inl s ↦ inl (s.0, s.1, s.2.0, s.2.1)
      | inr f ↦ inr f
    ]

pub kept_or_apart : (c : Config) (w : World) (step : FreezeStep) → HeldLevelAhead c w step ⊎ IdleApart c w step
kept_or_apart c w step =
    elim (search_below 4 (λ i. (next_level w.words step ≤ i) × IsHeldIdle c w i) (λ i. next_level w.words step ≤ i → NoneIdle c w i)
    (λ i lt. elim (cases_lt i (next_level w.words step)) [
      | inl l ↦ inr (λ le. absurd (omega (arith, l, le)))
      | inr le ↦ elim (idle_level c w i) [ inl h ↦ inl (le, h) | inr f ↦ inr (λ q. f) ]
    ])) [
      | inl s ↦ inl (s.0, s.2.0, omega (arith, s.1), s.2.1)
      | inr f ↦ inr (λ i low high. f i (omega (arith, high)) low)
    ]

-- a start outside its section holds no level from its own up
outside_fits : (i : ℕ) (levels : ℕ → Bool) (s : DownReadStep) → down_read_inside s ≡ 0 → ReadStepFits i levels s →
    holds_none_from i levels ≡ true
outside_fits i levels s h f = grind arith

-- a freeze finds `umount` free at its first lock
abbrev pub FirstFree : Words → FreezeStep → Type 0
FirstFree w FreezeStep.Locks = w.umount ≡ 0
FirstFree w step = Unit {0}

-- where another task has `umount` which a freeze is to take again: it is at stage 1, and no owner
abbrev NeedsLock : Words → ℕ → FreezeStep → Type 0
NeedsLock w nodes step = (w.umount ≡ 0 → ⊥) × (place : Place) × (freeze_stage_role nodes step ≡ Freezing 1 place false)

lock_or : (w : Words) (nodes : ℕ) (s : FreezeStep) → FirstFree w s → FreezeLocksFree w s ⊎ NeedsLock w nodes s
lock_or w nodes FreezeStep.Locks free = inl free
lock_or w nodes (FreezeStep.Closes d) free =
    elim (eqb_tells w.umount 0) [
      | inl z ↦ inl (λ q. z.1)
      | inr z ↦ elim (eqb_tells d.level 1) [
        | inl e ↦ inr (z.1, place_of d.step, ap (λ l. Freezing l (place_of d.step) (nat_lt 1 l)) e.1)
        | inr e ↦ inl (λ q. absurd (e.1 q))
      ]
    ]
lock_or w nodes (FreezeStep.Waits d) free =
    elim (eqb_tells w.umount 0) [
      | inl z ↦ inl (λ q. z.1)
      | inr z ↦ elim (eqb_tells d.level 1) [
        | inl e ↦ inr (z.1, place_of d.step, ap (λ l. Freezing l (place_of d.step) (nat_lt 1 l)) e.1)
        | inr e ↦ inl (λ q. absurd (e.1 q))
      ]
    ]
lock_or w nodes (FreezeStep.Undoes level transition code) free =
    elim (eqb_tells w.umount 0) [
      | inl z ↦ inl (λ q. z.1)
      | inr z ↦ elim (eqb_tells level 1) [
        | inl e ↦ inr (z.1, Before, ap (λ l. Freezing l Before (nat_lt 1 l)) e.1)
        | inr e ↦ inl (λ q. absurd (e.1 q))
      ]
    ]
lock_or w nodes (FreezeStep.LocksToUndo code) free = elim (eqb_tells w.umount 0) [ inl z ↦ inl z.1 | inr z ↦ inr (z.1, Before, refl) ]
lock_or w nodes FreezeStep.LocksAgain free = elim (eqb_tells w.umount 0) [ inl z ↦ inl z.1 | inr z ↦ inr (z.1, HasPassed 0, refl) ]
lock_or w nodes s free = inl tt

-- Another freeze that owns `umount` at stage 1 is to find so, or to release it.
owner_step : (c : Config) (w : Words) (nodes : ℕ) (s : FreezeStep) → NobodyInside c w → w.stage ≡ 1 →
    KnowsStage w.stage w.sb (freeze_stage_role nodes s) → freezes (freeze_stage_role nodes s) ≡ 0 →
    freeze_owns s ≡ 1 → FreezeIsUnblocked c w s
owner_step c w nodes s even one k f o = grind arith

next_some : (c : Config) (holder : Holder) (w : Words) (s : FreezeStep) → FreezeFits c holder s → 1 ≤ next_level w s
next_some c holder w s f = grind arith

-- the levels that a freeze has to pass are the same with the same stage and superblock
pub next_same : (w next : Words) (s : FreezeStep) → next.stage ≡ w.stage → next.sb ≡ w.sb → next_level next s ≡ next_level w s
next_same w next s e f = grind arith

first_same : (w next : Words) (s : FreezeStep) → next.umount ≡ w.umount → FirstFree w s → FirstFree next s
first_same w next s e f = grind arith

module _ (c : Config) (lim : IsWithin c)
    (keeps : EventsKeepRule c)
    (ends : (phase : Phase) → PhaseEnds c phase) where
  module _ (w : World) (good : IsGood c w) (freezing : OwnerFreezes c w)
      (out : (y : ℕ) → y < c.tasks → inside (w.views y).phase ≡ 0) where
    nobody_inside : NobodyInside c w.words
    nobody_inside y ly = good Sections y ly ∙ out y ly

    holder_goes : (z : ℕ) → z < c.tasks → (i : ℕ) → 1 ≤ i → i ≤ 3 → holds_level (w.views z) i ≡ true → (phase : Phase) →
        (w.views z).phase ≡ Some phase → PhaseFits c z (held_of (w.views z)) phase → ReplyWithin c (most_beside c) w
    holder_goes z lz i one three is (Phase.Mounts (MountPhase.Want x)) at f =
        beside_goes c lim keeps ends w good z lz (Phase.Mounts (MountPhase.Want x)) at (hold_clear c w good freezing z lz (ap owns at) x.mount f.0) refl
    holder_goes z lz i one three is (Phase.Mounts (MountPhase.Change x)) at f = absurd (holds_not_none (holds_level (w.views z)) i f.3 one three is)
    holder_goes z lz i one three is (Phase.Remounts x) at f = absurd (holds_not_none (holds_level (w.views z)) i f.4 one three is)
    holder_goes z lz i one three is (Phase.DownReads r) at f =
        let o : down_read_inside r.step ≡ 0 = sym (ap inside at) ∙ out z lz in
        let above : i < r.level =
        holds_below (holds_level (w.views z)) i r.level (outside_fits r.level (holds_level (w.views z)) r.step o f.4) one three is in
        beside_goes c lim keeps ends w good z lz (Phase.DownReads r) at (λ e a. open_above c w good i r.level z one above f.1 lz is) refl
    holder_goes z lz i one three is (Phase.Callbacks b) at f = beside_goes c lim keeps ends w good z lz (Phase.Callbacks b) at nobody_inside refl
    holder_goes z lz i one three is (Phase.Writes (WritePhase.Takes m r)) at f =
        let o : down_read_inside r.step ≡ 0 = sym (ap inside at) ∙ out z lz in
        let above : i < r.level =
        holds_below (holds_level (w.views z)) i r.level (outside_fits r.level (holds_level (w.views z)) r.step o f.0.4) one three is in
        absurd (omega (arith, above, one, f.1))
    holder_goes z lz i one three is (Phase.Writes (WritePhase.Wants x)) at f =
        beside_goes c lim keeps ends w good z lz (Phase.Writes (WritePhase.Wants x)) at
        (hold_clear c w good freezing z lz (ap owns at) x.mount f.0.0) refl
    holder_goes z lz i one three is (Phase.Freezes x) at f = absurd (holds_not_none (holds_level (w.views z)) i f.4 one three is)
    holder_goes z lz i one three is (Phase.Thaws x) at f = absurd (holds_not_none (holds_level (w.views z)) i f.1 one three is)
    holder_goes z lz i one three is (Phase.Trees (TreePhase.Snapshot x)) at f = absurd (holds_not_none (holds_level (w.views z)) i f.1 one three is)
    holder_goes z lz i one three is (Phase.Closes (ClosePhase.LoadsFile x)) at f =
        let above : i < 3 = holds_below (holds_level (w.views z)) i 3 f.3 one three is in
        beside_goes c lim keeps ends w good z lz (Phase.Closes (ClosePhase.LoadsFile x)) at
        (λ e a. open_above c w good i 3 z one above (omega arith) lz is) refl
    holder_goes z lz i one three is (Phase.Closes (ClosePhase.Enters n node r)) at f =
        let o : down_read_inside r.step ≡ 0 = sym (ap inside at) ∙ out z lz in
        let above : i < r.level =
        holds_below (holds_level (w.views z)) i r.level (outside_fits r.level (holds_level (w.views z)) r.step o f.2.4) one three is in
        beside_goes c lim keeps ends w good z lz (Phase.Closes (ClosePhase.Enters n node r)) at
        (λ e a. open_above c w good i r.level z one above f.2.1 lz is) refl
    holder_goes z lz i one three is phase at f = beside_goes c lim keeps ends w good z lz phase at tt refl

    holder_at : (z : ℕ) → z < c.tasks → (i : ℕ) → 1 ≤ i → i ≤ 3 → holds_level (w.views z) i ≡ true → NoneIdle c w i → (p : Option Phase) →
        (w.views z).phase ≡ p → ReplyWithin c (most_beside c) w
    holder_at z lz i one three is none None at = absurd (true≢false (sym is ∙ none z lz at))
    holder_at z lz i one three is none (Some phase) at = holder_goes z lz i one three is phase at (fits_at c w good z lz phase at)

    module _ (t : ℕ) (lt : t < c.tasks) (x : Freeze) (at : (w.views t).phase ≡ Some (Phase.Freezes x)) (apart : IdleApart c w x.step) where
      -- `umount` is another task's, which the freeze is to take again
      owner_goes : NeedsLock w.words x.nodes x.step → ReplyWithin c (most_beside c) w
      owner_goes n =
          let role : stage_roles w t ≡ Freezing 1 n.1 false = ap stage_role_of at ∙ n.2 in
          let one : w.words.stage ≡ 1 = subst (KnowsStage w.words.stage w.words.sb) role ((good Stages).knows t lt) in
          elim freezing [
            | inl free ↦ absurd (n.0 free)
            | inr u ↦
                let own : owns (w.views u.0).phase ≡ 1 = (good Owner).owned u.0 u.1 u.4 in
                let few : total c.tasks (λ v. freezes (stage_roles w v)) ≤ 1 = omega (arith, (good Stages).freezing, ap under_way one) in
                let ne : u.0 ≡ t → ⊥ = λ e. omega (arith, own, ap (λ v. owns (w.views v).phase) e, ap owns at, freeze_owner x.nodes x.step, ap stage_owns n.2) in
                let none : freezes (stage_roles w u.0) ≡ 0 =
                other_zero c.tasks t (λ v. freezes (stage_roles w v)) few lt (ap freezes role) u.0 u.1 ne in
                let its : stage_roles w u.0 ≡ freeze_stage_role u.2.nodes u.2.step = ap stage_role_of u.3 in
                beside_goes c lim keeps ends w good u.0 u.1 (Phase.Freezes u.2) u.3
                (owner_step c w.words u.2.nodes u.2.step nobody_inside one
                (subst (KnowsStage w.words.stage w.words.sb) its ((good Stages).knows u.0 u.1))
                (sym (ap freezes its) ∙ none) (sym (ap owns u.3) ∙ own)) refl
          ]

      -- with nobody inside a section, a freeze that no idle task keeps
      freeze_base : FirstFree w.words x.step → ReplyWithin c (most_beside c) w
      freeze_base first =
          let fits : PhaseFits c t (held_of (w.views t)) (Phase.Freezes x) = fits_at c w good t lt (Phase.Freezes x) at in
          let some : 1 ≤ next_level w.words x.step = next_some c x.holder w.words x.step fits.5 in
          elim (lock_or w.words x.nodes x.step first) [
            | inr n ↦ owner_goes n
            | inl locks ↦ elim (search_below 4
                (λ i. (next_level w.words x.step ≤ i) × (z : ℕ) × (z < c.tasks) × (holds_level (w.views z) i ≡ true))
                (λ i. next_level w.words x.step ≤ i → (z : ℕ) → z < c.tasks → holds_level (w.views z) i ≡ false)
                (λ i li. elim (cases_lt i (next_level w.words x.step)) [
                  | inl l ↦ inr (λ le. absurd (omega (arith, l, le)))
                  | inr le ↦ elim (search_below c.tasks (λ z. holds_level (w.views z) i ≡ true) (λ z. holds_level (w.views z) i ≡ false)
                      (λ z lz. cases_Bool (holds_level (w.views z) i))) [
                        | inl s ↦ inl (le, s.0, s.1, s.2)
                        | inr f ↦ inr (λ q. f)
                      ]
                ])) [
                  | inl s ↦ holder_at s.2.1 s.2.2 s.0 (omega (arith, some, s.2.0)) (omega (arith, s.1)) s.2.3
                      (apart s.0 s.2.0 (omega (arith, s.1))) (w.views s.2.1).phase refl
                  | inr none ↦ beside_goes c lim keeps ends w good t lt (Phase.Freezes x) at (
                    nobody_inside,
                    locks,
                    λ i low high. nothing_counted c w good i (omega (arith, some, low)) high out (none i (omega (arith, high)) low),
                  ) refl
                ]
          ]

  all_out : (w : World) → all_within c w ≡ 0 → (y : ℕ) → y < c.tasks → inside (w.views y).phase ≡ 0
  all_out w none y ly = omega (arith, none, total_at c.tasks y (λ u. inside (w.views u).phase) ly)

  few_within : (w : World) (t : ℕ) → t < c.tasks → inside (w.views t).phase ≡ 0 → all_within c w ≤ c.tasks - 1
  few_within w t lt none =
      let each : ℕ → ℕ = λ u. inside (w.views u).phase in
      let more : total c.tasks (update each t 1) + each t ≡ total c.tasks each + 1 = total_updated (λ n. n) c.tasks t each 1 lt in
      let few : total c.tasks (update each t 1) ≤ c.tasks * 1 =
      total_bound c.tasks 1 (update each t 1) (λ u lu. each_updated (λ y n. n ≤ 1) each t 1 u (omega arith)
      (λ ne. inside_le (w.views u).phase)) in
      omega (arith, more, few, none)

  beside : (w : World) (z : ℕ) (phase : Phase) (hook : HookAnswer) (y : ℕ) → (y ≡ z → ⊥) → (after_step w z phase hook).views y ≡ w.views y
  beside w z phase hook y ne = update_off w.views z (view_after (w.views z) phase (value_at w.words phase hook) hook) y ne

  owner_either : (w : World) → IsGood c w → ReplyWithin c (most_alone c) w ⊎ OwnerFreezes c w
  owner_either w good =
      elim (eqb_tells w.words.umount 0) [
        | inl free ↦ inr (inl free.1)
        | inr taken ↦
            let u : HasOwner c w = has_owner c w good taken.1 in
            elim (owner_free c w.words u.phase u.owner) [
              | inl free ↦ inl (free_goes c lim keeps ends w good u.task u.there u.phase u.at free)
              | inr x ↦ inr (inr (u.task, u.there, x.0, u.at ∙ ap Some x.1, (good Owner).locked u.task u.there (ap owns u.at ∙ u.owner)))
            ]
      ]

  -- A freeze that no idle task keeps has a reply near,
  settled_goes : (w : World) → IsGood c w → (t : ℕ) → t < c.tasks → (x : Freeze) → (w.views t).phase ≡ Some (Phase.Freezes x) →
      IdleApart c w x.step → FirstFree w.words x.step → OwnerFreezes c w → ReplyWithin c (most_beside c + 5 * (c.tasks - 1)) w
  settled_goes w good t lt x at apart first freezing =
      all_leave c lim keeps
      (λ (v : World). ((v.views t).phase ≡ Some (Phase.Freezes x)) × IdleApart c v x.step × FirstFree v.words x.step × OwnerFreezes c v)
      (λ v z lz phase at' within hook q is cond.
      let next : World = after_step v z phase hook in
      let stays : StaysBeside v.words next.words = phase_beside v.words phase hook within in
      let apart_from : (a : ℕ) (y : Freeze) → (v.views a).phase ≡ Some (Phase.Freezes y) → a ≡ z → ⊥ = λ a y there e.
      omega (arith, within, ap inside at', ap (λ y. inside (v.views y).phase) e, ap inside there) in (
        ap (λ (u : View). u.phase) (beside v z phase hook t (apart_from t x cond.0)) ∙ cond.0,
        λ i low high y ly none. elim (eqb_tells y z) [
          | inl e ↦ absurd (not_none q (sym is ∙ (sym (ap (λ a. (next.views a).phase) e.1) ∙ none)))
          | inr e ↦
              let same : next.views y ≡ v.views y = beside v z phase hook y e.1 in
              ap (λ (u : View). holds_level u i) same ∙
              cond.1 i (omega (arith, low, next_same v.words next.words x.step stays.stage_same stays.sb_same)) high y ly
              (sym (ap (λ (u : View). u.phase) same) ∙ none)
        ],
        first_same v.words next.words x.step stays.umount_same cond.2,
        elim cond.3 [
          | inl free ↦ inl (stays.umount_same ∙ free)
          | inr u ↦ inr (
            u.0,
            u.1,
            u.2,
            ap (λ (a : View). a.phase) (beside v z phase hook u.0 (apart_from u.0 u.2 u.3)) ∙ u.3,
            stays.umount_same ∙ u.4,
          )
        ],
      ))
      (most_beside c) (λ v good' cond none. freeze_base v good' cond.3 (all_out v none) t lt x cond.0 cond.1 cond.2)
      (c.tasks - 1) w good (at, apart, first, freezing) (few_within w t lt (ap inside at))

  -- whoever owns `umount`
  pub freeze_goes : (w : World) → IsGood c w → (t : ℕ) → t < c.tasks → (x : Freeze) → (w.views t).phase ≡ Some (Phase.Freezes x) →
      IdleApart c w x.step → FirstFree w.words x.step → ReplyWithin c (most_settled c) w
  freeze_goes w good t lt x at apart first =
      elim (owner_either w good) [
        | inl goes ↦ no_further c (most_alone c) (most_settled c) w (alone_settled c) goes
        | inr freezing ↦ no_further c (most_beside c + 5 * (c.tasks - 1)) (most_settled c) w (beside_settled c)
            (settled_goes w good t lt x at apart first freezing)
      ]

  pub callback_goes : (w : World) → IsGood c w → (t : ℕ) → t < c.tasks → (b : Callback) → (w.views t).phase ≡ Some (Phase.Callbacks b) →
      ReplyWithin c (most_settled c) w
  callback_goes w good t lt b at =
      no_further c (most_beside c + 5 * (c.tasks - 1)) (most_settled c) w (beside_settled c)
      (all_leave c lim keeps (λ (v : World). (v.views t).phase ≡ Some (Phase.Callbacks b))
      (λ v z lz phase at' within hook q is cond.
      let ne : t ≡ z → ⊥ = λ e.
      omega (arith, within, ap inside at', ap (λ y. inside (v.views y).phase) e, ap inside cond) in
      ap (λ (u : View). u.phase) (beside v z phase hook t ne) ∙ cond)
      (most_beside c) (λ v good' cond none. beside_goes c lim keeps ends v good' t lt (Phase.Callbacks b) cond
      (λ y ly. good' Sections y ly ∙ all_out v none y ly) refl)
      (c.tasks - 1) w good at (few_within w t lt (ap inside at)))
