-- The first reply: what is left once the starts, the wants and the claimed callbacks wait is one freeze, and one operation that waits for nobody.
use Rattle.progress_laws.proofs.Prelude.{AllWait, Bool, CallbackStep, Config, Err, Freeze, FreezeStep, GateError, HookAnswer, IsGood, IsWithin}
use Rattle.progress_laws.proofs.Prelude.{MountPhase, Next, None, Option, Phase, PhaseFits, Some, Steps, UpWriteStep, View, Words, World, after_of}
use Rattle.progress_laws.proofs.Prelude.{after_step, ap, arith, at_freeze, cases_Bool, eq-eqb, eqb_tells, false, fits_at, found_at, freeze_after}
use Rattle.progress_laws.proofs.Prelude.{freeze_left, freeze_tries, freeze_waits, happens, held_of, if◌then◌else◌, inl, inr, map_next, must_wait, not}
use Rattle.progress_laws.proofs.Prelude.{phase_after, refl, stands_after, subst, suc, sym, total_at, true, true≢false, words_after, zero, ℕ, ◌*◌, ◌+◌}
use Rattle.progress_laws.proofs.Prelude.{◌<◌, ◌==◌, ◌∙◌, ◌≡◌, ◌≤◌, ◌⊎◌}
use Rattle.std.proofs.{Common.Result, Math.Nat.le-max_right, lemmas.Bool.ne_eqb}
use Rattle.access_model.specs.declared.replies.Reply.{Reply}
use Rattle.freeze_laws.{proofs.stages.Facts.other_zero, specs.stages.Roles.{KnowsStage, freezes, under_way}}
use Rattle.gate_schedules.{proofs.operations.deadlocks.BlockedOrProgress.first_is, specs.operations.{Progress.is_first_lock, Ranks.most_alone}}
use Rattle.gate_world.specs.{Roles.{freeze_stage_role, reopening_role}, Rules.{Stages, stage_role_of, stage_roles}}
use Rattle.progress_laws.proofs.alone.{Alone.HasRoom, FreezeAlone.{ahead_falls, ahead_small, freeze_ahead, freeze_room, tries_in_room}}
use Rattle.progress_laws.proofs.alone.{RunAlone.{Makes, NoneGoes, Stopped, and_then, no_nearer, runs, some_or_none, step_to}, Sweeps.AllBelow}
use Rattle.progress_laws.proofs.alone.{Sweeps.{Falls, WaitsBelow, below_kept, falls_alone, first_kinds}, WaitKinds.{FreezeGoes, NeverWaits, NextIs}}
use Rattle.progress_laws.proofs.alone.WaitKinds.{callback_kind, fails_now, freeze_goes, freeze_keeps, graces_kept, is_failing, kind, never_next}
use Rattle.progress_laws.proofs.blocked.{LostStays.same_entry, OneFreeze.{few_freeze, freezing_at, under_le}}
use Rattle.progress_laws.proofs.nearer.{AllNearer.{freeze_steps, phase_comes, steps_small, thaw_steps, tries_small}, Calls.lock_free}
use Rattle.progress_laws.proofs.{nearer.{Changes.thaw_few, Nearer.{ComesNearer, goes_on}}, rounds.Settling.{others_same, step_good}}
use Rattle.progress_laws.specs.{Alone.alone_left, FirstReply.{RepliesOrWaits, ReplyOr, most_of_kinds, most_to_reply}, StepsLeft.most_steps}

-- need not wait
abbrev is_free : Words → Phase → Bool
is_free w phase = not (must_wait w phase)

free_is : (b : Bool) → not b ≡ true → b ≡ false
free_is b h = grind arith

waits_is : (b : Bool) → not b ≡ false → b ≡ true
waits_is b h = grind arith

-- a freeze that fails waits for `umount` alone, with level 1 given up
waits_undoing : (w : Words) (s : FreezeStep) → freeze_waits w s ≡ true → is_failing s ≡ true → (code : ℕ) × (s ≡ FreezeStep.LocksToUndo code)
waits_undoing w (FreezeStep.LocksToUndo code) waits failing = (code, refl)
waits_undoing w (FreezeStep.Closes d) waits failing = absurd (true≢false (sym failing))
waits_undoing w (FreezeStep.Waits d) waits failing = absurd (true≢false (sym failing))
waits_undoing w FreezeStep.Locks waits failing = absurd (true≢false (sym failing))
waits_undoing w FreezeStep.LocksAgain waits failing = absurd (true≢false (sym failing))
waits_undoing w s waits failing = absurd (true≢false (sym waits))

-- with one freeze at a stage of its own, where another stands that need not wait
abbrev IsBusy : FreezeStep → Type 0
IsBusy s = (is_first_lock s ≡ true) ⊎ ((s ≡ FreezeStep.LoadsStage) ⊎ ((answer : Result Reply GateError) × (s ≡ FreezeStep.Releases answer)))

reopening_stage : (stage sb level : ℕ) (s : UpWriteStep) → KnowsStage stage sb (reopening_role level s) → stage ≡ 0
reopening_stage stage sb level UpWriteStep.ClearsBlock known = known.0
reopening_stage stage sb level (UpWriteStep.Exits x) known = known.0

is_busy : (stage sb nodes : ℕ) (s : FreezeStep) → under_way stage ≡ 1 → KnowsStage stage sb (freeze_stage_role nodes s) →
    freezes (freeze_stage_role nodes s) ≡ 0 → IsBusy s
is_busy stage sb nodes s under known none = grind (arith, reopening_stage)

-- each phase is of one of the first two kinds, or a freeze, or of the last kind
kinds : (phase : Phase) → (kind phase < 2) ⊎ (((x : Freeze) × (phase ≡ Phase.Freezes x)) ⊎ (kind phase ≡ 3))
kinds (Phase.Mounts (MountPhase.Want x)) = inl (omega arith)
kinds (Phase.Mounts x) = inr (inr refl)
kinds (Phase.Remounts x) = inr (inr refl)
kinds (Phase.DownReads r) = inl (omega arith)
kinds (Phase.UpReads u) = inr (inr refl)
kinds (Phase.Callbacks b) = inl (few b.step)
  where
    few : (s : CallbackStep) → callback_kind s < 2
    few s = grind arith
kinds (Phase.Writes x) = inl (omega arith)
kinds (Phase.Freezes x) = inr (inl (x, refl))
kinds (Phase.Thaws x) = inr (inr refl)
kinds (Phase.Trees x) = inr (inr refl)
kinds (Phase.Closes x) = inl (omega arith)

busy_stage : (stage : ℕ) → under_way stage ≡ 1 → ((stage == 0) ≡ false) × ((stage == 4) ≡ false)
busy_stage stage one =
    elim (eqb_tells stage 0) [
      | inl e ↦ absurd (omega (arith, one, ap under_way e.1))
      | inr e ↦ elim (eqb_tells stage 4) [ inl f ↦ absurd (omega (arith, one, ap under_way f.1)) | inr f ↦ (e.0, f.0) ]
    ]

fails_still : (s : FreezeStep) (hook : HookAnswer) → is_failing s ≡ true → fails_now s hook ≡ true
fails_still (FreezeStep.Waits d) hook f = absurd (true≢false (sym f))
fails_still s hook f = f

-- the steps that a freeze may still take alone
abbrev alone_of : ℕ → Words → Phase → ℕ
alone_of processors w (Phase.Freezes x) = freeze_left x x.step + 1 + freeze_ahead processors x.step + freeze_tries w x.step
alone_of processors w phase = 1

alone_some : (processors : ℕ) (w : Words) (phase : Phase) → 0 < alone_of processors w phase
alone_some processors w (Phase.Freezes x) = omega arith
alone_some processors w phase = omega arith

-- with one task more that is lost
abbrev with_lost : (ℕ → Bool) → ℕ → ℕ → Bool
with_lost lost t y = if y == t then true else lost y

with_it : (lost : ℕ → Bool) (t : ℕ) → with_lost lost t t ≡ true
with_it lost t = rw (eq-eqb t t refl) refl

with_live : (lost : ℕ → Bool) (t y : ℕ) → with_lost lost t y ≡ false → lost y ≡ false
with_live lost t y live = elim (cases_Bool (y == t)) [ inl is ↦ absurd (true≢false (rw is at live)) | inr ne ↦ rw ne at live ]

live_with : (lost : ℕ → Bool) (t y : ℕ) → (y ≡ t → ⊥) → lost y ≡ false → with_lost lost t y ≡ false
live_with lost t y ne live = rw (ne_eqb y t ne) live

-- a scheduler that steps fewer tasks is one that may step more, and leaves the view of one that it doesn't step
module _ (c : Config) (lost : ℕ → Bool) (t : ℕ) (v : View) where
  apart : (P : World → Type 0) (n : ℕ) (w : World) → w.views t ≡ v → ReplyOr c (with_lost lost t) P n w →
      ReplyOr c lost (λ z. P z × (z.views t ≡ v)) n w
  apart P zero w same h = (h, same)
  apart P (suc n) w same (inl h) = inl (h, same)
  apart P (suc n) w same (inr s) = inr (
    s.0,
    s.1,
    with_live lost t s.0 s.2,
    s.3,
    λ hook. elim (s.4 hook) [
      | inl r ↦ inl r
      | inr h ↦
          inr (apart P n (happens c w (Steps s.0 hook))
          (same_entry c t w (Steps s.0 hook) (λ e. true≢false (sym (with_it lost t) ∙ (ap (with_lost lost t) e ∙ s.2))) ∙ same) h)
    ],
  )

module _ (c : Config) (lim : IsWithin c) (lost : ℕ → Bool) where
  some_same : (p q : Phase) → Some p ≡ Some q → p ≡ q
  some_same p q e = ap (λ (o : Option Phase). elim o [ None ↦ p | Some x ↦ x ]) e

  abbrev most_of_freeze : ℕ
  most_of_freeze = 6 * c.tasks + 6 * c.processors + c.nodes + 59

  -- an operation of the last kind that need not wait comes to its reply
  module _ (t : ℕ) (lt : t < c.tasks) (live : lost t ≡ false) where
    abbrev GoesOn : World → Type 0
    GoesOn v = (q : Phase) × ((v.views t).phase ≡ Some q) × (kind q ≡ 3) × (must_wait v.words q ≡ false)

    last_room : (phase : Phase) → kind phase ≡ 3 → HasRoom c lim t lt 0 2 (Some phase)
    last_room phase is = grind arith

    last_small : (w : World) → IsGood c w → (phase : Phase) → (w.views t).phase ≡ Some phase → kind phase ≡ 3 →
        alone_left 0 2 w.words (Some phase) ≤ most_steps c
    last_small w good phase at is = of_kind phase (fits_at c w good t lt phase at) is
      where
        most : 6 * c.tasks + c.nodes + 34 ≤ most_steps c
        most = le-max_right (most_alone c) (6 * c.tasks + c.nodes + 34)

        of_kind : (phase : Phase) → PhaseFits c t (held_of (w.views t)) phase → kind phase ≡ 3 → alone_left 0 2 w.words (Some phase) ≤ most_steps c
        of_kind (Phase.Mounts x) f is = omega (arith, steps_small c lim w.words t (held_of (w.views t)) (Phase.Mounts x) f)
        of_kind (Phase.Remounts x) f is = omega (arith, steps_small c lim w.words t (held_of (w.views t)) (Phase.Remounts x) f)
        of_kind (Phase.UpReads u) f is = omega (arith, most)
        of_kind (Phase.Thaws x) f is =
            omega (arith, most, thaw_steps x.holder x.step f.2, thaw_few 1 x x.step f.2, tries_small c w.words t (held_of (w.views t)) (Phase.Thaws x) f)
        of_kind (Phase.Trees x) f is = omega (arith, steps_small c lim w.words t (held_of (w.views t)) (Phase.Trees x) f)
        of_kind (Phase.Callbacks b) f is = absurd (few b.step is)
          where
            few : (s : CallbackStep) → callback_kind s ≡ 3 → ⊥
            few s is = grind arith
        of_kind phase f is = absurd (omega (arith, is))

    last_makes : (w : World) → IsGood c w → (phase : Phase) → (w.views t).phase ≡ Some phase → is_free w.words phase ≡ true → GoesOn w → (hook : HookAnswer) →
        Makes c lim lost t lt live is_free (λ v p. alone_left 0 2 v (Some p)) GoesOn w phase hook
    last_makes w good phase at free i hook =
        let is : kind phase ≡ 3 = ap kind (some_same phase i.0 (sym at ∙ i.1)) ∙ i.2 in
        let goes : must_wait w.words phase ≡ false = free_is (must_wait w.words phase) free in
        by (after_of phase (found_at w.words phase hook) hook).0 (stands_after c w t lt hook phase at) (never_next w.words phase hook is goes)
        (falls_alone c lim 0 2 w good t lt phase at goes (last_room phase is) hook)
      where
        by : (coming : Next Phase) → ((after_step w t phase hook).views t).phase ≡ phase_after coming → NextIs NeverWaits coming →
            Falls c lim 0 2 (alone_left 0 2 w.words (Some phase)) (words_after w.words phase hook) coming →
            Makes c lim lost t lt live is_free (λ v p. alone_left 0 2 v (Some p)) GoesOn w phase hook
        by (Next.Go q) here never falls = inr (q, here, (q, here, never.0, never.1 (words_after w.words phase hook)), λ g. falls)
        by (Next.Wait q) here never falls = inr (q, here, (q, here, never.0, never.1 (words_after w.words phase hook)), λ g. falls)
        by (Next.Done answer) here never falls = inl here

    pub last_replies : (P : World → Type 0) (w : World) → IsGood c w → (phase : Phase) → (w.views t).phase ≡ Some phase → kind phase ≡ 3 →
        must_wait w.words phase ≡ false → ReplyOr c lost P (most_steps c) w
    last_replies P w good phase at is free =
        and_then c lim lost (Stopped c lim lost t lt live is_free (λ v p. alone_left 0 2 v (Some p)) GoesOn) P (most_steps c) 0 (most_steps c) w
        (omega arith) good
        (runs c lim lost t lt live is_free (λ v p. alone_left 0 2 v (Some p)) GoesOn (λ v p g. omega arith) last_makes (most_steps c) w good phase at
        (phase, at, is, free) (λ g. last_small w good phase at is)) (λ v sound h.
        absurd (true≢false (sym (waits_is (must_wait v.words h.1) h.3) ∙
        (ap (must_wait v.words) (some_same h.1 h.0.0 (sym h.2 ∙ h.0.1)) ∙ h.0.3))))

    -- a freeze alone
    abbrev Freezing : World → Type 0
    Freezing v =
        (x : Freeze) × ((v.views t).phase ≡ Some (Phase.Freezes x)) × ((is_failing x.step ≡ true) ⊎ AllBelow c lim lost 2 v) ×
        (is_first_lock x.step ≡ true → freeze_waits v.words x.step ≡ false)

    module _ (w : World) (good : IsGood c w) (x : Freeze) (at : (w.views t).phase ≡ Some (Phase.Freezes x)) (free : freeze_waits w.words x.step ≡ false)
        (closed : (is_failing x.step ≡ true) ⊎ AllBelow c lim lost 2 w) (hook : HookAnswer) where
      abbrev next : World
      next = after_step w t (Phase.Freezes x) hook

      stays_closed : (y : Freeze) → (next.views t).phase ≡ Some (Phase.Freezes y) → (fails_now x.step hook ≡ true → is_failing y.step ≡ true) →
          (is_failing y.step ≡ true) ⊎ AllBelow c lim lost 2 next
      stays_closed y here fails =
          elim (cases_Bool (fails_now x.step hook)) [
            | inl f ↦ inl (fails f)
            | inr on ↦ elim closed [
              | inl f ↦ absurd (true≢false (sym (fails_still x.step hook f) ∙ on))
              | inr all ↦
                  let k = freeze_keeps w.words x x.step hook on in
                  inr (λ z lz lv. elim (eqb_tells z t) [
                    | inl e ↦
                        subst (WaitsBelow 2 next.words) (sym (ap (λ a. (next.views a).phase) e.1 ∙ here)) (λ below. absurd (omega (arith, below)))
                    | inr ne ↦
                        subst (WaitsBelow 2 next.words) (sym (others_same c lim w good t lt (Phase.Freezes x) at hook z ne.1))
                        (below_kept 2 w.words next.words (λ q low waits. graces_kept w.words next.words k.0 k.1 q (omega (arith, low)) waits)
                        (w.views z).phase (all z lz lv))
                  ])
            ]
          ]

      -- its number falls
      fewer_left : (y : Freeze) → (next.views t).phase ≡ Some (Phase.Freezes y) →
          (freeze_ahead c.processors y.step ≤ freeze_ahead c.processors x.step) × (freeze_left y y.step < freeze_left x x.step →
          freeze_ahead c.processors y.step + freeze_room c.processors y.step ≤ freeze_ahead c.processors x.step + freeze_tries w.words x.step) →
          ComesNearer w.words next.words (Phase.Freezes x) (Next.Go (Phase.Freezes y)) →
          alone_of c.processors next.words (Phase.Freezes y) < alone_of c.processors w.words (Phase.Freezes x)
      fewer_left y here ahead (inl lower) =
          let f : PhaseFits c t (held_of (next.views t)) (Phase.Freezes y) =
          fits_at c next (step_good c lim w good t lt hook (Phase.Freezes x) at) t lt (Phase.Freezes y) here in
          omega (arith, lower, ahead.1 lower, tries_in_room c next.words y y.step f.5)
      fewer_left y here ahead (inr (inl h)) = absurd (omega (arith, h.1))
      fewer_left y here ahead (inr (inr h)) = omega (arith, h.0, ahead.0, h.2)

      freeze_by : (n : Next Freeze) → (next.views t).phase ≡ phase_after (map_next Phase.Freezes n) → FreezeGoes (fails_now x.step hook) n →
          NextIs (λ (y : Freeze). (freeze_ahead c.processors y.step ≤ freeze_ahead c.processors x.step) × (freeze_left y y.step < freeze_left x x.step →
          freeze_ahead c.processors y.step + freeze_room c.processors y.step ≤ freeze_ahead c.processors x.step + freeze_tries w.words x.step)) n →
          ComesNearer w.words next.words (Phase.Freezes x) (map_next Phase.Freezes n) →
          Makes c lim lost t lt live is_free (alone_of c.processors) Freezing w (Phase.Freezes x) hook
      freeze_by (Next.Go y) here goes ahead nears =
          inr (
            Phase.Freezes y,
            here,
            (y, here, stays_closed y here goes.1, λ first. absurd (true≢false (sym first ∙ goes.0))),
            λ g. fewer_left y here ahead nears,
          )
      freeze_by (Next.Wait y) here goes ahead nears =
          inr (
            Phase.Freezes y,
            here,
            (y, here, stays_closed y here goes.1, λ first. absurd (true≢false (sym first ∙ goes.0))),
            λ g. fewer_left y here ahead nears,
          )
      freeze_by (Next.Done answer) here goes ahead nears = inl here

      freeze_makes : Makes c lim lost t lt live is_free (alone_of c.processors) Freezing w (Phase.Freezes x) hook
      freeze_makes =
          let f : PhaseFits c t (held_of (w.views t)) (Phase.Freezes x) = fits_at c w good t lt (Phase.Freezes x) at in
          let found : ℕ = found_at w.words (Phase.Freezes x) hook in
          freeze_by (freeze_after x x.step found hook).0 (stands_after c w t lt hook (Phase.Freezes x) at) (freeze_goes w.words x x.step hook free)
          (ahead_falls c.processors w.words x c x.step found hook f.5)
          ((phase_comes c (Phase.Freezes x)).nears lim w good t lt hook at (goes_on w.words (Phase.Freezes x) hook free))

    freeze_small : (w : World) → IsGood c w → (x : Freeze) → (w.views t).phase ≡ Some (Phase.Freezes x) →
        alone_of c.processors w.words (Phase.Freezes x) ≤ most_of_freeze
    freeze_small w good x at =
        let f : PhaseFits c t (held_of (w.views t)) (Phase.Freezes x) = fits_at c w good t lt (Phase.Freezes x) at in
        omega (
          arith,
          freeze_steps c x x.step f.1 f.3 f.5,
          ahead_small c c.processors x x.step f.5,
          tries_in_room c w.words x x.step f.5,
        )

    freeze_goes_on : (w : World) → IsGood c w → (phase : Phase) → (w.views t).phase ≡ Some phase → is_free w.words phase ≡ true → Freezing w → (hook : HookAnswer) →
        Makes c lim lost t lt live is_free (alone_of c.processors) Freezing w phase hook
    freeze_goes_on w good phase at free i hook =
        let e : phase ≡ Phase.Freezes i.0 = some_same phase (Phase.Freezes i.0) (sym at ∙ i.1) in
        subst (λ p. Makes c lim lost t lt live is_free (alone_of c.processors) Freezing w p hook) (sym e)
        (freeze_makes w good i.0 i.1 (sym (ap (must_wait w.words) e) ∙ free_is (must_wait w.words phase) free) i.2 hook)

  -- beside a freeze at a stage of its own, one that need not wait finds it busy
  module _ (P : World → Type 0) (u : ℕ) (lu : u < c.tasks) (live : lost u ≡ false) (y : Freeze) where
    releases_soon : (n : ℕ) (v : World) (answer : Result Reply GateError) → (v.views u).phase ≡ Some (Phase.Freezes (at_freeze y (FreezeStep.Releases answer))) →
        ReplyOr c lost P (suc n) v
    releases_soon n v answer at =
        step_to c lim lost P n v u lu live (Phase.Freezes (at_freeze y (FreezeStep.Releases answer))) at (λ hook.
        inl (stands_after c v u lu hook (Phase.Freezes (at_freeze y (FreezeStep.Releases answer))) at))

    loads_soon : (n : ℕ) (v : World) → (v.views u).phase ≡ Some (Phase.Freezes (at_freeze y FreezeStep.LoadsStage)) → (v.words.stage == 0) ≡ false →
        (v.words.stage == 4) ≡ false → ReplyOr c lost P (suc (suc n)) v
    loads_soon n v at some part =
        step_to c lim lost P (suc n) v u lu live (Phase.Freezes (at_freeze y FreezeStep.LoadsStage)) at (λ hook.
        let q : Phase = Phase.Freezes (at_freeze y FreezeStep.LoadsStage) in
        let e : phase_after (after_of q (found_at v.words q hook) hook).0 ≡ Some (Phase.Freezes (at_freeze y (FreezeStep.Releases (Err GateError.Busy)))) =
        rw (some, part) refl in
        inr (releases_soon n (after_step v u q hook) (Err GateError.Busy) (stands_after c v u lu hook q at ∙ e)))

    locks_soon : (n : ℕ) (v : World) → (v.views u).phase ≡ Some (Phase.Freezes (at_freeze y FreezeStep.Locks)) → (v.words.umount == 0) ≡ true →
        (v.words.stage == 0) ≡ false → (v.words.stage == 4) ≡ false → ReplyOr c lost P (suc (suc (suc n))) v
    locks_soon n v at free some part =
        step_to c lim lost P (suc (suc n)) v u lu live (Phase.Freezes (at_freeze y FreezeStep.Locks)) at (λ hook.
        let q : Phase = Phase.Freezes (at_freeze y FreezeStep.Locks) in
        let e : phase_after (after_of q (found_at v.words q hook) hook).0 ≡ Some (Phase.Freezes (at_freeze y FreezeStep.LoadsStage)) = rw free refl in
        inr (loads_soon n (after_step v u q hook) (stands_after c v u lu hook q at ∙ e) some part))

    -- one that has given level 1 up finds `umount` free
    undo_soon : (n : ℕ) (v : World) (code : ℕ) → (v.views u).phase ≡ Some (Phase.Freezes (at_freeze y (FreezeStep.LocksToUndo code))) →
        (v.words.umount == 0) ≡ true → ReplyOr c lost P (suc (suc (suc n))) v
    undo_soon n v code at free =
        step_to c lim lost P (suc (suc n)) v u lu live (Phase.Freezes (at_freeze y (FreezeStep.LocksToUndo code))) at (λ hook.
        let q : Phase = Phase.Freezes (at_freeze y (FreezeStep.LocksToUndo code)) in
        let e : phase_after (after_of q (found_at v.words q hook) hook).0 ≡ Some (Phase.Freezes (at_freeze y (FreezeStep.GivesUp 1 code))) =
        rw free refl in
        inr (gives_up_soon n (after_step v u q hook) code (stands_after c v u lu hook q at ∙ e)))
      where
        gives_up_soon : (n : ℕ) (v : World) (code : ℕ) → (v.views u).phase ≡ Some (Phase.Freezes (at_freeze y (FreezeStep.GivesUp 1 code))) →
            ReplyOr c lost P (suc (suc n)) v
        gives_up_soon n v code at =
            step_to c lim lost P (suc n) v u lu live (Phase.Freezes (at_freeze y (FreezeStep.GivesUp 1 code))) at (λ hook.
            let q : Phase = Phase.Freezes (at_freeze y (FreezeStep.GivesUp 1 code)) in
            inr (releases_soon n (after_step v u q hook) (Err (GateError.Hook code)) (stands_after c v u lu hook q at)))

    busy_soon : (v : World) (s : FreezeStep) → (v.views u).phase ≡ Some (Phase.Freezes (at_freeze y s)) → freeze_waits v.words s ≡ false → IsBusy s →
        (v.words.stage == 0) ≡ false → (v.words.stage == 4) ≡ false → ReplyOr c lost P 3 v
    busy_soon v s at free (inl first) some part =
        let e : s ≡ FreezeStep.Locks = first_is s first in
        locks_soon 0 v (at ∙ ap (λ r. Some (Phase.Freezes (at_freeze y r))) e) (lock_free v.words (sym (ap (freeze_waits v.words) e) ∙ free)) some part
    busy_soon v s at free (inr (inl e)) some part = loads_soon 1 v (at ∙ ap (λ r. Some (Phase.Freezes (at_freeze y r))) e) some part
    busy_soon v s at free (inr (inr h)) some part = releases_soon 2 v h.0 (at ∙ ap (λ r. Some (Phase.Freezes (at_freeze y r))) h.1)

  all_wait : (w : World) → NoneGoes c lim lost is_free w → AllWait c lost w
  all_wait w none t lt live phase at = waits_is (must_wait w.words phase) (none t lt live phase at)

  three_few : 3 ≤ most_steps c
  three_few = omega (arith, le-max_right (most_alone c) (6 * c.tasks + c.nodes + 34))

  -- with the freeze of this task at a stage of its own, where it waits
  module _ (w : World) (good : IsGood c w) (all : AllBelow c lim lost 2 w) (t : ℕ) (lt : t < c.tasks) (x : Freeze)
      (at : (w.views t).phase ≡ Some (Phase.Freezes x)) (waits : freeze_waits w.words x.step ≡ true) (first : is_first_lock x.step ≡ false) where
    mine : freezes (stage_roles w t) ≡ 1
    mine = freezing_at c w good t x at waits first

    under : under_way w.words.stage ≡ 1
    under = omega (arith, (good Stages).freezing, mine, total_at c.tasks t (λ z. freezes (stage_roles w z)) lt, under_le w.words.stage)

    another : (u : ℕ) → u < c.tasks → lost u ≡ false → (y : Freeze) → (w.views u).phase ≡ Some (Phase.Freezes y) → freeze_waits w.words y.step ≡ false →
        ReplyOr c lost (AllWait c lost) 3 w
    another u lu live y there free =
        let ne : u ≡ t → ⊥ = λ e.
        true≢false (sym waits ∙ (ap (must_wait w.words) (some_same (Phase.Freezes x) (Phase.Freezes y)
        (sym at ∙ (sym (ap (λ z. (w.views z).phase) e) ∙ there))) ∙ free)) in
        let none : freezes (stage_roles w u) ≡ 0 = other_zero c.tasks t (λ z. freezes (stage_roles w z)) (few_freeze c w good) lt mine u lu ne in
        let its : stage_roles w u ≡ freeze_stage_role y.nodes y.step = ap stage_role_of there in
        let known : KnowsStage w.words.stage w.words.sb (freeze_stage_role y.nodes y.step) =
        subst (KnowsStage w.words.stage w.words.sb) its ((good Stages).knows u lu) in
        let at_stage = busy_stage w.words.stage under in
        busy_soon (AllWait c lost) u lu live y w y.step there free
        (is_busy w.words.stage w.words.sb y.nodes y.step under known (sym (ap freezes its) ∙ none)) at_stage.0 at_stage.1

    beside_freeze : ReplyOr c lost (AllWait c lost) (most_steps c) w
    beside_freeze =
        elim (some_or_none c lim lost is_free w) [
          | inl s ↦ one s.0 s.1 s.2 s.3 s.4 (free_is (must_wait w.words s.3) s.5) (kinds s.3)
          | inr none ↦ no_nearer c lim lost (AllWait c lost) 0 (most_steps c) w (omega arith) (all_wait w none)
        ]
      where
        one : (u : ℕ) → u < c.tasks → lost u ≡ false → (phase : Phase) → (w.views u).phase ≡ Some phase → must_wait w.words phase ≡ false →
            (kind phase < 2) ⊎ (((y : Freeze) × (phase ≡ Phase.Freezes y)) ⊎ (kind phase ≡ 3)) → ReplyOr c lost (AllWait c lost) (most_steps c) w
        one u lu live phase there free (inl low) =
            let below : WaitsBelow 2 w.words (Some phase) = subst (WaitsBelow 2 w.words) there (all u lu live) in
            absurd (true≢false (sym (below low) ∙ free))
        one u lu live phase there free (inr (inl y)) =
            no_nearer c lim lost (AllWait c lost) 3 (most_steps c) w three_few
            (another u lu live y.0 (there ∙ ap Some y.1) (sym (ap (must_wait w.words) y.1) ∙ free))
        one u lu live phase there free (inr (inr last)) = last_replies u lu live (AllWait c lost) w good phase there last free

  -- with the freeze of this task at the lock that it needs to give level 1 up
  undoing : (w : World) → IsGood c w → AllBelow c lim lost 2 w → (t : ℕ) → t < c.tasks → lost t ≡ false → (x : Freeze) (code : ℕ) →
      (w.views t).phase ≡ Some (Phase.Freezes (at_freeze x (FreezeStep.LocksToUndo code))) → ReplyOr c lost (AllWait c lost) (most_steps c) w
  undoing w good all t lt live x code at =
      elim (eqb_tells w.words.umount 0) [
        | inl z ↦
            no_nearer c lim lost (AllWait c lost) 3 (most_steps c) w three_few
            (undo_soon (AllWait c lost) t lt live x 0 w code at z.0)
        | inr z ↦ beside_freeze w good all t lt (at_freeze x (FreezeStep.LocksToUndo code)) at (rw z.0 refl) refl
      ]

  -- once it waits there, all starts come outside or go in again
  after_undoing : (w : World) → IsGood c w → (t : ℕ) → t < c.tasks → lost t ≡ false → (x : Freeze) (code : ℕ) →
      (w.views t).phase ≡ Some (Phase.Freezes (at_freeze x (FreezeStep.LocksToUndo code))) →
      ReplyOr c lost (AllWait c lost) (most_of_kinds c + most_steps c) w
  after_undoing w good t lt live x code at =
      and_then c lim lost (λ z. AllBelow c lim (with_lost lost t) 2 z × (z.views t ≡ w.views t)) (AllWait c lost) (most_of_kinds c) (most_steps c)
      (most_of_kinds c + most_steps c) w (omega arith) good
      (apart c lost t (w.views t) (AllBelow c lim (with_lost lost t) 2) (most_of_kinds c) w refl (first_kinds c lim (with_lost lost t) w good))
      (λ z sound h.
      let there : (z.views t).phase ≡ Some (Phase.Freezes (at_freeze x (FreezeStep.LocksToUndo code))) = ap (λ (v : View). v.phase) h.1 ∙ at in
      undoing z sound (λ y ly lives. elim (eqb_tells y t) [
        | inl e ↦
            subst (WaitsBelow 2 z.words) (sym (ap (λ a. (z.views a).phase) e.1 ∙ there)) (λ below. absurd (omega (arith, below)))
        | inr ne ↦ h.0 y ly (live_with lost t y ne.1 lives)
      ]) t lt live x code there)

  after_kinds : (w : World) → IsGood c w → AllBelow c lim lost 2 w →
      ReplyOr c lost (AllWait c lost) (most_of_freeze + (most_of_kinds c + most_steps c)) w
  after_kinds w good all =
      elim (some_or_none c lim lost is_free w) [
        | inl s ↦ one s.0 s.1 s.2 s.3 s.4 (free_is (must_wait w.words s.3) s.5) (kinds s.3)
        | inr none ↦
            no_nearer c lim lost (AllWait c lost) 0 (most_of_freeze + (most_of_kinds c + most_steps c)) w (omega arith) (all_wait w none)
      ]
    where
      freeze_first : (t : ℕ) (lt : t < c.tasks) (live : lost t ≡ false) (x : Freeze) → (w.views t).phase ≡ Some (Phase.Freezes x) → freeze_waits w.words x.step ≡ false →
          ReplyOr c lost (AllWait c lost) (most_of_freeze + (most_of_kinds c + most_steps c)) w
      freeze_first t lt live x at free =
          and_then c lim lost (Stopped c lim lost t lt live is_free (alone_of c.processors) (Freezing t lt live)) (AllWait c lost)
          (most_of_freeze) (most_of_kinds c + most_steps c) (most_of_freeze + (most_of_kinds c + most_steps c)) w (omega arith) good
          (runs c lim lost t lt live is_free (alone_of c.processors) (Freezing t lt live) (λ v p g. alone_some c.processors v p)
          (freeze_goes_on t lt live) (most_of_freeze) w good (Phase.Freezes x) at (x, at, inr all, λ first. free)
          (λ g. freeze_small t lt live w good x at)) (λ v sound h.
          let waits : freeze_waits v.words h.0.0.step ≡ true =
          sym (ap (must_wait v.words) (some_same h.1 (Phase.Freezes h.0.0) (sym h.2 ∙ h.0.1))) ∙ waits_is (must_wait v.words h.1) h.3 in
          elim h.0.2 [
            | inl failing ↦
                let undo = waits_undoing v.words h.0.0.step waits failing in
                after_undoing v sound t lt live h.0.0 undo.0 (h.0.1 ∙ ap (λ s. Some (Phase.Freezes (at_freeze h.0.0 s))) undo.1)
            | inr closed ↦ elim (cases_Bool (is_first_lock h.0.0.step)) [
              | inl first ↦ absurd (true≢false (sym waits ∙ h.0.3 first))
              | inr later ↦
                  no_nearer c lim lost (AllWait c lost) (most_steps c) (most_of_kinds c + most_steps c) v (omega arith)
                  (beside_freeze v sound closed t lt h.0.0 h.0.1 waits later)
            ]
          ])

      one : (t : ℕ) → t < c.tasks → lost t ≡ false → (phase : Phase) → (w.views t).phase ≡ Some phase → must_wait w.words phase ≡ false →
          (kind phase < 2) ⊎ (((x : Freeze) × (phase ≡ Phase.Freezes x)) ⊎ (kind phase ≡ 3)) →
          ReplyOr c lost (AllWait c lost) (most_of_freeze + (most_of_kinds c + most_steps c)) w
      one t lt live phase at free (inl low) =
          let below : WaitsBelow 2 w.words (Some phase) = subst (WaitsBelow 2 w.words) at (all t lt live) in absurd (true≢false (sym (below low) ∙ free))
      one t lt live phase at free (inr (inl x)) =
          freeze_first t lt live x.0 (at ∙ ap Some x.1) (sym (ap (must_wait w.words) x.1) ∙ free)
      one t lt live phase at free (inr (inr last)) =
          no_nearer c lim lost (AllWait c lost) (most_steps c) (most_of_freeze + (most_of_kinds c + most_steps c)) w (omega arith)
          (last_replies t lt live (AllWait c lost) w good phase at last free)

pub first_reply : (c : Config) → IsWithin c → (lost : ℕ → Bool) (w : World) → IsGood c w → RepliesOrWaits c lost (most_to_reply c) w
first_reply c lim lost w good =
    and_then c lim lost (AllBelow c lim lost 2) (AllWait c lost) (most_of_kinds c)
    (most_of_freeze c lim lost + (most_of_kinds c + most_steps c)) (most_to_reply c) w (omega arith) good (first_kinds c lim lost w good) (λ v sound all. after_kinds c lim lost v sound all)
