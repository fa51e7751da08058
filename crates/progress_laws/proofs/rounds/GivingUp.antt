-- Where `keep_waiting` says to give up, the loads of a sum run out: so no freeze is left at one, and only a thaw or a lost task is waited for.
use Rattle.progress_laws.proofs.Prelude.{AllWait, Bool, CallbackIsBlockedBy, CallbackStep, ClosePhase, ClosingIsBlockedBy, Config, DownWrite}
use Rattle.progress_laws.proofs.Prelude.{DownWriteStep, DownWriteStepFits, Entry, Freeze, FreezeFits, FreezeIsBlockedBy, FreezeStep, Grace, GraceNext}
use Rattle.progress_laws.proofs.Prelude.{Holdings, HookAnswer, IsGood, IsWithin, KeepWaiting, List, MountPhase, Next, None, Option, Phase, PhaseFits}
use Rattle.progress_laws.proofs.Prelude.{Some, Sum, TreePhase, Words, World, WritePhase, after_closing, after_of, after_step, ap, arith, at_freeze}
use Rattle.progress_laws.proofs.Prelude.{cases_Bool, closing_waits, down_write_after, eq-eqb, eqb_tells, false, fits_at, found_at, freeze_after}
use Rattle.progress_laws.proofs.Prelude.{freeze_owns, freeze_waits, held_of, hook_of, if◌then◌else◌, inl, inr, is_frozen_whole, is_outside}
use Rattle.progress_laws.proofs.Prelude.{level_closed, map_next, must_wait, nat_lt, not, owns, phase_after, refl, sections_awaited, stands_after}
use Rattle.progress_laws.proofs.Prelude.{subst, sym, total, total_le, true, true≢false, turns_left, ℕ, ◌&&◌, ◌*◌, ◌+◌, ◌-◌, ◌<◌, ◌∙◌, ◌≡◌, ◌≤◌, ◌⊎◌}
use Rattle.std.proofs.{Common.{add-one, length}, Math.Nat.suc-mul, lemmas.Bool.{and_parts, ltb-true}}
use Rattle.{cpu_words.specs.{Sums.sum_taking, Touches.wrap_add}, finite_sums.proofs.Totals.{total_bound, total_same}}
use Rattle.{freeze_levels.specs.Freezes.freeze_hook, gate_schedules.specs.operations.Progress.{HasReply, IsUnderWay}}
use Rattle.{gate_world.specs.Shown.{freeze_closing, is_summing}, percpu_rwsem.specs.Writers.down_write_summed}
use Rattle.progress_laws.proofs.blocked.{Blame.{each_is_blocked, owner_goes}, NobodyReplies.is_error, Remaining.waits_for_remains}
use Rattle.progress_laws.proofs.nearer.{AllNearer.outside_waits, Nearer.{freeze_waits_on, on_waits, waits_on}}
use Rattle.progress_laws.proofs.rounds.Measured.{AllSo, IsStep, Keeps, Leaves, Measures, rounds_good, rounds_settle}
use Rattle.progress_laws.proofs.rounds.Potentials.{mul_comm, mul_le, total_lower, unit_falls}
use Rattle.progress_laws.proofs.rounds.Settling.{IsRoomy, next_roomy, others_same, step_falls, step_good, step_stays, turns_few, waits_at, waits_of}
use Rattle.progress_laws.specs.{Answers.{IsImpatient, RoundsAnswerSo}, FairRounds.{AreRounds, nobody, rests_at, run_all}}
use Rattle.progress_laws.specs.GivingUp.{NoFreezeSums, RemainsUnpassed, RepliesOrWaitsForThaw, SettlesImpatiently, WaitsForThaw, load_room}
use Rattle.progress_laws.specs.{GivingUp.{load_room_of, most_turns_to_give_up, turns_to_give_up}, LostTasks.{FreezeSums, IsBlockedBy, LockIsStuck}}
use Rattle.progress_laws.specs.{LostTasks.{Remains, SectionIsLost}, StepsLeft.{most_turns, potential, start_room, try_room}}

-- a freeze sums the counts of a level, or is asked there whether to wait on
abbrev closing_sums : DownWriteStep → Bool
closing_sums (DownWriteStep.Sums sum) = true
closing_sums s = false

abbrev freeze_sums : FreezeStep → Bool
freeze_sums (FreezeStep.Closes d) = closing_sums d.step
freeze_sums (FreezeStep.Waits d) = true
freeze_sums s = false

abbrev sums_of : Option Phase → Bool
sums_of (Some (Phase.Freezes x)) = freeze_sums x.step
sums_of p = false

-- the loads that are left of it until the hook is asked
abbrev closing_loads : DownWrite → DownWriteStep → ℕ
closing_loads d (DownWriteStep.Sums sum) = d.processors - sum.words
closing_loads d s = 0

abbrev freeze_loads : FreezeStep → ℕ
freeze_loads (FreezeStep.Closes d) = closing_loads d d.step
freeze_loads s = 0

abbrev loads_of : Option Phase → ℕ
loads_of (Some (Phase.Freezes x)) = freeze_loads x.step
loads_of p = 0

-- what a step that waits leaves of and_parts: a sum has fewer loads left, and of all else there is none
abbrev LeavesLoads : Option Phase → Option Phase → Type 0
LeavesLoads p q = (sums_of p ≡ true → loads_of q < loads_of p) × (sums_of p ≡ false → (loads_of q ≡ loads_of p) × (sums_of q ≡ false))

closed_loads : (level nodes : ℕ) → (freeze_loads (level_closed level nodes) ≡ 0) × (freeze_sums (level_closed level nodes) ≡ false)
closed_loads level nodes = grind arith

-- after a load of the closing of a level
abbrev LeavesOf : DownWrite → DownWriteStep → Option Phase → Type 0
LeavesOf d s q =
    (closing_sums s ≡ true → loads_of q < closing_loads d s) × (closing_sums s ≡ false → (loads_of q ≡ closing_loads d s) × (sums_of q ≡ false))

module _ (x : Freeze) where
  abbrev closing_then : DownWrite → Next DownWrite → Option Phase
  closing_then d next = phase_after (map_next Phase.Freezes (after_closing x d.level next))

  looks_leave : (d : DownWrite) (g : Grace) (n : GraceNext) → LeavesOf d (DownWriteStep.AwaitsSections g) (closing_then d (sections_awaited d n))
  looks_leave d g n = grind arith

  sums_leave : (d : DownWrite) (sum : Sum) (found : ℕ) → sum.words < d.processors →
      LeavesOf d (DownWriteStep.Sums sum) (closing_then d (down_write_summed d (sum_taking sum found d.processors)).0)
  sums_leave d sum found lt =
      elim (cases_Bool (nat_lt (sum.words + 1) d.processors)) [
        | inl h ↦ rw h (λ sums. omega (arith, ltb-true (sum.words + 1) d.processors h), λ out. absurd (true≢false out))
        | inr h ↦ elim (eqb_tells (wrap_add sum.total found) 0) [
          | inl z ↦ rw (h, z.0) (λ sums. omega (arith, (closed_loads d.level x.nodes).0, lt), λ out. absurd (true≢false out))
          | inr z ↦ rw (h, z.0) (λ sums. omega (arith, lt), λ out. absurd (true≢false out))
        ]
      ]

  closing_leaves : (w : Words) (d : DownWrite) (s : DownWriteStep) (c : Config) → d.processors ≡ c.processors → DownWriteStepFits c s →
      closing_waits w d s ≡ true → (found : ℕ) → LeavesOf d s (closing_then d (down_write_after d s found).0)
  closing_leaves w d s c processors fits waits found = grind (arith, looks_leave, sums_leave)

  freeze_leaves : (c : Config) (w : Words) (s : FreezeStep) (hook : HookAnswer) → FreezeFits c x.holder s → freeze_waits_on w s hook ≡ true →
      (freeze_hook s ≡ Some KeepWaiting → IsImpatient 0 hook) → (found : ℕ) →
      LeavesLoads (Some (Phase.Freezes (at_freeze x s))) (phase_after (map_next Phase.Freezes (freeze_after x s found hook).0))
  freeze_leaves c w s hook fits waits impatient found = grind (arith, closing_leaves, is_error)

others_leave : {A : Type 0} (to : A → Phase) (p : Phase) (next : Next A) → sums_of (Some p) ≡ false → loads_of (Some p) ≡ 0 →
    ((y : A) → (loads_of (Some (to y)) ≡ 0) × (sums_of (Some (to y)) ≡ false)) → LeavesLoads (Some p) (phase_after (map_next to next))
others_leave to p next none zero h = grind arith

module _ (c : Config) where
  phase_leaves : (t : ℕ) (held : Holdings) (w : Words) (p : Phase) (hook : HookAnswer) → PhaseFits c t held p → waits_on w p hook ≡ true →
      (hook_of p ≡ Some KeepWaiting → IsImpatient t hook) → (found : ℕ) → LeavesLoads (Some p) (phase_after (after_of p found hook).0)
  phase_leaves t held w p hook f waits impatient found = grind (arith, freeze_leaves, others_leave)

  -- the room for loads
  closing_small : (d : DownWrite) (s : DownWriteStep) → closing_loads d s ≤ d.processors
  closing_small d (DownWriteStep.Sums sum) = omega arith
  closing_small d s = omega arith

  freeze_small : (x : Freeze) (s : FreezeStep) → FreezeFits c x.holder s → freeze_loads s ≤ c.processors
  freeze_small x (FreezeStep.Closes d) f = omega (arith, closing_small d d.step, f.3)
  freeze_small x s f = omega arith

  loads_small : (t : ℕ) (held : Holdings) (p : Phase) → PhaseFits c t held p → loads_of (Some p) ≤ load_room_of c.processors (Some p)
  loads_small t held (Phase.Freezes x) f = freeze_small x x.step f.5
  loads_small t held p f = omega arith

  room_in : {A : Type 0} (to : A → Phase) (n : ℕ) (next : Next A) → ((y : A) → load_room_of c.processors (Some (to y)) ≤ n) →
      load_room_of c.processors (phase_after (map_next to next)) ≤ n
  room_in to n next h = grind arith

  room_leaves : (p : Phase) (found : ℕ) (hook : HookAnswer) →
      load_room_of c.processors (phase_after (after_of p found hook).0) ≤ load_room_of c.processors (Some p)
  room_leaves p found hook = grind (arith, room_in)

negated : (a : Bool) → not a ≡ true → a ≡ false
negated a h = grind arith

closing_is : (i : ℕ) (s : FreezeStep) → freeze_closing i s ≡ 1 → freeze_sums s ≡ true
closing_is i s is = grind arith

-- what a task is at waits, and not at a sum
abbrev waits_else_of : Words → Option Phase → Bool
waits_else_of w p = waits_of w p && not (sums_of p)

abbrev waits_else : World → ℕ → Bool
waits_else w t = waits_else_of w.words (w.views t).phase

freeze_else : (w : Words) (s : FreezeStep) (hook : HookAnswer) → (freeze_waits w s && not (freeze_sums s)) ≡ true → freeze_waits_on w s hook ≡ true
freeze_else w (FreezeStep.Waits d) hook h = absurd (true≢false (sym (and_parts (closing_waits w d d.step) false h).1))
freeze_else w s hook h = (and_parts (freeze_waits w s) (not (freeze_sums s)) h).0

else_waits : (w : Words) (p : Phase) (hook : HookAnswer) → waits_else_of w (Some p) ≡ true → waits_on w p hook ≡ true
else_waits w (Phase.Freezes x) hook h = freeze_else w x.step hook h
else_waits w p hook h = (and_parts (must_wait w p) true h).0

rest_else : (w : Words) (p : Option Phase) → rests_at w p ≡ true → waits_else_of w p ≡ true
rest_else w p h = grind (arith, outside_waits)

module _ (c : Config) (lim : IsWithin c) (lost : ℕ → Bool) where
  abbrev all_loads : World → ℕ
  all_loads w = total c.tasks (λ t. loads_of (w.views t).phase)

  loads_below : (w : World) → IsGood c w → all_loads w ≤ load_room c w
  loads_below w good = total_le c.tasks (λ t. loads_of (w.views t).phase) (λ t. load_room_of c.processors (w.views t).phase)
      (λ t lt. one t lt (w.views t).phase refl)
    where
      one : (t : ℕ) → t < c.tasks → (p : Option Phase) → (w.views t).phase ≡ p → loads_of p ≤ load_room_of c.processors p
      one t lt None at = omega arith
      one t lt (Some phase) at = loads_small c t (held_of (w.views t)) phase (fits_at c w good t lt phase at)

  -- the number of turns, with the loads of sums between them
  abbrev with_loads : (starts tries room : ℕ) → World → ℕ
  with_loads starts tries room w = potential starts tries c w * (room + 1) + all_loads w

  abbrev HasRoom : (starts tries room : ℕ) → World → Type 0
  HasRoom starts tries room w = IsRoomy starts tries c w × (load_room c w ≤ room)

  module _ (starts tries room : ℕ) where
    module _ (w : World) (good : IsGood c w) (roomy : HasRoom starts tries room w) (t : ℕ) (phase : Phase) (hook : HookAnswer)
        (s : IsStep c lim lost IsImpatient waits_else w t phase hook) where
      abbrev next : World
      next = after_step w t phase hook

      at_next : (next.views t).phase ≡ phase_after (after_of phase (found_at w.words phase hook) hook).0
      at_next = stands_after c w t s.0 hook phase s.2

      beside : (y : ℕ) → (y ≡ t → ⊥) → (next.views y).phase ≡ (w.views y).phase
      beside y ne = others_same c lim w good t s.0 phase s.2 hook y ne

      next_room : HasRoom starts tries room next
      next_room =
          let here : load_room_of c.processors (next.views t).phase ≤ load_room_of c.processors (w.views t).phase =
          omega (arith, room_leaves c phase (found_at w.words phase hook) hook, ap (load_room_of c.processors) at_next, ap (load_room_of c.processors) s.2) in
          let less : load_room c next ≤ load_room c w =
          total_le c.tasks (λ y. load_room_of c.processors (next.views y).phase) (λ y. load_room_of c.processors (w.views y).phase)
          (λ y ly. elim (eqb_tells y t) [
            | inl e ↦ omega (
              arith,
              here,
              ap (λ u. load_room_of c.processors (next.views u).phase) e.1,
              ap (λ u. load_room_of c.processors (w.views u).phase) e.1,
            )
            | inr ne ↦ omega (arith, ap (load_room_of c.processors) (beside y ne.1))
          ]) in
          (next_roomy c lim w good t s.0 phase s.2 hook starts tries roomy.0, omega (arith, less, roomy.1))

      few_loads : all_loads next ≤ room
      few_loads = omega (arith, loads_below next (step_good c lim w good t s.0 hook phase s.2), next_room.1)

      leaves_here : waits_on w.words phase hook ≡ true → LeavesLoads (w.views t).phase (next.views t).phase
      leaves_here waits =
          subst (λ p. LeavesLoads p (next.views t).phase) (sym s.2)
          (subst (LeavesLoads (Some phase)) (sym at_next)
          (phase_leaves c t (held_of (w.views t)) w.words phase hook (fits_at c w good t s.0 phase s.2) waits s.4 (found_at w.words phase hook)))

      -- a step that waits leaves fewer loads of a sum, and all as it is elsewhere
      loads_fall : waits_on w.words phase hook ≡ true → sums_of (w.views t).phase ≡ true → all_loads next < all_loads w
      loads_fall waits sums =
          total_lower c.tasks t (λ y. loads_of (w.views y).phase) (λ y. loads_of (next.views y).phase) s.0
          (λ y ly ne. omega (arith, ap loads_of (beside y ne))) ((leaves_here waits).0 sums)

      loads_stay : waits_on w.words phase hook ≡ true → sums_of (w.views t).phase ≡ false →
          (all_loads next ≡ all_loads w) × ((y : ℕ) → sums_of (next.views y).phase ≡ sums_of (w.views y).phase)
      loads_stay waits none =
          let h = (leaves_here waits).1 none in (
            total_same c.tasks (λ y. loads_of (next.views y).phase) (λ y. loads_of (w.views y).phase) (λ y ly. elim (eqb_tells y t) [
              | inl e ↦ ap (λ u. loads_of (next.views u).phase) e.1 ∙ (h.0 ∙ sym (ap (λ u. loads_of (w.views u).phase) e.1))
              | inr ne ↦ ap loads_of (beside y ne.1)
            ]),
            λ y. elim (eqb_tells y t) [
              | inl e ↦ ap (λ u. sums_of (next.views u).phase) e.1 ∙ (h.1 ∙ (sym none ∙ sym (ap (λ u. sums_of (w.views u).phase) e.1)))
              | inr ne ↦ ap sums_of (beside y ne.1)
            ],
          )

      else_stays : (waits : waits_on w.words phase hook ≡ true) → sums_of (w.views t).phase ≡ false → (y : ℕ) → waits_else next y ≡ waits_else w y
      else_stays waits none y =
          let a : waits_at next y ≡ waits_at w y = (step_stays c lim w good t s.0 phase s.2 hook waits s.3).1 y in
          let b : sums_of (next.views y).phase ≡ sums_of (w.views y).phase = (loads_stay waits none).1 y in
          ap (λ m. m && not (sums_of (next.views y).phase)) a ∙ ap (λ n. waits_at w y && not n) b

      step_leaves : Leaves c lim lost IsImpatient waits_else (with_loads starts tries room) (HasRoom starts tries room) w t next
      step_leaves =
          elim (cases_Bool (waits_on w.words phase hook)) [
            | inr free ↦
                inl (unit_falls (potential starts tries c w) (potential starts tries c next) (room + 1) (all_loads w) (all_loads next)
                (step_falls c lim w good t s.0 phase s.2 hook starts tries roomy.0 free) (omega (arith, few_loads)))
            | inl waits ↦
                let same : potential starts tries c next ≡ potential starts tries c w =
                (step_stays c lim w good t s.0 phase s.2 hook waits s.3).0 starts tries in
                elim (cases_Bool (sums_of (w.views t).phase)) [
                  | inl sums ↦ inl (omega (arith, loads_fall waits sums, ap (λ n. n * (room + 1)) same))
                  | inr none ↦ inr (
                    omega (arith, (loads_stay waits none).0, ap (λ n. n * (room + 1)) same),
                    else_stays waits none,
                    rw none (ap (λ m. m && true) (ap (waits_of w.words) s.2 ∙ on_waits w.words phase hook waits)),
                  )
                ]
          ]

    loads_measure : Measures c lim lost IsImpatient waits_else (with_loads starts tries room) (HasRoom starts tries room)
    loads_measure = record {
      rest = λ w t rests. rest_else w.words (w.views t).phase rests;
      step = λ w good roomy t phase hook s. step_leaves w good roomy t phase hook s;
      measured = λ w good roomy t phase hook s. next_room w good roomy t phase hook s;
    }

  -- where all wait elsewhere, each step that is taken waits there
  else_keeps : Keeps c lim lost IsImpatient waits_else
  else_keeps w good all t phase hook s =
      let mine : waits_else_of w.words (Some phase) ≡ true = sym (ap (waits_else_of w.words) s.2) ∙ all t s.0 s.1 in
      let b = and_parts (must_wait w.words phase) (not (sums_of (Some phase))) mine in
      let none : sums_of (w.views t).phase ≡ false = ap sums_of s.2 ∙ negated (sums_of (Some phase)) b.1 in
      λ u lu live.
      else_stays (start_room c w) (try_room c w) (load_room c w) w good ((omega arith, omega arith), omega arith) t phase hook s
      (else_waits w.words phase hook mine) none u ∙ all u lu live

  -- in the end none is at a sum
  no_sum : (w : World) → AllSo c lim lost IsImpatient waits_else w → (t : ℕ) → t < c.tasks → lost t ≡ false → sums_of (w.views t).phase ≡ false
  no_sum w all t lt live = negated (sums_of (w.views t).phase) (and_parts (waits_at w t) (not (sums_of (w.views t).phase)) (all t lt live)).1

  all_else : (w : World) → AllSo c lim lost IsImpatient waits_else w → AllWait c lost w
  all_else w all t lt live phase at =
      sym (ap (waits_of w.words) at) ∙ (and_parts (waits_at w t) (not (sums_of (w.views t).phase)) (all t lt live)).0

  sums_nobody : (w : World) → AllSo c lim lost IsImpatient waits_else w → (i : ℕ) → FreezeSums c lost w i → ⊥
  sums_nobody w all i (y, ly, live, x, at, is) =
      true≢false (sym (closing_is i x.step is) ∙ (sym (ap sums_of at) ∙ no_sum w all y ly live))

  remains_else : (w : World) → AllSo c lim lost IsImpatient waits_else w → Remains c lost w → RemainsUnpassed c lost w
  remains_else w all (inl frozen) = inl frozen
  remains_else w all (inr (inl idle)) = absurd (sums_nobody w all idle.0 idle.1)
  remains_else w all (inr (inr dead)) = inr dead

  ends_else : (w : World) → IsGood c w → AllSo c lim lost IsImpatient waits_else w → NoFreezeSums c lost w
  ends_else w good all =
      let waits : AllWait c lost w = all_else w all in (
        waits,
        sums_nobody w all,
        λ t lt live on. remains_else w all (waits_for_remains c lost w good waits t lt live on),
      )

  turns_enough : (w : World) → IsGood c w → (n : ℕ) → turns_to_give_up c w ≤ n →
      with_loads (start_room c w) (try_room c w) (load_room c w) w < n
  turns_enough w good n le =
      let p : ℕ = potential (start_room c w) (try_room c w) c w in
      let e : turns_to_give_up c w ≡ p * (load_room c w + 1) + (load_room c w + 1) = ap (λ m. m * (load_room c w + 1)) (add-one p) ∙ suc-mul p (load_room c w + 1) in
      omega (arith, le, e, loads_below w good)

  pub all_settle : (w : World) → IsGood c w → (rounds : List (List Entry)) → AreRounds c lost w rounds → RoundsAnswerSo IsImpatient c w rounds →
      turns_to_give_up c w ≤ length rounds → AllSo c lim lost IsImpatient waits_else (run_all c w rounds)
  all_settle w good rounds are impatient le =
      rounds_settle c lim lost IsImpatient waits_else (with_loads (start_room c w) (try_room c w) (load_room c w))
      (HasRoom (start_room c w) (try_room c w) (load_room c w)) (loads_measure (start_room c w) (try_room c w) (load_room c w)) else_keeps rounds w good
      ((omega arith, omega arith), omega arith) are impatient (turns_enough w good (length rounds) le)

  pub settles_impatiently : (w : World) → IsGood c w → SettlesImpatiently c lost (turns_to_give_up c w) w
  settles_impatiently w good rounds are impatient le =
      ends_else (run_all c w rounds) (rounds_good c lim lost rounds w good) (all_settle w good rounds are impatient le)

-- With no task lost, who waits then stands outside a level.
module _ (c : Config) (w : World) (good : IsGood c w) (ends : NoFreezeSums c nobody w) where
  none_lost : {A : Type 0} (y : ℕ) → nobody y ≡ true → A
  none_lost y h = absurd (true≢false (sym h))

  section_never : {A : Type 0} (y : ℕ) → SectionIsLost c nobody w y → A
  section_never y h = none_lost y h.1

  callback_never : {A : Type 0} (s : CallbackStep) → CallbackIsBlockedBy c nobody w s → A
  callback_never (CallbackStep.AwaitsSections g) h = section_never g.task h
  callback_never s h = absurd h

  -- no freeze that closes a level does
  closing_never : {A : Type 0} (y : ℕ) → y < c.tasks → (x : Freeze) → (w.views y).phase ≡ Some (Phase.Freezes x) → (d : DownWrite) (s : DownWriteStep) →
      freeze_closing d.level x.step ≡ is_summing d.level d.level s → ClosingIsBlockedBy c nobody w d s → A
  closing_never y ly x at d (DownWriteStep.AwaitsSections g) is h = section_never g.task h
  closing_never y ly x at d (DownWriteStep.Sums sum) is h =
      absurd (ends.1 d.level (y, ly, refl, x, at, is ∙ ap (λ b. if b then 1 else 0) (eq-eqb d.level d.level refl)))
  closing_never y ly x at d s is h = absurd h

  -- nor does an owner of `umount`
  owner_never : {A : Type 0} (y : ℕ) → y < c.tasks → (x : Freeze) → (w.views y).phase ≡ Some (Phase.Freezes x) → (s : FreezeStep) → x.step ≡ s →
      freeze_owns s ≡ 1 → freeze_waits w.words s ≡ true → FreezeIsBlockedBy c nobody w s → A
  owner_never y ly x at (FreezeStep.Closes d) is own waits h = closing_never y ly x at d d.step (ap (freeze_closing d.level) is) h
  owner_never y ly x at (FreezeStep.Waits d) is own waits h = closing_never y ly x at d d.step (ap (freeze_closing d.level) is) h
  owner_never y ly x at FreezeStep.Locks is own waits h = absurd (omega (arith, own))
  owner_never y ly x at FreezeStep.LocksAgain is own waits h = absurd (omega (arith, own))
  owner_never y ly x at (FreezeStep.LocksToUndo code) is own waits h = absurd (omega (arith, own))
  owner_never y ly x at s is own waits h = absurd (true≢false (sym waits))

  lock_never : {A : Type 0} → LockIsStuck c nobody w → A
  lock_never (y, ly, own, inl dead) = none_lost y dead
  lock_never (y, ly, own, inr (live, phase, at, waits)) =
      elim (owner_goes w.words phase (sym (ap owns at) ∙ own)) [
        | inl free ↦ absurd (true≢false (sym waits ∙ free))
        | inr x ↦
            let there : (w.views y).phase ≡ Some (Phase.Freezes x.0) = at ∙ ap Some x.1 in
            owner_never y ly x.0 there x.0.step refl (sym (ap owns there) ∙ own) (ends.0 y ly refl (Phase.Freezes x.0) there)
            (each_is_blocked c nobody w good ends.0 y ly refl (Phase.Freezes x.0) there)
      ]

  freeze_never : {A : Type 0} (y : ℕ) → y < c.tasks → (x : Freeze) → (w.views y).phase ≡ Some (Phase.Freezes x) → (s : FreezeStep) → x.step ≡ s →
      freeze_waits w.words s ≡ true → FreezeIsBlockedBy c nobody w s → A
  freeze_never y ly x at (FreezeStep.Closes d) is waits h = closing_never y ly x at d d.step (ap (freeze_closing d.level) is) h
  freeze_never y ly x at (FreezeStep.Waits d) is waits h = closing_never y ly x at d d.step (ap (freeze_closing d.level) is) h
  freeze_never y ly x at FreezeStep.Locks is waits h = lock_never h
  freeze_never y ly x at FreezeStep.LocksAgain is waits h = lock_never h
  freeze_never y ly x at (FreezeStep.LocksToUndo code) is waits h = lock_never h
  freeze_never y ly x at s is waits h = absurd (true≢false (sym waits))

  outside : (t : ℕ) → t < c.tasks → (phase : Phase) → (w.views t).phase ≡ Some phase → must_wait w.words phase ≡ true → IsBlockedBy c nobody w phase →
      is_outside w.words phase ≡ true
  outside t lt (Phase.Mounts (MountPhase.Want x)) at waits h = none_lost h.0 h.2
  outside t lt (Phase.Mounts (MountPhase.Change x)) at waits h = lock_never h
  outside t lt (Phase.Remounts x) at waits h = lock_never h
  outside t lt (Phase.DownReads r) at waits h = waits
  outside t lt (Phase.Callbacks b) at waits h = callback_never b.step h
  outside t lt (Phase.Writes (WritePhase.Takes m r)) at waits h = waits
  outside t lt (Phase.Writes (WritePhase.Wants x)) at waits h = none_lost h.0 h.2
  outside t lt (Phase.Freezes x) at waits h = freeze_never t lt x at x.step refl waits h
  outside t lt (Phase.Thaws x) at waits h = lock_never h
  outside t lt (Phase.Trees (TreePhase.Snapshot x)) at waits h = lock_never h
  outside t lt (Phase.Closes (ClosePhase.Enters f node r)) at waits h = waits
  outside t lt phase at waits h = absurd (true≢false (sym waits))

  frozen : (t : ℕ) → t < c.tasks → IsUnderWay w t → is_frozen_whole w.words ≡ 1
  frozen t lt on = elim (ends.2 t lt refl on) [ inl is ↦ is | inr dead ↦ none_lost dead.0 dead.2 ]

  replied : (t : ℕ) → t < c.tasks → (p : Option Phase) → (w.views t).phase ≡ p → HasReply w t ⊎ WaitsForThaw w t
  replied t lt None at = inl at
  replied t lt (Some phase) at =
      inr (frozen t lt (phase, at), phase, at, outside t lt phase at (ends.0 t lt refl phase at) (each_is_blocked c nobody w good ends.0 t lt refl phase at))

pub replies_or_thaw : (c : Config) → IsWithin c → (w : World) → IsGood c w → RepliesOrWaitsForThaw c (turns_to_give_up c w) w
replies_or_thaw c lim w good rounds are impatient le t lt =
    replied c (run_all c w rounds) (rounds_good c lim nobody rounds w good) (settles_impatiently c lim nobody w good rounds are impatient le) t lt
    ((run_all c w rounds).views t).phase refl

-- the turns have a bound in each configuration
pub turns_small : (c : Config) → IsWithin c → (w : World) → IsGood c w → turns_to_give_up c w ≤ most_turns_to_give_up c
turns_small c lim w good =
    let room : load_room c w ≤ c.tasks * c.processors =
    total_bound c.tasks c.processors (λ t. load_room_of c.processors (w.views t).phase) (λ t lt. most (w.views t).phase) in
    let a : turns_to_give_up c w ≤ most_turns c * (load_room c w + 1) = mul_le (turns_left c w) (most_turns c) (load_room c w + 1) (turns_few c lim w good) in
    omega (
      arith,
      a,
      mul_le (load_room c w + 1) (c.tasks * c.processors + 1) (most_turns c) (omega (arith, room)),
      mul_comm (most_turns c) (load_room c w + 1),
      mul_comm (most_turns c) (c.tasks * c.processors + 1),
    )
  where
    most : (p : Option Phase) → load_room_of c.processors p ≤ c.processors
    most p = grind arith
