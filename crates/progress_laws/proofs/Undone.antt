-- A freeze that fails owns `umount` from its store of stage 0 to its answer: so the stage is still 0, and no level is anybody's.
use Rattle.progress_laws.proofs.Prelude.{Bool, Config, Entry, Err, Freeze, FreezeStep, GateError, HookAnswer, IsGood, IsWithin, List, Next, None, Op}
use Rattle.progress_laws.proofs.Prelude.{Option, Phase, Some, Steps, UpWrite, UpWriteStep, View, WordName, Words, World, [], after_event, after_of}
use Rattle.progress_laws.proofs.Prelude.{after_step, ap, arith, cases_Bool, common_steps, eqb_tells, false, found_at, freeze_after, freeze_next}
use Rattle.progress_laws.proofs.Prelude.{freeze_owns, happens, happens_is, has_flag, if◌then◌else◌, inl, inr, map_next, owns, phase_after, refl, run}
use Rattle.progress_laws.proofs.Prelude.{subst, sym, total, total_at, true, true≢false, update_at, value_at, view_after, whole_rule, words_after}
use Rattle.progress_laws.proofs.Prelude.{world_after, ℕ, ◌<◌, ◌∙◌, ◌∷◌, ◌≡◌, ◌≤◌}
use Rattle.std.proofs.{Common.{Result, ◌++◌}, lemmas.Bool.{cases_lt, le-ltb, lt-ltb}}
use Rattle.access_model.specs.declared.{actions.{Action.Action, Holder.Holder}, replies.Reply.Reply}
use Rattle.{cpu_words.specs.{Touches.event_of, declared.events.{Event.Event, Touch.Touch}}, finite_sums.proofs.Totals.total_none}
use Rattle.freeze_laws.proofs.stages.Facts.{other_zero}
use Rattle.freeze_laws.specs.stages.Roles.{Owning, StageRole, closes, freezes, is_full, owns as stage_owns, reopens, under_way}
use Rattle.gate_schedules.proofs.{operations.deadlocks.FreezeProgress.not_none, schedules.HeadlineProof.whole_operations}
use Rattle.gate_transitions.specs.{Answers.{phase_step, progress_of, step_answer}, declared.steps.Progress.Progress}
use Rattle.gate_world.specs.{Headline.{OperationTells, OperationsAreKept, ViewTells}, Operations.failed_adds, Owners.{is_owned_word, last_left}}
use Rattle.gate_world.specs.{Owners.takes_lock, Roles.freeze_stage_role, Rules.{Known, Stages, stage_role_of, stage_roles}, Views.HoldsAsBefore}
use Rattle.gate_world.specs.{Views.with_hook, Work.next_of, Worlds.opening, declared.views.Traced.Traced, traces.Found.{clean_found, cleans, gave_up}}
use Rattle.gate_world.specs.traces.{TraceStates.{FollowsOrder, IsEventOf, IsTrace, IsTraced, state_of_trace, trace_state_after}, Traces.Tells}
use Rattle.percpu_rwsem.specs.Writers.{up_write_next}
use Rattle.progress_laws.specs.Undone.{AtMostMarks, FailsUndone, IsUndone}

-- a freeze that has stored stage 0 since its hook failed
abbrev is_hook : Result Reply GateError → Bool
is_hook (Err (GateError.Hook code)) = true
is_hook answer = false

abbrev has_failed : FreezeStep → Bool
has_failed (FreezeStep.Reopens u code) = true
has_failed (FreezeStep.Releases answer) = is_hook answer
has_failed s = false

-- its owner's newest knowledge of the stage, after a step
abbrev stage_left : Event → Option ℕ → Option ℕ
stage_left e before = if takes_lock e then None else (if is_owned_word WordName.Stage e.word then Some e.left else before)

abbrev StageIsLeft : Option ℕ → Next Freeze → Type 0
StageIsLeft known (Next.Go y) = has_failed y.step ≡ true → known ≡ Some 0
StageIsLeft known (Next.Wait y) = has_failed y.step ≡ true → known ≡ Some 0
StageIsLeft known (Next.Done answer) = Unit {0}

-- what comes next has not failed
abbrev NotFailed : Next Freeze → Type 0
NotFailed (Next.Go y) = has_failed y.step ≡ false
NotFailed (Next.Wait y) = has_failed y.step ≡ false
NotFailed (Next.Done answer) = Unit {0}

not_left : (known : Option ℕ) (next : Next Freeze) → NotFailed next → StageIsLeft known next
not_left known next h = grind arith

all_left : (next : Next Freeze) → StageIsLeft (Some 0) next
all_left next = grind arith

same_left : (before after : Option ℕ) → after ≡ before → before ≡ Some 0 → (next : Next Freeze) → StageIsLeft after next
same_left before after same known next = grind arith

-- a step of a level leaves it
reopens_leave : (u : UpWrite) (s : UpWriteStep) (value : ℕ) (before : Option ℕ) →
    stage_left (event_of (up_write_next u s).0 (up_write_next u s).1 value) before ≡ before
reopens_leave u s value before = grind arith

-- its store of 0
abbrev stores_zero : FreezeStep → HookAnswer → Bool
stores_zero FreezeStep.SetsFs (Err code) = true
stores_zero FreezeStep.SetsComplete (Err code) = true
stores_zero (FreezeStep.GivesUp level code) hook = true
stores_zero s hook = false

goes_on : (x : Freeze) (s : FreezeStep) (hook : HookAnswer) (found : ℕ) → has_failed s ≡ false → stores_zero s hook ≡ false →
    NotFailed (freeze_after x s found hook).0
goes_on x s hook found h other = grind (arith, common_steps)

-- each step of a freeze
abbrev event_at : Freeze → FreezeStep → HookAnswer → ℕ → Event
event_at x s hook value = event_of (freeze_next x s hook).0 (freeze_next x s hook).1 value

abbrev next_at : Freeze → FreezeStep → HookAnswer → ℕ → Next Freeze
next_at x s hook value = (freeze_after x s (event_at x s hook value).found hook).0

freeze_left_stage : (x : Freeze) (s : FreezeStep) (hook : HookAnswer) (value : ℕ) (before : Option ℕ) → (has_failed s ≡ true → before ≡ Some 0) →
    StageIsLeft (stage_left (event_at x s hook value) before) (next_at x s hook value)
freeze_left_stage x s hook value before known = grind (arith, all_left, same_left, reopens_leave, not_left, goes_on)

-- along the steps of a freeze: it is in phases of its own, and knows the stage once it has failed
abbrev FreezeKnows : Next Phase → Option ℕ → Type 0
FreezeKnows (Next.Go (Phase.Freezes x)) known = has_failed x.step ≡ true → known ≡ Some 0
FreezeKnows (Next.Wait (Phase.Freezes x)) known = has_failed x.step ≡ true → known ≡ Some 0
FreezeKnows (Next.Go phase) known = ⊥
FreezeKnows (Next.Wait phase) known = ⊥
FreezeKnows (Next.Done answer) known = Unit {0}

knows_map : (known : Option ℕ) (next : Next Freeze) → StageIsLeft known next → FreezeKnows (map_next Phase.Freezes next) known
knows_map known next h = grind arith

-- one step more
module _ (x : Freeze) (known : Option ℕ) (before : has_failed x.step ≡ true → known ≡ Some 0) where
  event_knows : (e : Traced) → IsEventOf (Phase.Freezes x) e →
      FreezeKnows (map_next Phase.Freezes (freeze_after x x.step e.event.found e.hook).0) (stage_left e.event known)
  event_knows e (value, is, valid) =
      subst (λ (v : Event). FreezeKnows (map_next Phase.Freezes (freeze_after x x.step v.found e.hook).0) (stage_left v known)) (sym is)
      (knows_map _ _ (freeze_left_stage x x.step e.hook value known before))

some_phase : (p q : Phase) → Some p ≡ Some q → p ≡ q
some_phase p q e = ap (λ (o : Option Phase). elim o [ None ↦ p | Some x ↦ x ]) e

module _ (c : Config) (t : ℕ) (holder : Holder) where
  abbrev op : Op
  op = Op.Freeze holder

  trace_knows : (trace : List Traced) → IsTrace c t op trace → FreezeKnows (state_of_trace c t op trace).comes (last_left WordName.Stage trace)
  trace_knows [] is = λ failed. absurd (true≢false (sym failed))
  trace_knows (e ∷ earlier) is = on (state_of_trace c t op earlier).comes refl (trace_knows earlier is.1)
    where
      comes_is : Next Phase → Type 0
      comes_is next = FreezeKnows (trace_state_after next (state_of_trace c t op earlier).added e).comes (last_left WordName.Stage (e ∷ earlier))

      on : (next : Next Phase) → (state_of_trace c t op earlier).comes ≡ next → FreezeKnows next (last_left WordName.Stage earlier) → comes_is next
      on next at knows = grind (arith, event_knows)

  -- so a freeze is at such a phase
  phase_knows : (trace : List Traced) → IsTrace c t op trace → (phase : Phase) → phase_after (state_of_trace c t op trace).comes ≡ Some phase →
      (x : Freeze) × (phase ≡ Phase.Freezes x) × (has_failed x.step ≡ true → last_left WordName.Stage trace ≡ Some 0)
  phase_knows trace is phase at = of_next (state_of_trace c t op trace).comes at (trace_knows trace is)
    where
      of_next : (next : Next Phase) → phase_after next ≡ Some phase → FreezeKnows next (last_left WordName.Stage trace) →
          (x : Freeze) × (phase ≡ Phase.Freezes x) × (has_failed x.step ≡ true → last_left WordName.Stage trace ≡ Some 0)
      of_next (Next.Go (Phase.Freezes x)) e knows = (x, sym (some_phase (Phase.Freezes x) phase e), knows)
      of_next (Next.Wait (Phase.Freezes x)) e knows = (x, sym (some_phase (Phase.Freezes x) phase e), knows)
      of_next (Next.Go p) e knows = absurd knows
      of_next (Next.Wait p) e knows = absurd knows
      of_next (Next.Done answer) e knows = absurd (not_none phase (sym e))

-- a freeze answers at its release alone
abbrev Answers : FreezeStep → Next Freeze → Type 0
Answers s (Next.Done given) = s ≡ FreezeStep.Releases given
Answers s next = Unit {0}

answers_last : (x : Freeze) (s : FreezeStep) (found : ℕ) (hook : HookAnswer) → Answers s (freeze_after x s found hook).0
answers_last x (FreezeStep.Releases answer) found hook = refl
answers_last x s found hook = grind (arith, common_steps)

released : (s : FreezeStep) (next : Next Freeze) (answer : Result Reply GateError) → Answers s next → map_next Phase.Freezes next ≡ Next.Done answer →
    s ≡ FreezeStep.Releases answer
released s next answer h e = grind arith

-- a step tells that its call is done
abbrev told_done : Progress → Bool
told_done (Progress.Done answer) = true
told_done progress = false

told_next : (next : Next Phase) (answer : Result Reply GateError) → progress_of next ≡ Progress.Done answer → next ≡ Next.Done answer
told_next next answer e = grind arith

-- it stores 0 in `umount`, and leaves all else
release_words : (w : Words) (x : Freeze) (s : FreezeStep) (hook : HookAnswer) (answer : Result Reply GateError) → s ≡ FreezeStep.Releases answer →
    ((after_event w (freeze_next x s hook)).stage ≡ w.stage) × ((after_event w (freeze_next x s hook)).block ≡ w.block) ×
    ((after_event w (freeze_next x s hook)).umount ≡ 0)
release_words w x s hook answer e =
    subst (λ z. ((after_event w (freeze_next x z hook)).stage ≡ w.stage) × ((after_event w (freeze_next x z hook)).block ≡ w.block) ×
    ((after_event w (freeze_next x z hook)).umount ≡ 0)) (sym e) (refl, refl, refl)

-- who neither freezes nor reopens has no level closed
closes_none : (i : ℕ) (r : StageRole) → 1 ≤ i → freezes r ≡ 0 → reopens r ≡ 0 → closes i r ≡ 0
closes_none i r one still none = grind arith

reopens_le : (r : StageRole) → reopens r ≤ stage_owns r
reopens_le r = grind arith

module _ (c : Config) (w : World) (good : IsGood c w) (t : ℕ) (lt : t < c.tasks) (zero : w.words.stage ≡ 0) (own : stage_owns (stage_roles w t) ≡ 1)
    (mine : reopens (stage_roles w t) ≡ 0) where
  nobody_freezes : (u : ℕ) → u < c.tasks → freezes (stage_roles w u) ≡ 0
  nobody_freezes u lu =
      omega (arith, total_at c.tasks u (λ y. freezes (stage_roles w y)) lu, (good Stages).freezing, ap under_way zero)

  nobody_reopens : (u : ℕ) → u < c.tasks → reopens (stage_roles w u) ≡ 0
  nobody_reopens u lu =
      elim (eqb_tells u t) [
        | inl e ↦ ap (λ y. reopens (stage_roles w y)) e.1 ∙ mine
        | inr ne ↦
            omega (
              arith,
              reopens_le (stage_roles w u),
              other_zero c.tasks t (λ y. stage_owns (stage_roles w y)) (good Stages).alone lt own u lu ne.1,
            )
      ]

  -- so none is closed
  none_closed : (i : ℕ) → 1 ≤ i → i ≤ 3 → w.words.block i ≡ 0
  none_closed i one three =
      let none : total c.tasks (λ u. closes i (stage_roles w u)) ≡ 0 =
      total_none c.tasks (λ u. closes i (stage_roles w u)) (λ u lu. closes_none i (stage_roles w u) one (nobody_freezes u lu) (nobody_reopens u lu)) in
      omega (arith, (good Stages).blocks i one three, none, ap (λ n. is_full n w.words.sb) zero)

-- what a call that failed tells
abbrev HookFailed : ℕ → Next Phase
HookFailed code = Next.Done (Err (GateError.Hook code))

failed_tells : (c : Config) (t : ℕ) (holder : Holder) (code : ℕ) (v : View) → FollowsOrder c t v (Op.Freeze holder) → OperationTells c t v (Op.Freeze holder) →
    (state_of_trace c t (Op.Freeze holder) v.trace).comes ≡ HookFailed code →
    HoldsAsBefore v × (v.actions ≡ failed_adds (gave_up v.trace) v.trace ++ v.before)
failed_tells c t holder code v order tells is = (
  tells.refused (GateError.Hook code) is,
  order.actions ∙ ap (λ (l : List Action). l ++ v.before)
      (subst (λ (n : Next Phase). Tells c (Op.Freeze holder) v.trace n (state_of_trace c t (Op.Freeze holder) v.trace).added) is tells.tells).0,
)

-- it has added nothing but stages, levels and marks
marks_then : (trace : List Traced) (more : List Action) → AtMostMarks more → AtMostMarks (cleans trace ++ more)
marks_then [] more h = h
marks_then (e ∷ earlier) more h = found e.event.word e.event.touch e.event.found (marks_then earlier more h)
  where
    found : (word : WordName) (touch : Touch) (value : ℕ) → AtMostMarks (cleans earlier ++ more) →
        AtMostMarks (clean_found word touch value (cleans earlier) ++ more)
    found (WordName.Node n) (Touch.And mask) value k = elim (cases_Bool (has_flag value 4)) [ inl set ↦ rw set k | inr clear ↦ rw clear k ]
    found (WordName.Node n) touch value k = k
    found word touch value k = k

marks_alone : (level : ℕ) (trace : List Traced) → AtMostMarks (failed_adds level trace)
marks_alone level trace = grind (arith, marks_then)

comes_after : (comes : Next Phase) (phase : Phase) → phase_after comes ≡ Some phase → (added : List Action) (e : Traced) →
    (trace_state_after comes added e).comes ≡ (after_of phase e.event.found e.hook).0
comes_after comes phase is added e = grind (arith, some_phase, not_none)

run_then : (c : Config) (es : List Entry) (e : Entry) (w : World) → run c w (es ++ (e ∷ [])) ≡ happens c (run c w es) e
run_then c [] e w = refl
run_then c (x ∷ es) e w = run_then c es e (happens c w x)

module _ (c : Config) (lim : IsWithin c) (entries : List Entry) (t : ℕ) (holder : Holder) (hook : HookAnswer) (code : ℕ)
    (op_is : ((world_after c entries).views t).op ≡ Some (Op.Freeze holder)) where
  abbrev before : World
  before = world_after c entries

  abbrev after : World
  after = happens c before (Steps t hook)

  order : FollowsOrder c t (before.views t) (Op.Freeze holder)
  order = subst (IsTraced c t (before.views t)) op_is (whole_operations c lim entries t).traced

  -- its last step
  module _ (lt : t < c.tasks) (phase : Phase) (at : (before.views t).phase ≡ Some phase)
      (ends : (after_of phase (found_at before.words phase hook) hook).0 ≡ HookFailed code) where
    there : after ≡ after_step before t phase hook
    there = happens_is c before t lt hook phase at

    at_trace : phase_after (state_of_trace c t (Op.Freeze holder) (before.views t).trace).comes ≡ Some phase
    at_trace = sym order.phase ∙ at

    knows : (x : Freeze) × (phase ≡ Phase.Freezes x) ×
        (has_failed x.step ≡ true → last_left WordName.Stage (before.views t).trace ≡ Some 0)
    knows = phase_knows c t holder (before.views t).trace order.trace phase at_trace

    abbrev freeze : Freeze
    freeze = knows.0

    freezes_at : (before.views t).phase ≡ Some (Phase.Freezes freeze)
    freezes_at = at ∙ ap Some knows.1

    releases : freeze.step ≡ FreezeStep.Releases (Err (GateError.Hook code))
    releases =
        let found : ℕ = found_at before.words (Phase.Freezes freeze) hook in
        released freeze.step (freeze_after freeze freeze.step found hook).0 (Err (GateError.Hook code)) (answers_last freeze freeze.step found hook)
        (sym (ap (λ q. (after_of q (found_at before.words q hook) hook).0) knows.1) ∙ ends)

    owns_it : owns (before.views t).phase ≡ 1
    owns_it = ap owns freezes_at ∙ ap freeze_owns releases

    role_is : stage_roles before t ≡ Owning None None
    role_is = ap stage_role_of freezes_at ∙ ap (freeze_stage_role freeze.nodes) releases

    good : IsGood c before
    good = whole_rule c lim entries

    stage_zero : before.words.stage ≡ 0
    stage_zero = good Known t lt owns_it WordName.Stage 0 (knows.2 (ap has_failed releases))

    words : (after.words.stage ≡ before.words.stage) × (after.words.block ≡ before.words.block) × (after.words.umount ≡ 0)
    words =
        subst (λ (v : World). (v.words.stage ≡ before.words.stage) × (v.words.block ≡ before.words.block) × (v.words.umount ≡ 0)) (sym there)
        (subst (λ q. ((words_after before.words q hook).stage ≡ before.words.stage) × ((words_after before.words q hook).block ≡ before.words.block) ×
        ((words_after before.words q hook).umount ≡ 0)) (sym knows.1)
        (release_words before.words freeze freeze.step hook (Err (GateError.Hook code)) releases))

    view_is : after.views t ≡ view_after (before.views t) phase (value_at before.words phase hook) hook
    view_is =
        ap (λ (v : World). v.views t) there ∙
        update_at before.views t (view_after (before.views t) phase (value_at before.words phase hook) hook)

    comes_is : (state_of_trace c t (Op.Freeze holder) (after.views t).trace).comes ≡ HookFailed code
    comes_is =
        ap (λ (v : View). (state_of_trace c t (Op.Freeze holder) v.trace).comes) view_is ∙
        (comes_after (state_of_trace c t (Op.Freeze holder) (before.views t).trace).comes phase at_trace
        (state_of_trace c t (Op.Freeze holder) (before.views t).trace).added
        (with_hook (event_of (next_of phase hook).0 (next_of phase hook).1 (value_at before.words phase hook)) hook) ∙ ends)

    tells : HoldsAsBefore (after.views t) ×
        ((after.views t).actions ≡ failed_adds (gave_up (after.views t).trace) (after.views t).trace ++ (after.views t).before)
    tells =
        let then_ : world_after c (entries ++ (Steps t hook ∷ [])) ≡ after = run_then c entries (Steps t hook) opening in
        let kept : OperationsAreKept c (entries ++ (Steps t hook ∷ [])) t = whole_operations c lim (entries ++ (Steps t hook ∷ [])) t in
        let op_then : (after.views t).op ≡ Some (Op.Freeze holder) = ap (λ (v : View). v.op) view_is ∙ op_is in
        let traced : IsTraced c t (after.views t) (after.views t).op =
        subst (λ (v : World). IsTraced c t (v.views t) (v.views t).op) then_ kept.traced in
        let told : ViewTells c t (after.views t) (after.views t).op =
        subst (λ (v : World). ViewTells c t (v.views t) (v.views t).op) then_ kept.tells in
        failed_tells c t holder code (after.views t) (subst (IsTraced c t (after.views t)) op_then traced)
        (subst (ViewTells c t (after.views t)) op_then told) comes_is

    undone : IsUndone after t
    undone = record {
      stage = words.0 ∙ stage_zero;
      levels = λ i one three. ap (λ f. f i) words.1 ∙
          none_closed c before good t lt stage_zero (ap stage_owns role_is) (ap reopens role_is) i one three;
      lock = words.2;
      holds = tells.0;
      added = tells.1;
      marks = marks_alone (gave_up (after.views t).trace) (after.views t).trace;
    }

  by_phase : t < c.tasks → (o : Option Phase) → (before.views t).phase ≡ o →
      (phase_step before hook o).progress ≡ Progress.Done (Err (GateError.Hook code)) → IsUndone after t
  by_phase lt o at answer = grind (arith, undone, told_next)

  by_task : (step_answer c before t hook).progress ≡ Progress.Done (Err (GateError.Hook code)) → IsUndone after t
  by_task answer =
      elim (cases_lt t c.tasks) [
        | inl lt ↦ by_phase lt (before.views t).phase refl (rw (lt-ltb t c.tasks lt) at answer)
        | inr ge ↦ absurd (true≢false (sym (ap told_done (rw (le-ltb t c.tasks ge) at answer))))
      ]

pub fails_undone : (c : Config) → IsWithin c → (entries : List Entry) → FailsUndone c entries
fails_undone c lim entries t holder hook code op answer = by_task c lim entries t holder hook code op answer
