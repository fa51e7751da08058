-- Why a freeze of a run is refused: others have frozen, or it gave up; and what one that gave up leaves of its task's list.
use Rattle.gate_runs.proofs.Prelude.{Action, Called, Config, DealtNumbers, Err, Freeze, GateError, GaveUp, List, MayFreeze, None, Ok, Option, Reply}
use Rattle.gate_runs.proofs.Prelude.{Result, SeatedTask, Some, Traced, User, [], adds, ap, inl, inr, own_actions, refl, refusal_at, subst, suc, sym}
use Rattle.gate_runs.proofs.Prelude.{zero, ℕ, ◌++◌, ◌∙◌, ◌∷◌, ◌≡◌, ◌⊎◌}
use Rattle.access_model.specs.{Holders.held_by, declared.actions.Action.TheVariants.{Clean, Hold, Leave, Pass, Reopen, Stage}}
use Rattle.access_model.specs.declared.errors.GateError.TheVariants.{Busy, Hook}
use Rattle.cpu_words.specs.{Hooks.HookAnswer, declared.{events.Touch.{TheVariants.And, Touch}, names.WordName.{TheVariants.Node, WordName}}}
use Rattle.freeze_levels.specs.declared.hooks.HookCall.{HookCall, TheVariants.KeepWaiting}
use Rattle.gate_steps.{proofs.call_events.{Asked.either_way, FreezeAsks.refused_freeze}, specs.call_events.Asked.{AskedByRefusedFreeze, failed}}
use Rattle.gate_steps.specs.call_events.Asking.{Ask, WereAsked, asks_of}
use Rattle.gate_world.specs.Operations.{all_levels_closed, failed_adds, two_levels_closed}
use Rattle.gate_world.specs.traces.{Found.{clean_found, cleans, gave_up, stored_stage}, Traces.IsHonestAnswer}
use Rattle.{mount_counts.specs.Phases.has_flag, vfs_gates.specs.{Frozen.{holders_of, stage_of}, Patience.found_somebody, Runs.{told_as, unit_of}}}
use Rattle.gate_runs.specs.Patience.{FreezesWith, with_patience}

-- what was asked of who has so much patience, and what was left of it
abbrev WerePatient : List Ask → Option ℕ → Option ℕ → Type 0
WerePatient asks patience left = WereAsked (λ call at. with_patience call) asks patience left

-- Who fails has no patience left.
used_up : (call : HookCall) (code : ℕ) (patience left : Option ℕ) → with_patience call patience (Err code) left →
    (code ≡ found_somebody) × (left ≡ Some 0)
used_up (KeepWaiting level) code None left asked =
    let no : ◌≡◌ {A = HookAnswer} (Err code) (Ok tt) = asked.0 in absurd (let f : ⊥ = cc in f)
used_up (KeepWaiting level) code (Some zero) left asked =
    let is : ◌≡◌ {A = HookAnswer} (Err code) (Err found_somebody) = asked.0 in
    let same : code ≡ found_somebody = cc in (same, asked.1)
used_up (KeepWaiting level) code (Some (suc looks)) left asked =
    let no : ◌≡◌ {A = HookAnswer} (Err code) (Ok tt) = asked.0 in absurd (let f : ⊥ = cc in f)
used_up call code patience left asked =
    let no : ◌≡◌ {A = HookAnswer} (Err code) (Ok tt) = asked.0 in absurd (let f : ⊥ = cc in f)

last_used_up : (call : HookCall) (code : ℕ) (at : DealtNumbers) (earlier asks : List Ask) (patience left : Option ℕ) →
    asks ≡ failed call code at ∷ earlier → WerePatient asks patience left → (code ≡ found_somebody) × (left ≡ Some 0)
last_used_up call code at earlier asks patience left is asked =
    let failing = subst (λ l. WerePatient l patience left) is asked in used_up call code failing.0 left failing.2

-- So a freeze is refused as busy, or gave up.
abbrev pub WhyRefused : SeatedTask → SeatedTask → GateError → Option ℕ → Type 0
WhyRefused first last refusal left =
    ((refusal ≡ Busy) × Called (Freeze User) first last (Err Busy)) ⊎ ((refusal ≡ Hook found_somebody) × (left ≡ Some 0))

gives_up : (code : ℕ) (added : List Action) (asks : List Ask) (patience left : Option ℕ) → AskedByRefusedFreeze (Hook code) added asks →
    WerePatient asks patience left → (code ≡ found_somebody) × (left ≡ Some 0)
gives_up code added asks patience left told asked = elim told [
  | inl since ↦ last_used_up since.1.0 code since.1.1 since.1.2 asks patience left since.1.3 asked
  | inr before_sync ↦ last_used_up before_sync.1.0 code before_sync.1.1 before_sync.1.2 asks patience left before_sync.1.3 asked
]

freeze_ends : (first last : SeatedTask) (c : Config) (trace : List Traced) (added : List Action) (asks : List Ask) (patience left : Option ℕ)
    (refusal : GateError) → Called (Freeze User) first last (Err refusal) → IsHonestAnswer c (Freeze User) (Err refusal) trace →
    AskedByRefusedFreeze refusal added asks → WerePatient asks patience left → WhyRefused first last refusal left
freeze_ends first last c trace added asks patience left Busy called honest told asked = inl (refl, called)
freeze_ends first last c trace added asks patience left (Hook code) called honest told asked =
    let its = gives_up code added asks patience left told asked in
    inr (ap (λ n. let e : GateError = Hook n in e) its.0, its.1)
freeze_ends first last c trace added asks patience left refusal called honest told asked = absurd honest

freeze_told : (first last : SeatedTask) (patience left : Option ℕ) (refusal : GateError) (answer : Result Reply GateError) →
    ◌≡◌ {A = Result (Unit {0}) GateError} (Err refusal) (told_as unit_of answer) → (called : Called (Freeze User) first last answer) →
    WerePatient (asks_of first.config (Freeze User) first.items called.trace) patience left → WhyRefused first last refusal left
freeze_told first last patience left refusal (Ok reply) told called asked = absurd (let f : ⊥ = cc in f)
freeze_told first last patience left refusal (Err cause) told called asked =
    let same : cause ≡ refusal = cc in
    subst (λ e. WhyRefused first last e left) same
    (freeze_ends first last first.config called.trace _ _ patience left cause called called.honest (refused_freeze User first last cause called) asked)

pub why_refused : (first last : SeatedTask) (patience left : Option ℕ) (refusal : GateError) → refusal_at (Freeze User) first ≡ None →
    FreezesWith patience first last (Err refusal) left → WhyRefused first last refusal left
why_refused first last patience left refusal began did =
    let done = did.replies.done began in freeze_told first last patience left refusal done.0 done.1 done.2 (did.asked began)

-- A patience with no end has none after a freeze, so that never gives up.
endless_ask : (call : HookCall) (answer : HookAnswer) (left : Option ℕ) → with_patience call None answer left → left ≡ None
endless_ask (KeepWaiting level) answer left asked = asked.1
endless_ask call answer left asked = asked.1

endless_asks : (asks : List Ask) (left : Option ℕ) → WerePatient asks None left → left ≡ None
endless_asks [] left asked = asked
endless_asks (a ∷ earlier) left asked =
    endless_ask a.call a.answer left
    (subst (λ p. with_patience a.call p a.answer left) (endless_asks earlier asked.0 asked.1) asked.2)

endless : (first last : SeatedTask) (outcome : Result (Unit {0}) GateError) (left : Option ℕ) → FreezesWith None first last outcome left →
    (refusal : Option GateError) → refusal_at (Freeze User) first ≡ refusal → left ≡ None
endless first last outcome left did (Some refusal) at = did.refused refusal at
endless first last outcome left did None began = endless_asks _ left (did.asked began)

pub never_gives_up : (first last : SeatedTask) → GaveUp None first last → ⊥
never_gives_up first last gave =
    let no : ◌≡◌ {A = Option ℕ} (Some 0) None = endless first last _ (Some 0) gave (refusal_at (Freeze User) first) refl in
    let f : ⊥ = cc in f

-- What a freeze adds that a hook has refused ends with stage 0, and nobody takes or leaves a freeze by it.
abbrev LeavesHolders : Action → Type 0
LeavesHolders (Hold h) = ⊥
LeavesHolders (Leave h) = ⊥
LeavesHolders action = Unit {0}

abbrev LeaveHolders : List Action → Type 0
LeaveHolders [] = Unit {0}
LeaveHolders (a ∷ earlier) = LeavesHolders a × LeaveHolders earlier

holders_stay : (later earlier : List Action) → LeaveHolders later → holders_of (later ++ earlier) ≡ holders_of earlier
holders_stay [] earlier leave = refl
holders_stay (Hold h ∷ later) earlier leave = absurd leave.0
holders_stay (Leave h ∷ later) earlier leave = absurd leave.0
holders_stay (a ∷ later) earlier leave = holders_stay later earlier leave.1

clean_leaves : (word : WordName) (touch : Touch) (found : ℕ) (l rest : List Action) → LeaveHolders (l ++ rest) →
    LeaveHolders (clean_found word touch found l ++ rest)
clean_leaves (Node n) (And mask) found l rest h =
    either_way (λ k. LeaveHolders (k ++ rest)) (has_flag found 4) (Clean n ∷ l) l (tt, h) h
clean_leaves word touch found l rest h = h

cleans_leave : (trace : List Traced) (rest : List Action) → LeaveHolders rest → LeaveHolders (cleans trace ++ rest)
cleans_leave [] rest h = h
cleans_leave (e ∷ earlier) rest h =
    clean_leaves e.event.word e.event.touch e.event.found (cleans earlier) rest (cleans_leave earlier rest h)

two_leave : (trace : List Traced) → LeaveHolders (two_levels_closed trace)
two_leave trace = cleans_leave trace (Pass 2 ∷ (Stage 2 ∷ (Pass 1 ∷ (Stage 1 ∷ [])))) (tt, (tt, (tt, (tt, tt))))

failed_leave : (level : ℕ) (trace : List Traced) → LeaveHolders (failed_adds level trace)
failed_leave zero trace = (
  tt,
  (
    tt,
    either_way LeaveHolders (stored_stage 3 trace) (Reopen 3 ∷ (Stage 0 ∷ all_levels_closed trace))
        (Stage 0 ∷ two_levels_closed trace) (tt, (tt, (tt, (tt, two_leave trace)))) (tt, two_leave trace),
  ),
)
failed_leave (suc zero) trace = (tt, (tt, tt))
failed_leave (suc (suc zero)) trace = (tt, (tt, (tt, (tt, (tt, tt)))))
failed_leave (suc (suc (suc level))) trace = (tt, (tt, (tt, (tt, two_leave trace))))

failed_stage : (level : ℕ) (trace : List Traced) (earlier : List Action) → stage_of (failed_adds level trace ++ earlier) ≡ 0
failed_stage zero trace earlier = either_way (λ k. stage_of (k ++ earlier) ≡ 0) (stored_stage 3 trace)
    (Reopen 3 ∷ (Stage 0 ∷ all_levels_closed trace)) (Stage 0 ∷ two_levels_closed trace) refl refl
failed_stage (suc zero) trace earlier = refl
failed_stage (suc (suc zero)) trace earlier = refl
failed_stage (suc (suc (suc level))) trace earlier = refl

-- So its task may freeze again.
after_failing : (code : ℕ) (first last : SeatedTask) → MayFreeze User (own_actions first) → Called (Freeze User) first last (Err (Hook code)) →
    MayFreeze User (own_actions last)
after_failing code first last may called =
    let level = gave_up called.trace in
    let before : List Action = own_actions first in
    subst (MayFreeze User) (sym (adds (Freeze User) first last (Err (Hook code)) called)) (
      inl (failed_stage level called.trace before),
      ap (λ h. held_by h User) (holders_stay (failed_adds level called.trace) before (failed_leave level called.trace)) ∙ may.1,
    )

told_failing : (code : ℕ) (first last : SeatedTask) → MayFreeze User (own_actions first) → (answer : Result Reply GateError) →
    ◌≡◌ {A = Result (Unit {0}) GateError} (Err (Hook code)) (told_as unit_of answer) → Called (Freeze User) first last answer →
    MayFreeze User (own_actions last)
told_failing code first last may (Ok reply) told called = absurd (let f : ⊥ = cc in f)
told_failing code first last may (Err cause) told called =
    let same : ◌≡◌ {A = GateError} cause (Hook code) = cc in
    after_failing code first last may (subst (λ e. Called (Freeze User) first last (Err e)) same called)

pub may_after_giving_up : (patience : Option ℕ) (first last : SeatedTask) → refusal_at (Freeze User) first ≡ None →
    MayFreeze User (own_actions first) → GaveUp patience first last → MayFreeze User (own_actions last)
may_after_giving_up patience first last began may gave =
    let done = gave.replies.done began in told_failing found_somebody first last may done.0 done.1 done.2
