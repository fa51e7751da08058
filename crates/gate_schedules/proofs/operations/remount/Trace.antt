-- Traces of a remount of the superblock.
use Rattle.gate_schedules.proofs.Prelude.{Action, Bool, Config, Err, GateError, HookAnswer, IsWithin, List, MountSet, Ok, Op, Phase, RemountStep}
use Rattle.gate_schedules.proofs.Prelude.{Reply, Result, Sum, Touch, Traced, WordName, [], actions_of, add-one, arith, cases_Bool, eq-eqb, eqb_tells}
use Rattle.gate_schedules.proofs.Prelude.{event_of, false, give_up, if◌then◌else◌, inl, inr, leave_holds, let_go, ltb-false, ltb-true, nat_lt, ne_eqb}
use Rattle.gate_schedules.proofs.Prelude.{past_mount, refl, subst, suc, sym, true, with_hook, wrap_add, ℕ, ◌+◌, ◌<◌, ◌==◌, ◌∙◌, ◌∷◌, ◌≡◌, ◌≤◌}
use Rattle.std.proofs.{Common.◌++◌, lemmas.List.Sums.sum_by-cons}
use Rattle.gate_world.specs.traces.Found.{IsEachCount, cleans, counts_loaded, each_event, finds_taken, found_sealed, sum_loaded}
use Rattle.gate_world.specs.traces.Traces.{IsHonestAnswer}
use Rattle.mount_counts.specs.Sets.{with_mount, without_lowest}
use Rattle.gate_schedules.proofs.{frames.OperationLaws.by_bool, traces.Cleans.{LeaveAccesses, cleans_leave}}
use Rattle.gate_schedules.proofs.traces.TraceInvariant.{InvariantAfterStep, IsInductive, event_at}

-- a remount of the superblock by a task, at this step
abbrev remount : Config → ℕ → Bool → RemountStep → Phase
remount c t ro step = Phase.Remounts (record {
  read_only = ro;
  task = t;
  processors = c.processors;
  mounts = c.mounts;
  nodes = c.nodes;
  step = step;
})

-- nothing is found yet, loaded, cleaned or added
abbrev FoundNothing : List Traced → List Action → Type 0
FoundNothing trace added = (added ≡ []) × (found_sealed trace ≡ false) × (cleans trace ≡ []) × ((m : ℕ) → counts_loaded m trace ≡ [])

-- on its way to read-only, with nothing cleaned or added
abbrev IsOnItsWay : Bool → List Traced → List Action → Type 0
IsOnItsWay ro trace added = (added ≡ []) × (ro ≡ true) × (found_sealed trace ≡ false) × (cleans trace ≡ [])

-- `remount` was set, on the way to read-only: what is added since are the marks cleared
abbrev HasSealed : Bool → List Traced → List Action → Type 0
HasSealed ro trace added = (added ≡ cleans trace ++ (Action.SbRo ∷ [])) × (ro ≡ true) × (found_sealed trace ≡ false)

-- no counts are loaded of a mount from this one on
abbrev NoneLoaded : ℕ → List Traced → Type 0
NoneLoaded m trace = (n : ℕ) → m ≤ n → counts_loaded n trace ≡ []

-- the counts loaded are those that the sum has
abbrev IsSumOf : Config → ℕ → Sum → List Traced → Type 0
IsSumOf c m sum trace = (sum.words < c.processors) × IsEachCount sum.words (counts_loaded m trace) ×
    (sum.total ≡ sum_loaded (counts_loaded m trace))

-- what is answered is told already
abbrev Answers : Config → Bool → Result Reply GateError → List Traced → List Action → Type 0
Answers c ro answer trace added = (added ≡ actions_of (Op.RemountSb ro) answer trace) × IsHonestAnswer c (Op.RemountSb ro) answer trace

-- what a trace says at a step: what was found, loaded, cleaned and added
abbrev StepSays : Config → Bool → RemountStep → List Traced → List Action → Type 0
StepSays c ro RemountStep.Locks trace added = (each_event finds_taken trace ≡ true) × FoundNothing trace added
StepSays c ro RemountStep.LoadsStage trace added = FoundNothing trace added
StepSays c ro RemountStep.LoadsSuperblock trace added = FoundNothing trace added
StepSays c ro RemountStep.SetsWritable trace added = (added ≡ []) × (ro ≡ false) × (found_sealed trace ≡ true)
StepSays c ro RemountStep.LoadsRemoved trace added = IsOnItsWay ro trace added × ((m : ℕ) → counts_loaded m trace ≡ [])
StepSays c ro (RemountStep.LoadsFlags m held) trace added = IsOnItsWay ro trace added × (m < c.mounts) × NoneLoaded m trace
StepSays c ro (RemountStep.SetsHold m held) trace added = IsOnItsWay ro trace added × (m < c.mounts) × NoneLoaded m trace
StepSays c ro (RemountStep.Sums m held sum) trace added = IsOnItsWay ro trace added × (m < c.mounts) × NoneLoaded (m + 1) trace × IsSumOf c m sum trace
StepSays c ro (RemountStep.LoadsRemovedAgain held) trace added = IsOnItsWay ro trace added
StepSays c ro (RemountStep.LeavesHolds held) trace added = Answers c ro (Err GateError.Busy) trace added
StepSays c ro (RemountStep.SetsRemount held) trace added = IsOnItsWay ro trace added
StepSays c ro (RemountStep.GivesUp m held) trace added = Answers c ro (Err GateError.Busy) trace added
StepSays c ro (RemountStep.Releases answer) trace added = Answers c ro answer trace added
StepSays c ro other trace added = HasSealed ro trace added

-- what a remount's trace says at a phase
abbrev pub RemountAt : Config → ℕ → Bool → List Traced → Phase → List Action → Type 0
RemountAt c t ro trace phase added = (step : RemountStep) × (phase ≡ remount c t ro step) × StepSays c ro step trace added

busy_adds : (ro : Bool) (trace : List Traced) → actions_of (Op.RemountSb ro) (Err GateError.Busy) trace ≡ []
busy_adds true trace = refl
busy_adds false trace = refl

pub sum_more : (k value s : ℕ) (loads : List (ℕ × ℕ)) → s ≡ sum_loaded loads → wrap_add s value ≡ sum_loaded ((k, value) ∷ loads)
sum_more k value s loads h = omega (arith, h, sum_by-cons (λ (x : ℕ × ℕ). x.1) (k, value) loads)

-- a step that gives `umount` back leaves what is told
lock_leaves : (c : Config) (ro : Bool) (answer : Result Reply GateError) (value : ℕ) (hook : HookAnswer) (earlier : List Traced)
    (added : List Action) → Answers c ro answer earlier added →
    Answers c ro answer (with_hook (event_of WordName.Umount (Touch.Store 0) value) hook ∷ earlier) added
lock_leaves c ro answer value hook earlier added h = grind arith

-- the loop goes on, or is done
past_says : (c : Config) (ro : Bool) (m : ℕ) (held : MountSet) (trace : List Traced) (added : List Action) → IsOnItsWay ro trace added →
    NoneLoaded (m + 1) trace → StepSays c ro (past_mount c.mounts m held) trace added
past_says c ro m held trace added h none = grind arith

-- with `remount` set, HOLD is still to be cleared, or no more
let_go_says : (c : Config) (ro : Bool) (held : MountSet) (trace : List Traced) (added : List Action) → HasSealed ro trace added →
    StepSays c ro (let_go held) trace added
let_go_says c ro held trace added h =
    by_bool (held.bits == 0) (λ b. StepSays c ro (if b then RemountStep.ClearsMark 1 else RemountStep.ClearsHold held) trace added) h h

-- the same where a sum was not 0
give_up_says : (c : Config) (ro : Bool) (m : ℕ) (held : MountSet) (trace : List Traced) (added : List Action) →
    Answers c ro (Err GateError.Busy) trace added → StepSays c ro (give_up m held) trace added
give_up_says c ro m held trace added h =
    by_bool (held.bits == 0) (λ b. StepSays c ro (if b then RemountStep.Releases (Err GateError.Busy) else RemountStep.GivesUp m held) trace added) h h

-- the same where a file was found removed
leave_holds_says : (c : Config) (ro : Bool) (held : MountSet) (trace : List Traced) (added : List Action) →
    Answers c ro (Err GateError.Busy) trace added → StepSays c ro (leave_holds held) trace added
leave_holds_says c ro held trace added h =
    by_bool (held.bits == 0) (λ b. StepSays c ro (if b then RemountStep.Releases (Err GateError.Busy) else RemountStep.LeavesHolds held) trace added) h h

module _ (c : Config) (lim : IsWithin c) (t : ℕ) (ro : Bool) (value : ℕ) (earlier : List Traced) (added : List Action) where
  -- the trace after the step at a program point
  abbrev longer : HookAnswer → RemountStep → List Traced
  longer hook step = with_hook (event_at (remount c t ro step) value hook) hook ∷ earlier

  -- what the trace says after the step at a program point
  abbrev TraceAfterStep : HookAnswer → RemountStep → Type 0
  TraceAfterStep hook step = InvariantAfterStep (RemountAt c t ro) c (Op.RemountSb ro) (remount c t ro step) value hook earlier added

  locks : (hook : HookAnswer) → StepSays c ro RemountStep.Locks earlier added → TraceAfterStep hook RemountStep.Locks
  locks hook h = grind arith

  loads_stage : (hook : HookAnswer) → StepSays c ro RemountStep.LoadsStage earlier added → TraceAfterStep hook RemountStep.LoadsStage
  loads_stage hook h = grind arith

  loads_superblock : (hook : HookAnswer) → StepSays c ro RemountStep.LoadsSuperblock earlier added → TraceAfterStep hook RemountStep.LoadsSuperblock
  loads_superblock hook h = grind arith

  sets_writable : (hook : HookAnswer) → StepSays c ro RemountStep.SetsWritable earlier added → TraceAfterStep hook RemountStep.SetsWritable
  sets_writable hook h = grind arith

  -- no file is found removed, or one is
  loads_removed : (hook : HookAnswer) → StepSays c ro RemountStep.LoadsRemoved earlier added → TraceAfterStep hook RemountStep.LoadsRemoved
  loads_removed hook h = grind arith

  -- the same with each mount held or read-only
  loads_removed_again : (hook : HookAnswer) (held : MountSet) → StepSays c ro (RemountStep.LoadsRemovedAgain held) earlier added →
      TraceAfterStep hook (RemountStep.LoadsRemovedAgain held)
  loads_removed_again hook held h = grind arith

  -- a mount is found read-only, or writable
  loads_flags : (hook : HookAnswer) (m : ℕ) (held : MountSet) → StepSays c ro (RemountStep.LoadsFlags m held) earlier added →
      TraceAfterStep hook (RemountStep.LoadsFlags m held)
  loads_flags hook m held h = grind arith

  -- its sum begins with no count loaded
  sets_hold : (hook : HookAnswer) (m : ℕ) (held : MountSet) → StepSays c ro (RemountStep.SetsHold m held) earlier added →
      TraceAfterStep hook (RemountStep.SetsHold m held)
  sets_hold hook m held h = grind arith

  -- one count more is loaded
  count_loaded : (hook : HookAnswer) (m : ℕ) (held : MountSet) (sum : Sum) → IsSumOf c m sum earlier →
      IsEachCount (suc sum.words) (counts_loaded m (longer hook (RemountStep.Sums m held sum))) ×
      (wrap_add sum.total value ≡ sum_loaded (counts_loaded m (longer hook (RemountStep.Sums m held sum))))
  count_loaded hook m held sum h =
      rw (eq-eqb m m refl) ((refl, h.1), sum_more sum.words value sum.total (counts_loaded m earlier) h.2)

  -- the sum goes on, or it is a sum of all counts: 0, or not
  sums : (hook : HookAnswer) (m : ℕ) (held : MountSet) (sum : Sum) → StepSays c ro (RemountStep.Sums m held sum) earlier added →
      TraceAfterStep hook (RemountStep.Sums m held sum)
  sums hook m held sum h =
      let trace : List Traced = longer hook (RemountStep.Sums m held sum) in
      let way : IsOnItsWay ro trace added = h.0 in
      let none : NoneLoaded (m + 1) trace = λ n q. rw (ne_eqb m n (λ z. omega (arith, z, q))) (h.2 n q) in
      let now : IsEachCount (suc sum.words) (counts_loaded m trace) × (wrap_add sum.total value ≡ sum_loaded (counts_loaded m trace)) =
      count_loaded hook m held sum h.3 in
      elim (cases_Bool (nat_lt (sum.words + 1) c.processors)) [
        | inl f ↦
            rw f (
              RemountStep.Sums m held record { words = sum.words + 1; total = wrap_add sum.total value },
              refl,
              (way, h.1, none, (ltb-true (sum.words + 1) c.processors f, rw (add-one sum.words) now.0, now.1)),
            )
        | inr f ↦
            let last : suc sum.words ≡ c.processors = omega (arith, ltb-false (sum.words + 1) c.processors f, h.3.0) in
            elim (eqb_tells (wrap_add sum.total value) 0) [
              | inl z ↦ rw (f, z.0) (
                past_mount c.mounts m (with_mount held m),
                refl,
                past_says c ro m (with_mount held m) trace added way none,
              )
              | inr z ↦ rw (f, z.0) (
                give_up m (with_mount held m),
                refl,
                give_up_says c ro m (with_mount held m) trace added (
                  h.0.0 ∙ sym (busy_adds ro trace),
                  inr (inr (m, h.1, (subst (λ n. IsEachCount n (counts_loaded m trace)) last now.0, λ q. z.1 (now.1 ∙ q)))),
                ),
              )
            ]
      ]

  -- `remount` is set, and `sb ro` is added before any mark is cleared
  sets_remount : (hook : HookAnswer) (held : MountSet) → StepSays c ro (RemountStep.SetsRemount held) earlier added → TraceAfterStep hook (RemountStep.SetsRemount held)
  sets_remount hook held h = grind arith

  clears_mark : (hook : HookAnswer) (n : ℕ) → StepSays c ro (RemountStep.ClearsMark n) earlier added → TraceAfterStep hook (RemountStep.ClearsMark n)
  clears_mark hook n h = grind arith

  -- the file system has answered, on the way to read-only
  sets_read_only : (hook : HookAnswer) → StepSays c ro RemountStep.SetsReadOnly earlier added → TraceAfterStep hook RemountStep.SetsReadOnly
  sets_read_only hook h = grind arith

  remount_event : (hook : HookAnswer) (step : RemountStep) → StepSays c ro step earlier added → TraceAfterStep hook step
  remount_event hook RemountStep.Locks h = locks hook h
  remount_event hook RemountStep.LoadsStage h = loads_stage hook h
  remount_event hook RemountStep.LoadsSuperblock h = loads_superblock hook h
  remount_event hook RemountStep.SetsWritable h = sets_writable hook h
  remount_event hook RemountStep.LoadsRemoved h = loads_removed hook h
  remount_event hook (RemountStep.LoadsFlags m held) h = loads_flags hook m held h
  remount_event hook (RemountStep.SetsHold m held) h = sets_hold hook m held h
  remount_event hook (RemountStep.Sums m held sum) h = sums hook m held sum h
  remount_event hook (RemountStep.LoadsRemovedAgain held) h = loads_removed_again hook held h
  remount_event hook (RemountStep.LeavesHolds held) h = (
    leave_holds (without_lowest held),
    refl,
    leave_holds_says c ro (without_lowest held) (longer hook (RemountStep.LeavesHolds held)) added
        (h.0 ∙ busy_adds ro earlier ∙ sym (busy_adds ro (longer hook (RemountStep.LeavesHolds held))), h.1),
  )
  remount_event hook (RemountStep.SetsRemount held) h = sets_remount hook held h
  remount_event hook (RemountStep.ClearsHold held) h = (
    let_go (without_lowest held),
    refl,
    let_go_says c ro (without_lowest held) (longer hook (RemountStep.ClearsHold held)) added h,
  )
  remount_event hook (RemountStep.GivesUp m held) h = (
    give_up m (without_lowest held),
    refl,
    give_up_says c ro m (without_lowest held) (longer hook (RemountStep.GivesUp m held)) added
        (h.0 ∙ busy_adds ro earlier ∙ sym (busy_adds ro (longer hook (RemountStep.GivesUp m held))), h.1),
  )
  remount_event hook (RemountStep.ClearsMark n) h = clears_mark hook n h
  remount_event hook RemountStep.SetsReadOnly h = sets_read_only hook h
  remount_event hook RemountStep.ClearsRemount h = (RemountStep.Releases (Ok Reply.Unit), refl, (rw (h.1, h.2) h.0, tt))
  remount_event hook (RemountStep.Releases answer) h = (lock_leaves c ro answer value hook earlier added h, tt)

pub remount_inductive : (c : Config) → IsWithin c → (t : ℕ) (ro : Bool) → IsInductive (RemountAt c t ro) c t (Op.RemountSb ro)
remount_inductive c lim t ro = record {
  first = (RemountStep.Locks, refl, (refl, (refl, refl, refl, λ m. refl)));
  more = λ phase value hook earlier added here.
      subst (λ (x : Phase). InvariantAfterStep (RemountAt c t ro) c (Op.RemountSb ro) x value hook earlier added) (sym here.1)
      (remount_event c lim t ro value earlier added hook here.0 here.2);
  short = λ trace phase added here. tt;
}

-- what a remount has added where it is refused leaves what its task held
pub remount_restores : (ro : Bool) (refusal : GateError) (trace : List Traced) (before : List Action) →
    LeaveAccesses (actions_of (Op.RemountSb ro) (Err refusal) trace) before
remount_restores ro refusal trace before = grind (arith, cleans_leave)
