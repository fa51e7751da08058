-- Traces of a freeze of the superblock.
use Rattle.gate_schedules.proofs.Prelude.{Action, Bool, ClearMarks, Config, DownWrite, DownWriteStep, Err, Freeze, FreezeStep, GateError, Holder}
use Rattle.gate_schedules.proofs.Prelude.{HookAnswer, IsWithin, List, Next, Ok, Op, Option, Phase, Reply, Result, Touch, Traced, Transition}
use Rattle.gate_schedules.proofs.Prelude.{TransitionNext, UpWrite, UpWriteStep, WordName, [], actions_after, actions_of, after_closing, ap, arith}
use Rattle.gate_schedules.proofs.Prelude.{at_freeze, cases_Bool, dirty_in, down_write_after, eq-eqb, eqb_tells, event_of, exit_made, false, found_by}
use Rattle.gate_schedules.proofs.Prelude.{has_flag, if◌then◌else◌, inl, inr, map_next, ne_eqb, node_after, on_exit, refl, subst, suc, sym}
use Rattle.gate_schedules.proofs.Prelude.{transition_after, true, with_hook, zero, ℕ, ◌-◌, ◌==◌, ◌∙◌, ◌∷◌, ◌≡◌, ◌≤◌}
use Rattle.std.proofs.{Common.bit_and, lemmas.Nat.Bits.and_pow}
use Rattle.{access_model.specs.Holders.nobody, freeze_levels.specs.Freezes.{after_clearing, after_reopening, after_undoing}}
use Rattle.gate_world.specs.{Operations.{all_levels_closed, failed_adds, two_levels_closed, word_decided}, traces.Found.{ReadAnswer, cleans}}
use Rattle.gate_world.specs.traces.{Found.{found_complete, found_sealed, gave_up, level_opened, stored_stage}, Traces.IsHonestAnswer}
use Rattle.{node_words.specs.Phases.clears_at, percpu_rwsem.specs.Transitions.transition_next}
use Rattle.gate_schedules.proofs.operations.freeze.{Closes.by_wait, Sums.{ClosingNext, ClosingSays, FoundAsBefore, closing_at, closing_event}}
use Rattle.gate_schedules.proofs.{operations.freeze.Sums.{closing_found, closing_leaves, closing_trace}, traces.Cleans.{LeaveAccesses, cleans_leave}}
use Rattle.gate_schedules.proofs.traces.TraceInvariant.{InvariantAfter, InvariantAfterStep, IsInductive, TraceLaws, event_at, traces_tell}

-- a freeze of the superblock by a task, at this step
abbrev pub freeze_of : Config → ℕ → Holder → FreezeStep → Freeze
freeze_of c t holder step = record {
  task = t;
  tasks = c.tasks;
  processors = c.processors;
  nodes = c.nodes;
  holder = holder;
  step = step;
}

-- the same as a phase
abbrev pub freeze_at : Config → ℕ → Holder → FreezeStep → Phase
freeze_at c t holder step = Phase.Freezes (freeze_of c t holder step)

-- these actions are added, the superblock wasn't found read-only nor frozen, and stage 3 is stored or not
abbrev HasAdded : List Action → Bool → List Traced → List Action → Type 0
HasAdded done third trace added =
    (added ≡ done) × ((found_sealed trace ≡ false) × (found_complete trace ≡ false)) × (stored_stage 3 trace ≡ third) ×
    (level_opened trace ≡ 0)

-- these actions are added before stage 3 is stored or any mark is cleared
abbrev HasBegun : List Action → List Traced → List Action → Type 0
HasBegun done trace added = HasAdded done false trace added × (cleans trace ≡ [])

-- what is added before a level is closed: the stage that is stored first, on top of what was added before it
abbrev IsClosing : ℕ → List Traced → List Action → Type 0
IsClosing (suc zero) trace added = HasBegun (Action.Stage 1 ∷ []) trace added
IsClosing (suc (suc zero)) trace added = HasBegun (Action.Stage 2 ∷ (Action.Pass 1 ∷ (Action.Stage 1 ∷ []))) trace added
IsClosing (suc (suc (suc zero))) trace added = HasAdded (Action.Stage 3 ∷ two_levels_closed trace) true trace added
IsClosing i trace added = ⊥

-- these actions with the levels up to this one reopened after them
abbrev reopened : ℕ → List Action → List Action
reopened zero added = added
reopened (suc zero) added = Action.Reopen 1 ∷ added
reopened (suc (suc zero)) added = Action.Reopen 1 ∷ (Action.Reopen 2 ∷ added)
reopened (suc (suc (suc i))) added = Action.Reopen 1 ∷ (Action.Reopen 2 ∷ (Action.Reopen 3 ∷ added))

-- what a freeze whose hook failed has added where the levels up to this one are still closed: all but that these are reopened
abbrev AreLeft : ℕ → List Traced → List Action → Type 0
AreLeft i trace added = (reopened i added ≡ failed_adds (gave_up trace) trace) × (i ≤ 3)

-- what a freeze that gives up this level has added where it is still to store stage 0
abbrev GaveUpSay : ℕ → ℕ → List Traced → List Action → Type 0
GaveUpSay level code trace added =
    (1 ≤ level) × (level ≤ 3) × (reopened (level - 1) (Action.Stage 0 ∷ added) ≡ failed_adds level trace) × (level_opened trace ≡ level) ×
    ReadAnswer (WordName.Block level) (Err code) trace

-- while a level is reopened, it is closed until its first step
abbrev IsReopening : ℕ → UpWriteStep → List Traced → List Action → Type 0
IsReopening (suc i) UpWriteStep.ClearsBlock trace added = AreLeft (suc i) trace added
IsReopening (suc i) (UpWriteStep.Exits transition) trace added = AreLeft i trace added
IsReopening zero s trace added = ⊥

-- what is added where all is frozen: nothing, where it was found so; or stage 4, with the levels closed of a writable superblock
abbrev frozen_adds : List Traced → List Action
frozen_adds trace = if found_complete trace then [] else Action.Stage 4 ∷ (if found_sealed trace then [] else all_levels_closed trace)

-- what is answered is told already
abbrev Answers : Config → Holder → Result Reply GateError → List Traced → List Action → Type 0
Answers c holder answer trace added = (added ≡ actions_of (Op.Freeze holder) answer trace) × IsHonestAnswer c (Op.Freeze holder) answer trace

-- a level is closed, and the trace says what it is to say at that step
abbrev ClosesSay : Config → DownWrite → List Traced → List Action → Type 0
ClosesSay c d trace added =
    (i : ℕ) × (s : DownWriteStep) × (d ≡ closing_at c i s) × IsClosing i trace added × ClosingSays c i s trace

-- a level is reopened, as a hook failed with this code
abbrev ReopensSay : UpWrite → ℕ → List Traced → List Action → Type 0
ReopensSay u code trace added =
    (i : ℕ) × (s : UpWriteStep) × (u ≡ record { level = i; step = s }) × IsReopening i s trace added ×
    ReadAnswer (word_decided (gave_up trace)) (Err code) trace

-- what a trace says at a step: what was found, stored, cleared and added
abbrev StepSays : Config → Holder → FreezeStep → List Traced → List Action → Type 0
StepSays c holder FreezeStep.LoadsHolders trace added = (added ≡ []) × (found_complete trace ≡ true)
StepSays c holder (FreezeStep.Holds beside) trace added = added ≡ frozen_adds trace
StepSays c holder FreezeStep.CompletesReadOnly trace added = (added ≡ []) × (found_sealed trace ≡ true) × (found_complete trace ≡ false)
StepSays c holder FreezeStep.Unlocks trace added = HasBegun (Action.Stage 1 ∷ []) trace added
StepSays c holder (FreezeStep.Closes d) trace added = ClosesSay c d trace added
StepSays c holder (FreezeStep.Waits d) trace added = ClosesSay c d trace added
StepSays c holder (FreezeStep.Undoes level transition code) trace added = GaveUpSay level code trace added
StepSays c holder (FreezeStep.LocksToUndo code) trace added = GaveUpSay 1 code trace added
StepSays c holder (FreezeStep.GivesUp level code) trace added = GaveUpSay level code trace added
StepSays c holder FreezeStep.LocksAgain trace added = HasBegun (Action.Pass 1 ∷ (Action.Stage 1 ∷ [])) trace added
StepSays c holder FreezeStep.SetsPageFault trace added = HasBegun (Action.Pass 1 ∷ (Action.Stage 1 ∷ [])) trace added
StepSays c holder (FreezeStep.Cleans marks) trace added = HasAdded (two_levels_closed trace) false trace added
StepSays c holder FreezeStep.SetsFs trace added = HasAdded (two_levels_closed trace) false trace added
StepSays c holder FreezeStep.SetsComplete trace added = HasAdded (all_levels_closed trace) true trace added
StepSays c holder (FreezeStep.Reopens u code) trace added = ReopensSay u code trace added
StepSays c holder (FreezeStep.Releases answer) trace added = Answers c holder answer trace added
StepSays c holder other trace added = HasBegun [] trace added

-- what a freeze's trace says at a phase
abbrev pub FreezeAt : Config → ℕ → Holder → List Traced → Phase → List Action → Type 0
FreezeAt c t holder trace phase added = (step : FreezeStep) × (phase ≡ freeze_at c t holder step) × StepSays c holder step trace added

mark_bit : (word : ℕ) → (dirty_in word == 1) ≡ has_flag word 4
mark_bit word =
    elim (eqb_tells (dirty_in word) 1) [
      | inl q ↦ q.0 ∙ sym (eq-eqb (bit_and word 4) 4 (omega (arith, q.1, and_pow word 2)))
      | inr q ↦ q.0 ∙ sym (ne_eqb (bit_and word 4) 4 (λ e. q.1 (omega (arith, e, and_pow word 2))))
    ]

-- what is added before a level is closed stays so while the trace leaves what it speaks of
closing_stays : (i : ℕ) (trace earlier : List Traced) (added : List Action) → FoundAsBefore trace earlier → IsClosing i earlier added →
    IsClosing i trace added
closing_stays i trace earlier added l h = grind arith

-- what a hook that failed leaves is the same while the trace leaves what it speaks of
failed_same : (g : ℕ) (trace earlier : List Traced) → stored_stage 3 trace ≡ stored_stage 3 earlier → cleans trace ≡ cleans earlier →
    failed_adds g earlier ≡ failed_adds g trace
failed_same g trace earlier third marks = grind arith

-- a down-write waits
wait_says : (c : Config) (t : ℕ) (holder : Holder) (i : ℕ) (x : Freeze) (e : Traced) (earlier : List Traced) (added : List Action) (d : DownWrite)
    (action : Option Action) (z : FreezeStep) → Phase.Freezes (at_freeze x z) ≡ freeze_at c t holder z →
    (ClosesSay c d (e ∷ earlier) added → StepSays c holder z (e ∷ earlier) added) → IsClosing i (e ∷ earlier) added →
    ClosingNext c i (e ∷ earlier) (Next.Wait d) action →
    InvariantAfter (FreezeAt c t holder) c (Op.Freeze holder) (e ∷ earlier) (Next.Wait (Phase.Freezes (at_freeze x z))) (actions_after action added)
wait_says c t holder i x e earlier added d action z is says level h = grind arith

-- what is said of the closing of a level is said of a freeze, by what comes next
closing_says : (c : Config) (t : ℕ) (holder : Holder) (i : ℕ) (s : DownWriteStep) (e : Traced) (earlier : List Traced) (added : List Action)
    (n : Next DownWrite)
    (action : Option Action) → IsClosing i (e ∷ earlier) added → ClosingNext c i (e ∷ earlier) n action →
    InvariantAfter (FreezeAt c t holder) c (Op.Freeze holder) (e ∷ earlier)
    (map_next Phase.Freezes (after_closing (freeze_of c t holder (FreezeStep.Closes (closing_at c i s))) i n)) (actions_after action added)
closing_says c t holder i s e earlier added n action level h = grind (arith, closing_at, by_wait, wait_says)

-- a step that gives `umount` back leaves what is told
lock_leaves : (c : Config) (holder : Holder) (answer : Result Reply GateError) (value : ℕ) (hook : HookAnswer) (earlier : List Traced)
    (added : List Action) → Answers c holder answer earlier added →
    Answers c holder answer (with_hook (event_of WordName.Umount (Touch.Store 0) value) hook ∷ earlier) added
lock_leaves c holder answer value hook earlier added h = grind arith

module _ (c : Config) (lim : IsWithin c) (t : ℕ) (holder : Holder) (value : ℕ) (earlier : List Traced) (added : List Action) where
  -- the trace after the step at a program point
  abbrev longer : HookAnswer → FreezeStep → List Traced
  longer hook step = with_hook (event_at (freeze_at c t holder step) value hook) hook ∷ earlier

  -- what the trace says after the step at a program point
  abbrev TraceAfterStep : HookAnswer → FreezeStep → Type 0
  TraceAfterStep hook step = InvariantAfterStep (FreezeAt c t holder) c (Op.Freeze holder) (freeze_at c t holder step) value hook earlier added

  -- `umount` is tried
  locks : (hook : HookAnswer) → StepSays c holder FreezeStep.Locks earlier added → TraceAfterStep hook FreezeStep.Locks
  locks hook h = grind arith

  -- and again, with level 1 closed
  locks_again : (hook : HookAnswer) → StepSays c holder FreezeStep.LocksAgain earlier added → TraceAfterStep hook FreezeStep.LocksAgain
  locks_again hook h = grind arith

  loads_stage : (hook : HookAnswer) → StepSays c holder FreezeStep.LoadsStage earlier added → TraceAfterStep hook FreezeStep.LoadsStage
  loads_stage hook h = grind arith

  loads_holders : (hook : HookAnswer) → StepSays c holder FreezeStep.LoadsHolders earlier added → TraceAfterStep hook FreezeStep.LoadsHolders
  loads_holders hook h = grind arith

  loads_superblock : (hook : HookAnswer) → StepSays c holder FreezeStep.LoadsSuperblock earlier added → TraceAfterStep hook FreezeStep.LoadsSuperblock
  loads_superblock hook h = grind arith

  -- a step of the closing of a level
  closes : (hook : HookAnswer) (d : DownWrite) → ClosesSay c d earlier added → TraceAfterStep hook (FreezeStep.Closes d)
  closes hook d h =
      let i : ℕ = h.0 in
      let s : DownWriteStep = h.1 in
      subst (λ (x : DownWrite). TraceAfterStep hook (FreezeStep.Closes x)) (sym h.2) (
      let closing : DownWrite = closing_at c i s in
      let found : ℕ = closing_found c lim i value hook earlier s in
      closing_says c t holder i s (with_hook (event_at (freeze_at c t holder (FreezeStep.Closes closing)) value hook) hook) earlier added
      (down_write_after closing s found).0 (down_write_after closing s found).1
      (closing_stays i (closing_trace c lim i value hook earlier s) earlier added (closing_leaves c lim i value hook earlier s) h.3)
      (closing_event c lim i value hook earlier s h.4)
      )

  node_says : (marks : ClearMarks) (trace : List Traced) (actions : List Action) →
      HasAdded (two_levels_closed trace) false trace actions →
      InvariantAfter (FreezeAt c t holder) c (Op.Freeze holder) trace
      (map_next Phase.Freezes (after_clearing (freeze_of c t holder (FreezeStep.Cleans marks)) (clears_at marks (node_after marks.node marks.nodes)))) actions
  node_says marks trace actions h = grind arith

  -- a mark was found set, or clear
  clears : (hook : HookAnswer) (marks : ClearMarks) → StepSays c holder (FreezeStep.Cleans marks) earlier added → TraceAfterStep hook (FreezeStep.Cleans marks)
  clears hook marks h =
      let trace : List Traced = longer hook (FreezeStep.Cleans marks) in
      elim (cases_Bool (has_flag value 4)) [
        | inl f ↦ rw (mark_bit value ∙ f) (
            node_says marks trace (Action.Clean marks.node ∷ added)
            (rw f (ap (λ (l : List Action). Action.Clean marks.node ∷ l) h.0), h.1, h.2, h.3)
            )
        | inr f ↦ rw (mark_bit value ∙ f) (node_says marks trace added (rw f h.0, h.1, h.2, h.3))
      ]

  sets_fs : (hook : HookAnswer) → StepSays c holder FreezeStep.SetsFs earlier added → TraceAfterStep hook FreezeStep.SetsFs
  sets_fs (Ok answer) h = grind arith
  sets_fs (Err code) h = grind arith

  sets_complete : (hook : HookAnswer) → StepSays c holder FreezeStep.SetsComplete earlier added → TraceAfterStep hook FreezeStep.SetsComplete
  sets_complete (Ok answer) h = grind arith
  sets_complete (Err code) h = grind arith

  -- a level is being left, or it is left and the level below it comes
  leaves_on : (i code : ℕ) (from : Transition) (trace : List Traced) (n : TransitionNext) → AreLeft i trace added →
      ReadAnswer (word_decided (gave_up trace)) (Err code) trace →
      InvariantAfter (FreezeAt c t holder) c (Op.Freeze holder) trace
      (map_next Phase.Freezes
      (after_reopening (freeze_of c t holder (FreezeStep.Reopens (record { level = suc i; step = UpWriteStep.Exits from }) code)) (suc i) code
      (exit_made (record { level = suc i; step = UpWriteStep.Exits from }) n)))
      added
  leaves_on i code from trace n h said = grind arith

  -- a step on a level's words leaves what is left, and which answer was read
  still_left : (hook : HookAnswer) (code i n : ℕ) (transition : Transition) → AreLeft n earlier added →
      ReadAnswer (word_decided (gave_up earlier)) (Err code) earlier →
      let trace : List Traced = with_hook (event_of (transition_next i transition).0 (transition_next i transition).1 value) hook ∷ earlier in
      AreLeft n trace added × ReadAnswer (word_decided (gave_up trace)) (Err code) trace
  still_left hook code i n Transition.Loads h said = ((h.0 ∙ failed_same (gave_up earlier) _ earlier refl refl, h.1), inr said)
  still_left hook code i n (Transition.Exchanges from to) h said = ((h.0 ∙ failed_same (gave_up earlier) _ earlier refl refl, h.1), inr said)

  -- a level is reopened
  reopens : (hook : HookAnswer) (i : ℕ) → AreLeft (suc i) earlier added →
      AreLeft i (with_hook (event_of (WordName.Block (suc i)) (Touch.Store 0) value) hook ∷ earlier) (Action.Reopen (suc i) ∷ added)
  reopens hook i h = grind (arith, failed_same)

  reopening_event : (hook : HookAnswer) (code i : ℕ) (s : UpWriteStep) → IsReopening i s earlier added →
      ReadAnswer (word_decided (gave_up earlier)) (Err code) earlier → TraceAfterStep hook (FreezeStep.Reopens (record { level = i; step = s }) code)
  reopening_event hook code zero s h said = absurd h
  reopening_event hook code (suc i) (UpWriteStep.Exits transition) h said =
      let now = still_left hook code (suc i) i transition h said in
      leaves_on i code transition (longer hook (FreezeStep.Reopens (record { level = suc i; step = UpWriteStep.Exits transition }) code))
      (transition_after on_exit transition (found_by (transition_next (suc i) transition).1 value)) now.0 now.1
  reopening_event hook code (suc i) UpWriteStep.ClearsBlock h said = grind (arith, reopens)

  -- where the hook has answered Ok, a step of a freeze that waits is one of the closing of its level
  waits_on : (answer : Unit {0}) (d : DownWrite) → ClosesSay c d earlier added → TraceAfterStep (Ok answer) (FreezeStep.Waits d)
  waits_on answer d h =
      let i : ℕ = h.0 in
      let s : DownWriteStep = h.1 in
      subst (λ (x : DownWrite). TraceAfterStep (Ok answer) (FreezeStep.Waits x)) (sym h.2) (
      let closing : DownWrite = closing_at c i s in
      let found : ℕ = closing_found c lim i value (Ok answer) earlier s in
      closing_says c t holder i s (with_hook (event_at (freeze_at c t holder (FreezeStep.Closes closing)) value (Ok answer)) (Ok answer)) earlier added
      (down_write_after closing s found).0 (down_write_after closing s found).1
      (closing_stays i (closing_trace c lim i value (Ok answer) earlier s) earlier added (closing_leaves c lim i value (Ok answer) earlier s) h.3)
      (closing_event c lim i value (Ok answer) earlier s h.4)
      )

  -- else it gives the level up
  unblocks : (code i : ℕ) → IsClosing i earlier added →
      GaveUpSay i code (with_hook (event_of (WordName.Block i) (Touch.Store 0) value) (Err code) ∷ earlier) added
  unblocks code i h = grind arith

  -- the rcu_sync of the level is being left, or it is left
  undone_on : (level code : ℕ) (x : Freeze) (trace : List Traced) (n : TransitionNext) →
      ((z : FreezeStep) → Phase.Freezes (at_freeze x z) ≡ freeze_at c t holder z) → GaveUpSay level code trace added →
      InvariantAfter (FreezeAt c t holder) c (Op.Freeze holder) trace (map_next Phase.Freezes (after_undoing x level code n)) added
  undone_on level code x trace (TransitionNext.More more) is h = (FreezeStep.Undoes level more code, is (FreezeStep.Undoes level more code), h)
  undone_on level code x trace TransitionNext.Undefined is h =
      (FreezeStep.Undoes level Transition.Loads code, is (FreezeStep.Undoes level Transition.Loads code), h)
  undone_on level code x trace (TransitionNext.Made state) is h =
      elim (eqb_tells level 1) [
        | inl q ↦ rw q.0 (FreezeStep.LocksToUndo code, is (FreezeStep.LocksToUndo code), subst (λ l. GaveUpSay l code trace added) q.1 h)
        | inr q ↦ rw q.0 (FreezeStep.GivesUp level code, is (FreezeStep.GivesUp level code), h)
      ]

  undoes : (hook : HookAnswer) (level code : ℕ) (transition : Transition) → GaveUpSay level code earlier added →
      TraceAfterStep hook (FreezeStep.Undoes level transition code)
  undoes hook level code Transition.Loads h = grind (arith, undone_on)
  undoes hook level code (Transition.Exchanges from to) h = grind (arith, undone_on)

  locks_to_undo : (hook : HookAnswer) (code : ℕ) → GaveUpSay 1 code earlier added → TraceAfterStep hook (FreezeStep.LocksToUndo code)
  locks_to_undo hook code h = grind arith

  -- stage 0 is stored
  gives_up : (hook : HookAnswer) (code level : ℕ) → GaveUpSay level code earlier added → TraceAfterStep hook (FreezeStep.GivesUp level code)
  gives_up hook code zero h = absurd (omega (arith, h.0))
  gives_up hook code (suc zero) h = grind arith
  gives_up hook code (suc (suc zero)) h = grind arith
  gives_up hook code (suc (suc (suc zero))) h = grind arith
  gives_up hook code (suc (suc (suc (suc level)))) h = absurd (omega (arith, h.1))

  freeze_event : (hook : HookAnswer) (step : FreezeStep) → StepSays c holder step earlier added → TraceAfterStep hook step
  freeze_event hook FreezeStep.Locks h = locks hook h
  freeze_event hook FreezeStep.LoadsStage h = loads_stage hook h
  freeze_event hook FreezeStep.LoadsSuperblock h = loads_superblock hook h
  freeze_event hook FreezeStep.LoadsHolders h = loads_holders hook h
  freeze_event hook (FreezeStep.Holds beside) h = (FreezeStep.Releases (Ok Reply.Unit), refl, (ap (λ (l : List Action). Action.Hold holder ∷ l) h, tt))
  freeze_event hook FreezeStep.CompletesReadOnly h = (FreezeStep.Holds nobody, refl, rw (h.2, h.1) (ap (λ (l : List Action). Action.Stage 4 ∷ l) h.0))
  freeze_event hook FreezeStep.SetsWrite h = (FreezeStep.Unlocks, refl, ((ap (λ (l : List Action). Action.Stage 1 ∷ l) h.0.0, h.0.1, h.0.2, h.0.3), h.1))
  freeze_event hook FreezeStep.Unlocks h = grind arith
  freeze_event hook (FreezeStep.Closes d) h = closes hook d h
  freeze_event (Ok answer) (FreezeStep.Waits d) h = waits_on answer d h
  freeze_event (Err code) (FreezeStep.Waits d) h =
      subst (λ (x : DownWrite). TraceAfterStep (Err code) (FreezeStep.Waits x)) (sym h.2)
      (FreezeStep.Undoes h.0 Transition.Loads code, refl, unblocks code h.0 h.3)
  freeze_event hook (FreezeStep.Undoes level transition code) h = undoes hook level code transition h
  freeze_event hook (FreezeStep.LocksToUndo code) h = locks_to_undo hook code h
  freeze_event hook (FreezeStep.GivesUp level code) h = gives_up hook code level h
  freeze_event hook FreezeStep.LocksAgain h = locks_again hook h
  freeze_event hook FreezeStep.SetsPageFault h = grind arith
  freeze_event hook (FreezeStep.Cleans marks) h = clears hook marks h
  freeze_event hook FreezeStep.SetsFs h = sets_fs hook h
  freeze_event hook FreezeStep.SetsComplete h = sets_complete hook h
  freeze_event hook (FreezeStep.Reopens u code) h =
      subst (λ (x : UpWrite). TraceAfterStep hook (FreezeStep.Reopens x code)) (sym h.2) (reopening_event hook code h.0 h.1 h.3 h.4)
  freeze_event hook (FreezeStep.Releases answer) h = (lock_leaves c holder answer value hook earlier added h, tt)

pub freeze_inductive : (c : Config) → IsWithin c → (t : ℕ) (holder : Holder) → IsInductive (FreezeAt c t holder) c t (Op.Freeze holder)
freeze_inductive c lim t holder = record {
  first = (FreezeStep.Locks, refl, ((refl, (refl, refl), refl, refl), refl));
  more = λ phase value hook earlier added here.
      subst (λ (x : Phase). InvariantAfterStep (FreezeAt c t holder) c (Op.Freeze holder) x value hook earlier added) (sym here.1)
      (freeze_event c lim t holder value earlier added hook here.0 here.2);
  short = λ trace phase added here. tt;
}

pub freeze_traces : (c : Config) (holder : Holder) → IsWithin c → TraceLaws c (Op.Freeze holder)
freeze_traces c holder lim = traces_tell (λ t. FreezeAt c t holder) c (Op.Freeze holder) (λ t. freeze_inductive c lim t holder)

-- what a freeze has added whose hook failed does so, whichever level it gave up
failed_leaves : (g : ℕ) (trace : List Traced) (before : List Action) → LeaveAccesses (failed_adds g trace) before
failed_leaves g trace before = grind (arith, cleans_leave)

-- what a freeze has added where it is refused leaves what its task held
pub freeze_restores : (holder : Holder) (refusal : GateError) (trace : List Traced) (before : List Action) →
    LeaveAccesses (actions_of (Op.Freeze holder) (Err refusal) trace) before
freeze_restores holder (GateError.Hook code) trace before = failed_leaves (gave_up trace) trace before
freeze_restores holder refusal trace before = refl
