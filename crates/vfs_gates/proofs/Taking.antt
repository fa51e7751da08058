-- A snapshot that replied has taken one: its last load but its release is the last load of the tree.
use Rattle.vfs_gates.proofs.Prelude.{Action, Bool, Called, Config, DealtNumbers, Done, Err, GateError, Go, List, Next, None, Ok, Op, Option, Performs}
use Rattle.vfs_gates.proofs.Prelude.{Phase, Reply, Result, SeatedTask, Some, Traced, TreeWords, Trees, View, Wait, [], ap, arith, at_snapshot}
use Rattle.vfs_gates.proofs.Prelude.{cases_Bool, done_by, false, inl, inr, is_some, length, map_next, own_number, own_view, ran_items, refl}
use Rattle.vfs_gates.proofs.Prelude.{refusal_at, spare_of, state_of_trace, subst, told_as, true, unit_of, ℕ, ◌++◌, ◌==◌, ◌∙◌, ◌∷◌, ◌≡◌, ◌≤◌}
use Rattle.vfs_gates.{proofs.Seeing.{call_saw, same_own}, specs.Seen.HasTaken}
use Rattle.gated_tree.specs.{Phases.{kids_step, node_step, snapshot_after, snapshot_locked_out}, Trees.{LoadedClean, LoadedSound}}
use Rattle.gated_tree.specs.declared.{phases.TreePhase.TheVariants.Snapshot as Snapshots, snapshots.{Snapshot.Snapshot, SnapshotStep.SnapshotStep}}
use Rattle.gated_tree.specs.declared.snapshots.SnapshotStep.TheVariants.{LoadsKids, LoadsNode, LoadsStage, LoadsUsed, Locks, Releases}
use Rattle.node_words.specs.Nodes.{node_after, unpacked}
use Rattle.gate_world.specs.{Views.actions_after, declared.{operations.Op.TheVariants.Snapshot as SnapshotOp, views.Snapshot.Snapshot as Noted}}
use Rattle.gate_world.specs.traces.{Snapshots.{last_snapshot, noted_last, snapshot_completes}, TraceStates.{IsNext, IsTrace, trace_state_after}}
use Rattle.gate_steps.specs.call_events.Runs.{completed_by, ran_snapshot}

-- no step of a snapshot adds an action
pub adds_none : (s : Snapshot) (step : SnapshotStep) (found : ℕ) → (snapshot_after s step found).1 ≡ None
adds_none s step found = grind arith

module _ (c : Config) (t : ℕ) (wait : Bool) (others : List (ℕ × ℕ)) (v : View) where
  -- the last snapshot after these steps
  abbrev seen : List Traced → Option Noted
  seen trace = ran_snapshot c t (SnapshotOp wait) others trace v

  -- it is one that was taken after just what had been done before the call
  abbrev HasOne : List Traced → Type 0
  HasOne trace = (words : TreeWords) × (seen trace ≡ Some (record { loaded = words; done = length v.actions; others = others }))

  -- so it is where an answer is a reply
  abbrev Answers : List Traced → Result Reply GateError → Type 0
  Answers trace (Ok reply) = HasOne trace
  Answers trace (Err refusal) = Unit {0}

  abbrev StandsAt : List Traced → SnapshotStep → Type 0
  StandsAt trace (Releases answer) = Answers trace answer
  StandsAt trace step = Unit {0}

  abbrev AtPhase : List Traced → Phase → Type 0
  AtPhase trace (Trees (Snapshots x)) = StandsAt trace x.step
  AtPhase trace phase = ⊥

  abbrev NextInvariant : List Traced → Next Phase → Type 0
  NextInvariant trace (Go phase) = AtPhase trace phase
  NextInvariant trace (Wait phase) = AtPhase trace phase
  NextInvariant trace (Done answer) = Answers trace answer

  -- the same of what comes after a step of a snapshot, as it says it itself
  abbrev ComesNext : List Traced → Next Snapshot → Type 0
  ComesNext trace n = NextInvariant trace (map_next Trees (map_next Snapshots n))

  locked_out : (trace : List Traced) (s : Snapshot) (waits : Bool) → ComesNext trace (snapshot_locked_out s waits)
  locked_out trace s true = tt
  locked_out trace s false = tt

  node_comes : (trace : List Traced) (s : Snapshot) (o : Option ℕ) → ComesNext trace (Go (at_snapshot s (node_step o)))
  node_comes trace s (Some n) = tt
  node_comes trace s None = tt

  -- after the load of a node's children: the last one completes a snapshot
  kids_come : (trace : List Traced) (e : Traced) (s : Snapshot) (o : Option ℕ) (words : TreeWords) (added : List Action) → added ≡ [] →
      seen (e ∷ trace) ≡ last_snapshot (noted_last o words) (added ++ v.actions) others (seen trace) →
      ComesNext (e ∷ trace) (Go (at_snapshot s (kids_step o)))
  kids_come trace e s (Some n) words added none is = tt
  kids_come trace e s None words added none is =
      (words, is ∙ ap (λ (l : List Action). last_snapshot (Some words) (l ++ v.actions) others (seen trace)) none)

  -- an answer stays what it was, with a step that completes none
  answer_stays : (trace : List Traced) (e : Traced) (answer : Result Reply GateError) → seen (e ∷ trace) ≡ seen trace →
      Answers trace answer → Answers (e ∷ trace) answer
  answer_stays trace e (Ok reply) same h = (h.0, same ∙ h.1)
  answer_stays trace e (Err refusal) same h = tt

  -- the step at a program point
  step_comes : (trace : List Traced) (e : Traced) (s : Snapshot) (step : SnapshotStep) (added : List Action) → added ≡ [] →
      seen (e ∷ trace) ≡ last_snapshot (snapshot_completes s.nodes step trace e.event.found) (added ++ v.actions) others (seen trace) →
      StandsAt trace step → ComesNext (e ∷ trace) (snapshot_after s step e.event.found).0
  step_comes trace e s Locks added none is h =
      elim (cases_Bool (e.event.found == 0)) [ inl f ↦ rw f tt | inr f ↦ rw f (locked_out (e ∷ trace) s s.wait) ]
  step_comes trace e s LoadsStage added none is h =
      elim (cases_Bool (e.event.found == 4)) [ inl f ↦ rw f tt | inr f ↦ rw f tt ]
  step_comes trace e s LoadsUsed added none is h = tt
  step_comes trace e s (LoadsNode n) added none is h =
      elim (cases_Bool (is_some (unpacked e.event.found))) [
        | inl f ↦ rw f (node_comes (e ∷ trace) s (node_after n s.nodes))
        | inr f ↦ rw f tt
      ]
  step_comes trace e s (LoadsKids n) added none is h = kids_come trace e s (node_after n s.nodes) _ added none is
  step_comes trace e s (Releases answer) added none is h = answer_stays trace e answer is h

  -- one step more
  phase_comes : (trace : List Traced) (e : Traced) (phase : Phase) (added : List Action) → added ≡ [] → AtPhase trace phase →
      seen (e ∷ trace) ≡ last_snapshot (completed_by (Go phase) trace e) (added ++ v.actions) others (seen trace) →
      NextInvariant (e ∷ trace) (trace_state_after (Go phase) added e).comes × ((trace_state_after (Go phase) added e).added ≡ [])
  phase_comes trace e (Trees (Snapshots x)) added none h is = (
    step_comes trace e x x.step added none is h,
    ap (λ a. actions_after a added) (adds_none x x.step e.event.found) ∙ none,
  )
  phase_comes trace e phase added none h is = absurd h

  more_comes : (trace : List Traced) (e : Traced) (n : Next Phase) (added : List Action) → added ≡ [] → NextInvariant trace n →
      IsNext n e → seen (e ∷ trace) ≡ last_snapshot (completed_by n trace e) (added ++ v.actions) others (seen trace) →
      NextInvariant (e ∷ trace) (trace_state_after n added e).comes × ((trace_state_after n added e).added ≡ [])
  more_comes trace e (Go phase) added none h next is = phase_comes trace e phase added none h is
  more_comes trace e (Wait phase) added none h next is = phase_comes trace e phase added none h is
  more_comes trace e (Done answer) added none h next is = absurd next

  -- all steps
  all_come : (trace : List Traced) → IsTrace c t (SnapshotOp wait) trace →
      NextInvariant trace (state_of_trace c t (SnapshotOp wait) trace).comes × ((state_of_trace c t (SnapshotOp wait) trace).added ≡ [])
  all_come [] h = (tt, refl)
  all_come (e ∷ earlier) h =
      let before : NextInvariant earlier (state_of_trace c t (SnapshotOp wait) earlier).comes × ((state_of_trace c t (SnapshotOp wait) earlier).added ≡ []) =
      all_come earlier h.1 in
      more_comes earlier e (state_of_trace c t (SnapshotOp wait) earlier).comes (state_of_trace c t (SnapshotOp wait) earlier).added before.1 before.0
      h.0 refl

  -- so one that replied has taken one
  pub replied_one : (trace : List Traced) (reply : Reply) → IsTrace c t (SnapshotOp wait) trace →
      (state_of_trace c t (SnapshotOp wait) trace).comes ≡ Done (Ok reply) → HasOne trace
  replied_one trace reply h ends = subst (NextInvariant trace) ends (all_come trace h).0

-- a whole call of a snapshot that replied
pub has_taken : (wait : Bool) (old left : SeatedTask) (reply : Reply) → 1 ≤ length old.items →
    Called (SnapshotOp wait) old left (Ok reply) → HasTaken old.config old.items left.items
has_taken wait old left reply some_there called =
    let c : Config = old.config in
    let others : List (ℕ × ℕ) = done_by (spare_of old.items) in
    let v : View = own_view old.items in
    let one = replied_one c (own_number old.items) wait others v called.trace reply called.follows called.ends in
    let own = same_own c (SnapshotOp wait) called.trace old.items some_there in
    let noted : Noted = record { loaded = one.0; done = length v.actions; others = others } in
    let shows : (own_view left.items).snapshot ≡ Some noted =
    ap (λ (s : SeatedTask). (own_view s.items).snapshot) called.after ∙ (own.2 ∙ one.1) in record {
      seen = noted;
      shows = shows;
      done = refl;
      others = refl;
      moment = call_saw (SnapshotOp wait) old left (Ok reply) called noted some_there shows;
    }

-- the last snapshot of a task is sound and clean
abbrev pub HasWhole : SeatedTask → Type 0
HasWhole left = (s : Noted) × ((own_view left.items).snapshot ≡ Some s) × LoadedSound s.loaded × LoadedClean s.loaded

-- what has run has the numbers that it had
some_before : (c : Config) (op : Op) (trace : List Traced) (items : DealtNumbers) → 1 ≤ length (ran_items c op trace items) → 1 ≤ length items
some_before c op trace [] h = h
some_before c op trace (x ∷ xs) h = omega arith

-- a call of a snapshot that was done has replied, so it has taken one
answered_whole : (wait : Bool) (old left : SeatedTask) → 1 ≤ length left.items → (answer : Result Reply GateError) →
    ◌≡◌ {A = Result (Unit {0}) GateError} (Ok tt) (told_as unit_of answer) → Called (SnapshotOp wait) old left answer → HasWhole left
answered_whole wait old left some_left (Ok reply) e called =
    let some_ran : 1 ≤ length (ran_items old.config (SnapshotOp wait) called.trace old.items) =
    subst (λ (s : SeatedTask). 1 ≤ length s.items) called.after some_left in
    let some_there = some_before old.config (SnapshotOp wait) called.trace old.items some_ran in
    let taken = has_taken wait old left reply some_there called in
    (taken.seen, taken.shows, taken.moment.moment.sound, taken.moment.moment.clean)
answered_whole wait old left some_left (Err refusal) e called = absurd cc

-- and it was not refused at its beginning
begun_whole : (wait : Bool) (old left : SeatedTask) → 1 ≤ length left.items → Performs (SnapshotOp wait) old left (Ok tt) →
    (r : Option GateError) → refusal_at (SnapshotOp wait) old ≡ r → HasWhole left
begun_whole wait old left some_left did None e =
    let done = did.done e in answered_whole wait old left some_left done.0 done.1 done.2
begun_whole wait old left some_left did (Some refusal) e =
    let is : ◌≡◌ {A = Result (Unit {0}) GateError} (Ok tt) (Err refusal) = (did.refused refusal e).0 in absurd cc

-- so a call of a snapshot that was done has taken one that is sound and clean
pub took_whole : (wait : Bool) (old left : SeatedTask) → 1 ≤ length left.items → Performs (SnapshotOp wait) old left (Ok tt) →
    HasWhole left
took_whole wait old left some_left did = begun_whole wait old left some_left did (refusal_at (SnapshotOp wait) old) refl
