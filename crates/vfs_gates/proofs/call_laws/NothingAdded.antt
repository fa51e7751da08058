-- A call that was done and added nothing found at its last step that there was nothing to do.
use Rattle.vfs_gates.proofs.Prelude.{Action, AreMoves, Bool, Callback, Called, ChangeMount, Close, Config, DealtNumbers, Done, Entry, Err, Event}
use Rattle.vfs_gates.proofs.Prelude.{GateError, Go, HookAnswer, IsEventDuring, IsTrace, List, Next, Ok, Op, Phase, RemountSb, Reply, Result}
use Rattle.vfs_gates.proofs.Prelude.{SeatedTask, Some, Thaw, Traced, Wait, WordName, Words, World, [], actions_of, after_of, and_parts, ap}
use Rattle.vfs_gates.proofs.Prelude.{append_cancel_right, arith, at_snapshot, cases_Bool, eqb_tells, false, false≢true, first_phase, found_sealed}
use Rattle.vfs_gates.proofs.Prelude.{has_flag, held_of, inl, inr, is_load, is_some, next_of, not, own_actions, phase_after, read, refl, shown}
use Rattle.vfs_gates.proofs.Prelude.{state_of_trace, subst, suc, sym, trace_state_after, true, unpacked, whole_rule, world_after, ℕ, ◌&&◌, ◌+◌, ◌<◌}
use Rattle.vfs_gates.proofs.Prelude.{◌==◌, ◌∙◌, ◌∷◌, ◌≡◌, ◌⊎◌}
use Rattle.std.proofs.{Common.◌||◌, lemmas.Bool.eq-eqb}
use Rattle.access_model.specs.declared.replies.Reply.TheVariants.{Ran}
use Rattle.cpu_words.specs.declared.names.WordName.TheVariants.{MountFlags, SbFlags, Sync}
use Rattle.gate_schedules.proofs.{frames.Owners.no_remount, operations.change.Trace.change, schedules.HeadlineProof.whole_snapshots}
use Rattle.gate_schedules.proofs.traces.{Moments.or_true, TraceInvariant.event_at}
use Rattle.gate_steps.{proofs.call_events.{Running.course_is, Spanning.last_event}, specs.call_events.{SeatedTasks.own_number, Spans.HappensAfter}}
use Rattle.gate_world.specs.{Fits.Fits, Operations.first_snapshot, Owners.last_left, Rules.{AtMount, Fitting, IsGood, Known, Owner, Stages, owns}}
use Rattle.gate_world.specs.{Rules.remounts, Views.{actions_after, with_hook}, declared.operations.Op.TheVariants.{Create, Snapshot}}
use Rattle.gate_world.specs.traces.Found.{found_dropped, found_shared, none_queued, says_none_queued}
use Rattle.gate_world.specs.traces.{TraceStates.{IsEventOf, IsNext, TraceState, trace_state_with}, Traces.ReplyMatchesTrace}
use Rattle.gated_tree.specs.declared.{phases.TreePhase.TreePhase, snapshots.SnapshotStep.SnapshotStep}
use Rattle.mount_counts.{proofs.laws.Bits.read_only_clear, specs.{Roles.ro_bit, declared.phases.ChangeStep.ChangeStep}}
use Rattle.mount_counts.specs.declared.remounts.RemountStep.{RemountStep}
use Rattle.percpu_rwsem.specs.SyncWords.{unpack}
use Rattle.vfs_gates.proofs.{Holding.adds, several_tasks.{Enclosed.read_only_found, FrozenUntilThawed.load_finds}}
use Rattle.vfs_gates.specs.Found.{IsSo, WasSoDuring}

-- What is kept of a trace: it holds at the beginning, and each step keeps it.
module _ (At : List Traced → Phase → List Action → Type 0) (c : Config) (t : ℕ) (op : Op) where
  abbrev pub Says : List Traced → Next Phase → List Action → Type 0
  Says trace (Go phase) added = At trace phase added
  Says trace (Wait phase) added = At trace phase added
  Says trace (Done answer) added = Unit {0}

  -- what is said after a step of a phase
  abbrev pub SaysAfter : List Traced → List Action → Phase → Traced → Type 0
  SaysAfter earlier added phase e =
      Says (e ∷ earlier) (after_of phase e.event.found e.hook).0 (actions_after (after_of phase e.event.found e.hook).1 added)

  pub record IsKept : Type 0 where
    pub first : At [] (first_phase c t op) []
    pub more : (phase : Phase) (value : ℕ) (hook : HookAnswer) (earlier : List Traced) (added : List Action) → At earlier phase added →
        SaysAfter earlier added phase (with_hook (event_at phase value hook) hook)

  module _ (kept : IsKept) where
    event_keeps : (phase : Phase) (added : List Action) (e : Traced) (earlier : List Traced) → IsEventOf phase e → At earlier phase added →
        SaysAfter earlier added phase e
    event_keeps phase added e earlier next here =
        subst (SaysAfter earlier added phase) (sym (ap (λ (x : Event). with_hook x e.hook) next.1)) (kept.more phase next.0 e.hook earlier added here)

    next_keeps : (comes : Next Phase) (added : List Action) (e : Traced) (earlier : List Traced) → IsNext comes e → Says earlier comes added →
        Says (e ∷ earlier) (trace_state_after comes added e).comes (trace_state_after comes added e).added
    next_keeps (Go phase) added e earlier next here = event_keeps phase added e earlier next here
    next_keeps (Wait phase) added e earlier next here = event_keeps phase added e earlier next here
    next_keeps (Done answer) added e earlier next here = absurd next

    said : (trace : List Traced) → IsTrace c t op trace → Says trace (state_of_trace c t op trace).comes (state_of_trace c t op trace).added
    said [] follows = kept.first
    said (e ∷ earlier) follows =
        next_keeps (state_of_trace c t op earlier).comes (state_of_trace c t op earlier).added e earlier follows.0 (said earlier follows.1)

    at_phase : (comes : Next Phase) (trace : List Traced) (added : List Action) (phase : Phase) → phase_after comes ≡ Some phase →
        Says trace comes added → At trace phase added
    at_phase (Go here) trace added phase is h = let same : here ≡ phase = cc in subst (λ (p : Phase). At trace p added) same h
    at_phase (Wait here) trace added phase is h = let same : here ≡ phase = cc in subst (λ (p : Phase). At trace p added) same h
    at_phase (Done answer) trace added phase is h = absurd (let no : ⊥ = cc in no)

    -- so it holds where the operation stands
    pub holds_at : (trace : List Traced) (phase : Phase) → IsTrace c t op trace → phase_after (state_of_trace c t op trace).comes ≡ Some phase →
        At trace phase (state_of_trace c t op trace).added
    holds_at trace phase follows is =
        at_phase (state_of_trace c t op trace).comes trace (state_of_trace c t op trace).added phase is (said trace follows)

-- the newest step on the flags of a mount, since `umount` was taken, found them so, and left them
abbrev pub KnowsFlag : ℕ → Bool → List Traced → Type 0
KnowsFlag m set trace = (v : ℕ) × (last_left (MountFlags m) trace ≡ Some v) × (has_flag v 1 ≡ set)

-- the same of the superblock's
abbrev pub KnowsSb : Bool → List Traced → Type 0
KnowsSb set trace = (v : ℕ) × (last_left SbFlags trace ≡ Some v) × (not (v == 0) ≡ set)

-- a change that has nothing to do knows this
abbrev pub KnowsMount : ℕ → Bool → List Traced → Type 0
KnowsMount m true trace = KnowsFlag m true trace ⊎ KnowsSb true trace
KnowsMount m false trace = KnowsFlag m false trace × KnowsSb false trace

abbrev Answered : (List Action) → Result Reply GateError → Type 0 → Type 0
Answered added (Ok reply) Knows = added ≡ [] → Knows
Answered added (Err refusal) Knows = Unit {0}

-- what a change knows at a step
abbrev ChangeKnows : ℕ → Bool → ChangeStep → List Traced → List Action → Type 0
ChangeKnows m ro ChangeStep.LoadsSuperblock trace added = KnowsFlag m false trace
ChangeKnows m ro (ChangeStep.ClearsHold answer) trace added = Answered added answer ⊥
ChangeKnows m ro (ChangeStep.Releases answer) trace added = Answered added answer (KnowsMount m ro trace)
ChangeKnows m ro step trace added = Unit {0}

abbrev ChangeAt : Config → ℕ → ℕ → Bool → Bool → List Traced → Phase → List Action → Type 0
ChangeAt c t m ro wait trace phase added = (step : ChangeStep) × (phase ≡ change c t m ro wait step) × ChangeKnows m ro step trace added

module _ (c : Config) (t m : ℕ) (ro wait : Bool) (value : ℕ) (hook : HookAnswer) (earlier : List Traced) (added : List Action) where
  abbrev ChangeAfter : ChangeStep → Type 0
  ChangeAfter step = SaysAfter (ChangeAt c t m ro wait) c t (ChangeMount m ro wait) earlier added (change c t m ro wait step)
      (with_hook (event_at (change c t m ro wait step) value hook) hook)

  change_locks : ChangeAfter ChangeStep.Locks
  change_locks = grind arith

  change_loads : ChangeAfter ChangeStep.LoadsFlags
  change_loads = grind arith

  change_asks : KnowsFlag m false earlier → ChangeAfter ChangeStep.LoadsSuperblock
  change_asks h = grind arith

  change_event : (step : ChangeStep) → ChangeKnows m ro step earlier added → ChangeAfter step
  change_event ChangeStep.Locks h = change_locks
  change_event ChangeStep.LoadsFlags h = change_loads
  change_event ChangeStep.LoadsSuperblock h = change_asks h
  change_event ChangeStep.ClearsReadOnly h = (ChangeStep.Releases (Ok Reply.Unit), refl, λ none. absurd (let no : ⊥ = cc in no))
  change_event ChangeStep.SetsHold h = (ChangeStep.Sums record { words = 0; total = 0 }, refl, tt)
  change_event (ChangeStep.Sums sum) h = grind arith
  change_event ChangeStep.SetsReadOnly h = (ChangeStep.ClearsHold (Ok Reply.Unit), refl, λ none. let no : ⊥ = cc in no)
  change_event (ChangeStep.ClearsHold (Ok reply)) h = (ChangeStep.Releases (Ok reply), refl, λ none. absurd (h none))
  change_event (ChangeStep.ClearsHold (Err refusal)) h = (ChangeStep.Releases (Err refusal), refl, tt)
  change_event (ChangeStep.Releases answer) h = tt

change_kept : (c : Config) (t m : ℕ) (ro wait : Bool) → IsKept (ChangeAt c t m ro wait) c t (ChangeMount m ro wait)
change_kept c t m ro wait = record {
  first = (ChangeStep.Locks, refl, tt);
  more = λ phase value hook earlier added here.
      subst (λ (x : Phase). SaysAfter (ChangeAt c t m ro wait) c t (ChangeMount m ro wait) earlier added x (with_hook (event_at x value hook) hook)) (sym here.1)
      (change_event c t m ro wait value hook earlier added here.0 here.2);
}

-- a change that is done with its next step, and has added nothing, is at its release
change_ends : (c : Config) (t m : ℕ) (ro wait : Bool) (step : ChangeStep) (found : ℕ) (hook : HookAnswer) (trace : List Traced) (added : List Action)
    (reply : Reply) → (after_of (change c t m ro wait step) found hook).0 ≡ Done (Ok reply) →
    actions_after (after_of (change c t m ro wait step) found hook).1 added ≡ [] → ChangeKnows m ro step trace added →
    KnowsMount m ro trace × (owns (Some (change c t m ro wait step)) ≡ 1)
change_ends c t m ro wait step found hook trace added reply ends none h = grind arith

-- what a remount knows at a step
abbrev RemountKnows : Bool → RemountStep → List Traced → List Action → Type 0
RemountKnows ro (RemountStep.ClearsHold held) trace added = added ≡ [] → ⊥
RemountKnows ro (RemountStep.ClearsMark n) trace added = added ≡ [] → ⊥
RemountKnows ro RemountStep.SetsReadOnly trace added = added ≡ [] → ⊥
RemountKnows ro RemountStep.ClearsRemount trace added = added ≡ [] → ⊥
RemountKnows ro (RemountStep.Releases answer) trace added = Answered added answer (KnowsSb ro trace)
RemountKnows ro step trace added = Unit {0}

abbrev remount : Config → ℕ → Bool → RemountStep → Phase
remount c t ro step = Phase.Remounts (record {
  read_only = ro;
  task = t;
  processors = c.processors;
  mounts = c.mounts;
  nodes = c.nodes;
  step = step;
})

abbrev RemountAt : Config → ℕ → Bool → List Traced → Phase → List Action → Type 0
RemountAt c t ro trace phase added = (step : RemountStep) × (phase ≡ remount c t ro step) × RemountKnows ro step trace added

module _ (c : Config) (t : ℕ) (ro : Bool) (value : ℕ) (hook : HookAnswer) (earlier : List Traced) (added : List Action) where
  abbrev RemountAfter : RemountStep → Type 0
  RemountAfter step = SaysAfter (RemountAt c t ro) c t (RemountSb ro) earlier added (remount c t ro step)
      (with_hook (event_at (remount c t ro step) value hook) hook)

  remount_event : (step : RemountStep) → RemountKnows ro step earlier added → RemountAfter step
  remount_event step h = grind arith

remount_kept : (c : Config) (t : ℕ) (ro : Bool) → IsKept (RemountAt c t ro) c t (RemountSb ro)
remount_kept c t ro = record {
  first = (RemountStep.Locks, refl, tt);
  more = λ phase value hook earlier added here.
      subst (λ (x : Phase). SaysAfter (RemountAt c t ro) c t (RemountSb ro) earlier added x (with_hook (event_at x value hook) hook)) (sym here.1)
      (remount_event c t ro value hook earlier added here.0 here.2);
}

remount_ends : (c : Config) (t : ℕ) (ro : Bool) (step : RemountStep) (found : ℕ) (hook : HookAnswer) (trace : List Traced) (added : List Action)
    (reply : Reply) → (after_of (remount c t ro step) found hook).0 ≡ Done (Ok reply) →
    actions_after (after_of (remount c t ro step) found hook).1 added ≡ [] → RemountKnows ro step trace added →
    KnowsSb ro trace × (owns (Some (remount c t ro step)) ≡ 1) × (remounts (Some (remount c t ro step)) ≡ 0)
remount_ends c t ro step found hook trace added reply ends none h = grind arith

-- a snapshot stays one
abbrev snapshot : Config → ℕ → Bool → SnapshotStep → Phase
snapshot c t wait step = Phase.Trees (TreePhase.Snapshot (at_snapshot (first_snapshot c t wait) step))

abbrev SnapshotAt : Config → ℕ → Bool → List Traced → Phase → List Action → Type 0
SnapshotAt c t wait trace phase added = (step : SnapshotStep) × (phase ≡ snapshot c t wait step)

module _ (c : Config) (t : ℕ) (wait : Bool) (value : ℕ) (hook : HookAnswer) (earlier : List Traced) (added : List Action) where
  abbrev SnapshotAfter : SnapshotStep → Type 0
  SnapshotAfter step = SaysAfter (SnapshotAt c t wait) c t (Snapshot wait) earlier added (snapshot c t wait step)
      (with_hook (event_at (snapshot c t wait step) value hook) hook)

  snapshot_locks : SnapshotAfter SnapshotStep.Locks
  snapshot_locks = grind arith

  snapshot_stage : SnapshotAfter SnapshotStep.LoadsStage
  snapshot_stage = grind arith

  snapshot_node : (node : ℕ) → SnapshotAfter (SnapshotStep.LoadsNode node)
  snapshot_node node = grind arith

  snapshot_kids : (node : ℕ) → SnapshotAfter (SnapshotStep.LoadsKids node)
  snapshot_kids node = grind arith

  snapshot_event : (step : SnapshotStep) → SnapshotAfter step
  snapshot_event SnapshotStep.Locks = snapshot_locks
  snapshot_event SnapshotStep.LoadsStage = snapshot_stage
  snapshot_event SnapshotStep.LoadsUsed = (SnapshotStep.LoadsNode 0, refl)
  snapshot_event (SnapshotStep.LoadsNode node) = snapshot_node node
  snapshot_event (SnapshotStep.LoadsKids node) = snapshot_kids node
  snapshot_event (SnapshotStep.Releases answer) = tt

snapshot_kept : (c : Config) (t : ℕ) (wait : Bool) → IsKept (SnapshotAt c t wait) c t (Snapshot wait)
snapshot_kept c t wait = record {
  first = (SnapshotStep.Locks, refl);
  more = λ phase value hook earlier added here.
      subst (λ (x : Phase). SaysAfter (SnapshotAt c t wait) c t (Snapshot wait) earlier added x (with_hook (event_at x value hook) hook)) (sym here.1)
      (snapshot_event c t wait value hook earlier added here.0);
}

snapshot_ends : (c : Config) (t : ℕ) (wait : Bool) (step : SnapshotStep) (found : ℕ) (hook : HookAnswer) (reply : Reply) →
    (after_of (snapshot c t wait step) found hook).0 ≡ Done (Ok reply) → step ≡ SnapshotStep.Releases (Ok reply)
snapshot_ends c t wait SnapshotStep.Locks found hook reply ends = grind arith
snapshot_ends c t wait SnapshotStep.LoadsStage found hook reply ends = grind arith
snapshot_ends c t wait SnapshotStep.LoadsUsed found hook reply ends = absurd (let no : ⊥ = cc in no)
snapshot_ends c t wait (SnapshotStep.LoadsNode node) found hook reply ends =
    elim (cases_Bool (is_some (unpacked found))) [
      | inl f ↦ let goes = rw f at ends in absurd (let no : ⊥ = cc in no)
      | inr f ↦ let goes = rw f at ends in absurd (let no : ⊥ = cc in no)
    ]
snapshot_ends c t wait (SnapshotStep.LoadsKids node) found hook reply ends = absurd (let no : ⊥ = cc in no)
snapshot_ends c t wait (SnapshotStep.Releases answer) found hook reply ends = let same : answer ≡ Ok reply = cc in ap SnapshotStep.Releases same

-- A state in which a step happens, of an operation that owns `umount` and has not set `remount`.
module _ (c : Config) (w : World) (good : IsGood c w) (t : ℕ) (lt : t < c.tasks) (trace : List Traced) (events : (w.views t).trace ≡ trace)
    (own : owns (w.views t).phase ≡ 1) (none : remounts (w.views t).phase ≡ 0) where
  still : (word : WordName) (v : ℕ) → last_left word trace ≡ Some v → read w.words word ≡ v
  still word v is = good Known t lt own word v (ap (last_left word) events ∙ is)

  no_remount_set : w.words.remount ≡ 0
  no_remount_set =
      let not_one : w.words.remount ≡ 1 → ⊥ = no_remount c w good t lt own none in
      omega (arith, not_one, (good Owner).bit)

  superblock_so : (set : Bool) → KnowsSb set trace → (shown c w).sb_ro ≡ set
  superblock_so true (v, is, set) =
      let there : w.words.sb ≡ v = still SbFlags v is in
      elim (eqb_tells v 0) [
        | inl zero_found ↦ absurd (false≢true (subst (λ b. not b ≡ true) zero_found.0 set))
        | inr nonzero ↦
            let one : w.words.sb ≡ 1 = omega (arith, there, nonzero.1, (good Stages).superblock) in
            ap (λ b. (w.words.remount == 1) || b) (eq-eqb w.words.sb 1 one) ∙ or_true (w.words.remount == 1)
      ]
  superblock_so false (v, is, set) =
      elim (eqb_tells v 0) [
        | inl zero_found ↦ let none_set : w.words.sb ≡ 0 = still SbFlags v is ∙ zero_found.1 in
            λ i. (no_remount_set i == 1) || (none_set i == 1)
        | inr nonzero ↦ absurd (false≢true (sym (subst (λ b. not b ≡ false) nonzero.0 set)))
      ]

  mount_so : (m : ℕ) (ro wait : Bool) (reply : Reply) → m < c.mounts → KnowsMount m ro trace → IsSo c (ChangeMount m ro wait) reply w
  mount_so m true wait reply lm (inl (v, is, set)) = read_only_found c w good m lm (MountFlags m) v (sym (still (MountFlags m) v is))
      (ap (λ b. b && has_flag v 1) (eq-eqb m m refl) ∙ set)
  mount_so m true wait reply lm (inr found) = inr (superblock_so true found)
  mount_so m false wait reply lm ((v, is, clear), (u, there, zero_found)) =
      let flags : w.words.flags m ≡ v = still (MountFlags m) v is in
      let off : ro_bit (w.words.flags m) ≡ 0 = read_only_clear (w.words.flags m) (good (AtMount m) lm).bits
      (ap (λ n. has_flag n 1) flags ∙ clear) in
      λ shut. elim shut [
        | inl own_flag ↦ false≢true (subst (λ n. (n == 1) ≡ true) off own_flag)
        | inr all ↦ false≢true (sym (superblock_so false (u, there, zero_found)) ∙ all)
      ]

-- a load that says that no callback is queued says so of the level's word
none_there : (words : Words) (i : ℕ) (word : WordName) (found : ℕ) → found ≡ read words word → says_none_queued i word found ≡ true →
    none_queued (unpack (words.sync i)) ≡ true
none_there words i (Sync j) found is says =
    let both = and_parts (j == i) (none_queued (unpack found)) says in
    elim (eqb_tells j i) [
      | inl same ↦ subst (λ n. none_queued (unpack n) ≡ true) (is ∙ ap words.sync same.1) both.1
      | inr other ↦ absurd (false≢true (sym other.0 ∙ both.0))
    ]
none_there words i word found is says = absurd (false≢true says)

some_first : (a : Action) (l : List Action) → a ∷ l ≡ [] → ⊥
some_first a l none = let no : ⊥ = cc in no

-- every operation but these four adds an action, if it is done
abbrev MayAddNothing : Op → Type 0
MayAddNothing (ChangeMount m ro wait) = Unit {0}
MayAddNothing (RemountSb ro) = Unit {0}
MayAddNothing (Callback i) = Unit {0}
MayAddNothing (Snapshot wait) = Unit {0}
MayAddNothing op = ⊥

adds_some : (op : Op) (reply : Reply) (trace : List Traced) → ReplyMatchesTrace op reply trace → actions_of op (Ok reply) trace ≡ [] → MayAddNothing op
adds_some (ChangeMount m ro wait) reply trace told none = tt
adds_some (RemountSb ro) reply trace told none = tt
adds_some (Callback i) reply trace told none = tt
adds_some (Snapshot wait) reply trace told none = tt
adds_some (Thaw holder) reply trace told none =
    elim (cases_Bool (found_shared holder trace)) [
      | inl f ↦ some_first _ _ (rw f at none)
      | inr f ↦ elim (cases_Bool (found_sealed trace)) [
        | inl g ↦ some_first _ _ (rw (f, g) at none)
        | inr g ↦ some_first _ _ (rw (f, g) at none)
      ]
    ]
adds_some (Create d kind) (Reply.Node m) trace told none = some_first _ _ none
adds_some (Create d kind) reply trace told none = absurd told
adds_some (Close file p wait) reply trace told none =
    elim (cases_Bool (found_dropped trace)) [ inl f ↦ some_first _ _ (rw f at none) | inr f ↦ some_first _ _ (rw f at none) ]
adds_some op reply trace told none = some_first _ _ none

-- The last step of a call, with which it is done, having added nothing.
module _ (c : Config) (items : DealtNumbers) (earlier : List Traced) (e : Traced) (seen gone : List (List Entry)) (reply : Reply) where
  abbrev n : ℕ
  n = own_number items

  -- the step ends the operation so, and no action is added until then
  abbrev EndsSo : (op : Op) → IsEventDuring c items op earlier e seen gone → Type 0
  EndsSo op during =
      let after = after_of during.happens.phase e.event.found e.hook in
      IsTrace c n op earlier × (after.0 ≡ Done (Ok reply)) × (actions_after after.1 (state_of_trace c n op earlier).added ≡ [])

  change_so : (m : ℕ) (ro wait : Bool) (during : IsEventDuring c items (ChangeMount m ro wait) earlier e seen gone) →
      EndsSo (ChangeMount m ro wait) during → IsSo c (ChangeMount m ro wait) reply (world_after c during.entries)
  change_so m ro wait during (follows, ends, none) =
      let op : Op = ChangeMount m ro wait in
      let h : HappensAfter c n op earlier e during.entries = during.happens in
      let w : World = world_after c during.entries in
      let good : IsGood c w = whole_rule c during.within during.entries in
      let added : List Action = (state_of_trace c n op earlier).added in
      let (step, is, knows) = holds_at (ChangeAt c n m ro wait) c n op (change_kept c n m ro wait) earlier h.phase follows h.comes in
      let phase : Phase = change c n m ro wait step in
      let last = change_ends c n m ro wait step e.event.found e.hook earlier added reply
      (subst (λ p. (after_of p e.event.found e.hook).0 ≡ Done (Ok reply)) is ends)
      (subst (λ p. actions_after (after_of p e.event.found e.hook).1 added ≡ []) is none) knows in
      let stands : (w.views n).phase ≡ Some phase = h.at ∙ ap Some is in
      let fits : Fits c n (held_of (w.views n)) (Some phase) = subst (Fits c n (held_of (w.views n))) stands (good Fitting n during.task) in
      mount_so c w good n during.task earlier h.events (ap owns stands ∙ last.1) (ap remounts stands) m ro wait reply fits.0 last.0

  remount_so : (ro : Bool) (during : IsEventDuring c items (RemountSb ro) earlier e seen gone) → EndsSo (RemountSb ro) during →
      (shown c (world_after c during.entries)).sb_ro ≡ ro
  remount_so ro during (follows, ends, none) =
      let op : Op = RemountSb ro in
      let h : HappensAfter c n op earlier e during.entries = during.happens in
      let w : World = world_after c during.entries in
      let good : IsGood c w = whole_rule c during.within during.entries in
      let added : List Action = (state_of_trace c n op earlier).added in
      let (step, is, knows) = holds_at (RemountAt c n ro) c n op (remount_kept c n ro) earlier h.phase follows h.comes in
      let last = remount_ends c n ro step e.event.found e.hook earlier added reply
      (subst (λ p. (after_of p e.event.found e.hook).0 ≡ Done (Ok reply)) is ends)
      (subst (λ p. actions_after (after_of p e.event.found e.hook).1 added ≡ []) is none) knows in
      let stands : (w.views n).phase ≡ Some (remount c n ro step) = h.at ∙ ap Some is in
      superblock_so c w good n during.task earlier h.events (ap owns stands ∙ last.1) (ap remounts stands ∙ last.2) ro last.0

  snapshot_so : (wait : Bool) (during : IsEventDuring c items (Snapshot wait) earlier e seen gone) → EndsSo (Snapshot wait) during →
      (world_after c during.entries).words.stage ≡ 4
  snapshot_so wait during (follows, ends, none) =
      let op : Op = Snapshot wait in
      let h : HappensAfter c n op earlier e during.entries = during.happens in
      let w : World = world_after c during.entries in
      let (step, is) = holds_at (SnapshotAt c n wait) c n op (snapshot_kept c n wait) earlier h.phase follows h.comes in
      let last : step ≡ SnapshotStep.Releases (Ok reply) = snapshot_ends c n wait step e.event.found e.hook reply
      (subst (λ p. (after_of p e.event.found e.hook).0 ≡ Done (Ok reply)) is ends) in
      let stands : (w.views n).phase ≡ Some (snapshot c n wait (SnapshotStep.Releases (Ok reply))) =
      h.at ∙ ap Some (is ∙ ap (snapshot c n wait) last) in
      (whole_snapshots c during.within during.entries n (at_snapshot (first_snapshot c n wait) (SnapshotStep.Releases (Ok reply)))
      (suc (c.nodes + c.nodes)) during.task stands refl).0

  callback_so : (i : ℕ) (r : Reply) (during : IsEventDuring c items (Callback i) earlier e seen gone) →
      ReplyMatchesTrace (Callback i) r (e ∷ earlier) → IsSo c (Callback i) r (world_after c during.entries)
  callback_so i (Ran false) during told =
      let words : Words = (world_after c during.entries).words in
      let both = and_parts (is_load e.event.touch) (says_none_queued i e.event.word e.event.found) told.1 in
      none_there words i e.event.word e.event.found
      (load_finds words (next_of during.happens.phase e.hook) e.event (ap (λ (x : Traced). x.event) during.happens.finds) both.0) both.1
  callback_so i r during told = tt

  -- every other operation that is done adds an action
  pub is_so : (op : Op) (during : IsEventDuring c items op earlier e seen gone) → EndsSo op during → ReplyMatchesTrace op reply (e ∷ earlier) →
      actions_of op (Ok reply) (e ∷ earlier) ≡ [] → IsSo c op reply (world_after c during.entries)
  is_so (ChangeMount m true wait) during ends told none = change_so m true wait during ends
  is_so (ChangeMount m false wait) during ends told none = change_so m false wait during ends
  is_so (RemountSb ro) during ends told none = remount_so ro during ends
  is_so (Callback i) during ends told none = callback_so i reply during told
  is_so (Snapshot wait) during ends told none = snapshot_so wait during ends
  is_so op during ends told none = absurd (adds_some op reply (e ∷ earlier) told none)

module _ (op : Op) (old left : SeatedTask) (reply : Reply) (called : Called op old left (Ok reply)) (same : own_actions left ≡ own_actions old) where
  abbrev answer : Result Reply GateError
  answer = Ok reply

  none_added : actions_of op answer called.trace ≡ []
  none_added = append_cancel_right (actions_of op answer called.trace) [] (own_actions old) (sym (adds op old left answer called) ∙ same)

  by_trace : (trace : List Traced) → IsTrace old.config (own_number old.items) op trace →
      (state_of_trace old.config (own_number old.items) op trace).comes ≡ Done answer →
      (state_of_trace old.config (own_number old.items) op trace).added ≡ actions_of op answer trace →
      AreMoves old.config op old.items old.seen trace left.seen → ReplyMatchesTrace op reply trace → actions_of op answer trace ≡ [] →
      WasSoDuring old.config old.items op reply old.seen left.seen
  by_trace [] follows ends added moves told none = absurd (let no : ⊥ = cc in no)
  by_trace (e ∷ earlier) follows ends added moves told none =
      let c : Config = old.config in
      let n : ℕ = own_number old.items in
      let (during, returns) = last_event c op old.items old.seen left.seen e earlier moves in
      let so_far : TraceState = state_of_trace c n op earlier in
      let course : trace_state_after so_far.comes so_far.added e ≡ trace_state_with so_far.added (after_of during.happens.phase e.event.found e.hook) =
      course_is so_far.comes during.happens.phase so_far.added e during.happens.comes in
      record {
        earlier = earlier;
        last = e;
        during = during;
        returns = returns;
        so = is_so c old.items earlier e old.seen left.seen reply op during
            (follows.1, sym (ap (λ (s : TraceState). s.comes) course) ∙ ends, sym (ap (λ (s : TraceState). s.added) course) ∙ (added ∙ none)) told none;
      }

  -- so it was so at its last step
  pub was_so : WasSoDuring old.config old.items op reply old.seen left.seen
  was_so = by_trace called.trace called.follows called.ends called.added called.moves called.honest none_added
