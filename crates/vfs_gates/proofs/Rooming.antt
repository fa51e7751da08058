-- What the room for snapshots tells of a task, as its operation begins and goes on.
use Rattle.vfs_gates.proofs.Prelude.{Action, Bool, BufferWords, BuffersMatch, Called, Config, DealtNumbers, Done, Entry, Event, GateError}
use Rattle.vfs_gates.proofs.Prelude.{GhostAgrees, Go, HookAnswer, List, Next, None, Numbered, Op, OpUnderWay, Option, Phase, Reply, Result}
use Rattle.vfs_gates.proofs.Prelude.{SeatedTask, Some, Stepped, TableId, TaskState, Traced, TreeWords, Trees, View, Wait, [], after_of, ap, arith}
use Rattle.vfs_gates.proofs.Prelude.{completed_by, deal, done_by, event_of, false, first_items, first_phase, found_by, given_of, items_after}
use Rattle.vfs_gates.proofs.Prelude.{items_at, kept_of, last_snapshot, length, map_next, next_of, option_map, own_number, own_view, phase_after}
use Rattle.vfs_gates.proofs.Prelude.{ran_items, ran_snapshot, refl, state_of_trace, subst, suc, sym, task_state, trace_state_after, true≢false, zero}
use Rattle.vfs_gates.proofs.Prelude.{ℕ, ◌++◌, ◌∙◌, ◌∷◌, ◌≡◌, ◌≤◌}
use Rattle.gate_steps.specs.{Seating.knows, call_events.{Step.Step, Turns.step_was}}
use Rattle.gate_world.specs.declared.{views.Snapshot.Snapshot as Noted, work.Phase.TheVariants.{Callbacks, Closes, DownReads, Freezes, Mounts}}
use Rattle.gate_world.specs.{declared.work.Phase.TheVariants.{Remounts, Thaws, UpReads, Writes}, traces.Snapshots.completes}
use Rattle.gated_tree.specs.declared.phases.TreePhase.TheVariants.{ClearMarks as TreeClears, Create as Creates, Grow as Grows, Mark as TreeMarks}
use Rattle.gated_tree.specs.declared.phases.TreePhase.TheVariants.{MoveTo as Moves, OpenFile as OpensOne, Remove as Removes, Snapshot as Snapshots}
use Rattle.gated_tree.specs.declared.{phases.TreePhase.TreePhase, snapshots.Snapshot.Snapshot as Taking}
use Rattle.percpu_rwsem.specs.Readers.{up_read_after}
use Rattle.vfs_gates.proofs.Calling.{Call, Left, ended_at, goes_at, idle, own_is}
use Rattle.vfs_gates.specs.Buffers.{HasSnapshotRoom, LastTells, NextTells, is_of_snapshot, last_in, trace_so_far}

-- what comes next is none
abbrev pub NextIsOther : Next Phase → Type 0
NextIsOther (Go phase) = is_of_snapshot phase ≡ false
NextIsOther (Wait phase) = is_of_snapshot phase ≡ false
NextIsOther (Done answer) = Unit {0}

-- so it is of a layer whose phases are none
other_next : {P : Type 0} (to : P → Phase) → ((p : P) → is_of_snapshot (to p) ≡ false) → (n : Next P) → NextIsOther (map_next to n)
other_next to none (Go p) = none p
other_next to none (Wait p) = none p
other_next to none (Done answer) = tt

-- and of calls at the tree
other_call : {P : Type 0} (to : P → TreePhase) → ((p : P) → is_of_snapshot (Trees (to p)) ≡ false) → (n : Next P) →
    NextIsOther (map_next Trees (map_next to n))
other_call to none (Go p) = none p
other_call to none (Wait p) = none p
other_call to none (Done answer) = tt

-- an operation that is no snapshot stays none
pub goes_on_other : (phase : Phase) (found : ℕ) (hook : HookAnswer) → is_of_snapshot phase ≡ false → NextIsOther (after_of phase found hook).0
goes_on_other (Mounts x) found hook h = other_next Mounts (λ p. refl) _
goes_on_other (Remounts x) found hook h = other_next Remounts (λ p. refl) _
goes_on_other (DownReads x) found hook h = other_next DownReads (λ p. refl) _
goes_on_other (UpReads x) found hook h = other_next UpReads (λ p. refl) (up_read_after x).0
goes_on_other (Callbacks x) found hook h = other_next Callbacks (λ p. refl) _
goes_on_other (Writes x) found hook h = other_next Writes (λ p. refl) _
goes_on_other (Freezes x) found hook h = other_next Freezes (λ p. refl) _
goes_on_other (Thaws x) found hook h = other_next Thaws (λ p. refl) _
goes_on_other (Trees (Creates x)) found hook h = other_call Creates (λ p. refl) _
goes_on_other (Trees (Removes x)) found hook h = other_call Removes (λ p. refl) _
goes_on_other (Trees (Grows x)) found hook h = other_call Grows (λ p. refl) _
goes_on_other (Trees (Moves x)) found hook h = other_call Moves (λ p. refl) _
goes_on_other (Trees (TreeMarks x)) found hook h = other_call TreeMarks (λ p. refl) _
goes_on_other (Trees (OpensOne x)) found hook h = other_call OpensOne (λ p. refl) _
goes_on_other (Trees (Snapshots x)) found hook h = absurd (true≢false h)
goes_on_other (Trees (TreeClears x)) found hook h = other_call TreeClears (λ p. refl) _
goes_on_other (Closes x) found hook h = other_next Closes (λ p. refl) _

-- its room has nothing to tell of what it has loaded
pub other_tells : (nodes : ℕ) (r : BufferWords) (trace : List Traced) (phase : Phase) → is_of_snapshot phase ≡ false → NextTells nodes r trace (Some phase)
other_tells nodes r trace phase h = grind arith

pub next_tells : (nodes : ℕ) (r : BufferWords) (trace : List Traced) (n : Next Phase) → NextIsOther n → NextTells nodes r trace (phase_after n)
next_tells nodes r trace n h = grind (arith, other_tells)

-- nor does it complete one
pub other_completes : (phase : Phase) (trace : List Traced) (found : ℕ) → is_of_snapshot phase ≡ false → completes phase trace found ≡ None
other_completes phase trace found h = grind arith

-- an operation that is no snapshot, as far as it has come
completed_other : (n : Next Phase) (earlier : List Traced) (e : Traced) → NextIsOther n → completed_by n earlier e ≡ None
completed_other n earlier e h = grind (arith, other_completes)

course_other : (n : Next Phase) (added : List Action) (e : Traced) → NextIsOther n → NextIsOther (trace_state_after n added e).comes
course_other (Go phase) added e h = goes_on_other phase e.event.found e.hook h
course_other (Wait phase) added e h = goes_on_other phase e.event.found e.hook h
course_other (Done answer) added e h = tt

module _ (c : Config) (t : ℕ) (op : Op) (other : is_of_snapshot (first_phase c t op) ≡ false) where
  -- it stays none
  stays_other : (trace : List Traced) → NextIsOther (state_of_trace c t op trace).comes
  stays_other [] = other
  stays_other (e ∷ earlier) = course_other (state_of_trace c t op earlier).comes (state_of_trace c t op earlier).added e (stays_other earlier)

  -- and leaves the last snapshot
  ran_other : (others : List (ℕ × ℕ)) (trace : List Traced) (v : View) → ran_snapshot c t op others trace v ≡ v.snapshot
  ran_other others [] v = refl
  ran_other others (e ∷ earlier) v =
      ap (λ taken. last_snapshot taken ((state_of_trace c t op earlier).added ++ v.actions) others (ran_snapshot c t op others earlier v))
      (completed_other (state_of_trace c t op earlier).comes earlier e (stays_other earlier)) ∙ ran_other others earlier v

-- of a task's numbers
items_other : (c : Config) (op : Op) (items : DealtNumbers) → is_of_snapshot (first_phase c (own_number items) op) ≡ false →
    (trace : List Traced) → (own_view (ran_items c op trace items)).snapshot ≡ (own_view items).snapshot
items_other c op [] other trace = refl
items_other c op (x ∷ xs) other trace = ran_other c x.number op other (done_by xs) trace x.view

items_at_other : (c : Config) (op : Op) (items : DealtNumbers) → is_of_snapshot (first_phase c (own_number items) op) ≡ false →
    (trace : List Traced) → (own_view (items_at c op trace items)).snapshot ≡ (own_view items).snapshot
items_at_other c op items other [] = refl
items_at_other c op items other (e ∷ earlier) = items_other c op items other (e ∷ earlier)

-- so the room tells of a task whose operation goes on
goes_room : (nodes : ℕ) (r : BufferWords) (op : Op) (start now : SeatedTask) (begins left : Option Op) (phase : Option Phase) →
    is_of_snapshot (first_phase start.config (own_number start.items) op) ≡ false → OpUnderWay op start now →
    BuffersMatch nodes r begins phase start.items → BuffersMatch nodes r left now.phase now.items
goes_room nodes r op start now begins left phase other goes h = record {
  room = h.room;
  last = subst (LastTells r)
      (sym (ap (λ (l : DealtNumbers). (own_view l).snapshot) goes.items ∙ items_at_other start.config op start.items other goes.trace)) h.last;
  next = subst (NextTells nodes r (trace_so_far left (own_view now.items))) (sym goes.phase)
      (next_tells nodes r (trace_so_far left (own_view now.items)) (state_of_trace start.config (own_number start.items) op goes.trace).comes
      (stays_other start.config (own_number start.items) op other goes.trace));
}

-- and of one whose operation was done
called_room : (nodes : ℕ) (r : BufferWords) (op : Op) (start now : SeatedTask) (answer : Result Reply GateError) (begins left : Option Op)
    (phase stands : Option Phase) → is_of_snapshot (first_phase start.config (own_number start.items) op) ≡ false →
    Called op start now answer → stands ≡ None → BuffersMatch nodes r begins phase start.items → BuffersMatch nodes r left stands now.items
called_room nodes r op start now answer begins left phase stands other called none h = record {
  room = h.room;
  last = subst (LastTells r)
      (sym (ap (λ (s : SeatedTask). (own_view s.items).snapshot) called.after ∙
      items_other start.config op start.items other called.trace)) h.last;
  next = subst (NextTells nodes r (trace_so_far left (own_view now.items))) (sym none) tt;
}

-- an operation that begins has loaded nothing yet
begun_tells : (config : Config) (t : ℕ) (r : BufferWords) (trace : List Traced) (op : Op) →
    NextTells config.nodes r trace (Some (first_phase config t op))
begun_tells config t r trace op = grind arith

-- so as a task begins an operation, its room tells of the operation's first phase
pub begun_in : (call : Call) (r : BufferWords) (begins : Option Op) (phase : Option Phase) →
    BuffersMatch call.task.config.nodes r begins phase call.task.seat.me.0.items →
    BuffersMatch call.task.config.nodes r (Some call.op) (Some call.first) call.task.seat.me.0.items
begun_in call r begins phase h =
    subst (λ (p : Phase). BuffersMatch call.task.config.nodes r (Some call.op) (Some p) call.task.seat.me.0.items) (sym call.first_is)
    (record { room = h.room; last = h.last; next = begun_tells call.task.config call.task.number r [] call.op })

-- of a call that does its steps in a line
module _ (call : Call) (r : BufferWords) (other : is_of_snapshot call.first ≡ false)
    (h : BuffersMatch call.task.config.nodes r call.task.begins call.task.state.phase call.task.seat.me.0.items) where
  other_start : is_of_snapshot (first_phase call.start.config (own_number call.start.items) call.op) ≡ false
  other_start =
      sym (ap (λ (s : SeatedTask). is_of_snapshot (first_phase s.config (own_number s.items) call.op)) call.start_is) ∙
      (ap (λ n. is_of_snapshot (first_phase call.task.config n call.op)) (own_is call) ∙ (sym (ap is_of_snapshot call.first_is) ∙ other))

  start_room : BuffersMatch call.task.config.nodes r call.task.begins call.task.state.phase call.start.items
  start_room = subst (λ (s : SeatedTask). BuffersMatch call.task.config.nodes r call.task.begins call.task.state.phase s.items) call.start_is h

  -- it goes on at this phase
  pub room_at : (left : Left call) (phase : Phase) → phase_after left.next ≡ Some phase →
      BuffersMatch call.task.config.nodes r call.task.begins (Some phase) left.known.items
  room_at left phase is =
      goes_room call.task.config.nodes r call.op call.start _ call.task.begins call.task.begins call.task.state.phase other_start
      (goes_at call left phase is) start_room

  -- or was done
  pub room_done : (left : Left call) (answer : Result Reply GateError) → left.next ≡ Done answer →
      BuffersMatch call.task.config.nodes r call.task.begins call.task.state.phase left.known.items
  room_done left answer is =
      called_room call.task.config.nodes r call.op call.start _ answer call.task.begins call.task.begins call.task.state.phase
      call.task.state.phase other_start (ended_at call left answer is) (idle call) start_room

-- what the room tells follows a step that found this
abbrev pub FollowsBy : BufferWords → BufferWords → Event → Phase → ℕ → Option Op → HookAnswer → ℕ → DealtNumbers → Type 0
FollowsBy r left event phase nodes begins hook found items =
    1 ≤ length items → event ≡ event_of (next_of phase hook).0 (next_of phase hook).1 found → BuffersMatch nodes r begins (Some phase) items →
    BuffersMatch nodes left None (phase_after (after_of phase event.found hook).0) (items_after begins phase hook found items)

-- a step of a task, which follows the room
pub stepped_room : {seen gone : List (List Entry)} (nodes : ℕ) (r left : BufferWords) (begins : Option Op) (phase : Phase) (hook : HookAnswer) (table table_left : TableId)
    (c : Config) (items items_left : DealtNumbers) (event : Event) (action : Option Action) (next : Next Phase) (number : ℕ) (state : TaskState)
    (flags : List Bool) → GhostAgrees number c begins state flags items →
    Stepped phase hook (task_state table c begins (Some phase) (knows items seen)) (step_was event action next)
    (task_state table_left c None (phase_after next) (knows items_left gone)) → BuffersMatch nodes r begins (Some phase) items →
    ((found : ℕ) → 1 ≤ length items → event ≡ event_of (next_of phase hook).0 (next_of phase hook).1 found →
    BuffersMatch nodes r begins (Some phase) items →
    BuffersMatch nodes left None (phase_after (after_of phase event.found hook).0) (items_after begins phase hook found items)) →
    BuffersMatch nodes left None (phase_after next) items_left
stepped_room nodes r left begins phase hook table table_left c [] items_left event action next number state flags ghost_agrees stepped h follows =
    absurd ghost_agrees
stepped_room nodes r left begins phase hook table table_left c (x ∷ xs) items_left event action next number state flags ghost_agrees stepped h follows =
    let same_event : Some event ≡ Some (event_of (next_of phase hook).0 (next_of phase hook).1 stepped.found) =
    ap (λ (s : Step). s.event) stepped.step in
    let is : event ≡ event_of (next_of phase hook).0 (next_of phase hook).1 stepped.found = cc in
    let stands : phase_after next ≡ phase_after (after_of phase event.found hook).0 =
    ap (λ (s : SeatedTask). s.phase) stepped.new ∙ ap (λ (e : Event). phase_after (after_of phase e.found hook).0) (sym is) in
    let there : items_left ≡ items_after begins phase hook stepped.found (x ∷ xs) = ap (λ (s : SeatedTask). s.items) stepped.new in
    let P : Option Phase × DealtNumbers → Type 0 = λ z. BuffersMatch nodes left None z.0 z.1 in
    subst P (λ i. (sym stands i, sym there i)) (follows stepped.found (omega arith) is h)

-- a phase that is no call at the tree, and a call that is no snapshot
pub not_tree : (phase : Phase) → ((x : TreePhase) → phase ≡ Trees x → ⊥) → is_of_snapshot phase ≡ false
not_tree phase not = grind arith

pub not_snapshot : (call : TreePhase) → ((x : Taking) → call ≡ Snapshots x → ⊥) → is_of_snapshot (Trees call) ≡ false
not_snapshot call not = grind arith

-- a step of an operation that is no snapshot leaves the last snapshot
leaves_last : (begins : Option Op) (phase : Phase) (hook : HookAnswer) (found : ℕ) (x : Numbered) (xs : DealtNumbers) → is_of_snapshot phase ≡ false →
    (own_view (items_after begins phase hook found (x ∷ xs))).snapshot ≡ x.view.snapshot
leaves_last None phase hook found x xs other =
    ap (λ taken. last_snapshot taken x.view.actions (done_by xs) x.view.snapshot)
    (other_completes phase x.view.trace (found_by (next_of phase hook).1 found) other)
leaves_last (Some op) phase hook found x xs other =
    ap (λ taken. last_snapshot taken x.view.actions (done_by xs) x.view.snapshot)
    (other_completes phase [] (found_by (next_of phase hook).1 found) other)

-- so the room stays as it is
pub follows_other : (r : BufferWords) (phase : Phase) (found_there : ℕ) → is_of_snapshot phase ≡ false → (nodes : ℕ) (begins : Option Op)
    (hook : HookAnswer) (found : ℕ) (items : DealtNumbers) → 1 ≤ length items → BuffersMatch nodes r begins (Some phase) items →
    BuffersMatch nodes r None (phase_after (after_of phase found_there hook).0) (items_after begins phase hook found items)
follows_other r phase found_there other nodes begins hook found [] there h = absurd (omega arith)
follows_other r phase found_there other nodes begins hook found (x ∷ xs) there h = record {
  room = h.room;
  last = subst (LastTells r) (sym (leaves_last begins phase hook found x xs other)) h.last;
  next = next_tells nodes r (trace_so_far None (own_view (items_after begins phase hook found (x ∷ xs)))) (after_of phase found_there hook).0
      (goes_on_other phase found_there hook other);
}

-- a room that has nothing yet, of a task that has none
pub room_new : (nodes : ℕ) (r : BufferWords) (begins : Option Op) (phase : Option Phase) (items : DealtNumbers) → HasSnapshotRoom nodes r →
    r.taken ≡ false → (own_view items).snapshot ≡ None → phase ≡ None → BuffersMatch nodes r begins phase items
room_new nodes r begins phase items room taken none idle = record {
  room = room;
  last = subst (LastTells r) (sym none) taken;
  next = subst (NextTells nodes r (trace_so_far begins (own_view items))) (sym idle) tt;
}

-- a task whose own view is the same
pub room_same : (nodes : ℕ) (r : BufferWords) (begins : Option Op) (phase : Option Phase) (items items_left : DealtNumbers) →
    own_view items_left ≡ own_view items → BuffersMatch nodes r begins phase items → BuffersMatch nodes r begins phase items_left
room_same nodes r begins phase items items_left same h = record {
  room = h.room;
  last = subst (λ (v : View). LastTells r v.snapshot) (sym same) h.last;
  next = subst (λ (v : View). NextTells nodes r (trace_so_far begins v) phase) (sym same) h.next;
}

-- so it is where a number was given, or others were taken back
pub kept_view : (n : ℕ) (l : DealtNumbers) → own_view (kept_of n l) ≡ own_view l
kept_view n [] = refl
kept_view n (x ∷ xs) = refl

pub joined_view : (number : ℕ) (c : Config) (begins : Option Op) (state : TaskState) (flags : List Bool) (l k : DealtNumbers) →
    GhostAgrees number c begins state flags l → own_view (l ++ k) ≡ own_view l
joined_view number c begins state flags [] k ghost_agrees = absurd ghost_agrees
joined_view number c begins state flags (x ∷ xs) k ghost_agrees = refl

-- a number that was given has no snapshot, nor has one that has done nothing
pub given_unseen : (n : ℕ) (l : DealtNumbers) → (own_view (given_of n l)).snapshot ≡ None
given_unseen n [] = refl
given_unseen n (x ∷ xs) = refl

dealt_unseen : (n k : ℕ) → (own_view (deal n k)).snapshot ≡ None
dealt_unseen n zero = refl
dealt_unseen n (suc k) = refl

pub first_unseen : (c : Config) → (own_view (first_items c)).snapshot ≡ None
first_unseen c = dealt_unseen 0 c.tasks

-- what the room shows is the view's last snapshot
pub shows_last : (r : BufferWords) (o : Option Noted) → LastTells r o → last_in r ≡ option_map (λ (s : Noted). s.loaded) o
shows_last r None h = rw h refl
shows_last r (Some s) h = rw h.0 (ap (λ (w : TreeWords). Some w) h.1)
