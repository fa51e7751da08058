-- The room for snapshots follows a step of a snapshot: what the step has loaded is noted there.
use Rattle.vfs_gates.proofs.Prelude.{Bool, BufferWords, BuffersMatch, DealtNumbers, Done, Err, Event, Go, HookAnswer, List, LoadsKids, LoadsNode}
use Rattle.vfs_gates.proofs.Prelude.{LoadsStage, LoadsUsed, Locks, Next, None, Numbered, Op, Option, Phase, Releases, Some, Traced, TreeWords, Trees}
use Rattle.vfs_gates.proofs.Prelude.{Wait, WordName, [], after_of, ap, arith, at_snapshot, cases_Bool, completed, done_by, event_of, false}
use Rattle.vfs_gates.proofs.Prelude.{if◌then◌else◌, inl, inr, is_load, is_some, items_after, last_snapshot, length, map_next, next_of, not, own_view}
use Rattle.vfs_gates.proofs.Prelude.{phase_after, refl, subst, suc, sym, true, unpacked, with_words, zero, ℕ, ◌+◌, ◌==◌, ◌∙◌, ◌∷◌, ◌≡◌, ◌≤◌}
use Rattle.std.proofs.{Common.{add-one, slice_set as set, take}, lemmas.{Bool.Decides.nat_tests, Grind.common_steps}}
use Rattle.std.proofs.lemmas.List.{length-replicate, length-set, take-set, take_all}
use Rattle.{access_model.specs.declared.errors.GateError.TheVariants.{Again, Invalid}, cpu_words.specs.declared.names.WordName.TheVariants.Kids}
use Rattle.gate_steps.proofs.call_events.Asked.{either_way}
use Rattle.gate_world.specs.{declared.views.Snapshot.Snapshot as Noted, traces.Snapshots.{completes, loads_noted, noted_last}}
use Rattle.gated_tree.specs.{Phases.{kids_step, node_step}, Trees.loaded, declared.phases.TreePhase.TheVariants.Snapshot as Snapshots}
use Rattle.gated_tree.specs.declared.snapshots.{Snapshot.Snapshot as Taking, SnapshotStep.SnapshotStep}
use Rattle.node_words.specs.Nodes.{node_after}
use Rattle.vfs_gates.specs.Buffers.{HasNodes, IsSized, LastTells, NextTells, StepTells, after_noting, noted_in, trace_so_far}

-- what a step adds to the own view: itself, and the snapshot that it completes
trace_after : (begins : Option Op) (phase : Phase) (hook : HookAnswer) (found : ℕ) (x : Numbered) (xs : DealtNumbers) →
    (own_view (items_after begins phase hook found (x ∷ xs))).trace ≡
    record { event = event_of (next_of phase hook).0 (next_of phase hook).1 found; hook = hook } ∷ trace_so_far begins x.view
trace_after None phase hook found x xs = refl
trace_after (Some op) phase hook found x xs = refl

snapshot_after : (begins : Option Op) (phase : Phase) (hook : HookAnswer) (found : ℕ) (x : Numbered) (xs : DealtNumbers) →
    (own_view (items_after begins phase hook found (x ∷ xs))).snapshot ≡
    last_snapshot (completes phase (trace_so_far begins x.view) (event_of (next_of phase hook).0 (next_of phase hook).1 found).found)
    x.view.actions (done_by xs) x.view.snapshot
snapshot_after None phase hook found x xs = refl
snapshot_after (Some op) phase hook found x xs = refl

-- the same first elements, with one more that was set in both; and the same lists, where these are all
prefix_set : (n v : ℕ) (a b : List ℕ) → length a ≡ length b → take n a ≡ take n b → take (suc n) (set a n v) ≡ take (suc n) (set b n v)
prefix_set n v [] [] long same = refl
prefix_set n v [] (y ∷ b) long same = absurd (omega arith)
prefix_set n v (x ∷ a) [] long same = absurd (omega arith)
prefix_set zero v (x ∷ a) (y ∷ b) long same = refl
prefix_set (suc n) v (x ∷ a) (y ∷ b) long same =
    let t : take n a ≡ take n b = cc in
    let u : take (suc n) (set a n v) ≡ take (suc n) (set b n v) = prefix_set n v a b (omega arith) t in
    cc

prefix_more : (n v : ℕ) (a b : List ℕ) → length a ≡ length b → take n a ≡ take n b → take (n + 1) (set a n v) ≡ take (n + 1) (set b n v)
prefix_more n v a b long same = rw (add-one n) (prefix_set n v a b long same)

whole : (n v : ℕ) (a b : List ℕ) (nodes : ℕ) → length a ≡ nodes → length b ≡ nodes → nodes ≤ n + 1 → take n a ≡ take n b → set a n v ≡ set b n v
whole n v a b nodes long_a long_b few same =
    sym (take_all (n + 1) (set a n v) (omega (arith, length-set a n v))) ∙
    (prefix_more n v a b (long_a ∙ sym long_b) same ∙ take_all (n + 1) (set b n v) (omega (arith, length-set b n v)))

-- the node after this one, or none, among so many
after_is : (node nodes next : ℕ) → node_after node nodes ≡ Some next → next ≡ node + 1
after_is node nodes next is = grind (arith, nat_tests)

after_none : (node nodes : ℕ) → node_after node nodes ≡ None → nodes ≤ node + 1
after_none node nodes is = grind (arith, nat_tests)

-- what was loaded is of so many nodes
loaded_sized : (nodes : ℕ) (words : TreeWords) (name : WordName) (value : ℕ) → IsSized nodes words → IsSized nodes (loaded words name value)
loaded_sized nodes words name value sized = grind (arith, common_steps)

noted_sized : (nodes : ℕ) (trace : List Traced) → IsSized nodes (loads_noted nodes trace)
noted_sized nodes [] = (length-replicate {A = ℕ} nodes 0, length-replicate {A = ℕ} nodes 0)
noted_sized nodes (e ∷ earlier) =
    elim (cases_Bool (is_load e.event.touch)) [
      | inl h ↦ rw h (loaded_sized nodes (loads_noted nodes earlier) e.event.word e.event.found (noted_sized nodes earlier))
      | inr h ↦ rw h (noted_sized nodes earlier)
    ]

-- the last snapshot stays
last_same : (words : TreeWords) (r : BufferWords) (o : Option Noted) → LastTells r o → LastTells (with_words words r) o
last_same words r None h = h
last_same words r (Some s) h = h

abbrev Tells : ℕ → BufferWords → List Traced → Next Taking → Type 0
Tells nodes r trace n = NextTells nodes r trace (phase_after (map_next Trees (map_next Snapshots n)))

module _ (r : BufferWords) (nodes : ℕ) (begins : Option Op) (hook : HookAnswer) (found : ℕ) (x : Numbered) (xs : DealtNumbers) where
  -- a snapshot of so many nodes
  abbrev taking : Bool → ℕ → SnapshotStep → Taking
  taking wait task step = record { wait = wait; task = task; nodes = nodes; step = step }

  abbrev event_at : Taking → Event
  event_at s = event_of (next_of (Trees (Snapshots s)) hook).0 (next_of (Trees (Snapshots s)) hook).1 found

  abbrev trace_at : Taking → List Traced
  trace_at s = record { event = event_at s; hook = hook } ∷ trace_so_far begins x.view

  -- what has been loaded before, and the room after the step where the snapshot goes on
  abbrev before : TreeWords
  before = loads_noted nodes (trace_so_far begins x.view)

  abbrev left_at : Taking → BufferWords
  left_at s = with_words (noted_in r.next (event_at s)) r

  abbrev Matches : Taking → BufferWords → Option Phase → Type 0
  Matches s left phase = BuffersMatch nodes left None phase (items_after begins (Trees (Snapshots s)) hook found (x ∷ xs))

  abbrev comes_at : Taking → Option Phase
  comes_at s = phase_after (after_of (Trees (Snapshots s)) (event_at s).found hook).0

  -- a snapshot that goes on
  going : (s : Taking) → completes (Trees (Snapshots s)) (trace_so_far begins x.view) (event_at s).found ≡ None →
      IsSized nodes (noted_in r.next (event_at s)) → (phase : Option Phase) → NextTells nodes (left_at s) (trace_at s) phase →
      BuffersMatch nodes r begins (Some (Trees (Snapshots s))) (x ∷ xs) → Matches s (left_at s) phase
  going s none sized phase next h = record {
    room = (h.room.0, sized);
    last = subst (LastTells (left_at s))
        (sym (snapshot_after begins (Trees (Snapshots s)) hook found x xs ∙
        ap (λ o. last_snapshot o x.view.actions (done_by xs) x.view.snapshot) none))
        (last_same (noted_in r.next (event_at s)) r x.view.snapshot h.last);
    next = subst (λ trace. NextTells nodes (left_at s) trace phase) (sym (trace_after begins (Trees (Snapshots s)) hook found x xs)) next;
  }

  -- a node that was loaded is one more, or the last
  node_tells : (wait : Bool) (task node : ℕ) (o : Option ℕ) → node_after node nodes ≡ o → HasNodes node r.next before → IsSized nodes r.next →
      StepTells nodes (left_at (taking wait task (LoadsNode node))).next (trace_at (taking wait task (LoadsNode node))) (node_step o)
  node_tells wait task node (Some next) is h sized = (
    h.0,
    subst (λ k. take k (set r.next.nodes node found) ≡ take k (set before.nodes node found)) (sym (after_is node nodes next is))
        (prefix_more node found r.next.nodes before.nodes (sized.0 ∙ sym (noted_sized nodes (trace_so_far begins x.view)).0) h.1),
  )
  node_tells wait task node None is h sized =
      (h.0, whole node found r.next.nodes before.nodes nodes sized.0 (noted_sized nodes (trace_so_far begins x.view)).0 (after_none node nodes is) h.1, refl)

  -- the load of a node's children is its last one, after which it is complete, or isn't
  kids : (wait : Bool) (task node : ℕ) (o : Option ℕ) → node_after node nodes ≡ o →
      BuffersMatch nodes r begins (Some (Trees (Snapshots (taking wait task (LoadsKids node))))) (x ∷ xs) →
      Matches (taking wait task (LoadsKids node))
      (if not (is_some o) then completed (left_at (taking wait task (LoadsKids node))) else left_at (taking wait task (LoadsKids node)))
      (Some (Trees (Snapshots (taking wait task (kids_step o)))))
  kids wait task node (Some next) is h =
      let s : Taking = taking wait task (LoadsKids node) in
      let same : length r.next.kids ≡ length before.kids = h.room.1.1 ∙ sym (noted_sized nodes (trace_so_far begins x.view)).1 in
      going s (ap (λ o. noted_last o (loaded before (Kids node) found)) is) (h.room.1.0, length-set r.next.kids node found ∙ h.room.1.1)
      (Some (Trees (Snapshots (taking wait task (LoadsKids next))))) (
        refl,
        (
          h.next.1.0,
          h.next.1.1,
          subst (λ k. take k (set r.next.kids node found) ≡ take k (set before.kids node found))
              (sym (after_is node nodes next is)) (prefix_more node found r.next.kids before.kids same h.next.1.2),
        ),
      ) h
  kids wait task node None is h =
      let s : Taking = taking wait task (LoadsKids node) in
      let same : set r.next.kids node found ≡ set before.kids node found =
      whole node found r.next.kids before.kids nodes h.room.1.1 (noted_sized nodes (trace_so_far begins x.view)).1 (after_none node nodes is) h.next.1.2 in
      record {
        room = ((h.room.1.0, length-set r.next.kids node found ∙ h.room.1.1), h.room.0);
        last = subst (LastTells (completed (left_at s)))
            (sym (snapshot_after begins (Trees (Snapshots s)) hook found x xs ∙
            ap (λ o. last_snapshot (noted_last o (loaded before (Kids node) found)) x.view.actions (done_by xs) x.view.snapshot) is))
            (refl, λ i. record { used = h.next.1.0 i; nodes = h.next.1.1 i; kids = same i });
        next = subst (λ trace. NextTells nodes (completed (left_at s)) trace (Some (Trees (Snapshots (taking wait task (kids_step None))))))
            (sym (trace_after begins (Trees (Snapshots s)) hook found x xs)) (refl, tt);
      }

  -- each of its steps
  follows_sized : (wait : Bool) (task : ℕ) (step : SnapshotStep) →
      BuffersMatch nodes r begins (Some (Trees (Snapshots (taking wait task step)))) (x ∷ xs) →
      Matches (taking wait task step) (after_noting (taking wait task step) (event_at (taking wait task step)) r) (comes_at (taking wait task step))
  follows_sized true task Locks h =
      let s : Taking = taking true task Locks in
      going s refl h.room.1 (comes_at s)
      (either_way (Tells nodes (left_at s) (trace_at s)) (found == 0) (Go (at_snapshot s LoadsStage)) (Wait s) (refl, tt) (refl, tt)) h
  follows_sized false task Locks h =
      let s : Taking = taking false task Locks in
      going s refl h.room.1 (comes_at s)
      (either_way (Tells nodes (left_at s) (trace_at s)) (found == 0) (Go (at_snapshot s LoadsStage)) (Done (Err Again)) (refl, tt) tt) h
  follows_sized wait task LoadsStage h =
      let s : Taking = taking wait task LoadsStage in
      going s refl h.room.1 (comes_at s)
      (either_way (Tells nodes (left_at s) (trace_at s)) (found == 4) (Go (at_snapshot s LoadsUsed)) (Go (at_snapshot s (Releases (Err Invalid))))
      (refl, tt) (refl, tt)) h
  follows_sized wait task LoadsUsed h =
      let s : Taking = taking wait task LoadsUsed in going s refl h.room.1 (comes_at s) (refl, (refl, refl)) h
  follows_sized wait task (LoadsNode node) h =
      let s : Taking = taking wait task (LoadsNode node) in
      going s refl (length-set r.next.nodes node found ∙ h.room.1.0, h.room.1.1) (comes_at s)
      (either_way (Tells nodes (left_at s) (trace_at s)) (is_some (unpacked found)) (Go (at_snapshot s (node_step (node_after node nodes))))
      (Go (at_snapshot s (LoadsNode node)))
      (refl, node_tells wait task node (node_after node nodes) refl h.next.1 h.room.1)
      (refl, (h.next.1.0, take-set r.next.nodes node found ∙ (h.next.1.1 ∙ sym (take-set before.nodes node found))))) h
  follows_sized wait task (LoadsKids node) h = kids wait task node (node_after node nodes) refl h
  follows_sized wait task (Releases answer) h = let s : Taking = taking wait task (Releases answer) in going s refl h.room.1 (comes_at s) tt h

  -- it is of as many nodes as there is room for
  follows_step : (s : Taking) → BuffersMatch nodes r begins (Some (Trees (Snapshots s))) (x ∷ xs) →
      Matches s (after_noting s (event_at s) r) (comes_at s)
  follows_step s h =
      subst (λ n. BuffersMatch nodes r begins (Some (Trees (Snapshots (record s { nodes = n })))) (x ∷ xs) →
      Matches (record s { nodes = n }) (after_noting (record s { nodes = n }) (event_at (record s { nodes = n })) r) (comes_at (record s { nodes = n })))
      (sym h.next.0) (follows_sized s.wait s.task s.step) h

-- so it follows what was noted of a step
follows_at : (r : BufferWords) (s : Taking) (event : Event) (nodes : ℕ) (begins : Option Op) (hook : HookAnswer) (found : ℕ) (items : DealtNumbers) →
    1 ≤ length items → event ≡ event_of (next_of (Trees (Snapshots s)) hook).0 (next_of (Trees (Snapshots s)) hook).1 found →
    BuffersMatch nodes r begins (Some (Trees (Snapshots s))) items →
    BuffersMatch nodes (after_noting s event r) None (phase_after (after_of (Trees (Snapshots s)) event.found hook).0)
    (items_after begins (Trees (Snapshots s)) hook found items)
follows_at r s event nodes begins hook found [] there is h = absurd (omega arith)
follows_at r s event nodes begins hook found (x ∷ xs) there is h =
    subst (λ (e : Event). BuffersMatch nodes (after_noting s e r) None (phase_after (after_of (Trees (Snapshots s)) e.found hook).0)
    (items_after begins (Trees (Snapshots s)) hook found (x ∷ xs))) (sym is) (follows_step r nodes begins hook found x xs s h)

pub follows_taking : (r : BufferWords) (phase : Phase) (s : Taking) → phase ≡ Trees (Snapshots s) → (event : Event) (nodes : ℕ) (begins : Option Op)
    (hook : HookAnswer) (found : ℕ) (items : DealtNumbers) → 1 ≤ length items →
    event ≡ event_of (next_of phase hook).0 (next_of phase hook).1 found → BuffersMatch nodes r begins (Some phase) items →
    BuffersMatch nodes (after_noting s event r) None (phase_after (after_of phase event.found hook).0) (items_after begins phase hook found items)
follows_taking r phase s at event nodes begins hook found items there =
    subst (λ (p : Phase). event ≡ event_of (next_of p hook).0 (next_of p hook).1 found → BuffersMatch nodes r begins (Some p) items →
    BuffersMatch nodes (after_noting s event r) None (phase_after (after_of p event.found hook).0) (items_after begins p hook found items)) (sym at)
    (follows_at r s event nodes begins hook found items there)
