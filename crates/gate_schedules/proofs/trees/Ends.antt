-- What is known of a call's steps is kept from each step to the next, up to its answer.
use Rattle.gate_schedules.proofs.Prelude.{Action, Bool, Create, CreateStep, Err, Event, GateError, Grow, GrowStep, List, Mark, MarkStep, MoveStep}
use Rattle.gate_schedules.proofs.Prelude.{MoveTo, Next, NodeWord, None, Ok, OpenFile, OpenStep, Option, Remove, RemoveStep, Reply, Result, Snapshot}
use Rattle.gate_schedules.proofs.Prelude.{SnapshotStep, Some, [], after_look, ap, arith, cases_Bool, cases_lt, eq-eqb, eqb_tells, event_of, false}
use Rattle.gate_schedules.proofs.Prelude.{found_by, inl, inr, is_some, le-ltb, lt-ltb, nat_lt, ne_eqb, node_after, not, refl, snapshot_next, subst}
use Rattle.gate_schedules.proofs.Prelude.{sym, true, unpacked, word_of, ℕ, ◌&&◌, ◌+◌, ◌<◌, ◌==◌, ◌∙◌, ◌≡◌, ◌≤◌}
use Rattle.gated_tree.specs.Phases.{at_create, at_grow, at_mark, at_move, at_open, at_remove, create_looked, create_next, grow_next, kids_step}
use Rattle.gated_tree.specs.Phases.{mark_done, mark_next, move_next, node_step, open_next, opens_from, remove_next, removes_file, snapshot_locked_out}
use Rattle.gated_tree.specs.Refusals.{CreateHonest, FileHonest, GrowHonest, MoveHonest, SnapshotHonest, finds_directory, finds_file, finds_free}
use Rattle.gated_tree.specs.Refusals.{finds_full, finds_gone, finds_large, finds_other, finds_owner, finds_taken, finds_thawed}
use Rattle.node_words.{proofs.Refused.{directory_refused, file_refused, size_loaded, taken_some}, specs.Nodes.{directory_in, file_in, kind_in}}
use Rattle.gate_schedules.specs.trees.Ends.{CreateEnds, CreateKnows, GrowEnds, GrowKnows, IsNodeReply, IsReply, MarkEnds, MoveAnswers, MoveEnds}
use Rattle.gate_schedules.specs.trees.Ends.{MoveKnows, NextIsJustified, OpenEnds, RemoveEnds, RemoveKnows, SeesMore, SnapshotAnswers, SnapshotEnds}
use Rattle.gate_schedules.specs.trees.Ends.{SnapshotKnows, action_if_done, create_adds, move_added, remove_added}

both : (a b : Bool) → a ≡ true → b ≡ true → (a && b) ≡ true
both a b x y = rw (x, y) refl

here : (n : ℕ) → (n == n) ≡ true
here n = eq-eqb n n refl

missed : (b : Bool) → b ≡ false → not b ≡ true
missed b e = rw e refl

module _ (Seen More : (Event → Bool) → Type 0) where
  -- a look at a node ends well where what was looked for does, and where each refusal has its cause
  look_ends : {P : Type 0} (Knows : P → Type 0) (added : P → List Action) (IsOne : Reply → Type 0) (IsHonest : GateError → Type 0)
      (adds : Result Reply GateError → List Action) (again : P) (to : NodeWord → P) (actions : List Action)
      (r : Option (Result NodeWord GateError)) →
      Knows again × (actions ≡ added again) → ((node : NodeWord) → r ≡ Some (Ok node) → Knows (to node) × (actions ≡ added (to node))) →
      ((refusal : GateError) → r ≡ Some (Err refusal) → IsHonest refusal × (actions ≡ adds (Err refusal))) →
      NextIsJustified Knows added IsOne IsHonest adds (after_look again to r) actions
  look_ends Knows added IsOne IsHonest adds again to actions r stays found refused = grind arith

  create_seen : (x : Create) (node value : ℕ) → CreateKnows Seen x (CreateStep.LoadsNode node) →
      SeesMore Seen More (event_of (create_next x (CreateStep.LoadsNode node)).0 (create_next x (CreateStep.LoadsNode node)).1 value) →
      (r : Option NodeWord) → unpacked value ≡ r →
      NextIsJustified (λ (y : Create). CreateKnows More y y.step) (λ y. []) IsNodeReply (CreateHonest More x) (create_adds x)
      (create_looked x node r) []
  create_seen x node value knows sees None was = (λ n some below. sees.earlier _ (knows n some below), refl)
  create_seen x node value knows sees (Some found) was = elim (cases_Bool (is_some found.kind)) [
    | inl taken ↦
        let more : (n : ℕ) → 1 ≤ n → n < node + 1 → More (finds_taken n) =
        λ n some below. elim (eqb_tells n node) [
          | inl e ↦ subst (λ k. More (finds_taken k)) (sym e.1) (sees.now (finds_taken node)
              (both _ _ (here node) (missed (value == 0) (ne_eqb value 0 (taken_some value found was taken)))))
          | inr e ↦ sees.earlier _ (knows n some (omega (arith, below, e.1)))
        ] in
        rw taken (elim (cases_lt (node + 1) x.nodes) [
          | inl l ↦ rw (lt-ltb (node + 1) x.nodes l) (more, refl)
          | inr l ↦ rw (le-ltb (node + 1) x.nodes l) (λ n some below. more n some (omega (arith, below, l)), refl)
        ])
    | inr free ↦ rw free (tt, refl)
  ]

  pub create_ends : (x : Create) (step : CreateStep) (value : ℕ) → CreateKnows Seen x step →
      SeesMore Seen More (event_of (create_next x step).0 (create_next x step).1 value) →
      CreateEnds More x step (found_by (create_next x step).1 value)
  create_ends x CreateStep.LoadsDirectory value knows sees =
      look_ends (λ (y : Create). CreateKnows More y y.step) (λ y. []) IsNodeReply (CreateHonest More x) (create_adds x)
      (at_create x CreateStep.LoadsDirectory) (λ dir. at_create x (CreateStep.LoadsNode 1)) [] (directory_in value) (tt, refl)
      (λ dir e. (λ n some below. absurd (omega (arith, some, below)), refl))
      (λ refusal e. (
        elim (directory_refused value refusal e) [
          | inl h ↦ subst (CreateHonest More x) (sym h.0) (sees.now (finds_free x.dir) (both _ _ (here x.dir) (eq-eqb value 0 h.1)))
          | inr h ↦
              subst (CreateHonest More x) (sym h.0) (sees.now (finds_file x.dir) (both _ _ (here x.dir) (eq-eqb (kind_in value) 1 h.1)))
        ],
        refl,
      ))
  create_ends x (CreateStep.LoadsNode node) value knows sees = create_seen x node value knows sees (unpacked value) refl
  create_ends x (CreateStep.ChargesChild node) value knows sees = (tt, refl)
  create_ends x (CreateStep.TakesNode node) value knows sees = elim (eqb_tells value 0) [
    | inl e ↦ rw e.0 (tt, refl)
    | inr e ↦
        let other : More finds_other = sees.now finds_other (missed (value == 0) e.0) in
        rw e.0 (other, refl)
  ]
  create_ends x CreateStep.RefundsChild value knows sees = (sees.earlier finds_other knows, refl)

  -- a remove that is to free its file, or to mark it
  removes_end : (x : Remove) (file : NodeWord) (opens : ℕ) →
      RemoveKnows More x (removes_file file opens) × ([] ≡ remove_added x (removes_file file opens))
  removes_end x file opens = grind arith

  pub remove_ends : (x : Remove) (step : RemoveStep) (value : ℕ) → RemoveKnows Seen x step →
      SeesMore Seen More (event_of (remove_next x step).0 (remove_next x step).1 value) →
      RemoveEnds More x step (found_by (remove_next x step).1 value)
  remove_ends x RemoveStep.LoadsFile value knows sees =
      look_ends (λ (y : Remove). RemoveKnows More y y.step) (λ y. remove_added y y.step) (IsReply Reply.Unit) (FileHonest More x.file)
      (action_if_done (Action.Remove x.file)) (at_remove x RemoveStep.LoadsFile) (λ file. at_remove x (removes_file file file.opens)) [] (file_in value)
      (tt, refl)
      (λ file e. removes_end x file file.opens)
      (λ refusal e. (
        elim (file_refused value refusal e) [
          | inl h ↦ subst (FileHonest More x.file) (sym h.0) (sees.now (finds_gone x.file) (both _ _ (here x.file) h.1))
          | inr h ↦ subst (FileHonest More x.file) (sym h.0)
              (sees.now (finds_directory x.file) (both _ _ (here x.file) (eq-eqb (kind_in value) 2 h.1)))
        ],
        refl,
      ))
  remove_ends x (RemoveStep.FreesNode file) value knows sees = elim (eqb_tells value (word_of file)) [
    | inl e ↦ rw e.0 (tt, refl)
    | inr e ↦
        let other : More finds_other = sees.now finds_other (missed (value == word_of file) e.0) in
        rw e.0 (other, refl)
  ]
  remove_ends x (RemoveStep.CountsRemoved file) value knows sees = (tt, refl)
  remove_ends x (RemoveStep.MarksRemoved file) value knows sees = elim (eqb_tells value (word_of file)) [
    | inl e ↦ rw e.0 (tt, refl)
    | inr e ↦
        let other : More finds_other = sees.now finds_other (missed (value == word_of file) e.0) in
        rw e.0 (other, refl)
  ]
  remove_ends x RemoveStep.RefundsRemoved value knows sees = (sees.earlier finds_other knows, refl)
  remove_ends x (RemoveStep.RefundsBlocks file) value knows sees = (tt, refl)
  remove_ends x (RemoveStep.RefundsChild file) value knows sees = (refl, refl)

  pub grow_ends : (x : Grow) (step : GrowStep) (value : ℕ) → GrowKnows Seen x step →
      SeesMore Seen More (event_of (grow_next x step).0 (grow_next x step).1 value) →
      GrowEnds More x step (found_by (grow_next x step).1 value)
  grow_ends x GrowStep.LoadsFile value knows sees =
      look_ends (λ (y : Grow). GrowKnows More y y.step) (λ y. []) (IsReply Reply.Unit) (GrowHonest More x)
      (action_if_done (Action.Grow x.file x.blocks)) (at_grow x GrowStep.LoadsFile) (λ file. at_grow x (GrowStep.LoadsUsed file)) [] (file_in value)
      (tt, refl)
      (λ file e. (
        λ large. sees.now (finds_large x.file x.blocks x.capacity) (both _ _ (here x.file)
            (ap (λ node. nat_lt x.capacity (node.size + x.blocks)) (size_loaded value file e) ∙ large)),
        refl,
      ))
      (λ refusal e. (
        elim (file_refused value refusal e) [
          | inl h ↦ subst (GrowHonest More x) (sym h.0) (sees.now (finds_gone x.file) (both _ _ (here x.file) h.1))
          | inr h ↦ subst (GrowHonest More x) (sym h.0)
              (sees.now (finds_directory x.file) (both _ _ (here x.file) (eq-eqb (kind_in value) 2 h.1)))
        ],
        refl,
      ))
  grow_ends x (GrowStep.LoadsUsed file) value knows sees = elim (cases_Bool (nat_lt x.capacity (value + x.blocks))) [
    | inl full ↦
        let cause : More (finds_full x.blocks x.capacity) = sees.now (finds_full x.blocks x.capacity) full in
        rw full (cause, refl)
    | inr room ↦ rw room (elim (cases_Bool (nat_lt x.capacity (file.size + x.blocks))) [
      | inl large ↦
          let cause : More (finds_large x.file x.blocks x.capacity) = sees.earlier _ (knows large) in
          rw large (inr cause, refl)
      | inr fits ↦ rw fits (tt, refl)
    ])
  ]
  grow_ends x (GrowStep.ChargesBlocks file used) value knows sees = elim (eqb_tells value used) [
    | inl e ↦ rw e.0 (tt, refl)
    | inr e ↦
        let other : More finds_other = sees.now finds_other (missed (value == used) e.0) in
        rw e.0 (inl other, refl)
  ]
  grow_ends x (GrowStep.GrowsFile file) value knows sees = elim (eqb_tells value (word_of file)) [
    | inl e ↦ rw e.0 (refl, refl)
    | inr e ↦
        let other : More finds_other = sees.now finds_other (missed (value == word_of file) e.0) in
        rw e.0 (other, refl)
  ]
  grow_ends x GrowStep.RefundsBlocks value knows sees = (inl (sees.earlier finds_other knows), refl)

  move_answers : (x : MoveTo) (answer : Result Reply GateError) (e : Event) → MoveAnswers Seen answer → SeesMore Seen More e →
      NextIsJustified (λ (y : MoveTo). MoveKnows More y y.step) (λ y. move_added y y.step) (IsReply Reply.Unit) (MoveHonest More x)
      (action_if_done (Action.MoveTo x.file x.dir)) (Next.Done answer) (action_if_done (Action.MoveTo x.file x.dir) answer)
  move_answers x answer e knows sees = grind arith

  pub move_ends : (x : MoveTo) (step : MoveStep) (value : ℕ) → MoveKnows Seen x step →
      SeesMore Seen More (event_of (move_next x step).0 (move_next x step).1 value) →
      MoveEnds More x step (found_by (move_next x step).1 value)
  move_ends x MoveStep.LoadsFile value knows sees =
      look_ends (λ (y : MoveTo). MoveKnows More y y.step) (λ y. move_added y y.step) (IsReply Reply.Unit) (MoveHonest More x)
      (action_if_done (Action.MoveTo x.file x.dir)) (at_move x MoveStep.LoadsFile) (λ file. at_move x (MoveStep.LoadsDirectory file)) [] (file_in value)
      (tt, refl)
      (λ file e. (tt, refl))
      (λ refusal e. (
        elim (file_refused value refusal e) [
          | inl h ↦ subst (MoveHonest More x) (sym h.0) (inl (sees.now (finds_gone x.file) (both _ _ (here x.file) h.1)))
          | inr h ↦ subst (MoveHonest More x) (sym h.0)
              (sees.now (finds_directory x.file) (both _ _ (here x.file) (eq-eqb (kind_in value) 2 h.1)))
        ],
        refl,
      ))
  move_ends x (MoveStep.LoadsDirectory file) value knows sees =
      look_ends (λ (y : MoveTo). MoveKnows More y y.step) (λ y. move_added y y.step) (IsReply Reply.Unit) (MoveHonest More x)
      (action_if_done (Action.MoveTo x.file x.dir)) (at_move x (MoveStep.LoadsDirectory file)) (λ dir. at_move x (MoveStep.ChargesChild file)) []
      (directory_in value)
      (tt, refl) (λ dir e. (tt, refl))
      (λ refusal e. (
        elim (directory_refused value refusal e) [
          | inl h ↦ subst (MoveHonest More x) (sym h.0) (inr (sees.now (finds_free x.dir) (both _ _ (here x.dir) (eq-eqb value 0 h.1))))
          | inr h ↦ subst (MoveHonest More x) (sym h.0) (sees.now (finds_file x.dir) (both _ _ (here x.dir) (eq-eqb (kind_in value) 1 h.1)))
        ],
        refl,
      ))
  move_ends x (MoveStep.ChargesChild file) value knows sees = (tt, refl)
  move_ends x (MoveStep.MovesFile file) value knows sees = elim (eqb_tells value (word_of file)) [
    | inl e ↦ rw e.0 (refl, refl)
    | inr e ↦
        let other : More finds_other = sees.now finds_other (missed (value == word_of file) e.0) in
        rw e.0 (other, refl)
  ]
  move_ends x (MoveStep.RefundsChild dir answer) value knows sees = move_answers x answer _ knows sees

  -- each step of a page fault or a write-back
  pub mark_ends : (x : Mark) (step : MarkStep) (value : ℕ) → SeesMore Seen More (event_of (mark_next x step).0 (mark_next x step).1 value) →
      MarkEnds More x step (found_by (mark_next x step).1 value)
  mark_ends x MarkStep.LoadsFile value sees =
      look_ends (λ (y : Mark). Unit {0}) (λ y. []) (IsReply Reply.Unit) (FileHonest More x.file) (action_if_done (mark_done x.dirty x.file))
      (at_mark x MarkStep.LoadsFile) (λ file. at_mark x (MarkStep.MarksFile file)) [] (file_in value) (tt, refl) (λ file e. (tt, refl))
      (λ refusal e. (
        elim (file_refused value refusal e) [
          | inl h ↦ subst (FileHonest More x.file) (sym h.0) (sees.now (finds_gone x.file) (both _ _ (here x.file) h.1))
          | inr h ↦ subst (FileHonest More x.file) (sym h.0)
              (sees.now (finds_directory x.file) (both _ _ (here x.file) (eq-eqb (kind_in value) 2 h.1)))
        ],
        refl,
      ))
  mark_ends x (MarkStep.MarksFile file) value sees = elim (eqb_tells value (word_of file)) [
    | inl e ↦ rw e.0 (refl, refl)
    | inr e ↦
        let other : More finds_other = sees.now finds_other (missed (value == word_of file) e.0) in
        rw e.0 (other, refl)
  ]

  pub open_ends : (x : OpenFile) (step : OpenStep) (value : ℕ) →
      SeesMore Seen More (event_of (open_next x step).0 (open_next x step).1 value) →
      OpenEnds More x step (found_by (open_next x step).1 value)
  open_ends x OpenStep.LoadsFile value sees =
      look_ends (λ (y : OpenFile). Unit {0}) (λ y. []) (IsReply Reply.Unit) (FileHonest More x.file) (action_if_done (Action.Open x.file))
      (at_open x OpenStep.LoadsFile) (λ file. at_open x (opens_from file (nat_lt file.opens 64))) [] (file_in value) (tt, refl)
      (λ file e. (tt, refl))
      (λ refusal e. (
        elim (file_refused value refusal e) [
          | inl h ↦ subst (FileHonest More x.file) (sym h.0) (sees.now (finds_gone x.file) (both _ _ (here x.file) h.1))
          | inr h ↦ subst (FileHonest More x.file) (sym h.0)
              (sees.now (finds_directory x.file) (both _ _ (here x.file) (eq-eqb (kind_in value) 2 h.1)))
        ],
        refl,
      ))
  open_ends x (OpenStep.OpensFile file) value sees = elim (eqb_tells value (word_of file)) [
    | inl e ↦ rw e.0 (refl, refl)
    | inr e ↦
        let other : More finds_other = sees.now finds_other (missed (value == word_of file) e.0) in
        rw e.0 (other, refl)
  ]

  -- a snapshot that finds `umount` taken, and one that answers
  locked_out : (x : Snapshot) (wait : Bool) → x.wait ≡ wait → More finds_owner →
      NextIsJustified (λ (y : Snapshot). SnapshotKnows More y y.step) (λ y. []) (IsReply Reply.Tree) (SnapshotHonest More x) (λ answer. [])
      (snapshot_locked_out x wait) []
  locked_out x true is owned = (tt, refl)
  locked_out x false is owned = ((is, owned), refl)

  snapshot_answers : (x : Snapshot) (answer : Result Reply GateError) (e : Event) → SnapshotAnswers Seen answer → SeesMore Seen More e →
      NextIsJustified (λ (y : Snapshot). SnapshotKnows More y y.step) (λ y. []) (IsReply Reply.Tree) (SnapshotHonest More x) (λ answer. [])
      (Next.Done answer) []
  snapshot_answers x answer e knows sees = grind arith

  node_knows : (x : Snapshot) (next : Option ℕ) → SnapshotKnows More x (node_step next)
  node_knows x (Some node) = tt
  node_knows x None = tt

  kids_know : (x : Snapshot) (next : Option ℕ) → SnapshotKnows More x (kids_step next)
  kids_know x (Some node) = tt
  kids_know x None = refl

  pub snapshot_ends : (x : Snapshot) (step : SnapshotStep) (value : ℕ) → SnapshotKnows Seen x step →
      SeesMore Seen More (event_of (snapshot_next x step).0 (snapshot_next x step).1 value) →
      SnapshotEnds More x step (found_by (snapshot_next x step).1 value)
  snapshot_ends x SnapshotStep.Locks value knows sees = elim (eqb_tells value 0) [
    | inl e ↦ rw e.0 (tt, refl)
    | inr e ↦
        let owned : More finds_owner = sees.now finds_owner (missed (value == 0) e.0) in
        rw e.0 (locked_out x x.wait refl owned)
  ]
  snapshot_ends x SnapshotStep.LoadsStage value knows sees = elim (eqb_tells value 4) [
    | inl e ↦ rw e.0 (tt, refl)
    | inr e ↦
        let thawed : More finds_thawed = sees.now finds_thawed (missed (value == 4) e.0) in
        rw e.0 (thawed, refl)
  ]
  snapshot_ends x SnapshotStep.LoadsUsed value knows sees = (tt, refl)
  snapshot_ends x (SnapshotStep.LoadsNode node) value knows sees = elim (cases_Bool (is_some (unpacked value))) [
    | inl said ↦ rw said (node_knows x (node_after node x.nodes), refl)
    | inr none ↦ rw none (tt, refl)
  ]
  snapshot_ends x (SnapshotStep.LoadsKids node) value knows sees = (kids_know x (node_after node x.nodes), refl)
  snapshot_ends x (SnapshotStep.Releases answer) value knows sees = snapshot_answers x answer _ knows sees
