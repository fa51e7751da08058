-- Each step of a clearing of the dirty marks and of a snapshot is a step of the tree.
use Rattle.gate_schedules.proofs.Prelude.{AreWithin, Bool, Bounds, ClearMarks, Clearing, Err, HasNoCharge, Ok, Out, Role, Snapshot, SnapshotStep}
use Rattle.gate_schedules.proofs.Prelude.{TreeHolds, TreeState, WordName, Words, ap, arith, cases_lt, clear_after, dirty_in, eqb_tells, false, inl}
use Rattle.gate_schedules.proofs.Prelude.{inr, is_some, le-ltb, lt-ltb, refl, role_after, seen_as, snapshot_next, subst, suc, sym, true, turned}
use Rattle.gate_schedules.proofs.Prelude.{unpacked, update_at, ℕ, ◌+◌, ◌-◌, ◌<◌, ◌∙◌, ◌≡◌}
use Rattle.gated_tree.specs.{Calls.{SnapshotStepFits, snapshot_role}, Phases.{snapshot_after, snapshot_locked_out}, Roles.{Reading, tree_word}}
use Rattle.node_words.{proofs.Packing.packed_unpacks, specs.Phases.clear_next}
use Rattle.gate_schedules.proofs.{frames.SameRolesOffTree.update_twice, trees.Clearings.{clears, passes, snapshot_begins, snapshot_loads}}
use Rattle.gate_schedules.{proofs.trees.{Counts.leaves, Steps.{ends_free, leaves_word, stays_at}}, specs.trees.Events.MayClean}
use Rattle.gate_schedules.specs.trees.Steps.{EventKeeps, NotesLoad, found_at, tree_in, words_left}

module _ (c : Bounds) (within : AreWithin c) (sealed bare : ℕ) (w : Words) (at : ℕ → Role) (good : TreeHolds c (tree_in sealed bare w at))
    (t : ℕ) (lt : t < c.tasks) where
  -- the tree before the step
  abbrev here : TreeState
  here = tree_in sealed bare w at

  -- a role that charges nothing may be left
  drops_role : (s : TreeState) (role : Role) → HasNoCharge role → TreeHolds c (turned s t role) → TreeHolds c (turned s t Out)
  drops_role s role free h =
      subst (λ roles. TreeHolds c (record s { at = roles })) (update_twice s.at t role Out)
      (leaves c (turned s t role) h t lt (subst HasNoCharge (sym (update_at s.at t role)) free))

  -- each step of a clearing: the node is cleared, and the next one is to come
  pub clears_node : (x : ClearMarks) → x.node < c.nodes → MayClean c here → at t ≡ Clearing x.node →
      EventKeeps c sealed bare w at t (clear_next x) (Clearing (suc x.node)) (clear_after x (w.node x.node)).1
  clears_node x ln may is = elim (eqb_tells (dirty_in (w.node x.node)) 1) [
    | inl e ↦ rw e.0 (clears c here good t lt x.node within may is ln e.1)
    | inr e ↦ rw e.0 (passes c here good t lt x.node is ln (omega (arith, e.1)))
  ]

  -- the same, where the last node's step ends it
  pub clear_step : (x : ClearMarks) → x.node < c.nodes → MayClean c here → at t ≡ Clearing x.node →
      EventKeeps c sealed bare w at t (clear_next x) (role_after (λ (y : ClearMarks). Clearing y.node) (clear_after x (w.node x.node)).0)
      (clear_after x (w.node x.node)).1
  clear_step x ln may is =
      let done = clears_node x ln may is in
      let left : TreeState = tree_in sealed bare (words_left w (clear_next x)) at in
      let on : Clearing (suc x.node) ≡ Clearing (x.node + 1) = ap Clearing (omega arith) in
      elim (cases_lt (x.node + 1) x.nodes) [
        | inl l ↦ rw (lt-ltb (x.node + 1) x.nodes l) (subst (λ r. TreeHolds c (turned left t r)) on done.0, done.1)
        | inr l ↦ rw (le-ltb (x.node + 1) x.nodes l)
            (drops_role left (Clearing (suc x.node)) (record { blocks = refl; removed = refl; children = λ d. refl }) done.0, done.1)
      ]

  -- a snapshot that loads a word has one value more
  reads : (k next : ℕ) (values noted : ℕ → ℕ) → at t ≡ Reading k values → noted k ≡ tree_word c.nodes w.used w.node w.kids k →
      ((i : ℕ) → i < k → noted i ≡ values i) → suc k ≡ next → TreeHolds c (turned here t (Reading next noted))
  reads k next values noted is word earlier on =
      subst (λ n. TreeHolds c (turned here t (Reading n noted))) on (snapshot_loads c here good t lt k values noted is (ap (seen_as c.nodes k) word) earlier)

  -- a snapshot that finds `umount` taken
  locked_out : (x : Snapshot) (noted : ℕ → ℕ) (wait : Bool) → at t ≡ Out →
      TreeHolds c (turned here t (role_after (λ y. snapshot_role y.nodes noted y.step) (snapshot_locked_out x wait)))
  locked_out x noted true is = stays_at c within sealed bare w at good t lt Out is
  locked_out x noted false is = stays_at c within sealed bare w at good t lt Out is

  pub snapshot_step : (x : Snapshot) (step : SnapshotStep) (values noted : ℕ → ℕ) → x.nodes ≡ c.nodes → SnapshotStepFits c step →
      at t ≡ snapshot_role x.nodes values step → NotesLoad x.nodes step values noted (found_at w (snapshot_next x step)) →
      EventKeeps c sealed bare w at t (snapshot_next x step)
      (role_after (λ y. snapshot_role y.nodes noted y.step) (snapshot_after x step (found_at w (snapshot_next x step))).0)
      (snapshot_after x step (found_at w (snapshot_next x step))).1
  snapshot_step x SnapshotStep.Locks values noted same fits is notes = elim (eqb_tells w.umount 0) [
    | inl e ↦ rw e.0 (stays_at c within sealed bare w at good t lt Out is, (refl, refl))
    | inr e ↦ rw e.0 (locked_out x noted x.wait is, (refl, refl))
  ]
  snapshot_step x SnapshotStep.LoadsStage values noted same fits is notes = elim (eqb_tells w.stage 4) [
    | inl e ↦ rw e.0 (snapshot_begins c here good t lt noted is, (refl, refl))
    | inr e ↦ rw e.0 (stays_at c within sealed bare w at good t lt Out is, (refl, refl))
  ]
  snapshot_step x SnapshotStep.LoadsUsed values noted same fits is notes =
      leaves_word c within sealed bare w at good t lt WordName.Used (Reading 1 noted) (reads 0 1 values noted is notes.0 notes.1 refl)
  snapshot_step x (SnapshotStep.LoadsNode node) values noted same fits is notes =
      let there : is_some (unpacked (w.node node)) ≡ true = ap is_some (packed_unpacks (w.node node) (good.words node fits).packed) in
      let word : noted (suc node) ≡ tree_word c.nodes w.used w.node w.kids (suc node) = rw (lt-ltb node c.nodes fits) notes.0 in
      let load : (next : ℕ) → suc (suc node) ≡ next → TreeHolds c (turned here t (Reading next noted)) =
      λ next on. reads (suc node) next values noted is word notes.1 on in
      leaves_word c within sealed bare w at good t lt (WordName.Node node) _ (rw there (elim (cases_lt (node + 1) x.nodes) [
        | inl l ↦ rw (lt-ltb (node + 1) x.nodes l) (load (suc (node + 1)) (omega arith))
        | inr l ↦ rw (le-ltb (node + 1) x.nodes l) (load (suc (x.nodes + 0)) (omega (arith, l, fits, same)))
      ]))
  snapshot_step x (SnapshotStep.LoadsKids node) values noted same fits is notes =
      let back : x.nodes + node - c.nodes ≡ node = omega (arith, same) in
      let word : noted (suc (x.nodes + node)) ≡ tree_word c.nodes w.used w.node w.kids (suc (x.nodes + node)) =
      rw (le-ltb (x.nodes + node) c.nodes (omega (arith, same))) (notes.0 ∙ ap w.kids (sym back)) in
      leaves_word c within sealed bare w at good t lt (WordName.Kids node) _ (elim (cases_lt (node + 1) x.nodes) [
        | inl l ↦ rw (lt-ltb (node + 1) x.nodes l)
            (reads (suc (x.nodes + node)) (suc (x.nodes + (node + 1))) values noted is word notes.1 (omega arith))
        | inr l ↦ rw (le-ltb (node + 1) x.nodes l)
            (reads (suc (x.nodes + node)) (suc (x.nodes + x.nodes)) values noted is word notes.1 (omega (arith, l, fits, same)))
      ])
  snapshot_step x (SnapshotStep.Releases (Ok reply)) values noted same fits is notes = (
    ends_free c within sealed bare w at good t lt (Reading (suc (x.nodes + x.nodes)) values) is
        (record { blocks = refl; removed = refl; children = λ d. refl }),
    (refl, refl),
  )
  snapshot_step x (SnapshotStep.Releases (Err refusal)) values noted same fits is notes =
      (stays_at c within sealed bare w at good t lt Out is, (refl, refl))
