-- Each step of each call is a step of the tree.
use Rattle.gate_schedules.proofs.Prelude.{Action, AreWithin, Bool, Bounds, Create, CreateStep, Err, GateError, Grow, GrowStep, HasNoCharge, Kind}
use Rattle.gate_schedules.proofs.Prelude.{Mark, MarkStep, MoveStep, MoveTo, Next, NobodyReads, NodeWord, None, Ok, OpenFile, OpenStep, Option, Out}
use Rattle.gate_schedules.proofs.Prelude.{Remove, RemoveStep, Reply, Result, Role, Some, Touch, TreeHolds, TreeState, WordName, Words, after_look, ap}
use Rattle.gate_schedules.proofs.Prelude.{arith, cases_lt, create_after, eqb_tells, false, grow_after, if◌then◌else◌, inl, inr, is_some, le-ltb}
use Rattle.gate_schedules.proofs.Prelude.{lt-ltb, mark_after, move_after, nat_lt, node_after, open_after, put, read, refl, remove_after, role_after}
use Rattle.gate_schedules.proofs.Prelude.{subst, sym, true, turned, unpacked, update, word_of, ℕ, ◌+◌, ◌<◌, ◌==◌, ◌∙◌, ◌≡◌, ◌≤◌}
use Rattle.gated_tree.specs.Calls.{CreateStepFits, OpenStepFits, RemoveStepFits, create_role, grow_role, mark_role, move_role, open_role, remove_role}
use Rattle.gated_tree.specs.Phases.{at_create, at_grow, at_mark, at_move, at_open, at_remove, create_looked, create_looks_at, create_next}
use Rattle.gated_tree.specs.Phases.{create_past, grow_from, grow_next, mark_done, mark_next, move_next, open_next, opens_from, remove_next}
use Rattle.gated_tree.specs.{Phases.removes_file, Roles.{Charged, Found, Growing, Loaded, MayDirty, MayRemove, Refunding, Returning, Uncounting}}
use Rattle.node_words.specs.Nodes.{directory_in, file_in, marked_node}
use Rattle.gate_schedules.proofs.trees.Counts.{charges_blocks, create_fails, finds_directory, finds_file, finds_room, finds_target, grow_fails}
use Rattle.gate_schedules.{proofs.trees.{Counts.{leaves, looks, move_fails, remove_fails}, Each.each_event}, specs.trees.Events.CountsRemoval}
use Rattle.gate_schedules.specs.trees.Events.{CreateAdds, Creates, Dirties, Event, Flushes, FreesBlocks, Grows, MarksRemoved as MarksOne, MoveAdds}
use Rattle.gate_schedules.specs.trees.Events.{Moves, OpensFile as OpensIt, RefundsBlocks as TakesBack, Removes, SubtractsChild, Uncounts, opens_shown}
use Rattle.gate_schedules.specs.trees.{Events.tree_shown, Steps.{EventKeeps, MayMark, found_at, tree_in, words_left}}

-- a write of what is there leaves the tree
same_tree : (sealed bare : ℕ) (w : Words) (at : ℕ → Role) (name : WordName) → tree_in sealed bare (put w name (read w name)) at ≡ tree_in sealed bare w at
same_tree sealed bare w at name = grind arith

module _ (c : Bounds) (within : AreWithin c) (sealed bare : ℕ) (w : Words) (at : ℕ → Role) (good : TreeHolds c (tree_in sealed bare w at))
    (t : ℕ) (lt : t < c.tasks) where
  -- the tree before the step
  abbrev here : TreeState
  here = tree_in sealed bare w at

  -- a load, or any step that leaves the word as it was, where only the task's role changes
  pub leaves_word : (name : WordName) (role : Role) → TreeHolds c (turned here t role) → EventKeeps c sealed bare w at t (name, Touch.Load) role None
  leaves_word name role h = (
    subst (TreeHolds c) (sym (same_tree sealed bare w (update at t role) name)) h,
    (ap (λ s. tree_shown s.node) (same_tree sealed bare w at name), ap (λ s. opens_shown s.node) (same_tree sealed bare w at name)),
  )

  pub as_event : (event : WordName × Touch) (role : Role) (action : Option Action) →
      Event c here t (tree_in sealed bare (words_left w event) (update at t role)) action → EventKeeps c sealed bare w at t event role action
  as_event event role action e = each_event c within here good t lt _ action e

  pub ends_free : (role : Role) → at t ≡ role → HasNoCharge role → TreeHolds c (turned here t Out)
  ends_free role is free = leaves c here good t lt (subst HasNoCharge (sym is) free)

  pub stays_at : (role : Role) → at t ≡ role → TreeHolds c (turned here t role)
  stays_at role is = subst (λ r. TreeHolds c (turned here t r)) is (looks c here good t lt)

  -- what comes after a look at a node: the same again, a refusal, or what was looked for
  pub looked : {P : Type 0} (role : P → Role) (again : P) (to : NodeWord → P) → at t ≡ role again → HasNoCharge (role again) →
      (r : Option (Result NodeWord GateError)) → ((node : NodeWord) → r ≡ Some (Ok node) → TreeHolds c (turned here t (role (to node)))) →
      TreeHolds c (turned here t (role_after role (after_look again to r)))
  looked role again to is free None found = stays_at (role again) is
  looked role again to is free (Some (Ok node)) found = found node refl
  looked role again to is free (Some (Err refusal)) found = ends_free (role again) is free

  out_free : HasNoCharge Out
  out_free = record { blocks = refl; removed = refl; children = λ d. refl }

  loaded_free : (file : NodeWord) → HasNoCharge (Loaded file)
  loaded_free file = record { blocks = refl; removed = refl; children = λ d. refl }

  found_free : (d : ℕ) → HasNoCharge (Found d)
  found_free d = record { blocks = refl; removed = refl; children = λ e. refl }

  -- a create that looks at the next node, or at none
  looks_on : (x : Create) → at t ≡ Found x.dir → (node : Option ℕ) →
      TreeHolds c (turned here t (role_after (λ y. create_role y y.step) (create_looks_at x node)))
  looks_on x is None = ends_free (Found x.dir) is (found_free x.dir)
  looks_on x is (Some node) = stays_at (Found x.dir) is

  kind_found : (x : Create) (node : ℕ) → at t ≡ Found x.dir → (kind : Option Kind) →
      let next : Next Create = if is_some kind then create_past x node else Next.Go (at_create x (CreateStep.ChargesChild node)) in
      TreeHolds c (turned here t (role_after (λ y. create_role y y.step) next))
  kind_found x node is None = stays_at (Found x.dir) is
  kind_found x node is (Some kind) = looks_on x is (node_after node x.nodes)

  looked_at : (x : Create) (node : ℕ) → at t ≡ Found x.dir → (found : Option NodeWord) →
      TreeHolds c (turned here t (role_after (λ y. create_role y y.step) (create_looked x node found)))
  looked_at x node is None = stays_at (Found x.dir) is
  looked_at x node is (Some found) = kind_found x node is found.kind

  pub create_step : (x : Create) (step : CreateStep) → x.dir < c.nodes → CreateStepFits c step → NobodyReads c here →
      at t ≡ create_role x step →
      EventKeeps c sealed bare w at t (create_next x step)
      (role_after (λ y. create_role y y.step) (create_after x step (found_at w (create_next x step))).0)
      (create_after x step (found_at w (create_next x step))).1
  create_step x CreateStep.LoadsDirectory ld fits quiet is =
      leaves_word (WordName.Node x.dir) _
      (looked (λ y. create_role y y.step) (at_create x CreateStep.LoadsDirectory) (λ dir. at_create x (CreateStep.LoadsNode 1)) is out_free
      (directory_in (w.node x.dir))
      (λ dir e. finds_directory c here good t lt x.dir dir is ld e))
  create_step x (CreateStep.LoadsNode node) ld fits quiet is = leaves_word (WordName.Node node) _ (looked_at x node is (unpacked (w.node node)))
  create_step x (CreateStep.ChargesChild node) ld fits quiet is = as_event (create_next x (CreateStep.ChargesChild node)) _ _ (CreateAdds x.dir quiet is)
  create_step x (CreateStep.TakesNode node) ld fits quiet is = elim (eqb_tells (w.node node) 0) [
    | inl e ↦ rw e.0 (each_event c within here good t lt _ _ (Creates node x.dir x.kind quiet is fits e.1))
    | inr e ↦ rw e.0 (leaves_word (WordName.Node node) (Returning x.dir) (create_fails c here good t lt x.dir is))
  ]
  create_step x CreateStep.RefundsChild ld fits quiet is = as_event (create_next x CreateStep.RefundsChild) _ _ (SubtractsChild x.dir quiet is)

  removes_role : (x : Remove) (file : NodeWord) (opens : ℕ) → remove_role x (removes_file file opens) ≡ Loaded file
  removes_role x file opens = elim (eqb_tells opens 0) [ inl e ↦ rw e.0 refl | inr e ↦ rw e.0 refl ]

  -- each step of a remove
  pub remove_step : (x : Remove) (step : RemoveStep) → x.file < c.nodes → RemoveStepFits step → NobodyReads c here → MayRemove c here →
      at t ≡ remove_role x step →
      EventKeeps c sealed bare w at t (remove_next x step)
      (role_after (λ y. remove_role y y.step) (remove_after x step (found_at w (remove_next x step))).0)
      (remove_after x step (found_at w (remove_next x step))).1
  remove_step x RemoveStep.LoadsFile ln fits quiet may is =
      leaves_word (WordName.Node x.file) _
      (looked (λ y. remove_role y y.step) (at_remove x RemoveStep.LoadsFile) (λ file. at_remove x (removes_file file file.opens)) is out_free
      (file_in (w.node x.file)) (λ file e. subst (λ r. TreeHolds c (turned here t r)) (sym (removes_role x file file.opens))
      (finds_file c here good t lt x.file file within is ln e)))
  remove_step x (RemoveStep.FreesNode file) ln fits quiet may is = elim (eqb_tells (w.node x.file) (word_of file)) [
    | inl e ↦ rw e.0 (each_event c within here good t lt _ _ (Removes file x.file quiet is ln e.1 fits.1))
    | inr e ↦ rw e.0 (leaves_word (WordName.Node x.file) Out (ends_free (Loaded file) is (loaded_free file)))
  ]
  remove_step x (RemoveStep.CountsRemoved file) ln fits quiet may is =
      as_event (remove_next x (RemoveStep.CountsRemoved file)) _ _ (CountsRemoval file may is fits.1)
  remove_step x (RemoveStep.MarksRemoved file) ln fits quiet may is = elim (eqb_tells (w.node x.file) (word_of file)) [
    | inl e ↦ rw e.0 (each_event c within here good t lt _ _ (MarksOne file x.file quiet is ln e.1))
    | inr e ↦ rw e.0 (leaves_word (WordName.Node x.file) Uncounting (remove_fails c here good t lt file is))
  ]
  remove_step x RemoveStep.RefundsRemoved ln fits quiet may is = as_event (remove_next x RemoveStep.RefundsRemoved) _ _ (Uncounts is)
  remove_step x (RemoveStep.RefundsBlocks file) ln fits quiet may is =
      as_event (remove_next x (RemoveStep.RefundsBlocks file)) _ _ (FreesBlocks file.size file.parent quiet is)
  remove_step x (RemoveStep.RefundsChild file) ln fits quiet may is =
      as_event (remove_next x (RemoveStep.RefundsChild file)) _ _ (SubtractsChild file.parent quiet is)

  -- so many blocks were found charged
  found_used : (x : Grow) (file : NodeWord) → 1 ≤ x.blocks → x.capacity ≡ c.capacity → at t ≡ Loaded file →
      TreeHolds c (turned here t (role_after (λ y. grow_role y y.step) (grow_from x file w.used)))
  found_used x file some same is = elim (cases_lt x.capacity (w.used + x.blocks)) [
    | inl l ↦ rw (lt-ltb x.capacity (w.used + x.blocks) l) (ends_free (Loaded file) is (loaded_free file))
    | inr l ↦ rw (le-ltb x.capacity (w.used + x.blocks) l) (elim (cases_lt x.capacity (file.size + x.blocks)) [
      | inl m ↦ rw (lt-ltb x.capacity (file.size + x.blocks) m) (ends_free (Loaded file) is (loaded_free file))
      | inr m ↦ rw (le-ltb x.capacity (file.size + x.blocks) m)
          (finds_room c here good t lt file x.blocks is some (omega (arith, l, same)) (omega (arith, m, same)))
    ])
  ]

  pub grow_step : (x : Grow) (step : GrowStep) → x.file < c.nodes → 1 ≤ x.blocks → x.capacity ≡ c.capacity → NobodyReads c here →
      MayDirty c here →
      at t ≡ grow_role x step →
      EventKeeps c sealed bare w at t (grow_next x step)
      (role_after (λ y. grow_role y y.step) (grow_after x step (found_at w (grow_next x step))).0)
      (grow_after x step (found_at w (grow_next x step))).1
  grow_step x GrowStep.LoadsFile ln some same quiet may is =
      leaves_word (WordName.Node x.file) _
      (looked (λ y. grow_role y y.step) (at_grow x GrowStep.LoadsFile) (λ file. at_grow x (GrowStep.LoadsUsed file)) is out_free
      (file_in (w.node x.file)) (λ file e. finds_file c here good t lt x.file file within is ln e))
  grow_step x (GrowStep.LoadsUsed file) ln some same quiet may is = leaves_word WordName.Used _ (found_used x file some same is)
  grow_step x (GrowStep.ChargesBlocks file used) ln some same quiet may is = elim (eqb_tells w.used used) [
    | inl e ↦ rw e.0 (
      subst (λ u. TreeHolds c (record (turned here t (Charged file x.blocks)) { used = u + x.blocks })) e.1
          (charges_blocks c here good t lt file x.blocks quiet (is ∙ ap (Growing file x.blocks) (sym e.1))),
      (refl, refl),
    )
    | inr e ↦ rw e.0 (leaves_word WordName.Used Out
        (ends_free (Growing file x.blocks used) is (record { blocks = refl; removed = refl; children = λ d. refl })))
  ]
  grow_step x (GrowStep.GrowsFile file) ln some same quiet may is = elim (eqb_tells (w.node x.file) (word_of file)) [
    | inl e ↦ rw e.0 (each_event c within here good t lt _ _ (Grows file x.blocks x.file quiet may is ln e.1))
    | inr e ↦ rw e.0 (leaves_word (WordName.Node x.file) (Refunding x.blocks) (grow_fails c here good t lt file x.blocks is))
  ]
  grow_step x GrowStep.RefundsBlocks ln some same quiet may is = as_event (grow_next x GrowStep.RefundsBlocks) _ _ (TakesBack x.blocks quiet is)

  pub move_step : (x : MoveTo) (step : MoveStep) → x.file < c.nodes → x.dir < c.nodes → NobodyReads c here → at t ≡ move_role x step →
      EventKeeps c sealed bare w at t (move_next x step)
      (role_after (λ y. move_role y y.step) (move_after x step (found_at w (move_next x step))).0)
      (move_after x step (found_at w (move_next x step))).1
  move_step x MoveStep.LoadsFile ln ld quiet is =
      leaves_word (WordName.Node x.file) _
      (looked (λ y. move_role y y.step) (at_move x MoveStep.LoadsFile) (λ file. at_move x (MoveStep.LoadsDirectory file)) is out_free
      (file_in (w.node x.file)) (λ file e. finds_file c here good t lt x.file file within is ln e))
  move_step x (MoveStep.LoadsDirectory file) ln ld quiet is =
      leaves_word (WordName.Node x.dir) _
      (looked (λ y. move_role y y.step) (at_move x (MoveStep.LoadsDirectory file)) (λ dir. at_move x (MoveStep.ChargesChild file)) is (loaded_free file)
      (directory_in (w.node x.dir)) (λ dir e. finds_target c here good t lt file dir x.dir is ld e))
  move_step x (MoveStep.ChargesChild file) ln ld quiet is = as_event (move_next x (MoveStep.ChargesChild file)) _ _ (MoveAdds file x.dir quiet is)
  move_step x (MoveStep.MovesFile file) ln ld quiet is = elim (eqb_tells (w.node x.file) (word_of file)) [
    | inl e ↦ rw e.0 (each_event c within here good t lt _ _ (Moves file x.dir x.file quiet is ln e.1))
    | inr e ↦ rw e.0 (leaves_word (WordName.Node x.file) (Returning x.dir) (move_fails c here good t lt file x.dir is))
  ]
  move_step x (MoveStep.RefundsChild dir answer) ln ld quiet is = as_event (move_next x (MoveStep.RefundsChild dir answer)) _ _ (SubtractsChild dir quiet is)

  -- the compare-exchange of a page fault or a write-back
  marks_file : (n : ℕ) (file : NodeWord) (dirty : Bool) → n < c.nodes → MayMark dirty c here → at t ≡ Loaded file →
      EventKeeps c sealed bare w at t (WordName.Node n, Touch.Cas (word_of file) (word_of (marked_node dirty file)))
      (role_after (λ (y : Mark). mark_role y y.step) (if w.node n == word_of file then Next.Done (Ok Reply.Unit) else Next.Done (Err GateError.Again)))
      (if w.node n == word_of file then Some (mark_done dirty n) else None)
  marks_file n file true ln may is = elim (eqb_tells (w.node n) (word_of file)) [
    | inl e ↦ rw e.0 (each_event c within here good t lt _ _ (Dirties file n may.0 may.1 is ln e.1))
    | inr e ↦ rw e.0 (leaves_word (WordName.Node n) Out (ends_free (Loaded file) is (loaded_free file)))
  ]
  marks_file n file false ln may is = elim (eqb_tells (w.node n) (word_of file)) [
    | inl e ↦ rw e.0 (each_event c within here good t lt _ _ (Flushes file n may is ln e.1))
    | inr e ↦ rw e.0 (leaves_word (WordName.Node n) Out (ends_free (Loaded file) is (loaded_free file)))
  ]

  -- each step of a page fault or a write-back
  pub mark_step : (x : Mark) (step : MarkStep) → x.file < c.nodes → MayMark x.dirty c here → at t ≡ mark_role x step →
      EventKeeps c sealed bare w at t (mark_next x step)
      (role_after (λ y. mark_role y y.step) (mark_after x step (found_at w (mark_next x step))).0)
      (mark_after x step (found_at w (mark_next x step))).1
  mark_step x MarkStep.LoadsFile ln may is =
      leaves_word (WordName.Node x.file) _
      (looked (λ y. mark_role y y.step) (at_mark x MarkStep.LoadsFile) (λ file. at_mark x (MarkStep.MarksFile file)) is out_free
      (file_in (w.node x.file)) (λ file e. finds_file c here good t lt x.file file within is ln e))
  mark_step x (MarkStep.MarksFile file) ln may is = marks_file x.file file x.dirty ln may is

  -- an open that found its file, or that loads it again
  opens_role : (x : OpenFile) (file : NodeWord) (room : Bool) → at t ≡ Out → TreeHolds c (turned here t (Loaded file)) →
      TreeHolds c (turned here t (open_role x (opens_from file room)))
  opens_role x file true is found = found
  opens_role x file false is found = stays_at Out is

  pub open_step : (x : OpenFile) (step : OpenStep) → x.file < c.nodes → OpenStepFits step → at t ≡ open_role x step →
      EventKeeps c sealed bare w at t (open_next x step)
      (role_after (λ y. open_role y y.step) (open_after x step (found_at w (open_next x step))).0)
      (open_after x step (found_at w (open_next x step))).1
  open_step x OpenStep.LoadsFile ln fits is =
      leaves_word (WordName.Node x.file) _
      (looked (λ y. open_role y y.step) (at_open x OpenStep.LoadsFile) (λ file. at_open x (opens_from file (nat_lt file.opens 64))) is out_free
      (file_in (w.node x.file)) (λ file e. opens_role x file (nat_lt file.opens 64) is
      (finds_file c here good t lt x.file file within is ln e)))
  open_step x (OpenStep.OpensFile file) ln fits is = elim (eqb_tells (w.node x.file) (word_of file)) [
    | inl e ↦ rw e.0 (each_event c within here good t lt _ _ (OpensIt file x.file is ln e.1 fits))
    | inr e ↦ rw e.0 (leaves_word (WordName.Node x.file) Out (ends_free (Loaded file) is (loaded_free file)))
  ]
