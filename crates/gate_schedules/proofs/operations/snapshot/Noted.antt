-- What the loads of a trace have noted of the tree, and what a snapshot's next load adds.
use Rattle.gate_schedules.proofs.Prelude.{Bounds, HookAnswer, List, Snapshot, SnapshotStep, Traced, WordName, [], ap, arith, cases_Bool, common_steps}
use Rattle.gate_schedules.proofs.Prelude.{eqb_tells, event_of, found_by, inl, inr, le-ltb, length, lt-ltb, node_shown, refl, seen_as, snapshot_next}
use Rattle.gate_schedules.proofs.Prelude.{subst, suc, sym, values_noted, with_hook, zero, ℕ, ◌+◌, ◌-◌, ◌<◌, ◌∙◌, ◌∷◌, ◌≡◌, ◌≤◌}
use Rattle.gate_world.specs.traces.{Found.is_load, Snapshots.loads_noted}
use Rattle.gated_tree.specs.{Calls.SnapshotStepFits, Roles.tree_word, Trees.{loaded, node_at}, declared.trees.TreeWords.TreeWords}
use Rattle.std.proofs.{Common.{get_or-set_other, get_or-set_same, slice_index}, lemmas.List.length-replicate}
use Rattle.gate_schedules.specs.trees.Steps.{NotesLoad, NotesOne}

-- there is room for the words of so many nodes
abbrev pub IsLong : ℕ → TreeWords → Type 0
IsLong nodes words = (length words.nodes ≡ nodes) × (length words.kids ≡ nodes)

-- a load keeps the room
pub loaded_long : (nodes : ℕ) (words : TreeWords) (name : WordName) (value : ℕ) → IsLong nodes words →
    IsLong nodes (loaded words name value)
loaded_long nodes words name value long = grind (arith, common_steps)

pub noted_long : (nodes : ℕ) (trace : List Traced) → IsLong nodes (loads_noted nodes trace)
noted_long nodes [] = (length-replicate {A = ℕ} nodes 0, length-replicate {A = ℕ} nodes 0)
noted_long nodes (e ∷ earlier) =
    elim (cases_Bool (is_load e.event.touch)) [
      | inl h ↦ rw h (loaded_long nodes (loads_noted nodes earlier) e.event.word e.event.found (noted_long nodes earlier))
      | inr h ↦ rw h (noted_long nodes earlier)
    ]

-- the words of a tree in the order in which a snapshot loads them
abbrev pub values_of : ℕ → TreeWords → ℕ → ℕ
values_of nodes words = tree_word nodes words.used (slice_index words.nodes) (slice_index words.kids)

notes_used : (nodes : ℕ) (words : TreeWords) (value : ℕ) →
    NotesOne 0 (values_of nodes words) (values_of nodes (loaded words WordName.Used value)) value
notes_used nodes words value = (refl, λ i l. absurd (omega (arith, l)))

-- a load of a node leaves the values before it
node_kept : (nodes n : ℕ) (words : TreeWords) (value : ℕ) → n < nodes → (i : ℕ) → i < suc n →
    values_of nodes (loaded words (WordName.Node n) value) i ≡ values_of nodes words i
node_kept nodes n words value ln zero l = refl
node_kept nodes n words value ln (suc i) l =
    rw (lt-ltb i nodes (omega (arith, l, ln))) (get_or-set_other words.nodes n i value 0 (λ q. absurd (omega (arith, q, l))))

-- and is the next value
notes_node : (nodes n : ℕ) (words : TreeWords) (value : ℕ) → IsLong nodes words → n < nodes →
    NotesOne (suc n) (values_of nodes words) (values_of nodes (loaded words (WordName.Node n) value)) value
notes_node nodes n words value long ln =
    (rw (lt-ltb n nodes ln) (get_or-set_same words.nodes n value 0 (omega (arith, long.0, ln))), node_kept nodes n words value ln)

-- and is the next value
pub notes_kids : (nodes n : ℕ) (words : TreeWords) (value : ℕ) → IsLong nodes words → n < nodes →
    NotesOne (suc (nodes + n)) (values_of nodes words) (values_of nodes (loaded words (WordName.Kids n) value)) value
notes_kids nodes n words value long ln = grind (arith, common_steps)

-- after each step of a snapshot the values are the earlier ones, with the word that it loads
pub notes_step : (c : Bounds) (x : Snapshot) (s : SnapshotStep) → x.nodes ≡ c.nodes → SnapshotStepFits c s → (trace : List Traced)
    (value : ℕ) (hook : HookAnswer) →
    NotesLoad x.nodes s (values_noted x.nodes trace)
    (values_noted x.nodes (with_hook (event_of (snapshot_next x s).0 (snapshot_next x s).1 value) hook ∷ trace))
    (found_by (snapshot_next x s).1 value)
notes_step c x s same fits trace value hook = grind (arith, notes_used, notes_node, noted_long, notes_kids)

-- these are the words of a tree of so many nodes, but for how many tasks have files open
abbrev pub AreWords : ℕ → TreeWords → ℕ → (ℕ → ℕ) → (ℕ → ℕ) → Type 0
AreWords nodes words used node kids =
    (used ≡ words.used) × ((n : ℕ) → n < nodes → node_shown (node n) ≡ node_at words n) ×
    ((n : ℕ) → n < nodes → kids n ≡ slice_index words.kids n)

-- so it is where all values are those of the tree
are_words : (nodes : ℕ) (words : TreeWords) (used : ℕ) (node kids : ℕ → ℕ) →
    ((i : ℕ) → i < suc (nodes + nodes) → seen_as nodes i (values_of nodes words i) ≡ seen_as nodes i (tree_word nodes used node kids i)) →
    AreWords nodes words used node kids
are_words nodes words used node kids all = (
  sym (ap (λ x. x.1) (all 0 (omega arith))),
  λ n ln. sym (ap (λ x. x.0) (rw (lt-ltb n nodes ln) at (all (suc n) (omega (arith, ln))))),
  λ n ln.
      let back : nodes + n - nodes ≡ n = omega arith in
      let value : slice_index words.kids (nodes + n - nodes) ≡ kids (nodes + n - nodes) =
      ap (λ x. x.1) (rw (le-ltb (nodes + n) nodes (omega arith)) at (all (suc (nodes + n)) (omega (arith, ln)))) in
      sym (subst (λ m. slice_index words.kids m ≡ kids m) back value),
)

-- a snapshot that loads the children of its last node, where the values before are those of the tree, has loaded the tree
pub last_load : (nodes n : ℕ) (words : TreeWords) (used : ℕ) (node kids : ℕ → ℕ) → IsLong nodes words → n < nodes → nodes ≤ n + 1 →
    ((i : ℕ) → i < suc (nodes + n) →
    seen_as nodes i (values_of nodes words i) ≡ seen_as nodes i (tree_word nodes used node kids i)) →
    AreWords nodes (loaded words (WordName.Kids n) (kids n)) used node kids
last_load nodes n words used node kids long ln last before =
    let notes = notes_kids nodes n words (kids n) long ln in
    let after : TreeWords = loaded words (WordName.Kids n) (kids n) in
    let back : nodes + n - nodes ≡ n = omega arith in
    let here : kids n ≡ tree_word nodes used node kids (suc (nodes + n)) =
    rw (le-ltb (nodes + n) nodes (omega arith)) (ap kids (sym back)) in
    are_words nodes after used node kids (λ i l. elim (eqb_tells i (suc (nodes + n))) [
      | inl q ↦ ap (seen_as nodes i)
          (subst (λ j. values_of nodes after j ≡ tree_word nodes used node kids j) (sym q.1) (notes.0 ∙ here))
      | inr q ↦
          let lower : i < suc (nodes + n) = omega (arith, q.1, l, last, ln) in
          ap (seen_as nodes i) (notes.1 i lower) ∙ before i lower
    ])
