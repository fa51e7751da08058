-- The last load of a snapshot: the tree that it has loaded is the present one.
use Rattle.gate_schedules.proofs.Prelude.{Config, Fits, Fitting, HookAnswer, IsGood, IsWithin, KnowsStage, None, Phase, PhaseFits, RoleHolds}
use Rattle.gate_schedules.proofs.Prelude.{Snapshot, SnapshotStep, Some, Stages, Tree, TreePhase, WordName, World, ap, arith, cases_lt, held_of, inl}
use Rattle.gate_schedules.proofs.Prelude.{inr, is_some, le-ltb, lt-ltb, stage_role_of, subst, suc, sym, tree_bounds, tree_role_of, true≢false, ℕ, ◌+◌}
use Rattle.gate_schedules.proofs.Prelude.{◌<◌, ◌∙◌, ◌≡◌, ◌≤◌}
use Rattle.gate_world.specs.{Moments.{CompletesNow, IsPresentTree}, traces.Snapshots.{loads_noted, snapshot_completes, values_noted}}
use Rattle.gated_tree.specs.{Phases.at_snapshot, Roles.{seen_as, tree_word}, Trees.loaded, declared.trees.TreeWords.TreeWords}
use Rattle.gate_schedules.proofs.operations.{calls.NodeCauses.some_is, snapshot.Noted.{AreWords, IsLong, last_load, loaded_long, noted_long}}

nothing_is_some : {A : Type 0} (a : A) → None ≡ Some a → ⊥
nothing_is_some a h = true≢false (ap is_some (sym h))

module _ (c : Config) (w : World) (good : IsGood c w) (t : ℕ) (lt : t < c.tasks) (x : Snapshot) (n : ℕ)
    (e : (w.views t).phase ≡ Some (Phase.Trees (TreePhase.Snapshot (at_snapshot x (SnapshotStep.LoadsKids n))))) where
  -- the words that were loaded, with this load
  abbrev here_loaded : TreeWords
  here_loaded = loaded (loads_noted x.nodes (w.views t).trace) (WordName.Kids n) (w.words.kids n)

  -- its numbers fit
  here_fits : PhaseFits c t (held_of (w.views t)) (Phase.Trees (TreePhase.Snapshot (at_snapshot x (SnapshotStep.LoadsKids n))))
  here_fits = subst (Fits c t (held_of (w.views t))) e (good Fitting t lt)

  -- each word that it loaded before is still what it was
  here_reads : (i : ℕ) → i < suc (x.nodes + n) →
      seen_as c.nodes i (values_noted x.nodes (w.views t).trace i) ≡
      seen_as c.nodes i (tree_word c.nodes w.words.used w.words.node w.words.kids i)
  here_reads =
      subst (λ p. RoleHolds (tree_bounds c) w.words.used w.words.removed w.words.node w.words.kids (tree_role_of (w.views t).trace p)) e
      ((good Tree).roles t lt)

  -- it relies on stage 4
  here_knows : KnowsStage w.words.stage w.words.sb (stage_role_of (Some (Phase.Trees (TreePhase.Snapshot (at_snapshot x (SnapshotStep.LoadsKids n))))))
  here_knows = subst (λ p. KnowsStage w.words.stage w.words.sb (stage_role_of p)) e ((good Stages).knows t lt)

  here_present : x.nodes ≤ n + 1 → IsPresentTree c w.words here_loaded
  here_present last =
      let same : x.nodes ≡ c.nodes = here_fits.0.1 in
      let below : n < c.nodes = here_fits.0.2 in
      let words : TreeWords = loads_noted x.nodes (w.views t).trace in
      let long : IsLong x.nodes words = noted_long x.nodes (w.views t).trace in
      let are : AreWords x.nodes here_loaded w.words.used w.words.node w.words.kids =
      last_load x.nodes n words w.words.used w.words.node w.words.kids long (omega (arith, same, below)) last
      (subst (λ m. (i : ℕ) → i < suc (x.nodes + n) →
      seen_as m i (values_noted x.nodes (w.views t).trace i) ≡ seen_as m i (tree_word m w.words.used w.words.node w.words.kids i)) (sym same)
      here_reads) in
      record {
        frozen = here_knows.0;
        whole = (loaded_long x.nodes words (WordName.Kids n) (w.words.kids n) long).0 ∙ same;
        used = are.0;
        nodes = λ i li. are.1 i (omega (arith, li, same));
        kids = λ i li. are.2 i (omega (arith, li, same));
      }

  here_completes : (found : TreeWords) → snapshot_completes x.nodes (SnapshotStep.LoadsKids n) (w.views t).trace (w.words.kids n) ≡ Some found →
      IsPresentTree c w.words found
  here_completes found is =
      elim (cases_lt (n + 1) x.nodes) [
        | inl l ↦ absurd (nothing_is_some found (rw (lt-ltb (n + 1) x.nodes l) at is))
        | inr l ↦ subst (IsPresentTree c w.words) (some_is here_loaded found (rw (le-ltb (n + 1) x.nodes l) at is)) (here_present l)
      ]

-- only its load of the children of a node may complete a snapshot
step_completes : (c : Config) (w : World) → IsGood c w → (t : ℕ) → t < c.tasks → (hook : HookAnswer) (x : Snapshot) (s : SnapshotStep) →
    (w.views t).phase ≡ Some (Phase.Trees (TreePhase.Snapshot (at_snapshot x s))) → CompletesNow c w t hook (Phase.Trees (TreePhase.Snapshot (at_snapshot x s)))
step_completes c w good t lt hook x (SnapshotStep.LoadsKids n) e found is = here_completes c w good t lt x n e found is
step_completes c w good t lt hook x s e found is = absurd (nothing_is_some found is)

-- a snapshot that a step completes is of the present tree
pub snapshot_completes_now : (c : Config) → IsWithin c → (w : World) → IsGood c w → (t : ℕ) → t < c.tasks → (hook : HookAnswer)
    (x : Snapshot) → (w.views t).phase ≡ Some (Phase.Trees (TreePhase.Snapshot x)) → CompletesNow c w t hook (Phase.Trees (TreePhase.Snapshot x))
snapshot_completes_now c within w good t lt hook x e = step_completes c w good t lt hook x x.step e
