-- The next step of each task is on a word that holds what it may: the word of a node of the tree is a node's, and the sync word of a level
-- is one.
use Rattle.gate_schedules.proofs.Prelude.{ClosePhase, Config, DownRead, DownReadStep, Files, Fits, Fitting, HasFile, Holdings, HookAnswer, IsGood}
use Rattle.gate_schedules.proofs.Prelude.{IsWithin, OpenFile, OpenStep, Phase, PhaseFits, ReadIsValid, RoleHolds, Some, SyncAt, SyncHoldsIn, Tree}
use Rattle.gate_schedules.proofs.Prelude.{TreePhase, WordName, World, ap, arith, down_read_next, each_updated, false, file_of, has_open, held_of}
use Rattle.gate_schedules.proofs.Prelude.{is_some, next_of, one_if, opens_in, read, subst, total, total_at, total_bound, total_updated, tree_bounds}
use Rattle.gate_schedules.proofs.Prelude.{tree_role_of, true, unpacked, update, ℕ, ◌*◌, ◌<◌, ◌≡◌, ◌≤◌}
use Rattle.access_model.specs.States.{most_tasks}
use Rattle.composite_ops.specs.declared.file_closes.phases.ClosePhase.TheVariants.{Enters as EntersLevel, FreesNode as ClosesNode}
use Rattle.composite_ops.specs.declared.file_closes.phases.ClosePhase.TheVariants.{LoadsFile as CloseLoadsFile, LowersCount}
use Rattle.composite_ops.specs.file_closes.Phases.{next as close_next}
use Rattle.{cpu_words.specs.declared.names.WordName.TheVariants.{Node, Sync}, freeze_levels.specs.declared.freezes.FreezeStep.TheVariants.Closes}
use Rattle.gate_world.specs.{Fits.CloseFits, declared.work.Phase.TheVariants.{Closes, Trees}}
use Rattle.gate_world.specs.traces.TraceStates.{CloseReadIsValid, EventsMayBe, OpenReadIsValid, WordIsValid}
use Rattle.gated_tree.specs.{Calls.TreePhaseFits, Phases.{next as tree_next, open_next}}
use Rattle.gated_tree.specs.declared.opens.OpenStep.TheVariants.{LoadsFile as LoadsFileToOpen, OpensFile}
use Rattle.gated_tree.specs.declared.phases.TreePhase.TheVariants.{OpenFile as OpensOne}
use Rattle.node_words.proofs.Packing.{packed_unpacks}
use Rattle.gate_schedules.proofs.frames.Openers.{most_tasks_is, one_le}

-- the word of a node is that of one of the tree's, and a sync word that of one of the levels
abbrev WordExists : Config → WordName → Type 0
WordExists c (Node n) = n < c.nodes
WordExists c (Sync i) = (1 ≤ i) × (i ≤ 3)
WordExists c word = Unit {0}

module _ (c : Config) where
  read_word : (x : DownRead) (s : DownReadStep) → 1 ≤ x.level → x.level ≤ 3 → WordExists c (down_read_next x s).0
  read_word x s l1 l3 = grind arith

  tree_word : (t : ℕ) (x : TreePhase) (hook : HookAnswer) → TreePhaseFits (tree_bounds c) t x → WordExists c (tree_next x hook).0
  tree_word t x hook fits = grind arith

  -- the word of each phase's next step
  phase_word : (t : ℕ) (held : Holdings) (phase : Phase) (hook : HookAnswer) → PhaseFits c t held phase →
      WordExists c (next_of phase hook).0
  phase_word t held phase hook fits = grind arith

  -- the words of a good state hold what they may
  held_well : (w : World) → IsGood c w → (word : WordName) → WordExists c word → WordIsValid word (read w.words word)
  held_well w good (Node n) lt = ap is_some (packed_unpacks (w.words.node n) ((good Tree).words n lt).packed)
  held_well w good (Sync i) there = let s : SyncHoldsIn c w i = good (SyncAt i) there.0 there.1 in ap is_some s.packed
  held_well w good word lt = tt

  module _ (within : IsWithin c) (w : World) (good : IsGood c w) (t : ℕ) (lt : t < c.tasks) where
    -- a file that this task has open is open in its word, and one that it hasn't open is not open for all tasks
    open_counted : (f : ℕ) → f < c.nodes → has_open (w.views t) f ≡ true → 1 ≤ opens_in (w.words.node f)
    open_counted f lf own = omega (
      arith,
      (good Files).counted f lf,
      total_at most_tasks t (λ x. one_if (has_open (w.views x) f)) (omega (arith, lt, within.tasks, most_tasks_is)),
      ap one_if own,
    )

    room_counted : (f : ℕ) → f < c.nodes → has_open (w.views t) f ≡ false → opens_in (w.words.node f) < 64
    room_counted f lf own =
        let g : ℕ → ℕ = λ x. one_if (has_open (w.views x) f) in
        let lm : t < most_tasks = omega (arith, lt, within.tasks, most_tasks_is) in
        let more = total_updated (λ v. v) most_tasks t g 1 lm in
        let few : total most_tasks (update g t 1) ≤ most_tasks * 1 =
        total_bound most_tasks 1 (update g t 1) (λ x lx. each_updated (λ y v. v ≤ 1) g t 1 x (omega arith) (λ ne. one_le (has_open (w.views x) f))) in
        omega (arith, (good Files).counted f lf, more, few, ap one_if own, most_tasks_is)

    -- what the next step of a phase may find
    node_packed : (f : ℕ) → f < c.nodes → is_some (unpacked (w.words.node f)) ≡ true
    node_packed f lf = ap is_some (packed_unpacks (w.words.node f) ((good Tree).words f lf).packed)

    close_finds : (x : ClosePhase) → (w.views t).phase ≡ Some (Closes x) → CloseFits c t (held_of (w.views t)) x →
        CloseReadIsValid x (read w.words (close_next x).0)
    close_finds (CloseLoadsFile x) is fits = (
      node_packed x.file fits.0,
      open_counted x.file fits.0 (subst (λ p. HasFile (has_open (w.views t)) (file_of p)) is ((good Files).own t lt)),
    )
    close_finds (LowersCount x node) is fits = node_packed x.file fits.0.0
    close_finds (EntersLevel f node r) is fits =
        held_well w good (down_read_next r r.step).0 (read_word r r.step fits.2.0 fits.2.1)
    close_finds (ClosesNode f p node) is fits =
        (subst (λ q. RoleHolds (tree_bounds c) w.words.used w.words.removed w.words.node w.words.kids (tree_role_of (w.views t).trace q)) is
        ((good Tree).roles t lt)).1.word
    close_finds other is fits = tt

    open_finds : (x : OpenFile) (s : OpenStep) → has_open (w.views t) x.file ≡ false → x.file < c.nodes →
        OpenReadIsValid s (read w.words (open_next x s).0)
    open_finds x LoadsFileToOpen own lf = (node_packed x.file lf, room_counted x.file lf own)
    open_finds x (OpensFile file) own lf = node_packed x.file lf

    tree_finds : (x : TreePhase) (hook : HookAnswer) → (w.views t).phase ≡ Some (Trees x) →
        PhaseFits c t (held_of (w.views t)) (Trees x) →
        ReadIsValid (Trees x) (tree_next x hook).0 (read w.words (tree_next x hook).0)
    tree_finds (OpensOne x) hook is fits =
        open_finds x x.step (subst (λ p. HasFile (has_open (w.views t)) (file_of p)) is ((good Files).own t lt)) fits.0.0
    tree_finds x hook is fits = held_well w good (tree_next x hook).0 (tree_word t x hook fits.0)

    finds_well : (phase : Phase) (hook : HookAnswer) → (w.views t).phase ≡ Some phase →
        PhaseFits c t (held_of (w.views t)) phase →
        ReadIsValid phase (next_of phase hook).0 (read w.words (next_of phase hook).0)
    finds_well phase hook is fits = grind (arith, close_finds, tree_finds, held_well, phase_word, held_of)

  -- so each step is on such a word
  pub events_may_be : IsWithin c → (w : World) → IsGood c w → EventsMayBe c w
  events_may_be within w good t lt phase hook is =
      finds_well within w good t lt phase hook is
      (subst (Fits c t (held_of (w.views t))) is (good Fitting t lt))
