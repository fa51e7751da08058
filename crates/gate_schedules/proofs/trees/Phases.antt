-- The steps of all calls at the tree, by their phases.
use Rattle.gate_schedules.proofs.Prelude.{Action, AreWithin, Bounds, HookAnswer, IsWord, Next, Option, Role, Touch, TreeHolds, TreePhase, WordName}
use Rattle.gate_schedules.proofs.Prelude.{Words, arith, map_next, role_after, snapshot_next, subst, ℕ, ◌<◌, ◌≡◌}
use Rattle.cpu_words.specs.Names.{Extents}
use Rattle.gated_tree.specs.{Calls.{TreePhaseFits, phase_role}, Phases.{create_next, grow_next, mark_next, move_next, next, open_next, remove_next}}
use Rattle.gate_schedules.proofs.trees.{Steps.{create_step, grow_step, mark_step, move_step, open_step, remove_step}, Sweeps.clear_step}
use Rattle.gate_schedules.{proofs.trees.Sweeps.snapshot_step, specs.trees.Steps.{EventKeeps, Notes, StepKeeps, TreeAllowsStep, found_at, tree_in}}

-- what comes after a step has the same role as a phase of one call and of all
role_mapped : {P : Type 0} (to : P → TreePhase) (role : TreePhase → Role) (n : Next P) →
    role_after (λ x. role (to x)) n ≡ role_after role (map_next to n)
role_mapped to role n = grind arith

module _ (c : Bounds) (within : AreWithin c) (sealed bare : ℕ) (w : Words) (at : ℕ → Role) (good : TreeHolds c (tree_in sealed bare w at))
    (t : ℕ) (lt : t < c.tasks) where
  -- a step that is kept with a role is kept with the same role
  with_role : (event : WordName × Touch) (action : Option Action) (role other : Role) → role ≡ other →
      EventKeeps c sealed bare w at t event role action → EventKeeps c sealed bare w at t event other action
  with_role event action role other same h = subst (λ r. EventKeeps c sealed bare w at t event r action) same h

  -- each step of each call
  pub each_phase : (phase : TreePhase) (values noted : ℕ → ℕ) (hook : HookAnswer) → at t ≡ phase_role values phase →
      TreePhaseFits c t phase →
      TreeAllowsStep c (tree_in sealed bare w at) phase → Notes phase values noted (found_at w (next phase hook)) →
      StepKeeps c sealed bare w at t phase noted hook
  each_phase (TreePhase.Create x) values noted hook is fits may notes =
      with_role (create_next x x.step) _ _ _ (role_mapped TreePhase.Create (phase_role noted) _)
      (create_step c within sealed bare w at good t lt x x.step fits.0 fits.2 may is)
  each_phase (TreePhase.Remove x) values noted hook is fits may notes =
      with_role (remove_next x x.step) _ _ _ (role_mapped TreePhase.Remove (phase_role noted) _)
      (remove_step c within sealed bare w at good t lt x x.step fits.0 fits.1 may.0 may.1 is)
  each_phase (TreePhase.Grow x) values noted hook is fits may notes =
      with_role (grow_next x x.step) _ _ _ (role_mapped TreePhase.Grow (phase_role noted) _)
      (grow_step c within sealed bare w at good t lt x x.step fits.0 fits.1 fits.2 may.0 may.1 is)
  each_phase (TreePhase.MoveTo x) values noted hook is fits may notes =
      with_role (move_next x x.step) _ _ _ (role_mapped TreePhase.MoveTo (phase_role noted) _)
      (move_step c within sealed bare w at good t lt x x.step fits.0 fits.1 may is)
  each_phase (TreePhase.Mark x) values noted hook is fits may notes =
      with_role (mark_next x x.step) _ _ _ (role_mapped TreePhase.Mark (phase_role noted) _)
      (mark_step c within sealed bare w at good t lt x x.step fits may is)
  each_phase (TreePhase.OpenFile x) values noted hook is fits may notes =
      with_role (open_next x x.step) _ _ _ (role_mapped TreePhase.OpenFile (phase_role noted) _)
      (open_step c within sealed bare w at good t lt x x.step fits.0 fits.1 is)
  each_phase (TreePhase.Snapshot x) values noted hook is fits may notes =
      let kept = snapshot_step c within sealed bare w at good t lt x x.step values noted fits.1 fits.2 is notes in
      with_role (snapshot_next x x.step) _ _ _ (role_mapped TreePhase.Snapshot (phase_role noted) _) kept
  each_phase (TreePhase.ClearMarks x) values noted hook is fits may notes =
      with_role (next (TreePhase.ClearMarks x) hook) _ _ _ (role_mapped TreePhase.ClearMarks (phase_role noted) _)
      (clear_step c within sealed bare w at good t lt x fits.0 may is)

  module _ (e : Extents) (nodes : e.nodes ≡ c.nodes) where
    -- the word of each step is there
    pub word_there : (phase : TreePhase) (values : ℕ → ℕ) (hook : HookAnswer) → at t ≡ phase_role values phase → TreePhaseFits c t phase →
        IsWord e (next phase hook).0
    word_there phase values hook is fits = grind arith
