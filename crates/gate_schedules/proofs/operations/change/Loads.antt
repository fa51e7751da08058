-- Loads of a change that has not set HOLD: of the present state, under the lock.
use Rattle.gate_schedules.proofs.Prelude.{Bool, ChangeStep, Config, HookAnswer, IsGood, MountPhase, Next, Option, Phase, Some, WordName, World, ap}
use Rattle.gate_schedules.proofs.Prelude.{cases_Bool, false, has_flag, holds_level, inl, inr, refl, role_of, shown, sym, true, ℕ, ◌<◌, ◌==◌, ◌∙◌, ◌≡◌}
use Rattle.std.specs.Prelude.{not}
use Rattle.mount_counts.specs.{Phases.step_between, Roles.Out}
use Rattle.gate_world.specs.{Fits.SumFits, Operations.holds_none, Roles.{change_owns, change_role, role_if}, Rules.{GateStepKeeps, GatesHold}}
use Rattle.gate_schedules.proofs.{frames.Frames.{role_none, role_off, role_on}, mounts.Loads.{after_load, as_owner, fits_now, still_load}}

abbrev pub change : ℕ → Bool → Bool → ℕ → ℕ → ChangeStep → MountPhase
change m ro wait task processors step =
    MountPhase.Change (record { mount = m; read_only = ro; wait = wait; task = task; processors = processors; step = step })

-- a change has its role at its own mount
pub change_here : {q : Option Phase} (m : ℕ) (ro wait : Bool) (task processors : ℕ) (s : ChangeStep) →
    q ≡ Some (Phase.Mounts (change m ro wait task processors s)) → role_of m q ≡ change_role s
change_here m ro wait task processors s e = ap (role_of m) e ∙ role_on m (change_role s)

-- and none at others
pub change_off : {q : Option Phase} (m : ℕ) (ro wait : Bool) (task processors : ℕ) (s : ChangeStep) →
    q ≡ Some (Phase.Mounts (change m ro wait task processors s)) → (y : ℕ) → (y ≡ m → ⊥) → role_of y q ≡ Out
change_off m ro wait task processors s e y ne = ap (role_of y) e ∙ role_off y m (change_role s) ne

-- what comes between the state found and the state asked for has no role, and owns on
abbrev IsStill : ChangeStep → Type 0
IsStill s = (change_role s ≡ Out) × (change_owns s ≡ 1) × ((c : Config) → SumFits c s)

between : (ro b : Bool) → IsStill (step_between ro b)
between true true = (refl, refl, λ c. tt)
between true false = (refl, refl, λ c. tt)
between false true = (refl, refl, λ c. tt)
between false false = (refl, refl, λ c. tt)

module _ (c : Config) (w : World) (good : IsGood c w) (t : ℕ) (lt : t < c.tasks)
    (m : ℕ) (ro wait : Bool) (task processors : ℕ) (hook : HookAnswer) where
  -- the change is at this step
  abbrev pub IsAt : ChangeStep → Type 0
  IsAt s = (w.views t).phase ≡ Some (Phase.Mounts (change m ro wait task processors s))

  -- its numbers, and that its task holds no level
  abbrev pub FitsHere : ChangeStep → Type 0
  FitsHere s = (m < c.mounts) × (task ≡ t) × (processors ≡ c.processors) × (holds_none (holds_level (w.views t)) ≡ true) × SumFits c s

  pub fits_here : (s : ChangeStep) → IsAt s → FitsHere s
  fits_here s e = fits_now c w good t lt (change m ro wait task processors s) e

  -- a load by an owner that has no role, before and after it
  no_role_load : (name : WordName) (s s' : ChangeStep) → IsAt s → IsStill s → IsStill s' →
      let coming : Next Phase = Next.Go (Phase.Mounts (change m ro wait task processors s')) in
      GatesHold c (after_load w t name hook coming) × (shown c (after_load w t name hook coming) ≡ shown c w)
  no_role_load name s s' e still still' =
      let f : FitsHere s = fits_here s e in
      let none : (x : ChangeStep) → IsStill x → (y : ℕ) → role_if (y == m) (change_role x) ≡ Out =
      λ x h y. ap (role_if (y == m)) h.0 ∙ role_none y m in
      still_load c w good t lt name hook (Next.Go (Phase.Mounts (change m ro wait task processors s')))
      (λ y. none s' still' y ∙ sym (ap (role_of y) e ∙ none s still y))
      (as_owner (change m ro wait task processors s) e (still'.1 ∙ sym still.1) refl (λ i. refl))
      (f.0, f.1, f.2, f.3, still'.2 c)

  -- loads the flags under the lock; meets: whoever changes READONLY owns `umount`
  pub loads_flags : IsAt ChangeStep.LoadsFlags → GateStepKeeps c w t hook (Phase.Mounts (change m ro wait task processors ChangeStep.LoadsFlags))
  loads_flags e =
      elim (cases_Bool (has_flag (w.words.flags m) 1)) [
        | inl h ↦ rw h (no_role_load (WordName.MountFlags m) ChangeStep.LoadsFlags (step_between ro true) e (refl, refl, λ d. tt) (between ro true))
        | inr h ↦ rw h (no_role_load (WordName.MountFlags m) ChangeStep.LoadsFlags ChangeStep.LoadsSuperblock e (refl, refl, λ d. tt) (refl, refl, λ d. tt))
      ]

  -- loads the superblock's flag
  pub loads_superblock : IsAt ChangeStep.LoadsSuperblock → GateStepKeeps c w t hook (Phase.Mounts (change m ro wait task processors ChangeStep.LoadsSuperblock))
  loads_superblock e =
      no_role_load WordName.SbFlags ChangeStep.LoadsSuperblock (step_between ro (not (w.words.sb == 0))) e (refl, refl, λ d. tt)
      (between ro (not (w.words.sb == 0)))
