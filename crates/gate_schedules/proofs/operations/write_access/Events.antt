-- The law of a step of a write access is that of its gate's step, made by a task that stands at the gate's phase.
use Rattle.gate_schedules.proofs.Prelude.{Action, Config, Fits, Fitting, Holdings, HookAnswer, IsGood, Moves, Next, Option, Phase, PhaseFits, Some}
use Rattle.gate_schedules.proofs.Prelude.{SyncStep, View, World, WritePhase, after_of, ap, arith, found_at, held_after, held_of, level_in, next_of}
use Rattle.gate_schedules.proofs.Prelude.{phase_after, shown, subst, update_at, ℕ, ◌<◌, ◌≡◌}
use Rattle.gate_schedules.proofs.frames.{PhaseSubstitution.{alike_of, made_keeps, rephased_good}, SameRolesOffTree.{made, made_runs_off_tree}}
use Rattle.gate_schedules.proofs.operations.write_access.Alike.{alike_plain}
use Rattle.gate_world.specs.{Fits.WriteFits, SameRoles.{SameRoles, at_phase, off_tree, rephased}, Work.inner_phase}

-- the phase of its gate fits
pub plain_fits : (c : Config) (t : ℕ) (held : Holdings) (x : WritePhase) → WriteFits c t held x → PhaseFits c t held (inner_phase x)
plain_fits c t held x f = grind arith

module _ (c : Config) (w : World) (good : IsGood c w) (t : ℕ) (lt : t < c.tasks) (hook : HookAnswer) (x : WritePhase)
    (e : (w.views t).phase ≡ Some (Phase.Writes x)) where
  pub write_fits_now : WriteFits c t (held_of (w.views t)) x
  write_fits_now = subst (Fits c t (held_of (w.views t))) e (good Fitting t lt)

  before : SameRoles (w.views t).phase (Some (inner_phase x))
  before = alike_of e (alike_plain x)

  fits_plain : Fits c t (held_of (w.views t)) (Some (inner_phase x))
  fits_plain = plain_fits c t (held_of (w.views t)) x write_fits_now

  -- what comes after the gate's step in the gate's own operation, and the action that it adds
  abbrev pub plain_after : Next Phase
  plain_after = (after_of (inner_phase x) (found_at w.words (inner_phase x) hook) hook).0

  -- the action that it adds
  abbrev pub plain_action : Option Action
  plain_action = (after_of (inner_phase x) (found_at w.words (inner_phase x) hook) hook).1

  -- the same step in a state with these words, after which this comes
  abbrev pub made_in : World → Next Phase → World
  made_in first coming = made first t (next_of (inner_phase x) hook) hook coming plain_action

  -- the task stands at the gate's phase
  abbrev pub first_world : World
  first_world = rephased w t (Some (inner_phase x))

  -- where the invariant holds of that state, the law of the gate's step
  abbrev pub PlainLaw : Type 0
  PlainLaw = IsGood c first_world → (first_world.views t).phase ≡ Some (inner_phase x) →
      IsGood c (made_in first_world plain_after) ×
      Moves c (shown c first_world) t plain_action (shown c (made_in first_world plain_after))

  -- is the law of the step after which the longer operation goes on
  pub write_step : PlainLaw → (coming : Next Phase) → SameRoles (phase_after plain_after) (phase_after coming) →
      Fits c t (held_after plain_action (held_of (w.views t))) (phase_after coming) →
      IsGood c (made_in w coming) × Moves c (shown c w) t plain_action (shown c (made_in w coming))
  write_step law coming after fits =
      made_keeps c w t lt (Some (inner_phase x)) (next_of (inner_phase x) hook) hook plain_after coming plain_action good before fits_plain law after
      fits

  -- where the invariant holds of that state, the gate's step there is one of this level's
  abbrev pub PlainRuns : ℕ → Type 0
  PlainRuns i = IsGood c first_world → (first_world.views t).phase ≡ Some (inner_phase x) →
      SyncStep c.tasks (level_in first_world i) (level_in (made_in first_world plain_after) i)

  -- so the step of the longer operation is the same kind of step of the level
  pub write_runs : (coming : Next Phase) → SameRoles (phase_after plain_after) (phase_after coming) → (i : ℕ) → PlainRuns i →
      SyncStep c.tasks (level_in w i) (level_in (made_in w coming) i)
  write_runs coming after i runs =
      made_runs_off_tree c w t lt (Some (inner_phase x)) (next_of (inner_phase x) hook) hook plain_after coming plain_action i (λ j. off_tree (before j))
      (runs (rephased_good c w t lt (Some (inner_phase x)) before fits_plain good)
      (ap (λ (u : View). u.phase) (update_at w.views t (at_phase (w.views t) (Some (inner_phase x)))))) (λ j. off_tree (after j))
