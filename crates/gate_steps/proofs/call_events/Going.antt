-- What a step leaves of a task's fields and view.
use Rattle.gate_steps.proofs.Prelude.{Accesses, Action, Bool, Config, DealtNumbers, Entry, Event, HasWitness, HookAnswer, List, Next, None, Numbered}
use Rattle.gate_steps.proofs.Prelude.{Op, Option, Phase, SeatedTask, Some, Stepped, Touch, View, WordName, after_of, ap, arith, done_by, entered}
use Rattle.gate_steps.proofs.Prelude.{event_of, found_by, held_of, items_after, knows, next_of, numbered, phase_after, progress_of, refl, subst, sym}
use Rattle.gate_steps.proofs.Prelude.{view_after_with_others, ℕ, ◌∙◌, ◌≡◌}
use Rattle.std.proofs.lemmas.Grind.{common_steps}
use Rattle.atomic_table.specs.Seated.{TableId}
use Rattle.gate_schedules.proofs.frames.{Accesses.{agree_after, deep_after, holdings_of_after, long_after, wide_after}, Agreeing.agree_sym}
use Rattle.gate_schedules.proofs.schedules.Phases.{action_fits, fits_after, fits_agree}
use Rattle.gate_transitions.specs.{TaskStates.task_holdings, declared.{steps.Progress.Progress, task_states.TaskState.TaskState}}
use Rattle.gate_world.specs.{Accesses.accesses_after, Fits.{ActionFits, Fits, PhaseFits}, Holdings.{Agree, held_after, holdings_of}}
use Rattle.gate_steps.specs.call_events.{GhostAgrees.{GhostAgrees, OwnNumberAgrees, PhaseOk}, SeatedTasks.task_state, Stepped.state_after}

-- a view stands where its phase says
phase_ok : (c : Config) (n : ℕ) (v : View) (o : Option Phase) → v.phase ≡ o → PhaseOk c None o (numbered n v)
phase_ok c n v o e = grind arith

-- a beginning leaves the accesses
pub entered_actions : (v : View) (begins : Option Op) (phase : Phase) → (entered v begins phase).actions ≡ v.actions
entered_actions v begins phase = grind arith

module _ (number : ℕ) (c : Config) (begins : Option Op) (state : TaskState) (flags : List Bool) (phase : Phase) (is : state.phase ≡ Some phase)
    (hook : HookAnswer) (found : ℕ) where
  -- what comes after the step, and its action
  abbrev done : Next Phase × Option Action
  done = after_of phase (found_by (next_of phase hook).1 found) hook

  -- what is kept after it
  abbrev kept_after : TaskState
  kept_after = record { phase = phase_after done.0; accesses = accesses_after state.accesses done.1 }

  module _ (x : Numbered) (xs : DealtNumbers) (ghost_agrees : OwnNumberAgrees number c begins state flags x xs) where
    -- the own view with which the step begins
    abbrev v : View
    v = entered x.view begins phase

    -- and after it
    abbrev seen : View
    seen = view_after_with_others (done_by xs) v phase found hook

    -- the phase fits the view
    fits_seen : PhaseFits c x.number (held_of x.view) phase
    fits_seen = subst (Fits c x.number (held_of x.view)) is ghost_agrees.fits

    -- and what is kept
    fits_kept : PhaseFits c x.number (task_holdings state) phase
    fits_kept = fits_agree c x.number (held_of x.view) (task_holdings state) (agree_sym ghost_agrees.keeps.held) (Some phase) fits_seen

    -- the action can be done on what is kept
    acts_kept : ActionFits (task_holdings state) done.1
    acts_kept = action_fits c ghost_agrees.within x.number (task_holdings state) phase (found_by (next_of phase hook).1 found) hook fits_kept

    -- what the view holds after the action
    held_seen : held_of seen ≡ held_after done.1 (held_of x.view)
    held_seen = holdings_of_after done.1 v.actions ∙ ap (λ (l : List Action). held_after done.1 (holdings_of l))
        (entered_actions x.view begins phase)

    -- the fields and the own view agree after the step
    ghost_agrees_after : OwnNumberAgrees number c None kept_after flags (numbered x.number seen) xs
    ghost_agrees_after = record {
      within = ghost_agrees.within;
      same_number = ghost_agrees.same_number;
      below = ghost_agrees.below;
      may = phase_ok c x.number seen (phase_after done.0) refl;
      fits =
          subst (λ h. Fits c x.number h (phase_after done.0)) (sym held_seen)
          (fits_after c ghost_agrees.within x.number (held_of x.view) phase (found_by (next_of phase hook).1 found) hook fits_seen);
      keeps = record {
        long = long_after state.accesses done.1 ∙ ghost_agrees.keeps.long;
        wide = wide_after state.accesses done.1 ∙ ghost_agrees.keeps.wide;
        deep = deep_after state.accesses done.1 ∙ ghost_agrees.keeps.deep;
        held = subst (Agree c (task_holdings kept_after)) (sym held_seen)
            (agree_after c state.accesses ghost_agrees.keeps.long ghost_agrees.keeps.wide ghost_agrees.keeps.deep (held_of x.view) done.1 acts_kept ghost_agrees.keeps.held);
      };
      rest = ghost_agrees.rest;
      marks = ghost_agrees.marks;
    }

  -- the fields that follow a step are what the seat knows after it
  pub matches_after : (items : DealtNumbers) → GhostAgrees number c begins state flags items →
      GhostAgrees number c None kept_after flags (items_after begins phase hook found items)
  matches_after items t = grind (arith, common_steps, ghost_agrees_after)

  -- and the action can be done
  pub acts_after : (items : DealtNumbers) → GhostAgrees number c begins state flags items → ActionFits (task_holdings state) done.1
  acts_after items t = grind arith

-- the same of the values that the code has
module _ (number : ℕ) (c : Config) (begins : Option Op) (state : TaskState) (flags : List Bool) (phase : Phase) (is : state.phase ≡ Some phase)
    (hook : HookAnswer) (items : DealtNumbers) (ghost_agrees : GhostAgrees number c begins state flags items)
    (next : WordName × Touch) (next_is : next ≡ next_of phase hook) (found : ℕ) (event : Event)
    (event_is : event ≡ event_of next.0 next.1 found)
    (done : Next Phase × Option Action) (done_is : done ≡ after_of phase event.found hook) where
  -- the step is the one of the phase
  pub same_event : event ≡ event_of (next_of phase hook).0 (next_of phase hook).1 found
  same_event = event_is ∙ ap (λ (n : WordName × Touch). event_of n.0 n.1 found) next_is

  -- and so is what comes after it
  pub same_done : done ≡ after_of phase (found_by (next_of phase hook).1 found) hook
  same_done = done_is ∙ ap (λ (e : Event). after_of phase e.found hook) same_event

  -- its action can be done
  pub may_add : ActionFits (task_holdings state) done.1
  may_add = subst (λ (d : Next Phase × Option Action). ActionFits (task_holdings state) d.1) (sym same_done)
      (acts_after number c begins state flags phase is hook found items ghost_agrees)

  module _ (progress : Progress × Option Phase) (progress_is : progress ≡ (progress_of done.0, phase_after done.0)) (accesses : Accesses)
      (accesses_is : accesses ≡ accesses_after state.accesses done.1)
      (after : DealtNumbers) (after_is : after ≡ items_after begins phase hook found items) where
    -- the phase after it
    same_phase : progress.1 ≡ phase_after (after_of phase (found_by (next_of phase hook).1 found) hook).0
    same_phase = ap (λ (p : Progress × Option Phase). p.1) progress_is ∙ ap (λ (d : Next Phase × Option Action). phase_after d.0) same_done

    -- the accesses after it
    same_accesses : accesses ≡ accesses_after state.accesses (after_of phase (found_by (next_of phase hook).1 found) hook).1
    same_accesses = accesses_is ∙ ap (λ (d : Next Phase × Option Action). accesses_after state.accesses d.1) same_done

    -- the fields that are left agree with the seat
    pub ghost_agrees_left : GhostAgrees number c None (record { phase = progress.1; accesses = accesses }) flags after
    ghost_agrees_left = grind (arith, accesses, same_phase, same_accesses, matches_after)

    -- the state that is left
    pub left_is : (seen gone : List (List Entry)) (table before : TableId) → table ≡ before → task_state table c None progress.1 (knows after gone) ≡
        state_after (task_state before c begins state.phase (knows items seen)) phase hook found gone
    left_is seen gone table before same =
        λ i. record { table = same i; config = c; begins = None; phase = same_phase i; items = after_is i; seen = gone }

    -- the step that the code has done, where the seat's own was such a move
    pub stepped_here : (seen gone : List (List Entry)) (table before : TableId) (now : SeatedTask) → table ≡ before →
        task_state before c begins state.phase (knows items seen) ≡ now → HasWitness c begins phase hook items found seen gone →
        (p : Phase) → now.phase ≡ Some p → Stepped p hook now (record { event = Some event; action = done.1; progress = progress.0 })
        (task_state table c None progress.1 (knows after gone))
    stepped_here seen gone table before now same view moves p at = grind arith
