-- Sessions after a transition: they show the play after it.
use Rattle.std.proofs.Common.{◌≡◌, ℕ, sym, ap, subst, ◌∙◌, List}
use Rattle.std.specs.Prelude.{Option, Some, None, Result, Ok, Err, OnOk, IsOk}
use Rattle.access_model.specs.{States.{BoundedState}, Actions.{IsAllowed}, Histories.{Done, end_of}, declared.actions.Action.{Action}}
use Rattle.access_model.specs.declared.errors.GateError.{GateError}
use Rattle.model_state.specs.Shown.{bounded_state_of, bounded_state_after, limits_of as limits_in, state_of}
use Rattle.cpu_words.specs.Hooks.{HookAnswer}
use Rattle.gate_world.specs.{Configs.{model_limits}, declared.{config.Config.{Config}, operations.Op.{Op}}}
use Rattle.gate_world.specs.Worlds.{World, happens, action_of, with_action, task_of}
use Rattle.gate_world.specs.declared.entries.Entry.{Entry, TheVariants.{Begins, Steps}}
use Rattle.gate_transitions.specs.{Answers.{step_answer}, declared.steps.{Progress.{Progress}, Step.{Step}}}
use Rattle.schedule_lines.specs.declared.faults.Fault.{Fault}
use Rattle.transcripts.specs.{Transcript.{ReplayState, played, after_event}, Sessions.{ShowsPlay}, declared.session.Session.{Session}}
use Rattle.transcripts.proofs.Playing.{reached_more, allowed, step_adds}

-- the model after these actions, with one more where a transition adds one
abbrev model_after : Config → List Done → ℕ → Option Action → BoundedState
model_after c done t o = record { limits = model_limits c; state = end_of (with_action t o done) }

-- the gates after a transition show the state after it
abbrev DriverAfter : {D : Type 0} → (D → Config → World → Type 0) → Session D → Session D → Entry → Type 0
DriverAfter shows old new e = (c : Config) (w : World) → shows old.driver c w → shows new.driver c (happens c w e)

-- the gates answer a step by what their state says
abbrev StepAnswers : {D : Type 0} → (D → Config → World → Type 0) → Session D → ℕ → HookAnswer → Step → Type 0
StepAnswers shows old t hook r = (c : Config) (w : World) → shows old.driver c w → r ≡ step_answer c w t hook

-- the model after a transition that adds this
model_of : (s : BoundedState) (c : Config) (done : List Done) (t : ℕ) (o : Option Action) → s ≡ model_after c done t o →
    (o_is : Option Action) → o ≡ o_is → s ≡ model_after c done t o_is
model_of s c done t o h o_is e = subst (λ (x : Option Action). s ≡ model_after c done t x) e h

module _ {D : Type 0} {shows : D → Config → World → Type 0} where
  -- a session whose gates and model made a transition shows the play after it
  moved : (old new : Session D) (p : ReplayState) (e : Entry) → ShowsPlay shows old p → new.config ≡ old.config → DriverAfter shows old new e →
      bounded_state_of new.model ≡ model_after p.config p.done (task_of e) (action_of p.config p.world e) → ShowsPlay shows new (played p e)
  moved old new p e h same after model = record {
    config = same ∙ h.config;
    driver = after p.config p.world h.driver;
    model = model;
    reached = reached_more p e h.reached;
  }

  -- a beginning adds no action
  pub after_begin : (old new : Session D) (p : ReplayState) (t : ℕ) (op : Op) → ShowsPlay shows old p → new.config ≡ old.config → new.model ≡ old.model →
      DriverAfter shows old new (Begins t op) → ShowsPlay shows new (played p (Begins t op))
  after_begin old new p t op h same same_model after = moved old new p (Begins t op) h same after (ap bounded_state_of same_model ∙ h.model)

  -- the action of a step that was answered
  adds : (old : Session D) (p : ReplayState) (t : ℕ) (hook : HookAnswer) (r : Step) → ShowsPlay shows old p → StepAnswers shows old t hook r →
      action_of p.config p.world (Steps t hook) ≡ r.action
  adds old p t hook r h is = sym (ap (λ (s : Step). s.action) (is p.config p.world h.driver) ∙ step_adds p.config p.world t hook)

  -- a step that adds no action leaves the model
  pub stepped_none : (old new : Session D) (p : ReplayState) (t : ℕ) (hook : HookAnswer) (r : Step) → ShowsPlay shows old p → new.config ≡ old.config →
      StepAnswers shows old t hook r → DriverAfter shows old new (Steps t hook) → r.action ≡ None → new.model ≡ old.model →
      ShowsPlay shows new (after_event p t hook)
  stepped_none old new p t hook r h same is after none same_model =
      moved old new p (Steps t hook) h same after
      (model_of (bounded_state_of new.model) p.config p.done t None (ap bounded_state_of same_model ∙ h.model)
      (action_of p.config p.world (Steps t hook)) (sym (adds old p t hook r h is ∙ none)))

  -- a step that adds an action, which the model makes
  pub stepped_some : (old new : Session D) (p : ReplayState) (t : ℕ) (hook : HookAnswer) (r : Step) (a : Action) → ShowsPlay shows old p →
      new.config ≡ old.config → StepAnswers shows old t hook r → DriverAfter shows old new (Steps t hook) → r.action ≡ Some a →
      bounded_state_of new.model ≡ bounded_state_after (bounded_state_of old.model) t a → ShowsPlay shows new (after_event p t hook)
  stepped_some old new p t hook r a h same is moves some after =
      moved old new p (Steps t hook) h same moves
      (model_of (bounded_state_of new.model) p.config p.done t (Some a) (after ∙ ap (λ (s : BoundedState). bounded_state_after s t a) h.model)
      (action_of p.config p.world (Steps t hook)) (sym (adds old p t hook r h is ∙ some)))

  -- the action of a step is never refused
  pub not_refused : (old : Session D) (p : ReplayState) (t : ℕ) (hook : HookAnswer) (r : Step) (a : Action) → ShowsPlay shows old p →
      StepAnswers shows old t hook r → r.action ≡ Some a → IsAllowed (limits_in old.model) (state_of old.model) t a
  not_refused old p t hook r a h is some =
      subst (λ (s : BoundedState). IsAllowed s.limits s.state t a) (sym h.model)
      (allowed p (Steps t hook) a h.reached (adds old p t hook r h is ∙ some))

-- what is known of a call that went well
pub by_ok : (r : Result (Unit {0}) GateError) (P : Type 0) → OnOk r P → IsOk r → P
by_ok (Ok x) P h k = h
by_ok (Err e) P h k = cc

-- a step as an answer
abbrev yes : Step → Result Step Fault
yes s = Ok s

-- two answers that are the same are of the same step
pub same_step : (s answered : Step) → yes s ≡ yes answered → s ≡ answered
same_step s answered e = cc

-- how an operation stands as an answer
abbrev stands : Progress → Result Progress Fault
stands progress = Ok progress

-- two answers that are the same are of the same progress
pub same_progress : (progress answered : Progress) → stands progress ≡ stands answered → progress ≡ answered
same_progress progress answered e = cc
