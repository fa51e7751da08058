-- A play that some schedule leads to, one transition on.
use Rattle.std.proofs.Common.{◌≡◌, ℕ, refl, sym, ap, subst, ◌∙◌, List, [], ◌∷◌, ◌++◌}
use Rattle.std.specs.Prelude.{Bool, true, false, if◌then◌else◌, nat_lt, Option, Some, None}
use Rattle.access_model.specs.{States.{State}, Actions.{IsAllowed}, Histories.{Done, end_of}, declared.actions.Action.{Action}}
use Rattle.cpu_words.specs.Hooks.{HookAnswer}
use Rattle.gate_world.specs.{declared.{config.Config.{Config}, work.Phase.{Phase}}, Configs.{model_limits}, Rules.{Moves}}
use Rattle.gate_world.specs.Worlds.{World, happens, run, history, opening, action_of, phase_action, task_of, with_action}
use Rattle.gate_world.specs.{declared.entries.Entry.{Entry, TheVariants.{Steps}}, Shown.{shown}}
use Rattle.gate_transitions.specs.{Answers.{step_answer, phase_step, idle_step}, declared.steps.Step.{Step}}
use Rattle.gate_schedules.proofs.schedules.HeadlineProof.{whole_run, whole_moves}
use Rattle.transcripts.specs.{Transcript.{ReplayState, played}, Reached.{IsReached}}

-- a run of one transition more
run_more : (c : Config) (w : World) (es : List Entry) (e : Entry) → run c w (es ++ e ∷ []) ≡ happens c (run c w es) e
run_more c w [] e = refl
run_more c w (x ∷ es) e = run_more c (happens c w x) es e

-- the actions of one transition more
history_more : (c : Config) (w : World) (earlier : List Done) (es : List Entry) (e : Entry) →
    history c w earlier (es ++ e ∷ []) ≡ with_action (task_of e) (action_of c (run c w es) e) (history c w earlier es)
history_more c w earlier [] e = refl
history_more c w earlier (x ∷ es) e = history_more c (happens c w x) (with_action (task_of x) (action_of c w x) earlier) es e

-- the play after a transition is reached where the play before it is
pub reached_more : (p : ReplayState) (e : Entry) → IsReached p → IsReached (played p e)
reached_more p e h =
    let now = run p.config opening h.entries in
    record {
      within = h.within;
      entries = h.entries ++ e ∷ [];
      world = ap (λ (w : World). happens p.config w e) h.world ∙ sym (run_more p.config opening h.entries e);
      done = ap (λ (w : World). with_action (task_of e) (action_of p.config w e) p.done) h.world
          ∙ ap (λ (d : List Done). with_action (task_of e) (action_of p.config now e) d) h.done
          ∙ sym (history_more p.config opening [] h.entries e);
    }

-- an action by which a schedule moves is allowed
allowed_by : (c : Config) (s new s_new : State) (t : ℕ) (o : Option Action) (a : Action) → Moves c s t o new → o ≡ Some a →
    IsAllowed (model_limits c) s t a
allowed_by c s new s_new t o a h e = (subst (λ (x : Option Action). Moves c s t x new) e h).0

-- an action that a step adds is allowed in the state after the actions so far
pub allowed : (p : ReplayState) (e : Entry) (a : Action) → IsReached p → action_of p.config p.world e ≡ Some a →
    IsAllowed (model_limits p.config) (end_of p.done) (task_of e) a
allowed p e a h added =
    let c = p.config in
    let now = run c opening h.entries in
    let there : action_of c now e ≡ Some a = ap (λ (w : World). action_of c w e) (sym h.world) ∙ added in
    let state : shown c now ≡ end_of p.done = sym (whole_run c h.within h.entries).end ∙ ap end_of (sym h.done) in
    subst (λ (s : State). IsAllowed (model_limits c) s (task_of e) a) state
    (allowed_by c (shown c now) (shown c (happens c now e)) (end_of p.done) (task_of e) (action_of c now e) a
    (whole_moves c h.within h.entries e) there)

-- the action of a step, by the task's phase
phase_adds : (w : World) (hook : HookAnswer) (o : Option Phase) → (phase_step w hook o).action ≡ phase_action w hook o
phase_adds w hook None = refl
phase_adds w hook (Some phase) = refl

-- the same where there may be no such task
cond_adds : (b : Bool) (s : Step) (o : Option Action) → s.action ≡ o → (if b then s else idle_step).action ≡ (if b then o else None)
cond_adds true s o e = e
cond_adds false s o e = refl

-- the action of a step is the one that its transition adds
pub step_adds : (c : Config) (w : World) (t : ℕ) (hook : HookAnswer) → (step_answer c w t hook).action ≡ action_of c w (Steps t hook)
step_adds c w t hook =
    let phase = (w.views t).phase in
    cond_adds (nat_lt t c.tasks) (phase_step w hook phase) (phase_action w hook phase) (phase_adds w hook phase)
