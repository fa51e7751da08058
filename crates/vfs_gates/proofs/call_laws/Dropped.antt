-- A step that meets what a dropped task has left.
use Rattle.vfs_gates.proofs.Prelude.{Config, DealtNumbers, Entry, HookAnswer, List, Op, Option, Phase, Some, Stepped, View, World, [], ap, subst, sym}
use Rattle.vfs_gates.proofs.Prelude.{whole_rule, world_after, ℕ, ◌∙◌, ◌∷◌, ◌≡◌}
use Rattle.gate_schedules.specs.operations.Progress.{IsUnderWay}
use Rattle.gate_steps.{proofs.call_events.Moments.run_append, specs.{Seating.HasWitness, call_events.SeatedTasks.SeatedTask}}
use Rattle.{gate_transitions.specs.declared.steps.Step.Step, gate_world.specs.Worlds.opening, progress_laws.proofs.blocked.NeverReplies.never_replies}
use Rattle.vfs_gates.{proofs.call_laws.Blocked.{at_it, on_begins}, specs.Dropped.MeetsDropped}

module _ (c : Config) (begins : Option Op) (phase : Phase) (hook : HookAnswer) (found : ℕ) (seen left : List (List Entry)) where
  meets : (items : DealtNumbers) → HasWitness c begins phase hook items found seen left → MeetsDropped c items phase hook seen left
  meets [] move = absurd move
  meets (x ∷ xs) move =
      let t : ℕ = x.number in
      let es : List Entry = move.reached.entries in
      let w : World = world_after c es in
      let stands : (w.views t).phase ≡ Some phase =
      (move.reached.views t).phase ∙ (ap (λ (v : View). v.phase) move.stands ∙ at_it c begins phase x move.may) in record {
        entries = es;
        saw = λ k earlier there. on_begins t begins earlier move.past.reached.entries es move.begun (move.from.goes_on k earlier there);
        at = stands;
        leaves = move.leaves ∙ ap (λ (l : List Entry). l ∷ []) move.stepped;
        no_reply = λ dropped met later others patient.
            subst (λ (v : World). IsUnderWay v t) (sym (run_append c es later opening))
            (never_replies c move.within dropped w (whole_rule c move.within es) t move.task phase stands met later others patient);
      }

pub step_meets : (phase : Phase) (hook : HookAnswer) (step : Step) (old left : SeatedTask) → Stepped phase hook old step left →
    MeetsDropped old.config old.items phase hook old.seen left.seen
step_meets phase hook step old left stepped = meets old.config old.begins phase hook stepped.found old.seen left.seen old.items stepped.moves
