-- A step that waits finds its blocker in the state in which it is done.
use Rattle.vfs_gates.proofs.Prelude.{AreMoves, Begins, Called, Config, DealtNumbers, Entry, GateError, HookAnswer, IsEventDuring, IsPrefix, List}
use Rattle.vfs_gates.proofs.Prelude.{Next, None, Numbered, Op, Option, Phase, Reply, Result, Some, Stepped, Traced, View, Wait, World, [], after_of}
use Rattle.vfs_gates.proofs.Prelude.{ap, append_assoc, arith, each_event, next_of, refl, state_of_trace, subst, sym, trace_state_after, world_after}
use Rattle.vfs_gates.proofs.Prelude.{ℕ, ◌++◌, ◌∙◌, ◌∷◌, ◌≡◌}
use Rattle.gate_schedules.proofs.schedules.HeadlineProof.{whole_waits}
use Rattle.gate_steps.{proofs.call_events.{Caused.found_again, Running.course_is}, specs.Histories.then_begins}
use Rattle.gate_steps.specs.{Seating.{HasWitness, NumberMayStep, entered, world_entered}, call_events.SeatedTasks.{SeatedTask, own_number}}
use Rattle.gate_steps.specs.call_events.{Spans.HappensAfter, Stepped.ToldIn, Waited.is_wait}
use Rattle.gate_transitions.specs.{Answers.progress_of, declared.steps.{Progress.TheVariants.Waiting, Step.Step}}
use Rattle.gate_world.specs.{Worlds.found_at, refusals.Waits.HasCulpritAmong, traces.TraceStates.{TraceState, trace_state_with}}
use Rattle.vfs_gates.specs.Blockers.{WasBlocked, WasBlockedDuring}

-- what comes next is a wait
waits_so : (next : Next Phase) → progress_of next ≡ Waiting → (again : Phase) × (next ≡ Wait again)
waits_so next is = grind arith

counted_so : (next : Next Phase) → is_wait next ≡ 1 → (again : Phase) × (next ≡ Wait again)
counted_so (Wait again) is = (again, refl)
counted_so next is = absurd (omega arith)

-- a beginning changes no word
pub same_words : (c : Config) (w : World) (t : ℕ) (begins : Option Op) → (world_entered c w t begins).words ≡ w.words
same_words c w t None = refl
same_words c w t (Some op) = refl

-- the own number is at the phase
pub at_it : (c : Config) (begins : Option Op) (phase : Phase) (x : Numbered) → NumberMayStep c begins phase x → (entered x.view begins phase).phase ≡ Some phase
at_it c None phase x may = may
at_it c (Some op) phase x may = refl

-- a schedule with a beginning goes on from what it went on from
pub on_begins : (t : ℕ) (begins : Option Op) (earlier past es : List Entry) → es ≡ then_begins t begins past → IsPrefix earlier past → IsPrefix earlier es
on_begins t None earlier past es is on = (on.0, is ∙ on.1)
on_begins t (Some op) earlier past es is on =
    (on.0 ++ Begins t op ∷ [], is ∙ (ap (λ (l : List Entry). l ++ Begins t op ∷ []) on.1 ∙ append_assoc earlier on.0 (Begins t op ∷ [])))

module _ (c : Config) (begins : Option Op) (phase : Phase) (hook : HookAnswer) (step : Step) (found : ℕ) (seen left : List (List Entry)) where
  blocked : (items : DealtNumbers) → step.progress ≡ Waiting → (move : HasWitness c begins phase hook items found seen left) →
      ToldIn c begins phase hook found items seen left move step → WasBlocked c items phase hook seen left
  blocked [] waits move told = absurd move
  blocked (x ∷ xs) waits move told =
      let t : ℕ = x.number in
      let es : List Entry = move.reached.entries in
      let w : World = world_after c es in
      let stands : (w.views t).phase ≡ Some phase =
      (move.reached.views t).phase ∙ (ap (λ (v : View). v.phase) move.stands ∙ at_it c begins phase x move.may) in
      let words : w.words ≡ move.world.words = move.reached.words ∙ same_words c move.world t begins in
      let told_so : progress_of (after_of phase (found_at move.world.words phase hook) hook).0 ≡ Waiting =
      sym (ap (λ (s : Step). s.progress) told) ∙ waits in
      let next = waits_so (after_of phase (found_at w.words phase hook) hook).0
      (ap (λ words. progress_of (after_of phase (found_at words phase hook) hook).0) words ∙ told_so) in record {
        entries = es;
        saw = λ k earlier there. on_begins t begins earlier move.past.reached.entries es move.begun (move.from.goes_on k earlier there);
        at = stands;
        blocker = whole_waits c move.within es t phase next.0 hook move.task stands next.1;
        leaves = move.leaves ∙ ap (λ (l : List Entry). l ∷ []) move.stepped;
      }

pub step_blocked : (phase : Phase) (hook : HookAnswer) (step : Step) (old left : SeatedTask) → Stepped phase hook old step left →
    step.progress ≡ Waiting → WasBlocked old.config old.items phase hook old.seen left.seen
step_blocked phase hook step old left stepped waits =
    blocked old.config old.begins phase hook step stepped.found old.seen left.seen old.items waits stepped.moves stepped.told

-- a step of a call that came to a wait
pub call_blocked : (op : Op) (old left : SeatedTask) (answer : Result Reply GateError) (called : Called op old left answer)
    (later earlier : List Traced) (e : Traced) → called.trace ≡ later ++ e ∷ earlier →
    is_wait (state_of_trace old.config (own_number old.items) op (e ∷ earlier)).comes ≡ 1 →
    WasBlockedDuring old.config old.items op earlier e old.seen left.seen
call_blocked op old left answer called later earlier e is waits =
    let c : Config = old.config in
    let t : ℕ = own_number old.items in
    let during : IsEventDuring c old.items op earlier e old.seen left.seen = each_event c op old.items old.seen left.seen later e earlier
    (subst (λ (l : List Traced). AreMoves c op old.items old.seen l left.seen) is called.moves) in
    let h : HappensAfter c t op earlier e during.entries = during.happens in
    let w : World = world_after c during.entries in
    let so_far : TraceState = state_of_trace c t op earlier in
    let finds : e.event.found ≡ found_at w.words h.phase e.hook =
    ap (λ (f : Traced). f.event.found) h.finds ∙ found_again (next_of h.phase e.hook).1 _ in
    let course : trace_state_after so_far.comes so_far.added e ≡ trace_state_with so_far.added (after_of h.phase e.event.found e.hook) =
    course_is so_far.comes h.phase so_far.added e h.comes in
    let there : is_wait (after_of h.phase (found_at w.words h.phase e.hook) e.hook).0 ≡ 1 =
    subst (λ n. is_wait (after_of h.phase n e.hook).0 ≡ 1) finds (sym (ap (λ (s : TraceState). is_wait s.comes) course) ∙ waits) in
    let next = counted_so (after_of h.phase (found_at w.words h.phase e.hook) e.hook).0 there in record {
      during = during;
      blocker = subst (λ (worlds : List World). HasCulpritAmong c worlds t h.phase) during.moments
          (whole_waits c during.within during.entries t h.phase next.0 e.hook during.task h.at next.1);
    }
