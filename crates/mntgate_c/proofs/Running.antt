-- Runs of steps, a step more at a time.
use Rattle.std.proofs.Common.{None, Ok, Some, ap, refl, suc, sym, zero, ℕ, ◌∙◌, ◌≡◌}
use Rattle.{access_model.specs.declared.replies.Next.{Next, TheVariants.{Done, Go, Wait}}, cpu_words.specs.{Hooks.HookAnswer, Touches.found_by}}
use Rattle.gate_steps.specs.call_events.Stepped.{Stepped}
use Rattle.gate_transitions.specs.{Answers.{asked_by, progress_of}, declared.steps.{Progress.{Progress, TheVariants.Going}, Step.Step}}
use Rattle.{gate_world.specs.{Views.phase_after, Work.{after_of, next_of}, declared.work.Phase.Phase}, vfs_gates.specs.TaskStates.SeatedTask}
use Rattle.mntgate_c.specs.Runs.{RunsOn, StepsOn}

-- where an operation goes on, a phase comes next
stands : (next : Next Phase) → progress_of next ≡ Going → (q : Phase) × (phase_after next ≡ Some q)
stands (Go q) is = (q, refl)
stands (Wait q) is = absurd (let f : ⊥ = cc in f)
stands (Done answer) is = absurd (let f : ⊥ = cc in f)

stepped_to : (phase : Phase) (hook : HookAnswer) (old left : SeatedTask) (step : Step) → Stepped phase hook old step left →
    step.progress ≡ Going → (q : Phase) × (left.phase ≡ Some q)
stepped_to phase hook old left step one is =
    let q = stands (after_of phase (found_by (next_of phase hook).1 one.found) hook).0 (sym (ap (λ (s : Step). s.progress) one.step) ∙ is) in
    (q.0, ap (λ (s : SeatedTask). s.phase) one.new ∙ q.1)

-- a first step, and so many more
abbrev pub Ran : Phase → HookAnswer → SeatedTask → ℕ → SeatedTask → Progress → Type 0
Ran phase hook old n left progress =
    (step : Step) × (first : SeatedTask) × Stepped phase hook old step first × RunsOn n first step.progress left progress

pub ran_to : (phase : Phase) (hook : HookAnswer) (old left : SeatedTask) (n : ℕ) → Ran phase hook old n left Going →
    (q : Phase) × (left.phase ≡ Some q)
ran_to phase hook old left zero ran =
    let q = stepped_to phase hook old ran.1 ran.0 ran.2 (sym ran.3.1) in (q.0, ap (λ (s : SeatedTask). s.phase) ran.3.0 ∙ q.1)
ran_to phase hook old left (suc n) ran =
    let last = ran.3.2 in stepped_to last.phase (Ok tt) ran.3.0 left last.step last.stepped (sym last.told)

-- a step more
pub one_more : (phase : Phase) (hook : HookAnswer) (old mid left : SeatedTask) (n : ℕ) (step : Step) → Ran phase hook old n mid Going →
    asked_by mid.phase ≡ None → ((q : Phase) → mid.phase ≡ Some q → Stepped q (Ok tt) mid step left) →
    Ran phase hook old (suc n) left step.progress
one_more phase hook old mid left n step ran unasked event =
    let q = ran_to phase hook old mid n ran in
    let last : StepsOn mid left step.progress = record { phase = q.0; at = q.1; unasked = unasked; step = step; told = refl; stepped = event q.0 q.1 } in
    (ran.0, ran.1, ran.2, (mid, ran.3, last))
