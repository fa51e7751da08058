-- Whether an operation may begin, as a task's fields say.
use Rattle.vfs_gates.proofs.Prelude.{Bool, Config, Err, GateError, GhostAgrees, IsWithin, List, Ok, Op, Option, Phase, Result, SeatedTask, TaskState}
use Rattle.vfs_gates.proofs.Prelude.{[], ap, is_some, own_number, own_view, refl, refusal_at, sym, task_state, ℕ, ◌∙◌, ◌∷◌, ◌≡◌}
use Rattle.vfs_gates.specs.declared.task.Task.TheInside.{Inside}
use Rattle.gate_world.specs.{Beginnings.{first_phase, refusal}, Views.held_of}
use Rattle.gate_steps.{proofs.call_events.Beginnings.refusal_agree, specs.call_events.Answers.unless_refused}
use Rattle.gate_steps.specs.call_events.{Seating.DealtNumbers, TaskStates.task_holdings}

module _ (number : ℕ) (c : Config) (begins : Option Op) (state : TaskState) (flags : List Bool) where
  -- the configuration of a task is within its limits
  pub within : (l : DealtNumbers) → GhostAgrees number c begins state flags l → IsWithin c
  within [] t = absurd t
  within (x ∷ xs) t = t.within

  -- what is kept of accesses has the same refusal as the view
  refusal_same : (l : DealtNumbers) (op : Op) → GhostAgrees number c begins state flags l →
      refusal c (is_some state.phase) (task_holdings state) op ≡
      refusal c (is_some state.phase) (held_of (own_view l)) op
  refusal_same [] op t = absurd t
  refusal_same (x ∷ xs) op t =
      refusal_agree c (task_holdings state) (held_of x.view) t.keeps.held (is_some state.phase) op

  -- and the same number
  number_same : (l : DealtNumbers) → GhostAgrees number c begins state flags l → number ≡ own_number l
  number_same [] t = absurd t
  number_same (x ∷ xs) t = sym t.same_number

-- so the answer that the fields give is the task's
pub admitted_as : (op : Op) (task : Inside) (start : SeatedTask) →
    task_state task.seat.table_id task.config task.begins task.state.phase task.seat.me.0 ≡ start →
    GhostAgrees task.number task.config task.begins task.state task.spare task.seat.me.0.items → (under_way : Bool) →
    under_way ≡ is_some task.state.phase → (answer : Result (Unit {0}) GateError) →
    answer ≡ unless_refused (refusal task.config under_way (task_holdings task.state) op) → answer ≡ unless_refused (refusal_at op start)
admitted_as op task start start_is ghost_agrees under_way under_way_is answer is =
    let refused : refusal task.config under_way (task_holdings task.state) op ≡ refusal_at op start =
    ap (λ b. refusal task.config b (task_holdings task.state) op) under_way_is ∙
    refusal_same task.number task.config task.begins task.state task.spare task.seat.me.0.items op ghost_agrees ∙
    ap (refusal_at op) start_is in
    is ∙ ap unless_refused refused

-- an answer that refuses nothing admitted the operation
pub admitted_unless : (op : Op) (start : SeatedTask) (answer : Result (Unit {0}) GateError) → answer ≡ unless_refused (refusal_at op start) →
    ((refused : GateError) → answer ≡ Err refused → ⊥) → Ok tt ≡ unless_refused (refusal_at op start)
admitted_unless op start (Ok tt) is granted = is
admitted_unless op start (Err refused) is granted = absurd (granted refused refl)

-- what is the first phase as the task's state says is so as its fields say
pub first_so : (op : Op) (task : Inside) (start : SeatedTask) →
    task_state task.seat.table_id task.config task.begins task.state.phase task.seat.me.0 ≡ start →
    GhostAgrees task.number task.config task.begins task.state task.spare task.seat.me.0.items → (phase : Phase) →
    phase ≡ first_phase start.config (own_number start.items) op → phase ≡ first_phase task.config task.number op
first_so op task start start_is ghost_agrees phase is =
    is ∙ sym (ap (λ (n : ℕ). first_phase task.config n op)
    (number_same task.number task.config task.begins task.state task.spare task.seat.me.0.items ghost_agrees) ∙
    ap (λ (s : SeatedTask). first_phase s.config (own_number s.items) op) start_is)
