-- One task's record among all.
use Rattle.std.proofs.{Common.{◌≡◌, ℕ, ◌<◌, List, length, sym, subst, inl, inr, get_or-set_same, get_or-set_other}, lemmas.Bool.Decides.eqb_tells}
use Rattle.std.specs.Prelude.{slice_index_or, slice_set}
use Rattle.gate_transitions.specs.declared.task_states.TaskState.{TaskState}
use Rattle.gate_core.specs.Memory.{no_seat}

-- what holds of one record that is written and of each other one holds of each
pub seat_cases : (seats : List TaskState) (t : ℕ) (seat : TaskState) → t < length seats → (P : ℕ → TaskState → Type 0) (x : ℕ) → P t seat →
    ((x ≡ t → ⊥) → P x (slice_index_or seats x no_seat)) →
    P x (slice_index_or (slice_set seats t seat) x no_seat)
seat_cases seats t seat lt P x here there =
    elim (eqb_tells x t) [
      | inl e ↦
          subst (λ y. P y (slice_index_or (slice_set seats t seat) y no_seat)) (sym e.1)
          (subst (P t) (sym (get_or-set_same seats t seat no_seat lt)) here)
      | inr e ↦ subst (P x) (sym (get_or-set_other seats t x seat no_seat e.1)) (there e.1)
    ]
