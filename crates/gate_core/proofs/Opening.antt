-- The memory as it begins shows the opening.
use Rattle.std.proofs.{Common.{◌≡◌, ℕ, zero, suc, ◌<◌, false, List, [], length, refl, arith, subst, sym}, lemmas.List.{length-replicate, get_or-replicate}}
use Rattle.std.specs.Prelude.{None, slice_index_or, replicate}
use Rattle.cpu_words.{proofs.Places.opening_listed, specs.{Lists.AreOpening, Names.words_in_all}}
use Rattle.gate_world.specs.{Configs.{IsWithin, extents_kept}, Fits.Fits, Holdings.{Agree, holdings_of}, Worlds.opening, declared.config.Config.Config}
use Rattle.gate_schedules.proofs.frames.Places.{are_few}
use Rattle.gate_transitions.specs.{TaskStates.{idle_task, task_holdings}, declared.task_states.TaskState.{TaskState}}
use Rattle.gate_core.specs.Memory.{Memory, Represents, IsSound, no_seat}

-- a list of one value has it at each place, and past its end where it is the default
one_value : {A : Type 0} (n i : ℕ) (x : A) → slice_index_or (replicate n x) i x ≡ x
one_value zero i x = refl
one_value (suc n) zero x = refl
one_value (suc n) (suc i) x = one_value n i x

module _ (c : Config) (within : IsWithin c) (words : List ℕ) (opens : AreOpening (λ place. place) words_in_all words) where
  abbrev memory : Memory
  memory = record { config = c; words = words; seats = replicate c.tasks idle_task }

  at_seat : (P : TaskState → Type 0) → P idle_task → (t : ℕ) → t < c.tasks → P (slice_index_or (replicate c.tasks idle_task) t no_seat)
  at_seat P p t lt = subst P (sym (get_or-replicate c.tasks t idle_task no_seat lt)) p

  none_held : Agree c (task_holdings idle_task) (holdings_of [])
  none_held = record { mounts = λ m lm. one_value 8 m 0; levels = λ i one three. one_value 4 i false; files = λ n. one_value 64 n false }

  pub opening_shown : Represents memory opening
  opening_shown = record {
    words =
        opening_listed (extents_kept c) (are_few c within) (λ place. place) (λ i j q. q) words_in_all words opens
        (omega (arith, within.some_node));
    phases = λ t lt. at_seat (λ (s : TaskState). s.phase ≡ None) refl t lt;
    held = at_seat (λ (s : TaskState). Agree c (task_holdings s) (holdings_of [])) none_held;
  }

  pub opening_sound : IsSound memory
  opening_sound = record {
    within = within;
    words = opens.long;
    seats = length-replicate c.tasks idle_task;
    mounts = at_seat (λ (s : TaskState). length s.accesses.mounts ≡ 8) (length-replicate {A = ℕ} 8 0);
    levels = at_seat (λ (s : TaskState). length s.accesses.levels ≡ 4) (length-replicate 4 false);
    files = at_seat (λ (s : TaskState). length s.accesses.files ≡ 64) (length-replicate 64 false);
    fits = λ t lt. at_seat (λ (s : TaskState). Fits c t (task_holdings s) s.phase) tt t lt;
    reached = ([], opening_shown);
  }
