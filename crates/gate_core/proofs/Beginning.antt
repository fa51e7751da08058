-- A beginning of the core shows what the transition makes of the state.
use Rattle.std.proofs.{Common.{◌≡◌, ℕ, ◌<◌, Bool, [], ◌∷◌, ◌++◌, length, get_or, sym, ap, ◌∙◌, subst, arith}, Math.ListN.length-set}
use Rattle.std.proofs.lemmas.{Bool.lt-ltb, List.get_or_default}
use Rattle.std.specs.Prelude.{is_some, Option, Some, None, Result, Ok, Err, slice_set}
use Rattle.finite_sums.{proofs.Totals.{update_at, update_off}, specs.Sums.update}
use Rattle.access_model.specs.declared.errors.GateError.{GateError}
use Rattle.gate_world.specs.{Beginnings.{first_phase, refusal, beginning}, Fits.Fits, Holdings.Agree, Views.{held_of, begun_view}}
use Rattle.gate_world.specs.{Worlds.{World, begin_refusal, happens, run, opening}, declared.{operations.Op.Op, views.View.View, work.Phase.Phase}}
use Rattle.gate_world.specs.declared.entries.Entry.{TheVariants.{Begins}}
use Rattle.gate_schedules.proofs.schedules.{Beginnings.{refusal_agree, may_begin, first_fits, ok_means, err_means}, Runs.run_more}
use Rattle.gate_core.proofs.Each.{seat_cases}
use Rattle.gate_transitions.specs.{Answers.{unless_refused, begin_answer}, TaskStates.{task_holdings}}
use Rattle.gate_transitions.specs.declared.task_states.TaskState.{TaskState}
use Rattle.gate_core.specs.{Memory.{Memory, Represents, IsSound, no_seat, seat_of}, Moves.{refusal_in, begun_of, begun}}

module _ (memory : Memory) (sound : IsSound memory) (t : ℕ) (lt : t < memory.config.tasks)
    (seat : TaskState) (seat_is : seat ≡ get_or memory.seats t seat)
    (under_way : Bool) (under_way_is : under_way ≡ is_some seat.phase) (op : Op) where
  same_seat : seat_of memory t ≡ seat
  same_seat = get_or_default memory.seats t no_seat seat (omega (arith, sound.seats)) ∙ sym seat_is

  -- the task's record, where it is read again
  pub seat_again : (again : TaskState) → again ≡ get_or memory.seats t again → seat ≡ again
  seat_again again again_is = seat_is ∙ get_or_default memory.seats t seat again (omega (arith, sound.seats)) ∙ sym again_is

  -- why the task can't begin the operation
  abbrev seat_refusal : Option GateError
  seat_refusal = refusal memory.config under_way (task_holdings seat) op

  -- what its beginning answers
  abbrev pub seat_beginning : Result Phase GateError
  seat_beginning = beginning memory.config t under_way (task_holdings seat) op

  pub refusal_told : refusal_in memory t op ≡ seat_refusal
  refusal_told =
      rw (lt-ltb t memory.config.tasks lt)
      (ap (λ (s : TaskState). refusal memory.config (is_some s.phase) (task_holdings s) op) same_seat ∙
      ap (λ b. refusal memory.config b (task_holdings seat) op) (sym under_way_is))

  module _ (w : World) (shows : Represents memory w) where
    phase_same : seat.phase ≡ (w.views t).phase
    phase_same = ap (λ (s : TaskState). s.phase) (sym same_seat) ∙ shows.phases t lt

    held_agrees : Agree memory.config (task_holdings seat) (held_of (w.views t))
    held_agrees = subst (λ (s : TaskState). Agree memory.config (task_holdings s) (held_of (w.views t))) same_seat (shows.held t lt)

    pub refusal_same : begin_refusal memory.config w t op ≡ seat_refusal
    refusal_same =
        rw (lt-ltb t memory.config.tasks lt)
        (sym (ap (λ b. refusal memory.config b (task_holdings seat) op)
        (under_way_is ∙ ap (λ (p : Option Phase). is_some p) phase_same) ∙
        refusal_agree memory.config (task_holdings seat) (held_of (w.views t)) held_agrees (is_some (w.views t).phase) op))

  module _ (refused : GateError) (answered : ◌≡◌ {A = Result Phase GateError} (Err refused) seat_beginning) where
    refused_is : seat_refusal ≡ Some refused
    refused_is = err_means (first_phase memory.config t op) seat_refusal refused answered

    -- a refused beginning changes nothing
    pub refused_shows : (w : World) → Represents memory w → Represents memory (happens memory.config w (Begins t op))
    refused_shows w shows = rw (refusal_same w shows ∙ refused_is) shows

    pub refused_answer : (w : World) → Represents memory w →
        ◌≡◌ {A = Result (Unit {0}) GateError} (Err refused) (begin_answer memory.config w t op)
    refused_answer w shows = sym (ap unless_refused (refusal_same w shows ∙ refused_is))

    pub refused_told : ◌≡◌ {A = Result (Unit {0}) GateError} (Err refused) (unless_refused (refusal_in memory t op))
    refused_told = sym (ap unless_refused (refusal_told ∙ refused_is))

    pub refused_begun : memory ≡ begun memory t op
    refused_begun = sym (ap (begun_of memory t op) (refusal_told ∙ refused_is))

  module _ (phase : Phase) (answered : ◌≡◌ {A = Result Phase GateError} (Ok phase) seat_beginning) where
    none_refused : seat_refusal ≡ None
    none_refused = (ok_means (first_phase memory.config t op) seat_refusal phase answered).0

    phase_is : phase ≡ first_phase memory.config t op
    phase_is = (ok_means (first_phase memory.config t op) seat_refusal phase answered).1

    -- the task has begun
    abbrev seat_after : TaskState
    seat_after = record { phase = Some phase; accesses = seat.accesses }

    abbrev memory_after : Memory
    memory_after = record { config = memory.config; words = memory.words; seats = slice_set memory.seats t seat_after }

    pub begin_told : ◌≡◌ {A = Result (Unit {0}) GateError} (Ok tt) (unless_refused (refusal_in memory t op))
    begin_told = sym (ap unless_refused (refusal_told ∙ none_refused))

    pub begin_begun : memory_after ≡ begun memory t op
    begin_begun =
        ap (λ (s : TaskState). record { config = memory.config; words = memory.words; seats = slice_set memory.seats t s })
        (λ i. record { phase = Some (phase_is i); accesses = (sym same_seat i).accesses }) ∙
        sym (ap (begun_of memory t op) (refusal_told ∙ none_refused))

    some_seat : t < length memory.seats
    some_seat = omega (arith, sound.seats)

    pub begin_answers : (w : World) → Represents memory w → ◌≡◌ {A = Result (Unit {0}) GateError} (Ok tt) (begin_answer memory.config w t op)
    begin_answers w shows = sym (ap unless_refused (refusal_same w shows ∙ none_refused))

    pub begin_shows : (w : World) → Represents memory w → Represents memory_after (happens memory.config w (Begins t op))
    begin_shows w shows =
        let view : View = begun_view (w.views t) op (first_phase memory.config t op) in
        rw (refusal_same w shows ∙ none_refused) (record {
          words = shows.words;
          phases = λ x lx. seat_cases memory.seats t seat_after some_seat
              (λ y s. y < memory.config.tasks → s.phase ≡ (update w.views t view y).phase) x
              (λ l. ap (λ p. Some p) phase_is ∙ ap (λ (v : View). v.phase) (sym (update_at w.views t view)))
              (λ ne l. shows.phases x l ∙ ap (λ (v : View). v.phase) (sym (update_off w.views t view x ne))) lx;
          held = λ x lx. seat_cases memory.seats t seat_after some_seat
              (λ y s. y < memory.config.tasks → Agree memory.config (task_holdings s) (held_of (update w.views t view y))) x
              (λ l. subst (λ (v : View). Agree memory.config (task_holdings seat_after) (held_of v)) (sym (update_at w.views t view)) (held_agrees w shows))
              (λ ne l. subst (λ (v : View). Agree memory.config (task_holdings (seat_of memory x)) (held_of v)) (sym (update_off w.views t view x ne))
              (shows.held x l)) lx;
        })

    seat_fits : Fits memory.config t (task_holdings seat) (Some phase)
    seat_fits =
        subst (λ p. Fits memory.config t (task_holdings seat) (Some p)) (sym phase_is)
        (first_fits memory.config t under_way (task_holdings seat) op (may_begin memory.config under_way (task_holdings seat) op none_refused))

    pub begin_sound : IsSound memory_after
    begin_sound = record {
      within = sound.within;
      words = sound.words;
      seats = length-set memory.seats t seat_after ∙ sound.seats;
      mounts = λ x lx. seat_cases memory.seats t seat_after some_seat (λ y s. y < memory.config.tasks → length s.accesses.mounts ≡ 8) x
          (λ l. ap (λ (s : TaskState). length s.accesses.mounts) (sym same_seat) ∙ sound.mounts t lt) (λ ne l. sound.mounts x l) lx;
      levels = λ x lx. seat_cases memory.seats t seat_after some_seat (λ y s. y < memory.config.tasks → length s.accesses.levels ≡ 4) x
          (λ l. ap (λ (s : TaskState). length s.accesses.levels) (sym same_seat) ∙ sound.levels t lt) (λ ne l. sound.levels x l) lx;
      files = λ x lx. seat_cases memory.seats t seat_after some_seat (λ y s. y < memory.config.tasks → length s.accesses.files ≡ 64) x
          (λ l. ap (λ (s : TaskState). length s.accesses.files) (sym same_seat) ∙ sound.files t lt) (λ ne l. sound.files x l) lx;
      fits = λ x lx. seat_cases memory.seats t seat_after some_seat
          (λ y s. y < memory.config.tasks → Fits memory.config y (task_holdings s) s.phase) x
          (λ l. seat_fits) (λ ne l. sound.fits x l) lx;
      reached = (
        sound.reached.0 ++ Begins t op ∷ [],
        subst (Represents memory_after) (sym (run_more memory.config opening sound.reached.0 (Begins t op)))
            (begin_shows (run memory.config opening sound.reached.0) sound.reached.1),
      );
    }
