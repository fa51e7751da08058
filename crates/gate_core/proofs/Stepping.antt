-- One step of the core shows what the transition makes of the state.
use Rattle.std.proofs.{Common.{◌≡◌, ℕ, ◌<◌, [], ◌∷◌, ◌++◌, length, get_or, refl, sym, ap, ◌∙◌, subst, arith}, Math.ListN.length-set}
use Rattle.std.proofs.lemmas.{Bool.lt-ltb, List.get_or_default}
use Rattle.std.specs.Prelude.{Option, Some, slice_index, slice_set}
use Rattle.finite_sums.{proofs.Totals.{update_at, update_off}, specs.Sums.update}
use Rattle.access_model.specs.declared.{actions.Action.Action, replies.Next.Next}
use Rattle.cpu_words.proofs.Places.{written}
use Rattle.cpu_words.specs.{Hooks.HookAnswer, Names.{IsWord, place}, Touches.{left, found_by, event_of}, Words.{read, put}}
use Rattle.cpu_words.specs.declared.{events.{Event.Event, Touch.Touch}, names.WordName.WordName}
use Rattle.gate_world.specs.{Accesses.{held_in, accesses_after}, Configs.extents_kept, Fits.{PhaseFits, Fits, ActionFits}}
use Rattle.gate_world.specs.{Holdings.{Holdings, Agree, held_after}, Views.{held_of, phase_after, view_after}, Work.{next_of, after_of}}
use Rattle.gate_world.specs.{Worlds.{World, after_step, happens, run, opening}, declared.entries.Entry.TheVariants.{Steps}}
use Rattle.gate_world.specs.declared.{accesses.Accesses.Accesses, config.Config.Config, views.View.View, work.Phase.Phase}
use Rattle.gate_schedules.proofs.frames.{Accesses.{holdings_of_after, long_after, wide_after, deep_after, agree_after}, Agreeing.{agree_self, agree_sym}}
use Rattle.gate_schedules.proofs.{frames.Places.are_few, schedules.{Phases.{word_there, word_placed, action_fits, fits_after, fits_agree}, Runs.run_more}}
use Rattle.gate_core.proofs.Each.{seat_cases}
use Rattle.gate_transitions.specs.{Answers.{progress_of, step_answer}, TaskStates.{task_holdings}, declared.task_states.TaskState.{TaskState}}
use Rattle.gate_transitions.specs.declared.steps.{Progress.{Progress}, Step.{Step}}
use Rattle.gate_core.specs.Memory.{Memory, Represents, IsSound, no_seat, seat_of}
use Rattle.gate_core.specs.{Moves.{phase_in, stepped_of, stepped, progress_by, progress_in}, Stepped.{IsStep}}

module _ (memory : Memory) (sound : IsSound memory) (t : ℕ) (lt : t < memory.config.tasks) (phase : Phase)
    (is : (seat_of memory t).phase ≡ Some phase) (hook : HookAnswer) where
  abbrev config : Config
  config = memory.config

  -- what the task holds before the step
  abbrev accesses : Accesses
  accesses = (seat_of memory t).accesses

  abbrev held : Holdings
  held = held_in accesses

  -- the word of the step, and what it does to it
  abbrev name : WordName
  name = (next_of phase hook).0

  abbrev touch : Touch
  touch = (next_of phase hook).1

  -- what the word is
  abbrev value : ℕ
  value = slice_index memory.words (place name)

  -- what comes after a step on a word of this value
  abbrev done_at : ℕ → Next Phase × Option Action
  done_at n = after_of phase (found_by touch n) hook

  abbrev done : Next Phase × Option Action
  done = done_at value

  -- the task's record and the memory after the step
  abbrev seat_after : TaskState
  seat_after = record { phase = phase_after done.0; accesses = accesses_after accesses done.1 }

  abbrev pub memory_after : Memory
  memory_after = record {
    config = config;
    words = slice_set memory.words (place name) (left touch value);
    seats = slice_set memory.seats t seat_after;
  }

  phase_fits : PhaseFits config t held phase
  phase_fits = subst (Fits config t held) is (sound.fits t lt)

  there : IsWord (extents_kept config) name
  there = word_there config sound.within t held lt phase hook phase_fits

  pub place_fits : place name < length memory.words
  place_fits = omega (arith, sound.words, word_placed config sound.within t held (omega (arith, lt, sound.within.tasks)) phase hook phase_fits)

  pub acts : ActionFits held done.1
  acts = action_fits config sound.within t held phase (found_by touch value) hook phase_fits

  some_seat : t < length memory.seats
  some_seat = omega (arith, sound.seats)

  -- what the record holds then agrees, where what it held does
  held_then : (seen : Holdings) → Agree config held seen → Agree config (task_holdings seat_after) (held_after done.1 seen)
  held_then seen same = agree_after config accesses (sound.mounts t lt) (sound.levels t lt) (sound.files t lt) seen done.1 acts same

  pub words_shown : (w : World) → Represents memory w → value ≡ read w.words name
  words_shown w shows = shows.words name there

  pub phase_shown : (w : World) → Represents memory w → (w.views t).phase ≡ Some phase
  phase_shown w shows = sym (shows.phases t lt) ∙ is

  module _ (w : World) (shows : Represents memory w) where
    -- the view after the step
    abbrev view : View
    view = view_after (w.views t) phase (read w.words name) hook

    done_same : done ≡ done_at (read w.words name)
    done_same = ap done_at (words_shown w shows)

    held_shown : Agree config (task_holdings seat_after) (held_of view)
    held_shown =
        subst (Agree config (task_holdings seat_after))
        (ap (λ (d : Next Phase × Option Action). held_after d.1 (held_of (w.views t))) done_same ∙
        sym (holdings_of_after (done_at (read w.words name)).1 (w.views t).actions))
        (held_then (held_of (w.views t)) (shows.held t lt))

    -- the words after the step
    words_after_shown : (n : WordName) → IsWord (extents_kept config) n →
        slice_index memory_after.words (place n) ≡ read (after_step w t phase hook).words n
    words_after_shown n rn =
        written (extents_kept config) (are_few config sound.within) (λ place. place) (λ i j q. q)
        memory.words w.words name (left touch value) place_fits there shows.words n rn ∙
        ap (λ y. read (put w.words name (left touch y)) n) (words_shown w shows)

    stepped_shown : Represents memory_after (after_step w t phase hook)
    stepped_shown = record {
      words = words_after_shown;
      phases = λ x lx. seat_cases memory.seats t seat_after some_seat
          (λ y s. y < config.tasks → s.phase ≡ (update w.views t view y).phase) x
          (λ l. ap (λ (d : Next Phase × Option Action). phase_after d.0) done_same ∙
          ap (λ (v : View). v.phase) (sym (update_at w.views t view)))
          (λ ne l. shows.phases x l ∙ ap (λ (v : View). v.phase) (sym (update_off w.views t view x ne))) lx;
      held = λ x lx. seat_cases memory.seats t seat_after some_seat
          (λ y s. y < config.tasks → Agree config (task_holdings s) (held_of (update w.views t view y))) x
          (λ l. subst (λ (v : View). Agree config (task_holdings seat_after) (held_of v)) (sym (update_at w.views t view)) held_shown)
          (λ ne l. subst (λ (v : View). Agree config (task_holdings (seat_of memory x)) (held_of v)) (sym (update_off w.views t view x ne)) (shows.held x l))
          lx;
    }

    pub step_shows : Represents memory_after (happens config w (Steps t hook))
    step_shows = rw (lt-ltb t config.tasks lt, phase_shown w shows) stepped_shown

  seat_fits : Fits config t (task_holdings seat_after) (phase_after done.0)
  seat_fits =
      fits_agree config t (held_after done.1 held) (task_holdings seat_after) (agree_sym (held_then held agree_self))
      (phase_after done.0) (fits_after config sound.within t held phase (found_by touch value) hook phase_fits)

  -- the memory after the step is sound
  pub step_sound : IsSound memory_after
  step_sound = record {
    within = sound.within;
    words = length-set memory.words (place name) (left touch value) ∙ sound.words;
    seats = length-set memory.seats t seat_after ∙ sound.seats;
    mounts = λ x lx. seat_cases memory.seats t seat_after some_seat (λ y s. y < config.tasks → length s.accesses.mounts ≡ 8) x
        (λ l. long_after accesses done.1 ∙ sound.mounts t lt) (λ ne l. sound.mounts x l) lx;
    levels = λ x lx. seat_cases memory.seats t seat_after some_seat (λ y s. y < config.tasks → length s.accesses.levels ≡ 4) x
        (λ l. wide_after accesses done.1 ∙ sound.levels t lt) (λ ne l. sound.levels x l) lx;
    files = λ x lx. seat_cases memory.seats t seat_after some_seat (λ y s. y < config.tasks → length s.accesses.files ≡ 64) x
        (λ l. deep_after accesses done.1 ∙ sound.files t lt) (λ ne l. sound.files x l) lx;
    fits = λ x lx. seat_cases memory.seats t seat_after some_seat
        (λ y s. y < config.tasks → Fits config y (task_holdings s) s.phase) x
        (λ l. seat_fits) (λ ne l. sound.fits x l) lx;
    reached = (
      sound.reached.0 ++ Steps t hook ∷ [],
      subst (Represents memory_after) (sym (run_more config opening sound.reached.0 (Steps t hook)))
          (step_shows (run config opening sound.reached.0) sound.reached.1),
    );
  }

-- the same of the values that the code has
module _ (memory : Memory) (sound : IsSound memory) (t : ℕ) (lt : t < memory.config.tasks) (phase : Phase)
    (its_phase : (seat_of memory t).phase ≡ Some phase) (hook : HookAnswer)
    (next : WordName × Touch) (next_is : next ≡ next_of phase hook) (at : ℕ) (at_is : at ≡ place next.0) where
  -- the word's place, and what the list has there
  abbrev its_place : ℕ
  its_place = place (next_of phase hook).0

  abbrev its_value : ℕ
  its_value = slice_index memory.words its_place

  -- what comes after the step
  abbrev its_done : Next Phase × Option Action
  its_done = after_of phase (found_by (next_of phase hook).1 its_value) hook

  same_at : at ≡ its_place
  same_at = at_is ∙ ap (λ (n : WordName × Touch). place n.0) next_is

  pub at_small : at < length memory.words
  at_small = omega (arith, same_at, place_fits memory sound t lt phase its_phase hook)

  module _ (value : ℕ) (value_is : value ≡ get_or memory.words at value) (event : Event) (event_is : event ≡ event_of next.0 next.1 value)
      (done : Next Phase × Option Action) (done_is : done ≡ after_of phase event.found hook)
      (seat : TaskState) (seat_is : seat ≡ get_or memory.seats t seat) where
    same_value : value ≡ its_value
    same_value = value_is ∙ (get_or_default memory.words at value 0 at_small ∙ ap (λ i. slice_index memory.words i) same_at)

    same_event : event ≡ event_of (next_of phase hook).0 (next_of phase hook).1 its_value
    same_event = event_is ∙ (λ i. event_of (next_is i).0 (next_is i).1 (same_value i))

    same_done : done ≡ its_done
    same_done = done_is ∙ ap (λ (e : Event). after_of phase e.found hook) same_event

    same_seat : seat_of memory t ≡ seat
    same_seat = get_or_default memory.seats t no_seat seat (omega (arith, sound.seats)) ∙ sym seat_is

    pub may_act : ActionFits (task_holdings seat) done.1
    may_act =
        subst (λ (s : TaskState). ActionFits (task_holdings s) done.1) same_seat
        (subst (λ (d : Next Phase × Option Action). ActionFits (task_holdings (seat_of memory t)) d.1) (sym same_done)
        (acts memory sound t lt phase its_phase hook))

    module _ (progress : Progress × Option Phase) (progress_is : progress ≡ (progress_of done.0, phase_after done.0))
        (accesses : Accesses) (accesses_is : accesses ≡ accesses_after seat.accesses done.1) where
      abbrev left_memory : Memory
      left_memory = record {
        config = memory.config;
        words = slice_set memory.words at event.left;
        seats = slice_set memory.seats t (record { phase = progress.1; accesses = accesses });
      }

      -- the memory that the code leaves is the one after the step
      same_memory : left_memory ≡ memory_after memory sound t lt phase its_phase hook
      same_memory =
          let come : progress.1 ≡ phase_after its_done.0 =
          ap (λ (p : Progress × Option Phase). p.1) progress_is ∙ ap (λ (d : Next Phase × Option Action). phase_after d.0) same_done in
          let kept : accesses ≡ accesses_after (seat_of memory t).accesses its_done.1 =
          accesses_is ∙ (λ i. accesses_after (sym same_seat i).accesses (same_done i).1) in
          λ i. record {
            config = memory.config;
            words = slice_set memory.words (same_at i) (same_event i).left;
            seats = slice_set memory.seats t (record { phase = come i; accesses = kept i });
          }

      -- the task's phase, as it is said of the memory
      told_phase : phase_in memory t ≡ Some phase
      told_phase = rw (lt-ltb t memory.config.tasks lt) its_phase

      -- and what is said of it after the step
      stepped_after : left_memory ≡ stepped memory t hook
      stepped_after = same_memory ∙ sym (ap (stepped_of memory t hook) told_phase)

      progress_after : progress.0 ≡ progress_in memory t hook
      progress_after =
          ap (λ (p : Progress × Option Phase). p.0) progress_is ∙ ap (λ (d : Next Phase × Option Action). progress_of d.0) same_done ∙
          sym (ap (progress_by memory hook) told_phase)

      -- so it is sound
      pub sound_after : IsSound left_memory
      sound_after = subst IsSound (sym same_memory) (step_sound memory sound t lt phase its_phase hook)

      -- and shows what the transition makes of the state
      shows_after : (w : World) → Represents memory w → Represents left_memory (happens memory.config w (Steps t hook))
      shows_after w shows =
          subst (λ m. Represents m (happens memory.config w (Steps t hook))) (sym same_memory)
          (step_shows memory sound t lt phase its_phase hook w shows)

      answer_after : (w : World) → Represents memory w →
          ◌≡◌ {A = Step} (record { event = Some event; action = done.1; progress = progress.0 }) (step_answer memory.config w t hook)
      answer_after w shows =
          let told : progress.0 ≡ progress_of done.0 = ap (λ (p : Progress × Option Phase). p.0) progress_is in
          let found : its_value ≡ read w.words (next_of phase hook).0 = words_shown memory sound t lt phase its_phase hook w shows in
          let answer : ℕ → Step = λ v. record {
            event = Some (event_of (next_of phase hook).0 (next_of phase hook).1 v);
            action = (after_of phase (found_by (next_of phase hook).1 v) hook).1;
            progress = progress_of (after_of phase (found_by (next_of phase hook).1 v) hook).0;
          } in
          let whole : ◌≡◌ {A = Step} (record { event = Some event; action = done.1; progress = progress.0 }) (answer its_value) =
          λ i. record {
            event = Some (same_event i);
            action = (same_done i).1;
            progress = (told ∙ ap (λ (d : Next Phase × Option Action). progress_of d.0) same_done) i;
          } in
          rw (lt-ltb t memory.config.tasks lt, phase_shown memory sound t lt phase its_phase hook w shows) (whole ∙ ap answer found)

      pub is_step : IsStep memory left_memory t hook (record { event = Some event; action = done.1; progress = progress.0 })
      is_step = record { config = refl; answer = answer_after; shows = shows_after; progress = progress_after; memory = stepped_after }
