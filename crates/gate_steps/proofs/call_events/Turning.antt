-- One step apart from the task: what it leaves of the fields, and which step of its operation it was.
use Rattle.gate_steps.proofs.Prelude.{Accesses, Action, Ask, Bool, Config, DealtNumbers, Entry, Event, HasWitness, HookAnswer, IsWithin}
use Rattle.gate_steps.proofs.Prelude.{Knowledge, List, Next, None, Op, Option, Phase, SeatedTask, Some, Stepped, after_of, ap, arith, asks_with}
use Rattle.gate_steps.proofs.Prelude.{call_at, event_of, held_of, items_after, knows, next_of, phase_after, place, progress_of, refl, subst, sym, ℕ}
use Rattle.gate_steps.proofs.Prelude.{◌<◌, ◌∙◌, ◌≡◌}
use Rattle.{atomic_table.specs.Seated.TableId, cpu_words.specs.Names.words_in_all, gate_schedules.proofs.schedules.Phases.word_placed}
use Rattle.gate_transitions.specs.declared.{steps.Step.Step, task_states.TaskState.TaskState}
use Rattle.gate_world.specs.{Accesses.{accesses_after, held_in}, Fits.ActionFits}
use Rattle.gate_steps.proofs.call_events.{Going.{ghost_agrees_left, may_add, stepped_here}, Running.{went_asking, went_on}}
use Rattle.gate_steps.specs.{Seating.OwnNumberMayStep, call_events.{Asking.{OpAfterStepWith, OpUnderWayWith}, GhostAgrees.GhostAgrees}}
use Rattle.gate_steps.specs.call_events.{Runs.{OpAfterStep, OpUnderWay}, SeatedTasks.task_state, Turns.{StateAgrees, state_at, step_was}}

-- before the step: the word is one of the table's, and the number may do the step
module _ (number : ℕ) (c : Config) (begins : Option Op) (phase : Phase) (accesses : Accesses) (flags : List Bool) (hook : HookAnswer) where
  -- the word of the step is one of the table's
  word_inside : (l : DealtNumbers) → GhostAgrees number c begins (state_at (Some phase) accesses) flags l → place (next_of phase hook).0 < words_in_all
  word_inside l t = grind (arith, word_placed, held_of)

-- the same of the configuration as the table names it
module _ (c key : Config) (same_key : key ≡ c) (begins : Option Op) (phase : Phase) (accesses : Accesses) (items : DealtNumbers)
    (agrees : StateAgrees c begins (Some phase) accesses items) (hook : HookAnswer) where
  -- the word is inside
  pub inside_so : place (next_of phase hook).0 < words_in_all
  inside_so = word_inside agrees.number c begins phase accesses agrees.flags hook items agrees.ghost_agrees

  -- the number may act
  pub acts_so : OwnNumberMayStep key begins phase items
  acts_so = grind arith

  -- what the step adds can be done on the accesses
  pub adds_so : (found : ℕ) (event : Event) → event ≡ event_of (next_of phase hook).0 (next_of phase hook).1 found →
      (done : Next Phase × Option Action) → done ≡ after_of phase event.found hook → ActionFits (held_in accesses) done.1
  adds_so found event event_is done done_is =
      may_add agrees.number c begins (state_at (Some phase) accesses) agrees.flags phase refl hook items agrees.ghost_agrees
      (next_of phase hook) refl found event event_is done done_is

-- of the values that the code has
module _ (c key : Config) (same_key : key ≡ c) (begins : Option Op) (phase : Phase)
    (accesses accesses_left : Accesses) (hook : HookAnswer) (items left : DealtNumbers) (found : ℕ) (event : Event)
    (event_is : event ≡ event_of (next_of phase hook).0 (next_of phase hook).1 found)
    (done : Next Phase × Option Action) (done_is : done ≡ after_of phase event.found hook)
    (accesses_is : accesses_left ≡ accesses_after accesses done.1) (left_is : left ≡ items_after begins phase hook found items) where
  -- the fields agree after it
  pub stay_agrees : (number : ℕ) (flags : List Bool) → GhostAgrees number c begins (state_at (Some phase) accesses) flags items →
      GhostAgrees number c None (state_at (phase_after done.0) accesses_left) flags left
  stay_agrees number flags ghost_agrees =
      ghost_agrees_left number c begins (state_at (Some phase) accesses) flags phase refl hook items ghost_agrees (next_of phase hook) refl found event event_is
      done done_is
      (progress_of done.0, phase_after done.0) refl accesses_left accesses_is left left_is

  -- the step was one of the operation
  pub stepped_so : (number : ℕ) (flags : List Bool) → GhostAgrees number c begins (state_at (Some phase) accesses) flags items →
      (seen gone : List (List Entry)) → HasWitness key begins phase hook items found seen gone → (table before : TableId) → table ≡ before →
      Stepped phase hook (task_state before c begins (Some phase) (knows items seen)) (step_was event done.1 done.0)
      (task_state table c None (phase_after done.0) (knows left gone))
  stepped_so number flags ghost_agrees seen gone moves table before same =
      let here : HasWitness c begins phase hook items found seen gone = subst (λ (k : Config). HasWitness k begins phase hook items found seen gone) same_key moves in
      stepped_here number c begins (state_at (Some phase) accesses) flags phase refl hook items ghost_agrees (next_of phase hook) refl found event
      event_is done done_is
      (progress_of done.0, phase_after done.0) refl accesses_left accesses_is left left_is
      seen gone table before (task_state before c begins (Some phase) (knows items seen)) same refl here phase refl

-- and what comes after it tells whether the operation goes on
pub went_so : (c : Config) → IsWithin c → (op : Op) (start : SeatedTask) (event : Event) (action : Option Action) (next : Next Phase)
    (hook : HookAnswer)
    {table left_table : TableId} {begins : Option Op} {phase : Phase} {items left : Knowledge} →
    OpUnderWay op start (task_state table c begins (Some phase) items) →
    Stepped phase hook (task_state table c begins (Some phase) items) (step_was event action next)
    (task_state left_table c None (phase_after next) left) →
    OpAfterStep op start next (task_state left_table c None (phase_after next) left)
went_so c within op start event action next hook {table} {left_table} {begins} {phase} {items} {left} goes after_step =
    let now : SeatedTask = task_state table c begins (Some phase) items in
    let after : SeatedTask = task_state left_table c None (phase_after next) left in
    let step : Step = step_was event action next in
    went_on op start now after step hook goes
    (λ p is. subst (λ (q : Phase). Stepped q hook now step after) (let same : phase ≡ p = cc in same) after_step)
    (subst IsWithin goes.config within) next refl

-- and which hooks it has asked, and how many of its steps came to a wait
pub went_with_so : (c : Config) → IsWithin c → (op : Op) (start : SeatedTask) (event : Event) (action : Option Action) (next : Next Phase)
    (hook : HookAnswer) (asks : List Ask) (waits : ℕ)
    {table left_table : TableId} {begins : Option Op} {phase : Phase} {items left : Knowledge} →
    OpUnderWayWith asks waits op start (task_state table c begins (Some phase) items) →
    Stepped phase hook (task_state table c begins (Some phase) items) (step_was event action next)
    (task_state left_table c None (phase_after next) left) →
    OpAfterStepWith (asks_with (call_at phase) items.items hook asks) waits op start next (task_state left_table c None (phase_after next) left)
went_with_so c within op start event action next hook asks waits {table} {left_table} {begins} {phase} {items} {left} goes after_step =
    let now : SeatedTask = task_state table c begins (Some phase) items in
    let after : SeatedTask = task_state left_table c None (phase_after next) left in
    let step : Step = step_was event action next in
    let same : goes.0.going.0 ≡ phase = let at : Some phase ≡ Some goes.0.going.0 = goes.0.going.1 in cc in
    subst (λ (p : Phase). OpAfterStepWith (asks_with (call_at p) items.items hook asks) waits op start next after) same
    (went_asking op start now after step hook goes.0
    (λ p is. subst (λ (q : Phase). Stepped q hook now step after) (let other : phase ≡ p = cc in other) after_step)
    asks waits goes.1 goes.2 (subst IsWithin goes.0.config within) next refl)

-- a task's fields, said with another name of the config and of the phase
pub agrees_at : (number : ℕ) {c d : Config} (begins : Option Op) (flags : List Bool) (items : DealtNumbers) (state : TaskState)
    (phase : Option Phase) → GhostAgrees number c begins state flags items → c ≡ d → state.phase ≡ phase →
    GhostAgrees number d begins (state_at phase state.accesses) flags items
agrees_at number {c} {d} begins flags items state phase ghost_agrees same is =
    let P : Config × Option Phase → Type 0 = λ z. GhostAgrees number z.0 begins (state_at z.1 state.accesses) flags items in
    subst P (λ i. (same i, is i)) ghost_agrees

-- a step, said with other names of what it was
pub stepped_there : {phase : Phase} {hook : HookAnswer} {old old_now left left_now : SeatedTask} {done done_now : Step} →
    Stepped phase hook old done left → old ≡ old_now → done ≡ done_now → left ≡ left_now → old.phase ≡ Some phase →
    (p : Phase) → old_now.phase ≡ Some p → Stepped p hook old_now done_now left_now
stepped_there {phase} {hook} {old} {old_now} {left} {left_now} {done} {done_now} after_step same_old same_done same_left is p at =
    let other : Some phase ≡ Some p = sym is ∙ (ap (λ (s : SeatedTask). s.phase) same_old ∙ at) in
    let same : phase ≡ p = cc in
    let P : Phase × SeatedTask × Step × SeatedTask → Type 0 = λ z. Stepped z.0 hook z.1 z.2 z.3 in
    subst P (λ i. (same i, same_old i, same_done i, same_left i)) after_step
