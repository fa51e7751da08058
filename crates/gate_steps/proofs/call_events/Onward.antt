-- An operation that goes on after a step, at the phase that comes next.
use Rattle.gate_steps.proofs.Prelude.{Accesses, Action, Bool, Called, Config, DealtNumbers, Done, Event, GateError, Go, HookAnswer, IsWithin}
use Rattle.gate_steps.proofs.Prelude.{Knowledge, List, Next, None, Op, Option, Phase, Reply, Result, SeatedTask, Some, Stepped, Wait, ap, arith}
use Rattle.gate_steps.proofs.Prelude.{map_next, phase_after, progress_of, subst, ℕ, ◌<◌, ◌≡◌}
use Rattle.std.proofs.Common.{◌⊎◌}
use Rattle.{atomic_table.specs.Seated.TableId, gate_transitions.specs.declared.steps.Progress.TheVariants.Done as Ended}
use Rattle.gate_steps.{proofs.call_events.{Running.{events_left, falls}, Turning.went_so}, specs.call_events.GhostAgrees.GhostAgrees}
use Rattle.gate_steps.specs.call_events.{Runs.{IsTrying, OpAfterStep, OpUnderWay}, SeatedTasks.task_state, Turns.{state_at, step_was}}

-- the phase that the operation stands at, where it goes on
pub stands_at : {A : Type 0} (as_phase : A → Phase) (next : Next A) (x : A) → (next ≡ Go x) ⊎ (next ≡ Wait x) →
    phase_after (map_next as_phase next) ≡ Some (as_phase x)
stands_at as_phase next x h = grind arith

-- and what comes next, where it replied
pub done_at : {A : Type 0} (as_phase : A → Phase) (next : Next A) (answer : Result Reply GateError) → next ≡ Done answer →
    map_next as_phase next ≡ Done answer
done_at as_phase next answer is = ap (λ n. map_next as_phase n) is

-- where a phase comes next, the operation goes on
pub goes_where : (op : Op) (start now : SeatedTask) (next : Next Phase) (phase : Phase) → phase_after next ≡ Some phase →
    OpAfterStep op start next now → OpUnderWay op start now
goes_where op start now next phase is went = grind arith

-- and it has not ended
not_ended : (next : Next Phase) (phase : Phase) → phase_after next ≡ Some phase → (a : Result Reply GateError) →
    progress_of next ≡ Ended a → ⊥
not_ended next phase is a ended = grind arith

module _ (c : Config) (within : IsWithin c) (event : Event) (action : Option Action) (next : Next Phase) (hook : HookAnswer)
    {table left_table : TableId} {begins : Option Op} {phase : Phase} {items left : Knowledge}
    (after_step : Stepped phase hook (task_state table c begins (Some phase) items) (step_was event action next)
    (task_state left_table c None (phase_after next) left))
    (further : Phase) (is : phase_after next ≡ Some further) where
  -- before the step
  abbrev before : SeatedTask
  before = task_state table c begins (Some phase) items

  -- and after it
  abbrev after : SeatedTask
  after = task_state left_table c None (phase_after next) left

  -- the operation goes on
  pub goes_so : (op : Op) (start : SeatedTask) → OpUnderWay op start before → OpUnderWay op start (task_state left_table c None (Some further) left)
  goes_so op start goes =
      subst (λ (o : Option Phase). OpUnderWay op start (task_state left_table c None o left)) is
      (goes_where op start after next further is (went_so c within op start event action next hook goes after_step))

  -- it still has a most number of steps
  pub tries_so : IsTrying before → IsTrying (task_state left_table c None (Some further) left)
  tries_so t = record { op = t.op; start = t.start; goes = goes_so t.op t.start t.goes; tries = t.tries }

  -- of which fewer are left
  pub falls_so : IsTrying before → events_left (task_state left_table c None (Some further) left) < events_left before
  falls_so t =
      subst (λ (o : Option Phase). events_left (task_state left_table c None o left) < events_left before) is
      (falls t.op t.start before after (step_was event action next) hook t.goes
      (λ p at. subst (λ (q : Phase). Stepped q hook before (step_was event action next) after) (let same : phase ≡ p = cc in same) after_step)
      (subst IsWithin t.goes.config within) t.tries (not_ended next further is))

-- the fields of a task whose operation stands there
pub agrees_so : (number : ℕ) (c : Config) (accesses : Accesses) (flags : List Bool) (items : DealtNumbers) (o p : Option Phase) → o ≡ p →
    GhostAgrees number c None (state_at o accesses) flags items → GhostAgrees number c None (state_at p accesses) flags items
agrees_so number c accesses flags items o p is ghost_agrees =
    subst (λ (q : Option Phase). GhostAgrees number c None (state_at q accesses) flags items) is ghost_agrees

-- an operation that replied was done whole
pub called_so : (op : Op) (start : SeatedTask) (next : Next Phase) (answer : Result Reply GateError) (table : TableId) (c : Config)
    (items : Knowledge) → next ≡ Done answer → OpAfterStep op start next (task_state table c None (phase_after next) items) →
    Called op start (task_state table c None None items) answer
called_so op start next answer table c items is went = grind arith
