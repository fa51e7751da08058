-- What blocks a step that waits, in the state in which it was done.
use Rattle.std.specs.Prelude.{List, Some, [], ℕ, ◌++◌, ◌∷◌, ◌≡◌}
use Rattle.cpu_words.specs.Hooks.{HookAnswer}
use Rattle.gate_steps.specs.{Seating.{DealtNumbers, IsPrefix}, call_events.{SeatedTasks.own_number, Spans.{IsEventDuring, worlds_since}}}
use Rattle.gate_world.specs.{Headline.world_after, declared.{config.Config.Config, entries.Entry.{Entry, TheVariants.Steps}, operations.Op.Op}}
use Rattle.gate_world.specs.{declared.{views.Traced.Traced, work.Phase.Phase}, refusals.{Causes.{since_begun, trail_of}, Waits.HasCulpritAmong}}
use lib.ListN.{get_elem?}
use mathlib.Core.Option.{some}

-- A step of this phase was done right after a schedule that goes on from all that its task had seen, and what its task has seen since is that step. In
-- the state that the schedule makes the task is at this phase, and what it waits for another has.
pub record WasBlocked (c : Config) (items : DealtNumbers) (phase : Phase) (hook : HookAnswer) (seen left : List (List Entry)) : Type 0 where
  pub entries : List Entry
  pub saw : (k : ℕ) (earlier : List Entry) → get_elem? seen k ≡ some earlier → IsPrefix earlier entries
  pub at : ((world_after c entries).views (own_number items)).phase ≡ Some phase
  pub blocker : HasCulpritAmong c (since_begun (own_number items) (trail_of c entries)) (own_number items) phase
  pub leaves : left ≡ (entries ++ Steps (own_number items) hook ∷ []) ∷ []

-- The same of a step of a call, which came to a wait: of the states since the call began.
pub record WasBlockedDuring (c : Config) (items : DealtNumbers) (op : Op) (earlier : List Traced) (e : Traced)
    (seen left : List (List Entry)) : Type 0 where
  pub during : IsEventDuring c items op earlier e seen left
  pub blocker : HasCulpritAmong c (worlds_since c during.began (own_number items) op during.since) (own_number items) during.happens.phase
