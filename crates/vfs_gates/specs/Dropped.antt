-- What a dropped task has left, for the steps of others: a task that was dropped takes no step and begins nothing.
use Rattle.std.specs.Prelude.{Bool, List, Some, [], ℕ, ◌++◌, ◌∷◌, ◌≡◌}
use Rattle.{cpu_words.specs.Hooks.HookAnswer, gate_schedules.specs.operations.Progress.IsUnderWay}
use Rattle.gate_steps.specs.{Seating.{DealtNumbers, IsPrefix}, call_events.SeatedTasks.own_number}
use Rattle.gate_world.specs.{Headline.world_after, declared.{config.Config.Config, entries.Entry.{Entry, TheVariants.Steps}, work.Phase.Phase}}
use Rattle.progress_laws.specs.{Answers.{AllAnswerSo, IsPatientWith}, LostForEver.{AreOfOthers, MeetsLost}}
use lib.ListN.{get_elem?}
use mathlib.Core.Option.{some}

-- A step of this phase was done right after a schedule that goes on from all that its task had seen, and what its task has seen since is that step. If
-- in the state that the schedule makes the phase meets what some tasks have left, then its operation has no reply, whatever all others do and
-- begin, as long as none of these tasks does or begins anything, and where it is a freeze, each answer of `keep_waiting` to it is to wait on.
pub record MeetsDropped (c : Config) (items : DealtNumbers) (phase : Phase) (hook : HookAnswer) (seen left : List (List Entry)) : Type 0 where
  pub entries : List Entry
  pub saw : (k : ℕ) (earlier : List Entry) → get_elem? seen k ≡ some earlier → IsPrefix earlier entries
  pub at : ((world_after c entries).views (own_number items)).phase ≡ Some phase
  pub leaves : left ≡ (entries ++ Steps (own_number items) hook ∷ []) ∷ []
  pub no_reply : (dropped : ℕ → Bool) → MeetsLost c dropped (world_after c entries) phase → (later : List Entry) → AreOfOthers dropped later →
      AllAnswerSo (IsPatientWith (own_number items)) c (world_after c entries) later → IsUnderWay (world_after c (entries ++ later)) (own_number items)
