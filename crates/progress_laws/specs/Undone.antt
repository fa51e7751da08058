-- A freeze whose hook failed, at `keep_waiting` or later: at its answer nothing of it is left but cleared marks.
use Rattle.std.specs.Prelude.{◌≡◌, ℕ, ◌≤◌, Some, Err, List, [], ◌∷◌, ◌++◌}
use Rattle.access_model.specs.declared.{actions.{Action.{Action, TheVariants.{Clean, Pass, Reopen, Stage}}, Holder.Holder}, errors.GateError.TheVariants.Hook}
use Rattle.cpu_words.specs.Hooks.{HookAnswer}
use Rattle.gate_transitions.specs.{Answers.{step_answer}, declared.steps.Progress.TheVariants.{Done}}
use Rattle.gate_world.specs.{Headline.world_after, Operations.failed_adds, Views.HoldsAsBefore, Worlds.{World, happens}, traces.Found.gave_up}
use Rattle.gate_world.specs.declared.{config.Config.Config, entries.Entry.{Entry, TheVariants.Steps}, operations.Op.TheVariants.Freeze}

-- actions of a freeze that change nothing for good but marks: its stores of the stage, its levels that it passed and reopened, the marks that it cleared
abbrev pub AtMostMarks : List Action → Type 0
AtMostMarks [] = Unit {0}
AtMostMarks (Stage n ∷ actions) = AtMostMarks actions
AtMostMarks (Pass i ∷ actions) = AtMostMarks actions
AtMostMarks (Reopen i ∷ actions) = AtMostMarks actions
AtMostMarks (Clean n ∷ actions) = AtMostMarks actions
AtMostMarks (action ∷ actions) = ⊥

-- The stage is 0, no level is closed, and `umount` is free. Its task holds what it held when it began, and has added what a freeze adds that gave up
-- this level or none, on top of what it had done before.
pub record IsUndone (w : World) (t : ℕ) : Type 0 where
  pub stage : w.words.stage ≡ 0
  pub levels : (i : ℕ) → 1 ≤ i → i ≤ 3 → w.words.block i ≡ 0
  pub lock : w.words.umount ≡ 0
  pub holds : HoldsAsBefore (w.views t)
  pub added : (w.views t).actions ≡ failed_adds (gave_up (w.views t).trace) (w.views t).trace ++ (w.views t).before
  pub marks : AtMostMarks (failed_adds (gave_up (w.views t).trace) (w.views t).trace)

-- After each execution, if the next step of a freeze answers that a hook failed, so it is after that step.
abbrev pub FailsUndone : Config → List Entry → Type 0
FailsUndone c entries =
    (t : ℕ) (holder : Holder) (hook : HookAnswer) (code : ℕ) → ((world_after c entries).views t).op ≡ Some (Freeze holder) →
    (step_answer c (world_after c entries) t hook).progress ≡ Done (Err (Hook code)) →
    IsUndone (happens c (world_after c entries) (Steps t hook)) t
