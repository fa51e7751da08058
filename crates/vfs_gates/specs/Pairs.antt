-- A pair of calls with others between them. What comes between leads from one state of the task, with an answer, to another.
use Rattle.std.specs.Prelude.{Err, Ok, Result, ℕ, ◌≡◌}
use Rattle.{access_model.specs.declared.{actions.Holder.Holder, errors.GateError.GateError}, cpu_words.specs.Hooks.HookAnswer}
use Rattle.freeze_levels.specs.declared.hooks.HookCall.{HookCall}
use Rattle.gate_steps.specs.{Seating.DealtNumbers, call_events.{Asking.PerformsAsking, Runs.Performs}}
use Rattle.gate_world.specs.declared.operations.Op.TheVariants.{DropWrite, Freeze, Thaw, WantWrite}
use Rattle.vfs_gates.specs.TaskStates.{SeatedTask}

module _ {T : Type 0} (between : SeatedTask → T → SeatedTask → Type 0) where
  -- after a taking of write access that ended so: what comes between and a return, which is not refused; nothing, where it was refused
  abbrev pub WrittenFrom : ℕ → ℕ → SeatedTask → Result (Unit {0}) GateError → SeatedTask → Result T GateError → Type 0
  WrittenFrom m p there (Ok done) left outcome =
      (mid : SeatedTask) × (answer : T) × between there answer mid × Performs (DropWrite m p) mid left (Ok tt) × (outcome ≡ Ok answer)
  WrittenFrom m p there (Err refusal) left outcome = (left ≡ there) × (outcome ≡ Err refusal)

  -- Write access is taken; what comes between; and it is given back, whatever that answered.
  pub record WithWrite (m p : ℕ) (old left : SeatedTask) (outcome : Result T GateError) : Type 0 where
    pub there : SeatedTask
    pub took : Result (Unit {0}) GateError
    pub takes : Performs (WantWrite m p) old there took
    pub then : WrittenFrom m p there took left outcome

  module _ {H : Type 0} (answers : HookCall → DealtNumbers → H → HookAnswer → H → Type 0) where
    -- after a freeze that ended so: what comes between and a thaw by the same holder, whose outcome is told; nothing, where it was refused
    abbrev pub FrozenFrom : Holder → SeatedTask → Result (Unit {0}) GateError → SeatedTask → Result (T × Result (Unit {0}) GateError) GateError →
        H → H → Type 0
    FrozenFrom holder there (Ok done) left outcome before hooks =
        (mid : SeatedTask) × (answer : T) × (thawed : Result (Unit {0}) GateError) × between there answer mid ×
        PerformsAsking answers (Thaw holder) mid left thawed before hooks × (outcome ≡ Ok (answer, thawed))
    FrozenFrom holder there (Err refusal) left outcome before hooks = (left ≡ there) × (outcome ≡ Err refusal) × (hooks ≡ before)

    -- All is frozen for a holder; what comes between; and that holder thaws it, whatever that answered.
    pub record WithFreeze (holder : Holder) (old left : SeatedTask) (outcome : Result (T × Result (Unit {0}) GateError) GateError)
        (before hooks : H) : Type 0 where
      pub there : SeatedTask
      pub took : Result (Unit {0}) GateError
      pub asked : H
      pub takes : PerformsAsking answers (Freeze holder) old there took before asked
      pub then : FrozenFrom holder there took left outcome asked hooks
