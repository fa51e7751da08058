-- How the threads of a run end.
use Rattle.std.specs.Prelude.{IfErr, IfOk, Result, ℕ, ◌⊎◌}
use Rattle.{access_model.specs.declared.errors.GateError.GateError, run_plans.specs.declared.{counts.Details.Details, plans.Plan.Plan}}
use Rattle.vfs_gates.specs.{Ended.HasAll, TaskStates.{IsFrom, SeatedTask, spare_of}, declared.Gates.Gates}
use Rattle.gate_runs.specs.{Counts.CountsRounds, Keeping.HaveNotFrozen, Parts.{AllDid, Among}, Refusals.{FoundOthers, WriterRefused}}

-- All tasks were joined, whatever they met. The task that took them back is from these gates, rests and has all numbers, and none of the others has
-- frozen or thawed. Each has done its part; or a writer was refused so, or the backup found that others had frozen or thawed.
pub record AllJoined (held : ℕ → ℕ → Type 0) (seen : ℕ → Type 0) (gates : Gates) (plan : Plan) (task : SeatedTask) (met : Result Details GateError) :
    Type 0 where
  pub from : IsFrom task gates
  pub all : HasAll task
  pub none : HaveNotFrozen (spare_of task.items)
  pub copies : IfOk met (λ d. CountsRounds plan.patience plan.freezes d.copies)
  pub did : IfOk met (AllDid (Among task.items) held seen plan.tasks plan.processors plan.rounds plan.freezes plan.patience)
  pub refused : IfErr met (λ refusal. WriterRefused gates plan.tasks plan.processors plan.rounds refusal ⊎ FoundOthers task)
