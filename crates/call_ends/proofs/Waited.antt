-- How many steps came to a wait, one after the other.
use Rattle.call_ends.proofs.Prelude.{Go, Next, None, Op, Phase, SeatedTask, Some, Wait, ap, arith, subst, sym, ℕ, ◌-◌, ◌∙◌, ◌≡◌}
use Rattle.std.proofs.Common.{Result, min, ◌+◌, ◌^◌}
use Rattle.{access_model.specs.declared.{errors.GateError.GateError, replies.{Next.TheVariants.Done, Reply.Reply}}, atomic_table.specs.Seated.TableId}
use Rattle.{cpu_words.specs.Hooks.HookAnswer, freeze_levels.specs.declared.hooks.HookCall.HookCall}
use Rattle.gate_steps.specs.{Seating.DealtNumbers, call_events.Asking.{CalledAsking, OpAfterStepAsking, OpUnderWayAsking, WereAsked}}
use Rattle.gate_steps.specs.{call_events.{SeatedTasks.task_state, Waited.counted}, declared.seating.Knowledge.Knowledge}
use Rattle.gate_world.specs.{Views.phase_after, declared.config.Config.Config}

-- a count that stands still at its end is of a sum the same
counted_more : (n : ℕ) → counted (counted n + 1) ≡ counted (n + 1)
counted_more n = omega arith

-- one more
pub one_more : (waits before after : ℕ) → before ≡ counted waits → after ≡ min (before + 1) (2 ^ 64 - 1) → after ≡ counted (waits + 1)
one_more waits before after had more = more ∙ (ap (λ n. counted (n + 1)) had ∙ counted_more waits)

-- Where an operation stands after a line: it goes on, or waits, or was done whole.
module _ {H : Type 0} (answers : HookCall → DealtNumbers → H → HookAnswer → H → Type 0) (waits : ℕ) {op : Op} {start : SeatedTask} {before hooks : H}
    {c : Config} {table : TableId} {me : Knowledge} {next : Next Phase} where
  pub going_on : {phase : Phase} → next ≡ Go phase → OpAfterStepAsking answers waits op start before next (task_state table c None (phase_after next) me) hooks →
      OpUnderWayAsking answers waits op start before (task_state table c None (Some phase) me) hooks
  going_on is went = subst (λ n. OpAfterStepAsking answers waits op start before n (task_state table c None (phase_after n) me) hooks) is went

  pub waiting_on : {phase : Phase} → next ≡ Wait phase → OpAfterStepAsking answers waits op start before next (task_state table c None (phase_after next) me) hooks →
      OpUnderWayAsking answers (waits + 1) op start before (task_state table c None (Some phase) me) hooks
  waiting_on is went = subst (λ n. OpAfterStepAsking answers waits op start before n (task_state table c None (phase_after n) me) hooks) is went

  pub replied : {answer : Result Reply GateError} (waited : ℕ) → waited ≡ counted waits → next ≡ Done answer → OpAfterStepAsking answers waits op start before next (task_state table c None (phase_after next) me) hooks →
      CalledAsking answers op start before (task_state table c None None me) answer waited hooks
  replied {answer} waited told is went =
      let done : OpAfterStepAsking answers waits op start before (Done answer) (task_state table c None None me) hooks = subst (λ n. OpAfterStepAsking answers waits op start before n (task_state table c None (phase_after n) me) hooks) is went in (
        done.1.0,
        subst (λ asks. WereAsked answers asks before hooks) (sym done.1.1) done.2,
        told ∙ ap (λ n. counted n) (sym done.1.2),
      )
