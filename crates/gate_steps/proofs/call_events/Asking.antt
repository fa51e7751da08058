-- The hooks that one step more asks, and those of a whole call.
use Rattle.gate_steps.proofs.Prelude.{Ask, DealtNumbers, Err, GateError, HookAnswer, List, None, Ok, Op, Option, Reply, Result, SeatedTask, Some, ap}
use Rattle.gate_steps.proofs.Prelude.{arith, asks_with, subst, sym, ℕ, ◌∙◌, ◌≡◌}
use Rattle.{freeze_levels.specs.declared.hooks.HookCall.HookCall, gate_transitions.specs.Answers.unless_refused}
use Rattle.gate_steps.{proofs.call_events.Running.{was_done, was_told}, specs.call_events.Asking.{CalledAsking, RepliesAsking, WereAsked}}
use Rattle.gate_steps.specs.call_events.{Runs.{the_reply, told_as}, SeatedTasks.refusal_at}

module _ {H : Type 0} (answers : HookCall → DealtNumbers → H → HookAnswer → H → Type 0) where
  -- the hook that is wanted was asked at this moment, and no other
  abbrev pub AskedFor : Option HookCall → DealtNumbers → HookAnswer → H → H → Type 0
  AskedFor None at hook h left = left ≡ h
  AskedFor (Some call) at hook h left = answers call at h hook left

  -- so one more stands among all
  pub asks_more : (wanted : Option HookCall) (at : DealtNumbers) (hook : HookAnswer) (earlier : List Ask) (before h left : H) →
      WereAsked answers earlier before h → AskedFor wanted at hook h left → WereAsked answers (asks_with wanted at hook earlier) before left
  asks_more wanted at hook earlier before h left were asked = grind arith

  -- where a hook is wanted, and this one was asked
  pub was_asked : (wanted : Option HookCall) (at : DealtNumbers) (call : HookCall) → wanted ≡ Some call → (hook : HookAnswer) (h left : H)
      (answer : HookAnswer) → hook ≡ answer → (after : H) → left ≡ after → answers call at h answer after → AskedFor wanted at hook h left
  was_asked wanted at call is hook h left answer hook_is after left_is asked = grind arith

  -- and where none is, and none was
  pub was_not : (wanted : Option HookCall) (at : DealtNumbers) → wanted ≡ None → (hook : HookAnswer) (h left : H) → left ≡ h →
      AskedFor wanted at hook h left
  was_not wanted at is hook h left same = subst (λ w. AskedFor w at hook h left) (sym is) same

  -- a call whose beginning is refused asks none
  pub was_refused_asking : {A : Type 0} (read : Reply → A) (op : Op) (old left : SeatedTask) (e : GateError) → Err e ≡
      unless_refused (refusal_at op old) → left ≡ old → (before : H) → RepliesAsking answers read op old left (Err e) before before
  was_refused_asking read op old left e is same before = grind arith

  -- and one that was done, those that its steps read
  pub was_done_asking : {A : Type 0} (read : Reply → A) (op : Op) (old left : SeatedTask) (answer : Result Reply GateError)
      (outcome : Result A GateError) → outcome ≡ told_as read answer → Ok tt ≡ unless_refused (refusal_at op old) →
      (before hooks : H) (waited : ℕ) → CalledAsking answers op old before left answer waited hooks → RepliesAsking answers read op old left outcome before hooks
  was_done_asking read op old left answer outcome told admitted before hooks waited called = record {
    replies = was_done read op old left answer outcome told admitted called.0;
    refused = λ r at. absurd (let some : Ok tt ≡ Err r = admitted ∙ ap unless_refused at in let no : ⊥ = cc in no);
    asked = λ at. called.1;
  }

  -- the same of a call that tells of another's answer what it reads of replies
  pub was_told_asking : {A : Type 0} (read : Reply → A) (op : Op) (old left : SeatedTask) (answer : Result Reply GateError)
      (outcome : Result A GateError) (before hooks : H) → RepliesAsking answers the_reply op old left answer before hooks →
      outcome ≡ told_as read answer → RepliesAsking answers read op old left outcome before hooks
  was_told_asking read op old left answer outcome before hooks replies told = record {
    replies = was_told read op old left answer outcome replies.replies told;
    refused = replies.refused;
    asked = replies.asked;
  }
