-- Operations that are begun and done as far as they go at once.
use Rattle.vfs_gates.proofs.Prelude.{Accesses, DealtNumbers, Err, GateError, Go, HookAnswer, HookCall, List, Next, None, Ok, Op, OpUnderWay, Option, Phase}
use Rattle.vfs_gates.proofs.Prelude.{Reply, Result, SeatedTask, Some, [], ap, refl, refusal_at, subst, sym, ℕ, ◌≡◌}
use Rattle.gate_steps.proofs.call_events.{Running.{admitted_some, refused_as, refused_none}}
use Rattle.gate_steps.specs.call_events.{Answers.unless_refused, Asking.{Ask, OpAfterStepWith, OpUnderWayWith}, Led.{Led, LedAsking, TaskSeat, seated_at}, Progress.Progress}
use Rattle.gate_steps.specs.call_events.{Progress.TheVariants.{Done, Going, Idle, Waiting}, Runs.ProgressMatches, Waited.OpAfterStepWaiting}
use Rattle.gate_steps.specs.declared.call_events.words.GateWords.{GateWords}
use Rattle.access_model.specs.declared.replies.Next.TheVariants.{Done as Ends, Wait as Waits}
use Rattle.vfs_gates.specs.AtOnce.{BeginsAtOnce}

-- a step of which what its hooks were asked may be left out
unasked : (op : Op) (start : SeatedTask) (next : Next Phase) (now : SeatedTask) (asks : List Ask) (waits : ℕ) →
    OpAfterStepWith asks waits op start next now → OpAfterStepWaiting waits op start next now
unasked op start (Go q) now asks waits went = (went.0, went.2)
unasked op start (Waits q) now asks waits went = (went.0, went.2)
unasked op start (Ends a) now asks waits went = (went.0, went.2)

-- an operation went where the steps of a line have led
module _ {gates : GateWords} {begins : Option Op} {accesses accesses_left : Accesses} {first : Phase} {next : Next Phase} {seat left : TaskSeat}
    (op : Op) (start : SeatedTask) where
  pub went_so : Led gates begins (Go first) accesses seat next accesses_left left →
      OpUnderWayWith [] 0 op start (seated_at gates begins (Go first) seat) → OpAfterStepWaiting 0 op start next (seated_at gates None next left)
  went_so led goes = unasked op start next _ [] 0 (led.went op start [] 0 goes)

  pub went_there : {H : Type 0} {answers : HookCall → DealtNumbers → H → HookAnswer → H → Type 0} {hooks hooks_left : H} →
      LedAsking answers gates begins (Go first) accesses seat hooks next accesses_left left hooks_left →
      OpUnderWayWith [] 0 op start (seated_at gates begins (Go first) seat) → OpAfterStepWaiting 0 op start next (seated_at gates None next left)
  went_there {hooks = hooks} led goes = let went = led.went op start hooks 0 ([], goes, refl) in unasked op start next _ went.0 0 went.1

-- one whose beginning was refused
pub refused_at_once : (op : Op) (old : SeatedTask) (e : GateError) → Err e ≡ unless_refused (refusal_at op old) →
    BeginsAtOnce op old old (Err e)
refused_at_once op old e is = record {
  table = refl;
  config = refl;
  refused = λ r at. (refused_as e (refusal_at op old) r is at, refl);
  begun = λ at. absurd (refused_none e (refusal_at op old) is at);
}

module _ (op : Op) (old left : SeatedTask) (admitted : Ok tt ≡ unless_refused (refusal_at op old)) (table : left.table ≡ old.table)
    (config : left.config ≡ old.config) (begun : left.begins ≡ None) where
  -- one that was begun, and so stands
  pub told_at_once : (progress : Progress) → ProgressMatches op old progress left → BeginsAtOnce op old left (Ok progress)
  told_at_once progress told = record {
    table = table;
    config = config;
    refused = λ r at. absurd (admitted_some (refusal_at op old) r admitted at);
    begun = λ at. (progress, refl, begun, told);
  }

-- what such a call tells that goes on or is done: it was begun, and stands so
pub begun_by : (op : Op) (old left : SeatedTask) (progress : Progress) (o : Option GateError) → refusal_at op old ≡ o →
    BeginsAtOnce op old left (Ok progress) → (Ok tt ≡ unless_refused (refusal_at op old)) × ProgressMatches op old progress left
begun_by op old left progress (Some e) at begins =
    let is : ◌≡◌ {A = Result Progress GateError} (Ok progress) (Err e) = (begins.refused e at).0 in absurd (let f : ⊥ = cc in f)
begun_by op old left progress None at begins =
    let told = begins.begun at in let is : ◌≡◌ {A = Result Progress GateError} (Ok progress) (Ok told.0) = told.1 in
    let same : progress ≡ told.0 = cc in
    (sym (ap (λ o. unless_refused o) at), subst (λ p. ProgressMatches op old p left) (sym same) told.3)

-- where it has not ended, it goes on
pub goes_by : (op : Op) (old left : SeatedTask) (progress : Progress) → ((answer : Result Reply GateError) → progress ≡ Done answer → ⊥) →
    ProgressMatches op old progress left → OpUnderWay op old left
goes_by op old left Idle not told = absurd told
goes_by op old left Going not told = told
goes_by op old left Waiting not told = told.0
goes_by op old left (Done answer) not told = absurd (not answer refl)
