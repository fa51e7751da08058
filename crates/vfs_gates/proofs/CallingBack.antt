-- Callbacks by a task that is idle, or isn't.
use Rattle.vfs_gates.proofs.Prelude.{Bool, Callback, Called, Config, Err, GateError, IsAsBefore, IsHonestAnswer, IsIdle, List, None, Ok, Option}
use Rattle.vfs_gates.proofs.Prelude.{Replies, Reply, Result, SeatedTask, Some, Traced, arith, is_some, lt-ltb, refl, refusal_at, subst, sym}
use Rattle.vfs_gates.proofs.Prelude.{the_reply, told_as, true, ℕ, ◌∙◌, ◌≡◌, ◌≤◌}
use Rattle.std.proofs.Common.{IfOk, OnOk}
use Rattle.access_model.specs.declared.errors.GateError.TheVariants.{Order}
use Rattle.gate_steps.{proofs.call_events.Running.ran_told, specs.call_events.Runs.{IsRanReply, ran_of}}
use Rattle.vfs_gates.{proofs.Holding.{as_before_twice, keeps}, specs.Settled.{Settles, SettlesLevel}}

module _ (level : ℕ) (old left : SeatedTask) (low : 1 ≤ level) (high : level ≤ 3) where
  begins : IsIdle old → refusal_at (Callback level) old ≡ None
  begins idle = rw (idle, lt-ltb 0 level (omega arith), lt-ltb level 4 (omega arith)) refl

  answered : (refusal : GateError) (answer : Result Reply GateError) → ◌≡◌ {A = Result Bool GateError} (Err refusal) (told_as ran_of answer) →
      Called (Callback level) old left answer → ⊥
  answered refusal (Ok reply) told k = absurd (let f : ⊥ = cc in f)
  answered refusal (Err cause) told k = k.honest

  -- one is never refused
  pub never_refused : (refusal : GateError) → IsIdle old → Replies ran_of (Callback level) old left (Err refusal) → ⊥
  never_refused refusal idle call = let done = call.done (begins idle) in answered refusal done.0 done.1 done.2

-- after callbacks that left an idle task as it was, so does one more
pub calls_back : (level : ℕ) (first mid left : SeatedTask) (outcome : Result Bool GateError) → (IsIdle first → IsAsBefore first mid) →
    Replies ran_of (Callback level) mid left outcome → IsIdle first → IsAsBefore first left
calls_back level first mid left outcome so_far call idle =
    let there = so_far idle in as_before_twice first mid left there (keeps ran_of (Callback level) mid left outcome there.idle call refl)

-- what isn't nothing is something
is_there : {A : Type 0} (o : Option A) → ¬ (o ≡ None) → is_some o ≡ true
is_there None some = absurd (some refl)
is_there (Some x) some = refl

-- One by a task that isn't idle, after calls that left such a task unchanged.
module _ (level : ℕ) (first mid left : SeatedTask) (same : ¬ IsIdle first → mid ≡ first) (busy : ¬ IsIdle first) where
  -- is refused as Order, and leaves it unchanged
  refused_busy : (outcome : Result Bool GateError) → Replies ran_of (Callback level) mid left outcome → (outcome ≡ Err Order) × (left ≡ mid)
  refused_busy outcome call =
      let still : ¬ IsIdle mid = subst (λ (s : SeatedTask). ¬ IsIdle s) (sym (same busy)) busy in
      let at : refusal_at (Callback level) mid ≡ Some Order = rw (is_there mid.phase still) refl in call.refused Order at

  pub refused_still : (refusal : GateError) → Replies ran_of (Callback level) mid left (Err refusal) → (refusal ≡ Order) × (left ≡ first)
  refused_still refusal call =
      let refused = refused_busy (Err refusal) call in let is : refusal ≡ Order = cc in (is, refused.1 ∙ same busy)

  pub not_ran : (ran : Bool) → Replies ran_of (Callback level) mid left (Ok ran) → ⊥
  not_ran ran call = let refused = refused_busy (Ok ran) call in let f : ⊥ = cc in f

-- a reply to a callback tells whether one ran
ran_or_not : (level : ℕ) (c : Config) (trace : List Traced) (answer : Result Reply GateError) → IsHonestAnswer c (Callback level) answer trace →
    IfOk (told_as the_reply answer) IsRanReply
ran_or_not level c trace (Ok reply) told = ran_told level reply trace told
ran_or_not level c trace (Err refusal) honest = tt

ran_by : (level : ℕ) (old left : SeatedTask) (outcome : Result Reply GateError) → Replies the_reply (Callback level) old left outcome →
    (o : Option GateError) → refusal_at (Callback level) old ≡ o → IfOk outcome IsRanReply
ran_by level old left outcome call (Some refusal) at = subst (λ x. IfOk x IsRanReply) (sym (call.refused refusal at).0) tt
ran_by level old left outcome call None at =
    let done = call.done at in
    subst (λ x. IfOk x IsRanReply) (sym done.1) (ran_or_not level old.config done.2.trace done.0 done.2.honest)

pub replied_ran : (level : ℕ) (old left : SeatedTask) (outcome : Result Reply GateError) → Replies the_reply (Callback level) old left outcome →
    IfOk outcome IsRanReply
replied_ran level old left outcome call = ran_by level old left outcome call (refusal_at (Callback level) old) refl

-- what was done is no refusal, and the other way round
pub none_ok : (x : Unit {0}) (refusal : GateError) → ◌≡◌ {A = Result (Unit {0}) GateError} (Ok x) (Err refusal) → ⊥
none_ok x refusal is = let f : ⊥ = cc in f

pub none_err : (refusal : GateError) → ◌≡◌ {A = Result (Unit {0}) GateError} (Err refusal) (Ok tt) → ⊥
none_err refusal is = let f : ⊥ = cc in f

-- the third level, after the other two
pub settles_then : (first one two last : SeatedTask) (outcome : Result (Unit {0}) GateError) → SettlesLevel 1 first one → SettlesLevel 2 one two →
    OnOk outcome (SettlesLevel 3 two last) → OnOk outcome (Settles first last)
settles_then first one two last (Ok x) lowest middle highest =
    record { one = one; two = two; lowest = lowest; middle = middle; highest = highest }
settles_then first one two last (Err refusal) lowest middle highest = tt
