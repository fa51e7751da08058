-- A freeze that was granted, and waits for nobody, has found nobody: where it found somebody it would have asked whether to wait.
use Rattle.vfs_gates.proofs.Prelude.{Action, Called, Config, DealtNumbers, Done, Err, GateError, Go, Holder, HookAnswer, HookCall, List, Next, None}
use Rattle.vfs_gates.proofs.Prelude.{Ok, Op, Option, Phase, Reply, Result, SeatedTask, Some, Traced, Wait, [], actions_of, ap, inl, inr, items_at}
use Rattle.vfs_gates.proofs.Prelude.{option_map, refl, state_of_trace, subst, sym, told_as, unit_of, ℕ, ◌++◌, ◌∙◌, ◌∷◌, ◌≡◌}
use Rattle.std.proofs.Common.{append-nil}
use Rattle.freeze_levels.specs.{Freezes.freeze_hook, declared.freezes.FreezeStep.{FreezeStep, TheVariants.Waits}}
use Rattle.freeze_levels.specs.declared.hooks.HookCall.TheVariants.{FreezeFs as FreezeCall, KeepWaiting as KeepWaitingCall, Sync as SyncCall}
use Rattle.freeze_levels.specs.declared.hooks.HookKind.TheVariants.{KeepWaiting}
use Rattle.gate_steps.{proofs.call_events.FreezeAsks.granted_freeze, specs.call_events.Asked.{AskedByFreeze, HasWaited, OnlyWaited, agreed}}
use Rattle.gate_steps.specs.call_events.Asking.{Ask, PerformsAsking, WereAsked, asks_of, asks_with, call_at, call_of, next_call}
use Rattle.gate_steps.specs.call_events.SeatedTasks.{own_number}
use Rattle.gate_world.specs.declared.{operations.Op.TheVariants.Freeze as FreezeOp, work.Phase.TheVariants.Freezes}
use Rattle.vfs_gates.{proofs.Returning.was_done, specs.Found.{AskedBothOrNone, FoundAt, FoundNobody, FrozeAtOnce, HasFoundSomebody}}
use Rattle.vfs_gates.specs.{Found.WaitsInside, Patience.{IsImpatient, without_patience}}

-- who waits for nobody never agrees to wait
never_agrees : (own : HookAnswer) → IsImpatient own (Ok tt) → ⊥
never_agrees (Ok agrees) is = let f : ⊥ = cc in f
never_agrees (Err code) is = let f : ⊥ = cc in f

module _ {H : Type 0} (answers : HookCall → DealtNumbers → H → HookAnswer → H → Type 0) where
  none_agreed : (lowest highest : ℕ) (a : Ask) (old new : H) → without_patience answers a.call a.at old a.answer new →
      HasWaited lowest highest a → ⊥
  none_agreed lowest highest a old new said waited =
      let its = subst (λ (b : Ask). without_patience answers b.call b.at old b.answer new) waited.4 said in never_agrees its.0 its.2

  -- so it never asked with success
  none_waited : (lowest highest : ℕ) (waits earlier : List Ask) (old new : H) → WereAsked (without_patience answers) (waits ++ earlier) old new →
      OnlyWaited lowest highest waits → waits ≡ []
  none_waited lowest highest [] earlier old new were waited = refl
  none_waited lowest highest (a ∷ waits) earlier old new were waited =
      absurd (none_agreed lowest highest a were.0 new were.2 waited.0)

  -- what a freeze has asked that was granted
  both_or_none : (added : List Action) (asks : List Ask) (old new : H) → AskedByFreeze added asks →
      WereAsked (without_patience answers) asks old new → AskedBothOrNone asks
  both_or_none added asks old new (inl both) were =
      let (last, before, is, since) = both.1 in
      let (first, later, earlier, is_before, waited, begins) = since in
      let frozen = subst (λ l. WereAsked (without_patience answers) l old new) is were in
      let synced = subst (λ l. WereAsked (without_patience answers) l old frozen.0) is_before frozen.1 in
      let none_later = none_waited 3 3 later (agreed SyncCall first ∷ earlier) old frozen.0 synced waited in
      let at_sync = subst (λ l. WereAsked (without_patience answers) (l ++ agreed SyncCall first ∷ earlier) old frozen.0) none_later synced in
      let none_earlier = none_waited 1 2 earlier [] old at_sync.0
      (subst (λ l. WereAsked (without_patience answers) l old at_sync.0) (sym (append-nil earlier)) at_sync.1) begins in
      inl (
        last,
        first,
        is ∙ ap (λ l. agreed FreezeCall last ∷ l) (is_before ∙ (ap (λ l. l ++ agreed SyncCall first ∷ earlier) none_later ∙
            ap (λ l. agreed SyncCall first ∷ l) none_earlier)),
      )
  both_or_none added asks old new (inr none) were = inr none.1

-- no hook of these was asked whether to wait
abbrev IsNoWait : HookCall → Type 0
IsNoWait (KeepWaitingCall level) = ⊥
IsNoWait call = Unit {0}

abbrev NoneWaits : List Ask → Type 0
NoneWaits [] = Unit {0}
NoneWaits (a ∷ earlier) = IsNoWait a.call × NoneWaits earlier

both_none_wait : (asks : List Ask) → AskedBothOrNone asks → NoneWaits asks
both_none_wait asks (inl both) = subst NoneWaits (sym both.2) (tt, (tt, tt))
both_none_wait asks (inr none) = subst NoneWaits (sym none) tt

-- Where a freeze has found somebody, its next step reads whether to wait.
step_asks : (phase : Phase) (step : FreezeStep) → WaitsInside step →
    option_map (call_of phase) (freeze_hook step) ≡ Some (call_of phase KeepWaiting)
step_asks phase (Waits d) is = refl
step_asks phase step is = absurd is

phase_asks : (phase : Phase) → FoundAt phase → (level : ℕ) × (call_at phase ≡ Some (KeepWaitingCall level))
phase_asks (Freezes x) is = (_, step_asks (Freezes x) x.step is)
phase_asks phase is = absurd is

next_asks : (next : Next Phase) → HasFoundSomebody next → (level : ℕ) × (next_call next ≡ Some (KeepWaitingCall level))
next_asks (Go phase) is = phase_asks phase is
next_asks (Wait phase) is = phase_asks phase is
next_asks (Done answer) is = absurd is

-- of one ask more, what is so of all is so of the others
others_wait : (o : Option HookCall) (at : DealtNumbers) (answer : HookAnswer) (earlier : List Ask) → NoneWaits (asks_with o at answer earlier) →
    NoneWaits earlier
others_wait None at answer earlier none = none
others_wait (Some call) at answer earlier none = none.1

module _ (c : Config) (op : Op) (items : DealtNumbers) where
  abbrev comes : List Traced → Next Phase
  comes trace = (state_of_trace c (own_number items) op trace).comes

  -- an operation that has found somebody after these steps, and went on with others, has asked
  went_on : (e : Traced) (later earlier : List Traced) → NoneWaits (asks_of c op items (e ∷ (later ++ earlier))) →
      HasFoundSomebody (comes earlier) → ⊥
  went_on e [] earlier none is =
      let asks = next_asks (comes earlier) is in
      (subst (λ o. NoneWaits (asks_with o (items_at c op earlier items) e.hook (asks_of c op items earlier))) asks.1 none).0
  went_on e (f ∷ later) earlier none is =
      let before : List Traced = f ∷ (later ++ earlier) in
      went_on f later earlier (others_wait (next_call (comes before)) (items_at c op before items) e.hook (asks_of c op items before) none) is

  found_nobody : (trace : List Traced) (answer : Result Reply GateError) → comes trace ≡ Done answer → NoneWaits (asks_of c op items trace) →
      FoundNobody c (own_number items) op trace
  found_nobody trace answer ends none [] earlier same is = subst HasFoundSomebody (ap comes (sym same) ∙ ends) is
  found_nobody trace answer ends none (e ∷ later) earlier same is =
      went_on e later earlier (subst (λ t. NoneWaits (asks_of c op items t)) same none) is

-- So a call that was granted.
module _ {H : Type 0} (answers : HookCall → DealtNumbers → H → HookAnswer → H → Type 0) (holder : Holder) (old left : SeatedTask) (before after : H)
  where
    abbrev op : Op
    op = FreezeOp holder

    froze : (reply : Reply) (called : Called op old left (Ok reply)) →
        WereAsked (without_patience answers) (asks_of old.config op old.items called.trace) before after → FrozeAtOnce holder old left
    froze reply called were =
        let asks : List Ask = asks_of old.config op old.items called.trace in
        let both = both_or_none answers (actions_of op (Ok reply) called.trace) asks before after (granted_freeze holder old left reply called) were in
        record {
          reply = reply;
          called = called;
          found = found_nobody old.config op old.items called.trace (Ok reply) called.ends (both_none_wait asks both);
          asked = both;
        }

    by_answer : (done : (answer : Result Reply GateError) ×
        ◌≡◌ {A = Result (Unit {0}) GateError} (Ok tt) (told_as unit_of answer) × Called op old left answer) →
        WereAsked (without_patience answers) (asks_of old.config op old.items done.2.trace) before after → FrozeAtOnce holder old left
    by_answer (Ok reply, told, called) were = froze reply called were
    by_answer (Err refusal, told, called) were = absurd (let f : ⊥ = cc in f)

    pub froze_at_once : PerformsAsking (without_patience answers) op old left (Ok tt) before after → FrozeAtOnce holder old left
    froze_at_once call =
        let was = was_done op old left call.replies in by_answer (call.replies.done was.began) (call.asked was.began)
