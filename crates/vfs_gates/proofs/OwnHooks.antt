-- What a file system's own hooks were asked by way of hooks that ask them.
use Rattle.vfs_gates.proofs.Prelude.{DealtNumbers, GateError, HookAnswer, HookCall, List, None, Op, Option, Result, SeatedTask, Some, [], ap, refl}
use Rattle.vfs_gates.proofs.Prelude.{refusal_at, subst, sym, ◌∙◌, ◌∷◌, ◌≡◌}
use Rattle.gate_steps.specs.call_events.Asking.{Ask, PerformsAsking, WereAsked, asks_of}

-- the hooks that ask, with the file system's own in them, under a name that stays
module _ {S H N : Type 0} (name : S → N) (own : S → H) (asking : HookCall → DealtNumbers → S → HookAnswer → S → Type 0)
    (answers : HookCall → DealtNumbers → H → HookAnswer → H → Type 0)
    (says : (call : HookCall) (at : DealtNumbers) (old new : S) (answer : HookAnswer) → asking call at old answer new →
    (name new ≡ name old) × answers call at (own old) answer (own new)) where
  -- what these were asked, the file system's own were
  own_asked : (asks : List Ask) (old new : S) → WereAsked asking asks old new → (name new ≡ name old) × WereAsked answers asks (own old) (own new)
  own_asked [] old new asked = (ap name asked, ap own asked)
  own_asked (a ∷ earlier) old new asked =
      let before = own_asked earlier old asked.0 asked.1 in
      let last = says a.call a.at asked.0 new a.answer asked.2 in
      (last.0 ∙ before.0, (own asked.0, before.1, last.1))

  -- by a whole call
  own_performs : (op : Op) (first last : SeatedTask) (outcome : Result (Unit {0}) GateError) (before after : S) →
      PerformsAsking asking op first last outcome before after → PerformsAsking answers op first last outcome (own before) (own after)
  own_performs op first last outcome before after did = record {
    replies = did.replies;
    refused = λ refusal at. ap own (did.refused refusal at);
    asked = λ began. (own_asked (asks_of first.config op first.items (did.replies.done began).2.trace) before after (did.asked began)).1;
  }

  name_by : (op : Op) (first last : SeatedTask) (outcome : Result (Unit {0}) GateError) (before after : S) →
      PerformsAsking asking op first last outcome before after → (refused : Option GateError) → refusal_at op first ≡ refused →
      name after ≡ name before
  name_by op first last outcome before after did (Some refusal) at = ap name (did.refused refusal at)
  name_by op first last outcome before after did None began =
      (own_asked (asks_of first.config op first.items (did.replies.done began).2.trace) before after (did.asked began)).0

  -- so they end as what stands under that name
  pub own_end : (op : Op) (first last : SeatedTask) (outcome : Result (Unit {0}) GateError) (before after : S) →
      PerformsAsking asking op first last outcome before after → (ends : H) → (name before ≡ name after → ends ≡ own after) →
      PerformsAsking answers op first last outcome (own before) ends
  own_end op first last outcome before after did ends is =
      subst (λ h. PerformsAsking answers op first last outcome (own before) h)
      (sym (is (sym (name_by op first last outcome before after did (refusal_at op first) refl))))
      (own_performs op first last outcome before after did)
