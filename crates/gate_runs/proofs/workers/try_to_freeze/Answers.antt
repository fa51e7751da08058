-- it froze, gave up, or found that others had frozen
use Rattle.gate_runs.proofs.Prelude.{Called, Err, FoundOthers, Freeze, GateError, GaveUp, MayFreeze, None, Option, Performs, Rests, Result}
use Rattle.gate_runs.proofs.Prelude.{SeatedTask, User, inl, inr, own_actions, refl, refusal_at, rules, subst, sym, ℕ, ◌∙◌, ◌≡◌}
use Rattle.{access_model.specs.declared.errors.GateError.TheVariants.{Busy, Hook}, gate_steps.specs.call_events.Asking.PerformsAsking}
use Rattle.vfs_gates.{proofs.{Grown.same_stays_seen, OwnHooks.own_end}, specs.Patience.found_somebody}
use Rattle.gate_runs.proofs.{Answering.{freeze_begins, rests_by}, GivingUp.why_refused, Keeping.{called_stays, stays}}
use Rattle.gate_runs.specs.{Patience.{FreezesWith, with_patience}, declared.patience.Patience.Patience}
use Rattle.gate_runs.proofs.workers.try_to_freeze.Goals as goal

-- what a run's hooks are asked is asked of their patience
of_patience : (first last : SeatedTask) (outcome : Result (Unit {0}) GateError) (before after : Patience) →
    PerformsAsking (λ call at old answer new. with_patience call old.left answer new.left) (Freeze User) first last outcome before after →
    FreezesWith before.left first last outcome after.left
of_patience first last outcome before after did =
    let name : Patience → Unit {0} = λ s. tt in
    let own : Patience → Option ℕ = λ s. s.left in
    own_end name own _ (λ call at. with_patience call) (λ call at old new answer asked. (refl, asked))
    (Freeze User) first last outcome before after did after.left (λ _. refl)

-- a freeze that is busy by a list by which its task may freeze has found others
found_busy : (first last : SeatedTask) → MayFreeze User (own_actions first) → Called (Freeze User) first last (Err Busy) → FoundOthers last
found_busy first last may called =
    let stayed = called_stays (Freeze User) first last (Err Busy) called in inr (record {
      first = first;
      last = last;
      config = sym stayed.config;
      own = sym stayed.own;
      may = may;
      refused = called;
      seen = same_stays_seen last.seen;
    })

-- a refusal that isn't busy is of one that gave up, and any other found others
gave_up : (first last : SeatedTask) (patience left : Option ℕ) (refusal : GateError) → refusal_at (Freeze User) first ≡ None → ¬ (refusal ≡ Busy) →
    FreezesWith patience first last (Err refusal) left → GaveUp patience first last
gave_up first last patience left refusal began other did = elim (why_refused first last patience left refusal began did) [
  | inl busy ↦ absurd (other busy.0)
  | inr gave ↦ subst (λ l. FreezesWith patience first last (Err (Hook found_somebody)) l) gave.1
      (subst (λ e. FreezesWith patience first last (Err e) left) gave.0 did)
]

found : (first last : SeatedTask) (patience left : Option ℕ) (refusal : GateError) → refusal_at (Freeze User) first ≡ None →
    ¬ (refusal ≡ Hook found_somebody) → MayFreeze User (own_actions first) → FreezesWith patience first last (Err refusal) left → FoundOthers last
found first last patience left refusal began other may did = elim (why_refused first last patience left refusal began did) [
  | inl busy ↦ found_busy first last may busy.1
  | inr gave ↦ absurd (other gave.0)
]

-- and it leaves the task at rest, whatever it answers
tried_rests : (first last : SeatedTask) (outcome : Result (Unit {0}) GateError) → Rests first → Performs (Freeze User) first last outcome → Rests last
tried_rests first last outcome rests did = rests_by _ (Freeze User) first last outcome refl rests did

pub returns-in-Ok : goal.returns-in-Ok
returns-in-Ok g c = record {
  from = (c.freeze.ensures.replies.table ∙ c.requires.from.0, c.freeze.ensures.replies.config ∙ c.requires.from.1);
  rests = tried_rests c.args.task.now c.freeze.new.self _ c.requires.rests c.freeze.ensures.replies;
  stays = stays _ (Freeze User) c.args.task.now c.freeze.new.self _ c.freeze.ensures.replies;
  tried = (c.freeze.new.hooks.left, of_patience c.args.task.now c.freeze.new.self _ _ c.freeze.new.hooks c.in-Ok.ensures);
  refused = tt;
}

pub returns-in-Err-Hook : goal.returns-in-Err-Hook
returns-in-Err-Hook g c = record {
  from = (c.freeze.ensures.replies.table ∙ c.requires.from.0, c.freeze.ensures.replies.config ∙ c.requires.from.1);
  rests = tried_rests c.args.task.now c.freeze.new.self _ c.requires.rests c.freeze.ensures.replies;
  stays = stays _ (Freeze User) c.args.task.now c.freeze.new.self _ c.freeze.ensures.replies;
  tried =
      let hooked = c.in-Err-Hook.field-0-is in
      let other : ¬ (c.in-Err-Hook.field-0 ≡ Busy) = λ is. let f : ⊥ = cc in f in
      gave_up c.args.task.now c.freeze.new.self _ _ c.in-Err-Hook.field-0 (freeze_begins c.args.task.now c.requires.rests) other
      (of_patience c.args.task.now c.freeze.new.self _ _ c.freeze.new.hooks c.in-Err-Hook.ensures);
  refused = tt;
}

pub returns-in-Err : goal.returns-in-Err
returns-in-Err g c = record {
  from = (c.freeze.ensures.replies.table ∙ c.requires.from.0, c.freeze.ensures.replies.config ∙ c.requires.from.1);
  rests = tried_rests c.args.task.now c.freeze.new.self _ c.requires.rests c.freeze.ensures.replies;
  stays = stays _ (Freeze User) c.args.task.now c.freeze.new.self _ c.freeze.ensures.replies;
  tried = tt;
  refused =
      let other : ¬ (c.in-Err.refusal ≡ Hook found_somebody) = search rules in
      found c.args.task.now c.freeze.new.self _ _ c.in-Err.refusal (freeze_begins c.args.task.now c.requires.rests) other c.requires.may
      (of_patience c.args.task.now c.freeze.new.self _ _ c.freeze.new.hooks c.in-Err.ensures);
}
