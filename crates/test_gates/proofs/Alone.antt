-- What closed gates tell of a task with their only number.
use Rattle.std.proofs.Common.{Err, List, None, Ok, OnOk, Option, Result, Some, [], ap, arith, false, inl, refl, subst, sym, true, ℕ, ◌<◌, ◌∙◌, ◌∷◌}
use Rattle.std.proofs.Common.{◌≡◌}
use Rattle.access_model.specs.{Holders.{held_by, nobody}, declared.actions.{Action.Action, Holder.{Holder, TheVariants.{Kernel, User}}}}
use Rattle.access_model.specs.declared.{errors.GateError.{GateError, TheVariants.{Busy, Invalid}}, replies.Reply.Reply}
use Rattle.gate_steps.specs.Seating.{DealtNumbers, HaveHistory}
use Rattle.gate_world.specs.declared.{config.Config.Config, operations.Op.{Op, TheVariants.{Freeze as FreezeOp, Snapshot as SnapshotOp}}}
use Rattle.vfs_gates.proofs.{Grown.same_stays_seen, Holding.adds, Returning.was_done, Rounds.own_stays, call_laws.TreeStays.{now_held, tree_stays}}
use Rattle.vfs_gates.proofs.{call_laws.TreeStays.tree_stays_between, several_tasks.{FreezesBeside.not_busy, FrozenUntilThawed.stands}}
use Rattle.vfs_gates.specs.{Ended.EndedWith, Frozen.{MayFreeze, holders_of}, Held.own_actions, Meetings.{Entry, HasDone}}
use Rattle.vfs_gates.specs.{Runs.{Called, Performs, told_as, unit_of}, TaskStates.{SeatedTask, own_number, own_view, refusal_at}}
use Rattle.test_gates.{proofs.InTime.where_done, specs.InTime.{LeftFrozen, StayedFrozen}}

-- there is no other number
no_other : (own t tasks : ℕ) → own ≡ 0 → tasks ≡ 1 → t < tasks → (t ≡ own → ⊥) → ⊥
no_other own t tasks is one lt other = other (omega (arith, is, one, lt))

-- a call that was refused, and not at its beginning
by_answer : (op : Op) (old left : SeatedTask) (refusal : GateError) (answer : Result Reply GateError) →
    ◌≡◌ {A = Result (Unit {0}) GateError} (Err refusal) (told_as unit_of answer) → Called op old left answer → Called op old left (Err refusal)
by_answer op old left refusal (Ok reply) told called = absurd (let f : ⊥ = cc in f)
by_answer op old left refusal (Err other) told called =
    let same : other ≡ refusal = cc in subst (λ e. Called op old left (Err e)) same called

by_beginning : (op : Op) (old left : SeatedTask) (refusal : GateError) → Performs op old left (Err refusal) → (o : Option GateError) →
    refusal_at op old ≡ o → (o ≡ Some refusal → ⊥) → Called op old left (Err refusal)
by_beginning op old left refusal did None at never = let done = did.done at in by_answer op old left refusal done.0 done.1 done.2
by_beginning op old left refusal did (Some other) at never =
    let told : ◌≡◌ {A = Result (Unit {0}) GateError} (Err refusal) (Err other) = (did.refused other at).0 in
    let same : other ≡ refusal = cc in absurd (never (ap Some same))

begun_refused : (op : Op) (old left : SeatedTask) (refusal : GateError) → Performs op old left (Err refusal) →
    (refusal_at op old ≡ Some refusal → ⊥) → Called op old left (Err refusal)
begun_refused op old left refusal did never = by_beginning op old left refusal did (refusal_at op old) refl never

-- no freeze is Busy at its beginning, and no snapshot Invalid
never_busy : (h : Holder) (s : SeatedTask) (o : Option GateError) → refusal_at (FreezeOp h) s ≡ o → o ≡ Some Busy → ⊥
never_busy h s o at is = grind arith

never_invalid : (s : SeatedTask) (o : Option GateError) → refusal_at (SnapshotOp true) s ≡ o → o ≡ Some Invalid → ⊥
never_invalid s o at is = grind arith

-- nobody holds a freeze in an empty list, and none is under way
none_held : (h : Holder) → MayFreeze h []
none_held Kernel = (inl refl, refl)
none_held User = (inl refl, refl)

nobody_holds : (h : Holder) → held_by nobody h ≡ false
nobody_holds Kernel = refl
nobody_holds User = refl

-- a list that leaves a freeze has something done
not_nothing : (h : Holder) (list : List Action) → held_by (holders_of list) h ≡ true → list ≡ [] → ⊥
not_nothing h list holds none =
    let held = ap (λ (l : List Action). held_by (holders_of l) h) none in
    let never = nobody_holds h in cc

-- a task's own number has its list
own_done : (items : DealtNumbers) → ((own_view items).actions ≡ [] → ⊥) → HasDone (own_number items) (own_view items).actions items
own_done [] some = absurd (some refl)
own_done (x ∷ xs) some = record { place = 0; view = x.view; there = refl; done = refl }

module _ (h : Holder) (old : SeatedTask) (one : old.config.tasks ≡ 1) (own : own_number old.items ≡ 0) where
  -- a freeze of a task that has done nothing
  pub not_busy_alone : (left : SeatedTask) (outcome : Result (Unit {0}) GateError) → own_actions old ≡ [] → Performs (FreezeOp h) old left outcome →
      (ws : List ℕ) → EndedWith left.config ws left.items left.seen → outcome ≡ Err Busy → ⊥
  not_busy_alone left outcome nothing did ws ended is =
      let called = begun_refused (FreezeOp h) old left Busy (subst (Performs (FreezeOp h) old left) is did)
      (never_busy h old (refusal_at (FreezeOp h) old) refl) in
      let e : EndedWith old.config ws left.items left.seen = subst (λ (c : Config). EndedWith c ws left.items left.seen) did.config ended in
      let may : MayFreeze h (own_actions old) = subst (MayFreeze h) (sym nothing) (none_held h) in
      not_busy h old left called ws left.items left.seen e may (same_stays_seen left.seen)
      (λ t lt other. absurd (no_other (own_number old.items) t old.config.tasks own one lt other))

  -- and its snapshot
  module _ (frozen left : SeatedTask) (copied : Result (Unit {0}) GateError) (froze : Performs (FreezeOp h) old frozen (Ok tt))
      (copies : Performs (SnapshotOp true) frozen left copied) (ws : List ℕ) (ended : EndedWith left.config ws left.items left.seen) where
    same_own : own_number frozen.items ≡ 0
    same_own = own_stays froze ∙ own

    same_one : frozen.config.tasks ≡ 1
    same_one = ap (λ (c : Config). c.tasks) froze.config ∙ one

    pub not_invalid_alone : copied ≡ Err Invalid → ⊥
    not_invalid_alone is =
        let op : Op = SnapshotOp true in
        let was = was_done (FreezeOp h) old frozen froze in
        let called = begun_refused op frozen left Invalid (subst (Performs op frozen left) is copies)
        (never_invalid frozen (refusal_at op frozen) refl) in
        let e : EndedWith frozen.config ws left.items left.seen = subst (λ (c : Config). EndedWith c ws left.items left.seen) copies.config ended in
        let holds : held_by (holders_of (own_actions frozen)) h ≡ true =
        ap (λ (l : List Action). held_by (holders_of l) h) (adds (FreezeOp h) old frozen (Ok was.reply) was.called) ∙ now_held h _ in
        stands h op frozen left called tt ws left.items left.seen e holds (same_stays_seen left.seen)
        (λ t lt other. absurd (no_other (own_number frozen.items) t frozen.config.tasks same_own same_one lt other))

    still_done : copied ≡ Ok tt → StayedFrozen h (SnapshotOp true)
    still_done is =
        let op : Op = SnapshotOp true in
        let was = was_done (FreezeOp h) old frozen froze in
        let then = was_done op frozen left (subst (Performs op frozen left) is copies) in
        let e : EndedWith old.config ws left.items left.seen =
        subst (λ (c : Config). EndedWith c ws left.items left.seen) (copies.config ∙ froze.config) ended in
        record {
          old = old;
          frozen = frozen;
          left = left;
          reply = was.reply;
          answer = Ok then.reply;
          first = was.called;
          last = then.called;
          still = tree_stays_between h op old frozen frozen left was.reply (Ok then.reply) [] was.called then.called froze.config refl
              (same_stays_seen frozen.seen) (adds op frozen left (Ok then.reply) then.called) tt ws left.items left.seen e (same_stays_seen left.seen)
              (λ t lt other. absurd (no_other (own_number frozen.items) t old.config.tasks same_own one lt other));
        }

    pub frozen_still_alone : OnOk copied (StayedFrozen h (SnapshotOp true))
    frozen_still_alone = where_done copied (StayedFrozen h (SnapshotOp true)) still_done

  -- what gates leave that are closed while all is frozen
  pub left_frozen_alone : (frozen : SeatedTask) → Performs (FreezeOp h) old frozen (Ok tt) → (ws : List ℕ) →
      EndedWith frozen.config ws frozen.items frozen.seen → LeftFrozen h ws
  left_frozen_alone frozen froze ws ended =
      let c : Config = old.config in
      let n : ℕ = own_number frozen.items in
      let was = was_done (FreezeOp h) old frozen froze in
      let e : EndedWith c ws frozen.items frozen.seen = subst (λ (d : Config). EndedWith d ws frozen.items frozen.seen) froze.config ended in
      let entries : List Entry = e.ended.history.reached.entries in
      let whole : HaveHistory c frozen.items (entries ∷ []) = record {
        within = e.ended.ruled.within;
        world = e.ended.world;
        good = e.ended.ruled.good;
        history = e.ended.history;
        mine = e.mine;
        last = refl;
      } in
      let holds : held_by (holders_of (own_actions frozen)) h ≡ true =
      ap (λ (l : List Action). held_by (holders_of l) h) (adds (FreezeOp h) old frozen (Ok was.reply) was.called) ∙ now_held h _ in
      let there : HasDone n (own_actions frozen) frozen.items = own_done frozen.items (not_nothing h (own_actions frozen) holds) in
      record {
        old = old;
        frozen = frozen;
        reply = was.reply;
        first = was.called;
        ended = e.ended;
        still = tree_stays h c n frozen.items frozen.items frozen.items frozen.seen (entries ∷ []) (entries ∷ []) was.called.history whole whole
            (own_actions frozen) [] (λ k earlier at. (0, entries, refl, e.goes_on.goes_on k earlier at)) (same_stays_seen (entries ∷ [])) there there
            holds tt (λ t lt other. absurd (no_other n t c.tasks (own_stays froze ∙ own) one lt other));
      }
