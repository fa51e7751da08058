-- What a return leaves of a task whose access was granted before.
use Rattle.vfs_gates.proofs.Prelude.{Bool, Called, Config, Err, GateError, Grant, IsAsBefore, IsHonestAnswer, IsIdle, Level, List, Mount, None, Ok}
use Rattle.vfs_gates.proofs.Prelude.{Op, Option, Performs, Reply, Result, SeatedTask, Some, Traced, Want, WantWrite, and_parts, ap, arith, eqb_tells}
use Rattle.vfs_gates.proofs.Prelude.{false, held_of, inl, inr, is_some, lt-ltb, mounts_of, not, own_actions, own_view, refl, refusal_at, subst, sym}
use Rattle.vfs_gates.proofs.Prelude.{told_as, true, unit_of, update_at, ℕ, ◌+◌, ◌-◌, ◌<◌, ◌∙◌, ◌∷◌, ◌≡◌}
use Rattle.std.proofs.{Common.nat_lt, Math.Path.fun_ext, lemmas.Bool.{ltb-true, not-true}}
use Rattle.access_model.specs.{Histories.levels_of, declared.actions.Action.TheVariants.Return}
use Rattle.{finite_sums.{proofs.Totals.update_off, specs.Sums.update}, gate_steps.proofs.call_events.Beginnings.{MayBegin, may_begin}}
use Rattle.gate_world.specs.{Holdings.{Holdings, held_after, holdings_of}, declared.operations.Op.TheVariants.{DropMount, DropWrite}}
use Rattle.vfs_gates.{proofs.Holding.{adds, stays, unchanged}, specs.Held.IsGivenBack}

-- a call that was done began, and was one whole operation that replied
pub record WasDone (op : Op) (old left : SeatedTask) : Type 0 where
  pub began : refusal_at op old ≡ None
  pub reply : Reply
  pub called : Called op old left (Ok reply)

replied : (op : Op) (old left : SeatedTask) → refusal_at op old ≡ None → (answer : Result Reply GateError) →
    ◌≡◌ {A = Result (Unit {0}) GateError} (Ok tt) (told_as unit_of answer) → Called op old left answer → WasDone op old left
replied op old left began (Ok reply) told k = record { began = began; reply = reply; called = k }
replied op old left began (Err refusal) told k = absurd (let f : ⊥ = cc in f)

done_by_beginning : (op : Op) (old left : SeatedTask) → Performs op old left (Ok tt) → (o : Option GateError) → refusal_at op old ≡ o →
    WasDone op old left
done_by_beginning op old left call None at = let done = call.done at in replied op old left at done.0 done.1 done.2
done_by_beginning op old left call (Some refusal) at =
    let is : ◌≡◌ {A = Result (Unit {0}) GateError} (Ok tt) (Err refusal) = (call.refused refusal at).0 in absurd cc

pub was_done : (op : Op) (old left : SeatedTask) → Performs op old left (Ok tt) → WasDone op old left
was_done op old left call = done_by_beginning op old left call (refusal_at op old) refl

-- so its task may begin it
pub may : (op : Op) (old left : SeatedTask) → WasDone op old left → MayBegin old.config (is_some old.phase) (held_of (own_view old.items)) op
may op old left was = may_begin old.config (is_some old.phase) (held_of (own_view old.items)) op was.began

-- and is idle after it
pub done_idle : (op : Op) (old left : SeatedTask) → Performs op old left (Ok tt) → IsIdle left
done_idle op old left call = let was = was_done op old left call in (stays op old left (Ok was.reply) was.called).3

-- an operation that is never refused once it has begun
abbrev NeverRefused : Op → Type 0
NeverRefused op = (c : Config) (refusal : GateError) (trace : List Traced) → IsHonestAnswer c op (Err refusal) trace → ⊥

-- a call of one that begins was done
never : (op : Op) (old left : SeatedTask) → NeverRefused op → refusal_at op old ≡ None → (answer : Result Reply GateError)
    (outcome : Result (Unit {0}) GateError) → outcome ≡ told_as unit_of answer → Called op old left answer →
    (outcome ≡ Ok tt) × WasDone op old left
never op old left unrefused began (Ok reply) outcome told k = (told, record { began = began; reply = reply; called = k })
never op old left unrefused began (Err refusal) outcome told k = absurd (unrefused old.config refusal k.trace k.honest)

-- what is written at one place and then as it was
once_back : {A : Type 0} (f : ℕ → A) (i : ℕ) (u v : A) → v ≡ f i → update (update f i u) i v ≡ f
once_back f i u v same =
    fun_ext (λ y. elim (eqb_tells y i) [
      | inl e ↦ subst (λ z. update (update f i u) i v z ≡ f z) (sym e.1) (update_at (update f i u) i v ∙ same)
      | inr e ↦ update_off (update f i u) i v y e.1 ∙ update_off f i u y e.1
    ])

-- an access that is granted and returned
mount_back : (m : ℕ) (held : Holdings) → held_after (Some (Return (Mount m))) (held_after (Some (Grant (Mount m))) held) ≡ held
mount_back m held =
    let more : ℕ → ℕ = update held.mounts m (held.mounts m + 1) in
    let back : more m - 1 ≡ held.mounts m = omega (arith, update_at held.mounts m (held.mounts m + 1)) in
    λ j. record held { mounts = once_back held.mounts m (held.mounts m + 1) (more m - 1) back j }

-- a level that was not held, gone inside and left again
level_back : (i : ℕ) (held : Holdings) → held.levels i ≡ false →
    held_after (Some (Return (Level i))) (held_after (Some (Grant (Level i))) held) ≡ held
level_back i held out = λ j. record held { levels = once_back held.levels i true false (sym out) j }

-- A want that was granted, other calls that left the task as it was, and a drop.
module _ (m p q : ℕ) (wait : Bool) (old there mid left : SeatedTask) (outcome : Result (Unit {0}) GateError)
    (cpu : q < old.config.processors) (took : Performs (Want m p wait) old there (Ok tt)) (between : IsAsBefore there mid)
    (gives : Performs (DropMount m q) mid left outcome) where
  wanted : WasDone (Want m p wait) old there
  wanted = was_done (Want m p wait) old there took

  want_adds : own_actions there ≡ Grant (Mount m) ∷ own_actions old
  want_adds = adds (Want m p wait) old there (Ok wanted.reply) wanted.called

  held_then : holdings_of (own_actions mid) ≡ held_after (Some (Grant (Mount m))) (holdings_of (own_actions old))
  held_then = between.held ∙ ap holdings_of want_adds

  drop_begins : refusal_at (DropMount m q) mid ≡ None
  drop_begins =
      let config : mid.config ≡ old.config = between.config ∙ took.config in
      let range = and_parts (nat_lt m old.config.mounts) (nat_lt p old.config.processors) (may (Want m p wait) old there wanted).range in
      let one : mounts_of (own_actions mid) m ≡ mounts_of (own_actions old) m + 1 =
      ap (λ (h : Holdings). h.mounts m) held_then ∙ update_at (mounts_of (own_actions old)) m _ in
      let some : 0 < mounts_of (own_actions mid) m = omega (arith, one) in
      rw (between.idle, config, range.0, lt-ltb q old.config.processors cpu, lt-ltb 0 _ some) refl

  drop : (outcome ≡ Ok tt) × WasDone (DropMount m q) mid left
  drop = let done = gives.done drop_begins in never (DropMount m q) mid left (λ c refusal trace h. h) drop_begins done.0 outcome done.1 done.2

  drop_adds : own_actions left ≡ Return (Mount m) ∷ own_actions mid
  drop_adds = adds (DropMount m q) mid left (Ok drop.1.reply) drop.1.called

  pub drop_restores : (outcome ≡ Ok tt) × IsAsBefore old left
  drop_restores =
      let here = stays (DropMount m q) mid left (Ok drop.1.reply) drop.1.called in
      let first = stays (Want m p wait) old there (Ok wanted.reply) wanted.called in (
        drop.0,
        record {
          table = here.0 ∙ (between.table ∙ first.0);
          config = here.1 ∙ (between.config ∙ first.1);
          own = here.2 ∙ (between.own ∙ first.2);
          idle = here.3;
          held = ap holdings_of drop_adds ∙ (ap (held_after (Some (Return (Mount m)))) held_then ∙ mount_back m (holdings_of (own_actions old)));
        },
      )

-- a want that was granted, and the drop right after it
pub dropped : (m p q : ℕ) (wait : Bool) (old there left : SeatedTask) (outcome : Result (Unit {0}) GateError) → q < old.config.processors →
    Performs (Want m p wait) old there (Ok tt) → Performs (DropMount m q) there left outcome → IsGivenBack (Mount m) old left outcome
dropped m p q wait old there left outcome cpu took gives =
    let same = unchanged there (done_idle (Want m p wait) old there took) in
    let restored = drop_restores m p q wait old there there left outcome cpu took same gives in record {
      done = restored.0;
      list = drop_adds m p q wait old there there left outcome cpu took same gives ∙
          ap (λ l. Return (Mount m) ∷ l) (want_adds m p q wait old there there left outcome cpu took same gives);
      as_before = restored.1;
    }

-- Write access that was granted, other calls that left the task as it was, and its return.
module _ (m p q : ℕ) (old there mid left : SeatedTask) (outcome : Result (Unit {0}) GateError) (cpu : q < old.config.processors)
    (took : Performs (WantWrite m p) old there (Ok tt)) (between : IsAsBefore there mid) (gives : Performs (DropWrite m q) mid left outcome)
  where
    written : WasDone (WantWrite m p) old there
    written = was_done (WantWrite m p) old there took

    write_adds : own_actions there ≡ Grant (Mount m) ∷ (Grant (Level 1) ∷ own_actions old)
    write_adds = adds (WantWrite m p) old there (Ok written.reply) written.called

    outside : levels_of (own_actions old) 1 ≡ false
    outside = not-true _ (and_parts (not (levels_of (own_actions old) 1)) _ (may (WantWrite m p) old there written).order).0

    -- what it holds inside the level, and then with the access too
    abbrev inside : Holdings
    inside = held_after (Some (Grant (Level 1))) (holdings_of (own_actions old))

    write_then : holdings_of (own_actions mid) ≡ held_after (Some (Grant (Mount m))) inside
    write_then = between.held ∙ ap holdings_of write_adds

    return_begins : refusal_at (DropWrite m q) mid ≡ None
    return_begins =
        let config : mid.config ≡ old.config = between.config ∙ took.config in
        let range = and_parts (nat_lt m old.config.mounts) (nat_lt p old.config.processors) (may (WantWrite m p) old there written).range in
        let one : mounts_of (own_actions mid) m ≡ mounts_of (own_actions old) m + 1 =
        ap (λ (h : Holdings). h.mounts m) write_then ∙ update_at (mounts_of (own_actions old)) m _ in
        let some : 0 < mounts_of (own_actions mid) m = omega (arith, one) in
        let within : levels_of (own_actions mid) 1 ≡ true =
        ap (λ (h : Holdings). h.levels 1) write_then ∙ update_at (levels_of (own_actions old)) 1 true in
        rw (between.idle, config, range.0, lt-ltb q old.config.processors cpu, within, lt-ltb 0 _ some) refl

    return : (outcome ≡ Ok tt) × WasDone (DropWrite m q) mid left
    return =
        let done = gives.done return_begins in
        never (DropWrite m q) mid left (λ c refusal trace h. h) return_begins done.0 outcome done.1 done.2

    return_adds : own_actions left ≡ Return (Level 1) ∷ (Return (Mount m) ∷ own_actions mid)
    return_adds = adds (DropWrite m q) mid left (Ok return.1.reply) return.1.called

    pub return_restores : (outcome ≡ Ok tt) × IsAsBefore old left
    return_restores =
        let here = stays (DropWrite m q) mid left (Ok return.1.reply) return.1.called in
        let first = stays (WantWrite m p) old there (Ok written.reply) written.called in (
          return.0,
          record {
            table = here.0 ∙ (between.table ∙ first.0);
            config = here.1 ∙ (between.config ∙ first.1);
            own = here.2 ∙ (between.own ∙ first.2);
            idle = here.3;
            held = ap holdings_of return_adds ∙
                (ap (held_after (Some (Return (Level 1)))) (ap (held_after (Some (Return (Mount m)))) write_then ∙ mount_back m inside) ∙
                level_back 1 (holdings_of (own_actions old)) outside);
          },
        )

-- Write access that was granted, other calls that left the task as it was, and its return on the same processor.
pub written_back : (m p : ℕ) (old there mid left : SeatedTask) (outcome : Result (Unit {0}) GateError) →
    Performs (WantWrite m p) old there (Ok tt) → IsAsBefore there mid → Performs (DropWrite m p) mid left outcome →
    (outcome ≡ Ok tt) × IsAsBefore old left
written_back m p old there mid left outcome took between gives =
    let began = may (WantWrite m p) old there (was_done (WantWrite m p) old there took) in
    let range = and_parts (nat_lt m old.config.mounts) (nat_lt p old.config.processors) began.range in
    return_restores m p p old there mid left outcome (ltb-true p old.config.processors range.1) took between gives
