-- What two tasks that have all numbers know of a mount that one of them has made read-only.
use Rattle.vfs_gates.proofs.Prelude.{Bool, ChangeMount, Err, GateError, HaveAll, IfErr, IsHonestAnswer, List, Meets, None, NoneIs, Ok, Op, Performs}
use Rattle.vfs_gates.proofs.Prelude.{Reply, Rests, Result, SeatedTask, Traced, Want, WantWrite, actions_of, ap, arith, cases_Bool, found_read_only}
use Rattle.vfs_gates.proofs.Prelude.{inl, inr, lt-ltb, refl, refusal_at, subst, sym, told_as, true, unit_of, ℕ, ◌++◌, ◌<◌, ◌≡◌}
use Rattle.access_model.specs.declared.{actions.Action.TheVariants.MountRo, errors.GateError.TheVariants.ReadOnly}
use Rattle.vfs_gates.{proofs.{Returning.was_done, several_tasks.{Between.around_both, Shut.none_admitted}}, specs.Meetings.{Reopens, TakesMount}}

-- a change to read-only, and an operation that takes an access, make no mount writable
no_reopening : (m : ℕ) → Reopens m (MountRo m) → ⊥
no_reopening m (inl is) = let no : ⊥ = cc in no
no_reopening m (inr is) = let no : ⊥ = cc in no

change_reopens_none : (m : ℕ) (wait : Bool) (reply : Reply) (trace : List Traced) → NoneIs (Reopens m) (actions_of (ChangeMount m true wait) (Ok reply) trace)
change_reopens_none m wait reply trace =
    elim (cases_Bool (found_read_only m trace)) [ inl f ↦ rw f tt | inr f ↦ rw f (no_reopening m, tt) ]

takes_reopens_none : (m : ℕ) (op : Op) (reply : Reply) (trace : List Traced) → TakesMount m op → NoneIs (Reopens m) (actions_of op (Ok reply) trace)
takes_reopens_none m (Want k p wait) reply trace same = grind arith
takes_reopens_none m (WantWrite k p) reply trace same = grind arith
takes_reopens_none m other reply trace none = absurd none

-- Two tasks that have all numbers meet; the first makes a mount read-only; they meet; the second asks for an access there; they meet.
module _ (m : ℕ) (wait : Bool) (op : Op) (one two begins beside left first second asks third fourth : SeatedTask)
    (outcome : Result (Unit {0}) GateError) (takes : TakesMount m op) (meets : Meets one two begins beside)
    (change : Performs (ChangeMount m true wait) begins left (Ok tt)) (again : Meets left beside first second) (want : Performs op second asks outcome)
    (at_last : Meets first asks third fourth) (all : HaveAll one two) where
  pub both_shut : outcome ≡ Ok tt → ⊥
  both_shut is =
      let made = was_done (ChangeMount m true wait) begins left change in
      let took = was_done op second asks (subst (Performs op second asks) is want) in
      let around = around_both (ChangeMount m true wait) op one two begins beside left first second asks third fourth made.reply took.reply meets
      made.called again took.called at_last all in
      none_admitted m wait op begins left second asks made.reply took.reply (one.items ++ two.items) (first.items ++ asks.items) meets.seen at_last.seen
      around.first around.last made.called took.called takes around.config around.saw around.between around.sees
      (around.since (Reopens m) (change_reopens_none m wait made.reply made.called.trace) (takes_reopens_none m op took.reply took.called.trace takes))

  read_only_alone : (p : ℕ) (trace : List Traced) (answer : Result Reply GateError) → IsHonestAnswer second.config (WantWrite m p) answer trace →
      IfErr (told_as unit_of answer) (λ cause. cause ≡ ReadOnly)
  read_only_alone p trace (Ok reply) honest = tt
  read_only_alone p trace (Err ReadOnly) honest = refl
  read_only_alone p trace (Err cause) honest = absurd honest

  by_outcome : (o : Result (Unit {0}) GateError) → (o ≡ Ok tt → ⊥) → IfErr o (λ refusal. refusal ≡ ReadOnly) → o ≡ Err ReadOnly
  by_outcome (Ok done) never only = absurd (never refl)
  by_outcome (Err e) never only = ap (λ k. Err k) only

  -- write access, for a task that rests, is refused as read-only
  pub both_read_only : (p : ℕ) → op ≡ WantWrite m p → Rests second → m < second.config.mounts → p < second.config.processors → outcome ≡ Err ReadOnly
  both_read_only p same rests mount cpu =
      let asked : Performs (WantWrite m p) second asks outcome = subst (λ o. Performs o second asks outcome) same want in
      let begins_so : refusal_at (WantWrite m p) second ≡ None =
      rw (
        rests.0,
        lt-ltb m second.config.mounts mount,
        lt-ltb p second.config.processors cpu,
        rests.1.1 1 (omega arith) (omega arith),
        rests.1.1 2 (omega arith) (omega arith),
        rests.1.1 3 (omega arith) (omega arith),
        rests.1.0 m mount,
      ) refl in
      let done = asked.done begins_so in
      by_outcome outcome both_shut
      (subst (λ (r : Result (Unit {0}) GateError). IfErr r (λ cause. cause ≡ ReadOnly)) (sym done.1)
      (read_only_alone p done.2.trace done.0 done.2.honest))
