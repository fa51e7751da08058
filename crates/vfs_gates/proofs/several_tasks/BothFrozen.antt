-- What two tasks that have all numbers know of a freeze that one of them was granted.
use Rattle.vfs_gates.proofs.Prelude.{Action, Bool, Err, Freeze, Gate, GateError, Grant, HaveAll, Hold, Holder, IfErr, IsHonestAnswer, List, Meets}
use Rattle.vfs_gates.proofs.Prelude.{Node, None, NoneIs, Ok, Op, Performs, Reply, Rests, Result, Seals, SeatedTask, Start, Touch, Traced, WantWrite}
use Rattle.vfs_gates.proofs.Prelude.{WordName, [], actions_of, ap, arith, cases_Bool, false, found_sealed, has_flag, inl, inr, lt-ltb, refl}
use Rattle.vfs_gates.proofs.Prelude.{refusal_at, subst, sym, told_as, unit_of, ℕ, ◌++◌, ◌<◌, ◌∷◌, ◌≡◌}
use Rattle.access_model.specs.declared.{actions.Action.TheVariants.{Clean, Pass, Stage as StageAction}, errors.GateError.TheVariants.Again}
use Rattle.{cpu_words.specs.declared.events.Touch.TheVariants.And, gate_world.specs.traces.Found.{clean_found, cleans, found_complete}}
use Rattle.vfs_gates.proofs.{Returning.was_done, several_tasks.Between.{around_both, writable_there}}
use Rattle.vfs_gates.{proofs.several_tasks.GrantedFreeze.{none_started_later, none_written_later}, specs.Meetings.{NoneDone, Thaws}}

-- a kind of actions of which a freeze that was granted adds none
module _ (Is : Action → Type 0) (holds : (h : Holder) → Is (Hold h) → ⊥) (stages : (n : ℕ) → Is (StageAction n) → ⊥)
    (passes : (i : ℕ) → Is (Pass i) → ⊥) (clears : (n : ℕ) → Is (Clean n) → ⊥) where
  clear_none : (word : WordName) (touch : Touch) (found : ℕ) (actions rest : List Action) → NoneIs Is (actions ++ rest) →
      NoneIs Is (clean_found word touch found actions ++ rest)
  clear_none (Node n) (And mask) found actions rest none =
      elim (cases_Bool (has_flag found 4)) [ inl f ↦ rw f (clears n, none) | inr f ↦ rw f none ]
  clear_none word touch found actions rest none = none

  clears_none : (trace : List Traced) (rest : List Action) → NoneIs Is rest → NoneIs Is (cleans trace ++ rest)
  clears_none [] rest none = none
  clears_none (e ∷ earlier) rest none =
      clear_none e.event.word e.event.touch e.event.found (cleans earlier) rest (clears_none earlier rest none)

  freeze_adds_none : (h : Holder) (reply : Reply) (trace : List Traced) → NoneIs Is (actions_of (Freeze h) (Ok reply) trace)
  freeze_adds_none h reply trace =
      let way : NoneIs Is (cleans trace ++ (Pass 2 ∷ (StageAction 2 ∷ (Pass 1 ∷ (StageAction 1 ∷ []))))) =
      clears_none trace (Pass 2 ∷ (StageAction 2 ∷ (Pass 1 ∷ (StageAction 1 ∷ [])))) (passes 2, (stages 2, (passes 1, (stages 1, tt)))) in (
        holds h,
        elim (cases_Bool (found_complete trace)) [
          | inl complete ↦ rw complete tt
          | inr closing ↦ rw closing (
            stages 4,
            elim (cases_Bool (found_sealed trace)) [
              | inl sealed ↦ rw sealed tt
              | inr writable ↦ rw writable (passes 3, (stages 3, way))
            ],
          )
        ],
      )

freeze_thaws_none : (h : Holder) (reply : Reply) (trace : List Traced) → NoneIs (Thaws h) (actions_of (Freeze h) (Ok reply) trace)
freeze_thaws_none h reply trace =
    freeze_adds_none (Thaws h) (λ k is. let no : ⊥ = cc in no) (λ n is. let no : ⊥ = cc in no) (λ i is. let no : ⊥ = cc in no)
    (λ n is. let no : ⊥ = cc in no) h reply trace

freeze_seals_none : (h : Holder) (reply : Reply) (trace : List Traced) → NoneIs Seals (actions_of (Freeze h) (Ok reply) trace)
freeze_seals_none h reply trace =
    freeze_adds_none Seals (λ k is. let no : ⊥ = cc in no) (λ n is. let no : ⊥ = cc in no) (λ i is. let no : ⊥ = cc in no)
    (λ n is. let no : ⊥ = cc in no) h reply trace

-- and no grant is one of these
grant_thaws_none : (h : Holder) (gate : Gate) → Thaws h (Grant gate) → ⊥
grant_thaws_none h gate is = let no : ⊥ = cc in no

grant_seals_none : (gate : Gate) → Seals (Grant gate) → ⊥
grant_seals_none gate is = let no : ⊥ = cc in no

-- Two tasks that have all numbers meet; the first is granted a freeze; they meet; the second asks for an access; they meet.
module _ (h : Holder) (one two begins beside left first second asks third fourth : SeatedTask) (outcome : Result (Unit {0}) GateError)
    (meets : Meets one two begins beside) (freeze : Performs (Freeze h) begins left (Ok tt)) (again : Meets left beside first second)
    (at_last : Meets first asks third fourth) (all : HaveAll one two) where
  pub both_keep_writers_out : (m p : ℕ) → Performs (WantWrite m p) second asks outcome → outcome ≡ Ok tt → ⊥
  both_keep_writers_out m p want is =
      let op : Op = WantWrite m p in
      let made = was_done (Freeze h) begins left freeze in
      let took = was_done op second asks (subst (Performs op second asks) is want) in
      let around = around_both (Freeze h) op one two begins beside left first second asks third fourth made.reply took.reply meets made.called again
      took.called at_last all in
      none_written_later h m p begins left second asks made.reply took.reply (one.items ++ two.items) (first.items ++ asks.items) meets.seen at_last.seen
      around.first around.last made.called took.called around.config around.saw around.between around.sees
      (around.since (Thaws h) (freeze_thaws_none h made.reply made.called.trace) (grant_thaws_none h _, (grant_thaws_none h _, tt)))

  -- nor a start, if none of the numbers had made the superblock read-only
  pub both_keep_starts_out : (i p : ℕ) (wait : Bool) → NoneDone Seals (one.items ++ two.items) → Performs (Start i p wait) second asks outcome →
      outcome ≡ Ok tt → ⊥
  both_keep_starts_out i p wait writable start is =
      let op : Op = Start i p wait in
      let made = was_done (Freeze h) begins left freeze in
      let took = was_done op second asks (subst (Performs op second asks) is start) in
      let around = around_both (Freeze h) op one two begins beside left first second asks third fourth made.reply took.reply meets made.called again
      took.called at_last all in
      none_started_later h i p wait begins left second asks made.reply took.reply (one.items ++ two.items) (first.items ++ asks.items) meets.seen
      at_last.seen around.first around.last made.called took.called around.config around.saw around.between around.sees
      (around.since (Thaws h) (freeze_thaws_none h made.reply made.called.trace) (grant_thaws_none h _, tt))
      (writable_there begins.config (one.items ++ two.items) meets.seen around.first around.all writable)
      (around.since Seals (freeze_seals_none h made.reply made.called.trace) (grant_seals_none _, tt))

  again_alone : (i p : ℕ) (trace : List Traced) (answer : Result Reply GateError) → IsHonestAnswer second.config (Start i p false) answer trace →
      IfErr (told_as unit_of answer) (λ cause. cause ≡ Again)
  again_alone i p trace (Ok reply) honest = tt
  again_alone i p trace (Err Again) honest = refl
  again_alone i p trace (Err cause) honest = absurd honest

  by_outcome : (o : Result (Unit {0}) GateError) → (o ≡ Ok tt → ⊥) → IfErr o (λ refusal. refusal ≡ Again) → o ≡ Err Again
  by_outcome (Ok done) never only = absurd (never refl)
  by_outcome (Err e) never only = ap (λ k. Err k) only

  -- a start that waits for nobody is refused as Again, if it begins at all
  pub both_refuse_a_start : (i p : ℕ) → NoneDone Seals (one.items ++ two.items) → refusal_at (Start i p false) second ≡ None →
      Performs (Start i p false) second asks outcome → outcome ≡ Err Again
  both_refuse_a_start i p writable begin_so start =
      let done = start.done begin_so in
      by_outcome outcome (both_keep_starts_out i p false writable start)
      (subst (λ (r : Result (Unit {0}) GateError). IfErr r (λ cause. cause ≡ Again)) (sym done.1)
      (again_alone i p done.2.trace done.0 done.2.honest))

-- a start at level 1, by a task at rest, begins
pub start_begins : (p : ℕ) (wait : Bool) (s : SeatedTask) → Rests s → p < s.config.processors → refusal_at (Start 1 p wait) s ≡ None
start_begins p wait s rests cpu =
    rw (
      rests.0,
      lt-ltb p s.config.processors cpu,
      rests.1.1 1 (omega arith) (omega arith),
      rests.1.1 2 (omega arith) (omega arith),
      rests.1.1 3 (omega arith) (omega arith),
    ) refl
