-- What calls of its own leave a task: its numbers, and that it has frozen and thawed nothing unless a call is a freeze or a thaw.
use Rattle.gate_runs.proofs.Prelude.{Action, BackupRound, Called, CallsBack, Copies, Create, CreatesFile, DealtNumbers, DropWrite, Err, File}
use Rattle.gate_runs.proofs.Prelude.{GateError, Grow, HaveNotFrozen, IsRefused, List, NeverFreezes, None, Ok, Op, Option, ReadOnly, RemountRound}
use Rattle.gate_runs.proofs.Prelude.{Remounts, Repeats, Reply, Result, SeatedTask, Some, Traced, Waits, WantWrite, WriterRound, Writes, [], adds, ap}
use Rattle.gate_runs.proofs.Prelude.{false, inl, inr, length, own_actions, own_number, own_view, refl, refusal_at, spare_of, subst, suc, sym, true}
use Rattle.gate_runs.proofs.Prelude.{zero, ℕ, ◌++◌, ◌+◌, ◌∙◌, ◌∷◌, ◌≡◌, ◌≤◌}
use Rattle.std.proofs.lemmas.Bool.{cases_Bool}
use Rattle.access_model.specs.declared.replies.Reply.TheVariants.{Node}
use Rattle.gate_world.specs.{declared.operations.Op.TheVariants.ChangeMount, traces.{Found.found_read_only, Traces.actions_of}}
use Rattle.run_plans.specs.declared.counts.Tried.{TheVariants.{Copied, GaveUp as GivenUp}, Tried}
use Rattle.vfs_gates.{proofs.{Holding.same_own, Rounds.ran_spare, several_tasks.FrozenUntilThawed.some_ran}, specs.Runs.{Replies, ran_items}}
use Rattle.vfs_gates.specs.Splitting.{HaveDoneNothing}
use Rattle.gate_runs.specs.{Keeping.{FreezesNothing, KeepsNumbers}, Rounds.{CreatesFiles, Retries, Takes, Tries}}

pub stays_so : (s : SeatedTask) → KeepsNumbers s s
stays_so s = record { config = refl; own = refl; spare = refl; idle = λ i. i; there = λ h. h }

pub stays_on : {first mid last : SeatedTask} → KeepsNumbers first mid → KeepsNumbers mid last → KeepsNumbers first last
stays_on one two = record {
  config = two.config ∙ one.config;
  own = two.own ∙ one.own;
  spare = two.spare ∙ one.spare;
  idle = λ i. two.idle (one.idle i);
  there = λ h. two.there (one.there h);
}

pub called_stays : (op : Op) (first last : SeatedTask) (answer : Result Reply GateError) → Called op first last answer → KeepsNumbers first last
called_stays op first last answer called =
    let items : last.items ≡ ran_items first.config op called.trace first.items = ap (λ (s : SeatedTask). s.items) called.after in record {
      config = ap (λ (s : SeatedTask). s.config) called.after;
      own = ap own_number items ∙ same_own first.config op called.trace first.items;
      spare = ap spare_of items ∙ ran_spare first.config op called.trace first.items;
      idle = λ i. ap (λ (s : SeatedTask). s.phase) called.after;
      there = λ h. subst (λ (l : DealtNumbers). 1 ≤ length l) (sym items) (some_ran first.config op called.trace first.items h);
    }

-- a call leaves what a whole one leaves, if that is also left where nothing is done
module _ {A : Type 0} (read : Reply → A) (op : Op) (first last : SeatedTask) (outcome : Result A GateError) (did : Replies read op first last outcome)
    (Leaves : SeatedTask → Type 0) (same : Leaves first)
    (whole : (answer : Result Reply GateError) → Called op first last answer → Leaves last) where
  by_beginning : (r : Option GateError) → refusal_at op first ≡ r → Leaves last
  by_beginning None e = let done = did.done e in whole done.0 done.2
  by_beginning (Some refusal) e = subst Leaves (sym (did.refused refusal e).1) same

  pub either_way : Leaves last
  either_way = by_beginning (refusal_at op first) refl

pub stays : {A : Type 0} (read : Reply → A) (op : Op) (first last : SeatedTask) (outcome : Result A GateError) → Replies read op first last outcome →
    KeepsNumbers first last
stays read op first last outcome did = either_way read op first last outcome did (KeepsNumbers first) (stays_so first) (called_stays op first last)

-- an operation of a worker, or of the backup before it freezes, which adds neither
abbrev pub IsWorkers : Op → Type 0
IsWorkers (WantWrite m p) = Unit {0}
IsWorkers (DropWrite m p) = Unit {0}
IsWorkers (ChangeMount m read_only wait) = Unit {0}
IsWorkers (Create dir kind) = Unit {0}
IsWorkers (Grow file blocks) = Unit {0}
IsWorkers op = ⊥

adds_none : (op : Op) (answer : Result Reply GateError) (trace : List Traced) → IsWorkers op → NeverFreezes (actions_of op answer trace)
adds_none (WantWrite m p) (Ok reply) trace its = (tt, (tt, tt))
adds_none (WantWrite m p) (Err refusal) trace its = (tt, (tt, tt))
adds_none (DropWrite m p) (Ok reply) trace its = (tt, (tt, tt))
adds_none (DropWrite m p) (Err refusal) trace its = tt
adds_none (ChangeMount m true wait) (Ok reply) trace its =
    elim (cases_Bool (found_read_only m trace)) [ inl h ↦ rw h tt | inr h ↦ rw h (tt, tt) ]
adds_none (ChangeMount m false wait) (Ok reply) trace its =
    elim (cases_Bool (found_read_only m trace)) [ inl h ↦ rw h (tt, tt) | inr h ↦ rw h tt ]
adds_none (ChangeMount m read_only wait) (Err refusal) trace its = tt
adds_none (Create dir kind) (Ok (Node n)) trace its = (tt, tt)
adds_none (Create dir kind) (Ok reply) trace its = tt
adds_none (Create dir kind) (Err refusal) trace its = tt
adds_none (Grow file blocks) (Ok reply) trace its = (tt, tt)
adds_none (Grow file blocks) (Err refusal) trace its = tt
adds_none op answer trace its = absurd its

never_both : (later earlier : List Action) → NeverFreezes later → NeverFreezes earlier → NeverFreezes (later ++ earlier)
never_both [] earlier none never = never
never_both (a ∷ later) earlier none never = (none.0, never_both later earlier none.1 never)

-- so such a call leaves none of its task's numbers that has frozen or thawed
pub have_not : (items : DealtNumbers) → NeverFreezes (own_view items).actions → HaveNotFrozen (spare_of items) → HaveNotFrozen items
have_not [] own rest = tt
have_not (x ∷ xs) own rest = (own, rest)

pub own_has_not : (items : DealtNumbers) → HaveNotFrozen items → NeverFreezes (own_view items).actions × HaveNotFrozen (spare_of items)
own_has_not [] none = (tt, tt)
own_has_not (x ∷ xs) none = none

called_quiet : (op : Op) → IsWorkers op → (first last : SeatedTask) (answer : Result Reply GateError) → Called op first last answer →
    HaveNotFrozen first.items → HaveNotFrozen last.items
called_quiet op its first last answer called none =
    let were = own_has_not first.items none in
    have_not last.items
    (subst NeverFreezes (sym (adds op first last answer called))
    (never_both (actions_of op answer called.trace) (own_actions first) (adds_none op answer called.trace its) were.0))
    (subst HaveNotFrozen (sym (called_stays op first last answer called).spare) were.1)

pub freezes_nothing : {A : Type 0} (read : Reply → A) (op : Op) → IsWorkers op → (first last : SeatedTask) (outcome : Result A GateError) →
    Replies read op first last outcome → FreezesNothing first last
freezes_nothing read op its first last outcome did = record {
  numbers = stays read op first last outcome did;
  none = λ none. either_way read op first last outcome did (λ (s : SeatedTask). HaveNotFrozen s.items) none
      (λ answer called. called_quiet op its first last answer called none);
}

pub freezes_none_so : (s : SeatedTask) → FreezesNothing s s
freezes_none_so s = record { numbers = stays_so s; none = λ none. none }

pub freezes_none_on : {first mid last : SeatedTask} → FreezesNothing first mid → FreezesNothing mid last → FreezesNothing first last
freezes_none_on one two = record { numbers = stays_on one.numbers two.numbers; none = λ none. two.none (one.none none) }

-- numbers that have done nothing haven't
pub idle_have_not : (items : DealtNumbers) → HaveDoneNothing items → HaveNotFrozen items
idle_have_not [] nothing = tt
idle_have_not (x ∷ xs) nothing = (subst NeverFreezes (sym nothing.0) tt, idle_have_not xs nothing.1)

-- so many rounds, where each leaves a task so
module _ (Leaves : SeatedTask → SeatedTask → Type 0) (same : (s : SeatedTask) → Leaves s s)
    (on : (first mid last : SeatedTask) → Leaves first mid → Leaves mid last → Leaves first last) where
  rounds_so : {S : Type 0} (task : S → SeatedTask) (Round : ℕ → S → S → Type 0) →
      ((k : ℕ) (x y : S) → Round k x y → Leaves (task x) (task y)) → (k : ℕ) (first last : S) → Repeats Round k first last →
      Leaves (task first) (task last)
  rounds_so {S = S} task Round each zero first last did = subst (λ (x : S). Leaves (task first) (task x)) (sym did) (same (task first))
  rounds_so task Round each (suc k) first last did =
      on (task first) (task did.0) (task last) (rounds_so task Round each k first did.0 did.1) (each k did.0 last did.2)

rounds_stay : {S : Type 0} (task : S → SeatedTask) (Round : ℕ → S → S → Type 0) →
    ((k : ℕ) (x y : S) → Round k x y → KeepsNumbers (task x) (task y)) → (k : ℕ) (first last : S) → Repeats Round k first last →
    KeepsNumbers (task first) (task last)
rounds_stay task Round each k first last did =
    rounds_so KeepsNumbers stays_so (λ a b c one two. stays_on one two) task Round each k first last did

rounds_freeze_none : {S : Type 0} (task : S → SeatedTask) (Round : ℕ → S → S → Type 0) →
    ((k : ℕ) (x y : S) → Round k x y → FreezesNothing (task x) (task y)) → (k : ℕ) (first last : S) → Repeats Round k first last →
    FreezesNothing (task first) (task last)
rounds_freeze_none task Round each k first last did =
    rounds_so FreezesNothing freezes_none_so (λ a b c one two. freezes_none_on one two) task Round each k first last did

-- the backup's
pub creates_stay : (writers : ℕ) (first last : SeatedTask) → CreatesFiles writers first last → KeepsNumbers first last
creates_stay writers first last did =
    stays_on (stays _ _ first did.held _ did.took) (stays_on
    (rounds_stay (λ (x : SeatedTask). x) (λ k. CreatesFile) (λ k x y was. stays _ _ x y _ was.1) writers did.held did.made did.creates)
    (stays _ _ did.made last _ did.gave))

module _ {N : Type 0} (link : SeatedTask → ℕ → N → N → Type 0) (patience : Option ℕ) where
  tries_stay : (round : ℕ) (tried : Tried) (first last : SeatedTask × N × ℕ) → Tries link patience round tried first last →
      KeepsNumbers first.0 last.0
  tries_stay round (Copied (Some blocks)) first last was =
      stays_on (stays _ _ first.0 was.frozen _ was.freezes.1.replies) (stays_on (stays _ _ was.frozen was.copied _ was.copies)
      (stays _ _ was.copied last.0 _ was.thaws))
  tries_stay round (Copied None) first last was = absurd was
  tries_stay round GivenUp first last was = stays _ _ first.0 last.0 _ was.0.0.replies

  pub backs_stay : (freezes : ℕ) (first last : SeatedTask × N × Copies) → Repeats (BackupRound link patience) freezes first last →
      KeepsNumbers first.0 last.0
  backs_stay freezes first last did = rounds_stay (λ (x : SeatedTask × N × Copies). x.0) (BackupRound link patience) (λ k x y was. stays_on
      (tries_stay k was.tried (x.0, x.1, x.2.waits) (was.mid, y.1, was.before) was.tries)
      (rounds_stay (λ (x : SeatedTask × ℕ × ℕ). x.0) (λ k. CallsBack (k + 1)) (λ k x y ran. stays _ _ x.0 y.0 _ ran.1) 3
      (was.mid, 0, was.before) (y.0, was.ran, was.waits) was.calls_back)) freezes first last did

pub creates_freeze_none : (writers : ℕ) (first last : SeatedTask) → CreatesFiles writers first last → FreezesNothing first last
creates_freeze_none writers first last did =
    freezes_none_on (freezes_nothing _ (WantWrite 0 0) tt first did.held _ did.took) (freezes_none_on
    (rounds_freeze_none (λ (x : SeatedTask). x) (λ k. CreatesFile) (λ k x y was. freezes_nothing _ (Create 0 File) tt x y _ was.1) writers did.held
    did.made did.creates)
    (freezes_nothing _ (DropWrite 0 0) tt did.made last _ did.gave))

-- the remounter's and the writers', which freeze and thaw nothing
pub refusals_freeze_none : (op : Op) → IsWorkers op → (refusal : GateError) (tries : ℕ) (first last : SeatedTask) →
    Repeats (λ k. IsRefused op refusal) tries first last → FreezesNothing first last
refusals_freeze_none op its refusal tries first last did =
    rounds_freeze_none (λ (x : SeatedTask). x) (λ k. IsRefused op refusal) (λ k x y was. freezes_nothing _ op its x y _ was) tries first last did

retries_freeze_none : (op : Op) → IsWorkers op → (refusal : GateError) (first last : SeatedTask) → Retries op refusal first last →
    FreezesNothing first last
retries_freeze_none op its refusal first last did =
    freezes_none_on (refusals_freeze_none op its refusal did.0 first did.1 did.2) (freezes_nothing _ op its did.1 last _ did.3)

pub takes_freeze_none : (cpu : ℕ) (first last : SeatedTask × ℕ) → Takes cpu first last → FreezesNothing first.0 last.0
takes_freeze_none cpu first last did =
    freezes_none_on (rounds_freeze_none (λ (x : SeatedTask × ℕ). x.0) (λ k. Waits (IsRefused (WantWrite 0 cpu) ReadOnly))
    (λ k x y was. freezes_nothing _ (WantWrite 0 cpu) tt x.0 y.0 _ was.0) did.0 first did.1 did.2)
    (freezes_nothing _ (WantWrite 0 cpu) tt did.1.0 last.0 _ did.3.0)

pub remounts_freeze_none : (rounds : ℕ) (first last : SeatedTask × Remounts) → Repeats RemountRound rounds first last → FreezesNothing first.0 last.0
remounts_freeze_none rounds first last did = rounds_freeze_none (λ x. x.0) RemountRound (λ k x y was. freezes_none_on
    (elim was.closed [
      | inl done ↦ freezes_nothing _ (ChangeMount 0 true true) tt x.0 was.mid _ done.0
      | inr busy ↦ freezes_nothing _ (ChangeMount 0 true true) tt x.0 was.mid _ busy.0
    ])
    (freezes_nothing _ (ChangeMount 0 false true) tt was.mid y.0 _ was.opened)) rounds first last did

pub writes_freeze_none : {N : Type 0} (link : SeatedTask → ℕ → N → N → Type 0) (processors writer rounds : ℕ) (first last : SeatedTask × N × Writes) →
    Repeats (WriterRound link processors writer) rounds first last → FreezesNothing first.0 last.0
writes_freeze_none link processors writer rounds first last did = rounds_freeze_none (λ x. x.0) (WriterRound link processors writer)
    (λ k x y was. freezes_none_on (takes_freeze_none _ (x.0, x.2.waits) (was.held, was.waits) was.took)
    (freezes_none_on (retries_freeze_none (Grow (writer + 1) 1) tt _ was.held was.grown was.grew) (freezes_nothing _ (DropWrite 0 _) tt was.grown y.0 _ was.gave)))
    rounds first last did
