-- What a task that came home has done, once its number was taken back, and what all have done together.
use Rattle.gate_runs.proofs.Prelude.{Among, Err, GateError, Gates, HasBegun, IfErr, IfOk, Ok, Plan, Remounts, Result, SeatedTask, WriterRefused}
use Rattle.gate_runs.proofs.Prelude.{Writes, arith, inl, inr, refl, subst, suc, sym, ℕ, ◌+◌, ◌-◌, ◌∙◌, ◌≡◌, ◌⊎◌}
use Rattle.gate_runs.{proofs.Staying.{all_wrote_before, all_wrote_on, remounted_on, remounter_part, writer_part}, specs.Counts.both}
use Rattle.gate_runs.specs.{Homes.{ComesHome, DoesRounds, IsReady, NeverFroze, TaskShare, TookBack, with_met}, Keeping.FreezesNothing}
use Rattle.gate_runs.specs.{Observers.was_held, Parts.{AllWrote, Remounted, Wrote}, declared.threads.Met.{Met, TheVariants.{Remounter, Writer}}}

-- a task that freezes and thaws nothing comes back with its number
pub comes_back : (gates : Gates) (plan : Plan) (number : ℕ) (first last : SeatedTask) → IsReady gates plan number first → FreezesNothing first last →
    NeverFroze number last
comes_back gates plan number first last ready thaws = record {
  there = thaws.numbers.there ready.begun.there;
  own = thaws.numbers.own ∙ ready.begun.own;
  none = thaws.none ready.none;
}

-- its part, once its number was taken back
part_of : (held : ℕ → ℕ → Type 0) (processors rounds number : ℕ) (first last old new : SeatedTask) (met : Met) → HasBegun number first →
    DoesRounds held processors rounds number first last met → TookBack old last new → TaskShare (Among new.items) held processors rounds number met
part_of held processors rounds number first last old new (Remounter met) begun did took =
    (did.0, remounter_part rounds met first last old new (subst (λ n. HasBegun n first) did.0 begun) did.1 took)
part_of held processors rounds number first last old new (Writer met) begun did took = (
  did.0,
  did.1,
  writer_part (was_held held) processors rounds did.0 tt tt met first last old new (subst (λ n. HasBegun n first) did.1 begun) did.2 took,
)

pub came_home : (held : ℕ → ℕ → Type 0) (gates : Gates) (plan : Plan) (number : ℕ) (last old new : SeatedTask) (met : Result Met GateError) →
    ComesHome held gates plan number last met → TookBack old last new →
    IfOk met (TaskShare (Among new.items) held plan.processors plan.rounds number)
came_home held gates plan number last old new (Ok m) home took =
    part_of held plan.processors plan.rounds number home.3.0 last old new m home.3.1 home.3.2 took
came_home held gates plan number last old new (Err e) home took = tt

-- why it was refused
pub home_refused : (held : ℕ → ℕ → Type 0) (gates : Gates) (plan : Plan) (number : ℕ) (last : SeatedTask) (met : Result Met GateError) →
    ComesHome held gates plan number last met → IfErr met (WriterRefused gates plan.tasks plan.processors plan.rounds)
home_refused held gates plan number last (Ok m) home = tt
home_refused held gates plan number last (Err e) home = home.4

-- what was met by those that were joined, while so many are left: the first of all is the remounter
pub record Joined (Ends : SeatedTask → Type 0) (held : ℕ → ℕ → Type 0) (processors rounds left count : ℕ) (remounts : Remounts) (writes : Writes) :
    Type 0 where
  pub remounted : left ≡ 0 → Remounted Ends rounds remounts
  pub wrote : AllWrote Ends (was_held held) processors rounds (left - 1) count tt tt writes

-- the remounter is the last of all
joined_remounter : (Ends : SeatedTask → Type 0) (held : ℕ → ℕ → Type 0) (processors rounds left place count number : ℕ) (remounts its : Remounts)
    (writes : Writes) → left ≡ suc place → number ≡ place + 1 → TaskShare Ends held processors rounds number (Remounter its) →
    Joined Ends held processors rounds left count remounts writes → Joined Ends held processors rounds place count its writes
joined_remounter Ends held processors rounds left place count number remounts its writes next is part before =
    let here : place ≡ 0 = omega (arith, is, part.0) in
    let same : left - 1 ≡ place - 1 = omega (arith, next, here) in record {
      remounted = λ _. part.1;
      wrote = subst (λ n. AllWrote Ends (was_held held) processors rounds n count tt tt writes) same before.wrote;
    }

-- and a writer comes before those that were joined
joined_writer : (Ends : SeatedTask → Type 0) (held : ℕ → ℕ → Type 0) (processors rounds left place count number : ℕ) (remounts : Remounts)
    (its writes all : Writes) → left ≡ suc place → number ≡ place + 1 → TaskShare Ends held processors rounds number (Writer its) →
    Joined Ends held processors rounds left count remounts writes → all ≡ both its writes →
    Joined Ends held processors rounds place count remounts all
joined_writer Ends held processors rounds left place count number remounts its writes all next is part before sum =
    let own : part.0 ≡ place - 1 = omega (arith, is, part.1) in
    let from : left - 1 ≡ suc (place - 1) = omega (arith, next, is, part.1) in record {
      remounted = λ none. absurd (omega (arith, none, is, part.1));
      wrote = all_wrote_before Ends (was_held held) processors rounds tt tt (place - 1) (left - 1) count its writes all from
          (subst (λ n. Wrote Ends (was_held held) processors rounds n tt tt its) own part.2) before.wrote sum;
    }

-- whichever it is
pub joined_more : (Ends : SeatedTask → Type 0) (held : ℕ → ℕ → Type 0) (processors rounds left place count number : ℕ) (before : Remounts × Writes)
    (met : Met) → left ≡ suc place → number ≡ place + 1 → TaskShare Ends held processors rounds number met →
    Joined Ends held processors rounds left count before.0 before.1 →
    Joined Ends held processors rounds place count (with_met before met).0 (with_met before met).1
joined_more Ends held processors rounds left place count number before (Remounter its) next is part joined =
    joined_remounter Ends held processors rounds left place count number before.0 its before.1 next is part joined
joined_more Ends held processors rounds left place count number before (Writer its) next is part joined =
    joined_writer Ends held processors rounds left place count number before.0 its before.1 (both its before.1) next is part joined refl

-- the same where those who end so end otherwise
joined_on : (Ends Other : SeatedTask → Type 0) → ((s : SeatedTask) → Ends s → Other s) → (held : ℕ → ℕ → Type 0)
    (processors rounds left count : ℕ) (remounts : Remounts) (writes : Writes) →
    Joined Ends held processors rounds left count remounts writes → Joined Other held processors rounds left count remounts writes
joined_on Ends Other on held processors rounds left count remounts writes before = record {
  remounted = λ none. remounted_on Ends Other on rounds remounts (before.remounted none);
  wrote = all_wrote_on Ends Other on (was_held held) processors rounds tt tt (left - 1) count writes before.wrote;
}

-- so of what was met by all that were joined, unless one of them was refused
module _ (Ends : SeatedTask → Type 0) (held : ℕ → ℕ → Type 0) (processors rounds : ℕ) where
  abbrev pub AreJoined : ℕ → ℕ → Result (Remounts × Writes) GateError → Type 0
  AreJoined left count met = IfOk met (λ m. Joined Ends held processors rounds left count m.0 m.1)

  pub all_parts : (left place count number : ℕ) (before : Result (Remounts × Writes) GateError) (its : Result Met GateError)
      (all : Result (Remounts × Writes) GateError) → left ≡ suc place → number ≡ place + 1 →
      ((m : Met) → its ≡ Ok m → TaskShare Ends held processors rounds number m) → AreJoined left count before →
      IfOk all (λ met. (b : Remounts × Writes) × (m : Met) × (before ≡ Ok b) × (its ≡ Ok m) × (met ≡ with_met b m)) → AreJoined place count all
  all_parts left place count number before its (Err refusal) next is part joined done = tt
  all_parts left place count number before its (Ok met) next is part joined done =
      subst (λ (m : Remounts × Writes). Joined Ends held processors rounds place count m.0 m.1) (sym done.4)
      (joined_more Ends held processors rounds left place count number done.0 done.1 next is (part done.1 done.3)
      (subst (AreJoined left count) done.2 joined))

  pub remounted_of : (left count : ℕ) (met : Result (Remounts × Writes) GateError) → left ≡ 0 → AreJoined left count met →
      IfOk met (λ m. Remounted Ends rounds m.0)
  remounted_of left count (Err refusal) none joined = tt
  remounted_of left count (Ok m) none joined = joined.remounted none

  pub wrote_of : (left count : ℕ) (met : Result (Remounts × Writes) GateError) → left ≡ 0 → AreJoined left count met →
      IfOk met (λ m. AllWrote Ends (was_held held) processors rounds 0 count tt tt m.1)
  wrote_of left count (Err refusal) none joined = tt
  wrote_of left count (Ok m) none joined =
      let first : left - 1 ≡ 0 = omega (arith, none) in
      subst (λ n. AllWrote Ends (was_held held) processors rounds n count tt tt m.1) first joined.wrote

pub parts_on : (Ends Other : SeatedTask → Type 0) → ((s : SeatedTask) → Ends s → Other s) → (held : ℕ → ℕ → Type 0)
    (processors rounds left count : ℕ) (met : Result (Remounts × Writes) GateError) → AreJoined Ends held processors rounds left count met →
    AreJoined Other held processors rounds left count met
parts_on Ends Other on held processors rounds left count (Err refusal) joined = tt
parts_on Ends Other on held processors rounds left count (Ok m) joined =
    joined_on Ends Other on held processors rounds left count m.0 m.1 joined

-- a refusal of either is one of both
pub either_refused : {A B C : Type 0} (Refused : GateError → Type 0) (one : Result A GateError) (two : Result B GateError) (both : Result C GateError) →
    IfErr one Refused → IfErr two Refused → IfErr both (λ refusal. (one ≡ Err refusal) ⊎ (two ≡ Err refusal)) → IfErr both Refused
either_refused Refused one two (Ok c) first second was = tt
either_refused {A} {B} Refused one two (Err refusal) first second (inl is) = subst (λ (r : Result A GateError). IfErr r Refused) is first
either_refused {A} {B} Refused one two (Err refusal) first second (inr is) = subst (λ (r : Result B GateError). IfErr r Refused) is second

-- what is said of an answer that was granted, and of a refusal
pub where_ok : {A : Type 0} (P : A → Type 0) (answer : Result A GateError) (a : A) → answer ≡ Ok a → IfOk answer P → P a
where_ok {A} P answer a is holds = subst (λ (r : Result A GateError). IfOk r P) is holds

pub each_ok : {A : Type 0} (P Q : A → Type 0) (answer : Result A GateError) → ((a : A) → P a → Q a) → IfOk answer P → IfOk answer Q
each_ok P Q (Ok a) on holds = on a holds
each_ok P Q (Err refusal) on holds = tt

pub each_err : {A : Type 0} (P Q : GateError → Type 0) (answer : Result A GateError) → ((refusal : GateError) → P refusal → Q refusal) →
    IfErr answer P → IfErr answer Q
each_err P Q (Ok a) on holds = tt
each_err P Q (Err refusal) on holds = on refusal holds
