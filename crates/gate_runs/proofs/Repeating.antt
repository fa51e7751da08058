-- Rounds that go on.
use Rattle.gate_runs.proofs.Prelude.{CreatesFile, Does, DropWrite, Err, GateError, IsRefused, Ok, Op, Performs, ReadOnly, Repeats, Result, SeatedTask}
use Rattle.gate_runs.proofs.Prelude.{Waits, WantWrite, WriterRound, Writes, ap, arith, counted, inl, inr, subst, suc, zero, ℕ, ◌+◌, ◌-◌, ◌≡◌, ◌≤◌}
use Rattle.gate_runs.specs.{Refusals.any_call, Rounds.{Closes, CreatesFiles, Retries, Takes}}
use Rattle.std.{proofs.Common.{min, ◌^◌}, specs.Prelude.OnOk}

-- one round more
pub one_more : {S : Type 0} (Round : ℕ → S → S → Type 0) (k : ℕ) (first mid last : S) → Repeats Round k first mid → Round k mid last →
    Repeats Round (k + 1) first last
one_more Round k first mid last so_far next =
    let is : suc k ≡ k + 1 = omega arith in subst (λ n. Repeats Round n first last) is (mid, so_far, next)

-- files that were created, and the access that is given back
pub created : (writers : ℕ) (first held made last : SeatedTask) → Does (WantWrite 0 0) first held → Repeats (λ k. CreatesFile) writers held made →
    (answer : Result (Unit {0}) GateError) → Performs (DropWrite 0 0) made last answer → OnOk answer (CreatesFiles writers first last)
created writers first held made last took creates (Ok unit) gave = record {
  held = held;
  made = made;
  took = took;
  creates = creates;
  gave = gave;
}
created writers first held made last took creates (Err refusal) gave = tt

-- a call that was refused again and again, and then was done, and how often it was refused
pub answered : (op : Op) (refusal : GateError) (first mid last : SeatedTask) (tries tried : ℕ) →
    Repeats (λ k. IsRefused op refusal) tries first mid → Does op mid last → tried ≡ counted tries →
    (did : Retries op refusal first last) × (tried ≡ counted did.0)
answered op refusal first mid last tries tried so_far did counts = ((tries, mid, so_far, did), counts)

-- the same of write access, with the waits so far
pub taken : (cpu : ℕ) (first mid last : SeatedTask × ℕ) (tries tried : ℕ) →
    Repeats (λ k. Waits (IsRefused (WantWrite 0 cpu) ReadOnly)) tries first mid → Waits (Does (WantWrite 0 cpu)) mid last → tried ≡ counted tries →
    (did : Takes cpu first last) × (tried ≡ counted did.0)
taken cpu first mid last tries tried so_far did counts = ((tries, mid, so_far, did), counts)

-- a writer's rounds, of which nothing is said of its watch
round_of_any : {N : Type 0} (link : SeatedTask → ℕ → N → N → Type 0) (processors writer round : ℕ) (first last : SeatedTask × N × Writes) →
    WriterRound link processors writer round first last → WriterRound any_call processors writer round (first.0, tt, first.2) (last.0, tt, last.2)
round_of_any link processors writer round first last was = record {
  held = was.held;
  grown = was.grown;
  waits = was.waits;
  took = was.took;
  grew = was.grew;
  met = tt;
  gave = was.gave;
  counts = was.counts;
}

pub rounds_of_any : {N : Type 0} (link : SeatedTask → ℕ → N → N → Type 0) (processors writer rounds : ℕ) (first last : SeatedTask × N × Writes) →
    Repeats (WriterRound link processors writer) rounds first last →
    Repeats (WriterRound any_call processors writer) rounds (first.0, tt, first.2) (last.0, tt, last.2)
rounds_of_any {N = N} link processors writer zero first last did = ap (λ (x : SeatedTask × N × Writes). (x.0, tt, x.2)) did
rounds_of_any link processors writer (suc rounds) first last did = (
  (did.0.0, tt, did.0.2),
  rounds_of_any link processors writer rounds first did.0 did.1,
  round_of_any link processors writer rounds did.0 last did.2,
)

-- one more
stands_still : (most n : ℕ) → min (min n most + 1) most ≡ min (n + 1) most
stands_still most n = omega arith

pub counted_more : (n : ℕ) → min (counted n + 1) (2 ^ 64 - 1) ≡ counted (n + 1)
counted_more n = stands_still (2 ^ 64 - 1) n

-- a mount is busy once at most
pub busy_once : (busy : ℕ) (first last : SeatedTask) → Closes busy first last → busy ≤ 1
busy_once busy first last (inl done) = let none : busy ≡ 0 = done.1 in omega arith
busy_once busy first last (inr was) = let one : busy ≡ 1 = was.1 in omega arith
