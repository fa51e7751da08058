-- after a grace period nobody is on the fast path, until the state is GP_IDLE again
use Rattle.std.{proofs.{Common.{arith, subst, suc, zero, ℕ, ◌+◌, ◌-◌, ◌<◌, ◌≡◌, ◌≤◌}, lemmas.Grind.common_steps}, specs.Prelude.Some}
use Rattle.percpu_rwsem.specs.declared.sync_word.GpState.{GpState}
use Rattle.freeze_laws.{proofs.levels.{EventLaws.past_finds, Runs.run_is_right}, specs.levels.{Changes.state_found, Events.{Happens, SyncEvent}}}
use Rattle.freeze_laws.specs.levels.{Events.{SyncLevel, SyncLevelHolds, SyncRun, SyncStep}, Laws.{NoneFast, StaysSlow}}

-- only a load of GP_IDLE leads to the fast path
pub event_slow : (tasks t : ℕ) (l l' : SyncLevel) (k : SyncEvent) → Happens tasks t l l' k → (state_found l.sync ≡ Some GpState.Idle → ⊥) →
    NoneFast tasks l → NoneFast tasks l'
event_slow tasks t l l' k h ne none = grind (arith, common_steps)

-- the same over as many steps as find another state than GP_IDLE
run_slow : (tasks n : ℕ) (m : ℕ → SyncLevel) → SyncRun tasks n m → (i d : ℕ) → i + d ≤ n → NoneFast tasks (m i) →
    ((k : ℕ) → i ≤ k → k < i + d → state_found (m k).sync ≡ Some GpState.Idle → ⊥) → NoneFast tasks (m (i + d))
run_slow tasks n m run i zero le none ne = subst (λ x. NoneFast tasks (m x)) (omega arith) none
run_slow tasks n m run i (suc d) le none ne =
    let s : SyncStep tasks (m (i + d)) (m (suc (i + d))) = run.steps (i + d) (omega arith) in
    let e : suc (i + d) ≡ i + suc d = omega arith in
    subst (λ x. NoneFast tasks (m x)) e
    (event_slow tasks s.task (m (i + d)) (m (suc (i + d))) s.kind s.happens (ne (i + d) (omega arith) (omega arith))
    (run_slow tasks n m run i d (omega arith) none (λ k a b. ne k a (omega arith))))

pub stays_slow : StaysSlow
stays_slow tasks n m run i j t lt le end past ne =
    let right : SyncLevelHolds tasks (m i) = run_is_right tasks n m run i (omega arith) in
    let none : NoneFast tasks (m i) =
    (past_finds tasks right.level.word (m i).block (m i).full (m i).section (m i).at right.level.holds t lt past).3 in
    let e : i + (j - i) ≡ j = omega arith in
    subst (λ x. NoneFast tasks (m x)) e (run_slow tasks n m run i (j - i) (omega arith) none (λ k a b. ne k a (omega arith)))
