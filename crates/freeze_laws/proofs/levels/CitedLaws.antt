-- the laws that the contracts name
use Rattle.std.proofs.Common.{Some, ap, arith, false, refl, suc, true, ℕ, ◌+◌, ◌≡◌, ◌⊎◌}
use Rattle.finite_sums.{proofs.Totals.{total_at, total_zero}, specs.Sums.total}
use Rattle.percpu_rwsem.specs.{SyncWords.is_queued, declared.sync_word.GpState.GpState}
use Rattle.freeze_laws.proofs.levels.{EventLaws.{entered_finds, fast_finds}, GraceLaws.graces_are_whole, IdleLaws.only_callbacks_idle}
use Rattle.freeze_laws.proofs.levels.{Runs.{event_keeps, run_is_right}, SyncLaws.{claimed_alone, two_places}}
use Rattle.freeze_laws.specs.levels.{Changes.{state_found, state_found_in}, Events.SyncLevelHolds, Laws.{EntersAlone, EventsKeep, FastFindsOpen}}
use Rattle.freeze_laws.specs.levels.{Laws.{IdleIsEarned, WritersFind, opening}, Roles.{enter_bit, entered, fast, idle_bit}}

pub events_keep : EventsKeep
events_keep tasks l l' right s = event_keeps tasks s.task s.there l right l' s.kind s.happens

pub opening_is_right : (tasks : ℕ) → SyncLevelHolds tasks opening
opening_is_right tasks =
    let z : total tasks (λ t. 0) ≡ 0 = total_zero tasks in
    record {
      level = record {
        word = record { state = GpState.Idle; taken = false; count = 0 };
        packed = refl;
        holds =
            record {
              lawful = refl;
              count = omega arith;
              once = omega arith;
              enter = z;
              taken = z;
              slow = λ e. z;
              roles =
                  λ t lt. tt;
              blocked = omega arith;
            };
      };
      sections = record { odd = λ t lt. refl; fast_inside = λ t lt. omega arith };
    }

-- a writer and a claimed callback are the only ones
pub enters_alone : EntersAlone
enters_alone tasks l right t u lt lu ne = (
  omega (arith, right.level.holds, two_places tasks t u (λ x. entered (l.at x)) lt lu ne),
  claimed_alone tasks right.level.word l.block l.full l.section l.at right.level.holds t u lt lu ne,
)

-- a state in which readers may be fast
idle_or_enter : (n : ℕ) (s : GpState) → state_found n ≡ Some s → idle_bit s + enter_bit s ≡ 1 →
    (state_found n ≡ Some GpState.Idle) ⊎ (state_found n ≡ Some GpState.Enter)
idle_or_enter n s f e = grind arith

pub fast_finds_open : FastFindsOpen
fast_finds_open tasks l right t lt here =
    let f = fast_finds tasks right.level.word l.block l.full l.section l.at right.level.holds t lt (ap fast here) in
    (idle_or_enter l.sync right.level.word.state (ap state_found_in right.level.packed) f.0, f.1, f.2)

-- a state in which readers are slow
passed_or_queued : (n : ℕ) (s : GpState) → state_found n ≡ Some s → idle_bit s + enter_bit s ≡ 0 →
    (state_found n ≡ Some GpState.Passed) ⊎ (is_queued s ≡ true)
passed_or_queued n role f e = grind arith

pub writers_find : WritersFind
writers_find tasks l right t lt e n =
    let f = entered_finds tasks right.level.word l.block l.full l.section l.at right.level.holds t lt e n in (
      f.0,
      f.1,
      f.3,
      passed_or_queued l.sync right.level.word.state (ap state_found_in right.level.packed) f.2,
      λ u lu. omega (arith, right.level.holds.slow f.2, total_at tasks u (λ x. fast (l.at x)) lu),
    )

pub idle_is_earned : IdleIsEarned
idle_is_earned tasks n m run out i lt ne idle =
    let s = run.steps i lt in
    let c = only_callbacks_idle tasks (m i) (m (suc i)) (run_is_right tasks n m run i (omega arith)) s ne idle in
    (c.0, c.2, (graces_are_whole tasks n m run out i s.task (omega arith) s.there).1 c.1)
