-- each step of a level keeps what is right of it
use Rattle.std.proofs.Common.{Option, arith, subst, suc, sym, zero, ℕ, ◌-◌, ◌<◌, ◌≡◌, ◌≤◌}
use Rattle.{cpu_words.specs.Touches.wrap_add, finite_sums.specs.Sums.update}
use Rattle.percpu_rwsem.specs.{Graces.{looked, started}, declared.sync_word.GpState.GpState}
use Rattle.freeze_laws.specs.levels.Changes.{claims, role_found, state_found, waits}
use Rattle.freeze_laws.specs.levels.Events.{AddsFast, Calls, Claims, Enters, Exits, FindsIdle, Freezes, Happens, Looks, LooksClaimed, Opens, Passes}
use Rattle.freeze_laws.specs.levels.Events.{Stays, Swaps, SyncEvent, SyncLevel, SyncLevelHolds, SyncRun, SyncStep, Thaws, TurnsSection}
use Rattle.freeze_laws.specs.levels.Roles.{Claimed, Closed, Entered, Fast, Out, SyncHolds, SyncNumberHolds, SyncRole, fast}
use Rattle.freeze_laws.proofs.levels.EventLaws
use Rattle.freeze_laws.proofs.levels.NumberLaws

pub found_slow : (tasks : ℕ) (o : Option GpState) → fast (role_found tasks o) ≡ 0
found_slow tasks found = grind arith

module _ (tasks t : ℕ) (lt : t < tasks) (l : SyncLevel) (right : SyncLevelHolds tasks l) where
  -- a step into a role, which is off the fast path or inside a section, that leaves the sync word
  keeps_word : {l' : SyncLevel} (block' full' : ℕ) (r : SyncRole) → l' ≡ record l { block = block'; full = full'; at = update l.at t r } →
      SyncHolds tasks right.level.word block' full' l.section (update l.at t r) → fast r ≤ l.inside t → SyncLevelHolds tasks l'
  keeps_word block' full' r p roles slow = subst (SyncLevelHolds tasks) (sym p) record {
    level = NumberLaws.unchanged tasks l.sync l.block l.full l.section l.at right.level block' full' l.section (update l.at t r) (λ q. roles);
    sections = EventLaws.section_stays tasks l.section l.inside l.at right.sections t r slow;
  }

  -- one that makes a transition of it
  makes_word : {l' : SyncLevel} (v : ℕ) (r : SyncRole) → l' ≡ record l { sync = v; at = update l.at t r } →
      SyncNumberHolds tasks v l.block l.full l.section (update l.at t r) → fast r ≤ l.inside t → SyncLevelHolds tasks l'
  makes_word v r p level slow = subst (SyncLevelHolds tasks) (sym p) record {
    level = level;
    sections = EventLaws.section_stays tasks l.section l.inside l.at right.sections t r slow;
  }

  pub event_keeps : (l' : SyncLevel) (k : SyncEvent) → Happens tasks t l l' k → SyncLevelHolds tasks l'
  event_keeps l' TurnsSection h = subst (SyncLevelHolds tasks) (sym h.1) record {
    level = NumberLaws.unchanged tasks l.sync l.block l.full l.section l.at right.level l.block l.full
        (update l.section t (wrap_add (l.section t) 1)) l.at
        (λ q. EventLaws.section_keeps tasks right.level.word l.block l.full l.section l.at right.level.holds t lt _ h.0);
    sections = EventLaws.section_turns tasks l.section l.inside l.at right.sections t (1 - l.inside t)
        (omega (arith, right.sections.odd t lt)) h.0;
  }
  event_keeps l' FindsIdle h = keeps_word l.block l.full Fast h.3
      (EventLaws.finds_idle tasks right.level.word l.block l.full l.section l.at right.level.holds t lt h.0
      (NumberLaws.state_is l.sync right.level.word GpState.Idle right.level.packed h.2)) (omega (arith, h.1))
  event_keeps l' AddsFast h = keeps_word l.block l.full Out h.1
      (EventLaws.fast_adds tasks right.level.word l.block l.full l.section l.at right.level.holds t lt h.0) (omega arith)
  event_keeps l' Enters h = makes_word l'.sync (role_found tasks (state_found l.sync)) h.3
      (NumberLaws.enters_exchanged tasks l.sync l.block l.full l.section l.at right.level t lt l'.sync h.0 h.1 h.2).0
      (omega (arith, found_slow tasks (state_found l.sync)))
  event_keeps l' Looks h = keeps_word l.block l.full (waits (looked h.0 (l.section h.0.task))) h.2
      (EventLaws.look_keeps tasks right.level.word l.block l.full l.section l.at right.level.holds t lt l.inside right.sections h.0 h.1)
      (omega (arith, EventLaws.waits_entering (looked h.0 (l.section h.0.task))))
  event_keeps l' Passes h = makes_word l'.sync Entered h.2
      (NumberLaws.passes_exchanged tasks l.sync l.block l.full l.section l.at right.level t lt l'.sync h.0 h.1).0 (omega arith)
  event_keeps l' Swaps h = keeps_word 1 l.full Closed h.1
      (EventLaws.swap_keeps tasks right.level.word l.block l.full l.section l.at right.level.holds t lt h.0).1 (omega arith)
  event_keeps l' Opens h = keeps_word 0 l.full Entered h.1
      (EventLaws.open_keeps tasks right.level.word l.block l.full l.section l.at right.level.holds t lt h.0).1 (omega arith)
  event_keeps l' Exits h = makes_word l'.sync Out h.2
      (NumberLaws.exits_exchanged tasks l.sync l.block l.full l.section l.at right.level t lt l'.sync h.0 h.1).0 (omega arith)
  event_keeps l' Claims h = makes_word l'.sync (Claimed (started tasks)) h.2
      (NumberLaws.claims_exchanged tasks l.sync l.block l.full l.section l.at right.level t lt l'.sync h.0 h.1).0 (omega arith)
  event_keeps l' LooksClaimed h = keeps_word l.block l.full (claims (looked h.0 (l.section h.0.task))) h.2
      (EventLaws.callback_looks tasks right.level.word l.block l.full l.section l.at right.level.holds t lt h.0
      (looked h.0 (l.section h.0.task)) h.1) (omega (arith, EventLaws.claims_claimed (looked h.0 (l.section h.0.task))))
  event_keeps l' Calls h = makes_word l'.sync Out h.2
      (NumberLaws.calls_exchanged tasks l.sync l.block l.full l.section l.at right.level t lt l'.sync h.0 h.1).0 (omega arith)
  event_keeps l' Freezes h = keeps_word l.block 1 Out h.1
      (EventLaws.freeze_keeps tasks right.level.word l.block l.full l.section l.at right.level.holds t lt h.0).1 (omega arith)
  event_keeps l' Thaws h = keeps_word l.block 0 Closed h.2
      (EventLaws.thaw_keeps tasks right.level.word l.block l.full l.section l.at right.level.holds t lt h.0 h.1) (omega arith)
  event_keeps l' Stays h = subst (SyncLevelHolds tasks) (sym h) right

pub run_is_right : (tasks n : ℕ) (m : ℕ → SyncLevel) → SyncRun tasks n m → (i : ℕ) → i ≤ n → SyncLevelHolds tasks (m i)
run_is_right tasks n m run zero le = run.right
run_is_right tasks n m run (suc i) le =
    let s : SyncStep tasks (m i) (m (suc i)) = run.steps i (omega arith) in
    event_keeps tasks s.task s.there (m i) (run_is_right tasks n m run i (omega arith)) (m (suc i)) s.kind s.happens
