-- one round more
use Rattle.gate_runs.proofs.Prelude.{BackupRound, Copies, CountsRounds, GaveUp, MayFreeze, None, Option, Repeats, SeatedTask, Some, User, ap, arith}
use Rattle.gate_runs.proofs.Prelude.{subst, sym, ℕ, ◌+◌, ◌<◌, ◌≡◌, ◌≤◌}
use Rattle.std.proofs.Common.{◌*◌}
use Rattle.run_plans.specs.declared.counts.Tried.{TheVariants.{Copied, GaveUp as GivenUp}, Tried}
use Rattle.gate_runs.proofs.{Answering.callbacks_list, GivingUp.never_gives_up, Keeping.{backs_stay, stays_on}, Repeating.one_more}
use Rattle.gate_runs.specs.{Counts.{no_copies, with_try}, Rounds.Tries}
use Rattle.gate_runs.proofs.workers.back_up.Goals as goal

-- what is counted with one round more
module _ {N : Type 0} (link : SeatedTask → ℕ → N → N → Type 0) (patience : Option ℕ) (round : ℕ) (copies : Copies) (ran waits : ℕ) where
  counts_more : (tried : Tried) (first last : SeatedTask × N × ℕ) → Tries link patience round tried first last →
      CountsRounds patience round copies → CountsRounds patience (round + 1) (with_try tried ran waits copies)
  counts_more (Copied (Some blocks)) first last did before = record {
    each = omega (arith, before.each);
    snapshots = ap (λ n. n + 1) before.snapshots;
    endless = before.endless;
  }
  counts_more (Copied None) first last did before = absurd did
  counts_more GivenUp first last did before = record {
    each = omega (arith, before.each);
    snapshots = before.snapshots;
    endless = λ none. absurd (never_gives_up first.0 last.0 (subst (λ p. GaveUp p first.0 last.0) none did.0.0));
  }

callbacks_more : (round : ℕ) (copies : Copies) (ran waits : ℕ) (tried : Tried) → copies.callbacks ≤ 3 * round → ran ≤ 3 →
    (with_try tried ran waits copies).callbacks ≤ 3 * (round + 1)
callbacks_more round copies ran waits (Copied (Some blocks)) few more = omega arith
callbacks_more round copies ran waits (Copied None) few more = omega arith
callbacks_more round copies ran waits GivenUp few more = omega arith

-- so far there are no more of them than rounds
few_frozen : (patience : Option ℕ) (round freezes : ℕ) (copies : Copies) → CountsRounds patience round copies → round < freezes → freezes ≤ 1000 →
    copies.frozen < 1000
few_frozen patience round freezes copies counts more most = omega (arith, counts.each)

few_gave_up : (patience : Option ℕ) (round freezes : ℕ) (copies : Copies) → CountsRounds patience round copies → round < freezes → freezes ≤ 1000 →
    copies.gave_up < 1000
few_gave_up patience round freezes copies counts more most = omega (arith, counts.each)

few_snapshots : (patience : Option ℕ) (round freezes : ℕ) (copies : Copies) → CountsRounds patience round copies → round < freezes → freezes ≤ 1000 →
    copies.snapshots < 1000
few_snapshots patience round freezes copies counts more most = omega (arith, counts.each, counts.snapshots)

pub with_try-copies-requires-clause-frozen : goal.with_try-copies-requires-clause-frozen
with_try-copies-requires-clause-frozen g c = few_frozen _ c.loop-round.round c.args.plan.freezes c.loop-round.copies c.loop-round.invariant.counts
    (omega (arith, c.loop-round-test.true, c.freezes-round-end.ensures)) c.args.plan.within.freezes_to

pub with_try-copies-requires-clause-gave_up : goal.with_try-copies-requires-clause-gave_up
with_try-copies-requires-clause-gave_up g c = few_gave_up _ c.loop-round.round c.args.plan.freezes c.loop-round.copies c.loop-round.invariant.counts
    (omega (arith, c.loop-round-test.true, c.freezes-round-end.ensures)) c.args.plan.within.freezes_to

pub with_try-copies-requires-clause-snapshots : goal.with_try-copies-requires-clause-snapshots
with_try-copies-requires-clause-snapshots g c = few_snapshots _ c.loop-round.round c.args.plan.freezes c.loop-round.copies c.loop-round.invariant.counts
    (omega (arith, c.loop-round-test.true, c.freezes-round-end.ensures)) c.args.plan.within.freezes_to

pub with_try-copies-requires-clause-callbacks : goal.with_try-copies-requires-clause-callbacks
with_try-copies-requires-clause-callbacks g c =
    omega (arith, c.loop-round.invariant.callbacks, c.loop-round-test.true, c.freezes-round-end.ensures, c.args.plan.within.freezes_to)

pub returns-clause-rounds : goal.returns-clause-rounds
returns-clause-rounds g c =
    let all : c.loop-round.round ≡ c.args.plan.freezes =
    omega (arith, c.freezes-round-end.ensures, c.loop-round-test.false, c.loop-round.auto.round-end) in
    subst (λ n. Repeats (BackupRound (g.W.NotedObserver.sees c.args.watch.now) c.args.plan.patience) n (c.args.task.now, c.args.notes.now, no_copies)
    (c.loop-round.task, c.loop-round.notes, c.loop-round.copies)) all c.loop-round.invariant.did

pub returns-clause-counts : goal.returns-clause-counts
returns-clause-counts g c =
    let all : c.loop-round.round ≡ c.args.plan.freezes =
    omega (arith, c.freezes-round-end.ensures, c.loop-round-test.false, c.loop-round.auto.round-end) in
    subst (λ n. CountsRounds c.args.plan.patience n c.loop-round.copies) all c.loop-round.invariant.counts

-- the task has its numbers, whatever it met
pub returns-clause-stays : goal.returns-clause-stays
returns-clause-stays g c = backs_stay (g.W.NotedObserver.sees c.args.watch.now) c.args.plan.patience c.loop-round.round
    (c.args.task.now, c.args.notes.now, no_copies) (c.loop-round.task, c.loop-round.notes, c.loop-round.copies) c.loop-round.invariant.did

pub returns-in_err-tried-clause-stays : goal.returns-in_err-tried-clause-stays
returns-in_err-tried-clause-stays g c =
    let so_far = backs_stay (g.W.NotedObserver.sees c.args.watch.now) c.args.plan.patience c.loop-round.round
    (c.args.task.now, c.args.notes.now, no_copies) (c.loop-round.task, c.loop-round.notes, c.loop-round.copies) c.loop-round.invariant.did in
    stays_on so_far c.copy_once.ensures.stays

pub loop-round-preserved : goal.loop-round-preserved
loop-round-preserved g c =
    let before = c.loop-round.invariant in
    let link = g.W.NotedObserver.sees c.args.watch.now in
    let patience = c.args.plan.patience in
    let round = c.loop-round.round in
    let tried = c.in_ok-tried.tried in
    let ran = c.in_ok-ran.ran in
    let tries = c.in_ok-tried.ensures.tries in
    let counts : c.with_try-copies.result ≡ with_try tried ran c.in_ok-ran.waits c.loop-round.copies = c.with_try-copies.ensures in
    record {
      from = c.in_ok-ran.ensures.from;
      rests = c.in_ok-ran.ensures.rests;
      may = subst (MayFreeze User) (sym (callbacks_list 3 _ (c.call_back.new.task, ran, c.in_ok-ran.waits) c.in_ok-ran.ensures.ran))
          c.in_ok-tried.ensures.may;
      counts = subst (CountsRounds patience (round + 1)) (sym counts)
          (counts_more link patience round c.loop-round.copies ran c.in_ok-ran.waits tried
          (c.loop-round.task, c.loop-round.notes, c.loop-round.copies.waits) (c.copy_once.new.task, c.copy_once.new.notes, c.in_ok-tried.waits)
          tries before.counts);
      callbacks = subst (λ (x : Copies). x.callbacks ≤ 3 * (round + 1)) (sym counts)
          (callbacks_more round c.loop-round.copies ran c.in_ok-ran.waits tried before.callbacks c.in_ok-ran.ensures.few);
      did = one_more (BackupRound link patience) round (c.args.task.now, c.args.notes.now, no_copies)
          (c.loop-round.task, c.loop-round.notes, c.loop-round.copies) (c.call_back.new.task, c.copy_once.new.notes, c.with_try-copies.result)
          before.did (record {
            tried = tried;
            mid = c.copy_once.new.task;
            before = c.in_ok-tried.waits;
            tries = tries;
            ran = ran;
            waits = c.in_ok-ran.waits;
            calls_back = c.in_ok-ran.ensures.ran;
            counts = counts;
          });
    }
