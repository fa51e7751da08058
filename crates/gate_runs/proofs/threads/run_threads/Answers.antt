-- each task has done its part, and stands among the numbers that were taken back
use Rattle.gate_runs.proofs.Prelude.{Among, BackupRound, Config, Copies, CountsRounds, FoundOthers, GateError, Gives, HaveNotFrozen, MayFreeze}
use Rattle.gate_runs.proofs.Prelude.{NeverFreezes, Ok, Remounts, Repeats, User, View, WriterRefused, Writes, ap, arith, err_from_is_err_and, inl, inr}
use Rattle.gate_runs.proofs.Prelude.{length, own_actions, own_number, spare_of, subst, sym, vec_len, ◌+◌, ◌-◌, ◌∙◌, ◌≡◌, ◌≤◌, ◌⊎◌}
use Rattle.gate_runs.proofs.{Answering.never_may, Homes.{each_err, each_ok, either_refused, where_ok}, Joining.{all_numbers, found_on}}
use Rattle.gate_runs.proofs.{Keeping.{creates_freeze_none, creates_stay, have_not, idle_have_not, own_has_not}, Staying.{gives_stay, is_among}}
use Rattle.gate_runs.specs.{Counts.{no_copies, remounts_of}, Observers.{was_frozen, was_held}, Parts.{AllWrote, Remounted}}
use Rattle.run_plans.specs.declared.counts.Details.{Details}
use Rattle.gate_runs.proofs.threads.run_threads.Goals as goal

pub create_files-requires : goal.create_files-requires
create_files-requires g c = record { from = c.requires.from; planned = c.requires.planned; begins = c.requires.begins; gives = c.requires.gives }

pub returns-in_err-create_files-clause-joined : goal.returns-in_err-create_files-clause-joined
returns-in_err-create_files-clause-joined g c = let p = err_from_is_err_and c.from_residual.result c.from_residual.ensures.1 in rw p.1 tt

pub returns-in_err-create_files-clause-refused : goal.returns-in_err-create_files-clause-refused
returns-in_err-create_files-clause-refused g c =
    let p = err_from_is_err_and c.from_residual.result c.from_residual.ensures.1 in
    rw (p.1, p.2) (inr c.in_err-create_files.ensures.refused)

pub start_workers-requires-clause-from : goal.start_workers-requires-clause-from
start_workers-requires-clause-from g c = λ _ _. c.in_ok-create_files.ensures.from

pub start_workers-requires-clause-none : goal.start_workers-requires-clause-none
start_workers-requires-clause-none g c = λ _ _. c.requires.none

pub start_workers-requires-clause-rests : goal.start_workers-requires-clause-rests
start_workers-requires-clause-rests g c = λ _ _. c.in_ok-create_files.ensures.rests

pub start_workers-requires-clause-planned : goal.start_workers-requires-clause-planned
start_workers-requires-clause-planned g c = λ _ _. c.requires.planned

pub start_workers-requires-clause-gives : goal.start_workers-requires-clause-gives
start_workers-requires-clause-gives g c =
    let gives : Gives c.create_files.new.task 1 c.args.plan.tasks =
    gives_stay _ _ 1 _ (creates_stay _ _ _ c.in_ok-create_files.ensures.created) c.requires.gives in
    λ _ _. gives

pub returns-in_err-start_workers-clause-joined : goal.returns-in_err-start_workers-clause-joined
returns-in_err-start_workers-clause-joined g c =
    let p = err_from_is_err_and c.from_residual-in_err-start_workers.result c.from_residual-in_err-start_workers.ensures.1 in rw p.1 tt

pub returns-in_err-start_workers-clause-refused : goal.returns-in_err-start_workers-clause-refused
returns-in_err-start_workers-clause-refused g c =
    let p = err_from_is_err_and c.from_residual-in_err-start_workers.result c.from_residual-in_err-start_workers.ensures.1 in
    rw (p.1, p.2) (inl c.in_err-start_workers.ensures.refused)

pub back_up-copies-requires : goal.back_up-copies-requires
back_up-copies-requires g c =
    let begins = c.args.task.now in
    let made = c.create_files.new.task in
    let none : HaveNotFrozen begins.items = have_not begins.items (subst NeverFreezes (sym c.requires.begins.nothing) tt)
    (idle_have_not (spare_of begins.items) c.requires.gives.nothing) in
    let never = (own_has_not made.items ((creates_freeze_none _ _ _ c.in_ok-create_files.ensures.created).none none)).0 in
    record {
      from = c.in_ok-start_workers.ensures.from;
      rests = c.in_ok-start_workers.ensures.rests;
      may = subst (λ (v : View). MayFreeze User v.actions) (sym c.in_ok-start_workers.ensures.same) (never_may (own_actions made) never);
    }

pub join_workers-others-requires-clause-from : goal.join_workers-others-requires-clause-from
join_workers-others-requires-clause-from g c = c.back_up-copies.ensures.from

pub join_workers-others-requires-clause-some : goal.join_workers-others-requires-clause-some
join_workers-others-requires-clause-some g c = omega (arith, c.in_ok-start_workers.ensures.all, c.args.plan.within.tasks_from)

pub join_workers-others-requires-clause-homes : goal.join_workers-others-requires-clause-homes
join_workers-others-requires-clause-homes g c = c.in_ok-start_workers.ensures.homes

pub join_workers-others-requires-clause-rests : goal.join_workers-others-requires-clause-rests
join_workers-others-requires-clause-rests g c = c.back_up-copies.ensures.rests

pub join_workers-others-requires-clause-there : goal.join_workers-others-requires-clause-there
join_workers-others-requires-clause-there g c = c.back_up-copies.ensures.stays.there c.in_ok-start_workers.ensures.gives.there

-- all tasks were joined, whatever they met
pub returns-clause-joined : goal.returns-clause-joined
returns-clause-joined g c =
    let first = c.start_workers.new.task in
    let last = c.back_up-copies.new.task in
    let task = c.join_workers-others.new.task in
    let plan = c.args.plan in
    let started = c.in_ok-start_workers.ensures in
    let backed = c.back_up-copies.ensures in
    let joined = c.join_workers-others.ensures in
    let copies = c.back_up-copies.result in
    let others = c.join_workers-others.result in
    let both = c.details_of.ensures in
    let Counts : Copies → Type 0 = λ x. CountsRounds plan.patience plan.freezes x in
    let Backs : Copies → Type 0 =
    λ x. Repeats (BackupRound (was_frozen (g.W.RunObserver.seen c.args.watch.now)) plan.patience) plan.freezes (first, tt, no_copies) (last, tt, x) in
    let Wrote : Remounts × Writes → Type 0 =
    λ m. AllWrote (Among task.items) (was_held (g.W.RunObserver.held c.args.watch.now)) plan.processors plan.rounds 0
    (vec_len c.start_workers.new.workers - 1) tt tt m.1 in
    let Both : Details → Type 0 = λ d. (copies ≡ Ok d.copies) × (others ≡ Ok (remounts_of d, d.writes)) in
    let Refused : GateError → Type 0 = λ refusal. WriterRefused c.args.gates.now plan.tasks plan.processors plan.rounds refusal ⊎ FoundOthers task in
    let own : own_number task.items ≡ 0 = joined.back.own ∙ (backed.stays.own ∙ started.gives.own) in
    let there : 1 ≤ length task.items = joined.back.there (backed.stays.there started.gives.there) in
    let tasks : task.config.tasks ≡ plan.tasks = ap (λ (d : Config). d.tasks) (joined.from.1 ∙ c.requires.planned) in
    record {
      from = joined.from;
      all = (
        joined.rests.0,
        joined.rests.1,
        λ n lt. all_numbers (vec_len c.start_workers.new.workers + 1) last task joined.back own there n
            (omega (arith, tasks, lt, started.all, plan.within.tasks_from)),
      );
      none = joined.back.none (subst HaveNotFrozen (sym backed.stays.spare) (idle_have_not (spare_of first.items) started.gives.nothing));
      copies = each_ok Both (λ d. Counts d.copies) c.details_of.result (λ d is. where_ok Counts copies d.copies is.0 backed.counts) both.done;
      did = each_ok Both _ c.details_of.result (λ d is.
          let wrote = where_ok Wrote others (remounts_of d, d.writes) is.1 joined.wrote in record {
            backup = record {
              begins = c.args.task.now;
              made = c.create_files.new.task;
              first = first;
              last = last;
              begun = c.requires.begins;
              creates = c.in_ok-create_files.ensures.created;
              same = started.same;
              did = where_ok Backs copies d.copies is.0 backed.rounds;
              own = backed.stays.own ∙ started.gives.own;
              ends = joined.others last (is_among last (backed.stays.there started.gives.there));
            };
            remounter = where_ok (λ (m : Remounts × Writes). Remounted (Among task.items) plan.rounds m.0) others (remounts_of d, d.writes) is.1 joined.remounted;
            writers = record {
              each = wrote.each;
              all = omega (arith, wrote.all, started.all);
              parts = wrote.parts;
              sum = wrote.sum;
            };
          }) both.done;
      refused = either_refused Refused copies others c.details_of.result
          (each_err _ Refused copies (λ refusal found. inr (found_on last task (joined.from.1 ∙ sym backed.from.1) joined.back.own joined.back.seen found)) backed.refused)
          (each_err _ Refused others (λ refusal by. inl by) joined.refused) both.refused;
    }
