-- what the threads did is what their tasks' numbers have in the end
use Rattle.gate_runs.proofs.Prelude.{Among, Config, Copies, CountsRounds, Err, GateError, Gates, Gives, HasBegun, None, Ok, Option, Plan, Result}
use Rattle.gate_runs.proofs.Prelude.{SeatedTask, ap, arith, err_from_is_err_and, inl, inr, subst, sym, ℕ, ◌-◌, ◌∙◌, ◌≡◌, ◌≤◌}
use Rattle.std.proofs.{Common.{slice_index, unwrap_or, ◌*◌}, lemmas.Nat.mul-le}
use Rattle.access_model.specs.declared.errors.GateError.TheVariants.{NoMemory}
use Rattle.{cpu_words.specs.{Names.{place, stride}, declared.names.WordName.TheVariants.Used}, gate_world.specs.Configs.IsWithin}
use Rattle.run_plans.specs.{Plans.{MayRun, run_config}, declared.counts.Details.Details}
use Rattle.vfs_gates.{proofs.Splitting.{first_begins, gives_all}, specs.Ended.{ClosedState, EndedWith}}
use Rattle.gate_runs.{proofs.{Answering.{IsInOrder, file_in_order}, Joining.found_nothing, Staying.{all_did_on, ends_as}}, specs.Ends.AllJoined}
use Rattle.gate_runs.specs.{Parts.EndsAs, Refusals.{NotStarted, RunRefused}}
use Rattle.gate_runs.proofs.runs.run_plan.Goals as goal

pub in_threads-requires-clause-begins : goal.in_threads-requires-clause-begins
in_threads-requires-clause-begins g c =
    let made = c.in_ok-gates.ensures.made in
    let tasks : c.config.result.tasks ≡ c.args.plan.tasks = ap (λ (d : Config). d.tasks) c.config.ensures in
    let some : 1 ≤ c.config.result.tasks = omega (arith, tasks, c.args.plan.within.tasks_from) in
    let begun : HasBegun 0 c.in_ok-gates.task = first_begins c.in_ok-gates.task c.config.result some (ap (λ (t : SeatedTask). t.items) made.1) in
    λ _ _. begun

pub in_threads-requires-clause-gives : goal.in_threads-requires-clause-gives
in_threads-requires-clause-gives g c =
    let made = c.in_ok-gates.ensures.made in
    let tasks : c.config.result.tasks ≡ c.args.plan.tasks = ap (λ (d : Config). d.tasks) c.config.ensures in
    let some : 1 ≤ c.config.result.tasks = omega (arith, tasks, c.args.plan.within.tasks_from) in
    let gives : Gives c.in_ok-gates.task 1 c.args.plan.tasks = subst (λ n. Gives c.in_ok-gates.task 1 n) tasks
    (gives_all c.in_ok-gates.task c.config.result some (ap (λ (t : SeatedTask). t.phase) made.1) (ap (λ (t : SeatedTask). t.items) made.1)) in
    λ _ _. gives

pub in_threads-requires-clause-planned : goal.in_threads-requires-clause-planned
in_threads-requires-clause-planned g c = λ _ _. c.in_ok-gates.ensures.made.0 ∙ c.config.ensures

-- how all tasks were joined, with what they met
met_so : (held : ℕ → ℕ → Type 0) (seen : ℕ → Type 0) (gates : Gates) (plan : Plan) (task : SeatedTask) (met : Result Details GateError)
    (details : Details) → met ≡ Ok details → AllJoined held seen gates plan task met → AllJoined held seen gates plan task (Ok details)
met_so held seen gates plan task met details is joined = subst (AllJoined held seen gates plan task) is joined

-- with no end to its patience each freeze was granted
all_frozen : (patience : Option ℕ) (freezes : ℕ) (copies : Copies) → CountsRounds patience freezes copies → patience ≡ None → copies.frozen ≡ freezes
all_frozen patience freezes copies counts none = omega (arith, counts.each, counts.endless none)

pub returns-clause-tells : goal.returns-clause-tells
returns-clause-tells g c =
    let closed = c.close-closed.ensures in
    let task = c.in_ok-task.task in
    let joined = met_so _ _ _ c.args.plan task c.in_ok-task.met c.in_ok-details.details c.in_ok-details.was c.in_ok-task.ensures.joined in
    let views = closed.1.ended.world.views in
    let grown : c.unwrap_or.result ≡ slice_index c.close-closed.result.words (stride * place Used) =
    c.unwrap_or.ensures ∙ ap (λ o. unwrap_or o 0) (c.word.ensures.there tt) in
    record {
      config = closed.0 ∙ (c.in_ok-gates.ensures.made.0 ∙ c.config.ensures);
      grown = grown;
      none_held = c.held_in.ensures;
      frozen = c.from.ensures;
      gave_up = c.gave_up_told.ensures;
      snapshots = c.from-2.ensures ∙ joined.copies.snapshots ∙ sym c.from.ensures;
      counts = joined.copies;
      endless = λ none. c.from.ensures ∙ all_frozen _ _ _ joined.copies none;
      remounts = c.from-3.ensures ∙ c.rounds.ensures;
      ended = closed.1.ended;
      all = all_did_on (Among task.items) (EndsAs views) (λ s h. ends_as views task.items s closed.1.mine h) _ _ _ _ _ _ _ _ joined.did;
    }

-- Who was refused where all were joined is a writer: the backup found nothing frozen or thawed by others, as the closed gates tell.
a_writer_was : (held : ℕ → ℕ → Type 0) (seen : ℕ → Type 0) (gates : Gates) (plan : Plan) (task : SeatedTask) (refusal : GateError)
    (closed : ClosedState) → AllJoined held seen gates plan task (Err refusal) → closed.config ≡ gates.words.config →
    EndedWith closed.config closed.words task.items task.seen → gates.words.config ≡ run_config plan.tasks plan.processors plan.rounds →
    RunRefused plan.tasks plan.processors plan.rounds refusal
a_writer_was held seen gates plan task refusal closed joined same ends is =
    elim joined.refused [
      | inl writer ↦ inr (gates, is, inr writer)
      | inr found ↦ absurd (found_nothing closed.config closed.words task (joined.from.1 ∙ sym same) joined.all joined.none ends found)
    ]

-- and before, memory or a thread, or the creation of a file
not_started : (gates : Gates) (tasks processors rounds : ℕ) (refusal : GateError) → gates.words.config ≡ run_config tasks processors rounds →
    NotStarted gates tasks refusal → RunRefused tasks processors rounds refusal
not_started gates tasks processors rounds refusal is (inl memory) = inl memory
not_started gates tasks processors rounds refusal is (inr created) = inr (gates, is, inl created)

-- a run's gates are within their limits
run_within : (tasks processors rounds freezes : ℕ) → MayRun tasks processors rounds freezes → IsWithin (run_config tasks processors rounds)
run_within tasks processors rounds freezes may =
    let room : (tasks - 2) * rounds ≤ 62 * 10000 = mul-le (tasks - 2) rounds 62 10000 (omega (arith, may.tasks_to)) may.rounds_to in record {
      some_task = omega (arith, may.tasks_from);
      tasks = may.tasks_to;
      some_processor = may.processors_from;
      processors = may.processors_to;
      some_mount = omega arith;
      mounts = omega arith;
      some_node = omega (arith, may.tasks_from);
      nodes = omega (arith, may.tasks_to);
      capacity = omega (arith, room);
    }

-- nobody is refused out of order: neither for memory, nor in a call
in_order : (tasks processors rounds : ℕ) (refusal : GateError) → RunRefused tasks processors rounds refusal → IsInOrder refusal
in_order tasks processors rounds refusal (inl memory) =
    ((λ is. let f : ⊥ = cc in f), (λ is. let f : ⊥ = cc in f), (λ is. let f : ⊥ = cc in f))
in_order tasks processors rounds refusal (inr file) = file_in_order file.0 tasks processors rounds refusal file.2

-- the gates are refused for memory alone
pub returns-in_err-gates-clause-tells : goal.returns-in_err-gates-clause-tells
returns-in_err-gates-clause-tells g c = let p = err_from_is_err_and c.from_residual.result c.from_residual.ensures.1 in rw p.1 tt

no_memory : (plan : Plan) (config : Config) (refusal : GateError) → config ≡ run_config plan.tasks plan.processors plan.rounds →
    (IsWithin config → refusal ≡ NoMemory) → RunRefused plan.tasks plan.processors plan.rounds refusal
no_memory plan config refusal is memory =
    inl (memory (subst IsWithin (sym is) (run_within plan.tasks plan.processors plan.rounds plan.freezes plan.within)))

pub returns-in_err-gates-clause-refused : goal.returns-in_err-gates-clause-refused
returns-in_err-gates-clause-refused g c =
    let p = err_from_is_err_and c.from_residual.result c.from_residual.ensures.1 in
    rw (p.1, p.2) (no_memory c.args.plan c.config.result c.in_err-gates.field-0.0 c.config.ensures c.in_err-gates.ensures.memory)

pub returns-in_err-gates-clause-in_order : goal.returns-in_err-gates-clause-in_order
returns-in_err-gates-clause-in_order g c =
    let p = err_from_is_err_and c.from_residual.result c.from_residual.ensures.1 in
    rw (p.1, p.2) (in_order _ _ _ c.in_err-gates.field-0.0
    (no_memory c.args.plan c.config.result c.in_err-gates.field-0.0 c.config.ensures c.in_err-gates.ensures.memory))

-- the threads, as they were
pub returns-in_err-task-clause-tells : goal.returns-in_err-task-clause-tells
returns-in_err-task-clause-tells g c =
    let p = err_from_is_err_and c.from_residual-in_err-task.result c.from_residual-in_err-task.ensures.1 in rw p.1 tt

pub returns-in_err-task-clause-refused : goal.returns-in_err-task-clause-refused
returns-in_err-task-clause-refused g c =
    let p = err_from_is_err_and c.from_residual-in_err-task.result c.from_residual-in_err-task.ensures.1 in
    rw (p.1, p.2) (not_started c.in_ok-gates.gates _ _ _ c.in_err-task.field-0.0 (c.in_ok-gates.ensures.made.0 ∙ c.config.ensures)
    c.in_err-task.ensures.refused)

pub returns-in_err-task-clause-in_order : goal.returns-in_err-task-clause-in_order
returns-in_err-task-clause-in_order g c =
    let p = err_from_is_err_and c.from_residual-in_err-task.result c.from_residual-in_err-task.ensures.1 in
    rw (p.1, p.2) (in_order _ _ _ c.in_err-task.field-0.0 (not_started c.in_ok-gates.gates _ _ _ c.in_err-task.field-0.0
    (c.in_ok-gates.ensures.made.0 ∙ c.config.ensures) c.in_err-task.ensures.refused))

-- and what a task met, as it was
pub returns-in_err-details-clause-tells : goal.returns-in_err-details-clause-tells
returns-in_err-details-clause-tells g c =
    let p = err_from_is_err_and c.from_residual-in_err-details.result c.from_residual-in_err-details.ensures.1 in rw p.1 tt

pub returns-in_err-details-clause-refused : goal.returns-in_err-details-clause-refused
returns-in_err-details-clause-refused g c =
    let p = err_from_is_err_and c.from_residual-in_err-details.result c.from_residual-in_err-details.ensures.1 in
    let joined = subst (AllJoined _ _ _ c.args.plan c.in_ok-task.task) c.in_err-details.was c.in_ok-task.ensures.joined in
    rw (p.1, p.2) (a_writer_was _ _ _ c.args.plan c.in_ok-task.task c.in_err-details.field-0.0 c.close-closed.result joined c.close-closed.ensures.0
    c.close-closed.ensures.1 (c.in_ok-gates.ensures.made.0 ∙ c.config.ensures))

pub returns-in_err-details-clause-in_order : goal.returns-in_err-details-clause-in_order
returns-in_err-details-clause-in_order g c =
    let p = err_from_is_err_and c.from_residual-in_err-details.result c.from_residual-in_err-details.ensures.1 in
    let joined = subst (AllJoined _ _ _ c.args.plan c.in_ok-task.task) c.in_err-details.was c.in_ok-task.ensures.joined in
    rw (p.1, p.2) (in_order _ _ _ c.in_err-details.field-0.0
    (a_writer_was _ _ _ c.args.plan c.in_ok-task.task c.in_err-details.field-0.0 c.close-closed.result joined c.close-closed.ensures.0
    c.close-closed.ensures.1 (c.in_ok-gates.ensures.made.0 ∙ c.config.ensures)))

-- all numbers are back
pub close-closed-requires-clause-all : goal.close-closed-requires-clause-all
close-closed-requires-clause-all g c = c.in_ok-task.ensures.joined.all

pub close-closed-requires-clause-from : goal.close-closed-requires-clause-from
close-closed-requires-clause-from g c = c.in_ok-task.ensures.joined.from
