-- one file more
use Rattle.gate_runs.proofs.Prelude.{Called, Config, Create, CreatesFile, DropWrite, Err, File, GateError, Gates, Gives, HasBegun, HasWriteAccess}
use Rattle.gate_runs.proofs.Prelude.{IsFrom, Ok, Performs, ReadOnly, Repeats, Rests, Result, SeatedTask, WantWrite, ap, arith, refl, rules, subst}
use Rattle.gate_runs.proofs.Prelude.{sym, ℕ, ◌-◌, ◌<◌, ◌∙◌, ◌≡◌}
use Rattle.gate_runs.proofs.Answering.{create_begins, gives_back, inside_by, is_inside, want_begins, want_read_only, was_whole}
use Rattle.gate_runs.proofs.{FirstCalls.{create_refused, finds_writable}, Keeping.{stays, stays_on}, Repeating.{created, one_more}}
use Rattle.gate_runs.{proofs.Resting.begun_rests, specs.Refusals.CreateRefused}
use Rattle.vfs_gates.proofs.Resting.{some_mount, some_processor}
use Rattle.gate_runs.proofs.workers.create_files.Goals as goal

-- the access is given back without a refusal
given_back : (first last : SeatedTask) (gates : Gates) → IsFrom first gates → HasWriteAccess first → {outcome : Result (Unit {0}) GateError} →
    Performs (DropWrite 0 0) first last outcome → (outcome ≡ Ok tt) × Rests last
given_back first last gates from held {outcome = outcome} did = gives_back 0 first last outcome held (some_processor first gates from) did

-- the first write access is granted: the mount is writable, since nobody has done anything yet
is_granted : (first last : SeatedTask) (gates : Gates) (tasks : ℕ) (refusal : GateError) → IsFrom first gates → tasks ≡ first.config.tasks →
    HasBegun 0 first → Gives first 1 tasks → Performs (WantWrite 0 0) first last (Err refusal) → ⊥
is_granted first last gates tasks refusal from same begun gives did =
    let mount = some_mount first gates from in
    let rests = begun_rests 0 first gives.idle begun in
    let called = was_whole _ (WantWrite 0 0) first last _ (want_begins 0 first rests mount (some_processor first gates from)) did in
    let read_only : Called (WantWrite 0 0) first last (Err ReadOnly) =
    subst (λ e. Called (WantWrite 0 0) first last (Err e)) (want_read_only 0 _ _ _ called) called in
    finds_writable 0 first last read_only begun (subst (λ n. Gives first 1 n) same gives) mount

pub loop-writer-init : goal.loop-writer-init
loop-writer-init g c = record {
  from = (c.want_write.ensures.table ∙ c.requires.from.0, c.want_write.ensures.config ∙ c.requires.from.1);
  inside = is_inside 0 c.args.task.now c.want_write.new.self (begun_rests 0 c.args.task.now c.requires.gives.idle c.requires.begins)
      c.in_ok-want_write.ensures;
  numbers = stays _ (WantWrite 0 0) c.args.task.now c.want_write.new.self _ c.in_ok-want_write.ensures;
  created = refl;
}

pub loop-writer-preserved : goal.loop-writer-preserved
loop-writer-preserved g c =
    let before = c.loop-writer.invariant in record {
      from = (c.create.ensures.table ∙ before.from.0, c.create.ensures.config ∙ before.from.1);
      inside = inside_by _ (Create 0 File) c.loop-writer.task c.create.new.self _ refl before.inside c.in_ok-create.ensures;
      numbers = stays_on before.numbers (stays _ (Create 0 File) c.loop-writer.task c.create.new.self _ c.in_ok-create.ensures);
      created = one_more (λ k. CreatesFile) c.loop-writer._writer _ _ _ before.created (c.in_ok-create.field-0, c.in_ok-create.ensures);
    }

pub returns-clause-created : goal.returns-clause-created
returns-clause-created g c =
    let all : c.loop-writer._writer ≡ c.args.plan.tasks - 2 = omega (arith, c.writers-writer-end.ensures, c.loop-writer-test.false, c.loop-writer.auto._writer-end) in
    created (c.args.plan.tasks - 2) _ _ _ _ c.in_ok-want_write.ensures
    (subst (λ n. Repeats (λ k. CreatesFile) n c.want_write.new.self c.loop-writer.task) all c.loop-writer.invariant.created) _ c.drop_write.ensures

pub returns-clause-rests : goal.returns-clause-rests
returns-clause-rests g c = let given = given_back _ _ c.args.gates.now c.loop-writer.invariant.from c.loop-writer.invariant.inside c.drop_write.ensures in rw given.0 given.1

pub returns-clause-refused : goal.returns-clause-refused
returns-clause-refused g c = let given = given_back _ _ c.args.gates.now c.loop-writer.invariant.from c.loop-writer.invariant.inside c.drop_write.ensures in rw given.0 tt

pub returns-clause-last : goal.returns-clause-last
returns-clause-last g c = let given = given_back _ _ c.args.gates.now c.loop-writer.invariant.from c.loop-writer.invariant.inside c.drop_write.ensures in rw given.0 tt

pub returns-in_err-want_write-clause-refused : goal.returns-in_err-want_write-clause-refused
returns-in_err-want_write-clause-refused g c = absurd (is_granted c.args.task.now c.want_write.new.self c.args.gates.now _ _ c.requires.from
    (sym (ap (λ (d : Config). d.tasks) (c.requires.from.1 ∙ c.requires.planned))) c.requires.begins c.requires.gives c.in_err-want_write.ensures)

pub returns-in_err-want_write-clause-last : goal.returns-in_err-want_write-clause-last
returns-in_err-want_write-clause-last g c = absurd (is_granted c.args.task.now c.want_write.new.self c.args.gates.now _ _ c.requires.from
    (sym (ap (λ (d : Config). d.tasks) (c.requires.from.1 ∙ c.requires.planned))) c.requires.begins c.requires.gives c.in_err-want_write.ensures)

pub returns-in_err-create-clause-refused : goal.returns-in_err-create-clause-refused
returns-in_err-create-clause-refused g c =
    let first = c.loop-writer.task in
    let gates = c.args.gates.now in
    let before = c.loop-writer.invariant in
    let mount = some_mount first gates before.from in
    let nodes : first.config.nodes ≡ gates.words.config.nodes = ap (λ (d : Config). d.nodes) before.from.1 in
    let node : 0 < first.config.nodes = omega (arith, nodes, gates.words.within.some_node) in
    let began = create_begins first before.inside mount node in
    let refused = was_whole _ (Create 0 File) first c.create.new.self _ began c.in_err-create.ensures in
    let its : CreateRefused gates c.args.plan.tasks c.in_err-create.field-0.0 = record {
      ends = create_refused _ _ _ refused;
      begins = c.args.task.now;
      held = c.want_write.new.self;
      begun = c.requires.begins;
      gives = c.requires.gives;
      took = c.in_ok-want_write.ensures;
      was = record {
        first = first;
        last = c.create.new.self;
        from = before.from;
        own = before.numbers.own ∙ c.requires.begins.own;
        inside = before.inside;
        began = began;
        refused = refused;
      };
      files = c.loop-writer._writer;
      fewer = omega (arith, c.writers-writer-end.ensures, c.loop-writer-test.true);
      creates = before.created;
    } in
    search (rules, its)

pub returns-in_err-create-clause-last : goal.returns-in_err-create-clause-last
returns-in_err-create-clause-last g c =
    let first = c.loop-writer.task in
    let before = c.loop-writer.invariant in
    let nodes : first.config.nodes ≡ c.args.gates.now.words.config.nodes = ap (λ (d : Config). d.nodes) before.from.1 in
    let began = create_begins first before.inside (some_mount first c.args.gates.now before.from)
    (omega (arith, nodes, c.args.gates.now.words.within.some_node)) in
    let its : (before : SeatedTask) × Called (Create 0 File) before c.create.new.self (Err c.in_err-create.field-0.0) =
    (first, was_whole _ (Create 0 File) first c.create.new.self _ began c.in_err-create.ensures) in
    search (rules, its)
