-- one round more
use Rattle.gate_runs.proofs.Prelude.{Config, Does, DropWrite, Err, GateError, HasWriteAccess, Ok, Performs, Rests, Result, SeatedTask, WriterRefused}
use Rattle.gate_runs.proofs.Prelude.{WriterRound, ap, arith, counted, err_from_is_err_and, subst, sym, ℕ, ◌+◌, ◌-◌, ◌<◌, ◌∙◌, ◌≡◌, ◌≤◌}
use Rattle.std.proofs.{Common.◌%◌, lemmas.Nat.mod_below}
use Rattle.vfs_gates.proofs.CallingBack.{none_err}
use Rattle.gate_runs.proofs.{Answering.gives_back, Keeping.{freezes_none_on, freezes_nothing, takes_freeze_none, writes_freeze_none}}
use Rattle.gate_runs.{proofs.Repeating.{one_more, rounds_of_any}, specs.{Counts.no_writes, Refusals.LeftByRefusal, Rounds.Takes}}
use Rattle.gate_runs.proofs.workers.write.Goals as goal

-- write access is given back without a refusal, on a processor that there is
given_back : (q : ℕ) (config : Config) (first last : SeatedTask) (outcome : Result (Unit {0}) GateError) → q < config.processors →
    first.config ≡ config → HasWriteAccess first → Performs (DropWrite 0 q) first last outcome → (outcome ≡ Ok tt) × Rests last
given_back q config first last outcome there of held did =
    gives_back q first last outcome held (subst (λ d. q < d.processors) (sym of) there) did

-- a round's processors are
on_processor : (place processors q : ℕ) (config : Config) → config.processors ≡ processors → 1 ≤ processors → q ≡ place % processors →
    q < config.processors
on_processor place processors q config same some is =
    subst (λ n. q < n) (sym same) (subst (λ n. n < processors) (sym is) (mod_below place processors some))

pub want_write-requires : goal.want_write-requires
want_write-requires g c = record {
  from = c.loop-round.invariant.0;
  rests = c.loop-round.invariant.1;
  processor = on_processor (c.args.writer + c.loop-round.round) c.args.plan.processors c.processor-cpu.result c.args.gates.now.words.config
      (ap (λ (d : Config). d.processors) c.requires.planned) c.args.plan.within.processors_from c.processor-cpu.ensures;
}

pub grow-grown-requires : goal.grow-grown-requires
grow-grown-requires g c =
    let nodes : c.args.gates.now.words.config.nodes ≡ c.args.plan.tasks - 1 = ap (λ (d : Config). d.nodes) c.requires.planned in record {
      from = c.in_ok-denied.ensures.from;
      inside = c.in_ok-denied.ensures.inside;
      file = omega (arith, nodes, c.requires.writer);
    }

pub drop_write-requires : goal.drop_write-requires
drop_write-requires g c = c.grow-grown.ensures.from

pub returns-in_err-denied-clause-from : goal.returns-in_err-denied-clause-from
returns-in_err-denied-clause-from g c = c.want_write.ensures.from

pub returns-in_err-denied-clause-rounds : goal.returns-in_err-denied-clause-rounds
returns-in_err-denied-clause-rounds g c = let p = err_from_is_err_and c.from_residual.result c.from_residual.ensures.1 in rw p.1 tt

pub returns-in_err-denied-clause-refused : goal.returns-in_err-denied-clause-refused
returns-in_err-denied-clause-refused g c = absurd c.in_err-denied.ensures.granted

pub returns-in_err-denied-clause-rests : goal.returns-in_err-denied-clause-rests
returns-in_err-denied-clause-rests g c = absurd c.in_err-denied.ensures.granted

pub returns-in_err-drop_write-clause-from : goal.returns-in_err-drop_write-clause-from
returns-in_err-drop_write-clause-from g c =
    (c.drop_write.ensures.table ∙ c.grow-grown.ensures.from.0, c.drop_write.ensures.config ∙ c.grow-grown.ensures.from.1)

pub returns-in_err-drop_write-clause-rounds : goal.returns-in_err-drop_write-clause-rounds
returns-in_err-drop_write-clause-rounds g c =
    let p = err_from_is_err_and c.from_residual-in_err-drop_write.result c.from_residual-in_err-drop_write.ensures.1 in rw p.1 tt

pub returns-in_err-drop_write-clause-refused : goal.returns-in_err-drop_write-clause-refused
returns-in_err-drop_write-clause-refused g c = absurd (none_err _ (given_back c.processor.result c.args.gates.now.words.config c.grow-grown.new.task c.drop_write.new.self (Err c.in_err-drop_write.field-0.0)
    (on_processor (c.args.writer + (c.loop-round.round + 1)) c.args.plan.processors c.processor.result c.args.gates.now.words.config
    (ap (λ (d : Config). d.processors) c.requires.planned) c.args.plan.within.processors_from c.processor.ensures)
    c.grow-grown.ensures.from.1 c.grow-grown.ensures.inside c.in_err-drop_write.ensures).0)

pub returns-in_err-drop_write-clause-rests : goal.returns-in_err-drop_write-clause-rests
returns-in_err-drop_write-clause-rests g c = absurd (none_err _ (given_back c.processor.result c.args.gates.now.words.config c.grow-grown.new.task c.drop_write.new.self (Err c.in_err-drop_write.field-0.0)
    (on_processor (c.args.writer + (c.loop-round.round + 1)) c.args.plan.processors c.processor.result c.args.gates.now.words.config
    (ap (λ (d : Config). d.processors) c.requires.planned) c.args.plan.within.processors_from c.processor.ensures)
    c.grow-grown.ensures.from.1 c.grow-grown.ensures.inside c.in_err-drop_write.ensures).0)

pub returns-in_err-grown-clause-rests : goal.returns-in_err-grown-clause-rests
returns-in_err-grown-clause-rests g c = (given_back c.processor.result c.args.gates.now.words.config c.grow-grown.new.task c.drop_write.new.self (Ok tt)
    (on_processor (c.args.writer + (c.loop-round.round + 1)) c.args.plan.processors c.processor.result c.args.gates.now.words.config
    (ap (λ (d : Config). d.processors) c.requires.planned) c.args.plan.within.processors_from c.processor.ensures)
    c.grow-grown.ensures.from.1 c.grow-grown.ensures.inside c.in_ok-drop_write.ensures).1

-- it freezes and thaws nothing, whatever it answers
pub returns-clause-freezes : goal.returns-clause-freezes
returns-clause-freezes g c = writes_freeze_none (g.W.NotedObserver.meets c.args.watch.now) c.args.plan.processors c.args.writer c.loop-round.round
    (c.args.task.now, c.args.notes.now, no_writes) (c.loop-round.task, c.loop-round.notes, c.loop-round.writes) c.loop-round.invariant.2

pub returns-in_err-denied-clause-freezes : goal.returns-in_err-denied-clause-freezes
returns-in_err-denied-clause-freezes g c = absurd c.in_err-denied.ensures.granted

pub returns-in_err-drop_write-clause-freezes : goal.returns-in_err-drop_write-clause-freezes
returns-in_err-drop_write-clause-freezes g c = absurd (none_err _ (given_back c.processor.result c.args.gates.now.words.config c.grow-grown.new.task c.drop_write.new.self (Err c.in_err-drop_write.field-0.0)
    (on_processor (c.args.writer + (c.loop-round.round + 1)) c.args.plan.processors c.processor.result c.args.gates.now.words.config
    (ap (λ (d : Config). d.processors) c.requires.planned) c.args.plan.within.processors_from c.processor.ensures)
    c.grow-grown.ensures.from.1 c.grow-grown.ensures.inside c.in_err-drop_write.ensures).0)

pub returns-in_err-grown-clause-freezes : goal.returns-in_err-grown-clause-freezes
returns-in_err-grown-clause-freezes g c =
    let so_far = writes_freeze_none (g.W.NotedObserver.meets c.args.watch.now) c.args.plan.processors c.args.writer c.loop-round.round
    (c.args.task.now, c.args.notes.now, no_writes) (c.loop-round.task, c.loop-round.notes, c.loop-round.writes) c.loop-round.invariant.2 in
    let took = takes_freeze_none c.processor-cpu.result (c.loop-round.task, c.loop-round.writes.waits) (c.want_write.new.task, c.in_ok-denied.waits)
    c.in_ok-denied.ensures.took.0 in
    let gave = freezes_nothing _ (DropWrite 0 c.processor.result) tt c.grow-grown.new.task c.drop_write.new.self _ c.in_ok-drop_write.ensures in
    freezes_none_on so_far (freezes_none_on took (freezes_none_on c.grow-grown.ensures.freezes gave))

pub returns-clause-rests : goal.returns-clause-rests
returns-clause-rests g c = c.loop-round.invariant.1

pub returns-in_err-grown-clause-from : goal.returns-in_err-grown-clause-from
returns-in_err-grown-clause-from g c =
    (c.drop_write.ensures.table ∙ c.grow-grown.ensures.from.0, c.drop_write.ensures.config ∙ c.grow-grown.ensures.from.1)

pub returns-in_err-grown-clause-rounds : goal.returns-in_err-grown-clause-rounds
returns-in_err-grown-clause-rounds g c =
    let p = err_from_is_err_and c.from_residual-in_err-grown.result c.from_residual-in_err-grown.ensures.1 in rw p.1 tt

pub returns-in_err-grown-clause-refused : goal.returns-in_err-grown-clause-refused
returns-in_err-grown-clause-refused g c =
    let p = err_from_is_err_and c.from_residual-in_err-grown.result c.from_residual-in_err-grown.ensures.1 in
    let its : WriterRefused c.args.gates.now c.args.plan.tasks c.args.plan.processors c.args.plan.rounds c.in_err-grown.field-0.0 = record {
      writer = c.args.writer;
      there = c.requires.writer;
      begins = c.args.task.now;
      begun = c.requires.begins;
      round = c.loop-round.round;
      fewer = omega (arith, c.rounds-round-end.ensures, c.loop-round-test.true);
      before = c.loop-round.task;
      writes = c.loop-round.writes;
      did = rounds_of_any (g.W.NotedObserver.meets c.args.watch.now) c.args.plan.processors c.args.writer c.loop-round.round
          (c.args.task.now, c.args.notes.now, no_writes) (c.loop-round.task, c.loop-round.notes, c.loop-round.writes) c.loop-round.invariant.2;
      held = c.want_write.new.task;
      waits = c.in_ok-denied.waits;
      took = subst (λ cpu. Takes cpu (c.loop-round.task, c.loop-round.writes.waits) (c.want_write.new.task, c.in_ok-denied.waits))
          c.processor-cpu.ensures c.in_ok-denied.ensures.took.0;
      grow = c.in_err-grown.ensures.refused;
    } in
    rw (p.1, p.2) its

pub returns-in_err-denied-clause-last : goal.returns-in_err-denied-clause-last
returns-in_err-denied-clause-last g c = absurd c.in_err-denied.ensures.granted

pub returns-in_err-drop_write-clause-last : goal.returns-in_err-drop_write-clause-last
returns-in_err-drop_write-clause-last g c = absurd (none_err _ (given_back c.processor.result c.args.gates.now.words.config c.grow-grown.new.task c.drop_write.new.self (Err c.in_err-drop_write.field-0.0)
    (on_processor (c.args.writer + (c.loop-round.round + 1)) c.args.plan.processors c.processor.result c.args.gates.now.words.config
    (ap (λ (d : Config). d.processors) c.requires.planned) c.args.plan.within.processors_from c.processor.ensures)
    c.grow-grown.ensures.from.1 c.grow-grown.ensures.inside c.in_err-drop_write.ensures).0)

-- its last calls were the refused growth and the return
pub returns-in_err-grown-clause-last : goal.returns-in_err-grown-clause-last
returns-in_err-grown-clause-last g c =
    let p = err_from_is_err_and c.from_residual-in_err-grown.result c.from_residual-in_err-grown.ensures.1 in
    let its : LeftByRefusal (c.args.writer + 1) c.in_err-grown.field-0.0 c.drop_write.new.self = record {
      before = c.in_err-grown.ensures.last.0;
      refused = c.grow-grown.new.task;
      was = c.in_err-grown.ensures.last.1;
      cpu = c.processor.result;
      gave = c.in_ok-drop_write.ensures;
    } in
    rw (p.1, p.2) its

pub returns-clause-from : goal.returns-clause-from
returns-clause-from g c = c.loop-round.invariant.0

pub loop-round-preserved : goal.loop-round-preserved
loop-round-preserved g c =
    let grew = c.in_ok-grown.ensures in
    let last = c.drop_write.new.self in
    let took = subst (λ cpu. (did : Takes cpu (c.loop-round.task, c.loop-round.writes.waits) (c.want_write.new.task, c.in_ok-denied.waits))
    × (c.in_ok-denied.denied ≡ counted did.0)) c.processor-cpu.ensures c.in_ok-denied.ensures.took in (
      (c.drop_write.ensures.table ∙ grew.from.0, c.drop_write.ensures.config ∙ grew.from.1),
      (given_back c.processor.result c.args.gates.now.words.config c.grow-grown.new.task c.drop_write.new.self (Ok tt)
          (on_processor (c.args.writer + (c.loop-round.round + 1)) c.args.plan.processors c.processor.result c.args.gates.now.words.config
          (ap (λ (d : Config). d.processors) c.requires.planned) c.args.plan.within.processors_from c.processor.ensures)
          c.grow-grown.ensures.from.1 c.grow-grown.ensures.inside c.in_ok-drop_write.ensures).1,
      one_more (WriterRound (g.W.NotedObserver.meets c.args.watch.now) c.args.plan.processors c.args.writer) c.loop-round.round
          (c.args.task.now, c.args.notes.now, _) (c.loop-round.task, c.loop-round.notes, c.loop-round.writes)
          (last, c.holding.new.notes, c.with_round-writes.result) c.loop-round.invariant.2
          (record {
            held = c.want_write.new.task;
            grown = c.grow-grown.new.task;
            waits = c.in_ok-denied.waits;
            took = took.0;
            grew = grew.grew.0;
            met = c.holding.ensures;
            gave = subst (λ cpu. Does (DropWrite 0 cpu) c.grow-grown.new.task last) c.processor.ensures c.in_ok-drop_write.ensures;
            counts = c.with_round-writes.ensures took.0.0 grew.grew.0.0 took.1 grew.grew.1;
          }),
    )
