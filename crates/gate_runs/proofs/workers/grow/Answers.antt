-- one refusal more, or done
use Rattle.gate_runs.proofs.Prelude.{Again, Config, Grow, IsRefused, ap, arith, refl, rules, subst, ◌+◌, ◌-◌, ◌∙◌, ◌≡◌}
use Rattle.std.proofs.Common.{min, ◌^◌}
use Rattle.vfs_gates.proofs.Resting.{some_mount}
use Rattle.gate_runs.proofs.Answering.{grow_begins, grow_refused, inside_by, was_whole}
use Rattle.gate_runs.proofs.{Keeping.{freezes_none_on, freezes_nothing, refusals_freeze_none}, Repeating.{answered, counted_more, one_more}}
use Rattle.gate_runs.proofs.workers.grow.Goals as goal

pub loop-preserved : goal.loop-preserved
loop-preserved g c =
    let before = c.loop.invariant in (
      (c.grow.ensures.table ∙ before.0.0, c.grow.ensures.config ∙ before.0.1),
      inside_by _ (Grow c.args.file 1) c.loop.task c.grow.new.self _ refl before.1 c.grow.ensures,
      before.2 + 1,
      one_more (λ k. IsRefused (Grow c.args.file 1) Again) before.2 _ _ _ before.3
          (subst (λ e. IsRefused (Grow c.args.file 1) e c.loop.task c.grow.new.self) c.in-Err-Again.field-0-is c.in-Err-Again.ensures),
      c.saturating_add-raced.ensures ∙ (ap (λ n. min (n + 1) (2 ^ 64 - 1)) before.4 ∙ counted_more before.2),
    )

pub returns-in-Ok-clause-grew : goal.returns-in-Ok-clause-grew
returns-in-Ok-clause-grew g c =
    let before = c.loop.invariant in
    answered (Grow c.args.file 1) Again c.args.task.now c.loop.task c.grow.new.self before.2 c.loop.raced before.3 c.in-Ok.ensures before.4

pub returns-in-Ok-clause-inside : goal.returns-in-Ok-clause-inside
returns-in-Ok-clause-inside g c = inside_by _ (Grow c.args.file 1) c.loop.task c.grow.new.self _ refl c.loop.invariant.1 c.grow.ensures

pub returns-in-Err-clause-from : goal.returns-in-Err-clause-from
returns-in-Err-clause-from g c = (c.grow.ensures.table ∙ c.loop.invariant.0.0, c.grow.ensures.config ∙ c.loop.invariant.0.1)

pub returns-in-Err-clause-inside : goal.returns-in-Err-clause-inside
returns-in-Err-clause-inside g c = inside_by _ (Grow c.args.file 1) c.loop.task c.grow.new.self _ refl c.loop.invariant.1 c.grow.ensures

pub returns-in-Err-clause-refused : goal.returns-in-Err-clause-refused
returns-in-Err-clause-refused g c =
    let first = c.loop.task in
    let gates = c.args.gates.now in
    let before = c.loop.invariant in
    let nodes : first.config.nodes ≡ gates.words.config.nodes = ap (λ (d : Config). d.nodes) before.0.1 in
    let began = grow_begins first before.1 (some_mount first gates before.0) c.args.file (omega (arith, nodes, c.requires.file)) in
    let refused = was_whole _ (Grow c.args.file 1) first c.grow.new.self _ began c.in-Err.ensures in
    let other : ¬ (c.in-Err.refusal ≡ Again) = search rules in record {
      ends = grow_refused c.args.file _ _ _ other refused;
      was = record {
        first = first;
        last = c.grow.new.self;
        from = before.0;
        own = (refusals_freeze_none (Grow c.args.file 1) tt Again before.2 c.args.task.now first before.3).numbers.own;
        inside = before.1;
        began = began;
        refused = refused;
      };
      tries = before.2;
      tried = before.3;
    }

pub returns-in-Err-clause-last : goal.returns-in-Err-clause-last
returns-in-Err-clause-last g c = (c.loop.task, c.in-Err.ensures)

-- whatever it answers it freezes and thaws nothing
pub returns-in-Ok-clause-freezes : goal.returns-in-Ok-clause-freezes
returns-in-Ok-clause-freezes g c =
    let before = c.loop.invariant in
    freezes_none_on (refusals_freeze_none (Grow c.args.file 1) tt Again before.2 c.args.task.now c.loop.task before.3)
    (freezes_nothing _ (Grow c.args.file 1) tt c.loop.task c.grow.new.self _ c.grow.ensures)

pub returns-in-Err-clause-freezes : goal.returns-in-Err-clause-freezes
returns-in-Err-clause-freezes g c =
    let before = c.loop.invariant in
    freezes_none_on (refusals_freeze_none (Grow c.args.file 1) tt Again before.2 c.args.task.now c.loop.task before.3)
    (freezes_nothing _ (Grow c.args.file 1) tt c.loop.task c.grow.new.self _ c.grow.ensures)
