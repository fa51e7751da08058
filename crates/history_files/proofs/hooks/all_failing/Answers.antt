use Rattle.std.proofs.Common.{Option, ap, slice_set, sym, ◌+◌, ◌-◌, ◌∙◌}
use Rattle.races.specs.declared.calls.Call.{Call}
use Rattle.history_files.{proofs.Failing.{none_failing, one_failing}, specs.Records.failing_from}
use Rattle.history_files.proofs.hooks.all_failing.Goals as goal

pub loop-turn-preserved : goal.loop-turn-preserved
loop-turn-preserved c =
    c.loop-turn.invariant ∙ one_failing 8 c.loop-turn.turn c.args.failure c.loop-turn.row c.loop-turn-test.true ∙
    ap (λ (call : Option Call). failing_from (8 - (c.loop-turn.turn + 1)) (c.loop-turn.turn + 1) c.args.failure (slice_set c.loop-turn.row c.loop-turn.turn call))
    (sym c.with_failure.ensures)

pub returns : goal.returns
returns c = sym (c.loop-turn.invariant ∙ none_failing 8 c.loop-turn.turn c.args.failure c.loop-turn.row c.loop-turn-test.false)
