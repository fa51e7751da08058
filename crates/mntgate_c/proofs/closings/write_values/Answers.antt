use Rattle.std.proofs.Common.{arith, length-set, ◌∙◌}
use Rattle.mntgate_c.proofs.Told.{told_more}
use Rattle.mntgate_c.proofs.closings.write_values.Goals as goal

pub loop-i-preserved : goal.loop-i-preserved
loop-i-preserved c = record {
  long = length-set c.loop-i.values c.loop-i.i c.value.result ∙ c.loop-i.invariant.long;
  told = told_more c.args.closed.now c.args.asked.now c.loop-i.values c.loop-i.i c.value.result
      (let within = c.loop-i-test.true in let same = c.loop-i.invariant.long in omega arith) c.value.ensures c.loop-i.invariant.told;
}
