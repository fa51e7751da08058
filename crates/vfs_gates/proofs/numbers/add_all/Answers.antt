use Rattle.vfs_gates.proofs.Prelude.{Bool, List, ap, arith, length, subst, sym, true, ℕ, ◌+◌, ◌≡◌}
use Rattle.vfs_gates.proofs.{FlagSteps.{SetBelow, end_below, more_below, skip_below, start_below}, numbers.add_all.Goals.else-others-i}
use Rattle.vfs_gates.proofs.numbers.add_all.Goals.{then-others-i}
use Rattle.std.proofs.Common.{length-set}
use Rattle.vfs_gates.proofs.numbers.add_all.Goals as goal

pub loop-i-init : goal.loop-i-init
loop-i-init c = start_below c.args.numbers.now c.args.others.now

pub loop-i-preserved : goal.loop-i-preserved
loop-i-preserved c = let P : List Bool → Type 0 = λ f. SetBelow f c.args.numbers.now c.args.others.now (c.loop-i.i + 1) in
    elim c.if-others-i.branch [
      | then-others-i w ↦ subst P (sym w.numbers-is) (more_below c.loop-i.numbers c.args.numbers.now c.args.others.now c.loop-i.i
          (let long = c.if-others-i.array_long in let same = ap length w.numbers-is in let lt = c.loop-i-test.true in
          omega (arith, length-set c.loop-i.numbers c.loop-i.i true)) w.if-others-i.true c.loop-i.invariant)
      | else-others-i w ↦ subst P (sym w.numbers-is) (skip_below c.loop-i.numbers c.args.numbers.now c.args.others.now c.loop-i.i
          w.if-others-i.false c.loop-i.invariant)
    ]

pub returns : goal.returns
returns c = let e : c.loop-i.i ≡ 64 = (let x = c.loop-i.auto in let y = c.loop-i-test.false in omega arith) in
    end_below c.loop-i.numbers c.args.numbers.now c.args.others.now c.told-others
    (subst (λ (i : ℕ). SetBelow c.loop-i.numbers c.args.numbers.now c.args.others.now i) e c.loop-i.invariant)
