use Rattle.std.proofs.Common.{arith}
use Rattle.schedule_lines.proofs.Digits.{digit_in, value_with_next, value_small}
use Rattle.schedule_lines.proofs.numbers.value_of.Goals as goal

pub overflow_mul-value : goal.overflow_mul-value
overflow_mul-value c =
    let small = value_small c.args.digits.now c.loop-digit.digit-index c.requires.digits c.requires.few in
    omega (arith, small)

pub overflow_add-value : goal.overflow_add-value
overflow_add-value c =
    let small = value_small c.args.digits.now c.loop-digit.digit-index c.requires.digits c.requires.few in
    let digit = digit_in c.args.digits.now c.loop-digit.digit-index c.requires.digits c.loop-digit-test.true in
    omega (arith, small, digit)

pub loop-digit-preserved : goal.loop-digit-preserved
loop-digit-preserved c =
    let more = value_with_next c.args.digits.now c.loop-digit.digit-index c.requires.digits c.loop-digit-test.true in
    omega (arith, more, c.loop-digit.invariant)
