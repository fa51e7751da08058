use Rattle.std.proofs.Common.{arith, length, rules, sym, ◌∙◌, ◌≡◌}
use Rattle.schedule_lines.{proofs.Digits.{one_digit, second_holds}, specs.Numbers.is_digits}
use Rattle.schedule_lines.proofs.numbers.number_of.Goals as goal

pub value_of-requires-clause-digits : goal.value_of-requires-clause-digits
unfolding is_digits
value_of-requires-clause-digits c = second_holds _ _ (sym c.is_digits.ensures ∙ c.if-not-is_digits.false)

pub returns : goal.returns
returns c =
    let one : length c.args.word.now ≡ 1 = omega (arith, c.in-len1.len_at_least, c.in-len1.len_below) in
    let is = one_digit c.args.word.now one in
    search (rules, is)
