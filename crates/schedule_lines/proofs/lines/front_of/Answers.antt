use Rattle.std.{proofs.{Common.{Some, ap, arith, sym, take, ◌∙◌, ◌≡◌}, lemmas.List.{Quantifiers.position-Some, length-take}}, specs.List.position}
use Rattle.schedule_lines.specs.Lines.{is_newline}
use Rattle.schedule_lines.proofs.lines.front_of.Goals as goal

pub returns-in-Some-clause-inside : goal.returns-in-Some-clause-inside
returns-in-Some-clause-inside c = λ n e.
    let near = take 257 c.args.bytes.now in
    let found : position is_newline near ≡ Some c.in-Some.length =
    sym (c.first_newline.ensures ∙ ap (position is_newline) c.line_window.ensures) ∙ c.in-Some.is in
    let here = (position-Some is_newline near c.in-Some.length 0 found).0 in
    let same : c.in-Some.length ≡ n = cc in
    omega (arith, here, same, length-take 257 c.args.bytes.now)
