use Rattle.std.proofs.{Common.{List, ap, append_assoc, sym, ℕ, ◌++◌, ◌∙◌}, lemmas.Bool.eqb-true}
use Rattle.program_checks.proofs.Put.{all_put, begun, goes_on}
use Rattle.program_checks.proofs.said.put_line.Goals as goal

pub returns : goal.returns
returns c =
    let i = c.loop-rest.invariant in
    all_put _ _ c.args.text.now i.0 c.loop-rest.rest.now i.1 (eqb-true _ _ (sym c.is_empty.ensures ∙ c.loop-rest-test.false)) i.2

pub loop-rest-init : goal.loop-rest-init
loop-rest-init c = (c.cut.result.0.now, c.cut.ensures.parts, begun _ _ c.cut.result.0.now c.cut.ensures.fits c.put_part.ensures)

pub loop-rest-preserved : goal.loop-rest-preserved
loop-rest-preserved c =
    let i = c.loop-rest.invariant in
    let part : List ℕ = c.cut-in-loop-rest.result.0.now in (
      i.0 ++ part,
      i.1 ∙ ap (λ (rest : List ℕ). i.0 ++ rest) c.cut-in-loop-rest.ensures.parts ∙ sym (append_assoc i.0 part c.cut-in-loop-rest.result.1.now),
      goes_on _ _ _ i.0 part i.2 c.cut-in-loop-rest.ensures.fits c.put_part-in-loop-rest.ensures,
    )
