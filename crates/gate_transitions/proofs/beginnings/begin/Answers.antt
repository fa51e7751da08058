-- what is not admitted has no first phase
use Rattle.std.{proofs.{Common.{ap, sym}, lemmas.Result.err_from_is_err_and}, specs.Prelude.{Err, None, Option, Result, Some, ◌≡◌}}
use Rattle.access_model.specs.declared.errors.GateError.{GateError}
use Rattle.gate_world.specs.{Beginnings.or_refusal, declared.work.Phase.Phase}
use Rattle.gate_transitions.proofs.beginnings.begin.Goals as goal

refused_for : (refusal : Option GateError) (refused : GateError) → ◌≡◌ {A = Result (Unit {0}) GateError} (Err refused) (or_refusal tt refusal) → refusal ≡ Some refused
refused_for None refused is = absurd (let f : ⊥ = cc in f)
refused_for (Some because) refused is = cc

pub returns-in_err-may_begin : goal.returns-in_err-may_begin
returns-in_err-may_begin c =
    let p = err_from_is_err_and c.from_residual.result c.from_residual.ensures.1 in
    let because = refused_for _ c.in_err-may_begin.field-0.0 c.in_err-may_begin.ensures in
    rw (p.1, p.2) (sym (ap (or_refusal _) because))
