use Rattle.std.proofs.{Common.{◌≡◌, ◌-◌, true, false, codes, Ok, Err, sym, ap, ◌∙◌, arith}, lemmas.Result.{err_from_is_err_and}}
use Rattle.race_conditions.specs.Conditions.{formula_of}
use Rattle.race_conditions.specs.{Parsing.{condition_at, sign_text}, Pieces.{is_next}}
use Rattle.race_conditions.proofs.Parsed.{carried, too_deep, joined_failed, joined_alone, joined_both, joined_broken, denied_read, denied_failed, enclosed_failed, enclosed_read, unclosed, stated_read, stated_failed}
use Rattle.race_conditions.proofs.parsing.+condition_at.Goals as goal

pub returns-then-depth-eq0-clause-fault : goal.returns-then-depth-eq0-clause-fault
returns-then-depth-eq0-clause-fault t c =
    too_deep c.args.text.now c.args.names.now.config c.args.names.now.calls.items c.args.depth c.args.rank c.args.at (omega arith) ∙
    ap Err (sym c.unexpected.ensures)

pub returns-in_err-one-in-Joined-clause-fault : goal.returns-in_err-one-in-Joined-clause-fault
returns-in_err-one-in-Joined-clause-fault t c =
    let err = c.from_residual.ensures in
    let p = err_from_is_err_and c.from_residual.result err.1 in
    rw (p.1, p.2) (carried _ _ c.in_err-one-in-Joined.field-0.0
    (joined_failed c.args.text.now c.args.names.now.config c.args.names.now.calls.items c.args.depth (omega arith) c.args.rank c.part.result c.in-Joined.sign c.args.at
    c.in-Joined.is c.part.ensures)
    c.in_err-one-in-Joined.ensures.fault)

pub returns-then-not-is_next-clause-read : goal.returns-then-not-is_next-clause-read
returns-then-not-is_next-clause-read t c =
    let off : is_next c.args.text.now c.in_ok-one-in-Joined.at (sign_text c.in-Joined.sign) ≡ false = grind arith in
    joined_alone c.args.text.now c.args.names.now.config c.args.names.now.calls.items c.args.depth (omega arith) c.args.rank c.part.result c.in-Joined.sign c.args.at
    c.in-Joined.is c.part.ensures
    (formula_of c.in_ok-one-in-Joined.one) c.in_ok-one-in-Joined.at c.in_ok-one-in-Joined.ensures.read off

pub returns-in_err-other-in-Joined-clause-fault : goal.returns-in_err-other-in-Joined-clause-fault
returns-in_err-other-in-Joined-clause-fault t c =
    let on : is_next c.args.text.now c.in_ok-one-in-Joined.at (sign_text c.in-Joined.sign) ≡ true = grind arith in
    let err = c.from_residual-in_err-other-in-Joined.ensures in
    let p = err_from_is_err_and c.from_residual-in_err-other-in-Joined.result err.1 in
    rw (p.1, p.2) (carried _ _ c.in_err-other-in-Joined.field-0.0 (λ f e.
    joined_broken c.args.text.now c.args.names.now.config c.args.names.now.calls.items c.args.depth (omega arith) c.args.rank c.part.result c.in-Joined.sign c.args.at
    c.in-Joined.is c.part.ensures
    (formula_of c.in_ok-one-in-Joined.one) c.in_ok-one-in-Joined.at c.in_ok-one-in-Joined.ensures.read on f
    (ap (condition_at c.args.text.now c.args.names.now.config c.args.names.now.calls.items (c.args.depth - 1) _) (sym c.end_of.ensures) ∙ e))
    c.in_err-other-in-Joined.ensures.fault)

pub returns-in_ok-join-in-Joined-clause-read : goal.returns-in_ok-join-in-Joined-clause-read
returns-in_ok-join-in-Joined-clause-read t c =
    let on : is_next c.args.text.now c.in_ok-one-in-Joined.at (sign_text c.in-Joined.sign) ≡ true = grind arith in
    joined_both c.args.text.now c.args.names.now.config c.args.names.now.calls.items c.args.depth (omega arith) c.args.rank c.part.result c.in-Joined.sign c.args.at
    c.in-Joined.is c.part.ensures
    (formula_of c.in_ok-one-in-Joined.one) c.in_ok-one-in-Joined.at c.in_ok-one-in-Joined.ensures.read on (formula_of c.in_ok-other-in-Joined.other) c.in_ok-other-in-Joined.at
    (ap (condition_at c.args.text.now c.args.names.now.config c.args.names.now.calls.items (c.args.depth - 1) _) (sym c.end_of.ensures) ∙
    c.in_ok-other-in-Joined.ensures.read) ∙ ap (λ f. Ok (f, c.in_ok-other-in-Joined.at)) (sym c.in_ok-join-in-Joined.ensures)

pub returns-in_err-condition-in-One-clause-fault : goal.returns-in_err-condition-in-One-clause-fault
returns-in_err-condition-in-One-clause-fault t c =
    let on : is_next c.args.text.now c.args.at (codes "!") ≡ true = grind arith in
    let err = c.from_residual-in_err-condition-in-One.ensures in
    let p = err_from_is_err_and c.from_residual-in_err-condition-in-One.result err.1 in
    rw (p.1, p.2) (carried _ _ c.in_err-condition-in-One.field-0.0 (λ f e.
    denied_failed c.args.text.now c.args.names.now.config c.args.names.now.calls.items c.args.depth (omega arith) c.args.rank c.args.at c.in-One.is on f
    (ap (condition_at c.args.text.now c.args.names.now.config c.args.names.now.calls.items (c.args.depth - 1) _) (sym c.end_of-behind.ensures) ∙ e))
    c.in_err-condition-in-One.ensures.fault)

pub returns-in_ok-not_of-in-One-clause-read : goal.returns-in_ok-not_of-in-One-clause-read
returns-in_ok-not_of-in-One-clause-read t c =
    let on : is_next c.args.text.now c.args.at (codes "!") ≡ true = grind arith in
    denied_read c.args.text.now c.args.names.now.config c.args.names.now.calls.items c.args.depth (omega arith) c.args.rank c.args.at c.in-One.is on
    (formula_of c.in_ok-condition-in-One.condition) c.in_ok-condition-in-One.at
    (ap (condition_at c.args.text.now c.args.names.now.config c.args.names.now.calls.items (c.args.depth - 1) _) (sym c.end_of-behind.ensures) ∙
    c.in_ok-condition-in-One.ensures.read) ∙ ap (λ f. Ok (f, c.in_ok-condition-in-One.at)) (sym c.in_ok-not_of-in-One.ensures)

pub returns-in_err-condition-in-One-2-clause-fault : goal.returns-in_err-condition-in-One-2-clause-fault
returns-in_err-condition-in-One-2-clause-fault t c =
    let off : is_next c.args.text.now c.args.at (codes "!") ≡ false = grind arith in
    let on : is_next c.args.text.now c.args.at (codes "(") ≡ true = grind arith in
    let err = c.from_residual-in_err-condition-in-One-2.ensures in
    let p = err_from_is_err_and c.from_residual-in_err-condition-in-One-2.result err.1 in
    rw (p.1, p.2) (carried _ _ c.in_err-condition-in-One-2.field-0.0 (λ f e.
    enclosed_failed c.args.text.now c.args.names.now.config c.args.names.now.calls.items c.args.depth (omega arith) c.args.rank c.args.at c.in-One-2.is
    off on f
    (ap (condition_at c.args.text.now c.args.names.now.config c.args.names.now.calls.items (c.args.depth - 1) _) (sym c.end_of-behind-in-One-2.ensures) ∙ e))
    c.in_err-condition-in-One-2.ensures.fault)

pub returns-in_ok-at-in-One-2-clause-read : goal.returns-in_ok-at-in-One-2-clause-read
returns-in_ok-at-in-One-2-clause-read t c =
    let off : is_next c.args.text.now c.args.at (codes "!") ≡ false = grind arith in
    let on : is_next c.args.text.now c.args.at (codes "(") ≡ true = grind arith in
    enclosed_read c.args.text.now c.args.names.now.config c.args.names.now.calls.items c.args.depth (omega arith) c.args.rank c.args.at c.in-One-2.is
    off on (formula_of c.in_ok-condition-in-One-2.condition) c.in_ok-condition-in-One-2.at
    (ap (condition_at c.args.text.now c.args.names.now.config c.args.names.now.calls.items (c.args.depth - 1) _) (sym c.end_of-behind-in-One-2.ensures) ∙
    c.in_ok-condition-in-One-2.ensures.read) c.in_ok-at-in-One-2.at (sym c.in_ok-at-in-One-2.ensures)

pub returns-in_err-at-in-One-2-clause-fault : goal.returns-in_err-at-in-One-2-clause-fault
returns-in_err-at-in-One-2-clause-fault t c =
    let off : is_next c.args.text.now c.args.at (codes "!") ≡ false = grind arith in
    let on : is_next c.args.text.now c.args.at (codes "(") ≡ true = grind arith in
    let err = c.from_residual-in_err-at-in-One-2.ensures in
    let p = err_from_is_err_and c.from_residual-in_err-at-in-One-2.result err.1 in
    rw (p.1, p.2) (unclosed c.args.text.now c.args.names.now.config c.args.names.now.calls.items c.args.depth (omega arith) c.args.rank c.args.at c.in-One-2.is
    off on (formula_of c.in_ok-condition-in-One-2.condition) c.in_ok-condition-in-One-2.at
    (ap (condition_at c.args.text.now c.args.names.now.config c.args.names.now.calls.items (c.args.depth - 1) _) (sym c.end_of-behind-in-One-2.ensures) ∙
    c.in_ok-condition-in-One-2.ensures.read) c.in_err-at-in-One-2.field-0.0 (sym c.in_err-at-in-One-2.ensures))

pub returns-in_err-fact-in-One-3-clause-fault : goal.returns-in_err-fact-in-One-3-clause-fault
returns-in_err-fact-in-One-3-clause-fault t c =
    let off : is_next c.args.text.now c.args.at (codes "!") ≡ false = grind arith in
    let none : is_next c.args.text.now c.args.at (codes "(") ≡ false = grind arith in
    let err = c.from_residual-in_err-fact-in-One-3.ensures in
    let p = err_from_is_err_and c.from_residual-in_err-fact-in-One-3.result err.1 in
    rw (p.1, p.2)
    (stated_failed c.args.text.now c.args.names.now.config c.args.names.now.calls.items c.args.depth (omega arith) c.args.rank c.args.at c.in-One-3.is
    off none c.in_err-fact-in-One-3.field-0.0 (sym c.in_err-fact-in-One-3.ensures.read))

pub returns-in_ok-fact-in-One-3-clause-read : goal.returns-in_ok-fact-in-One-3-clause-read
returns-in_ok-fact-in-One-3-clause-read t c =
    let off : is_next c.args.text.now c.args.at (codes "!") ≡ false = grind arith in
    let none : is_next c.args.text.now c.args.at (codes "(") ≡ false = grind arith in
    stated_read c.args.text.now c.args.names.now.config c.args.names.now.calls.items c.args.depth (omega arith) c.args.rank c.args.at c.in-One-3.is
    off none c.in_ok-fact-in-One-3.fact c.in_ok-fact-in-One-3.at (sym c.in_ok-fact-in-One-3.ensures.read)
