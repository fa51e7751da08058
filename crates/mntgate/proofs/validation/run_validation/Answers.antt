use Rattle.std.proofs.Common.{◌≡◌, sym, subst, IfSome}
use Rattle.mntgate.proofs.Validated.{told}
use Rattle.mntgate.proofs.validation.run_validation.Goals as goal

pub returns-in-Ok-validated : goal.returns-in-Ok-validated
returns-in-Ok-validated g c =
    told _ _ _ _ _ _ _ (λ none. subst (λ bytes. IfSome (g.I.Read.remaining c.args.reader.now) (λ all. bytes ≡ all))
    (sym c.as_slice-bytes.ensures.value) (c.in-Ok.ensures.read none)) c.in-Ok-validated.told.fault c.in-Ok-validated.ensures.possible
    c.in-Ok-validated.ensures.impossible c.write_told.ensures.possible c.write_told.ensures.impossible
