-- the marks are cleared from the first node on
use Rattle.call_ends.proofs.Prelude.{Cleans, Go, ap, asking_on, led_from, led_unasked, refl, standing, stands_from, still_stands}
use Rattle.call_ends.proofs.freeze_lines.sync.Goals as goal

pub clean-requires : goal.clean-requires
clean-requires g c =
    stands_from (ap (λ m. Go (standing c.args.freeze.now (Cleans m))) c.start-clearing.ensures) c.requires

pub close_third-requires : goal.close_third-requires
close_third-requires g c =
    still_stands (led_from (ap (λ m. Go (standing c.args.freeze.now (Cleans m))) c.start-clearing.ensures) c.clean.ensures) c.requires

pub returns : goal.returns
returns g c =
    asking_on (led_unasked (led_from (ap (λ m. Go (standing c.args.freeze.now (Cleans m))) c.start-clearing.ensures) c.clean.ensures) refl)
    c.close_third.ensures
