use Rattle.vfs_gates.proofs.Prelude.{arith, subst, ℕ, ◌≡◌}
use Rattle.vfs_gates.proofs.FlagSteps.{SetFromOne, start_one}
use Rattle.vfs_gates.proofs.numbers.others_of.Goals as goal

pub loop-i-init : goal.loop-i-init
loop-i-init c = (c.none-numbers.ensures.length, start_one c.none-numbers.result c.none-numbers.ensures.unset)

pub returns : goal.returns
returns c = let inv = c.loop-i.invariant in let r = c.requires in let e : c.loop-i.i ≡ c.args.tasks = omega arith in
    subst (λ (i : ℕ). SetFromOne c.loop-i.numbers i) e inv.1
