-- whether there is an access at a mount below this one
use Rattle.std.proofs.Common.{◌≡◌}
use Rattle.gate_world.specs.{Accesses.held_in, Operations.some_mount}
use Rattle.gate_world.proofs.accesses.Accesses.holds_some_mount.Given as goal

abbrev pub invariant-loop-mount : goal.invariant-loop-mount
invariant-loop-mount l = l.some ≡ some_mount l.mount (held_in l.self).mounts
