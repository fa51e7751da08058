-- each load of the sum goes on from what the one before it left
use Rattle.call_ends.proofs.Prelude.{led_nowhere, led_on, still_stands}
use Rattle.call_ends.specs.Paths.{of_change}
use Rattle.call_ends.proofs.changes.add_counts.Goals as goal

pub loop-cpu-init : goal.loop-cpu-init
loop-cpu-init c = record { led = led_nowhere c.args.gates.now (of_change c.args.next) c.args.accesses.now c.args.seat.now }

pub step_if_at-next-requires : goal.step_if_at-next-requires
step_if_at-next-requires c = still_stands c.loop-cpu.invariant.led c.requires

pub loop-cpu-preserved : goal.loop-cpu-preserved
loop-cpu-preserved c = record { led = led_on c.loop-cpu.invariant.led c.step_if_at-next.ensures }
