-- each mount goes on from what the one before it left
use Rattle.call_ends.proofs.Prelude.{Go, ap, led_nowhere, led_on, led_to, remounting_at, still_stands, sym}
use Rattle.call_ends.proofs.Remounting.{past_last, past_on}
use Rattle.mount_counts.specs.{Sets.no_mounts, declared.remounts.RemountStep.TheVariants.LoadsFlags}
use Rattle.call_ends.proofs.remount_lines.hold_mounts.Goals as goal

pub loop-held-init : goal.loop-held-init
loop-held-init c = record {
  led = led_to (ap (λ h. Go (remounting_at c.args.remount (LoadsFlags 0 h))) (sym c.empty-held.ensures))
      (led_nowhere c.args.gates.now (Go (remounting_at c.args.remount (LoadsFlags 0 no_mounts))) c.args.accesses.now c.args.seat.now);
}

pub hold_mount-requires : goal.hold_mount-requires
hold_mount-requires c = still_stands c.loop-held.invariant.led c.requires

pub returns-in_err-held : goal.returns-in_err-held
returns-in_err-held c = rw c.from_residual.ensures (led_on c.loop-held.invariant.led c.in_err-held.ensures)

pub loop-held-preserved : goal.loop-held-preserved
loop-held-preserved c = record {
  led = led_on c.loop-held.invariant.led
      (led_to (past_on c.args.remount c.loop-held.mount c.in_ok-held.held c.in-Some.next c.in-Some.ensures) c.in_ok-held.ensures);
}

pub returns-in-None : goal.returns-in-None
returns-in-None c =
    led_on c.loop-held.invariant.led (led_to (past_last c.args.remount c.loop-held.mount c.in_ok-held.held c.in-None.ensures) c.in_ok-held.ensures)
