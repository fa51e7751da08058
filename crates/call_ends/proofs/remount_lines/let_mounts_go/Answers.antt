-- each step goes on from what the one before it left
use Rattle.call_ends.proofs.Prelude.{Go, ap, arith, led_on, led_to, remounting_at, still_stands, sym}
use Rattle.call_ends.proofs.Remounting.{holds_left, none_held, some_held}
use Rattle.mount_counts.specs.Remounts.{let_go}
use Rattle.call_ends.proofs.remount_lines.let_mounts_go.Goals as goal

pub find-cleared-requires-clause-stands : goal.find-cleared-requires-clause-stands
find-cleared-requires-clause-stands c =
    still_stands (led_to (some_held c.args.remount c.loop-held.held (λ is. omega arith)) c.loop-held.invariant.led) c.requires

pub loop-held-smaller : goal.loop-held-smaller
loop-held-smaller c = holds_left c.loop-held.held c.without_lowest-held.result c.without_lowest-held.ensures (λ is. omega arith) (omega arith)

pub loop-held-preserved : goal.loop-held-preserved
loop-held-preserved c = record {
  led = led_on (led_to (some_held c.args.remount c.loop-held.held (λ is. omega arith)) c.loop-held.invariant.led)
      (led_to (ap (λ h. Go (remounting_at c.args.remount (let_go h))) (sym c.without_lowest-held.ensures)) c.find-cleared.ensures.led);
}

pub returns : goal.returns
returns c = led_to (none_held c.args.remount c.loop-held.held (omega arith)) c.loop-held.invariant.led
