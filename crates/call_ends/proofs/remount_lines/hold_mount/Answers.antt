-- each step goes on from what the one before it left
use Rattle.call_ends.proofs.Prelude.{Go, ap, led_on, led_to, remounting_at, still_stands, sym}
use Rattle.call_ends.proofs.Remounting.{holds_on}
use Rattle.mount_counts.specs.Remounts.{past_mount}
use Rattle.call_ends.proofs.remount_lines.hold_mount.Goals as goal

pub find-held-requires-clause-stands : goal.find-held-requires-clause-stands
find-held-requires-clause-stands c =
    still_stands (led_to (holds_on c.args.remount c.args.mount c.args.held c.find-found.result c.from_bits_retain-flags.result.0
    c.contains.result (c.from_bits_retain-flags.ensures tt) (c.contains.ensures tt) c.if-contains.false) c.find-found.ensures.led) c.requires

pub sum_mount-requires : goal.sum_mount-requires
sum_mount-requires c =
    still_stands (led_on (led_to (holds_on c.args.remount c.args.mount c.args.held c.find-found.result c.from_bits_retain-flags.result.0
    c.contains.result (c.from_bits_retain-flags.ensures tt) (c.contains.ensures tt) c.if-contains.false) c.find-found.ensures.led)
    c.find-held.ensures.led) c.requires

pub returns-then-sum_mount : goal.returns-then-sum_mount
returns-then-sum_mount c =
    led_to (ap (λ h. Go (remounting_at c.args.remount (past_mount c.args.remount.mounts c.args.mount h))) (sym c.with.ensures))
    (led_on (led_on (led_to (holds_on c.args.remount c.args.mount c.args.held c.find-found.result c.from_bits_retain-flags.result.0
    c.contains.result (c.from_bits_retain-flags.ensures tt) (c.contains.ensures tt) c.if-contains.false) c.find-found.ensures.led)
    c.find-held.ensures.led) c.if-sum_mount.ensures)

pub returns : goal.returns
returns c =
    led_on (led_on (led_to (holds_on c.args.remount c.args.mount c.args.held c.find-found.result c.from_bits_retain-flags.result.0
    c.contains.result (c.from_bits_retain-flags.ensures tt) (c.contains.ensures tt) c.if-contains.false) c.find-found.ensures.led)
    c.find-held.ensures.led) c.if-sum_mount.ensures
