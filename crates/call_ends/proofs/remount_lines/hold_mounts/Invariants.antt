-- the steps have led to the mount that is next
use Rattle.call_ends.proofs.Prelude.{Go, Led, None, remounting_at, ◌-◌}
use Rattle.mount_counts.specs.{Sets.no_mounts, declared.remounts.RemountStep.TheVariants.LoadsFlags}
use Rattle.call_ends.proofs.remount_lines.hold_mounts.Given as goal

abbrev pub invariant-loop-held : goal.invariant-loop-held
invariant-loop-held l = record {
  led : Led l.fn.gates None (Go (remounting_at l.fn.remount (LoadsFlags 0 no_mounts))) l.fn.accesses l.fn.seat (Go (remounting_at l.fn.remount (LoadsFlags l.mount l.held))) l.fn.accesses l.seat;
}

abbrev pub decreases-loop-held : goal.decreases-loop-held
decreases-loop-held l = l.fn.remount.mounts - l.mount
