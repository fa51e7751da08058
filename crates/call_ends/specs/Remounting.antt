-- Where a remount stands in its line.
use Rattle.access_model.specs.{Replies.map_next, declared.replies.{Next.{Next, TheVariants.Go}, Reply.TheVariants.Unit as UnitReply}}
use Rattle.gate_world.specs.declared.work.Phase.{Phase, TheVariants.Remounts}
use Rattle.mount_counts.specs.{Remounts.{at_remount, past_mount}, Sets.with_mount, declared.remounts.{Remount.Remount, RemountStep.RemountStep}}
use Rattle.mount_counts.specs.declared.{remounts.RemountStep.TheVariants.{LoadsRemovedAgain, Releases, Sums}, sets.MountSet.MountSet}
use Rattle.std.specs.Prelude.{Bool, None, Ok, Option, Some, false, true, ℕ}

-- a remount at this step
abbrev pub remounting_at : Remount → RemountStep → Phase
remounting_at x step = Remounts (at_remount x step)

-- what comes next of a remount, as phases
abbrev pub of_remount : Next Remount → Next Phase
of_remount next = map_next (λ remount. Remounts remount) next

-- the load of a mount's first count word
abbrev pub first_count : ℕ → MountSet → RemountStep
first_count mount held = Sums mount held record { words = 0; total = 0 }

-- the return of `umount` by one that is granted
abbrev pub done_remount : RemountStep
done_remount = Releases (Ok UnitReply)

-- after the sum of a mount's counts: nobody was counted, or this comes next
abbrev pub summed_or : Remount → ℕ → MountSet → Bool → Next Remount → Next Phase
summed_or x mount held true rest = Go (remounting_at x (past_mount x.mounts mount (with_mount held mount)))
summed_or x mount held false rest = of_remount rest

-- after the steps at a mount: these are held, or this comes next
abbrev pub past_or : Remount → ℕ → Option MountSet → Next Remount → Next Phase
past_or x mount (Some held) rest = Go (remounting_at x (past_mount x.mounts mount held))
past_or x mount None rest = of_remount rest

-- after those at all mounts: these are held, or this comes next
abbrev pub held_or : Remount → Option MountSet → Next Remount → Next Phase
held_or x (Some held) rest = Go (remounting_at x (LoadsRemovedAgain held))
held_or x None rest = of_remount rest
