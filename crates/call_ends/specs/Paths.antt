-- What comes next of operations whose usual steps are done in a line.
use Rattle.std.specs.Prelude.{Bool, Ok, false, true, ℕ}
use Rattle.access_model.specs.{Replies.map_next, declared.replies.{Next.{Next, TheVariants.Done}, Reply.TheVariants.Unit as UnitReply}}
use Rattle.composite_ops.specs.declared.write_access.phases.WritePhase.{TheVariants.Takes, WritePhase}
use Rattle.gate_world.specs.declared.work.Phase.{Phase, TheVariants.{DownReads, Mounts, Writes}}
use Rattle.mount_counts.specs.declared.phases.{Change.Change, MountPhase.TheVariants.{Change as Changes, Want as Wants}, Want.Want}
use Rattle.percpu_rwsem.specs.declared.readers.{DownRead.DownRead, DownReadStep.DownReadStep}

-- what comes next of a want of an access at a mount, as phases
abbrev pub of_want : Next Want → Next Phase
of_want next = map_next (λ want. Mounts (Wants want)) next

-- the same of a change of a mount
abbrev pub of_change : Next Change → Next Phase
of_change next = map_next (λ change. Mounts (Changes change)) next

-- the same of a taking or a return of write access
abbrev pub of_write : Next WritePhase → Next Phase
of_write next = map_next Writes next

-- the same of a start at a level
abbrev pub of_read : Next DownRead → Next Phase
of_read next = map_next DownReads next

-- a taking of write access at this mount, on this processor, by this task, that stands at this step of its start
abbrev pub taking_at : ℕ → ℕ → ℕ → DownReadStep → WritePhase
taking_at mount cpu task step = Takes mount (record { level = 1; cpu = cpu; task = task; wait = true; step = step })

-- what comes next of a taking: it is done, or this
abbrev pub done_or : Bool → Next WritePhase → Next WritePhase
done_or true rest = Done (Ok UnitReply)
done_or false rest = rest
