-- The order of steps of a taking and of a return of write access: level 1 and a mount, each by the phases of its own gate.
use Rattle.access_model.specs.declared.{actions.{Action.{Action, TheVariants.Return}, Gate.TheVariants.{Level, Mount}}, replies.Next.Next}
use Rattle.access_model.specs.declared.replies.{Next.TheVariants.{Done, Go, Wait}, Reply.TheVariants.Unit as UnitReply}
use Rattle.cpu_words.specs.declared.{events.Touch.{TheVariants.Sub, Touch}, names.WordName.{TheVariants.MountCount, WordName}}
use Rattle.mount_counts.specs.{Phases.{want_after, want_next}, declared.phases.{Want.Want, WantStep.TheVariants.CountsUp}}
use Rattle.percpu_rwsem.specs.{Readers.{down_read_after, down_read_next, up_read_next}, declared.readers.{DownRead.DownRead, UpRead.UpRead}}
use Rattle.std.specs.Prelude.{Err, Ok, Option, Some, true, ℕ}
use Rattle.composite_ops.specs.declared.write_access.phases.WritePhase.{TheVariants.{Drops, Ends, GivesBack, Takes, Wants}, WritePhase}

-- the up-read of level 1 on a processor
abbrev pub leaves_on : ℕ → UpRead
leaves_on p = record { level = 1; cpu = p }

-- after a step at the level: inside it, the mount is wanted, on the same processor
abbrev pub then_wants : ℕ → ℕ → Next DownRead → Next WritePhase
then_wants m p (Go r) = Go (Takes m r)
then_wants m p (Wait r) = Wait (Takes m r)
then_wants m p (Done (Ok reply)) = Go (Wants (record { mount = m; cpu = p; wait = true; step = CountsUp }))
then_wants m p (Done (Err refusal)) = Done (Err refusal)

-- after a step at the mount: where it is refused, the level is left, on the same processor
abbrev pub then_gives_back : ℕ → ℕ → Next Want → Next WritePhase
then_gives_back m p (Go w) = Go (Wants w)
then_gives_back m p (Wait w) = Wait (Wants w)
then_gives_back m p (Done (Ok reply)) = Done (Ok reply)
then_gives_back m p (Done (Err refusal)) = Go (GivesBack m p refusal)

-- the word and the touch of the next step: those of its gate
abbrev pub next : WritePhase → WordName × Touch
next (Takes m r) = down_read_next r r.step
next (Wants w) = want_next w w.step
next (GivesBack m p refusal) = up_read_next (leaves_on p)
next (Drops m p) = (MountCount m p, Sub 1)
next (Ends p) = up_read_next (leaves_on p)

-- what comes after the step that found this value, and the action that the step adds
abbrev pub after : WritePhase → ℕ → Next WritePhase × Option Action
after (Takes m r) found = (then_wants m r.cpu (down_read_after r r.step found).0, (down_read_after r r.step found).1)
after (Wants w) found = (then_gives_back w.mount w.cpu (want_after w w.step found).0, (want_after w w.step found).1)
after (GivesBack m p refusal) found = (Done (Err refusal), Some (Return (Level 1)))
after (Drops m p) found = (Go (Ends p), Some (Return (Mount m)))
after (Ends p) found = (Done (Ok UnitReply), Some (Return (Level 1)))
