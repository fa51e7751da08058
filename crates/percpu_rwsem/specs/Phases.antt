-- The order of steps of any operation at a level.
use Rattle.std.specs.Prelude.{Option, ℕ}
use Rattle.access_model.specs.{Replies.map_next, declared.{actions.Action.Action, replies.Next.Next}}
use Rattle.cpu_words.specs.{Hooks.HookAnswer, declared.{events.Touch.Touch, names.WordName.WordName}}
use Rattle.percpu_rwsem.specs.{Callbacks.{callback_after, callback_next}, Readers.{down_read_after, down_read_next, up_read_after, up_read_next}}
use Rattle.percpu_rwsem.specs.{Writers.{down_write_after, down_write_next, up_write_after, up_write_next}, declared.phases.SemPhase.SemPhase}
use Rattle.percpu_rwsem.specs.declared.phases.SemPhase.TheVariants.{Callback as Callbacks, DownRead as DownReads, DownWrite as DownWrites}
use Rattle.percpu_rwsem.specs.declared.phases.SemPhase.TheVariants.{UpRead as UpReads, UpWrite as UpWrites}

-- the word and the touch of the next step
abbrev pub next : SemPhase → HookAnswer → WordName × Touch
next (DownReads r) hook = down_read_next r r.step
next (UpReads r) hook = up_read_next r
next (DownWrites d) hook = down_write_next d d.step
next (UpWrites u) hook = up_write_next u u.step
next (Callbacks b) hook = callback_next b b.step

-- what comes after the step that found this value, and the action that the step adds
abbrev pub after : SemPhase → ℕ → HookAnswer → Next SemPhase × Option Action
after (DownReads r) found hook = (map_next DownReads (down_read_after r r.step found).0, (down_read_after r r.step found).1)
after (UpReads r) found hook = (map_next UpReads (up_read_after r).0, (up_read_after r).1)
after (DownWrites d) found hook = (map_next DownWrites (down_write_after d d.step found).0, (down_write_after d d.step found).1)
after (UpWrites u) found hook = (map_next UpWrites (up_write_after u u.step found).0, (up_write_after u u.step found).1)
after (Callbacks b) found hook = (map_next Callbacks (callback_after b b.step found).0, (callback_after b b.step found).1)
