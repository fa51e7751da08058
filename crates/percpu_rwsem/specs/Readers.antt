-- The order of steps of a down-read and an up-read: which word a step touches and how, and what comes after it.
use Rattle.std.specs.Prelude.{Bool, Err, None, Ok, Option, Some, false, if◌then◌else◌, true, ℕ, ◌==◌}
use Rattle.access_model.specs.declared.actions.{Action.{Action, TheVariants.{Grant, Return}}, Gate.TheVariants.Level}
use Rattle.access_model.specs.declared.{errors.GateError.TheVariants.Again, replies.Next.{Next, TheVariants.{Done, Go, Wait}}}
use Rattle.access_model.specs.declared.replies.Reply.TheVariants.{Unit as UnitReply}
use Rattle.cpu_words.specs.declared.events.Touch.{TheVariants.{Add, Load, Sub}, Touch}
use Rattle.cpu_words.specs.declared.names.WordName.{TheVariants.{Block, LevelCount, Section, Sync}, WordName}
use Rattle.percpu_rwsem.specs.{SyncWords.unpack, declared.readers.{DownRead.DownRead, DownReadStep.DownReadStep}}
use Rattle.percpu_rwsem.specs.declared.readers.DownReadStep.TheVariants.{CountsDown, CountsUpFast, CountsUpSlow, EntersSection, LeavesAdmitted}
use Rattle.percpu_rwsem.specs.declared.readers.{DownReadStep.TheVariants.{LeavesBlocked, LoadsBlock, LoadsSync}, UpRead.UpRead}
use Rattle.percpu_rwsem.specs.declared.sync_word.{GpState.{GpState, TheVariants.{Enter, Exit, Idle, Passed, Replay}}, SyncWord.SyncWord}

-- down-read: enter a section; load the sync word, again where it is none; count up at once in GP_IDLE, else count up and ask; take the
-- count back where the level is closed; leave the section
abbrev pub down_read_next : DownRead → DownReadStep → WordName × Touch
down_read_next r EntersSection = (Section r.task, Add 1)
down_read_next r LoadsSync = (Sync r.level, Load)
down_read_next r CountsUpFast = (LevelCount r.level r.cpu, Add 1)
down_read_next r CountsUpSlow = (LevelCount r.level r.cpu, Add 1)
down_read_next r LoadsBlock = (Block r.level, Load)
down_read_next r CountsDown = (LevelCount r.level r.cpu, Sub 1)
down_read_next r LeavesAdmitted = (Section r.task, Add 1)
down_read_next r LeavesBlocked = (Section r.task, Add 1)

-- the same down-read, with this step to come
abbrev pub at_down_read : DownRead → DownReadStep → DownRead
at_down_read r step = record r { step = step }

-- readers are fast in GP_IDLE alone
abbrev pub step_in : GpState → DownReadStep
step_in Idle = CountsUpFast
step_in Enter = CountsUpSlow
step_in Passed = CountsUpSlow
step_in Exit = CountsUpSlow
step_in Replay = CountsUpSlow

-- the step that a sync word leads to: only GP_IDLE leads to the fast path; where the number is no word, it is loaded again
abbrev pub step_found : Option SyncWord → DownReadStep
step_found None = LoadsSync
step_found (Some word) = step_in word.state

-- it left the section, blocked: one that waits begins again
abbrev pub left_blocked : DownRead → Bool → Next DownRead
left_blocked r true = Wait (at_down_read r EntersSection)
left_blocked r false = Done (Err Again)

-- what comes after each step of a down-read, in its own phases: it is granted by its addition in GP_IDLE, else by its load of `block`
abbrev pub down_read_after : DownRead → DownReadStep → ℕ → Next DownRead × Option Action
down_read_after r EntersSection found = (Go (at_down_read r LoadsSync), None)
down_read_after r LoadsSync found = (Go (at_down_read r (step_found (unpack found))), None)
down_read_after r CountsUpFast found = (Go (at_down_read r LeavesAdmitted), Some (Grant (Level r.level)))
down_read_after r CountsUpSlow found = (Go (at_down_read r LoadsBlock), None)
down_read_after r LoadsBlock found = (
  if found == 0 then Go (at_down_read r LeavesAdmitted) else Go (at_down_read r CountsDown),
  if found == 0 then Some (Grant (Level r.level)) else None,
)
down_read_after r CountsDown found = (Go (at_down_read r LeavesBlocked), None)
down_read_after r LeavesAdmitted found = (Done (Ok UnitReply), None)
down_read_after r LeavesBlocked found = (left_blocked r r.wait, None)

-- up-read: one subtraction, on whatever processor
abbrev pub up_read_next : UpRead → WordName × Touch
up_read_next r = (LevelCount r.level r.cpu, Sub 1)

-- which returns the access
abbrev pub up_read_after : UpRead → Next UpRead × Option Action
up_read_after r = (Done (Ok UnitReply), Some (Return (Level r.level)))
