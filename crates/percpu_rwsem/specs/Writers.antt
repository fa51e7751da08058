-- The order of steps of a down-write and an up-write: which word a step touches and how, and what comes after it.
use Rattle.std.specs.Prelude.{None, Ok, Option, Some, if◌then◌else◌, ℕ, ◌==◌}
use Rattle.access_model.specs.declared.{actions.Action.{Action, TheVariants.{Pass, Reopen}}, replies.Next.{Next, TheVariants.{Done, Go, Wait}}}
use Rattle.access_model.specs.declared.replies.Reply.TheVariants.{Unit as UnitReply}
use Rattle.cpu_words.specs.{Sums.sum_taking, declared.events.Touch.{TheVariants.{Load, Store, Swap}, Touch}}
use Rattle.cpu_words.specs.declared.{names.WordName.{TheVariants.{Block, LevelCount, Section, Sync}, WordName}, sums.Taken.Taken}
use Rattle.cpu_words.specs.declared.sums.Taken.TheVariants.{More as MoreWords, Total}
use Rattle.percpu_rwsem.specs.{Graces.{looked, started}, SyncWords.{is_passed, on_callback, on_enter, on_exit, unpack}}
use Rattle.percpu_rwsem.specs.{Transitions.{transition_after, transition_next}, declared.grace.GraceNext.GraceNext}
use Rattle.percpu_rwsem.specs.declared.{grace.GraceNext.TheVariants.{Ended, More as MoreSections, Wait as WaitsFor}, sync_word.GpState.GpState}
use Rattle.percpu_rwsem.specs.declared.sync_word.{GpState.TheVariants.{Enter, Exit, Idle, Passed, Replay}, SyncWord.SyncWord}
use Rattle.percpu_rwsem.specs.declared.transitions.{Transition.{TheVariants.Loads, Transition}, TransitionNext.TheVariants.{Made, More, Undefined}}
use Rattle.percpu_rwsem.specs.declared.{transitions.TransitionNext.TransitionNext, writers.{DownWrite.DownWrite, DownWriteStep.DownWriteStep}}
use Rattle.percpu_rwsem.specs.declared.writers.DownWriteStep.TheVariants.{AwaitsPassed, AwaitsSections, CallsBack, Enters, SetsBlock, Sums}
use Rattle.percpu_rwsem.specs.declared.writers.{UpWrite.UpWrite, UpWriteStep.{TheVariants.{ClearsBlock, Exits}, UpWriteStep}}

-- down-write: enter the rcu_sync, and wait until readers are slow; set `block`; sum the read counts until nobody is counted
abbrev pub down_write_next : DownWrite → DownWriteStep → WordName × Touch
down_write_next d (Enters transition) = transition_next d.level transition
down_write_next d (AwaitsSections grace) = (Section grace.task, Load)
down_write_next d (CallsBack transition) = transition_next d.level transition
down_write_next d AwaitsPassed = (Sync d.level, Load)
down_write_next d SetsBlock = (Block d.level, Swap 1)
down_write_next d (Sums sum) = (LevelCount d.level sum.words, Load)

-- the same down-write, with this step to come
abbrev pub at_down_write : DownWrite → DownWriteStep → DownWrite
at_down_write d step = record d { step = step }

-- it has entered: who found GP_IDLE waits for a grace period, who found GP_ENTER for the one who does, and others for nobody
abbrev pub entered_from : ℕ → GpState → DownWriteStep
entered_from tasks Idle = AwaitsSections (started tasks)
entered_from tasks Enter = AwaitsPassed
entered_from tasks Passed = SetsBlock
entered_from tasks Exit = SetsBlock
entered_from tasks Replay = SetsBlock

-- the program point after a step of the enter
abbrev pub enter_step : ℕ → TransitionNext → DownWriteStep
enter_step tasks (More transition) = Enters transition
enter_step tasks Undefined = Enters Loads
enter_step tasks (Made state) = entered_from tasks state

-- the program point after a step of the transition that ends the grace period
abbrev pub callback_step : TransitionNext → DownWriteStep
callback_step (More transition) = CallsBack transition
callback_step Undefined = CallsBack Loads
callback_step (Made state) = SetsBlock

-- what comes after a load of a section word
abbrev pub sections_awaited : DownWrite → GraceNext → Next DownWrite
sections_awaited d (MoreSections grace) = Go (at_down_write d (AwaitsSections grace))
sections_awaited d (WaitsFor grace) = Wait (at_down_write d (AwaitsSections grace))
sections_awaited d Ended = Go (at_down_write d (CallsBack Loads))

-- what comes after a load of the sync word, until its state is at least GP_PASSED
abbrev pub passed_awaited : DownWrite → Option SyncWord → Next DownWrite
passed_awaited d None = Go (at_down_write d AwaitsPassed)
passed_awaited d (Some word) = if is_passed word.state then Go (at_down_write d SetsBlock) else Wait (at_down_write d AwaitsPassed)

-- a sum that has just begun
abbrev pub sum_begun : DownWriteStep
sum_begun = Sums record { words = 0; total = 0 }

-- what comes after one word more of the sum: the level is passed by the last load of a sum of 0, and else a new sum begins
abbrev pub down_write_summed : DownWrite → Taken → Next DownWrite × Option Action
down_write_summed d (MoreWords sum) = (Go (at_down_write d (Sums sum)), None)
down_write_summed d (Total total) = (
  if total == 0 then Done (Ok UnitReply) else Wait (at_down_write d sum_begun),
  if total == 0 then Some (Pass d.level) else None,
)

-- what comes after each step of a down-write, in its own phases
abbrev pub down_write_after : DownWrite → DownWriteStep → ℕ → Next DownWrite × Option Action
down_write_after d (Enters transition) found =
    (Go (at_down_write d (enter_step d.tasks (transition_after on_enter transition found))), None)
down_write_after d (AwaitsSections grace) found = (sections_awaited d (looked grace found), None)
down_write_after d (CallsBack transition) found =
    (Go (at_down_write d (callback_step (transition_after on_callback transition found))), None)
down_write_after d AwaitsPassed found = (passed_awaited d (unpack found), None)
down_write_after d SetsBlock found = (if found == 0 then Go (at_down_write d sum_begun) else Wait (at_down_write d SetsBlock), None)
down_write_after d (Sums sum) found = down_write_summed d (sum_taking sum found d.processors)

-- up-write: clear `block`, and leave the rcu_sync
abbrev pub up_write_next : UpWrite → UpWriteStep → WordName × Touch
up_write_next u ClearsBlock = (Block u.level, Store 0)
up_write_next u (Exits transition) = transition_next u.level transition

-- the same up-write, with this step of its transition to come
abbrev pub at_up_write : UpWrite → Transition → UpWrite
at_up_write u transition = record u { step = Exits transition }

-- what comes after a step of its transition
abbrev pub exit_made : UpWrite → TransitionNext → Next UpWrite
exit_made u (More transition) = Go (at_up_write u transition)
exit_made u Undefined = Go (at_up_write u Loads)
exit_made u (Made state) = Done (Ok UnitReply)

-- what comes after each step of an up-write, in its own phases: the level is reopened by the store
abbrev pub up_write_after : UpWrite → UpWriteStep → ℕ → Next UpWrite × Option Action
up_write_after u ClearsBlock found = (Go (at_up_write u Loads), Some (Reopen u.level))
up_write_after u (Exits transition) found = (exit_made u (transition_after on_exit transition found), None)
