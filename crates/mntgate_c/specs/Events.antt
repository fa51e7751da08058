-- What the numbers of a record tell C of a step.
use Rattle.std.specs.Prelude.{None, Option, Some, if◌then◌else◌, ℕ, ◌+◌, ◌==◌, ◌^◌}
use Rattle.access_model.specs.declared.actions.Action.{Action, TheVariants.{Clean, Close, Create, Dirty, Grant, Grow, Hold, Leave, MountRo, MountRw}}
use Rattle.access_model.specs.declared.actions.Action.TheVariants.{MoveTo, Open, Pass, Remove, Reopen, Return, SbRo, SbRw, Stage as StageAction}
use Rattle.access_model.specs.declared.actions.{Gate.TheVariants.{Level, Mount}, Holder.TheVariants.{Kernel, User}, Kind.TheVariants.{Dir, File}}
use Rattle.cpu_words.specs.declared.events.{Event.Event, Touch.{TheVariants.{Add, And, Cas, Load, Or, Store, Sub, Swap}, Touch}}
use Rattle.cpu_words.specs.declared.names.WordName.TheVariants.{Block, Holders, Kids, LevelCount, MountCount, MountFlags, Node, Remount, Removed}
use Rattle.cpu_words.specs.declared.names.WordName.{TheVariants.{SbFlags, Section, Stage, Sync, Umount, Used}, WordName}
use Rattle.gate_transitions.specs.declared.steps.Step.{Step}
use Rattle.mntgate_c.specs.{Codes.progress_at, declared.events.{ActionRecord.ActionRecord, EventRecord.EventRecord, StepRecord.StepRecord}}
use Rattle.mntgate_c.specs.declared.events.WordRecord.{WordRecord}

-- The word of a kind, and of what. Any other kind is read as a node's word that no file system has: no step touches it.
abbrev pub word_named : ℕ → ℕ → ℕ → WordName
word_named kind n p =
    if kind == 0 then Umount else if kind == 1 then Stage else if kind == 2 then Holders else if kind == 3 then SbFlags
    else if kind == 4 then Remount else if kind == 5 then Removed else if kind == 6 then MountFlags n else if kind == 7 then MountCount n p
    else if kind == 8 then Block n else if kind == 9 then Sync n else if kind == 10 then LevelCount n p else if kind == 11 then Section n
    else if kind == 12 then Used else if kind == 13 then Node n else if kind == 14 then Kids n else Kids (256 + kind)

abbrev pub word_at : WordRecord → WordName
word_at r = word_named r.kind r.first r.second

-- What a touch of a kind does, with this operand. Any other kind is read as an exchange for what no word holds.
abbrev pub touch_at : ℕ → ℕ → ℕ → Touch
touch_at kind operand expect =
    if kind == 0 then Load else if kind == 1 then Store operand else if kind == 2 then Add operand else if kind == 3 then Sub operand
    else if kind == 4 then Or operand else if kind == 5 then And operand else if kind == 6 then Swap operand
    else if kind == 7 then Cas expect operand else Cas (2 ^ 64 + kind) operand

abbrev pub event_at : EventRecord → Option Event
event_at r =
    if r.there then Some (record { word = word_at r.word; touch = touch_at r.touch r.operand r.expect; found = r.found; left = r.left })
    else None

-- The action of a kind, and of what. Any other kind is read as the close of a node that no file system has.
abbrev pub action_named : ℕ → ℕ → ℕ → ℕ → Option Action
action_named kind n dir blocks =
    if kind == 0 then None else if kind == 1 then Some (Grant (Mount n)) else if kind == 2 then Some (Grant (Level n))
    else if kind == 3 then Some (Return (Mount n)) else if kind == 4 then Some (Return (Level n)) else if kind == 5 then Some (MountRo n)
    else if kind == 6 then Some (MountRw n) else if kind == 7 then Some SbRo else if kind == 8 then Some SbRw
    else if kind == 9 then Some (StageAction n) else if kind == 10 then Some (Hold Kernel) else if kind == 11 then Some (Hold User)
    else if kind == 12 then Some (Leave Kernel) else if kind == 13 then Some (Leave User) else if kind == 14 then Some (Pass n)
    else if kind == 15 then Some (Reopen n) else if kind == 16 then Some (Create n dir File) else if kind == 17 then Some (Create n dir Dir)
    else if kind == 18 then Some (Remove n) else if kind == 19 then Some (Grow n blocks) else if kind == 20 then Some (MoveTo n dir)
    else if kind == 21 then Some (Dirty n) else if kind == 22 then Some (Clean n) else if kind == 23 then Some (Open n)
    else if kind == 24 then Some (Close n) else Some (Close (256 + kind))

abbrev pub action_at : ActionRecord → Option Action
action_at r = action_named r.kind r.number r.dir r.blocks

abbrev pub step_at : StepRecord → Step
step_at r = record { event = event_at r.event; action = action_at r.action; progress = progress_at r.outcome }
