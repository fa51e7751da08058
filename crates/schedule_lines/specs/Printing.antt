-- How words, steps, actions and replies are printed.
use Rattle.std.specs.Prelude.{ℕ, Bool, true, false, List, [], ◌++◌, codes, decimal, Option, Some, None, Result, Ok, Err}
use Rattle.access_model.specs.{Errors.{number_of, name_of}, declared.actions.Action.{Action}}
use Rattle.access_model.specs.declared.actions.Action.TheVariants.{Grant, Return, MountRo, MountRw, SbRo, SbRw, Stage, Hold, Leave, Pass, Reopen, Create, Remove, Grow, MoveTo, Dirty, Clean, Open, Close}
use Rattle.access_model.specs.declared.actions.{Holder.{Holder, TheVariants.{Kernel, User}}, Gate.{Gate, TheVariants.{Mount, Level}}}
use Rattle.access_model.specs.declared.{actions.{Kind.{Kind, TheVariants.{File, Dir}}, NodeInfo.{NodeInfo}}, errors.GateError.{GateError}}
use Rattle.access_model.specs.declared.errors.GateError.TheVariants.{NoEntry, Again, NoMemory, Busy, NotDir, IsDir, Invalid, TooMany, NoSpace, ReadOnly, Order, Hook}
use Rattle.access_model.specs.declared.replies.Reply.{Reply, TheVariants.{Unit as Plain, Node as NewNode, Ran, Tree}}
use Rattle.cpu_words.specs.declared.events.{Event.{Event}, Touch.{Touch, TheVariants.{Load, Store, Add, Sub, Or, And, Swap, Cas}}}
use Rattle.cpu_words.specs.declared.names.WordName.{WordName}
use Rattle.cpu_words.specs.declared.names.WordName.TheVariants.{Umount, Stage as StageWord, Holders as HoldersWord, SbFlags, Remount, Removed, MountFlags, MountCount, Block, Sync, LevelCount, Section, Used, Node, Kids}

-- a text and a number right after it
abbrev pub numbered : List ℕ → ℕ → List ℕ
numbered text number = text ++ decimal number

-- the name of a gate's count on a processor
abbrev pub count_name : List ℕ → ℕ → ℕ → List ℕ
count_name gate number cpu = numbered gate number ++ numbered (codes ".cpu") cpu

-- the name of a word
unfoldable pub word_text : WordName → List ℕ
word_text Umount = codes "umount"
word_text StageWord = codes "stage"
word_text HoldersWord = codes "holders"
word_text SbFlags = codes "sb"
word_text Remount = codes "remount"
word_text Removed = codes "removed"
word_text (MountFlags mount) = numbered (codes "mount") mount ++ codes ".flags"
word_text (MountCount mount cpu) = count_name (codes "mount") mount cpu
word_text (Block level) = numbered (codes "block") level
word_text (Sync level) = numbered (codes "sync") level
word_text (LevelCount level cpu) = count_name (codes "level") level cpu
word_text (Section task) = numbered (codes "section") task
word_text Used = codes "used"
word_text (Node node) = numbered (codes "node") node
word_text (Kids node) = numbered (codes "kids") node

-- a word with its value, on a line of its own
unfoldable pub word_line : WordName → ℕ → List ℕ
word_line name value = word_text name ++ numbered (codes " ") value ++ codes "\n"

-- the kind of a step, between its task and its word
abbrev pub kind_text : Touch → List ℕ
kind_text Load = codes " load "
kind_text (Store value) = codes " store "
kind_text (Add by) = codes " add "
kind_text (Sub by) = codes " sub "
kind_text (Or bits) = codes " or "
kind_text (And bits) = codes " and "
kind_text (Swap value) = codes " swap "
kind_text (Cas expect put) = codes " cas "

-- the values that are printed of a step: a store's one, and what every other step found and left
abbrev pub values_text : Touch → ℕ → ℕ → List ℕ
values_text (Store value) found left = numbered (codes " ") value
values_text _ found left = numbered (codes " ") found ++ numbered (codes " ") left

-- a step of a task: its task, its kind, its word and its values
unfoldable pub event_text : ℕ → Event → List ℕ
event_text task event =
    decimal task ++ kind_text event.touch ++ word_text event.word ++ values_text event.touch event.found event.left

-- a gate of the model
abbrev pub gate_text : Gate → List ℕ
gate_text (Mount mount) = numbered (codes "mount ") mount
gate_text (Level level) = numbered (codes "level ") level

-- what a node is, with a space before it
abbrev pub kind_name : Kind → List ℕ
kind_name File = codes " file"
kind_name Dir = codes " dir"

-- a name, a node and a number
abbrev pub pair_text : List ℕ → ℕ → ℕ → List ℕ
pair_text name node second = numbered name node ++ numbered (codes " ") second

-- who holds a freeze, with a space before it
abbrev pub holder_name : Holder → List ℕ
holder_name Kernel = codes " kernel"
holder_name User = codes " user"

-- what is done to a freeze, and for whom
abbrev pub held_text : List ℕ → Holder → List ℕ
held_text done holder = done ++ holder_name holder

-- one who holds a freeze, on a line of its own
unfoldable pub holder_line : Holder → List ℕ
holder_line holder = held_text (codes "holder") holder ++ codes "\n"

-- an action of the model
unfoldable pub action_text : Action → List ℕ
action_text (Grant gate) = codes "grant " ++ gate_text gate
action_text (Return gate) = codes "return " ++ gate_text gate
action_text (MountRo mount) = numbered (codes "mount ") mount ++ codes " ro"
action_text (MountRw mount) = numbered (codes "mount ") mount ++ codes " rw"
action_text SbRo = codes "sb ro"
action_text SbRw = codes "sb rw"
action_text (Stage stage) = numbered (codes "stage ") stage
action_text (Hold holder) = held_text (codes "hold") holder
action_text (Leave holder) = held_text (codes "leave") holder
action_text (Pass level) = numbered (codes "pass ") level
action_text (Reopen level) = numbered (codes "reopen ") level
action_text (Create node dir kind) = pair_text (codes "create ") node dir ++ kind_name kind
action_text (Remove node) = numbered (codes "remove ") node
action_text (Grow node blocks) = pair_text (codes "grow ") node blocks
action_text (MoveTo node dir) = pair_text (codes "move ") node dir
action_text (Dirty node) = numbered (codes "dirty ") node
action_text (Clean node) = numbered (codes "clean ") node
action_text (Open node) = numbered (codes "open ") node
action_text (Close node) = numbered (codes "close ") node

-- the action that a step added, after a space
abbrev pub added_text : Option Action → List ℕ
added_text None = []
added_text (Some action) = codes " " ++ action_text action

-- how the line of a step ends
abbrev pub ending : Bool → List ℕ
ending true = codes " waiting\n"
ending false = codes "\n"

-- a step of a task, with the action that it added, on a line of its own
unfoldable pub event_line : ℕ → Event → Option Action → Bool → List ℕ
event_line task event action waiting = event_text task event ++ added_text action ++ ending waiting

-- the reply of an operation; `used` is the blocks charged then
abbrev pub reply_text : Reply → ℕ → List ℕ
reply_text Plain used = codes " ok"
reply_text (NewNode node) used = numbered (codes " ok node ") node
reply_text (Ran true) used = codes " ok ran"
reply_text (Ran false) used = codes " ok none"
reply_text Tree used = numbered (codes " ok used ") used

-- a refusal by a number and a name
abbrev pub errno_text : GateError → List ℕ
errno_text refusal = numbered (codes " refused ") (number_of refusal) ++ codes " " ++ name_of refusal

-- a refusal: its number and its name, or the code of a hook
unfoldable pub refusal_text : GateError → List ℕ
refusal_text (Hook code) = numbered (codes " refused hook ") code
refusal_text NoEntry = errno_text NoEntry
refusal_text Again = errno_text Again
refusal_text NoMemory = errno_text NoMemory
refusal_text Busy = errno_text Busy
refusal_text NotDir = errno_text NotDir
refusal_text IsDir = errno_text IsDir
refusal_text Invalid = errno_text Invalid
refusal_text TooMany = errno_text TooMany
refusal_text NoSpace = errno_text NoSpace
refusal_text ReadOnly = errno_text ReadOnly
refusal_text Order = errno_text Order

-- a reply or a refusal
abbrev pub answer_text : Result Reply GateError → ℕ → List ℕ
answer_text (Ok reply) used = reply_text reply used
answer_text (Err refusal) used = refusal_text refusal

-- how an operation of a task ended, on a line of its own
unfoldable pub answer_line : ℕ → Result Reply GateError → ℕ → List ℕ
answer_line task answer used = decimal task ++ answer_text answer used ++ codes "\n"

-- that a beginning was refused
unfoldable pub refused_line : ℕ → GateError → List ℕ
refused_line task refusal = decimal task ++ refusal_text refusal ++ codes "\n"

-- that a task has no operation under way
unfoldable pub idle_line : ℕ → List ℕ
idle_line task = decimal task ++ codes " idle\n"

-- that a task has to look or try again
unfoldable pub waiting_line : ℕ → List ℕ
waiting_line task = decimal task ++ codes " waiting\n"

-- whether the superblock is read-only
abbrev pub superblock_text : Bool → List ℕ
superblock_text true = codes " sb ro\n"
superblock_text false = codes " sb rw\n"

-- the first line of a model
unfoldable pub model_line : ℕ → ℕ → Bool → List ℕ
model_line stage passed sb_ro = numbered (codes "model stage ") stage ++ numbered (codes " passed ") passed ++ superblock_text sb_ro

-- that a mount is read-only by its own flag
unfoldable pub read_only_mount_line : ℕ → List ℕ
read_only_mount_line mount = numbered (codes "mount ") mount ++ codes " ro\n"

-- how many accesses a task holds at a mount
unfoldable pub held_mount_line : ℕ → ℕ → ℕ → List ℕ
held_mount_line task mount count =
    numbered (codes "task ") task ++ numbered (codes " mount ") mount ++ numbered (codes " ") count ++ codes "\n"

-- that a task is inside a level
unfoldable pub held_level_line : ℕ → ℕ → List ℕ
held_level_line task level = numbered (codes "task ") task ++ numbered (codes " level ") level ++ codes "\n"

-- that a task has a file open
unfoldable pub open_file_line : ℕ → ℕ → List ℕ
open_file_line task file = numbered (codes "task ") task ++ numbered (codes " open ") file ++ codes "\n"

-- whether a node is dirty
abbrev pub mark_text : Bool → List ℕ
mark_text true = codes " dirty"
mark_text false = codes " clean"

-- whether a file is removed, at the end of its line
abbrev pub removed_text : Bool → List ℕ
removed_text true = codes " removed\n"
removed_text false = codes "\n"

-- a node of the tree
unfoldable pub node_line : ℕ → NodeInfo → List ℕ
node_line node info =
    numbered (codes "node ") node ++ kind_name info.kind ++ numbered (codes " ") info.parent ++ numbered (codes " ") info.size ++
    mark_text info.dirty ++ removed_text info.removed
