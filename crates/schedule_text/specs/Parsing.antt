-- What a line asks for, and the first fault of a line.
use Rattle.std.specs.Prelude.{ℕ, Bool, true, false, not, ◌==◌, nat_lt, if◌then◌else◌, List, [], ◌∷◌, codes, bytes_eq, Option, Some, None, Result, Ok, Err, ok_or}
use Rattle.freeze_levels.specs.declared.hooks.HookKind.{HookKind}
use Rattle.gate_world.specs.declared.config.Config.{Config}
use Rattle.gate_world.specs.declared.operations.Op.{Op}
use Rattle.gate_world.specs.declared.operations.Op.TheVariants.{Want as WantOp, DropMount, Start as StartOp, End as EndOp, WantWrite as WantWriteOp, DropWrite as DropWriteOp, ChangeMount, RemountSb, Callback as CallbackOp, Freeze as FreezeOp, Thaw as ThawOp, Create as CreateOp, Remove as RemoveOp, Grow as GrowOp, MoveTo as MoveToOp, Fault as FaultOp, Flush as FlushOp, Open as OpenOp, Close as CloseOp, Snapshot as SnapshotOp}
use Rattle.access_model.specs.declared.actions.{Holder.{Holder, TheVariants.{User}}, Kind.{Kind}}
use Rattle.schedule_text.specs.declared.commands.Line.{Line, TheVariants.{Skipped, Config as ConfigLine, Request as RequestLine}}
use Rattle.schedule_text.specs.declared.commands.{Request.{Request, TheVariants.{Words, Tree, Model, Task}}, TaskCommand.{TaskCommand}}
use Rattle.schedule_text.specs.declared.commands.TaskCommand.TheVariants.{Begin, Step as StepCommand, Run as RunCommand}
use Rattle.schedule_text.specs.declared.verbs.Verb.{Verb}
use Rattle.schedule_text.specs.declared.verbs.Verb.TheVariants.{Want, TryWant, Drop, Start, TryStart, End, WantWrite, DropWrite, Change, TryChange, Remount, Callback, Freeze, Thaw, Create, Remove, Grow, Move, Fault as FaultVerb, Flush, Open, Close, TryClose, Snapshot, TrySnapshot, Step, Run}
use Rattle.schedule_text.specs.{Commands.{hook_named, kind_named, holder_named}, Verbs.{takes, verb_of}}
use Rattle.schedule_lines.specs.declared.faults.Fault.{Fault}
use Rattle.schedule_lines.specs.declared.faults.Fault.TheVariants.{ConfigExpected, ConfigTwice, UnknownCommand, WrongNumberOfWords, NoSuchTask, BadNumber, BadWord}
use Rattle.schedule_lines.specs.{Numbers.{is_digits, number_of, byte_of, code_of}, Words.{first_word, after_word, word_count}}

-- one after the other, up to the first fault
infixl 10 ◌>>=◌
abbrev pub ◌>>=◌ : {A B : Type 0} → Result A Fault → (A → Result B Fault) → Result B Fault
(Ok x) >>= f = f x
(Err fault) >>= f = Err fault

-- goes on only where the test holds
abbrev pub expect : Bool → Fault → Result (Unit {0}) Fault
expect true fault = Ok tt
expect false fault = Err fault

-- an empty line, or a comment
abbrev pub is_skipped : List ℕ → Bool
is_skipped [] = true
is_skipped (first ∷ others) = first == 35

-- the number that comes first
unfoldable pub number_at : List ℕ → Result ℕ Fault
number_at text = ok_or (number_of (first_word text)) BadNumber

-- the same, as it is handed to a call that takes a byte
unfoldable pub byte_at : List ℕ → Result ℕ Fault
byte_at text = do
  number ← number_at text
  Ok (byte_of number)

-- the code of a hook that comes first
unfoldable pub code_at : List ℕ → Result ℕ Fault
code_at text = ok_or (code_of (first_word text)) BadNumber

-- the hook that comes first
unfoldable pub hook_at : List ℕ → Result HookKind Fault
hook_at text = ok_or (hook_named (first_word text)) BadWord

-- whether a word asks for read-only or for writable
unfoldable pub read_only_of : List ℕ → Option Bool
read_only_of word =
    if bytes_eq word (codes "ro") then Some true else
    if bytes_eq word (codes "rw") then Some false else None

-- `ro` or `rw`, which comes first
unfoldable pub read_only_at : List ℕ → Result Bool Fault
read_only_at text = ok_or (read_only_of (first_word text)) BadWord

-- the task of a number, where there are so many: a number above 255 names none
abbrev pub task_from : Option ℕ → ℕ → Option ℕ
task_from None tasks = None
task_from (Some number) tasks = if nat_lt (byte_of number) tasks then Some (byte_of number) else None

-- the task that a word of digits names
unfoldable pub task_of : List ℕ → ℕ → Option ℕ
task_of word tasks = task_from (number_of word) tasks

-- the kind of node that comes first
unfoldable pub kind_at : List ℕ → Result Kind Fault
kind_at text = ok_or (kind_named (first_word text)) BadWord

-- the holder that comes first
unfoldable pub holder_at : List ℕ → Result Holder Fault
holder_at text = ok_or (holder_named (first_word text)) BadWord

-- the same on a line of so many words, which may leave it out: then it is user space
unfoldable pub holder_given : List ℕ → ℕ → Result Holder Fault
holder_given rest words = if words == 2 then Ok User else holder_at rest

-- the beginning of the operation that one argument makes
abbrev pub with_one : {A : Type 0} → Result A Fault → (A → Op) → Result TaskCommand Fault
with_one argument op = do
  x ← argument
  Ok (Begin (op x))

-- the first two numbers
unfoldable pub two_at : List ℕ → Result (ℕ × ℕ) Fault
two_at rest = do
  first ← byte_at rest
  second ← byte_at (after_word rest)
  Ok (first, second)

-- the beginning of the operation that they make
abbrev pub with_two : List ℕ → (ℕ → ℕ → Op) → Result TaskCommand Fault
with_two rest op = with_one (two_at rest) (λ two. op two.0 two.1)

-- the arguments of `change` and `trychange`: a mount, and `ro` or `rw`
unfoldable pub change_of : List ℕ → Bool → Result TaskCommand Fault
change_of rest wait = do
  mount ← byte_at rest
  read_only ← read_only_at (after_word rest)
  Ok (Begin (ChangeMount mount read_only wait))

-- the arguments of `create`: a directory, and `file` or `dir`
unfoldable pub create_of : List ℕ → Result TaskCommand Fault
create_of rest = do
  dir ← byte_at rest
  kind ← kind_at (after_word rest)
  Ok (Begin (CreateOp dir kind))

-- the arguments of `grow`: a file, and how many blocks
unfoldable pub grow_of : List ℕ → Result TaskCommand Fault
grow_of rest = do
  file ← byte_at rest
  blocks ← number_at (after_word rest)
  Ok (Begin (GrowOp file blocks))

-- the argument of `step`, where there is one: the code by which a hook fails
unfoldable pub step_of : List ℕ → Result TaskCommand Fault
step_of rest = do
  code ← code_at rest
  Ok (StepCommand (Err code))

-- the arguments of `run`, where there are some: the hook that fails, and its code
unfoldable pub run_of : List ℕ → Result TaskCommand Fault
run_of rest = do
  hook ← hook_at rest
  code ← code_at (after_word rest)
  Ok (RunCommand (Some record { hook = hook; code = code }))

-- the command of a verb on a line of so many words, from its arguments
unfoldable pub arguments_of : Verb → List ℕ → ℕ → Result TaskCommand Fault
arguments_of Want rest words = with_two rest (λ mount cpu. WantOp mount cpu true)
arguments_of TryWant rest words = with_two rest (λ mount cpu. WantOp mount cpu false)
arguments_of WantWrite rest words = with_two rest (λ mount cpu. WantWriteOp mount cpu)
arguments_of Drop rest words = with_two rest (λ mount cpu. DropMount mount cpu)
arguments_of DropWrite rest words = with_two rest (λ mount cpu. DropWriteOp mount cpu)
arguments_of Start rest words = with_two rest (λ level cpu. StartOp level cpu true)
arguments_of TryStart rest words = with_two rest (λ level cpu. StartOp level cpu false)
arguments_of End rest words = with_two rest (λ level cpu. EndOp level cpu)
arguments_of Callback rest words = with_one (byte_at rest) (λ level. CallbackOp level)
arguments_of Change rest words = change_of rest true
arguments_of TryChange rest words = change_of rest false
arguments_of Remount rest words = with_one (read_only_at rest) (λ read_only. RemountSb read_only)
arguments_of Freeze rest words = with_one (holder_given rest words) (λ holder. FreezeOp holder)
arguments_of Thaw rest words = with_one (holder_given rest words) (λ holder. ThawOp holder)
arguments_of Create rest words = create_of rest
arguments_of Remove rest words = with_one (byte_at rest) (λ file. RemoveOp file)
arguments_of Grow rest words = grow_of rest
arguments_of Move rest words = with_two rest (λ file dir. MoveToOp file dir)
arguments_of FaultVerb rest words = with_one (byte_at rest) (λ file. FaultOp file)
arguments_of Flush rest words = with_one (byte_at rest) (λ file. FlushOp file)
arguments_of Open rest words = with_one (byte_at rest) (λ file. OpenOp file)
arguments_of Close rest words = with_two rest (λ file cpu. CloseOp file cpu true)
arguments_of TryClose rest words = with_two rest (λ file cpu. CloseOp file cpu false)
arguments_of Snapshot rest words = Ok (Begin (SnapshotOp true))
arguments_of TrySnapshot rest words = Ok (Begin (SnapshotOp false))
arguments_of Step rest words = if words == 2 then Ok (StepCommand (Ok tt)) else step_of rest
arguments_of Run rest words = if words == 2 then Ok (RunCommand None) else run_of rest

-- a line on a task
unfoldable pub task_line : List ℕ → ℕ → Result Line Fault
task_line line tasks = do
  verb ← ok_or (verb_of (first_word (after_word line))) UnknownCommand
  allowed ← expect (takes verb (word_count line)) WrongNumberOfWords
  task ← ok_or (task_of (first_word line) tasks) NoSuchTask
  command ← arguments_of verb (after_word (after_word line)) (word_count line)
  Ok (RequestLine (Task task command))

-- a request that stands alone on its line
abbrev pub alone : ℕ → Request → Result Line Fault
alone words request = if words == 1 then Ok (RequestLine request) else Err WrongNumberOfWords

-- a line after the configuration, where there are so many tasks
unfoldable pub command_line : List ℕ → ℕ → Result Line Fault
command_line line tasks =
    if bytes_eq (first_word line) (codes "config") then Err ConfigTwice else
    if bytes_eq (first_word line) (codes "words") then alone (word_count line) Words else
    if bytes_eq (first_word line) (codes "tree") then alone (word_count line) Tree else
    if bytes_eq (first_word line) (codes "model") then alone (word_count line) Model else
    if not (is_digits (first_word line)) then Err UnknownCommand else
    if word_count line == 1 then Err WrongNumberOfWords else task_line line tasks

-- the five numbers of a configuration
unfoldable pub config_of : List ℕ → Result Config Fault
config_of rest = do
  tasks ← byte_at rest
  processors ← byte_at (after_word rest)
  mounts ← byte_at (after_word (after_word rest))
  nodes ← byte_at (after_word (after_word (after_word rest)))
  capacity ← number_at (after_word (after_word (after_word (after_word rest))))
  Ok record { tasks = tasks; processors = processors; mounts = mounts; nodes = nodes; capacity = capacity }

-- the first line that isn't skipped
unfoldable pub config_line : List ℕ → Result Line Fault
config_line line = do
  named ← expect (bytes_eq (first_word line) (codes "config")) ConfigExpected
  whole ← expect (word_count line == 6) WrongNumberOfWords
  config ← config_of (after_word line)
  Ok (ConfigLine config)

-- a line that isn't skipped, before and after the configuration
abbrev pub line_for : Option ℕ → List ℕ → Result Line Fault
line_for None line = config_line line
line_for (Some tasks) line = command_line line tasks

-- what a line asks for, where there are so many tasks, or where no configuration was given yet; or the line's first fault
unfoldable pub parsed : List ℕ → Option ℕ → Result Line Fault
parsed line tasks = if is_skipped line then Ok Skipped else line_for tasks line
