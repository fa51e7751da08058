-- What was recorded, line by line behind `history`.
use Rattle.std.specs.Prelude.{ℕ, zero, suc, ◌+◌, nat_eq, nat_lt, Bool, true, false, if◌then◌else◌, is_some, List, [], ◌∷◌, ◌++◌, codes, bytes_eq, length, replicate, Option, Some, None, Result, Ok, Err, slice_get, slice_set, slice_index_or}
use Rattle.std.specs.List.{position}
use Rattle.histories.specs.declared.markers.{Marker.{Marker, TheVariants.{Begins, Returns}}, Recorded.{Recorded}}
use Rattle.race_files.specs.Left.{Left, calls_left, lines_in}
use Rattle.race_files.specs.declared.faults.RaceFault.{RaceFault, TheVariants.{Schedule, CallExpected, HookTwice, UnderWay}}
use Rattle.races.specs.declared.calls.Call.{Call}
use Rattle.schedule_lines.specs.{Numbers.{code_of, is_digits, number_of}, Words.{first_word, after_word, word_count}, declared.faults.Fault.{Fault, TheVariants.{BadNumber, BadWord, NoSuchTask, UnknownCommand, WrongNumberOfWords}}}
use Rattle.schedule_text.specs.{Commands.{hook_named}, Parsing.{parsed}, declared.commands.{HookFailure.{HookFailure}, Line.{Line, TheVariants.{Skipped}}}}
use Rattle.freeze_levels.specs.declared.hooks.HookKind.{HookKind}
use Rattle.history_files.specs.{Answers.{begins_answer, recorded_of}, Operations.{operation_lines}, declared.faults.HistoryFault.{HistoryFault, TheVariants.{Race, NothingUnderWay, BadAnswer}}}

-- what is read so far: the markers, and the number of the line of each; and of each task the place of the marker by which its call began that is
-- under way
pub record Reading : Type 0 where
  pub markers : List Marker
  pub lines : List ℕ
  pub begun : List (Option ℕ)

abbrev pub nothing_read : ℕ → Reading
nothing_read tasks = record { markers = []; lines = []; begun = replicate tasks None }

-- the task of a line, among so many
abbrev pub task_numbered : ℕ → Option ℕ → Result ℕ Fault
task_numbered tasks None = Err NoSuchTask
task_numbered tasks (Some task) = if nat_lt task tasks then Ok task else Err NoSuchTask

unfoldable pub task_of : ℕ → List ℕ → Result ℕ Fault
task_of tasks line = if is_digits (first_word line) then task_numbered tasks (number_of (first_word line)) else Err UnknownCommand

-- the operations that a line begins: what the task calls in a race behind whose line `race` their lines stand; some operation is there
abbrev pub row_some : List (Option Call) → Result (List (Option Call)) HistoryFault
row_some row = if is_some (slice_index_or row 0 None) then Ok row else Err (Race CallExpected)

abbrev pub row_among : ℕ → Result (List (List (Option Call))) RaceFault → Result (List (Option Call)) HistoryFault
row_among task (Err fault) = Err (Race fault)
row_among task (Ok calls) = row_some (slice_index_or calls task [])

unfoldable pub row_of : ℕ → ℕ → List ℕ → Result (List (Option Call)) HistoryFault
row_of tasks task line = row_among task (calls_left tasks (lines_in 1048576 (operation_lines line)))

-- the place of the marker by which a task's call began
abbrev pub begun_at : Reading → ℕ → Option ℕ
begun_at reading task = slice_index_or reading.begun task None

-- with a marker more, which stands at the line of this number
abbrev pub with_marker : Reading → ℕ → ℕ → Marker → Option ℕ → Reading
with_marker reading number task marker at = record {
  markers = reading.markers ++ marker ∷ [];
  lines = reading.lines ++ number ∷ [];
  begun = slice_set reading.begun task at;
}

-- a line by which a task begins a call
abbrev pub with_begin : Reading → ℕ → ℕ → Result (List (Option Call)) HistoryFault → Result Reading HistoryFault
with_begin reading number task (Err fault) = Err fault
with_begin reading number task (Ok row) =
    if is_some (begun_at reading task) then Err (Race UnderWay) else
    Ok (with_marker reading number task (Begins task row) (Some (length reading.markers)))

-- a line by which it returns
abbrev pub with_return : Reading → ℕ → ℕ → Option Recorded → Result Reading HistoryFault
with_return reading number task None = Err BadAnswer
with_return reading number task (Some recorded) =
    if is_some (begun_at reading task) then Ok (with_marker reading number task (Returns task recorded) None) else Err NothingUnderWay

-- the failure that is told by the words behind `hook`
abbrev pub failure_by : Option HookKind → Option ℕ → Result HookFailure Fault
failure_by None code = Err BadWord
failure_by (Some hook) None = Err BadNumber
failure_by (Some hook) (Some code) = Ok (record { hook = hook; code = code })

unfoldable pub failure_of : List ℕ → Result HookFailure Fault
failure_of words =
    if nat_eq (word_count words) 2 then failure_by (hook_named (first_word words)) (code_of (after_word words)) else Err WrongNumberOfWords

-- a hook fails in each of 8 operations, in which none did
abbrev pub fails : Option Call → Bool
fails None = false
fails (Some call) = is_some call.failure

abbrev pub with_failure : HookFailure → Option Call → Option Call
with_failure failure None = None
with_failure failure (Some call) = Some (record { op = call.op; failure = Some failure; when = call.when; retries = call.retries; after = call.after })

-- so many operations from a place on
unfoldable pub failing_from : ℕ → ℕ → HookFailure → List (Option Call) → List (Option Call)
failing_from zero turn failure row = row
failing_from (suc more) turn failure row =
    failing_from more (turn + 1) failure (slice_set row turn (with_failure failure (slice_index_or row turn None)))

abbrev pub failing : List (Option Call) → HookFailure → Result (List (Option Call)) HistoryFault
failing row failure = if is_some (position fails row) then Err (Race HookTwice) else Ok (failing_from 8 0 failure row)

-- a line by which a hook fails
abbrev pub with_row : Reading → ℕ → ℕ → Result (List (Option Call)) HistoryFault → Result Reading HistoryFault
with_row reading at task (Err fault) = Err fault
with_row reading at task (Ok row) = Ok (record { markers = slice_set reading.markers at (Begins task row); lines = reading.lines; begun = reading.begun })

abbrev pub hook_in : Reading → HookFailure → ℕ → Option Marker → Result Reading HistoryFault
hook_in reading failure at (Some (Begins task row)) = with_row reading at task (failing row failure)
hook_in reading failure at marker = Ok reading

abbrev pub hook_at : Reading → HookFailure → Option ℕ → Result Reading HistoryFault
hook_at reading failure None = Err NothingUnderWay
hook_at reading failure (Some at) = hook_in reading failure at (slice_get reading.markers at)

abbrev pub with_hook : Reading → ℕ → Result HookFailure Fault → Result Reading HistoryFault
with_hook reading task (Err fault) = Err (Race (Schedule fault))
with_hook reading task (Ok failure) = hook_at reading failure (begun_at reading task)

-- a line on a task, which has this number
unfoldable pub task_line : ℕ → Reading → ℕ → ℕ → List ℕ → Result Reading HistoryFault
task_line tasks reading number task line =
    if begins_answer (first_word (after_word line)) then with_return reading number task (recorded_of (after_word line)) else
    if bytes_eq (first_word (after_word line)) (codes "hook") then with_hook reading task (failure_of (after_word (after_word line))) else
    with_begin reading number task (row_of tasks task line)

abbrev pub by_task : ℕ → Reading → ℕ → List ℕ → Result ℕ Fault → Result Reading HistoryFault
by_task tasks reading number line (Err fault) = Err (Race (Schedule fault))
by_task tasks reading number line (Ok task) = task_line tasks reading number task line

-- whether a line is skipped: it is empty, or a comment
abbrev pub is_blank : Result Line Fault → Bool
is_blank (Ok Skipped) = true
is_blank line = false

-- what is read after a line more, which has this number
unfoldable pub reading_after : ℕ → Reading → ℕ → List ℕ → Result Reading HistoryFault
reading_after tasks reading number line =
    if is_blank (parsed line (Some tasks)) then Ok reading else by_task tasks reading number line (task_of tasks line)

-- after these lines and what is behind them, or the first fault of them
abbrev pub ended : Option Fault → Reading → Result Reading HistoryFault
ended None reading = Ok reading
ended (Some fault) reading = Err (Race (Schedule fault))

unfoldable pub reading_of : ℕ → Option Fault → ℕ → List (List ℕ) → Reading → Result Reading HistoryFault
reading_of tasks end number [] reading = ended end reading
reading_of tasks end number (line ∷ others) reading = elim (reading_after tasks reading number line) [
  | Ok more ↦ reading_of tasks end (number + 1) others more
  | Err fault ↦ Err fault
]

-- what all lines behind `history` record, of which the first has this number, where there are so many tasks
abbrev pub reading_left : ℕ → ℕ → Left → Result Reading HistoryFault
reading_left tasks number left = reading_of tasks left.fault number left.lines (nothing_read tasks)
