-- Which faults are a schedule's own: all but those of a read, a write or a growth that failed.
use Rattle.std.proofs.lemmas.Grind.{common_steps}
use Rattle.std.proofs.Common.{◌≡◌, ℕ, refl, subst, Bool, true, false, List, [], Option, Some, Result, Ok, Err, arith}
use Rattle.std.specs.Prelude.{IfErr, ok_or, if◌then◌else◌, ◌==◌, bytes_eq, codes, not}
use Rattle.access_model.specs.declared.errors.GateError.TheVariants.{NoMemory}
use Rattle.schedule_text.specs.declared.commands.Line.{Line, TheVariants.{Config as ConfigLine, Request as RequestLine}}
use Rattle.schedule_text.specs.declared.commands.{Request.{Request, TheVariants.{Words, Tree, Model, Task}}, TaskCommand.{TaskCommand}}
use Rattle.schedule_text.specs.declared.verbs.Verb.{Verb}
use Rattle.schedule_text.specs.declared.verbs.Verb.TheVariants.{Want, TryWant, Drop, Start, TryStart, End, WantWrite, DropWrite, Change, TryChange, Remount, Callback, Freeze, Thaw, Create, Remove, Grow, Move, Fault as FaultVerb, Flush, Open, Close, TryClose, Snapshot, TrySnapshot, Step, Run}
use Rattle.schedule_text.specs.Parsing.{◌>>=◌, expect, number_at, byte_at, code_at, hook_at, holder_at, holder_given, read_only_at, two_at, change_of, kind_at, create_of, grow_of, step_of, run_of, arguments_of, task_line, alone, command_line, config_of, config_line, line_for, parsed, task_of}
use Rattle.schedule_text.specs.Verbs.{takes, verb_of}
use Rattle.schedule_lines.specs.declared.faults.Fault.{Fault}
use Rattle.schedule_lines.specs.declared.faults.Fault.TheVariants.{ConfigExpected, ConfigTwice, UnknownCommand, WrongNumberOfWords, NoSuchTask, BadNumber, BadWord, ReadFailed, WriteFailed, Refused}
use Rattle.schedule_lines.specs.{Words.{first_word, after_word, word_count}, Numbers.{is_digits}}
use Rattle.transcripts.specs.{Transcript.{ReplayState, line_effect}}
use Rattle.transcripts.specs.Replayed.{IsTranscript, EndsWhole, EndsBy}
use Rattle.gate_world.specs.declared.config.Config.{Config}

-- whether a fault is the schedule's own
abbrev pub is_own : Fault → Bool
is_own ReadFailed = false
is_own WriteFailed = false
is_own (Refused NoMemory) = false
is_own _ = true

-- a fault of the schedule ends a replay by the transcript
pub ends_by_own : (input : Option (List ℕ)) (taken written : List ℕ) (line : ℕ) (fault : Fault) → is_own fault ≡ true →
    IsTranscript input taken written (Some (line, fault)) → EndsWhole input taken written line fault
ends_by_own input taken written line fault own h = grind arith

-- where all that was printed is written, a replay ends as its fault says
pub ends_whole : (input : Option (List ℕ)) (taken written : List ℕ) (line : ℕ) (fault : Fault) →
    EndsWhole input taken written line fault → EndsBy input taken written line fault
ends_whole input taken written line fault h = grind arith

-- where this fails, it is by a fault of the schedule
record FailsByOwn {A : Type 0} (r : Result A Fault) : Type 0 where
  own : IfErr r (λ fault. is_own fault ≡ true)

-- an answer is no failure
ok_own : {A : Type 0} (x : A) → FailsByOwn (Ok x)
ok_own x = record { own = tt }

-- a fault of the schedule
err_own : {A : Type 0} (fault : Fault) → is_own fault ≡ true → FailsByOwn {A = A} (Err fault)
err_own fault h = record { own = h }

-- one after the other
then_own : {A B : Type 0} (r : Result A Fault) (f : A → Result B Fault) → FailsByOwn r → ((x : A) → FailsByOwn (f x)) →
    FailsByOwn (r >>= f)
then_own r f h k = grind arith

-- an answer, or a fault of the schedule where there is none
or_own : {A : Type 0} (o : Option A) (fault : Fault) → is_own fault ≡ true → FailsByOwn (ok_or o fault)
or_own o fault h = grind arith

-- a test, or a fault of the schedule where it fails
expect_own : (b : Bool) (fault : Fault) → is_own fault ≡ true → FailsByOwn (expect b fault)
expect_own true fault h = ok_own tt
expect_own false fault h = err_own fault h

-- one or the other
if_own : {A : Type 0} (b : Bool) (r s : Result A Fault) → FailsByOwn r → FailsByOwn s → FailsByOwn (if b then r else s)
if_own true r s h k = h
if_own false r s h k = k

-- a number
number_own : (text : List ℕ) → FailsByOwn (number_at text)
unfolding number_at
number_own text = or_own _ BadNumber refl

-- a number that is handed over as a byte
byte_own : (text : List ℕ) → FailsByOwn (byte_at text)
unfolding byte_at
byte_own text = then_own _ _ (number_own text) (λ (n : ℕ). ok_own _)

-- the code of a hook
code_own : (text : List ℕ) → FailsByOwn (code_at text)
unfolding code_at
code_own text = or_own _ BadNumber refl

-- a hook
hook_own : (text : List ℕ) → FailsByOwn (hook_at text)
unfolding hook_at
hook_own text = or_own _ BadWord refl

-- `ro` or `rw`
read_only_own : (text : List ℕ) → FailsByOwn (read_only_at text)
unfolding read_only_at
read_only_own text = or_own _ BadWord refl

-- two numbers
two_own : (rest : List ℕ) → FailsByOwn (two_at rest)
unfolding two_at
two_own rest = then_own _ _ (byte_own rest) (λ (first : ℕ). then_own _ _ (byte_own (after_word rest)) (λ (second : ℕ). ok_own _))

-- the arguments of a change
change_own : (rest : List ℕ) (wait : Bool) → FailsByOwn (change_of rest wait)
unfolding change_of
change_own rest wait = then_own _ _ (byte_own rest) (λ (m : ℕ). then_own _ _ (read_only_own (after_word rest)) (λ (b : Bool). ok_own _))

-- who holds a freeze
holder_own : (text : List ℕ) → FailsByOwn (holder_at text)
unfolding holder_at
holder_own text = or_own _ BadWord refl

-- the same, where it may be left out
given_own : (rest : List ℕ) (words : ℕ) → FailsByOwn (holder_given rest words)
unfolding holder_given
given_own rest words = if_own _ _ _ (ok_own _) (holder_own rest)

-- the kind of a node
kind_own : (text : List ℕ) → FailsByOwn (kind_at text)
unfolding kind_at
kind_own text = or_own _ BadWord refl

-- the arguments of a creation
create_own : (rest : List ℕ) → FailsByOwn (create_of rest)
unfolding create_of
create_own rest = then_own _ _ (byte_own rest) (λ (d : ℕ). then_own _ _ (kind_own (after_word rest)) (λ _. ok_own _))

-- the arguments of a growth
grow_own : (rest : List ℕ) → FailsByOwn (grow_of rest)
unfolding grow_of
grow_own rest = then_own _ _ (byte_own rest) (λ (n : ℕ). then_own _ _ (number_own (after_word rest)) (λ (b : ℕ). ok_own _))

-- the argument of a step
step_own : (rest : List ℕ) → FailsByOwn (step_of rest)
unfolding step_of
step_own rest = then_own _ _ (code_own rest) (λ (n : ℕ). ok_own _)

-- the arguments of a run
run_own : (rest : List ℕ) → FailsByOwn (run_of rest)
unfolding run_of
run_own rest = then_own _ _ (hook_own rest) (λ _. then_own _ _ (code_own (after_word rest)) (λ (n : ℕ). ok_own _))

-- the arguments of a verb
arguments_own : (verb : Verb) (rest : List ℕ) (words : ℕ) → FailsByOwn (arguments_of verb rest words)
unfolding arguments_of
arguments_own Want rest words = then_own _ _ (two_own rest) (λ _. ok_own _)
arguments_own TryWant rest words = then_own _ _ (two_own rest) (λ _. ok_own _)
arguments_own WantWrite rest words = then_own _ _ (two_own rest) (λ _. ok_own _)
arguments_own Drop rest words = then_own _ _ (two_own rest) (λ _. ok_own _)
arguments_own DropWrite rest words = then_own _ _ (two_own rest) (λ _. ok_own _)
arguments_own Start rest words = then_own _ _ (two_own rest) (λ _. ok_own _)
arguments_own TryStart rest words = then_own _ _ (two_own rest) (λ _. ok_own _)
arguments_own End rest words = then_own _ _ (two_own rest) (λ _. ok_own _)
arguments_own Callback rest words = then_own _ _ (byte_own rest) (λ _. ok_own _)
arguments_own Change rest words = change_own rest true
arguments_own TryChange rest words = change_own rest false
arguments_own Remount rest words = then_own _ _ (read_only_own rest) (λ _. ok_own _)
arguments_own Freeze rest words = then_own _ _ (given_own rest words) (λ _. ok_own _)
arguments_own Thaw rest words = then_own _ _ (given_own rest words) (λ _. ok_own _)
arguments_own Create rest words = create_own rest
arguments_own Remove rest words = then_own _ _ (byte_own rest) (λ _. ok_own _)
arguments_own Grow rest words = grow_own rest
arguments_own Move rest words = then_own _ _ (two_own rest) (λ _. ok_own _)
arguments_own FaultVerb rest words = then_own _ _ (byte_own rest) (λ _. ok_own _)
arguments_own Flush rest words = then_own _ _ (byte_own rest) (λ _. ok_own _)
arguments_own Open rest words = then_own _ _ (byte_own rest) (λ _. ok_own _)
arguments_own Close rest words = then_own _ _ (two_own rest) (λ _. ok_own _)
arguments_own TryClose rest words = then_own _ _ (two_own rest) (λ _. ok_own _)
arguments_own Snapshot rest words = ok_own _
arguments_own TrySnapshot rest words = ok_own _
arguments_own Step rest words = if_own _ _ _ (ok_own _) (step_own rest)
arguments_own Run rest words = if_own _ _ _ (ok_own _) (run_own rest)

-- a line on a task
task_own : (line : List ℕ) (tasks : ℕ) → FailsByOwn (task_line line tasks)
unfolding task_line
task_own line tasks =
    then_own _ _ (or_own (verb_of (first_word (after_word line))) UnknownCommand refl) (λ (verb : Verb).
    then_own _ _ (expect_own (takes verb (word_count line)) WrongNumberOfWords refl) (λ _.
    then_own _ _ (or_own (task_of (first_word line) tasks) NoSuchTask refl) (λ (task : ℕ).
    then_own _ _ (arguments_own verb (after_word (after_word line)) (word_count line)) (λ (command : TaskCommand).
    ok_own (RequestLine (Task task command))))))

-- a request that stands alone
alone_own : (words : ℕ) (request : Request) → FailsByOwn (alone words request)
alone_own words request = if_own _ _ _ (ok_own _) (err_own _ refl)

-- a line after the configuration
command_own : (line : List ℕ) (tasks : ℕ) → FailsByOwn (command_line line tasks)
unfolding command_line
command_own line tasks =
    if_own (bytes_eq (first_word line) (codes "config")) _ _ (err_own ConfigTwice refl)
    (if_own (bytes_eq (first_word line) (codes "words")) _ _ (alone_own (word_count line) Words)
    (if_own (bytes_eq (first_word line) (codes "tree")) _ _ (alone_own (word_count line) Tree)
    (if_own (bytes_eq (first_word line) (codes "model")) _ _ (alone_own (word_count line) Model)
    (if_own (not (is_digits (first_word line))) _ _ (err_own UnknownCommand refl)
    (if_own (word_count line == 1) _ _ (err_own WrongNumberOfWords refl) (task_own line tasks))))))

-- the numbers of a configuration
config_own : (rest : List ℕ) → FailsByOwn (config_of rest)
unfolding config_of
config_own rest =
    then_own _ _ (byte_own _) (λ (tasks : ℕ). then_own _ _ (byte_own _) (λ (processors : ℕ). then_own _ _ (byte_own _) (λ (mounts : ℕ).
    then_own _ _ (byte_own _) (λ (nodes : ℕ). then_own _ _ (number_own _) (λ (capacity : ℕ). ok_own _)))))

-- the configuration
config_line_own : (line : List ℕ) → FailsByOwn (config_line line)
unfolding config_line
config_line_own line =
    then_own _ _ (expect_own (bytes_eq (first_word line) (codes "config")) ConfigExpected refl) (λ _.
    then_own _ _ (expect_own (word_count line == 6) WrongNumberOfWords refl) (λ _.
    then_own _ _ (config_own (after_word line)) (λ (c : Config). ok_own (ConfigLine c))))

-- a line that is not skipped
line_for_own : (tasks : Option ℕ) (line : List ℕ) → FailsByOwn (line_for tasks line)
line_for_own tasks line = grind (arith, common_steps, config_line_own, command_own)

-- any line
parsed_own : (line : List ℕ) (tasks : Option ℕ) → FailsByOwn (parsed line tasks)
unfolding parsed
parsed_own line tasks = if_own _ _ _ (ok_own _) (line_for_own tasks line)

-- the fault of a line that isn't understood
pub fault_of_parsed : (line : List ℕ) (tasks : Option ℕ) (fault : Fault) → parsed line tasks ≡ Err fault → is_own fault ≡ true
fault_of_parsed line tasks fault e = (subst (λ (r : Result Line Fault). FailsByOwn r) e (parsed_own line tasks)).own

-- the fault of a line that is understood and refused, which prints nothing
pub fault_of_effect : (p : Option ReplayState) (line : Line) (fault : Fault) → (line_effect p line).fault ≡ Some fault →
    ((line_effect p line).printed ≡ []) × (is_own fault ≡ true)
fault_of_effect p line fault e = grind arith
