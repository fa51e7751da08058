-- Transcripts: the bytes that a text of lines prints, and the fault at which it ends, if any. The gates are those of the theorem: the
-- same states, moved by the same transitions.
use Rattle.std.specs.Prelude.{ℕ, zero, suc, ◌+◌, ◌==◌, Bool, true, false, if◌then◌else◌, Option, Some, None, Result, Ok, Err, List, [], ◌∷◌, ◌++◌, map, take, drop}
use Rattle.std.specs.List.{flat_map}
use Rattle.access_model.specs.{Holders.{held_by}, declared.actions.{Holder.{Holder, TheVariants.{Kernel, User}}, NodeInfo.{NodeInfo}}}
use Rattle.access_model.specs.{declared.errors.GateError.{GateError, TheVariants.{Invalid}}, States.{State}, Histories.{Done, end_of}}
use Rattle.cpu_words.specs.{Hooks.{HookAnswer}, declared.names.WordName.{WordName}}
use Rattle.cpu_words.specs.declared.names.WordName.TheVariants.{Umount, Stage, Holders, SbFlags, Remount, Removed, MountFlags, MountCount, Block, Sync, LevelCount, Section, Used, Node, Kids}
use Rattle.cpu_words.specs.Words.{read}
use Rattle.gate_world.specs.{declared.config.Config.{Config}, Worlds.{World, happens, action_of, task_of, with_action, opening}}
use Rattle.gate_world.specs.declared.entries.Entry.{Entry, TheVariants.{Begins, Steps}}
use Rattle.gate_transitions.specs.declared.steps.Progress.{Progress, TheVariants.{Idle, Going, Waiting, Done as Ended}}
use Rattle.gate_transitions.specs.Answers.{begin_answer, step_answer, wanted_hook}
use Rattle.schedule_text.specs.declared.commands.{HookFailure.{HookFailure}, Line.{Line}}
use Rattle.schedule_text.specs.declared.commands.Line.TheVariants.{Skipped, Config as ConfigLine, Request as RequestLine}
use Rattle.schedule_text.specs.declared.commands.{Request.{Request, TheVariants.{Words, Tree, Model, Task}}, TaskCommand.{TaskCommand}}
use Rattle.schedule_text.specs.{declared.commands.TaskCommand.TheVariants.{Begin, Step, Run}, Commands.{failing_answer}, Parsing.{parsed}}
use Rattle.schedule_lines.specs.declared.faults.Fault.{Fault, TheVariants.{TooManyLines, LineTooLong, CutOff, ConfigExpected, Refused}}
use Rattle.schedule_lines.specs.{declared.lines.Front.TheVariants.{Line as WholeLine, TooLong, Part}, Lines.{front_of}}
use Rattle.schedule_lines.specs.Printing.{word_line, refused_line, model_line, holder_line, read_only_mount_line, held_mount_line, held_level_line, open_file_line, node_line}
use Rattle.transcripts.specs.{Printing.{step_text, ended_text}, Limits.{is_config}}

-- a schedule on its way: its configuration, the state, and the actions that its steps added so far, the newest first
pub record ReplayState : Type 0 where
  pub config : Config
  pub world : World
  pub done : List Done

-- the play that a configuration opens
abbrev pub opening_play : Config → ReplayState
opening_play c = record { config = c; world = opening; done = [] }

-- the play after a transition of its schedule: the same that the theorem says of
abbrev pub played : ReplayState → Entry → ReplayState
played p e = record p { world = happens p.config p.world e; done = with_action (task_of e) (action_of p.config p.world e) p.done }

-- the blocks charged, which the reply of a snapshot prints
abbrev pub used_now : ReplayState → ℕ
used_now p = p.world.words.used

-- 0, 1, .. n - 1
abbrev pub count_up : ℕ → List ℕ
count_up zero = []
count_up (suc n) = count_up n ++ n ∷ []

-- a word's line, where it isn't 0; none of a word that there isn't
abbrev pub word_text : WordName → Option ℕ → List ℕ
word_text name None = []
word_text name (Some value) = if value == 0 then [] else word_line name value

-- those of these words that aren't 0, each with its value
abbrev pub texts_of : (WordName → Option ℕ) → List WordName → List ℕ
texts_of value names = flat_map (λ name. word_text name (value name)) names

-- the words of the whole file system, but the blocks charged
abbrev pub words_of_all : List WordName
words_of_all = Umount ∷ Stage ∷ Holders ∷ SbFlags ∷ Remount ∷ Removed ∷ []

-- the words of a mount
abbrev pub mount_words : Config → ℕ → List WordName
mount_words c m = MountFlags m ∷ map (MountCount m) (count_up c.processors)

-- the words of a freeze level
abbrev pub level_words : Config → ℕ → List WordName
level_words c i = Block i ∷ Sync i ∷ map (LevelCount i) (count_up c.processors)

-- the words that `words` prints where they aren't 0, in this order: from `umount` to the last section
abbrev pub printed_words : Config → List WordName
printed_words c =
    words_of_all ++ flat_map (mount_words c) (count_up c.mounts) ++ flat_map (level_words c) (1 ∷ 2 ∷ 3 ∷ []) ++ map Section (count_up c.tasks)

-- those that `tree` prints: the blocks charged, all nodes, the children charged to each
abbrev pub printed_tree_words : Config → List WordName
printed_tree_words c = (Used ∷ []) ++ map Node (count_up c.nodes) ++ map Kids (count_up c.nodes)

-- the value of a word
abbrev pub word_in : ReplayState → WordName → Option ℕ
word_in p name = Some (read p.world.words name)

-- `words`
unfoldable pub words_text : ReplayState → List ℕ
words_text p = texts_of (word_in p) (printed_words p.config)

-- `tree`
unfoldable pub tree_words_text : ReplayState → List ℕ
tree_words_text p = texts_of (word_in p) (printed_tree_words p.config)

-- that one holds a freeze, who may
abbrev pub when_held : Bool → Holder → List ℕ
when_held true h = holder_line h
when_held false h = []

-- the same of a state
abbrev pub freeze_line : State → Holder → List ℕ
freeze_line s h = when_held (held_by s.holders h) h

-- who holds a freeze
abbrev pub freezes_text : State → List ℕ
freezes_text s = freeze_line s Kernel ++ freeze_line s User

-- that a mount is read-only, where it is
abbrev pub when_read_only : Bool → ℕ → List ℕ
when_read_only true m = read_only_mount_line m
when_read_only false m = []

-- the accesses that a task holds at a mount
abbrev pub held_line : State → ℕ → ℕ → List ℕ
held_line s t m = if s.mounts t m == 0 then [] else held_mount_line t m (s.mounts t m)

-- that a task is inside a level, where it is
abbrev pub inside_line : Bool → ℕ → ℕ → List ℕ
inside_line true t i = held_level_line t i
inside_line false t i = []

-- the same of a state
abbrev pub level_line : State → ℕ → ℕ → List ℕ
level_line s t i = inside_line (s.levels t i) t i

-- that a task has a file open, where it has
abbrev pub when_open : Bool → ℕ → ℕ → List ℕ
when_open true t n = open_file_line t n
when_open false t n = []

-- the same of a state
abbrev pub open_line : State → ℕ → ℕ → List ℕ
open_line s t n = when_open (s.opens t n) t n

-- a node, where it is not free
abbrev pub node_text : Option NodeInfo → ℕ → List ℕ
node_text None n = []
node_text (Some info) n = node_line n info

-- what a task holds
abbrev pub task_text : Config → State → ℕ → List ℕ
task_text c s t =
    flat_map (held_line s t) (count_up c.mounts) ++ flat_map (level_line s t) (1 ∷ 2 ∷ 3 ∷ []) ++ flat_map (open_line s t) (count_up c.nodes)

-- that a mount of a state is read-only, where it is
abbrev pub closed_line : State → ℕ → List ℕ
closed_line s m = when_read_only (s.mount_ro m) m

-- a node of a state
abbrev pub tree_line : State → ℕ → List ℕ
tree_line s n = node_text (s.tree n) n

-- a state: its first line, who holds a freeze, its read-only mounts, what its tasks hold, and its tree
abbrev pub state_text : Config → State → List ℕ
state_text c s =
    model_line s.stage s.passed s.sb_ro ++ freezes_text s ++ flat_map (closed_line s) (count_up c.mounts) ++
    flat_map (task_text c s) (count_up c.tasks) ++ flat_map (tree_line s) (count_up c.nodes)

-- `model`: the state after all actions so far
unfoldable pub model_text : ReplayState → List ℕ
model_text p = state_text p.config (end_of p.done)

-- what a request does: the play after it, and what it prints
pub record Outcome : Type 0 where
  pub play : ReplayState
  pub printed : List ℕ

-- such an outcome
abbrev pub outcome : ReplayState → List ℕ → Outcome
outcome p printed = record { play = p; printed = printed }

-- a beginning prints nothing, or its refusal
abbrev pub begin_text : ℕ → Result (Unit {0}) GateError → List ℕ
begin_text t (Ok done) = []
begin_text t (Err refusal) = refused_line t refusal

-- the play after a step of this task, of which a hook that it asks answers this
abbrev pub after_event : ReplayState → ℕ → HookAnswer → ReplayState
after_event p t hook = played p (Steps t hook)

-- what the hook answers that the next step of this task asks, where one may fail and all others answer Ok
abbrev pub hook_answer : ReplayState → ℕ → Option HookFailure → HookAnswer
hook_answer p t None = Ok tt
hook_answer p t (Some failure) = failing_answer failure (wanted_hook p.config p.world t)

-- how this task's operation stands after its next step in a run where this hook may fail
abbrev pub next_progress : ReplayState → ℕ → Option HookFailure → Progress
next_progress p t failure = (step_answer p.config p.world t (hook_answer p t failure)).progress

-- the play after that step
abbrev pub next_play : ReplayState → ℕ → Option HookFailure → ReplayState
next_play p t failure = after_event p t (hook_answer p t failure)

-- so many steps, up to the reply or the first step that has to wait
abbrev pub run_from : ℕ → ReplayState → ℕ → Option HookFailure → Progress × ReplayState
run_from zero p t failure = (Going, p)
run_from (suc left) p t failure =
    elim (next_progress p t failure) [
      | Idle ↦ (Idle, next_play p t failure)
      | Going ↦ run_from left (next_play p t failure) t failure
      | Waiting ↦ (Waiting, next_play p t failure)
      | Ended answer ↦ (Ended answer, next_play p t failure)
    ]

-- a run: 1,000 steps at most, where this hook may fail and all others answer Ok
unfoldable pub run_of : ReplayState → ℕ → Option HookFailure → Progress × ReplayState
run_of p t failure = run_from 1000 p t failure

-- what a run prints, by how it ended and by the play then
abbrev pub run_outcome : ℕ → Progress × ReplayState → Outcome
run_outcome t ran = outcome ran.1 (ended_text t ran.0 (used_now ran.1))

-- a command on a task
abbrev pub command_outcome : ReplayState → ℕ → TaskCommand → Outcome
command_outcome p t (Begin op) = outcome (played p (Begins t op)) (begin_text t (begin_answer p.config p.world t op))
command_outcome p t (Step hook) =
    outcome (after_event p t hook) (step_text t (step_answer p.config p.world t hook) (used_now (after_event p t hook)))
command_outcome p t (Run failure) = run_outcome t (run_of p t failure)

-- a request: what there is to print, or a command on a task
abbrev pub request_outcome : ReplayState → Request → Outcome
request_outcome p Words = outcome p (words_text p)
request_outcome p Tree = outcome p (tree_words_text p)
request_outcome p Model = outcome p (model_text p)
request_outcome p (Task t command) = command_outcome p t command

-- what a line does: the play after it, what it prints, and its fault
pub record Effect : Type 0 where
  pub play : Option ReplayState
  pub printed : List ℕ
  pub fault : Option Fault

-- the effect of a line that is understood
abbrev pub effect_of : Outcome → Effect
effect_of o = record { play = Some o.play; printed = o.printed; fault = None }

-- a line that is refused prints nothing
abbrev pub faulty : Option ReplayState → Fault → Effect
faulty p fault = record { play = p; printed = []; fault = Some fault }

-- a configuration, by whether its numbers are within the limits
abbrev pub config_effect : Config → Bool → Effect
config_effect c true = effect_of (outcome (opening_play c) [])
config_effect c false = faulty None (Refused Invalid)

-- a line, where there is a play, or none yet
abbrev pub line_effect : Option ReplayState → Line → Effect
line_effect p Skipped = record { play = p; printed = []; fault = None }
line_effect p (ConfigLine c) = config_effect c (is_config c)
line_effect None (RequestLine request) = faulty None ConfigExpected
line_effect (Some p) (RequestLine request) = effect_of (request_outcome p request)

-- the bytes printed, and the fault with its line
pub record Transcript : Type 0 where
  pub printed : List ℕ
  pub fault : Option (ℕ × Fault)

-- a fault at the line after so many
abbrev pub stops : ℕ → Fault → Transcript
stops done fault = record { printed = []; fault = Some (done + 1, fault) }

-- the end of the input after so many lines, which is a fault where no configuration came
abbrev pub ends : ℕ → Option ReplayState → Transcript
ends done None = stops done ConfigExpected
ends done (Some p) = record { printed = []; fault = None }

-- at the end of the input, and where it ends inside a line
abbrev pub ends_or : ℕ → Option ReplayState → Fault → List ℕ → Transcript
ends_or done p fault [] = ends done p
ends_or done p fault (byte ∷ rest) = stops done fault

-- how many tasks there are, once there is a configuration
abbrev pub tasks_of : Option ReplayState → Option ℕ
tasks_of None = None
tasks_of (Some p) = Some p.config.tasks

-- this is printed before
abbrev pub then_prints : List ℕ → Transcript → Transcript
then_prints printed rest = record rest { printed = printed ++ rest.printed }

-- the transcript of these bytes, after so many lines, where so many may follow
unfoldable pub transcript_from : ℕ → ℕ → Option ReplayState → List ℕ → Transcript
transcript_from zero done p bytes = ends_or done p TooManyLines bytes
transcript_from (suc left) done p bytes =
    elim (front_of bytes) [
      | WholeLine n ↦ elim (parsed (take n bytes) (tasks_of p)) [
        | Err fault ↦ stops done fault
        | Ok line ↦ elim ((line_effect p line).fault) [
          | Some fault ↦ record { printed = (line_effect p line).printed; fault = Some (done + 1, fault) }
          | None ↦ then_prints (line_effect p line).printed (transcript_from left (done + 1) (line_effect p line).play (drop (n + 1) bytes))
        ]
      ]
      | TooLong ↦ stops done LineTooLong
      | Part ↦ ends_or done p CutOff bytes
    ]

-- the transcript of a whole input
unfoldable pub transcript : List ℕ → Transcript
transcript bytes = transcript_from 1048576 0 None bytes
