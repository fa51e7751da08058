-- The command line of the program, as the parser of command lines knows it, and the words that ask for a plain replay.
use Rattle.std.specs.{Option.option_map_or, Prelude.{◌≡◌, ◌&&◌, ℕ, Bool, true, false, not, List, [], ◌∷◌, map, Option, Some, None, is_some, codes}}
use Rattle.std.specs.Str.{bytes_eq}
use Rattle.clap.specs.{Lexer.usize_max, Simple.new_shape, Words.{App, Row, Rule, Shape, Text, first_of, new_rule, one_of, subcommand_of, takes}}
use Rattle.clap.specs.declared.builder.{action.ArgAction.TheVariants.SetTrue, value_parser.ValueParser.TheVariants.Unsigned}
use Rattle.command_line.specs.declared.arguments.{Argument.{Argument}, ArgumentKind.{ArgumentKind, TheVariants.{Word, Words, Flag, Number, Choice}}, Subcommand.Subcommand}
use Rattle.command_line.specs.declared.words.{ProgramRequest.{ProgramRequest, TheVariants.Replay as AsksReplay}, ReplayForm.TheVariants.Plain, Replay.Replay, Style.Style}

-- a flag, which is left out or given once
abbrev pub flag_rule : Text → Rule
flag_rule name = record (new_rule name) { long = Some name; action = Some SetTrue }

-- a number from the least to the most, which may be left out
abbrev pub number_rule : Text → ℕ → ℕ → Rule
number_rule name least most = record (new_rule name) { long = Some name; value_names = 1; parser = Some (Unsigned least most) }

-- the same, which has to be there
abbrev pub needed_rule : Text → ℕ → ℕ → Rule
needed_rule name least most = record (number_rule name least most) { required = true }

-- an option with a word, which may be left out
abbrev pub choice_rule : Text → Rule
choice_rule name = record (new_rule name) { long = Some name; value_names = 1 }

-- words at their place, or none
abbrev pub words_rule : Text → Rule
words_rule name = record (new_rule name) { range = Some (record { start_inclusive = 1; end_inclusive = usize_max }) }

-- a file at most
abbrev pub file_rule : Rule
file_rule = new_rule (codes "FILE")

-- an argument of this name that is given so
abbrev pub kind_rule : Text → ArgumentKind → Rule
kind_rule name Word = new_rule name
kind_rule name Words = words_rule name
kind_rule name Flag = flag_rule name
kind_rule name (Number value least most needed) = record (number_rule name least most) { required = needed }
kind_rule name (Choice value) = choice_rule name

-- an argument
abbrev pub argument_rule : Argument → Rule
argument_rule a = kind_rule a.name.now a.kind

-- a command with its arguments
abbrev pub command_of : Text → List Rule → Shape
command_of name rules = record (new_shape name) { rules = rules }

-- `replay`
abbrev pub replay_shape : Shape
replay_shape = command_of (codes "replay") (
    file_rule ∷ flag_rule (codes "events") ∷ flag_rule (codes "columns") ∷ flag_rule (codes "json") ∷ flag_rule (codes "html")
    ∷ flag_rule (codes "raw") ∷ choice_rule (codes "names") ∷ flag_rule (codes "over-gates") ∷ flag_rule (codes "explain") ∷ [])

-- `check`
abbrev pub check_shape : Shape
check_shape = command_of (codes "check") (words_rule (codes "FILE") ∷ flag_rule (codes "bless") ∷ [])

-- `explain`
abbrev pub explain_shape : Shape
explain_shape = command_of (codes "explain") (new_rule (codes "CALL") ∷ new_rule (codes "REFUSAL") ∷ [])

-- `outcomes`
abbrev pub outcomes_shape : Shape
outcomes_shape = command_of (codes "outcomes") (
    file_rule ∷ flag_rule (codes "schedules") ∷ flag_rule (codes "columns") ∷ flag_rule (codes "model") ∷ flag_rule (codes "ends")
    ∷ flag_rule (codes "json") ∷ flag_rule (codes "html") ∷ flag_rule (codes "raw") ∷ choice_rule (codes "names")
    ∷ choice_rule (codes "save") ∷ number_rule (codes "limit") 1 4294967295 ∷ flag_rule (codes "no-reduction") ∷ [])

-- `validate`
abbrev pub validate_shape : Shape
validate_shape = command_of (codes "validate") (file_rule ∷ number_rule (codes "limit") 1 4294967295 ∷ [])

-- `run`
abbrev pub run_shape : Shape
run_shape = command_of (codes "run") (
    needed_rule (codes "tasks") 3 64 ∷ needed_rule (codes "cpus") 1 64 ∷ needed_rule (codes "rounds") 1 10000
    ∷ needed_rule (codes "freezes") 0 1000 ∷ number_rule (codes "patience") 0 4294967295 ∷ flag_rule (codes "details") ∷ [])

-- a command of the program
abbrev pub subcommand_shape : Subcommand → Shape
subcommand_shape s = command_of s.name.now (map argument_rule s.arguments.now)

-- the command line: each command of the program
abbrev pub mntgate_app : App
mntgate_app = record {
  top = record (new_shape (codes "mntgate")) { is_leaf = false; has_version = true; subcommand_required = true };
  subs = replay_shape ∷ check_shape ∷ explain_shape ∷ outcomes_shape ∷ validate_shape ∷ run_shape ∷ [];
}

-- a command with no commands of its own
abbrev pub alone : Shape → App
alone s = record { top = s; subs = [] }

-- what the words of a plain replay of standard input say of each flag: that it is off
abbrev pub is_off : List Row → Text → Bool
is_off rows name = option_map_or (λ text. bytes_eq text (codes "false")) (one_of name rows) true

-- the words of schedules, and values as what they say
abbrev pub usual_style : Style
usual_style = record { kernel_names = false; raw = false }

-- in the usual style
abbrev pub are_usual : List Row → Bool
are_usual rows = not (is_some (first_of (codes "names") rows)) && is_off rows (codes "raw")

-- no file, no other form or style, and not over the gates
abbrev pub are_plain : List Row → Bool
are_plain rows =
    not (is_some (first_of (codes "FILE") rows)) && (are_usual rows && (is_off rows (codes "events") && (is_off rows (codes "columns")
    && (is_off rows (codes "json") && (is_off rows (codes "html") && is_off rows (codes "over-gates"))))))

-- the command is `replay`, with such words
abbrev pub is_plain_replay : Option (Text × List Row) → Bool
is_plain_replay command = option_map_or (λ p. bytes_eq p.0 (codes "replay") && are_plain p.1) command false

-- The words have no fault and ask for a plain replay of standard input, as `mntgate replay` does.
abbrev pub ask_plainly : List Text → Bool
ask_plainly words = takes mntgate_app words && is_plain_replay (subcommand_of mntgate_app words)

-- a plain replay: over the core, printing what its lines ask for
pub record IsPlain (asked : Replay) : Type 0 where
  pub form : asked.form ≡ Plain
  pub core : asked.over_gates ≡ false

-- a plain replay of standard input
pub record IsPlainOfInput (asked : ProgramRequest) : Type 0 where
  pub replay : Replay
  pub is : asked ≡ AsksReplay replay
  pub plain : IsPlain replay
  pub of_input : replay.file ≡ None

-- No word names a file, or puts a flag of another form or of other gates on.
pub record AreBare (rows : List Row) : Type 0 where
  pub file : first_of (codes "FILE") rows ≡ None
  pub events : ¬ (one_of (codes "events") rows ≡ Some (codes "true"))
  pub columns : ¬ (one_of (codes "columns") rows ≡ Some (codes "true"))
  pub json : ¬ (one_of (codes "json") rows ≡ Some (codes "true"))
  pub html : ¬ (one_of (codes "html") rows ≡ Some (codes "true"))
  pub core : ¬ (one_of (codes "over-gates") rows ≡ Some (codes "true"))

-- the command is `replay`, with no such word
pub record IsBareReplay (command : Option (Text × List Row)) : Type 0 where
  pub rows : List Row
  pub replay : command ≡ Some (codes "replay", rows)
  pub bare : AreBare rows

-- the words name `replay`, with no such word
abbrev pub MayAskPlainly : List Text → Type 0
MayAskPlainly words = IsBareReplay (subcommand_of mntgate_app words)
