-- What the lines before a race set up.
use Rattle.std.specs.Prelude.{List, None, Ok, Option, Some, [], false, ℕ, ◌++◌, ◌∷◌, ◌≡◌}
use Rattle.{schedule_text.specs.{Parsing.parsed, declared.commands.Line.Line}, transcripts.specs.Transcript.{ReplayState, line_effect, tasks_of}}
use Rattle.race_files.specs.{Calls.is_race, Left.{Left, behind}}

-- A line that is no `race` is understood, and has no fault: it makes this of the play that there was, or of none, as its transcript has it.
pub record IsDone (from : Option ReplayState) (text : List ℕ) (to : Option ReplayState) : Type 0 where
  pub line : Line
  pub no_race : is_race text ≡ Ok false
  pub understood : parsed text (tasks_of from) ≡ Ok line
  pub faultless : (line_effect from line).fault ≡ None
  pub makes : (line_effect from line).play ≡ to

-- so is each of these lines, one after the other
abbrev pub AreDone : Option ReplayState → List (List ℕ) → Option ReplayState → Type 0
AreDone from [] to = from ≡ to
AreDone from (text ∷ texts) to = (mid : Option ReplayState) × IsDone from text mid × AreDone mid texts to

-- Of all lines some come before those that are left, and these are done.
pub record SetsUp (from to : Option ReplayState) (all left : Left) : Type 0 where
  pub before : List (List ℕ)
  pub lines : all.lines ≡ before ++ left.lines
  pub end : left.fault ≡ all.fault
  pub done : AreDone from before to

-- The last of the lines that are done opens this play, and none before it does.
pub record Opens (p : ReplayState) (all left : Left) : Type 0 where
  pub before : Left
  pub unopened : SetsUp None None all before
  pub text : List ℕ
  pub first : before.lines ≡ text ∷ (behind before).lines
  pub rest : left ≡ behind before
  pub opens : IsDone None text (Some p)
