-- What an observer is shown of the lines before a race.
use Rattle.std.specs.Prelude.{List, None, Ok, Option, Some, [], ℕ, ◌++◌, ◌∷◌, ◌≡◌}
use Rattle.schedule_lines.specs.declared.output.Output.{Output}
use Rattle.schedule_text.specs.{Parsing.parsed, declared.commands.Line.{Line, TheVariants.{Config, Request, Skipped}}}
use Rattle.transcripts.specs.Transcript.{ReplayState, request_outcome, tasks_of}
use Rattle.race_files.specs.{Left.{Left, left_in, line_count}, SettingUp.IsDone, declared.lines.Lines.Lines}

-- An observer, and what was printed and stands there for it; what the observer may be when it has taken that at these lines, and what it may leave of it;
-- and how many lines there are.
module _ {W : Type 0} (takes : W → Lines → Output → W → Output → Type 0) (count : ℕ) where
  -- Before this line, with those behind it, is done, the observer takes what was printed. What the line prints stands behind what the observer has left.
  pub record TakesBefore (text : List ℕ) (others : List (List ℕ)) (printed : List ℕ) (before after : W × Output) : Type 0 where
    pub at : Lines
    pub next : (left_in at).lines ≡ text ∷ others
    pub number : line_count at ≡ count
    pub left : Output
    pub taken : takes before.0 at before.1 after.0 left
    pub prints : after.1.bytes.items ≡ left.bytes.items ++ printed

  -- So it is at a line that asks for something. At another one nothing is taken or printed.
  abbrev pub IsShown : Option ReplayState → List ℕ → List (List ℕ) → Line → W × Output → W × Output → Type 0
  IsShown None text others line before after = after ≡ before
  IsShown (Some p) text others Skipped before after = after ≡ before
  IsShown (Some p) text others (Config config) before after = after ≡ before
  IsShown (Some p) text others (Request request) before after = TakesBefore text others (request_outcome p request).printed before after

  -- A line, with those behind it, is done, and shown.
  pub record IsDoneShown (from : Option ReplayState) (text : List ℕ) (others : List (List ℕ)) (to : Option ReplayState) (before after : W × Output) : Type 0 where
    pub done : IsDone from text to
    pub line : Line
    pub read : parsed text (tasks_of from) ≡ Ok line
    pub shown : IsShown from text others line before after

  -- so is each of these lines, one after the other, with those that are left behind the last of them
  abbrev pub AreShown : Option ReplayState → List (List ℕ) → List (List ℕ) → Option ReplayState → W × Output → W × Output → Type 0
  AreShown from [] left to before after = (from ≡ to) × (after ≡ before)
  AreShown from (text ∷ texts) left to before after =
      (mid : Option ReplayState) × (then : W × Output) × IsDoneShown from text (texts ++ left) mid before then × AreShown mid texts left to then after

  -- Of all lines some come before those that are left, and these are done, and shown.
  pub record ShowsLines (from to : Option ReplayState) (all left : Left) (before after : W × Output) : Type 0 where
    pub done : List (List ℕ)
    pub lines : all.lines ≡ done ++ left.lines
    pub shown : AreShown from done left.lines to before after
