-- A replay on its way, by what its player plays.
use Rattle.std.specs.{Prelude.{◌≡◌, ℕ, Bool, true, List, [], Option, None}, Io.KnownBytes.{IsAtEnd}}
use Rattle.schedule_lines.specs.bytes.Pending.{pending}
use Rattle.transcripts.specs.Transcript.{ReplayState}
use Rattle.transcripts.specs.{Replaying.{ReplayUnderWay}, declared.line_replay.LineReplay.{LineReplay}}

-- what players of this type play
abbrev pub Playing : Type 0 → Type 1
Playing P = P → Option ReplayState → Type 0

-- It is under way after so many lines, where its reader has this left and its writer holds this, and its player plays what these lines lead to.
pub record ReplayGoesOn {P : Type 0} (is_known : Bool) (player_plays : Playing P) (input held : Option (List ℕ)) (done : ℕ)
    (replay : LineReplay P) (left holds : Option (List ℕ)) : Type 0 where
  pub play : Option ReplayState
  pub way : ReplayUnderWay input held done (pending replay.input) left replay.output.bytes.items holds play
  pub known : is_known ≡ true
  pub plays : player_plays replay.player play

-- nothing was read or printed yet, and its player has no configuration
pub record IsNewReplay {P : Type 0} (player_plays : Playing P) (replay : LineReplay P) : Type 0 where
  pub pending : pending replay.input ≡ []
  pub printed : replay.output.bytes.items ≡ []
  pub plays : player_plays replay.player None

-- all was read
pub record IsReadReplay {P : Type 0} (replay : LineReplay P) (left : Option (List ℕ)) : Type 0 where
  pub pending : pending replay.input ≡ []
  pub at_end : IsAtEnd left
