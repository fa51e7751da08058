-- Plays that some schedule leads to.
use Rattle.std.specs.Prelude.{◌≡◌, List, []}
use Rattle.gate_world.specs.{Configs.{IsWithin}, Worlds.{run, history, opening}, declared.entries.Entry.{Entry}}
use Rattle.transcripts.specs.Transcript.{ReplayState}

-- some schedule leads to this play
pub record IsReached (p : ReplayState) : Type 0 where
  pub within : IsWithin p.config
  pub entries : List Entry
  pub world : p.world ≡ run p.config opening entries
  pub done : p.done ≡ history p.config opening [] entries
