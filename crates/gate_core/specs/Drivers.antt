-- What a driver answers of a word, and what the core shows of a state.
use Rattle.std.specs.Prelude.{◌≡◌, ℕ, Bool, true, ◌&&◌, List, Option, Some, None, nat_lt, nat_le, if◌then◌else◌, slice_get, slice_index}
use Rattle.cpu_words.specs.declared.names.{WordName.{WordName}, WordRow.{WordRow}}
use Rattle.cpu_words.specs.declared.names.WordRow.TheVariants.{OfAll, OfMount, CountOfMount, OfLevel, CountOfLevel, OfTask, OfNode}
use Rattle.cpu_words.specs.Names.{Extents, row, place}
use Rattle.gate_core.specs.Memory.{Memory, Represents}
use Rattle.gate_world.specs.{Configs.{IsWithin, extents_of}, Worlds.{World}, declared.config.Config.{Config}}

-- whether there is that word
abbrev pub has_row : Extents → WordRow → Bool
has_row e (OfAll k) = true
has_row e (OfMount k m) = nat_lt m e.mounts
has_row e (CountOfMount k m p) = nat_lt m e.mounts && nat_lt p e.processors
has_row e (OfLevel k i) = nat_le 1 i && nat_le i 3
has_row e (CountOfLevel k i p) = nat_le 1 i && (nat_le i 3 && nat_lt p e.processors)
has_row e (OfTask k t) = nat_lt t e.tasks
has_row e (OfNode k n) = nat_lt n e.nodes

abbrev pub is_word : Extents → WordName → Bool
is_word e name = has_row e (row name)

-- the value of a word where the configuration has it
abbrev pub where_there : Config → WordName → Option ℕ → Option ℕ
where_there c name value = if is_word (extents_of c) name then value else None

-- that of a list of all words, each at its place
abbrev pub listed_word : Config → List ℕ → WordName → Option ℕ
listed_word c words name = where_there c name (slice_get words (place name))

-- that of the core's words
abbrev pub core_word : Memory → WordName → Option ℕ
core_word core name = where_there core.config name (Some (slice_index core.words (place name)))

-- the core of this lawful configuration shows this state
pub record CoreShows (core : Memory) (c : Config) (w : World) : Type 0 where
  pub config : core.config ≡ c
  pub within : IsWithin c
  pub world : Represents core w
