-- The invariant of the table.
use Rattle.cpu_words.specs.{Lists.ListShows, Names.{stride, words_in_all}, Words.{Words, opening_words}}
use Rattle.gate_world.specs.{Configs.{IsWithin, extents_kept}, Rules.IsGood, Worlds.World, declared.{config.Config.Config, views.View.View}}
use Rattle.std.specs.Prelude.{List, [], length, map, ℕ, ◌*◌, ◌<◌, ◌∷◌, ◌≡◌}
use Rattle.gate_steps.specs.{Histories.HasHistory, Seating.{Dealt, DealtNumbers, HaveSeen, deal, items_of, knows}}
use Rattle.gate_steps.specs.declared.seating.Knowledge.{Knowledge}
use lib.ListN.{get_elem?}
use mathlib.Core.Option.{some}

-- where the word of a place lies in the table: words lie apart, each in cache lines of its own
abbrev pub table_index : ℕ → ℕ
table_index place = stride * place

-- how long the table is
abbrev pub table_length : ℕ
table_length = table_index words_in_all

-- the table has these words
abbrev pub TableShows : Config → List ℕ → Words → Type 0
TableShows c ws words = ListShows table_index (extents_kept c) ws words

-- no number of a task has had a step
abbrev pub IsUntouched : Config → (ℕ → View) → Type 0
IsUntouched c views = (t : ℕ) → t < c.tasks → (views t).events ≡ []

-- The invariant of words and views holds of the state, which the table shows. Until the first step all words are as they begin.
pub record Ruled (c : Config) (ws : List ℕ) (w : World) : Type 0 where
  pub within : IsWithin c
  pub long : length ws ≡ table_length
  pub words : TableShows c ws w.words
  pub good : IsGood c w
  pub opens : IsUntouched c w.views → w.words ≡ opening_words

-- the invariant of the table
pub record TableInvariantHolds (c : Config) (ws : List ℕ) (seats : List Knowledge) : Type 0 where
  pub world : World
  pub ruled : Ruled c ws world
  pub history : HasHistory c world
  pub dealt : Dealt c.tasks world.views (map items_of seats)
  pub seen : (id : ℕ) (k : Knowledge) → get_elem? seats id ≡ some k → HaveSeen history.reached.entries k.items k.seen

-- what the first seat knows: all numbers
abbrev pub first_items : Config → DealtNumbers
first_items c = deal 0 c.tasks

-- and the empty schedule
abbrev pub first_known : Config → Knowledge
first_known c = knows (first_items c) ([] ∷ [])
