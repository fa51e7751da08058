-- Which state the gates show that one thread drives.
use Rattle.std.specs.Prelude.{List, None, [], length, slice_index_or, ℕ, ◌<◌, ◌∷◌, ◌≡◌, ◌≤◌}
use Rattle.{cpu_words.specs.{Lists.ListShows, Names.words_in_all}, gate_steps.specs.{Seating.DealtNumbers, call_events.Grown.HasSeen}}
use Rattle.gate_world.specs.{Configs.{IsWithin, extents_kept}, Fits.Fits, Headline.world_after, Views.{held_of, opening_view}, Worlds.World}
use Rattle.gate_world.specs.declared.{config.Config.Config, entries.Entry.Entry}
use Rattle.vfs_gates.specs.TaskStates.{SeatedTask, own_number, own_view}
use Rattle.program_replay.specs.Standing.{Stands}

-- These transitions are the execution on the table. The task has seen them, and stands after them as it knows. In the state that is shown its number has
-- done what the task knows, and is at the task's phase: that of an operation that has begun, too, of which the table knows nothing yet.
pub record IsShown (c : Config) (entries : List Entry) (w : World) (number : ℕ) (s : SeatedTask) : Type 0 where
  pub there : 1 ≤ length s.items
  pub own : own_number s.items ≡ number
  pub config : s.config ≡ c
  pub seen : HasSeen entries s.seen
  pub stands : Stands (world_after c entries) number s
  pub phase : (w.views number).phase ≡ s.phase
  pub actions : (w.views number).actions ≡ (own_view s.items).actions
  pub fits : Fits c number (held_of (own_view s.items)) s.phase

-- Such tasks, one for each number, and a list of words show this state: it has the words of the table, which are those of the list.
pub record TasksShow (tasks : List SeatedTask) (list : List ℕ) (c : Config) (w : World) : Type 0 where
  pub within : IsWithin c
  pub count : length tasks ≡ c.tasks
  pub long : length list ≡ words_in_all
  pub entries : List Entry
  pub words : w.words ≡ (world_after c entries).words
  pub shown : (k : ℕ) (t : SeatedTask) → k < c.tasks → IsShown c entries w k (slice_index_or tasks k t)
  pub listed : ListShows (λ place. place) (extents_kept c) list w.words

-- none of these numbers has done anything, nor begun an operation
abbrev pub AreUntouched : DealtNumbers → Type 0
AreUntouched [] = Unit {0}
AreUntouched (x ∷ xs) = (x.view ≡ opening_view) × AreUntouched xs

-- a task as it begins, which has seen that nothing was done
pub record IsNew (s : SeatedTask) : Type 0 where
  pub there : 1 ≤ length s.items
  pub idle : s.phase ≡ None
  pub seen : s.seen ≡ [] ∷ []
  pub items : AreUntouched s.items
