-- What is known of the words once no thread shares them.
use Rattle.std.specs.Prelude.{List, None, slice_index, ℕ, ◌*◌, ◌<◌, ◌≡◌, ◌≤◌}
use Rattle.cpu_words.specs.{Names.{place, stride}, Words.opening_words, declared.names.WordName.TheVariants.{Kids, Node, Used}}
use Rattle.gate_steps.specs.{Histories.HasHistory, Rules.{Ruled, TableShows}, Seating.{DealtNumbers, HaveSeen, HaveViews, times}}
use Rattle.gate_steps.specs.call_events.GhostAgrees.{IsStill}
use Rattle.gate_world.specs.{Configs.IsWithin, Headline.world_after, Worlds.World, declared.{config.Config.Config, entries.Entry.Entry}}
use Rattle.{gated_tree.specs.Trees.IsSound, node_words.specs.Nodes.node_shown}
use Rattle.vfs_gates.specs.TaskStates.{HoldsNothing, IsIdle, SeatedTask}

-- the task rests, and each number is its own or its to give
abbrev pub HasAll : SeatedTask → Type 0
HasAll s = IsIdle s × HoldsNothing s × ((n : ℕ) → n < s.config.tasks → 1 ≤ times n s.items)

-- what callers know of closed gates
pub record ClosedState : Type 0 where
  pub config : Config
  pub words : List ℕ

-- The words are those of a state that the invariant holds of, with an allowed trace that ends in the model that it shows, of which each number's
-- own list is its part, in which each number's last snapshot has its moment, and which are the actions of a schedule that makes of the
-- opening that state. In that state every number is idle and holds nothing.
pub record Ended (c : Config) (ws : List ℕ) : Type 0 where
  pub world : World
  pub ruled : Ruled c ws world
  pub history : HasHistory c world
  pub still : (t : ℕ) → t < c.tasks → IsStill c (world.views t)

-- A schedule leaves these words: with it no task is under way, and each number has the list of that state. So each clause of `every_schedule` says
-- of closed gates what it says of a schedule with no operation under way.
pub record IsLeftBySchedule (c : Config) (ws : List ℕ) (w : World) : Type 0 where
  pub within : IsWithin c
  pub entries : List Entry
  pub words : TableShows c ws (world_after c entries).words
  pub idle : (t : ℕ) → t < c.tasks → ((world_after c entries).views t).phase ≡ None
  pub lists : (t : ℕ) → ((world_after c entries).views t).actions ≡ (w.views t).actions

-- In that state the numbers that the task brought have the views that it knew: closing adds no step and no action to any list. Its schedule
-- goes on from each that the task had seen, and so from all that was seen by those that were joined.
pub record EndedWith (c : Config) (ws : List ℕ) (items : DealtNumbers) (seen : List (List Entry)) : Type 0 where
  pub ended : Ended c ws
  pub mine : HaveViews ended.world.views items
  pub goes_on : HaveSeen ended.history.reached.entries items seen

-- Gates whose last task knows these numbers would close with all words as they begin.
abbrev pub HasOpeningWords : Config → DealtNumbers → Type 0
HasOpeningWords c items = (ws : List ℕ) (seen : List (List Entry)) → EndedWith c ws items seen → TableShows c ws opening_words

-- The tree of these words is sound: the blocks charged are those of all files, the children charged to each node are its children, and each
-- parent is a directory.
abbrev pub LeavesSoundTree : Config → List ℕ → Type 0
LeavesSoundTree c ws =
    IsSound c.nodes (slice_index ws (stride * place Used)) (λ n. node_shown (slice_index ws (stride * place (Node n))))
    (λ n. slice_index ws (stride * place (Kids n)))

-- A schedule leaves closed gates which goes on from each that these numbers' task had seen, and each of these numbers has no transition behind one of
-- them.
pub record IsLeftAfter (c : Config) (ws : List ℕ) (w : World) (items : DealtNumbers) (seen : List (List Entry)) : Type 0 where
  pub left : IsLeftBySchedule c ws w
  pub goes_on : HaveSeen left.entries items seen
