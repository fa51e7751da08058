-- The one history of a state, and the schedule that makes it.
use Rattle.std.specs.Prelude.{List, None, Option, Some, [], ℕ, ◌++◌, ◌∷◌, ◌≡◌}
use Rattle.{access_model.specs.Histories.{Done, IsLegal, IsMerge, end_of}, cpu_words.specs.Hooks.HookAnswer}
use Rattle.gate_world.specs.{Configs.model_limits, Moments.AllHaveMoments, Shown.shown, Worlds.{World, happens, history, opening, run}}
use Rattle.gate_world.specs.declared.{config.Config.Config, entries.Entry.{Entry, TheVariants.{Begins, Steps}}, operations.Op.Op, views.View.View}

-- Two views of a number agree but for the last snapshot: also in the operation, its trace and what was done before it, where the second has
-- an operation.
pub record IsLike (v u : View) : Type 0 where
  pub phase : v.phase ≡ u.phase
  pub actions : v.actions ≡ u.actions
  pub events : v.events ≡ u.events
  pub same : (op : Op) → u.op ≡ Some op → (v.op ≡ Some op) × (v.trace ≡ u.trace) × (v.before ≡ u.before)

-- a number begins an operation only while it has none under way
abbrev pub BeginsIdle : World → Entry → Type 0
BeginsIdle w (Begins t op) = (w.views t).phase ≡ None
BeginsIdle w (Steps t hook) = Unit {0}

-- so each number has one operation after the other in this schedule, which goes on from this state
abbrev pub IsWellFormed : Config → World → List Entry → Type 0
IsWellFormed c w [] = Unit {0}
IsWellFormed c w (e ∷ es) = BeginsIdle w e × IsWellFormed c (happens c w e) es

-- The state is what some well-formed schedule makes of the opening: all its words, and of each number the phase, the actions and the steps, and the
-- operation with its trace. (A number that was given to a new task has no operation of its own yet.) The actions that the schedule's steps
-- have added are the log.
pub record IsReached (c : Config) (log : List Done) (w : World) : Type 0 where
  pub entries : List Entry
  pub words : (run c opening entries).words ≡ w.words
  pub views : (t : ℕ) → IsLike ((run c opening entries).views t) (w.views t)
  pub made : history c opening [] entries ≡ log
  pub formed : IsWellFormed c opening entries

-- one history: an allowed trace of actions, whose end is the shown state, of which each number's own list is its part, in which each
-- number's last snapshot has its moment, and which are the actions of some schedule that makes of the opening this state
pub record HasHistory (c : Config) (w : World) : Type 0 where
  pub log : List Done
  pub legal : IsLegal (model_limits c) log
  pub end : end_of log ≡ shown c w
  pub lists : IsMerge (λ t. (w.views t).actions) log
  pub snapshots : AllHaveMoments c log w
  pub reached : IsReached c log w

-- a schedule that goes on with the beginning of an operation, if there is one
abbrev pub then_begins : ℕ → Option Op → List Entry → List Entry
then_begins t None entries = entries
then_begins t (Some op) entries = entries ++ Begins t op ∷ []

-- and with a step
abbrev pub then_steps : ℕ → HookAnswer → List Entry → List Entry
then_steps t hook entries = entries ++ Steps t hook ∷ []
