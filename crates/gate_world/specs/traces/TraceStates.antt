-- How far an operation has come by its steps, in the order of its phases. They speak of no other task.
use Rattle.std.{proofs.Common.true, specs.Prelude.{List, None, Option, Some, [], false, is_some, ℕ, ◌++◌, ◌<◌, ◌∷◌, ◌≡◌, ◌≤◌}}
use Rattle.access_model.specs.declared.{actions.Action.Action, replies.Next.{Next, TheVariants.{Done, Go, Wait}}}
use Rattle.composite_ops.specs.declared.file_closes.phases.ClosePhase.{ClosePhase, TheVariants.{Enters as EntersLevel, FreesNode}}
use Rattle.composite_ops.specs.declared.file_closes.phases.ClosePhase.TheVariants.{LoadsFile as CloseLoadsFile, LowersCount}
use Rattle.cpu_words.specs.{Hooks.HookAnswer, Touches.event_of, declared.names.WordName.{TheVariants.{Node, Sync}, WordName}}
use Rattle.gated_tree.specs.declared.opens.OpenStep.{OpenStep, TheVariants.{LoadsFile as LoadsFileToOpen, OpensFile}}
use Rattle.gated_tree.specs.declared.phases.TreePhase.TheVariants.{OpenFile as OpensOne}
use Rattle.{node_words.specs.Nodes.{opens_in, unpacked, word_of}, percpu_rwsem.specs.{Readers.down_read_next, SyncWords.unpack}}
use Rattle.gate_world.specs.{Beginnings.{first_phase, refusal}, Holdings.holdings_of, Views.{actions_after, phase_after}, Work.{after_of, next_of}}
use Rattle.gate_world.specs.{Worlds.{World, value_at}, declared.{config.Config.Config, operations.Op.Op, views.{Traced.Traced, View.View}}}
use Rattle.gate_world.specs.declared.work.Phase.{Phase, TheVariants.{Closes, Trees}}

-- where an operation stands, and the actions that it has added, the newest first
pub record TraceState : Type 0 where
  pub comes : Next Phase
  pub added : List Action

-- where the operation is after a step, after which this comes, and which added this
abbrev pub trace_state_with : List Action → Next Phase × Option Action → TraceState
trace_state_with added after = record { comes = after.0; added = actions_after after.1 added }

-- where it is after one step more; an operation that has ended is nowhere
abbrev pub trace_state_after : Next Phase → List Action → Traced → TraceState
trace_state_after (Go phase) added e = trace_state_with added (after_of phase e.event.found e.hook)
trace_state_after (Wait phase) added e = trace_state_with added (after_of phase e.event.found e.hook)
trace_state_after (Done answer) added e = record { comes = Done answer; added = added }

-- where an operation of a task is after these steps, the newest first
abbrev pub state_of_trace : Config → ℕ → Op → List Traced → TraceState
state_of_trace c t op [] = record { comes = Go (first_phase c t op); added = [] }
state_of_trace c t op (e ∷ earlier) = trace_state_after (state_of_trace c t op earlier).comes (state_of_trace c t op earlier).added e

-- a value that a word may hold: the word of a node is a node's, and a sync word is one
abbrev pub WordIsValid : WordName → ℕ → Type 0
WordIsValid (Node n) value = is_some (unpacked value) ≡ true
WordIsValid (Sync i) value = is_some (unpack value) ≡ true
WordIsValid word value = Unit {0}

-- What the next step of a phase may find: at a close's file, that some task has it open; at that of a last close, that it is as it was
-- loaded; inside its start, what that one's word may hold; at a file to open, that fewer than 64 tasks have it open.
abbrev pub CloseReadIsValid : ClosePhase → ℕ → Type 0
CloseReadIsValid (CloseLoadsFile x) value = (is_some (unpacked value) ≡ true) × (1 ≤ opens_in value)
CloseReadIsValid (EntersLevel f node r) value = WordIsValid (down_read_next r r.step).0 value
CloseReadIsValid (FreesNode f p node) value = value ≡ word_of node
CloseReadIsValid (LowersCount x node) value = is_some (unpacked value) ≡ true
CloseReadIsValid phase value = Unit {0}

abbrev pub OpenReadIsValid : OpenStep → ℕ → Type 0
OpenReadIsValid LoadsFileToOpen value = (is_some (unpacked value) ≡ true) × (opens_in value < 64)
OpenReadIsValid (OpensFile file) value = is_some (unpacked value) ≡ true

abbrev pub ReadIsValid : Phase → WordName → ℕ → Type 0
ReadIsValid (Closes x) word value = CloseReadIsValid x value
ReadIsValid (Trees (OpensOne x)) word value = OpenReadIsValid x.step value
ReadIsValid phase word value = WordIsValid word value

-- the step is the one of this phase, on a word that held some value which it may hold
abbrev pub IsEventOf : Phase → Traced → Type 0
IsEventOf phase e =
    (value : ℕ) × (e.event ≡ event_of (next_of phase e.hook).0 (next_of phase e.hook).1 value) × ReadIsValid phase (next_of phase e.hook).0 value

-- the step is the one that comes next; after the end there is none
abbrev pub IsNext : Next Phase → Traced → Type 0
IsNext (Go phase) e = IsEventOf phase e
IsNext (Wait phase) e = IsEventOf phase e
IsNext (Done answer) e = ⊥

-- each step is the one that comes where the operation stands
abbrev pub IsTrace : Config → ℕ → Op → List Traced → Type 0
IsTrace c t op [] = Unit {0}
IsTrace c t op (e ∷ earlier) = IsNext (state_of_trace c t op earlier).comes e × IsTrace c t op earlier

-- A view's trace: it is a trace of the view's operation, which stands where the view says. Its actions came on top of those that the
-- task had when it began, and with the accesses that these leave it may begin. A view with no operation has done nothing.
pub record FollowsOrder (c : Config) (t : ℕ) (v : View) (op : Op) : Type 0 where
  pub trace : IsTrace c t op v.trace
  pub phase : v.phase ≡ phase_after (state_of_trace c t op v.trace).comes
  pub actions : v.actions ≡ (state_of_trace c t op v.trace).added ++ v.before
  pub begins : refusal c false (holdings_of v.before) op ≡ None

-- the same of a view that may have no operation
abbrev pub IsTraced : Config → ℕ → View → Option Op → Type 0
IsTraced c t v None = (v.phase ≡ None) × (v.actions ≡ []) × (v.trace ≡ [])
IsTraced c t v (Some op) = FollowsOrder c t v op

-- the next step of each task is on a word that holds what it may
abbrev pub EventsMayBe : Config → World → Type 0
EventsMayBe c w = (t : ℕ) → t < c.tasks → (phase : Phase) (hook : HookAnswer) → (w.views t).phase ≡ Some phase →
    ReadIsValid phase (next_of phase hook).0 (value_at w.words phase hook)

-- the trace of each task number is one of its operation
abbrev pub AllTraced : Config → World → Type 0
AllTraced c w = (t : ℕ) → IsTraced c t (w.views t) (w.views t).op
