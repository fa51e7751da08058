-- Of a call that was refused: the moment of a schedule at which its refusal has its cause.
use Rattle.std.specs.Prelude.{Err, List, Some, [], ℕ, ◌<◌, ◌∷◌, ◌≡◌}
use Rattle.{access_model.specs.declared.{errors.GateError.GateError, replies.Next.TheVariants.Done}, cpu_words.specs.Touches.event_of}
use Rattle.gate_world.specs.{Configs.IsWithin, Headline.world_after, Views.with_hook, Work.{after_of, next_of}, Worlds.found_at}
use Rattle.gate_world.specs.declared.{config.Config.Config, entries.Entry.Entry, operations.Op.Op, views.Traced.Traced, work.Phase.Phase}
use Rattle.gate_world.specs.refusals.Causes.{HasCause, since_begun, trail_of}

-- A schedule ends right before the step with which an operation of this number is refused. In its state the operation is under way, with just
-- these earlier steps; the step finds there what it says that it found, and ends the operation with this refusal; and that has its cause
-- among the states of the schedule since the operation began.
pub record IsCausedBy (c : Config) (t : ℕ) (op : Op) (earlier : List Traced) (last : Traced) (refusal : GateError) : Type 0 where
  pub within : IsWithin c
  pub task : t < c.tasks
  pub entries : List Entry
  pub phase : Phase
  pub at : ((world_after c entries).views t).phase ≡ Some phase
  pub under_way : ((world_after c entries).views t).op ≡ Some op
  pub events : ((world_after c entries).views t).trace ≡ earlier
  pub finds : last ≡ with_hook (event_of (next_of phase last.hook).0 (next_of phase last.hook).1
      (found_at (world_after c entries).words phase last.hook)) last.hook
  pub ends : (after_of phase (found_at (world_after c entries).words phase last.hook) last.hook).0 ≡ Done (Err refusal)
  pub cause : HasCause c t (since_begun t (trail_of c entries)) phase refusal

-- the same of an operation's whole trace
abbrev pub HasItsCause : Config → ℕ → Op → List Traced → GateError → Type 0
HasItsCause c t op [] refusal = ⊥
HasItsCause c t op (last ∷ earlier) refusal = IsCausedBy c t op earlier last refusal
