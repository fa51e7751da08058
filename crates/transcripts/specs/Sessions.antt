-- What a session is of a schedule on its way.
use Rattle.std.specs.Prelude.{◌≡◌, Option, Some, None}
use Rattle.model_state.specs.Shown.{bounded_state_of}
use Rattle.access_model.specs.Histories.{end_of}
use Rattle.gate_world.specs.{Configs.{model_limits}, Worlds.{World}, declared.config.Config.{Config}}
use Rattle.transcripts.specs.{Reached.{IsReached}, Transcript.{ReplayState}, declared.session.Session.{Session}}

-- what gates of this type show of a state
abbrev pub Showing : Type 0 → Type 1
Showing D = D → Config → World → Type 0

-- The session shows this play: its gates show its state, by what they show, the model is where the actions so far lead, and some schedule leads there.
pub record ShowsPlay {D : Type 0} (shows : Showing D) (session : Session D) (p : ReplayState) : Type 0 where
  pub config : session.config ≡ p.config
  pub driver : shows session.driver p.config p.world
  pub model : bounded_state_of session.model ≡ record { limits = model_limits p.config; state = end_of p.done }
  pub reached : IsReached p

-- there is a session where there is a play, and it shows this
abbrev pub ShowsPlayIfAny : {D : Type 0} → Showing D → Option (Session D) → Option ReplayState → Type 0
ShowsPlayIfAny shows None None = Unit {0}
ShowsPlayIfAny shows None (Some p) = ⊥
ShowsPlayIfAny shows (Some session) None = ⊥
ShowsPlayIfAny shows (Some session) (Some p) = ShowsPlay shows session p
