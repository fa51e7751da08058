use Rattle.transcripts.specs.{Sessions.{ShowsPlay}, Transcript.{ReplayState}}
use Rattle.transcripts.proofs.Running.{OnTheWay}
use Rattle.transcripts.proofs.session.Session.run.Given as goal

-- the run is on its way from the play at which it began
abbrev pub invariant-loop-events : goal.invariant-loop-events
invariant-loop-events g l = (p : ReplayState) → ShowsPlay g.D.Driver.shows l.initial.self p → OnTheWay g.D.Driver.shows l.self p l.task l.failure l.events
