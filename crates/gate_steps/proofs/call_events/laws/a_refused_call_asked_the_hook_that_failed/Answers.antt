-- the law is a lemma of each
use Rattle.gate_steps.proofs.call_events.{FreezeAsks.refused_freeze, RemountAsks.refused_remount, ThawAsks.refused_thaw}
use Rattle.gate_steps.proofs.call_events.laws.a_refused_call_asked_the_hook_that_failed.Goals as goal

pub returns-clause-freeze : goal.returns-clause-freeze
returns-clause-freeze c = refused_freeze

pub returns-clause-thaw : goal.returns-clause-thaw
returns-clause-thaw c = refused_thaw

pub returns-clause-remount : goal.returns-clause-remount
returns-clause-remount c = refused_remount
