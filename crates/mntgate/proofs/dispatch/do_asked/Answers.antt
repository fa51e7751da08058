use Rattle.mntgate.proofs.Asked.{history_ended, outcomes_ended, replay_ended}
use Rattle.mntgate.proofs.dispatch.do_asked.Goals as goal

pub returns-in-Outcomes : goal.returns-in-Outcomes
returns-in-Outcomes g c =
    outcomes_ended _ _ _ _ _ _ c.run_outcomes.result c.in-Outcomes.is c.run_outcomes.ensures.ends c.run_outcomes.ensures.told

pub returns-in-Replay : goal.returns-in-Replay
returns-in-Replay g c = replay_ended _ _ _ _ _ _ _ c.in-Replay.is record {
  ends = c.run_replay.ensures.ends;
  plain = c.run_replay.ensures.plain;
  of_file = c.run_replay.ensures.of_file;
  named = c.run_replay.ensures.named;
}

pub returns-in-Validate : goal.returns-in-Validate
returns-in-Validate g c = history_ended _ _ _ _ _ _ _ c.in-Validate.is c.run_validation.ensures
