-- Of every execution: a reply is near, or each operation under way is blocked; and all that is under way settles.
use Rattle.gate_schedules.proofs.Prelude.{Config, Entry, EventsKeepRule, IsWithin, List}
use Rattle.gate_world.specs.Headline.{world_after}
use Rattle.gate_schedules.proofs.operations.{AllOperations.{phase_ends, phase_keeps}, deadlocks.BlockedIsStable.blocked_stays}
use Rattle.gate_schedules.proofs.operations.deadlocks.{BlockedOrProgress.world_goes, RepliesOrFrozen.world_replies, Settles.world_settles}
use Rattle.gate_schedules.{proofs.schedules.HeadlineProof.whole_rule, specs.operations.Progress.{BlockedStaysBlocked, EventsMoveModel}}
use Rattle.gate_schedules.specs.operations.{Progress.{EverybodySettles, RepliesOrIsFrozen, ReplyOrAllBlocked}, Ranks.most_events_to_reply}
use Rattle.gate_schedules.specs.operations.Ranks.{most_events_to_settle}

module _ (c : Config) (lim : IsWithin c) where
  events_keep_rule : EventsKeepRule c
  events_keep_rule w good t lt hook phase at = ((phase_keeps c phase).step lim w good t lt hook at).0

  pub whole_progress : (es : List Entry) → ReplyOrAllBlocked c (most_events_to_reply c) es
  whole_progress es = world_goes c lim events_keep_rule (phase_ends c) (world_after c es) (whole_rule c lim es)

  pub whole_settles : (es : List Entry) → EverybodySettles c (most_events_to_settle c) es
  whole_settles es = world_settles c lim events_keep_rule (world_after c es) (whole_rule c lim es)

  pub whole_replies : (es : List Entry) → RepliesOrIsFrozen c (most_events_to_reply c) es
  whole_replies es = world_replies c lim events_keep_rule (world_after c es) (whole_rule c lim es)

  events_move_model : EventsMoveModel c
  events_move_model w good t lt hook phase at = ((phase_keeps c phase).step lim w good t lt hook at).1

  pub whole_kept : (es : List Entry) → BlockedStaysBlocked c es
  whole_kept es = blocked_stays c events_move_model (world_after c es) (whole_rule c lim es)
