use Rattle.std.proofs.Common.{ap, ◌∙◌}
use Rattle.schedule_lines.specs.declared.faults.FaultKind.TheVariants.{Schedule}
use Rattle.transcripts.proofs.Replaying.{never_begun}
use Rattle.transcripts.proofs.line_replay.replay_to_end.Goals as goal

pub returns-in-Err-clause-replayed : goal.returns-in-Err-clause-replayed
returns-in-Err-clause-replayed g c known =
    let told = c.fault_after.ensures in
    never_begun _ _ c.fault_after.result (told.kind ∙ ap Schedule c.no_memory.ensures) told.line
