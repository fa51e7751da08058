-- A close runs out, a last one where level 3 is open.
use Rattle.gate_schedules.proofs.Prelude.{ClosePhase, Config, IsUnblocked, Phase, PhaseEnds, RankDecreases, Words, arith, common_steps, found_at}
use Rattle.gate_schedules.proofs.Prelude.{found_by, left, put, rank, read, words_after}
use Rattle.{composite_ops.specs.file_closes.Phases.{after as close_after, next as close_next}, gate_world.specs.traces.TraceStates.CloseReadIsValid}
use Rattle.gate_schedules.{proofs.{frames.ValidWords.events_may_be, operations.deadlocks.RankDecreases.falls_as}, specs.operations.Ranks.close_rank}
use Rattle.gate_schedules.specs.operations.Unblocked.{CloseIsUnblocked}

-- each step of a close
close_falls : (w : Words) (x : ClosePhase) → CloseIsUnblocked w x → CloseReadIsValid x (read w (close_next x).0) →
    let after : Words = put w (close_next x).0 (left (close_next x).1 (read w (close_next x).0)) in
    RankDecreases close_rank (CloseIsUnblocked after) (close_rank x) (close_after x (found_by (close_next x).1 (read w (close_next x).0))).0
close_falls w x free h = grind (arith, common_steps)

pub close_ends : (c : Config) (x : ClosePhase) → PhaseEnds c (Phase.Closes x)
close_ends c x = record {
  falls = λ lim w good t lt hook at free.
      let after : Words = words_after w.words (Phase.Closes x) hook in
      falls_as Phase.Closes (rank after) (IsUnblocked c after) (close_rank x) (close_after x (found_at w.words (Phase.Closes x) hook)).0
      (close_falls w.words x free (events_may_be c lim w good t lt (Phase.Closes x) hook at));
}
