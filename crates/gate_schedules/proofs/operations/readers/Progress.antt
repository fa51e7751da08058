-- A start whose level is open, or that doesn't wait, an end, and a write access whose level and mount are open run out.
use Rattle.gate_schedules.proofs.Prelude.{Config, DownRead, DownReadStep, DownReads, IsUnblocked, PhaseEnds, RankDecreases, Words, WritePhase, ap}
use Rattle.gate_schedules.proofs.Prelude.{arith, down_read_after, down_read_next, false, found_at, found_by, left, put, rank, read, true, words_after}
use Rattle.gate_schedules.proofs.Prelude.{◌∙◌, ◌≡◌}
use Rattle.percpu_rwsem.specs.declared.readers.UpRead.{UpRead}
use Rattle.composite_ops.specs.write_access.Phases.{after as write_after, next as write_next}
use Rattle.gate_world.specs.{declared.work.Phase.TheVariants.{UpReads, Writes}, traces.TraceStates.WordIsValid}
use Rattle.gate_schedules.proofs.{frames.ValidWords.events_may_be, operations.deadlocks.RankDecreases.falls_as}
use Rattle.gate_schedules.specs.operations.{Progress.is_admitted, Ranks.{read_rank, write_rank}, Unblocked.{ReadIsUnblocked, WriteIsUnblocked}}

module _ (w : Words) (r : DownRead) where
  -- a down-read leaves each `block`
  pub read_blocks : (s : DownReadStep) →
      (put w (down_read_next r s).0 (left (down_read_next r s).1 (read w (down_read_next r s).0))).block ≡ w.block
  read_blocks s = grind arith

  pub read_block : (s : DownReadStep) →
      (put w (down_read_next r s).0 (left (down_read_next r s).1 (read w (down_read_next r s).0))).block r.level ≡ w.block r.level
  read_block s = ap (λ f. f r.level) (read_blocks s)

  -- each step of a down-read, whose sync word is one
  pub read_falls : (after : Words) → (s : DownReadStep) → WordIsValid (down_read_next r s).0 (read w (down_read_next r s).0) →
      (r.wait ≡ true → is_admitted s ≡ false → after.block r.level ≡ 0) →
      (r.wait ≡ true → is_admitted s ≡ false → w.block r.level ≡ 0) →
      RankDecreases (λ (y : DownRead). read_rank y.wait y.step) (ReadIsUnblocked after) (read_rank r.wait s)
      (down_read_after r s (found_by (down_read_next r s).1 (read w (down_read_next r s).0))).0
  read_falls after s may stays free = grind arith

-- of each phase of a start
pub read_ends : (c : Config) (r : DownRead) → PhaseEnds c (DownReads r)
read_ends c r = record {
  falls = λ lim w good t lt hook at free.
      let after : Words = words_after w.words (DownReads r) hook in
      let stays : r.wait ≡ true → is_admitted r.step ≡ false → after.block r.level ≡ 0 = λ e a. read_block w.words r r.step ∙ free e a in
      falls_as DownReads (rank after) (IsUnblocked c after) (read_rank r.wait r.step)
      (down_read_after r r.step (found_at w.words (DownReads r) hook)).0
      (read_falls w.words r after r.step (events_may_be c lim w good t lt (DownReads r) hook at) stays free);
}

-- of the one phase of an end
pub end_ends : (c : Config) (u : UpRead) → PhaseEnds c (UpReads u)
end_ends c u = record { falls = λ lim w good t lt hook at free. tt }

-- each step of a write access
write_falls : (w : Words) (x : WritePhase) → WriteIsUnblocked w x → WordIsValid (write_next x).0 (read w (write_next x).0) →
    let after : Words = put w (write_next x).0 (left (write_next x).1 (read w (write_next x).0)) in
    RankDecreases write_rank (WriteIsUnblocked after) (write_rank x) (write_after x (found_by (write_next x).1 (read w (write_next x).0))).0
write_falls w x free may = grind arith

-- of each phase of a write access
pub write_ends : (c : Config) (x : WritePhase) → PhaseEnds c (Writes x)
write_ends c x = record {
  falls = λ lim w good t lt hook at free.
      let after : Words = words_after w.words (Writes x) hook in
      falls_as Writes (rank after) (IsUnblocked c after) (write_rank x) (write_after x (found_at w.words (Writes x) hook)).0
      (write_falls w.words x free (events_may_be c lim w good t lt (Writes x) hook at));
}
