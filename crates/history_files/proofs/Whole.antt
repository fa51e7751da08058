-- The first fault of a whole text.
use Rattle.std.proofs.Common.{List, Option, Some, ap, arith, codes, drop, inl, inr, length, subst, take, ℕ, ◌++◌, ◌+◌, ◌≡◌, ◌⊎◌}
use Rattle.{gate_core.specs.Memory.Memory, race_files.specs.{FirstFaults.IsFaultTold as IsSetUpFault, Left.{Left, lines_in}, Races.IsRaceIn}}
use Rattle.{races.specs.declared.calls.Call.Call, schedule_lines.specs.declared.bytes.replay_faults.ReplayFault.ReplayFault}
use Rattle.history_files.specs.{Faults.{FailsInRecord, IsFaultAt, IsMemory}, Files.IsFaultTold}
use Rattle.history_files.specs.{Files.{IsFaultTold.{BeforeHistory, BehindHistory, NoMemory}, history_from}, declared.faults.HistoryFault.HistoryFault}
use Rattle.history_files.specs.declared.files.HistoryPlace.{HistoryPlace}

module _ (bytes : List ℕ) (place : HistoryPlace) (found : history_from 1048576 0 0 bytes ≡ Some place) where
  -- it stands before the line `history`
  pub set_up_fails : (told : ReplayFault) → IsSetUpFault (lines_in 1048576 (take place.before bytes ++ codes "race\n")) told ⊎
      ((number : ℕ) × (fault : HistoryFault) × IsMemory fault × IsFaultAt number fault told) → IsFaultTold bytes told
  set_up_fails told (inl fault) = BeforeHistory place found fault
  set_up_fails told (inr memory) = NoMemory memory.0 memory.1 memory.2 memory.3

  -- or behind it
  pub record_fails : (core : Memory) (calls : List (List (Option Call))) → IsRaceIn (lines_in 1048576 (take place.before bytes ++ codes "race\n")) core calls →
      (tasks first done number : ℕ) (all left : Left) (fault : HistoryFault) (told : ReplayFault) → tasks ≡ core.config.tasks →
      all ≡ lines_in 1048576 (drop place.behind bytes) → first ≡ 0 → done + length left.lines ≡ first + length all.lines → number ≡ done + 1 →
      FailsInRecord tasks (place.number + 1) all left fault ⊎ IsMemory fault → IsFaultAt (place.number + number) fault told → IsFaultTold bytes told
  record_fails core calls set_up tasks first done number all left fault told same is none count next (inr memory) at =
      NoMemory (place.number + number) fault memory at
  record_fails core calls set_up tasks first done number all left fault told same is none count next (inl fails) at =
      let whole : length all.lines ≡ length (lines_in 1048576 (drop place.behind bytes)).lines = ap (λ (x : Left). length x.lines) is in
      let there : place.number + number ≡ place.number + done + 1 = omega (arith, next) in
      BehindHistory record {
        place = place;
        found = found;
        core = core;
        calls = calls;
        set_up = set_up;
        left = left;
        fault = fault;
        fails = subst (λ (n : ℕ). FailsInRecord n (place.number + 1) (lines_in 1048576 (drop place.behind bytes)) left fault) same
            (subst (λ (x : Left). FailsInRecord tasks (place.number + 1) x left fault) is fails);
        done = done;
        before = omega (arith, whole, none, count);
        at = subst (λ (n : ℕ). IsFaultAt n fault told) there at;
      }
