-- A start or a last close that is blocked stays so by its own steps, which leave the words that others are blocked by.
use Rattle.gate_schedules.proofs.Prelude.{Done, DownRead, DownReadStep, Go, Next, Wait, Words, arith, down_read_after, down_read_next, false}
use Rattle.gate_schedules.proofs.Prelude.{found_by, read, true, unpack, ◌≡◌}
use Rattle.percpu_rwsem.specs.{Readers.step_found, declared.readers.DownReadStep.TheVariants.CountsUpSlow}
use Rattle.gate_schedules.specs.operations.Progress.{is_admitted}

-- what comes after a step of a start that is blocked is that start, which waits and isn't admitted
abbrev pub StaysKept : DownRead → Next DownRead → Type 0
StaysKept r (Go next) = (next.wait ≡ true) × (is_admitted next.step ≡ false) × (next.level ≡ r.level)
StaysKept r (Wait next) = (next.wait ≡ true) × (is_admitted next.step ≡ false) × (next.level ≡ r.level)
StaysKept r (Done answer) = ⊥

-- each step of a start that waits at a closed level, where readers are slow
pub start_stays : (w : Words) (r : DownRead) → r.wait ≡ true → w.block r.level ≡ 1 → step_found (unpack (w.sync r.level)) ≡ CountsUpSlow →
    (s : DownReadStep) → is_admitted s ≡ false →
    StaysKept r (down_read_after r s (found_by (down_read_next r s).1 (read w (down_read_next r s).0))).0
start_stays w r wait set slow s not = grind arith
