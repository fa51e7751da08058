-- The closing of a level leaves the words that others are blocked by, and ends only by passing the level.
use Rattle.gate_schedules.proofs.Prelude.{Action, DownWrite, DownWriteStep, Next, Option, Some, arith, down_write_after, ℕ, ◌≡◌}

-- what comes after a step of the closing of a level is at that level, or it has passed the level
abbrev pub StaysAtLevel : DownWrite → Next DownWrite → Option Action → Type 0
StaysAtLevel d (Next.Go next) action = next.level ≡ d.level
StaysAtLevel d (Next.Wait next) action = next.level ≡ d.level
StaysAtLevel d (Next.Done answer) action = action ≡ Some (Action.Pass d.level)

pub down_stays : (d : DownWrite) (s : DownWriteStep) (found : ℕ) →
    StaysAtLevel d (down_write_after d s found).0 (down_write_after d s found).1
down_stays d s found = grind arith
