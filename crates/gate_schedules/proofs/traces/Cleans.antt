-- The marks that a trace has cleared are nothing that a task holds.
use Rattle.gate_schedules.proofs.Prelude.{Action, List, Touch, Traced, WordName, [], arith, holdings_of, ℕ, ◌∷◌, ◌≡◌}
use Rattle.std.proofs.Common.{◌++◌}
use Rattle.gate_world.specs.traces.Found.{clean_found, cleans}

-- these actions leave what the task holds as it was
abbrev pub LeaveAccesses : List Action → List Action → Type 0
LeaveAccesses actions before = holdings_of (actions ++ before) ≡ holdings_of before

-- clearing a mark leaves them, on top of actions that do
clean_leaves : (word : WordName) (touch : Touch) (found : ℕ) (actions rest before : List Action) → LeaveAccesses (actions ++ rest) before →
    LeaveAccesses (clean_found word touch found actions ++ rest) before
clean_leaves word touch found actions rest before h = grind arith

-- so does clearing each mark of a trace
pub cleans_leave : (trace : List Traced) (rest before : List Action) → LeaveAccesses rest before →
    LeaveAccesses (cleans trace ++ rest) before
cleans_leave [] rest before h = h
cleans_leave (e ∷ earlier) rest before h =
    clean_leaves e.event.word e.event.touch e.event.found (cleans earlier) rest before (cleans_leave earlier rest before h)
