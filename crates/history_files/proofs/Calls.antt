-- The first fault of the lines of a race is that of what they call.
use Rattle.std.proofs.Common.{◌≡◌, ◌∙◌, ◌⊎◌, sym, ap, ℕ, List, [], ◌∷◌, ◌++◌, Option, None, Result, Ok, Err, inl, inr}
use Rattle.race_files.proofs.Reading.{behind_call}
use Rattle.race_files.specs.{Calls.{TaskCalls, calls_after, calls_of, no_calls}, Faults.{IsToldOrMemory}, FirstFaults.{FailsInCalls, IsMemory, calls_with_next}}
use Rattle.race_files.specs.{Left.{Left, calls_left}, declared.faults.RaceFault.{RaceFault}}
use Rattle.schedule_lines.specs.declared.faults.Fault.{Fault}

-- lines before others, which call this
calls_over : (tasks : ℕ) (end : Option Fault) (before after : List (List ℕ)) (from calls : List TaskCalls) → calls_of tasks None before from ≡ Ok calls →
    calls_of tasks end (before ++ after) from ≡ calls_of tasks end after calls
unfolding calls_of
calls_over tasks end [] after from calls is = let same : from ≡ calls = cc in ap (calls_of tasks end after) same
calls_over tasks end (first ∷ others) after from calls is =
    by (λ (c : List TaskCalls) (e : calls_of tasks None others c ≡ Ok calls). calls_over tasks end others after c calls e) (calls_after tasks from first) is
  where
    by : ((c : List TaskCalls) → calls_of tasks None others c ≡ Ok calls → calls_of tasks end (others ++ after) c ≡ calls_of tasks end after calls) →
        (r : Result (List TaskCalls) RaceFault) → behind_call tasks None others r ≡ Ok calls →
        behind_call tasks end (others ++ after) r ≡ calls_of tasks end after calls
    by next (Ok c) e = next c e
    by next (Err fault) e = cc

-- the fault at the next line
next_fails : (tasks : ℕ) (end : Option Fault) (lines : List (List ℕ)) (calls : List TaskCalls) (fault : RaceFault) →
    calls_with_next tasks end lines calls ≡ Err fault → calls_of tasks end lines calls ≡ Err fault
unfolding calls_of
next_fails tasks end [] calls fault e = e
next_fails tasks end (line ∷ others) calls fault e = ap (behind_call tasks end others) e

-- so all lines have it, which are these
pub fails_told : (tasks : ℕ) (all left whole : Left) → all ≡ whole → (fault : RaceFault) → FailsInCalls tasks all left fault ⊎ IsMemory fault →
    IsToldOrMemory (calls_left tasks whole) fault
fails_told tasks all left whole same fault (inr memory) = inl memory
fails_told tasks all left whole same fault (inl fails) = inr (
    ap (calls_left tasks) (sym same)
    ∙ ap (λ (end : Option Fault). calls_of tasks end all.lines (no_calls tasks)) (sym fails.before.end)
    ∙ ap (λ (lines : List (List ℕ)). calls_of tasks left.fault lines (no_calls tasks)) fails.before.lines
    ∙ calls_over tasks left.fault fails.before.before left.lines (no_calls tasks) fails.calls fails.before.called
    ∙ next_fails tasks left.fault left.lines fails.calls fault fails.fails)
