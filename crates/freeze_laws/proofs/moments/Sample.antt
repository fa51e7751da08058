-- A freeze of a read-only superblock, a moment of it, and a thaw.
use Rattle.std.proofs.Common.{List, [], arith, refl, ℕ, ◌∷◌, ◌≡◌}
use Rattle.access_model.specs.{Histories.{Done, IsLegal, end_of}, States.{Limits, opening_state}, declared.actions.{Action.Action, Gate.Gate}}
use Rattle.freeze_laws.{proofs.moments.Moments.{is_now, stays}, specs.moments.Moments.WasFrozenWith}

abbrev two_tasks : Limits
two_tasks = record { tasks = 2; mounts = 1; nodes = 2; capacity = 8 }

-- task 0 closes the superblock and freezes
abbrev frozen : List Done
frozen = (0, Action.Stage 4) ∷ (0, Action.SbRo) ∷ []

-- then task 1 takes level 1, and task 0 thaws
abbrev thawed : List Done
thawed = (0, Action.Stage 0) ∷ (1, Action.Grant (Gate.Level 1)) ∷ frozen

abbrev done_then : List (ℕ × ℕ)
done_then = (0, 2) ∷ (1, 0) ∷ []

-- the whole is allowed
its_legal : IsLegal two_tasks thawed
its_legal = grind arith

-- while it was frozen, tasks 0 and 1 had done 2 actions and none
its_moment : WasFrozenWith 2 opening_state.tree done_then thawed
its_moment =
    let now : WasFrozenWith 2 opening_state.tree done_then frozen =
    is_now 2 opening_state.tree done_then frozen (record { frozen = refl; same_tree = λ n lt. refl; have_done = (refl, (refl, tt)) }) in
    let more : WasFrozenWith 2 opening_state.tree done_then ((1, Action.Grant (Gate.Level 1)) ∷ frozen) =
    stays 2 opening_state.tree done_then frozen now (1, Action.Grant (Gate.Level 1)) in
    stays 2 opening_state.tree done_then ((1, Action.Grant (Gate.Level 1)) ∷ frozen) more (0, Action.Stage 0)

-- so an allowed trace may go on after such a moment, to another stage
pub sample : (l : Limits) × (log : List Done) × IsLegal l log × WasFrozenWith l.nodes opening_state.tree ((0, 2) ∷ (1, 0) ∷ []) log ×
    ((end_of log).stage ≡ 0)
sample = (two_tasks, thawed, its_legal, its_moment, refl)
