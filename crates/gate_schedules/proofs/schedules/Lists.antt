-- Each task's own list is its part of the history.
use Rattle.gate_schedules.proofs.Prelude.{Action, Config, Entry, GateError, HookAnswer, List, Op, Option, Phase, Some, World, [], arith, begin_of}
use Rattle.gate_schedules.proofs.Prelude.{happens, nat_lt, phase_action, run, step_of, ℕ, ◌∷◌}
use Rattle.{access_model.specs.Histories.{Done, IsMerge}, gate_world.specs.Worlds.{action_of, after_step_with_others, history, task_of, with_action}}

-- the lists of a state
abbrev pub lists : World → ℕ → List Action
lists w t = (w.views t).actions

-- after a step, also one of a task that has other numbers
pub beside_lists : (others : List (ℕ × ℕ)) (w : World) (earlier : List Done) (t : ℕ) (hook : HookAnswer) (phase : Phase) →
    IsMerge (lists w) earlier →
    IsMerge (lists (after_step_with_others others w t phase hook)) (with_action t (phase_action w hook (Some phase)) earlier)
beside_lists others w earlier t hook phase m x = grind arith

step_lists : (w : World) (earlier : List Done) (t : ℕ) (hook : HookAnswer) (p : Option Phase) → IsMerge (lists w) earlier →
    IsMerge (lists (step_of w t hook p)) (with_action t (phase_action w hook p) earlier)
step_lists w earlier t hook p m x = grind arith

pub begin_lists : (c : Config) (w : World) (earlier : List Done) (t : ℕ) (op : Op) (r : Option GateError) → IsMerge (lists w) earlier →
    IsMerge (lists (begin_of c w t op r)) earlier
begin_lists c w earlier t op r m x = grind arith

pub happens_lists : (c : Config) (w : World) (earlier : List Done) (e : Entry) → IsMerge (lists w) earlier →
    IsMerge (lists (happens c w e)) (with_action (task_of e) (action_of c w e) earlier)
happens_lists c w earlier e m = grind (arith, nat_lt, begin_lists, step_lists)

pub run_lists : (c : Config) (es : List Entry) (w : World) (earlier : List Done) → IsMerge (lists w) earlier →
    IsMerge (lists (run c w es)) (history c w earlier es)
run_lists c [] w earlier m = m
run_lists c (e ∷ es) w earlier m = run_lists c es (happens c w e) (with_action (task_of e) (action_of c w e) earlier)
    (happens_lists c w earlier e m)
