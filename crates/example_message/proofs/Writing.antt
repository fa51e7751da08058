-- What calls leave of the writes in a task's list.
use Rattle.std.{proofs.Common.{List, [], ap, arith, ℕ, ◌++◌, ◌+◌, ◌∙◌, ◌∷◌, ◌≡◌, ◌≤◌}, specs.Prelude.{Err, Ok, OnOk, Result}}
use Rattle.access_model.specs.declared.{actions.Action.{Action, TheVariants.Grow}, errors.GateError.GateError}
use Rattle.gate_world.specs.{declared.operations.Op.{Op, TheVariants.Grow as GrowOp}, traces.Traces.actions_of}
use Rattle.vfs_gates.{proofs.{Holding.adds, Returning.was_done}, specs.{Held.own_actions, Runs.Performs, TaskStates.SeatedTask}}
use Rattle.example_message.specs.Words.{writes_in}

-- two lists have the writes of both
pub writes_more : (later earlier : List Action) → writes_in (later ++ earlier) ≡ writes_in later + writes_in earlier
writes_more [] earlier = omega arith
writes_more (Grow node blocks ∷ later) earlier = let rest = writes_more later earlier in omega (arith, rest)
writes_more (a ∷ later) earlier = writes_more later earlier

-- what a call that was done leaves: the writes that there were, and its own
with_its_own : (op : Op) (old left : SeatedTask) → Performs op old left (Ok tt) →
    (added : List Action) × (writes_in (own_actions left) ≡ writes_in added + writes_in (own_actions old))
with_its_own op old left did =
    let was = was_done op old left did in
    let added = actions_of op (Ok was.reply) was.called.trace in
    (added, ap writes_in (adds op old left (Ok was.reply) was.called) ∙ writes_more added (own_actions old))

pub not_fewer : (op : Op) (old left : SeatedTask) → Performs op old left (Ok tt) → writes_in (own_actions old) ≤ writes_in (own_actions left)
not_fewer op old left did = let its = with_its_own op old left did in omega (arith, its.1)

-- and a growth has one
pub one_more : (file blocks : ℕ) (old left : SeatedTask) → Performs (GrowOp file blocks) old left (Ok tt) →
    writes_in (own_actions left) ≡ 1 + writes_in (own_actions old)
one_more file blocks old left did =
    let was = was_done (GrowOp file blocks) old left did in
    ap writes_in (adds (GrowOp file blocks) old left (Ok was.reply) was.called)

-- So has a growth inside a write access.
pub wrote_once : (take give : Op) (file blocks : ℕ) (old inside grown left : SeatedTask) (outcome : Result (Unit {0}) GateError) →
    Performs take old inside (Ok tt) → Performs (GrowOp file blocks) inside grown outcome → Performs give grown left (Ok tt) →
    OnOk outcome (writes_in (own_actions old) + 1 ≤ writes_in (own_actions left))
wrote_once take give file blocks old inside grown left (Ok tt) took grew gave =
    let first = not_fewer take old inside took in
    let own = one_more file blocks inside grown grew in
    let last = not_fewer give grown left gave in omega (arith, first, own, last)
wrote_once take give file blocks old inside grown left (Err refusal) took grew gave = tt

-- what is so whatever a call answers
pub in_any_case : {P : Type 0} (outcome : Result (Unit {0}) GateError) → P → OnOk outcome P
in_any_case (Ok tt) its = its
in_any_case (Err refusal) its = tt
