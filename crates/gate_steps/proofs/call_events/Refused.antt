-- What a refusal leaves, and when a call says that it waits.
use Rattle.gate_steps.proofs.Prelude.{Action, Config, DealtNumbers, Err, GateError, IsWithin, List, Next, Op, Phase, Traced, [], ap, arith, held_of}
use Rattle.gate_steps.proofs.Prelude.{own_number, refl, state_of_trace, subst, sym, ℕ, ◌++◌, ◌∙◌, ◌∷◌, ◌≡◌}
use Rattle.std.{proofs.{Common.{inl, true}, lemmas.List.Elements.All-from_recursion}, specs.{List.{All, AllByRecursion}, Prelude.if◌then◌else◌}}
use Rattle.access_model.specs.declared.actions.Action.TheVariants.{Reopen, Stage as StageAction}
use Rattle.cpu_words.specs.declared.{events.Touch.Touch, names.WordName.WordName}
use Rattle.gate_world.specs.{Beginnings.is_in_order, Holdings.holdings_of, Operations.{all_levels_closed, two_levels_closed}}
use Rattle.gate_world.specs.traces.{Found.{clean_found, cleans, stored_stage}, TraceStates.IsTrace, Traces.{Tells, actions_of}}
use Rattle.gate_schedules.proofs.operations.AllOperations.{op_keeps}
use Rattle.gate_steps.{proofs.call_events.Asked.either_way, specs.call_events.Refused.{IsHonestWait, IsUnchanged, LeavesTree, WaitsHonestly}}
use Rattle.gate_steps.specs.call_events.{Runs.ran_items, SeatedTasks.own_view}

-- each of these actions leaves the tree
abbrev EachLeaves : List Action → Type 0
EachLeaves l = AllByRecursion LeavesTree l

-- the marks that a trace has cleared, on top of actions that do
clean_more : (word : WordName) (touch : Touch) (found : ℕ) (l rest : List Action) → EachLeaves (l ++ rest) →
    EachLeaves (clean_found word touch found l ++ rest)
clean_more word touch found l rest h = grind arith

cleans_leave : (trace : List Traced) (rest : List Action) → EachLeaves rest → EachLeaves (cleans trace ++ rest)
cleans_leave [] rest h = h
cleans_leave (e ∷ earlier) rest h =
    clean_more e.event.word e.event.touch e.event.found (cleans earlier) rest (cleans_leave earlier rest h)

-- the levels that a freeze closes
two_leave : (trace : List Traced) → EachLeaves (two_levels_closed trace)
two_leave trace = grind (arith, cleans_leave)

all_leave : (trace : List Traced) → EachLeaves (all_levels_closed trace)
all_leave trace = (λ counts tree n. inl refl, (λ counts tree n. inl refl, two_leave trace))

-- a freeze that a hook refused has reopened them
reopened_leave : (trace : List Traced) → EachLeaves (
    if stored_stage 3 trace
    then Reopen 3 ∷ (StageAction 0 ∷ all_levels_closed trace)
    else StageAction 0 ∷ two_levels_closed trace
    )
reopened_leave trace =
    either_way EachLeaves (stored_stage 3 trace) (Reopen 3 ∷ (StageAction 0 ∷ all_levels_closed trace)) (StageAction 0 ∷ two_levels_closed trace)
    (λ counts tree n. inl refl, (λ counts tree n. inl refl, all_leave trace)) (λ counts tree n. inl refl, two_leave trace)

-- what a refused operation has added leaves the tree
each_leaves : (op : Op) (refusal : GateError) (trace : List Traced) → EachLeaves (actions_of op (Err refusal) trace)
each_leaves op refusal trace = grind (arith, cleans_leave, reopened_leave)

leaves : (op : Op) (refusal : GateError) (trace : List Traced) → All LeavesTree (actions_of op (Err refusal) trace)
leaves op refusal trace = All-from_recursion LeavesTree (actions_of op (Err refusal) trace) (each_leaves op refusal trace)

-- so a refusal leaves all unchanged, where the operation was in order
pub is_unchanged : (c : Config) (op : Op) (refusal : GateError) (trace : List Traced) (l : DealtNumbers) →
    is_in_order c (held_of (own_view l)) op ≡ true →
    (state_of_trace c (own_number l) op trace).added ≡ actions_of op (Err refusal) trace →
    IsUnchanged (state_of_trace c (own_number l) op trace).added (own_view l) (own_view (ran_items c op trace l))
is_unchanged c op refusal trace [] order is =
    record { held = refl; tree = subst (All LeavesTree) (sym is) (leaves op refusal trace) }
is_unchanged c op refusal trace (x ∷ xs) order is =
    record {
      held = ap (λ l. holdings_of (l ++ x.view.actions)) is ∙ (op_keeps c op).restores refusal trace x.view.actions order;
      tree = subst (All LeavesTree) (sym is) (leaves op refusal trace);
    }

-- what a trace tells of a wait
honest_wait : (c : Config) (op : Op) (e : Traced) (earlier : List Traced) (comes : Next Phase) (added : List Action) →
    Tells c op (e ∷ earlier) comes added → IsHonestWait c op (e ∷ earlier) comes
honest_wait c op e earlier comes added tells = grind arith

pub waits_honestly : (c : Config) (t : ℕ) (op : Op) → IsWithin c → (trace : List Traced) → IsTrace c t op trace → WaitsHonestly c t op trace
waits_honestly c t op within [] follows = tt
waits_honestly c t op within (e ∷ earlier) follows = (
  honest_wait c op e earlier (state_of_trace c t op (e ∷ earlier)).comes (state_of_trace c t op (e ∷ earlier)).added
      (((op_keeps c op).traces within).tells t (e ∷ earlier) follows),
  waits_honestly c t op within earlier follows.1,
)
