-- Executions, transition by transition.
use Rattle.gate_schedules.proofs.Prelude.{Action, Config, Entry, List, Option, World, [], ap, arith, happens, refl, run, sym, ℕ, ◌∙◌, ◌∷◌, ◌≡◌}
use Rattle.std.proofs.Common.{append_assoc, ◌++◌}
use Rattle.{access_model.specs.Histories.Done, gate_world.specs.Worlds.{action_of, history, task_of, with_action}}

pub run_more : (c : Config) (w : World) (es : List Entry) (e : Entry) → run c w (es ++ e ∷ []) ≡ happens c (run c w es) e
run_more c w [] e = refl
run_more c w (x ∷ es) e = run_more c (happens c w x) es e

-- one action more, or none, goes before all earlier ones
with_earlier : (t : ℕ) (a : Option Action) (earlier : List Done) → with_action t a earlier ≡ with_action t a [] ++ earlier
with_earlier t a earlier = grind arith

-- the actions of an execution go before all earlier ones
pub history_on : (c : Config) (w : World) (earlier : List Done) (es : List Entry) → history c w earlier es ≡ history c w [] es ++ earlier
history_on c w earlier [] = refl
history_on c w earlier (e ∷ es) =
    let next : World = happens c w e in
    let one : List Done = with_action (task_of e) (action_of c w e) [] in
    history_on c next (with_action (task_of e) (action_of c w e) earlier) es ∙
    (ap (λ (l : List Done). history c next [] es ++ l) (with_earlier (task_of e) (action_of c w e) earlier) ∙
    (sym (append_assoc (history c next [] es) one earlier) ∙ ap (λ (l : List Done). l ++ earlier) (sym (history_on c next one es))))
