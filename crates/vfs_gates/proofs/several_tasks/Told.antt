-- A call comes after all that its task was told.
use Rattle.vfs_gates.proofs.Prelude.{Action, Called, Config, DealtNumbers, Entry, GateError, HasDone, HasSeen, HaveHistory, IsPrefix, List, Op, Reply}
use Rattle.vfs_gates.proofs.Prelude.{Result, SeatedTask, StaySeen, TakesEffect, Traced, [], actions_append, actions_since, actions_so_far, after_more}
use Rattle.vfs_gates.proofs.Prelude.{ap, arith, call_effect, get_elem?, length, own_actions, own_number, own_part, own_view, part_append, ran_items}
use Rattle.vfs_gates.proofs.Prelude.{refl, same_stays_seen, state_of_trace, stays_seen_on, subst, sym, ℕ, ◌++◌, ◌∙◌, ◌∷◌, ◌≡◌, ◌≤◌}
use Rattle.vfs_gates.{proofs.several_tasks.{Enclosed.done_there, FrozenUntilThawed.{some_number, some_ran}}, specs.Meetings.{ComesAfterList, SawList}}

-- what a task's own number has done after an operation
ran_list : (c : Config) (op : Op) (trace : List Traced) (items : DealtNumbers) → 1 ≤ length items →
    (own_view (ran_items c op trace items)).actions ≡ (state_of_trace c (own_number items) op trace).added ++ (own_view items).actions
ran_list c op trace [] there = absurd (omega arith)
ran_list c op trace (x ∷ items) there = refl

pub comes_after_list : (op : Op) (old left : SeatedTask) (answer : Result Reply GateError) (n : ℕ) (list : List Action) → Called op old left answer →
    SawList old.config n list old.seen → ComesAfterList n list old left
comes_after_list op old left answer n list called told =
    let c : Config = old.config in
    let there : 1 ≤ length old.items = some_number c op old.items old.seen left.seen called.trace answer called.ends called.moves in
    let effect : TakesEffect c old.items op called.trace old.seen left.seen called.history.history.log = call_effect op old left answer called in
    let one : List Entry = told.history.history.reached.entries in
    let here : HasSeen one old.seen = told.saw 0 one (ap (λ l. get_elem? l 0) told.history.last) in
    let from : IsPrefix one effect.began = after_more one here.1 effect.began here.3 (effect.begins.saw here.0 here.1 here.2) in
    let gap = actions_since c one from.0 in record {
      all = called.history;
      since = actions_since c effect.began effect.since;
      before = actions_so_far c effect.began;
      is = effect.grows;
      more = own_part n gap;
      behind = ap (λ (l : List Entry). own_part n (actions_so_far c l)) from.1 ∙
          (ap (own_part n) (actions_append c one from.0) ∙
          (part_append n gap (actions_so_far c one) ∙
          ap (λ (l : List Action). own_part n gap ++ l) (done_there c told.items told.then told.history n list told.there)));
      adds = ap (λ (t : SeatedTask). (own_view t.items).actions) called.after ∙
          (ran_list c op called.trace old.items there ∙
          ap (λ (l : List Action). l ++ (own_view old.items).actions) (sym effect.added));
    }

-- a task's own number has its list among its numbers
own_there : (items : DealtNumbers) → 1 ≤ length items → HasDone (own_number items) (own_view items).actions items
own_there [] there = absurd (omega arith)
own_there (x ∷ xs) there = record { place = 0; view = x.view; there = refl; done = refl }

pub own_list : (op : Op) (old left : SeatedTask) (answer : Result Reply GateError) → Called op old left answer →
    SawList left.config (own_number left.items) (own_actions left) left.seen
own_list op old left answer called =
    let there : 1 ≤ length left.items =
    subst (λ (t : SeatedTask). 1 ≤ length t.items) (sym called.after) (some_ran old.config op called.trace old.items
    (some_number old.config op old.items old.seen left.seen called.trace answer called.ends called.moves)) in record {
      items = left.items;
      then = left.seen;
      history = subst (λ (c : Config). HaveHistory c left.items left.seen) (sym (ap (λ (t : SeatedTask). t.config) called.after)) called.history;
      there = own_there left.items there;
      saw = same_stays_seen left.seen;
    }

pub sent_list : (c : Config) (n : ℕ) (list : List Action) (seen now : List (List Entry)) → SawList c n list seen → StaySeen seen now →
    SawList c n list now
sent_list c n list seen now told stays =
    record { items = told.items; then = told.then; history = told.history; there = told.there; saw = stays_seen_on told.then seen now told.saw stays }
