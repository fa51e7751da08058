-- What a holder has frozen stays, tree and all, until it is thawed.
use Rattle.vfs_gates.proofs.Prelude.{Action, Bool, Called, Config, DealtNumbers, EndedWith, Entry, Freeze, GateError, HasDone, HasSeen, HaveHistory}
use Rattle.vfs_gates.proofs.Prelude.{Hold, Holder, IsLegal, IsPrefix, List, Ok, Op, Reply, Result, SeatedTask, State, StaySeen, View, []}
use Rattle.vfs_gates.proofs.Prelude.{actions_append, actions_since, actions_so_far, after_more, ap, append_cancel_right, end_of, eqb_tells, get_elem?}
use Rattle.vfs_gates.proofs.Prelude.{held_by, if◌then◌else◌, inl, inr, model_limits, only, own_actions, own_number, own_part, own_view, part_append}
use Rattle.vfs_gates.proofs.Prelude.{refl, shown, some, stays_seen_on, subst, sym, true, with_holder, ℕ, ◌++◌, ◌<◌, ◌∙◌, ◌∷◌, ◌≡◌}
use Rattle.access_model.{proofs.Frozen.frozen_still, specs.{Histories.Done, Laws.{IsFrozenStill, NeverLeaves}}}
use Rattle.access_model.specs.declared.actions.{Holder.TheVariants.{Kernel, User}, Holders.Holders}
use Rattle.gate_steps.proofs.call_events.Grown.{call_stays_seen}
use Rattle.vfs_gates.proofs.{Holding.{adds, stays}, several_tasks.Enclosed.done_there}
use Rattle.vfs_gates.{proofs.several_tasks.FrozenUntilThawed.{OnlyThawsBy, by_lists, held_so, only_behind}, specs.Frozen.{NeverThaws, holders_of}}

-- by a history in which only one number leaves, and that one doesn't, nobody leaves
never_leaves : (h : Holder) (n : ℕ) (log : List Done) → OnlyThawsBy h n log → NeverThaws h (own_part n log) → NeverLeaves h log
never_leaves h n [] only own = tt
never_leaves h n (a ∷ earlier) only own =
    let OwnIf : Bool → Type 0 = λ mine. NeverThaws h (if mine then a.1 ∷ own_part n earlier else own_part n earlier) in
    elim (eqb_tells a.0 n) [
      | inl is ↦ let mine = subst OwnIf is.0 own in (mine.0, never_leaves h n earlier only.1 mine.1)
      | inr other ↦ (only.0 other.1, never_leaves h n earlier only.1 (subst OwnIf other.0 own))
    ]

only_since : (h : Holder) (n : ℕ) (later earlier : List Done) → OnlyThawsBy h n (later ++ earlier) → OnlyThawsBy h n later
only_since h n [] earlier only = tt
only_since h n (a ∷ later) earlier only = (only.0, only_since h n later earlier only.1)

-- a state whose schedule goes on from another's has that one's history behind its own
grown : (c : Config) (one two : DealtNumbers) (s r : List (List Entry)) (first : HaveHistory c one s) (last : HaveHistory c two r) → StaySeen s r →
    (more : List Done) × (last.history.log ≡ more ++ first.history.log)
grown c one two s r first last stay =
    let a : List Entry = first.history.reached.entries in
    let b : List Entry = last.history.reached.entries in
    let saw : HasSeen a r = stay 0 a (ap (λ l. get_elem? l 0) first.last) in
    let same : b ≡ saw.1 = only b saw.0 saw.1 (subst (λ l. get_elem? l saw.0 ≡ some saw.1) last.last saw.2) in
    let on : IsPrefix a b = subst (IsPrefix a) (sym same) saw.3 in (
      actions_since c a on.0,
      sym last.history.reached.made ∙
          (ap (actions_so_far c) on.1 ∙
          (actions_append c a on.0 ∙ ap (λ (l : List Done). actions_since c a on.0 ++ l) first.history.reached.made)),
    )

-- Between two states, the second of which goes on from the first: a number has a freeze for this holder by its list in the first, and it has not
-- left since, nor has any other.
still_since : (h : Holder) (c : Config) (n : ℕ) (one two : DealtNumbers) (s r : List (List Entry)) (first : HaveHistory c one s)
    (last : HaveHistory c two r) (list added : List Action) → StaySeen s r → own_part n first.history.log ≡ list →
    own_part n last.history.log ≡ added ++ list → held_by (holders_of list) h ≡ true → NeverThaws h added → OnlyThawsBy h n last.history.log →
    IsFrozenStill h (shown c first.world) (shown c last.world)
still_since h c n one two s r first last list added stay own_first own_last holds never only_last =
    let early : List Done = first.history.log in
    let (since, is) = grown c one two s r first last stay in
    let only_both : OnlyThawsBy h n (since ++ early) = subst (OnlyThawsBy h n) is only_last in
    let own_since : own_part n since ≡ added = append_cancel_right (own_part n since) added list
    (ap (λ (l : List Action). own_part n since ++ l) (sym own_first) ∙ (sym (part_append n since early) ∙ (sym (ap (own_part n) is) ∙ own_last))) in
    let held : held_by (end_of early).holders h ≡ true = held_so (model_limits c) h n early first.history.legal
    (only_behind h n since early only_both) (subst (λ (l : List Action). held_by (holders_of l) h ≡ true) (sym own_first) holds) in
    let legal : IsLegal (model_limits c) (since ++ early) = subst (IsLegal (model_limits c)) is last.history.legal in
    let still : IsFrozenStill h (end_of early) (end_of (since ++ early)) =
    frozen_still (model_limits c) h since early legal held
    (never_leaves h n since (only_since h n since early only_both) (subst (NeverThaws h) (sym own_since) never)) in
    subst (λ (z : State × State). IsFrozenStill h z.0 z.1)
    (λ i. (first.history.end i, (ap end_of (sym is) ∙ last.history.end) i)) still

pub tree_stays : (h : Holder) (c : Config) (n : ℕ) (one two three : DealtNumbers) (s r q : List (List Entry)) (first : HaveHistory c one s)
    (last : HaveHistory c two r) (end : HaveHistory c three q) (list added : List Action) → StaySeen s r → StaySeen r q → HasDone n list one →
    HasDone n (added ++ list) two → held_by (holders_of list) h ≡ true → NeverThaws h added →
    ((t : ℕ) → t < c.tasks → (t ≡ n → ⊥) → NeverThaws h (end.world.views t).actions) → IsFrozenStill h (shown c first.world) (shown c last.world)
tree_stays h c n one two three s r q first last end list added on_last on_end at_first at_last holds never others =
    let (later, there) = grown c two three r q last end on_end in
    let only_end : OnlyThawsBy h n end.history.log = by_lists h (model_limits c) n end.history.log end.history.legal
    (λ t lt other. subst (NeverThaws h) (sym (end.history.lists t)) (others t lt other)) in
    still_since h c n one two s r first last list added on_last
    (ap (own_part n) (sym first.history.reached.made) ∙ done_there c one s first n list at_first)
    (ap (own_part n) (sym last.history.reached.made) ∙ done_there c two r last n (added ++ list) at_last) holds never
    (only_behind h n later last.history.log (subst (OnlyThawsBy h n) there only_end))

-- what closed gates leave has behind it the history of each state that their last task had seen
ended_on : (c : Config) (two : DealtNumbers) (r : List (List Entry)) (last : HaveHistory c two r) (ws : List ℕ) (items : DealtNumbers)
    (seen : List (List Entry)) (e : EndedWith c ws items seen) → StaySeen r seen →
    (more : List Done) × (e.ended.history.log ≡ more ++ last.history.log)
ended_on c two r last ws items seen e stay =
    let b : List Entry = last.history.reached.entries in
    let end : List Entry = e.ended.history.reached.entries in
    let saw : HasSeen b seen = stay 0 b (ap (λ l. get_elem? l 0) last.last) in
    let on : IsPrefix b end = after_more b saw.1 end saw.3 (e.goes_on.goes_on saw.0 saw.1 saw.2) in (
      actions_since c b on.0,
      sym e.ended.history.reached.made ∙
          (ap (actions_so_far c) on.1 ∙
          (actions_append c b on.0 ∙ ap (λ (l : List Done). actions_since c b on.0 ++ l) last.history.reached.made)),
    )

-- a task's own list is its number's part of the history that a call of it leaves
own_so : (c : Config) (items : DealtNumbers) (s : List (List Entry)) (whole : HaveHistory c items s) → ((own_view items).actions ≡ [] → ⊥) →
    own_part (own_number items) whole.history.log ≡ (own_view items).actions
own_so c [] s whole some_done = absurd (some_done refl)
own_so c (x ∷ xs) s whole some_done = whole.history.lists x.number ∙ ap (λ (v : View). v.actions) (whole.mine 0 x refl)

pub now_held : (h : Holder) (held : Holders) → held_by (with_holder h true held) h ≡ true
now_held Kernel held = refl
now_held User held = refl

not_none : (l rest : List Action) (a : Action) → l ++ a ∷ rest ≡ [] → ⊥
not_none [] rest a none = let no : ⊥ = cc in no
not_none (b ∷ l) rest a none = let no : ⊥ = cc in no

-- so between a task's freeze and a later call of it, if it doesn't thaw meanwhile, nor does anybody else
pub tree_stays_between : (h : Holder) (op : Op) (old frozen begins left : SeatedTask) (reply : Reply) (answer : Result Reply GateError)
    (added : List Action) (first : Called (Freeze h) old frozen (Ok reply)) (last : Called op begins left answer) → begins.config ≡ old.config →
    own_number begins.items ≡ own_number frozen.items → StaySeen frozen.seen begins.seen → own_actions left ≡ added ++ own_actions frozen →
    NeverThaws h added → (ws : List ℕ) (items : DealtNumbers) (seen : List (List Entry)) (e : EndedWith old.config ws items seen) →
    StaySeen left.seen seen →
    ((t : ℕ) → t < old.config.tasks → (t ≡ own_number frozen.items → ⊥) → NeverThaws h (e.ended.world.views t).actions) →
    IsFrozenStill h (shown old.config first.history.world) (shown begins.config last.history.world)
tree_stays_between h op old frozen begins left reply answer added first last config own saw list never ws items seen e stay others =
    let c : Config = old.config in
    let n : ℕ = own_number frozen.items in
    let has = adds (Freeze h) old frozen (Ok reply) first in
    let holds : held_by (holders_of (own_actions frozen)) h ≡ true =
    ap (λ (l : List Action). held_by (holders_of l) h) has ∙ now_held h _ in
    let number : own_number left.items ≡ n = (stays op begins left answer last).2 ∙ own in
    let done : own_actions frozen ≡ [] → ⊥ = λ none. not_none [] _ (Hold h) (sym has ∙ none) in
    let more : own_actions left ≡ [] → ⊥ =
    λ none. not_none added _ (Hold h) (ap (λ (l : List Action). added ++ l) (sym has) ∙ (sym list ∙ none)) in
    let only_end : OnlyThawsBy h n e.ended.history.log = by_lists h (model_limits c) n e.ended.history.log e.ended.history.legal
    (λ t lt other. subst (NeverThaws h) (sym (e.ended.history.lists t)) (others t lt other)) in
    subst (λ (d : Config). (whole : HaveHistory d left.items left.seen) → IsFrozenStill h (shown c first.history.world) (shown d whole.world)) (sym config)
    (λ whole.
    let (later, there) = ended_on c left.items left.seen whole ws items seen e stay in
    still_since h c n frozen.items left.items frozen.seen left.seen first.history whole (own_actions frozen) added
    (stays_seen_on frozen.seen begins.seen left.seen saw (call_stays_seen op begins left answer last))
    (own_so c frozen.items frozen.seen first.history done)
    (ap (λ m. own_part m whole.history.log) (sym number) ∙ (own_so c left.items left.seen whole more ∙ list)) holds never
    (only_behind h n later whole.history.log (subst (OnlyThawsBy h n) there only_end)))
    last.history
