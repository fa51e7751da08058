-- A freeze stands until somebody thaws: what the task that has frozen finds.
use Rattle.vfs_gates.proofs.Prelude.{Action, AreMoves, Begins, Bool, Called, Config, DealtNumbers, EndedWith, Entry, Err, Event, GateError, HasSeen}
use Rattle.vfs_gates.proofs.Prelude.{HaveHistory, Hold, Holder, IsEventDuring, IsHonestAnswer, IsLegal, IsPrefix, IsWithin, Limits, List, Numbered}
use Rattle.vfs_gates.proofs.Prelude.{Op, Reply, Result, SeatedTask, State, StaySeen, Steps, Thaw, Touch, Traced, View, WordName, Words, []}
use Rattle.vfs_gates.proofs.Prelude.{actions_append, actions_of, actions_since, actions_so_far, after_action, after_more, and_parts, ap, append_assoc}
use Rattle.vfs_gates.proofs.Prelude.{append_cancel_right, arith, cases_Bool, each_event, end_of, eqb_tells, event_of, false, false≢true, found_by}
use Rattle.vfs_gates.proofs.Prelude.{get_elem?, held_by, if◌then◌else◌, inl, inr, is_load, length, model_limits, next_of, not, only, own_actions}
use Rattle.vfs_gates.proofs.Prelude.{own_number, own_part, own_view, part_append, ran_items, read, refl, shown, some, state_of_trace, subst, sym}
use Rattle.vfs_gates.proofs.Prelude.{true, whole_run, with_holder, world_after, ℕ, ◌++◌, ◌<◌, ◌==◌, ◌∙◌, ◌∷◌, ◌≡◌, ◌≤◌, ◌⊎◌}
use Rattle.std.proofs.Common.{◌||◌}
use Rattle.access_model.{proofs.{Frozen.frozen_shut, Held.stays_frozen}, specs.{Histories.Done, Laws.IsFrozenFor}}
use Rattle.access_model.specs.declared.actions.{Action.TheVariants.Leave, Holder.TheVariants.{Kernel, User}, Holders.Holders}
use Rattle.access_model.specs.declared.{errors.GateError.TheVariants.Invalid, replies.Next.TheVariants.Done as Ends}
use Rattle.cpu_words.specs.declared.{events.Touch.TheVariants.Load, names.WordName.TheVariants.{Holders as HoldersWord, Stage}}
use Rattle.{freeze_levels.specs.Holders.holders_in, gate_steps.proofs.call_events.Effects.none_moves}
use Rattle.gate_world.specs.{Headline.IsOneRun, declared.operations.Op.TheVariants.Snapshot, traces.Found.{says_incomplete, says_unheld, some_event}}
use Rattle.gated_tree.specs.Refusals.{finds_thawed, loads_stage}
use Rattle.vfs_gates.{proofs.Holding.{adds, stays}, specs.Frozen.{NeedsFreeze, NeverThaws, holders_of}}

-- of a history: each action by which this holder leaves is of this number
abbrev pub OnlyThawsBy : Holder → ℕ → List Done → Type 0
OnlyThawsBy h n [] = Unit {0}
OnlyThawsBy h n (a ∷ earlier) = ((a.0 ≡ n → ⊥) → a.1 ≡ Leave h → ⊥) × OnlyThawsBy h n earlier

pub only_behind : (h : Holder) (n : ℕ) (later earlier : List Done) → OnlyThawsBy h n (later ++ earlier) → OnlyThawsBy h n earlier
only_behind h n [] earlier only = only
only_behind h n (a ∷ later) earlier only = only_behind h n later earlier only.1

-- it is so if no other number's own list has one
module _ (h : Holder) (t : ℕ) (a : Done) (earlier : List Done) (never : NeverThaws h (own_part t (a ∷ earlier))) where
  abbrev NeverIf : Bool → Type 0
  NeverIf own = NeverThaws h (if own then a.1 ∷ own_part t earlier else own_part t earlier)

  own_newest : a.0 ≡ t → a.1 ≡ Leave h → ⊥
  own_newest its = elim (eqb_tells a.0 t) [ inl is ↦ (subst NeverIf is.0 never).0 | inr other ↦ absurd (other.1 its) ]

  own_rest : NeverThaws h (own_part t earlier)
  own_rest = elim (eqb_tells a.0 t) [ inl is ↦ (subst NeverIf is.0 never).1 | inr other ↦ subst NeverIf other.0 never ]

pub by_lists : (h : Holder) (l : Limits) (n : ℕ) (log : List Done) → IsLegal l log →
    ((t : ℕ) → t < l.tasks → (t ≡ n → ⊥) → NeverThaws h (own_part t log)) → OnlyThawsBy h n log
by_lists h l n [] legal others = tt
by_lists h l n (a ∷ earlier) legal others = (
  λ other. own_newest h a.0 a earlier (others a.0 legal.0.0 other) refl,
  by_lists h l n earlier legal.1 (λ t lt other. own_rest h t a earlier (others t lt other)),
)

-- one action more of the number itself, and of another
with_on : (other h : Holder) (holds : Bool) (x y : Holders) → (held_by x h ≡ true → held_by y h ≡ true) →
    held_by (with_holder other holds x) h ≡ true → held_by (with_holder other holds y) h ≡ true
with_on Kernel Kernel holds x y on own = own
with_on Kernel User holds x y on own = on own
with_on User Kernel holds x y on own = on own
with_on User User holds x y on own = own

own_step : (h : Holder) (a : Action) (mine : List Action) (s : State) (t : ℕ) →
    (held_by (holders_of mine) h ≡ true → held_by s.holders h ≡ true) → held_by (holders_of (a ∷ mine)) h ≡ true →
    held_by (after_action s t a).holders h ≡ true
own_step h (Hold other) mine s t on own = with_on other h true (holders_of mine) s.holders on own
own_step h (Leave other) mine s t on own = with_on other h false (holders_of mine) s.holders on own
own_step h a mine s t on own = on own

-- so what this number's own list has frozen for this holder is frozen
pub held_so : (l : Limits) (h : Holder) (n : ℕ) (log : List Done) → IsLegal l log → OnlyThawsBy h n log →
    held_by (holders_of (own_part n log)) h ≡ true → held_by (end_of log).holders h ≡ true
held_so l h n [] legal only own = own
held_so l h n (a ∷ earlier) legal only own =
    let HeldIf : Bool → Type 0 = λ mine. held_by (holders_of (if mine then a.1 ∷ own_part n earlier else own_part n earlier)) h ≡ true in
    elim (eqb_tells a.0 n) [
      | inl is ↦ own_step h a.1 (own_part n earlier) (end_of earlier) a.0 (held_so l h n earlier legal.1 only.1) (subst HeldIf is.0 own)
      | inr other ↦
          let held : held_by (end_of earlier).holders h ≡ true = held_so l h n earlier legal.1 only.1 (subst HeldIf other.0 own) in
          (stays_frozen l (end_of earlier) a.0 a.1 h legal.0 ((frozen_shut l earlier legal.1).frozen h held, held) (only.0 other.1)).0.1
    ]

frozen_there : (c : Config) → IsWithin c → (h : Holder) (n : ℕ) (es : List Entry) → OnlyThawsBy h n (actions_so_far c es) →
    held_by (holders_of (own_part n (actions_so_far c es))) h ≡ true → IsFrozenFor (shown c (world_after c es)) h
frozen_there c lim h n es only own =
    let whole : IsOneRun c es = whole_run c lim es in
    let held : held_by (end_of (actions_so_far c es)).holders h ≡ true = held_so (model_limits c) h n (actions_so_far c es) whole.legal only own in
    subst (λ (s : State). IsFrozenFor s h) whole.end ((frozen_shut (model_limits c) (actions_so_far c es) whole.legal).frozen h held, held)

-- a load finds its word
is_loaded : (touch : Touch) → is_load touch ≡ true → touch ≡ Load
is_loaded Load is = refl
is_loaded touch is = absurd (false≢true is)

pub load_finds : (words : Words) (next : WordName × Touch) (e : Event) → e ≡ event_of next.0 next.1 (found_by next.1 (read words next.0)) →
    is_load e.touch ≡ true → e.found ≡ read words e.word
load_finds words next e is load =
    let touch : next.1 ≡ Load = sym (ap (λ (x : Event). x.touch) is) ∙ is_loaded e.touch load in
    ap (λ (x : Event). x.found) is ∙
    (ap (λ (t : Touch). found_by t (found_by t (read words next.0))) touch ∙ ap (read words) (sym (ap (λ (x : Event). x.word) is)))

-- where all is frozen for a holder no load says otherwise
no_incomplete : (words : Words) (word : WordName) (found : ℕ) → found ≡ read words word → words.stage ≡ 4 → says_incomplete word found ≡ true → ⊥
no_incomplete words Stage found is four says = false≢true (subst (λ n. not (n == 4) ≡ true) (is ∙ four) says)
no_incomplete words word found is four says = false≢true says

no_unheld : (h : Holder) (words : Words) (word : WordName) (found : ℕ) → found ≡ read words word →
    held_by (holders_in words.holders) h ≡ true → says_unheld h word found ≡ true → ⊥
no_unheld h words HoldersWord found is held says =
    false≢true (subst (λ b. not b ≡ true) (ap (λ n. held_by (holders_in n) h) is ∙ held) says)
no_unheld h words word found is held says = false≢true says

-- some step of a refused call says otherwise
abbrev SaysThawed : Holder → Event → Type 0
SaysThawed h e = (is_load e.touch ≡ true) × ((says_incomplete e.word e.found ≡ true) ⊎ (says_unheld h e.word e.found ≡ true))

abbrev pub SomeSays : (Event → Type 0) → List Traced → Type 0
SomeSays Says trace = (later : List Traced) × (e : Traced) × (earlier : List Traced) × (trace ≡ later ++ e ∷ earlier) × Says e.event

pub some_of : (test : Event → Bool) (Says : Event → Type 0) → ((e : Event) → test e ≡ true → Says e) → (trace : List Traced) →
    some_event test trace ≡ true → SomeSays Says trace
some_of test Says tells [] passes = absurd (false≢true passes)
some_of test Says tells (e ∷ earlier) passes =
    elim (cases_Bool (test e.event)) [
      | inl is ↦ ([], e, earlier, refl, tells e.event is)
      | inr none ↦
          let more = some_of test Says tells earlier (subst (λ b. (b || some_event test earlier) ≡ true) none passes) in
          (e ∷ more.0, more.1, more.2, ap (λ (l : List Traced). e ∷ l) more.3, more.4)
    ]

stage_says : (h : Holder) (word : WordName) (touch : Touch) (found : ℕ) → loads_stage word touch ≡ true → not (found == 4) ≡ true →
    (is_load touch ≡ true) × ((says_incomplete word found ≡ true) ⊎ (says_unheld h word found ≡ true))
stage_says h Stage Load found is says = (refl, inl says)
stage_says h word touch found is says = absurd (false≢true is)

says_thawed : (h : Holder) (op : Op) (c : Config) (trace : List Traced) → NeedsFreeze h op → IsHonestAnswer c op (Err Invalid) trace →
    SomeSays (SaysThawed h) trace
says_thawed h (Snapshot wait) c trace needs honest = some_of finds_thawed (SaysThawed h)
    (λ e is. let both = and_parts (loads_stage e.word e.touch) (not (e.found == 4)) is in stage_says h e.word e.touch e.found both.0 both.1)
    trace honest
says_thawed h (Thaw other) c trace needs honest = subst (λ k. SomeSays (SaysThawed k) trace) needs (elim honest [
  | inl incomplete ↦ some_of _ (SaysThawed other)
      (λ e is. let both = and_parts (is_load e.touch) (says_incomplete e.word e.found) is in (both.0, inl both.1)) trace incomplete
  | inr unheld ↦ some_of _ (SaysThawed other)
      (λ e is. let both = and_parts (is_load e.touch) (says_unheld other e.word e.found) is in (both.0, inr both.1)) trace unheld
])
says_thawed h op c trace needs honest = absurd needs

-- such a call has added nothing
none_added : (h : Holder) (op : Op) (trace : List Traced) → NeedsFreeze h op → actions_of op (Err Invalid) trace ≡ []
none_added h (Snapshot wait) trace needs = refl
none_added h (Thaw other) trace needs = refl
none_added h op trace needs = absurd needs

-- a list that is the same before and after more is so in between
nothing_first : (p q : List Action) → p ++ q ≡ [] → q ≡ []
nothing_first [] q none = none
nothing_first (a ∷ p) q none = absurd (let f : ⊥ = cc in f)

pub in_between : (p q own : List Action) → own ≡ p ++ (q ++ own) → q ++ own ≡ own
in_between p q own same =
    let none : p ++ q ≡ [] = append_cancel_right (p ++ q) [] own (append_assoc p q own ∙ sym same) in
    ap (λ (l : List Action). l ++ own) (nothing_first p q none)

-- a task's own number, by its place
own_listed : (done : ℕ → List Action) (items : DealtNumbers) → 1 ≤ length items →
    ((k : ℕ) (x : Numbered) → get_elem? items k ≡ some x → done x.number ≡ x.view.actions) → done (own_number items) ≡ (own_view items).actions
own_listed done [] there lists = absurd (omega arith)
own_listed done (x ∷ xs) there lists = lists 0 x refl

pub some_ran : (c : Config) (op : Op) (trace : List Traced) (items : DealtNumbers) → 1 ≤ length items → 1 ≤ length (ran_items c op trace items)
some_ran c op trace [] there = there
some_ran c op trace (x ∷ xs) there = omega arith

-- and a task with no number has no call
pub some_number : (c : Config) (op : Op) (items : DealtNumbers) (seen gone : List (List Entry)) (trace : List Traced) (answer : Result Reply GateError) →
    (state_of_trace c (own_number items) op trace).comes ≡ Ends answer → AreMoves c op items seen trace gone → 1 ≤ length items
some_number c op (x ∷ xs) seen gone trace answer ends moves = omega arith
some_number c op [] seen gone [] answer ends moves = absurd (let f : ⊥ = cc in f)
some_number c op [] seen gone (e ∷ earlier) answer ends moves = absurd (none_moves c op earlier e moves.0 gone _ moves.1)

-- A call that was refused and has added nothing.
module _ (op : Op) (old left : SeatedTask) (refusal : GateError) (called : Called op old left (Err refusal))
    (none : actions_of op (Err refusal) called.trace ≡ []) where
  abbrev c : Config
  c = old.config

  abbrev n : ℕ
  n = own_number old.items

  there : 1 ≤ length old.items
  there = some_number c op old.items old.seen left.seen called.trace (Err refusal) called.ends called.moves

  -- what its number has done in the schedule that it leaves
  list_left : IsWithin c → (last : List Entry) → left.seen ≡ last ∷ [] → own_part n (actions_so_far c last) ≡ own_actions old
  list_left lim last leaves =
      let whole : HaveHistory c left.items left.seen = called.history in
      let same : last ≡ whole.history.reached.entries =
      only last 0 whole.history.reached.entries (ap (λ l. get_elem? l 0) (sym leaves ∙ whole.last)) in
      let some_left : 1 ≤ length left.items =
      subst (λ (s : SeatedTask). 1 ≤ length s.items) (sym called.after) (some_ran c op called.trace old.items there) in
      let own : (whole.world.views (own_number left.items)).actions ≡ own_actions left =
      own_listed (λ t. (whole.world.views t).actions) left.items some_left (λ k x at. ap (λ (v : View). v.actions) (whole.mine k x at)) in
      let number : own_number left.items ≡ n = (stays op old left (Err refusal) called).2 in
      ap (own_part n) (ap (actions_so_far c) same ∙ whole.history.reached.made) ∙
      (whole.history.lists n ∙
      (ap (λ t. (whole.world.views t).actions) (sym number) ∙
      (own ∙
      (adds op old left (Err refusal) called ∙ ap (λ (l : List Action). l ++ own_actions old) none))))

  -- at each of its steps it has done what it had done before the call
  pub list_during : IsWithin c → (earlier : List Traced) (e : Traced) (during : IsEventDuring c old.items op earlier e old.seen left.seen) →
      own_part n (actions_so_far c during.entries) ≡ own_actions old
  list_during lim earlier e during =
      let began : List Entry = during.began in
      let es : List Entry = during.entries in
      let since : List Entry = Begins n op ∷ during.since in
      let rest : List Entry = Steps n e.hook ∷ during.rest in
      let had : own_part n (actions_so_far c began) ≡ own_actions old =
      (whole_run c lim began).lists n ∙ own_listed (λ t. ((world_after c began).views t).actions) old.items there during.begins.lists in
      let q : List Action = own_part n (actions_since c began since) in
      let p : List Action = own_part n (actions_since c es rest) in
      let so_far : own_part n (actions_so_far c es) ≡ q ++ own_actions old =
      ap (λ (l : List Entry). own_part n (actions_so_far c l)) during.is ∙
      (ap (own_part n) (actions_append c began since) ∙
      (part_append n (actions_since c began since) (actions_so_far c began) ∙ ap (λ (l : List Action). q ++ l) had)) in
      let whole : own_actions old ≡ p ++ (q ++ own_actions old) =
      sym (list_left lim (es ++ rest) during.leaves) ∙
      (ap (own_part n) (actions_append c es rest) ∙
      (part_append n (actions_since c es rest) (actions_so_far c es) ∙ ap (λ (l : List Action). p ++ l) so_far)) in
      so_far ∙ in_between p q (own_actions old) whole

module _ (h : Holder) (op : Op) (old left : SeatedTask) (called : Called op old left (Err Invalid)) (needs : NeedsFreeze h op) where
  -- so where no other number thaws, and its own list has the freeze, it isn't refused so
  pub stands : (ws : List ℕ) (items : DealtNumbers) (seen : List (List Entry)) (e : EndedWith old.config ws items seen) →
      held_by (holders_of (own_actions old)) h ≡ true → StaySeen left.seen seen →
      ((t : ℕ) → t < old.config.tasks → (t ≡ own_number old.items → ⊥) → NeverThaws h (e.ended.world.views t).actions) → ⊥
  stands ws items seen e holds stay others =
      let c : Config = old.config in
      let n : ℕ = own_number old.items in
      let lim : IsWithin c = e.ended.ruled.within in
      let end : List Entry = e.ended.history.reached.entries in
      let says : SomeSays (SaysThawed h) called.trace = says_thawed h op c called.trace needs called.honest in
      let during : IsEventDuring c old.items op says.2 says.1 old.seen left.seen =
      each_event c op old.items old.seen left.seen says.0 says.1 says.2
      (subst (λ (l : List Traced). AreMoves c op old.items old.seen l left.seen) says.3 called.moves) in
      let es : List Entry = during.entries in
      let rest : List Entry = Steps n says.1.hook ∷ during.rest in
      let saw : HasSeen (es ++ rest) seen = stay 0 (es ++ rest) (ap (λ l. get_elem? l 0) during.leaves) in
      let on : IsPrefix (es ++ rest) end = after_more (es ++ rest) saw.1 end saw.3 (e.goes_on.goes_on saw.0 saw.1 saw.2) in
      let only_end : OnlyThawsBy h n e.ended.history.log =
      by_lists h (model_limits c) n e.ended.history.log e.ended.history.legal
      (λ t lt other. subst (NeverThaws h) (sym (e.ended.history.lists t)) (others t lt other)) in
      let only_left : OnlyThawsBy h n (actions_so_far c (es ++ rest)) =
      only_behind h n (actions_since c (es ++ rest) on.0) (actions_so_far c (es ++ rest))
      (subst (OnlyThawsBy h n) (sym e.ended.history.reached.made ∙ (ap (actions_so_far c) on.1 ∙ actions_append c (es ++ rest) on.0)) only_end) in
      let only_there : OnlyThawsBy h n (actions_so_far c es) =
      only_behind h n (actions_since c es rest) (actions_so_far c es) (subst (OnlyThawsBy h n) (actions_append c es rest) only_left) in
      let frozen : IsFrozenFor (shown c (world_after c es)) h =
      frozen_there c lim h n es only_there
      (subst (λ (l : List Action). held_by (holders_of l) h ≡ true) (sym (list_during op old left Invalid called (none_added h op called.trace needs) lim says.2 says.1 during)) holds) in
      let event : Event = says.1.event in
      let words : Words = (world_after c es).words in
      let finds : event.found ≡ read words event.word =
      load_finds words (next_of during.happens.phase says.1.hook) event (ap (λ (x : Traced). x.event) during.happens.finds) says.4.0 in
      elim says.4.1 [
        | inl incomplete ↦ no_incomplete words event.word event.found finds frozen.0 incomplete
        | inr unheld ↦ no_unheld h words event.word event.found finds frozen.1 unheld
      ]
