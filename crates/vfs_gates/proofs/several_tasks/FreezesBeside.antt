-- A freeze is busy only beside another: what the task finds whose own list has none.
use Rattle.vfs_gates.proofs.Prelude.{Action, AreMoves, Bool, Busy, Called, Config, DealtNumbers, EndedWith, Entry, Err, Event, Freeze, HasSeen, Hold}
use Rattle.vfs_gates.proofs.Prelude.{Holder, IsEventDuring, IsHonestAnswer, IsLegal, IsPrefix, IsWithin, Limits, List, SeatedTask, State, StaySeen}
use Rattle.vfs_gates.proofs.Prelude.{Steps, Traced, WordName, Words, [], actions_append, actions_since, actions_so_far, after_action, after_more}
use Rattle.vfs_gates.proofs.Prelude.{and_parts, ap, each_event, end_of, eqb_tells, false, false≢true, get_elem?, held_by, if◌then◌else◌, inl, inr}
use Rattle.vfs_gates.proofs.Prelude.{is_load, model_limits, next_of, not, own_actions, own_number, own_part, read, refl, shown, subst, sym, true}
use Rattle.vfs_gates.proofs.Prelude.{whole_run, with_holder, world_after, ℕ, ◌&&◌, ◌++◌, ◌<◌, ◌==◌, ◌∙◌, ◌∷◌, ◌≡◌, ◌⊎◌}
use Rattle.access_model.specs.{Histories.Done, declared.actions.Action.TheVariants.{Leave, Stage}}
use Rattle.{cpu_words.specs.declared.names.WordName.TheVariants.{Holders as HoldersWord, Stage as StageWord}, freeze_levels.specs.Holders.holders_in}
use Rattle.gate_world.specs.{Headline.IsOneRun, traces.Found.{says_held, says_moving}}
use Rattle.vfs_gates.proofs.several_tasks.FrozenUntilThawed.{SomeSays, list_during, load_finds, some_of}
use Rattle.vfs_gates.specs.Frozen.{IsBesideFreezes, MayFreeze, NeverFreezes, holders_of, stage_of}

-- of a history: each action of a freeze or a thaw is of this number
abbrev OnlyFreezesBy : ℕ → List Done → Type 0
OnlyFreezesBy n [] = Unit {0}
OnlyFreezesBy n (a ∷ earlier) = ((a.0 ≡ n → ⊥) → IsBesideFreezes a.1) × OnlyFreezesBy n earlier

only_behind : (n : ℕ) (later earlier : List Done) → OnlyFreezesBy n (later ++ earlier) → OnlyFreezesBy n earlier
only_behind n [] earlier only = only
only_behind n (a ∷ later) earlier only = only_behind n later earlier only.1

-- it is so if no other number's own list has one
module _ (t : ℕ) (a : Done) (earlier : List Done) (never : NeverFreezes (own_part t (a ∷ earlier))) where
  abbrev NeverIf : Bool → Type 0
  NeverIf own = NeverFreezes (if own then a.1 ∷ own_part t earlier else own_part t earlier)

  own_newest : a.0 ≡ t → IsBesideFreezes a.1
  own_newest its = elim (eqb_tells a.0 t) [ inl is ↦ (subst NeverIf is.0 never).0 | inr other ↦ absurd (other.1 its) ]

  own_rest : NeverFreezes (own_part t earlier)
  own_rest = elim (eqb_tells a.0 t) [ inl is ↦ (subst NeverIf is.0 never).1 | inr other ↦ subst NeverIf other.0 never ]

by_lists : (l : Limits) (n : ℕ) (log : List Done) → IsLegal l log →
    ((t : ℕ) → t < l.tasks → (t ≡ n → ⊥) → NeverFreezes (own_part t log)) → OnlyFreezesBy n log
by_lists l n [] legal others = tt
by_lists l n (a ∷ earlier) legal others = (
  λ other. own_newest a.0 a earlier (others a.0 legal.0.0 other) refl,
  by_lists l n earlier legal.1 (λ t lt other. own_rest t a earlier (others t lt other)),
)

-- then the stage and the holders are those of its own list
module _ (s : State) (t : ℕ) (mine : List Action) where
  abbrev IsAs : State → List Action → Type 0
  IsAs left list = (left.stage ≡ stage_of list) × (left.holders ≡ holders_of list)

  own_step : (a : Action) → IsAs s mine → IsAs (after_action s t a) (a ∷ mine)
  own_step (Stage n) is = (refl, is.1)
  own_step (Hold h) is = (is.0, ap (with_holder h true) is.1)
  own_step (Leave h) is = (is.0, ap (with_holder h false) is.1)
  own_step a is = is

  other_step : (a : Action) → IsBesideFreezes a → IsAs s mine → IsAs (after_action s t a) mine
  other_step (Stage n) beside is = absurd beside
  other_step (Hold h) beside is = absurd beside
  other_step (Leave h) beside is = absurd beside
  other_step a beside is = is

as_own_list : (n : ℕ) (log : List Done) → OnlyFreezesBy n log →
    ((end_of log).stage ≡ stage_of (own_part n log)) × ((end_of log).holders ≡ holders_of (own_part n log))
as_own_list n [] only = (refl, refl)
as_own_list n (a ∷ earlier) only =
    let before : State = end_of earlier in
    let mine : List Action = own_part n earlier in
    let so_far = as_own_list n earlier only.1 in
    let AsIf : Bool → Type 0 = λ own.
    ((after_action before a.0 a.1).stage ≡ stage_of (if own then a.1 ∷ mine else mine)) ×
    ((after_action before a.0 a.1).holders ≡ holders_of (if own then a.1 ∷ mine else mine)) in
    elim (eqb_tells a.0 n) [
      | inl is ↦ subst AsIf (sym is.0) (own_step before a.0 mine a.1 so_far)
      | inr other ↦ subst AsIf (sym other.0) (other_step before a.0 mine a.1 (only.0 other.1) so_far)
    ]

shown_as : (c : Config) → IsWithin c → (n : ℕ) (es : List Entry) (mine : List Action) → OnlyFreezesBy n (actions_so_far c es) →
    own_part n (actions_so_far c es) ≡ mine →
    ((shown c (world_after c es)).stage ≡ stage_of mine) × ((shown c (world_after c es)).holders ≡ holders_of mine)
shown_as c lim n es mine only own =
    let whole : IsOneRun c es = whole_run c lim es in
    let its = as_own_list n (actions_so_far c es) only in (
      ap (λ (s : State). s.stage) (sym whole.end) ∙ (its.0 ∙ ap stage_of own),
      ap (λ (s : State). s.holders) (sym whole.end) ∙ (its.1 ∙ ap holders_of own),
    )

-- where no freeze is under way, and this holder holds none, no load says otherwise
no_moving : (words : Words) (word : WordName) (found : ℕ) → found ≡ read words word → (words.stage ≡ 0) ⊎ (words.stage ≡ 4) →
    says_moving word found ≡ true → ⊥
no_moving words StageWord found is settled says =
    elim settled [
      | inl zero ↦ false≢true (subst (λ n. (not (n == 0) && not (n == 4)) ≡ true) (is ∙ zero) says)
      | inr four ↦ false≢true (subst (λ n. (not (n == 0) && not (n == 4)) ≡ true) (is ∙ four) says)
    ]
no_moving words word found is settled says = false≢true says

no_held : (h : Holder) (words : Words) (word : WordName) (found : ℕ) → found ≡ read words word →
    held_by (holders_in words.holders) h ≡ false → says_held h word found ≡ true → ⊥
no_held h words HoldersWord found is unheld says = false≢true (sym (ap (λ n. held_by (holders_in n) h) is ∙ unheld) ∙ says)
no_held h words word found is unheld says = false≢true says

-- some step of a busy freeze says so
abbrev SaysBusy : Holder → Event → Type 0
SaysBusy h e = (is_load e.touch ≡ true) × ((says_moving e.word e.found ≡ true) ⊎ (says_held h e.word e.found ≡ true))

says_busy : (h : Holder) (c : Config) (trace : List Traced) → IsHonestAnswer c (Freeze h) (Err Busy) trace → SomeSays (SaysBusy h) trace
says_busy h c trace honest = elim honest [
  | inl moving ↦ some_of _ (SaysBusy h)
      (λ e is. let both = and_parts (is_load e.touch) (says_moving e.word e.found) is in (both.0, inl both.1)) trace moving
  | inr held ↦ some_of _ (SaysBusy h)
      (λ e is. let both = and_parts (is_load e.touch) (says_held h e.word e.found) is in (both.0, inr both.1)) trace held
]

-- so where no other number freezes, and its own list has no freeze under way, and none of its holder, it isn't busy
pub not_busy : (h : Holder) (old left : SeatedTask) → Called (Freeze h) old left (Err Busy) → (ws : List ℕ) (items : DealtNumbers)
    (seen : List (List Entry)) (e : EndedWith old.config ws items seen) → MayFreeze h (own_actions old) → StaySeen left.seen seen →
    ((t : ℕ) → t < old.config.tasks → (t ≡ own_number old.items → ⊥) → NeverFreezes (e.ended.world.views t).actions) → ⊥
not_busy h old left called ws items seen e may stay others =
    let c : Config = old.config in
    let n : ℕ = own_number old.items in
    let lim : IsWithin c = e.ended.ruled.within in
    let end : List Entry = e.ended.history.reached.entries in
    let says : SomeSays (SaysBusy h) called.trace = says_busy h c called.trace called.honest in
    let during : IsEventDuring c old.items (Freeze h) says.2 says.1 old.seen left.seen =
    each_event c (Freeze h) old.items old.seen left.seen says.0 says.1 says.2
    (subst (λ (l : List Traced). AreMoves c (Freeze h) old.items old.seen l left.seen) says.3 called.moves) in
    let es : List Entry = during.entries in
    let rest : List Entry = Steps n says.1.hook ∷ during.rest in
    let saw : HasSeen (es ++ rest) seen = stay 0 (es ++ rest) (ap (λ l. get_elem? l 0) during.leaves) in
    let on : IsPrefix (es ++ rest) end = after_more (es ++ rest) saw.1 end saw.3 (e.goes_on.goes_on saw.0 saw.1 saw.2) in
    let only_end : OnlyFreezesBy n e.ended.history.log =
    by_lists (model_limits c) n e.ended.history.log e.ended.history.legal
    (λ t lt other. subst NeverFreezes (sym (e.ended.history.lists t)) (others t lt other)) in
    let only_left : OnlyFreezesBy n (actions_so_far c (es ++ rest)) =
    only_behind n (actions_since c (es ++ rest) on.0) (actions_so_far c (es ++ rest))
    (subst (OnlyFreezesBy n) (sym e.ended.history.reached.made ∙ (ap (actions_so_far c) on.1 ∙ actions_append c (es ++ rest) on.0)) only_end) in
    let only_there : OnlyFreezesBy n (actions_so_far c es) =
    only_behind n (actions_since c es rest) (actions_so_far c es) (subst (OnlyFreezesBy n) (actions_append c es rest) only_left) in
    let its = shown_as c lim n es (own_actions old) only_there (list_during (Freeze h) old left Busy called refl lim says.2 says.1 during) in
    let event : Event = says.1.event in
    let words : Words = (world_after c es).words in
    let finds : event.found ≡ read words event.word =
    load_finds words (next_of during.happens.phase says.1.hook) event (ap (λ (x : Traced). x.event) during.happens.finds) says.4.0 in
    elim says.4.1 [
      | inl moving ↦ no_moving words event.word event.found finds (elim may.0 [ inl zero ↦ inl (its.0 ∙ zero) | inr four ↦ inr (its.0 ∙ four) ]) moving
      | inr held ↦ no_held h words event.word event.found finds (ap (λ k. held_by k h) its.1 ∙ may.1) held
    ]
