-- What two tasks that have all numbers know of two calls around which they meet.
use Rattle.vfs_gates.proofs.Prelude.{Action, Called, Config, DealtNumbers, Entry, HaveAll, HaveHistory, HaveViews, IsLegal, List, Meets, NoneIs}
use Rattle.vfs_gates.proofs.Prelude.{NoneSince, Numbered, Ok, Op, Reply, Seals, SeatedTask, StaySeen, Traced, View, World, [], actions_of, ap}
use Rattle.vfs_gates.proofs.Prelude.{append-nil, end_of, false, get_elem?, model_limits, numbered, own_part, ran_items, refl, same_stays_seen, some}
use Rattle.vfs_gates.proofs.Prelude.{state_of_trace, subst, suc, sym, times, view_in, view_in-at, zero, ℕ, ◌++◌, ◌+◌, ◌<◌, ◌∙◌, ◌∷◌, ◌≡◌, ◌≤◌}
use Rattle.{access_model.specs.Histories.Done, gate_steps.specs.call_events.SeatedTasks.own_number}
use Rattle.vfs_gates.{proofs.several_tasks.{Beside.met_stays, FrozenOut.stays_writable, Shut.by_parts}, specs.Meetings.{IsWritable, NoneDone}}
use mathlib.Core.Option.{some-injective, some-ne-none}

-- the same numbers later, each with actions added of which none is such a one
abbrev pub AreLater : (Action → Type 0) → DealtNumbers → DealtNumbers → Type 0
AreLater Is [] [] = Unit {0}
AreLater Is [] (y ∷ ys) = ⊥
AreLater Is (x ∷ xs) [] = ⊥
AreLater Is (x ∷ xs) (y ∷ ys) =
    (y.number ≡ x.number) × ((added : List Action) × (y.view.actions ≡ added ++ x.view.actions) × NoneIs Is added) × AreLater Is xs ys

same_later : (Is : Action → Type 0) (items : DealtNumbers) → AreLater Is items items
same_later Is [] = tt
same_later Is (x ∷ xs) = (refl, ([], refl, tt), same_later Is xs)

later_append : (Is : Action → Type 0) (a c b d : DealtNumbers) → AreLater Is a c → AreLater Is b d → AreLater Is (a ++ b) (c ++ d)
later_append Is [] [] b d f g = g
later_append Is [] (y ∷ ys) b d f g = absurd f
later_append Is (x ∷ xs) [] b d f g = absurd f
later_append Is (x ∷ xs) (y ∷ ys) b d f g = (f.0, f.1, later_append Is xs ys b d f.2 g)

ran_later : (Is : Action → Type 0) (c : Config) (op : Op) (trace : List Traced) (items : DealtNumbers) →
    NoneIs Is (state_of_trace c (own_number items) op trace).added → AreLater Is items (ran_items c op trace items)
ran_later Is c op trace [] none = tt
ran_later Is c op trace (x ∷ xs) none = (refl, ((state_of_trace c x.number op trace).added, refl, none), same_later Is xs)

-- one of them
abbrev IsLater : (Action → Type 0) → Numbered → DealtNumbers → ℕ → Type 0
IsLater Is x left k = (y : Numbered) × (get_elem? left k ≡ some y) × (y.number ≡ x.number) ×
    ((added : List Action) × (y.view.actions ≡ added ++ x.view.actions) × NoneIs Is added)

later_at : (Is : Action → Type 0) (items left : DealtNumbers) → AreLater Is items left → (k : ℕ) (x : Numbered) → get_elem? items k ≡ some x →
    IsLater Is x left k
later_at Is [] left f k x at = absurd (some-ne-none x (sym at))
later_at Is (a ∷ items) [] f k x at = absurd f
later_at Is (a ∷ items) (b ∷ left) f zero x at = subst (λ (z : Numbered). IsLater Is z (b ∷ left) 0) (some-injective a x at) (b, refl, f.0, f.1)
later_at Is (a ∷ items) (b ∷ left) f (suc k) x at = later_at Is items left f.2 k x at

none_since : (Is : Action → Type 0) (c : Config) (items left : DealtNumbers) (first last : World) → HaveViews first.views items →
    HaveViews last.views left → AreLater Is items left → ((n : ℕ) → n < c.tasks → 1 ≤ times n items) → NoneSince Is c first last
none_since Is c items left first last was now later all t lt =
    let here = view_in-at t items (all t lt) in
    let y = later_at Is items left later here.0 (numbered t (view_in t items)) here.1 in
    let before : first.views t ≡ view_in t items = was here.0 (numbered t (view_in t items)) here.1 in
    let after : last.views t ≡ y.0.view = subst (λ n. last.views n ≡ y.0.view) y.2 (now here.0 y.0 y.1) in (
      y.3.0,
      ap (λ (v : View). v.actions) after ∙ (y.3.1 ∙ ap (λ (v : View). y.3.0 ++ v.actions) (sym before)),
      y.3.2,
    )

-- a number among some of which none has done such an action has not
none_done_at : (Is : Action → Type 0) (items : DealtNumbers) → NoneDone Is items → (k : ℕ) (x : Numbered) → get_elem? items k ≡ some x →
    NoneIs Is x.view.actions
none_done_at Is [] none k x at = absurd (some-ne-none x (sym at))
none_done_at Is (y ∷ items) none zero x at = subst (λ (z : Numbered). NoneIs Is z.view.actions) (some-injective y x at) none.0
none_done_at Is (y ∷ items) none (suc k) x at = none_done_at Is items none.1 k x at

-- where no number has made the superblock read-only it is writable
pub writable_there : (c : Config) (items : DealtNumbers) (seen : List (List Entry)) (h : HaveHistory c items seen) →
    ((n : ℕ) → n < c.tasks → 1 ≤ times n items) → NoneDone Seals items → IsWritable c h.world
writable_there c items seen h all none =
    let log : List Done = h.history.log in
    let each : (t : ℕ) → t < c.tasks → NoneIs Seals (own_part t log) = λ t lt.
    let here = view_in-at t items (all t lt) in
    let its : (h.world.views t).actions ≡ (view_in t items).actions =
    ap (λ (v : View). v.actions) (h.mine here.0 (numbered t (view_in t items)) here.1) in
    subst (NoneIs Seals) (sym (h.history.lists t ∙ its)) (none_done_at Seals items none here.0 (numbered t (view_in t items)) here.1) in
    let legal : IsLegal (model_limits c) (log ++ []) = subst (IsLegal (model_limits c)) (sym (append-nil log)) h.history.legal in
    let writable : (end_of (log ++ [])).sb_ro ≡ false = stays_writable log [] (by_parts Seals (model_limits c) log [] legal each) refl in
    ap (λ s. s.sb_ro) (sym (ap end_of (append-nil log) ∙ h.history.end)) ∙ writable

-- Two calls, and a state before the first, and one after the second: what neither call has added no number has since.
pub record AroundBoth (c other : Config) (before after : DealtNumbers) (s r old left begins ends : List (List Entry)) (made took : List Action) : Type 1 where
  pub first : HaveHistory c before s
  pub last : HaveHistory c after r
  pub config : other ≡ c
  pub saw : StaySeen s old
  pub between : StaySeen left begins
  pub sees : StaySeen ends r
  pub all : (n : ℕ) → n < c.tasks → 1 ≤ times n before
  pub since : (Is : Action → Type 0) → NoneIs Is made → NoneIs Is took → NoneSince Is c first.world last.world

-- Two tasks that have all numbers meet; the first calls, and it is done; they meet; the second calls, and it is done; they meet.
module _ (op next : Op) (one two begins beside left first second asks third fourth : SeatedTask) (reply answer : Reply)
    (meets : Meets one two begins beside) (made : Called op begins left (Ok reply)) (again : Meets left beside first second)
    (took : Called next second asks (Ok answer)) (at_last : Meets first asks third fourth) (all : HaveAll one two) where
  config_one : begins.config ≡ one.config
  config_one = ap (λ (s : SeatedTask). s.config) meets.first

  -- the states of the first meeting and of the last
  at_first : HaveHistory begins.config (one.items ++ two.items) meets.seen
  at_first = subst (λ (k : Config). HaveHistory k (one.items ++ two.items) meets.seen) (sym config_one) meets.stand.all

  at_end : HaveHistory begins.config (first.items ++ asks.items) at_last.seen
  at_end =
      subst (λ (k : Config). HaveHistory k (first.items ++ asks.items) at_last.seen)
      (ap (λ (s : SeatedTask). s.config) again.first ∙ ap (λ (s : SeatedTask). s.config) made.after) at_last.stand.all

  all_there : (n : ℕ) → n < begins.config.tasks → 1 ≤ times n (one.items ++ two.items)
  all_there n lt = all n (subst (λ (k : Config). n < k.tasks) config_one lt)

  none_between_them : (Is : Action → Type 0) → NoneIs Is (actions_of op (Ok reply) made.trace) →
      NoneIs Is (actions_of next (Ok answer) took.trace) → NoneSince Is begins.config at_first.world at_end.world
  none_between_them Is none_made none_took =
      let was_one : begins.items ≡ one.items = ap (λ (s : SeatedTask). s.items) meets.first in
      let was_two : second.items ≡ two.items = ap (λ (s : SeatedTask). s.items) again.second ∙ ap (λ (s : SeatedTask). s.items) meets.second in
      let now_one : first.items ≡ ran_items begins.config op made.trace begins.items =
      ap (λ (s : SeatedTask). s.items) again.first ∙ ap (λ (s : SeatedTask). s.items) made.after in
      let now_two : asks.items ≡ ran_items second.config next took.trace second.items = ap (λ (s : SeatedTask). s.items) took.after in
      let later_one : AreLater Is one.items first.items =
      subst (λ (l : DealtNumbers). AreLater Is one.items l) (sym now_one)
      (subst (λ (l : DealtNumbers). AreLater Is l (ran_items begins.config op made.trace begins.items)) was_one
      (ran_later Is begins.config op made.trace begins.items (subst (NoneIs Is) (sym made.added) none_made))) in
      let later_two : AreLater Is two.items asks.items =
      subst (λ (l : DealtNumbers). AreLater Is two.items l) (sym now_two)
      (subst (λ (l : DealtNumbers). AreLater Is l (ran_items second.config next took.trace second.items)) was_two
      (ran_later Is second.config next took.trace second.items (subst (NoneIs Is) (sym took.added) none_took))) in
      none_since Is begins.config (one.items ++ two.items) (first.items ++ asks.items) at_first.world at_end.world at_first.mine at_end.mine
      (later_append Is one.items first.items two.items asks.items later_one later_two) all_there

  pub around_both : AroundBoth begins.config second.config (one.items ++ two.items) (first.items ++ asks.items) meets.seen at_last.seen begins.seen
      left.seen second.seen asks.seen (actions_of op (Ok reply) made.trace) (actions_of next (Ok answer) took.trace)
  around_both = record {
    first = at_first;
    last = at_end;
    config = ap (λ (s : SeatedTask). s.config) again.second ∙ (ap (λ (s : SeatedTask). s.config) meets.second ∙ (meets.config ∙ sym config_one));
    saw = subst (StaySeen meets.seen) (sym (ap (λ (s : SeatedTask). s.seen) meets.first)) (same_stays_seen meets.seen);
    between = (met_stays left beside first second again).2;
    sees = subst (StaySeen asks.seen) (ap (λ (s : SeatedTask). s.seen) at_last.first) (met_stays first asks third fourth at_last).1;
    all = all_there;
    since = none_between_them;
  }
