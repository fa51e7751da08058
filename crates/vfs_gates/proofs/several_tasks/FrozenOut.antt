-- While a holder's freeze stands nobody goes inside.
use Rattle.vfs_gates.proofs.Prelude.{Action, Bool, Called, Config, DealtNumbers, Encloses, Entry, Gate, Grant, HasSeen, Holder, IsAllowed, IsLegal}
use Rattle.vfs_gates.proofs.Prelude.{IsPrefix, IsWithin, Level, Limits, List, Mount, NoneSince, Ok, Op, Reply, SbRo, SbRw, Seals, SeatedTask, Start}
use Rattle.vfs_gates.proofs.Prelude.{State, TakesEffect, WantWrite, [], actions_append, actions_since, actions_so_far, after_action, after_more, ap}
use Rattle.vfs_gates.proofs.Prelude.{append-nil, append_assoc, arith, call_effect, end_of, false, get_elem?, held_by, inl, inr, model_limits, only}
use Rattle.vfs_gates.proofs.Prelude.{own_part, part_append, refl, shown, some, state_of_trace, subst, sym, true, update_at, whole_run, ℕ, ◌++◌, ◌+◌}
use Rattle.vfs_gates.proofs.Prelude.{◌∙◌, ◌∷◌, ◌≡◌}
use Rattle.std.proofs.lemmas.Bool.{both_ways}
use Rattle.access_model.{proofs.{Closed.closed, Frozen.{frozen_shut, frozen_still}, Lists.follows}, specs.Histories.{Done, levels_of}}
use Rattle.access_model.specs.Laws.{IsFrozenFor, IsFrozenStill, NeverLeaves}
use Rattle.gate_steps.specs.call_events.SeatedTasks.{own_number}
use Rattle.vfs_gates.proofs.several_tasks.{Keeping.NoneOfThese, Shut.{legal_at, none_between, none_earlier, none_within, splits_at}}
use Rattle.vfs_gates.specs.Meetings.{IsWritable, Thaws}

pub never_leaves : (h : Holder) (log : List Done) → NoneOfThese (Thaws h) log → NeverLeaves h log
never_leaves h [] none = tt
never_leaves h (a ∷ log) none = (none.0, never_leaves h log none.1)

none_of_both : (Is : Action → Type 0) (later earlier : List Done) → NoneOfThese Is later → NoneOfThese Is earlier → NoneOfThese Is (later ++ earlier)
none_of_both Is [] earlier none more = more
none_of_both Is (a ∷ later) earlier none more = (none.0, none_of_both Is later earlier none.1 more)

-- a superblock that nobody makes read-only stays writable
one_more : (s : State) (t : ℕ) (a : Action) → (Seals a → ⊥) → s.sb_ro ≡ false → (after_action s t a).sb_ro ≡ false
one_more s t SbRo none is = absurd (none refl)
one_more s t SbRw none is = refl
one_more s t a none is = is

pub stays_writable : (more earlier : List Done) → NoneOfThese Seals more → (end_of earlier).sb_ro ≡ false → (end_of (more ++ earlier)).sb_ro ≡ false
stays_writable [] earlier none is = is
stays_writable (a ∷ more) earlier none is = one_more (end_of (more ++ earlier)) a.0 a.1 none.0 (stays_writable more earlier none.1 is)

-- a freeze of a writable superblock has closed all levels
pub all_closed : (l : Limits) (h : Holder) (log : List Done) → IsLegal l log → held_by (end_of log).holders h ≡ true → (end_of log).sb_ro ≡ false →
    (end_of log).passed ≡ 3
all_closed l h log legal held writable =
    let shut = frozen_shut l log legal in
    elim (shut.shut (shut.frozen h held)) [ inl closes ↦ closes | inr all_ro ↦ absurd (both_ways (end_of log).sb_ro writable all_ro) ]

-- A grant in a call, while all is frozen as it was in an earlier state: the task has done these actions before it, and it is allowed.
pub record GrantsFrozen (l : Limits) (h : Holder) (k : ℕ) (gate : Gate) (list : List Action) (frozen : State) : Type 0 where
  pub earlier : List Done
  pub legal : IsLegal l earlier
  pub by : ℕ
  pub its : by ≡ k
  pub may : IsAllowed l (end_of earlier) by (Grant gate)
  pub still : IsFrozenStill h frozen (end_of earlier)
  pub own : own_part k earlier ≡ list

-- none is allowed of write access, which is inside level 1 when the mount is granted
pub no_write : (l : Limits) (h : Holder) (k m : ℕ) (list : List Action) (frozen : State) →
    GrantsFrozen l h k (Mount m) (Grant (Level 1) ∷ list) frozen → ⊥
no_write l h k m list frozen grant =
    let s : State = end_of grant.earlier in
    let inside : s.levels grant.by 1 ≡ true =
    (follows grant.earlier grant.by).levels 1 ∙
    (ap (λ z. levels_of (own_part z grant.earlier) 1) grant.its ∙
    (ap (λ (k : List Action). levels_of k 1) grant.own ∙ update_at (levels_of list) 1 true)) in
    elim ((frozen_shut l grant.earlier grant.legal).shut grant.still.frozen.0) [
      | inl closes ↦ both_ways (s.levels grant.by 1)
          ((closed l grant.earlier grant.legal).levels grant.by 1 grant.may.0 (omega arith) (omega arith)) inside
      | inr all_ro ↦ both_ways s.sb_ro grant.may.1.2 all_ro
    ]

-- nor of a start, where all levels are closed
pub no_start : (l : Limits) (h : Holder) (k i : ℕ) (list : List Action) (frozen : State) → frozen.passed ≡ 3 →
    GrantsFrozen l h k (Level i) list frozen → ⊥
no_start l h k i list frozen closes grant =
    let level = grant.may.1.0 in
    let below = grant.may.1.1 in
    let still = grant.still.passed in omega (arith, closes, still, level.1, below)

-- A schedule at whose end this holder holds a freeze, and a later one; no thaw of it lies between them.
module _ (h : Holder) (c : Config) (lim : IsWithin c) (a d more : List Entry) (is : d ≡ a ++ more)
    (held : held_by (end_of (actions_so_far c a)).holders h ≡ true) (none : NoneOfThese (Thaws h) (actions_since c a more)) where
  -- a grant of a call in between
  pub grants_frozen : (k : ℕ) (gate : Gate) (rest : List Action) (began since : List Entry) → IsPrefix a began → IsPrefix (began ++ since) d →
      own_part k (actions_since c began since) ≡ Grant gate ∷ rest →
      GrantsFrozen (model_limits c) h k gate (rest ++ own_part k (actions_so_far c began)) (end_of (actions_so_far c a))
  grants_frozen k gate rest began since from to its =
      let l : Limits = model_limits c in
      let base : List Done = actions_so_far c a in
      let gap : List Done = actions_since c a from.0 in
      let before : List Done = actions_so_far c began in
      let there : before ≡ gap ++ base = ap (actions_so_far c) from.1 ∙ actions_append c a from.0 in
      let at = splits_at k (Grant gate) rest (actions_since c began since) its in
      let earlier : List Done = at.2 ++ before in
      let whole : actions_so_far c (began ++ since) ≡ at.0 ++ at.1 ∷ earlier =
      actions_append c began since ∙ (ap (λ (x : List Done). x ++ before) at.3 ∙ append_assoc at.0 (at.1 ∷ at.2) before) in
      let behind = legal_at l at.0 at.1 earlier (subst (IsLegal l) whole (whole_run c lim (began ++ since)).legal) in
      let same : earlier ≡ (at.2 ++ gap) ++ base = ap (λ (x : List Done). at.2 ++ x) there ∙ sym (append_assoc at.2 gap base) in
      let during : NoneOfThese (Thaws h) (actions_since c began since) = none_within (Thaws h) c a began d more from since to is none in
      let in_call : NoneOfThese (Thaws h) at.2 =
      (none_earlier (Thaws h) at.0 (at.1 ∷ at.2) (subst (NoneOfThese (Thaws h)) at.3 during)).1 in
      let in_gap : NoneOfThese (Thaws h) gap =
      none_within (Thaws h) c a a d more ([], sym (append-nil a)) from.0
      (subst (λ (x : List Entry). IsPrefix x d) from.1 (after_more began (began ++ since) d (since, refl) to)) is none in
      record {
        earlier = earlier;
        legal = behind.1;
        by = at.1.0;
        its = at.5;
        may = subst (IsAllowed l (end_of earlier) at.1.0) at.4 behind.0;
        still = subst (λ (x : List Done). IsFrozenStill h (end_of base) (end_of x)) (sym same)
            (frozen_still l h (at.2 ++ gap) base (subst (IsLegal l) same behind.1) held
            (never_leaves h (at.2 ++ gap) (none_of_both (Thaws h) at.2 gap in_call in_gap)));
        own = part_append k at.2 before ∙ ap (λ (x : List Action). x ++ own_part k before) at.6;
      }

-- A call that lies between two states, in the first of which all is frozen for this holder. No number thaws for it in between.
module _ (h : Holder) (op : Op) (old left : SeatedTask) (reply : Reply) (before after : DealtNumbers) (called : Called op old left (Ok reply))
    (around : Encloses before after old left) (frozen : IsFrozenFor (shown old.config around.first.world) h)
    (none : NoneSince (Thaws h) old.config around.first.world around.last.world) where
  abbrev c : Config
  c = old.config

  abbrev one : List Entry
  one = around.first.history.reached.entries

  first_end : end_of (actions_so_far c one) ≡ shown c around.first.world
  first_end = ap end_of around.first.history.reached.made ∙ around.first.history.end

  grants_there : (gate : Gate) (rest : List Action) → (state_of_trace c (own_number old.items) op called.trace).added ≡ Grant gate ∷ rest →
      (list : List Action) × GrantsFrozen (model_limits c) h (own_number old.items) gate (rest ++ list) (end_of (actions_so_far c one))
  grants_there gate rest adds =
      let lim : IsWithin c = around.first.within in
      let two : List Entry = around.last.history.reached.entries in
      let effect : TakesEffect c old.items op called.trace old.seen left.seen called.history.history.log = call_effect op old left (Ok reply) called in
      let began : List Entry = effect.began in
      let since : List Entry = effect.since in
      let last : List Entry = began ++ since in
      let saw : HasSeen one old.seen = around.saw 0 one (ap (λ l. get_elem? l 0) around.first.last) in
      let from : IsPrefix one began = after_more one saw.1 began saw.3 (effect.begins.saw saw.0 saw.1 saw.2) in
      let sees : HasSeen last around.last_seen = around.sees 0 last (ap (λ l. get_elem? l 0) effect.leaves) in
      let same : two ≡ sees.1 = only two sees.0 sees.1 (subst (λ l. get_elem? l sees.0 ≡ some sees.1) around.last.last sees.2) in
      let to : IsPrefix last two = subst (IsPrefix last) (sym same) sees.3 in
      let whole : IsPrefix one two = after_more one began two from (after_more began last two (since, refl) to) in
      let never : NoneOfThese (Thaws h) (actions_since c one whole.0) =
      none_between (Thaws h) c lim before after around.first_seen around.last_seen around.first around.last whole.0 whole.1 none in
      let held : held_by (end_of (actions_so_far c one)).holders h ≡ true =
      subst (λ (s : State). held_by s.holders h ≡ true) (sym first_end) frozen.1 in (
        own_part (own_number old.items) (actions_so_far c began),
        grants_frozen h c lim one two whole.0 whole.1 held never (own_number old.items) gate rest began since from to (effect.added ∙ adds),
      )

pub none_written : (h : Holder) (m p : ℕ) (old left : SeatedTask) (reply : Reply) (before after : DealtNumbers) →
    Called (WantWrite m p) old left (Ok reply) → (around : Encloses before after old left) →
    IsFrozenFor (shown old.config around.first.world) h → NoneSince (Thaws h) old.config around.first.world around.last.world → ⊥
none_written h m p old left reply before after called around frozen none =
    let c : Config = old.config in
    let g = grants_there h (WantWrite m p) old left reply before after called around frozen none (Mount m) (Grant (Level 1) ∷ []) called.added in
    no_write (model_limits c) h (own_number old.items) m g.0 (end_of (actions_so_far c around.first.history.reached.entries)) g.1

pub none_started : (h : Holder) (i p : ℕ) (wait : Bool) (old left : SeatedTask) (reply : Reply) (before after : DealtNumbers) →
    Called (Start i p wait) old left (Ok reply) → (around : Encloses before after old left) →
    IsFrozenFor (shown old.config around.first.world) h → IsWritable old.config around.first.world →
    NoneSince (Thaws h) old.config around.first.world around.last.world → ⊥
none_started h i p wait old left reply before after called around frozen writable none =
    let c : Config = old.config in
    let l : Limits = model_limits c in
    let log : List Done = actions_so_far c around.first.history.reached.entries in
    let same : end_of log ≡ shown c around.first.world =
    ap end_of around.first.history.reached.made ∙ around.first.history.end in
    let g = grants_there h (Start i p wait) old left reply before after called around frozen none (Level i) [] called.added in
    no_start l h (own_number old.items) i g.0 (end_of log)
    (all_closed l h log (whole_run c around.first.within around.first.history.reached.entries).legal
    (subst (λ (s : State). held_by s.holders h ≡ true) (sym same) frozen.1) (ap (λ (s : State). s.sb_ro) same ∙ writable))
    g.1
