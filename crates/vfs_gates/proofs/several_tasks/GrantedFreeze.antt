-- A freeze that was granted keeps everybody out until its holder thaws.
use Rattle.vfs_gates.proofs.Prelude.{Action, Bool, Called, Config, DealtNumbers, Entry, Freeze, Gate, Grant, HasSeen, HaveHistory, Hold, Holder}
use Rattle.vfs_gates.proofs.Prelude.{IsLegal, IsPrefix, IsWithin, Level, Limits, List, Mount, NoneSince, Ok, Op, Reply, Seals, SeatedTask, Start}
use Rattle.vfs_gates.proofs.Prelude.{State, StaySeen, TakesEffect, WantWrite, [], actions_append, actions_of, actions_since, actions_so_far}
use Rattle.vfs_gates.proofs.Prelude.{after_action, after_more, ap, append-nil, append_assoc, call_effect, end_of, false, get_elem?, held_by}
use Rattle.vfs_gates.proofs.Prelude.{model_limits, only, own_part, refl, shown, some, state_of_trace, subst, sym, true, whole_run, ℕ, ◌++◌, ◌∙◌, ◌∷◌}
use Rattle.vfs_gates.proofs.Prelude.{◌≡◌}
use Rattle.{access_model.{proofs.Frozen.frozen_still, specs.Histories.Done}, gate_steps.specs.call_events.SeatedTasks.own_number}
use Rattle.vfs_gates.proofs.{call_laws.TreeStays.now_held, several_tasks.FrozenOut.{GrantsFrozen, all_closed, grants_frozen, never_leaves, no_start}}
use Rattle.vfs_gates.proofs.several_tasks.{FrozenOut.{no_write, stays_writable}, Keeping.NoneOfThese}
use Rattle.vfs_gates.{proofs.several_tasks.Shut.{none_between, none_later, none_within, splits_at}, specs.Meetings.{IsWritable, Thaws}}

-- a freeze that was granted has added its holder last
abbrev first_dropped : List Action → List Action
first_dropped [] = []
first_dropped (a ∷ rest) = rest

-- so it stands when its call returns, where no thaw lies in between
freeze_held : (h : Holder) (c : Config) → IsWithin c → (a d more : List Entry) → d ≡ a ++ more → NoneOfThese (Thaws h) (actions_since c a more) →
    (k : ℕ) (rest : List Action) (began since : List Entry) → IsPrefix a began → IsPrefix (began ++ since) d →
    own_part k (actions_since c began since) ≡ Hold h ∷ rest → held_by (end_of (actions_so_far c (began ++ since))).holders h ≡ true
freeze_held h c lim a d more is none k rest began since from to its =
    let l : Limits = model_limits c in
    let at = splits_at k (Hold h) rest (actions_since c began since) its in
    let before : List Done = at.2 ++ actions_so_far c began in
    let whole : actions_so_far c (began ++ since) ≡ at.0 ++ at.1 ∷ before =
    actions_append c began since ∙ (ap (λ (x : List Done). x ++ actions_so_far c began) at.3 ∙ append_assoc at.0 (at.1 ∷ at.2) (actions_so_far c began)) in
    let during : NoneOfThese (Thaws h) (actions_since c began since) = none_within (Thaws h) c a began d more from since to is none in
    let held : held_by (end_of (at.1 ∷ before)).holders h ≡ true =
    subst (λ (x : Action). held_by (after_action (end_of before) at.1.0 x).holders h ≡ true) (sym at.4) (now_held h (end_of before).holders) in
    subst (λ (x : List Done). held_by (end_of x).holders h ≡ true) (sym whole)
    (frozen_still l h at.0 (at.1 ∷ before) (subst (IsLegal l) whole (whole_run c lim (began ++ since)).legal) held
    (never_leaves h at.0 (none_later (Thaws h) at.0 (at.1 ∷ at.2) (subst (NoneOfThese (Thaws h)) at.3 during)))).frozen.1

-- A freeze that was granted, and a later call by a task that had seen it. Between a state before the first and one after the second no number
-- thaws for its holder.
module _ (h : Holder) (op : Op) (old left begins ends : SeatedTask) (reply answer : Reply) (before after : DealtNumbers)
    (s r : List (List Entry)) (f : HaveHistory old.config before s) (g : HaveHistory old.config after r)
    (freeze : Called (Freeze h) old left (Ok reply)) (called : Called op begins ends (Ok answer)) (config : begins.config ≡ old.config)
    (saw : StaySeen s old.seen) (between : StaySeen left.seen begins.seen) (sees : StaySeen ends.seen r)
    (none : NoneSince (Thaws h) old.config f.world g.world) where
  abbrev c : Config
  c = old.config

  abbrev l : Limits
  l = model_limits c

  abbrev k : ℕ
  k = own_number begins.items

  first : TakesEffect c old.items (Freeze h) freeze.trace old.seen left.seen freeze.history.history.log
  first = call_effect (Freeze h) old left (Ok reply) freeze

  second : TakesEffect c begins.items op called.trace begins.seen ends.seen called.history.history.log
  second = subst (λ d. TakesEffect d begins.items op called.trace begins.seen ends.seen called.history.history.log) config
      (call_effect op begins ends (Ok answer) called)

  abbrev one : List Entry
  one = f.history.reached.entries

  abbrev two : List Entry
  two = g.history.reached.entries

  -- with this the freeze returned
  abbrev last : List Entry
  last = first.began ++ first.since

  from : IsPrefix one first.began
  from =
      let here : HasSeen one old.seen = saw 0 one (ap (λ l. get_elem? l 0) f.last) in
      after_more one here.1 first.began here.3 (first.begins.saw here.0 here.1 here.2)

  on : IsPrefix last second.began
  on =
      let known : HasSeen last begins.seen = between 0 last (ap (λ l. get_elem? l 0) first.leaves) in
      after_more last known.1 second.began known.3 (second.begins.saw known.0 known.1 known.2)

  to : IsPrefix (second.began ++ second.since) two
  to =
      let end : List Entry = second.began ++ second.since in
      let there : HasSeen end r = sees 0 end (ap (λ l. get_elem? l 0) second.leaves) in
      let same : two ≡ there.1 = only two there.0 there.1 (subst (λ l. get_elem? l there.0 ≡ some there.1) g.last there.2) in
      subst (IsPrefix end) (sym same) there.3

  then_all : IsPrefix last two
  then_all = after_more last second.began two on (after_more second.began (second.began ++ second.since) two (second.since, refl) to)

  so_far : IsPrefix one last
  so_far = after_more one first.began last from (first.since, refl)

  whole : IsPrefix one two
  whole = after_more one last two so_far then_all

  since_last : (Is : Action → Type 0) → NoneSince Is c f.world g.world → NoneOfThese Is (actions_since c last then_all.0)
  since_last Is never =
      none_within Is c one last two whole.0 so_far then_all.0 ([], then_all.1 ∙ sym (append-nil (last ++ then_all.0))) whole.1
      (none_between Is c f.within before after s r f g whole.0 whole.1 never)

  held : held_by (end_of (actions_so_far c last)).holders h ≡ true
  held =
      let adds : own_part (own_number old.items) (actions_since c first.began first.since) ≡
      Hold h ∷ first_dropped (actions_of (Freeze h) (Ok reply) freeze.trace) =
      first.added ∙ freeze.added in
      freeze_held h c f.within one two whole.0 whole.1 (none_between (Thaws h) c f.within before after s r f g whole.0 whole.1 none)
      (own_number old.items) (first_dropped (actions_of (Freeze h) (Ok reply) freeze.trace)) first.began first.since from then_all adds

  grants_later : (gate : Gate) (rest : List Action) → actions_of op (Ok answer) called.trace ≡ Grant gate ∷ rest →
      GrantsFrozen l h k gate (rest ++ own_part k (actions_so_far c second.began)) (end_of (actions_so_far c last))
  grants_later gate rest is =
      let adds : (state_of_trace c k op called.trace).added ≡ Grant gate ∷ rest =
      subst (λ d. (state_of_trace d k op called.trace).added ≡ Grant gate ∷ rest) config (called.added ∙ is) in
      grants_frozen h c f.within last two then_all.0 then_all.1 held (since_last (Thaws h) none) k gate rest second.began second.since on to
      (second.added ∙ adds)

  -- and where the superblock was writable, and nobody has made it read-only, all levels are closed
  closes_all : IsWritable c f.world → NoneSince Seals c f.world g.world → (end_of (actions_so_far c last)).passed ≡ 3
  closes_all writable never =
      let there : end_of (actions_so_far c one) ≡ shown c f.world = ap end_of f.history.reached.made ∙ f.history.end in
      let during : NoneOfThese Seals (actions_since c one so_far.0) =
      none_within Seals c one one two whole.0 ([], sym (append-nil one)) so_far.0
      (subst (λ (x : List Entry). IsPrefix x two) so_far.1 then_all) whole.1
      (none_between Seals c f.within before after s r f g whole.0 whole.1 never) in
      let still : (end_of (actions_so_far c last)).sb_ro ≡ false =
      subst (λ (x : List Done). (end_of x).sb_ro ≡ false) (sym (ap (actions_so_far c) so_far.1 ∙ actions_append c one so_far.0))
      (stays_writable (actions_since c one so_far.0) (actions_so_far c one) during (ap (λ (z : State). z.sb_ro) there ∙ writable)) in
      all_closed l h (actions_so_far c last) (whole_run c f.within last).legal held still

pub none_written_later : (h : Holder) (m p : ℕ) (old left begins ends : SeatedTask) (reply answer : Reply) (before after : DealtNumbers)
    (s r : List (List Entry)) (f : HaveHistory old.config before s) (g : HaveHistory old.config after r) →
    Called (Freeze h) old left (Ok reply) → Called (WantWrite m p) begins ends (Ok answer) → begins.config ≡ old.config →
    StaySeen s old.seen → StaySeen left.seen begins.seen → StaySeen ends.seen r → NoneSince (Thaws h) old.config f.world g.world → ⊥
none_written_later h m p old left begins ends reply answer before after s r f g freeze called config saw between sees none =
    no_write (model_limits old.config) h (own_number begins.items) m _ _
    (grants_later h (WantWrite m p) old left begins ends reply answer before after s r f g freeze called config saw between sees none (Mount m)
    (Grant (Level 1) ∷ []) refl)

pub none_started_later : (h : Holder) (i p : ℕ) (wait : Bool) (old left begins ends : SeatedTask) (reply answer : Reply) (before after : DealtNumbers)
    (s r : List (List Entry)) (f : HaveHistory old.config before s) (g : HaveHistory old.config after r) →
    Called (Freeze h) old left (Ok reply) → Called (Start i p wait) begins ends (Ok answer) → begins.config ≡ old.config →
    StaySeen s old.seen → StaySeen left.seen begins.seen → StaySeen ends.seen r → NoneSince (Thaws h) old.config f.world g.world →
    IsWritable old.config f.world → NoneSince Seals old.config f.world g.world → ⊥
none_started_later h i p wait old left begins ends reply answer before after s r f g freeze called config saw between sees none writable never =
    no_start (model_limits old.config) h (own_number begins.items) i _ _
    (closes_all h (Start i p wait) old left begins ends reply answer before after s r f g freeze called config saw between sees none writable never)
    (grants_later h (Start i p wait) old left begins ends reply answer before after s r f g freeze called config saw between sees none (Level i) [] refl)
