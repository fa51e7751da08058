-- A mount that is read-only, and that nobody makes writable, admits nobody.
use Rattle.vfs_gates.proofs.Prelude.{Action, AreMoves, Begins, Bool, Called, ChangeMount, Config, DealtNumbers, Entry, Event, Grant, HasSeen}
use Rattle.vfs_gates.proofs.Prelude.{HaveHistory, IsAllowed, IsEventDuring, IsLegal, IsPrefix, IsWithin, Level, Limits, List, Mount, NoneIs}
use Rattle.vfs_gates.proofs.Prelude.{NoneSince, Ok, Op, Reply, SbRo, SbRw, SeatedTask, State, StaySeen, Steps, TakesEffect, Traced, Want, WantWrite}
use Rattle.vfs_gates.proofs.Prelude.{Words, [], actions_append, actions_of, actions_since, actions_so_far, after_action, after_more, and_parts, ap}
use Rattle.vfs_gates.proofs.Prelude.{append-nil, append_assoc, append_cancel_right, call_effect, cases_Bool, dite, each_event, end_of, eqb_tells}
use Rattle.vfs_gates.proofs.Prelude.{false, found_read_only, get_elem?, if◌then◌else◌, inl, inr, is_load, model_limits, next_of, only, own_part}
use Rattle.vfs_gates.proofs.Prelude.{part_append, read, refl, some, state_of_trace, subst, sym, true, update_at, whole_rule, whole_run, world_after}
use Rattle.vfs_gates.proofs.Prelude.{ℕ, ℕ_discrete, ◌&&◌, ◌++◌, ◌+◌, ◌<◌, ◌∙◌, ◌∷◌, ◌≡◌}
use Rattle.std.proofs.lemmas.{Bool.both_ways, List.append_cancel_left}
use Rattle.access_model.specs.{Histories.Done, Laws.IsReadOnly, declared.actions.Action.TheVariants.{MountRo, MountRw}}
use Rattle.{finite_sums.{proofs.Totals.update_off, specs.Sums.update}, gate_steps.specs.call_events.SeatedTasks.own_number}
use Rattle.gate_world.specs.traces.Found.{says_read_only}
use Rattle.vfs_gates.proofs.several_tasks.{Enclosed.read_only_found, FrozenUntilThawed.{SomeSays, load_finds, some_of}}
use Rattle.vfs_gates.{proofs.several_tasks.Keeping.{NoneOfThese, none_own}, specs.Meetings.{Reopens, TakesMount}}

-- an action that doesn't make a mount writable leaves it read-only
module _ (l : Limits) (s : State) (t m : ℕ) where
  pub stays_shut : (a : Action) → IsReadOnly s m → (Reopens m a → ⊥) → IsReadOnly (after_action s t a) m
  stays_shut (MountRo k) (inl own) none = dite (ℕ_discrete m k)
      (λ same. inl (ap (update s.mount_ro k true) same ∙ update_at s.mount_ro k true))
      (λ ne. inl (update_off s.mount_ro k true m ne ∙ own))
  stays_shut (MountRo k) (inr all) none = inr all
  stays_shut (MountRw k) (inl own) none = dite (ℕ_discrete m k)
      (λ same. absurd (none (inl (ap MountRw (sym same)))))
      (λ ne. inl (update_off s.mount_ro k false m ne ∙ own))
  stays_shut (MountRw k) (inr all) none = inr all
  stays_shut SbRo shut none = inr refl
  stays_shut SbRw shut none = absurd (none (inr refl))
  stays_shut a shut none = shut

  -- and no access is granted there
  pub none_granted : (a : Action) → IsAllowed l s t a → IsReadOnly s m → a ≡ Grant (Mount m) → ⊥
  none_granted a may shut is =
      let grants : IsAllowed l s t (Grant (Mount m)) = subst (IsAllowed l s t) is may in
      elim shut [
        | inl own ↦ both_ways (s.mount_ro m) grants.1.1 own
        | inr all ↦ both_ways s.sb_ro grants.1.2 all
      ]

pub shut_on : (l : Limits) (m : ℕ) (more earlier : List Done) → IsLegal l (more ++ earlier) → IsReadOnly (end_of earlier) m →
    NoneOfThese (Reopens m) more → IsReadOnly (end_of (more ++ earlier)) m × NoneOfThese (λ a. a ≡ Grant (Mount m)) more
shut_on l m [] earlier legal shut none = (shut, tt)
shut_on l m (a ∷ more) earlier legal shut none =
    let rest = shut_on l m more earlier legal.1 shut none.1 in (
      stays_shut l (end_of (more ++ earlier)) a.0 m a.1 rest.0 none.0,
      (none_granted l (end_of (more ++ earlier)) a.0 m a.1 legal.0 rest.0, rest.1),
    )

-- where each number's own list has none such since, the history has none
pub by_parts : (Is : Action → Type 0) (l : Limits) (more earlier : List Done) → IsLegal l (more ++ earlier) →
    ((t : ℕ) → t < l.tasks → NoneIs Is (own_part t more)) → NoneOfThese Is more
by_parts Is l [] earlier legal each = tt
by_parts Is l (a ∷ more) earlier legal each =
    let OwnIf : ℕ → Bool → Type 0 = λ t mine. NoneIs Is (if mine then a.1 ∷ own_part t more else own_part t more) in (
      elim (eqb_tells a.0 a.0) [
        | inl is ↦ (subst (OwnIf a.0) is.0 (each a.0 legal.0.0)).0
        | inr other ↦ absurd (other.1 refl)
      ],
      by_parts Is l more earlier legal.1 (λ t lt. elim (eqb_tells a.0 t) [
        | inl is ↦ (subst (OwnIf t) is.0 (each t lt)).1
        | inr other ↦ subst (OwnIf t) other.0 (each t lt)
      ]),
    )

-- what comes later in a list of none such has none
pub none_later : (Is : Action → Type 0) (later earlier : List Done) → NoneOfThese Is (later ++ earlier) → NoneOfThese Is later
none_later Is [] earlier none = tt
none_later Is (a ∷ later) earlier none = (none.0, none_later Is later earlier none.1)

pub none_earlier : (Is : Action → Type 0) (later earlier : List Done) → NoneOfThese Is (later ++ earlier) → NoneOfThese Is earlier
none_earlier Is [] earlier none = none
none_earlier Is (a ∷ later) earlier none = none_earlier Is later earlier none.1

-- between two states, of which the second's schedule goes on from the first's
pub none_between : (Is : Action → Type 0) (c : Config) → IsWithin c → (one two : DealtNumbers) (s r : List (List Entry)) (f : HaveHistory c one s)
    (g : HaveHistory c two r) → (more : List Entry) → g.history.reached.entries ≡ f.history.reached.entries ++ more →
    NoneSince Is c f.world g.world → NoneOfThese Is (actions_since c f.history.reached.entries more)
none_between Is c lim one two s r f g more is none =
    let a : List Entry = f.history.reached.entries in
    let b : List Entry = g.history.reached.entries in
    let log : List Done = actions_since c a more in
    let whole : actions_so_far c b ≡ log ++ actions_so_far c a = ap (actions_so_far c) is ∙ actions_append c a more in
    let legal : IsLegal (model_limits c) (log ++ actions_so_far c a) = subst (IsLegal (model_limits c)) whole (whole_run c lim b).legal in
    by_parts Is (model_limits c) log (actions_so_far c a) legal (λ t lt.
    let since = none t lt in
    let was : own_part t (actions_so_far c a) ≡ (f.world.views t).actions = ap (own_part t) f.history.reached.made ∙ f.history.lists t in
    let now : own_part t (actions_so_far c b) ≡ (g.world.views t).actions = ap (own_part t) g.history.reached.made ∙ g.history.lists t in
    let same : own_part t log ++ (f.world.views t).actions ≡ since.0 ++ (f.world.views t).actions =
    sym (part_append t log (actions_so_far c a) ∙ ap (λ (l : List Action). own_part t log ++ l) was) ∙
    (sym (ap (own_part t) whole) ∙ (now ∙ since.1)) in
    subst (NoneIs Is) (sym (append_cancel_right (own_part t log) since.0 (f.world.views t).actions same)) since.2)

-- the actions since a schedule, in three parts
parts_of : (c : Config) (a p x y : List Entry) → actions_since c a (p ++ (x ++ y)) ≡
    actions_since c ((a ++ p) ++ x) y ++ (actions_since c (a ++ p) x ++ actions_since c a p)
parts_of c a p x y =
    let whole : List Done = actions_since c ((a ++ p) ++ x) y ++ (actions_since c (a ++ p) x ++ actions_since c a p) in
    let one : actions_so_far c (a ++ (p ++ (x ++ y))) ≡ actions_since c a (p ++ (x ++ y)) ++ actions_so_far c a =
    actions_append c a (p ++ (x ++ y)) in
    let same : a ++ (p ++ (x ++ y)) ≡ ((a ++ p) ++ x) ++ y =
    sym (append_assoc a p (x ++ y)) ∙ sym (append_assoc (a ++ p) x y) in
    let three : actions_so_far c (((a ++ p) ++ x) ++ y) ≡ whole ++ actions_so_far c a =
    actions_append c ((a ++ p) ++ x) y ∙
    (ap (λ (l : List Done). actions_since c ((a ++ p) ++ x) y ++ l)
    (actions_append c (a ++ p) x ∙ ap (λ (l : List Done). actions_since c (a ++ p) x ++ l) (actions_append c a p)) ∙
    (ap (λ (l : List Done). actions_since c ((a ++ p) ++ x) y ++ l)
    (sym (append_assoc (actions_since c (a ++ p) x) (actions_since c a p) (actions_so_far c a))) ∙
    sym (append_assoc (actions_since c ((a ++ p) ++ x) y) (actions_since c (a ++ p) x ++ actions_since c a p) (actions_so_far c a)))) in
    append_cancel_right (actions_since c a (p ++ (x ++ y))) whole (actions_so_far c a) (sym one ∙ (ap (actions_so_far c) same ∙ three))

-- none such in the whole is none in a part
pub none_within : (Is : Action → Type 0) (c : Config) (a b d more : List Entry) (p : IsPrefix a b) (x : List Entry) → (y : IsPrefix (b ++ x) d) →
    d ≡ a ++ more → NoneOfThese Is (actions_since c a more) → NoneOfThese Is (actions_since c b x)
none_within Is c a b d more p x y is none =
    let same : a ++ (p.0 ++ (x ++ y.0)) ≡ a ++ more =
    sym (append_assoc a p.0 (x ++ y.0)) ∙ (ap (λ (l : List Entry). l ++ (x ++ y.0)) (sym p.1) ∙ (sym (append_assoc b x y.0) ∙ (sym y.1 ∙ is))) in
    let cut : p.0 ++ (x ++ y.0) ≡ more = append_cancel_left a (p.0 ++ (x ++ y.0)) more same in
    let all : NoneOfThese Is (actions_since c ((a ++ p.0) ++ x) y.0 ++ (actions_since c (a ++ p.0) x ++ actions_since c a p.0)) =
    subst (NoneOfThese Is) (parts_of c a p.0 x y.0) (subst (λ (l : List Entry). NoneOfThese Is (actions_since c a l)) (sym cut) none) in
    subst (λ (l : List Entry). NoneOfThese Is (actions_since c l x)) (sym p.1)
    (none_later Is (actions_since c (a ++ p.0) x) (actions_since c a p.0)
    (none_earlier Is (actions_since c ((a ++ p.0) ++ x) y.0) (actions_since c (a ++ p.0) x ++ actions_since c a p.0) all))

-- the newest action that a number has done stands in the history, and before it the rest
pub splits_at : (t : ℕ) (a : Action) (rest : List Action) (log : List Done) → own_part t log ≡ a ∷ rest →
    (later : List Done) × (d : Done) × (earlier : List Done) × (log ≡ later ++ d ∷ earlier) ×
    (d.1 ≡ a) × (d.0 ≡ t) × (own_part t earlier ≡ rest)
splits_at t a rest [] is = absurd (let f : ⊥ = cc in f)
splits_at t a rest (d ∷ log) is =
    let OwnIf : Bool → Type 0 = λ mine. (if mine then d.1 ∷ own_part t log else own_part t log) ≡ a ∷ rest in
    elim (eqb_tells d.0 t) [
      | inl own ↦
          let same : d.1 ∷ own_part t log ≡ a ∷ rest = subst OwnIf own.0 is in
          ([], d, log, refl, (let first : d.1 ≡ a = cc in first), own.1, (let others : own_part t log ≡ rest = cc in others))
      | inr other ↦
          let r = splits_at t a rest log (subst OwnIf other.0 is) in
          (d ∷ r.0, r.1, r.2, ap (λ (l : List Done). d ∷ l) r.3, r.4, r.5, r.6)
    ]

-- each action was allowed where it stands
pub legal_at : (l : Limits) (later : List Done) (d : Done) (earlier : List Done) → IsLegal l (later ++ d ∷ earlier) →
    IsAllowed l (end_of earlier) d.0 d.1 × IsLegal l earlier
legal_at l [] d earlier legal = legal
legal_at l (a ∷ later) d earlier legal = legal_at l later d earlier legal.1

-- A change to read-only that was done. Behind a schedule that its task had seen nobody makes the mount writable.
module _ (m : ℕ) (wait : Bool) (old left : SeatedTask) (reply : Reply) (called : Called (ChangeMount m true wait) old left (Ok reply))
    (lim : IsWithin old.config) (small : m < old.config.mounts) (a d more : List Entry) (saw : HasSeen a old.seen) (is : d ≡ a ++ more)
    (none : NoneOfThese (Reopens m) (actions_since old.config a more)) where
  abbrev c : Config
  c = old.config

  abbrev t : ℕ
  t = own_number old.items

  abbrev op : Op
  op = ChangeMount m true wait

  abbrev Says : Event → Type 0
  Says e = (is_load e.touch ≡ true) × (says_read_only m e.word e.found ≡ true)

  -- what holds after a schedule of the call holds when it returns
  on_to : (es rest last : List Entry) → IsPrefix a es → last ≡ es ++ rest → IsPrefix last d → IsReadOnly (end_of (actions_so_far c es)) m →
      IsReadOnly (end_of (actions_so_far c last)) m
  on_to es rest last from same to shut =
      let never : NoneOfThese (Reopens m) (actions_since c es rest) =
      none_within (Reopens m) c a es d more from rest (subst (λ (l : List Entry). IsPrefix l d) same to) is none in
      let legal : IsLegal (model_limits c) (actions_since c es rest ++ actions_so_far c es) =
      subst (IsLegal (model_limits c)) (actions_append c es rest) (whole_run c lim (es ++ rest)).legal in
      subst (λ (l : List Done). IsReadOnly (end_of l) m) (sym (ap (actions_so_far c) same ∙ actions_append c es rest))
      (shut_on (model_limits c) m (actions_since c es rest) (actions_so_far c es) legal shut never).0

  -- it found the mount so
  found_shut : (last : List Entry) → left.seen ≡ last ∷ [] → IsPrefix last d → SomeSays Says called.trace →
      IsReadOnly (end_of (actions_so_far c last)) m
  found_shut last leaves to says =
      let during : IsEventDuring c old.items op says.2 says.1 old.seen left.seen =
      each_event c op old.items old.seen left.seen says.0 says.1 says.2
      (subst (λ (l : List Traced). AreMoves c op old.items old.seen l left.seen) says.3 called.moves) in
      let es : List Entry = during.entries in
      let rest : List Entry = Steps t says.1.hook ∷ during.rest in
      let event : Event = says.1.event in
      let words : Words = (world_after c es).words in
      let finds : event.found ≡ read words event.word =
      load_finds words (next_of during.happens.phase says.1.hook) event (ap (λ (x : Traced). x.event) during.happens.finds) says.4.0 in
      let from : IsPrefix a es = after_more a saw.1 es saw.3
      (after_more saw.1 during.began es (during.begins.saw saw.0 saw.1 saw.2) (Begins t op ∷ during.since, during.is)) in
      let same : last ≡ es ++ rest = only last 0 (es ++ rest) (ap (λ l. get_elem? l 0) (sym leaves ∙ during.leaves)) in
      on_to es rest last from same to
      (subst (λ (s : State). IsReadOnly s m) (sym (whole_run c lim es).end)
      (read_only_found c (world_after c es) (whole_rule c lim es) m small event.word event.found finds says.4.1))

  -- or it made it so
  made_shut : (last : List Entry) → left.seen ≡ last ∷ [] → IsPrefix last d → (state_of_trace c t op called.trace).added ≡ MountRo m ∷ [] →
      IsReadOnly (end_of (actions_so_far c last)) m
  made_shut last leaves to adds =
      let effect : TakesEffect c old.items op called.trace old.seen left.seen called.history.history.log = call_effect op old left (Ok reply) called in
      let began : List Entry = effect.began in
      let since : List Entry = effect.since in
      let from : IsPrefix a began = after_more a saw.1 began saw.3 (effect.begins.saw saw.0 saw.1 saw.2) in
      let same : last ≡ began ++ since = only last 0 (began ++ since) (ap (λ l. get_elem? l 0) (sym leaves ∙ effect.leaves)) in
      let at = splits_at t (MountRo m) [] (actions_since c began since) (effect.added ∙ adds) in
      let never : NoneOfThese (Reopens m) (actions_since c began since) =
      none_within (Reopens m) c a began d more from since (subst (λ (l : List Entry). IsPrefix l d) same to) is none in
      let before : List Done = at.2 ++ actions_so_far c began in
      let whole : actions_so_far c (began ++ since) ≡ at.0 ++ at.1 ∷ before =
      actions_append c began since ∙
      (ap (λ (l : List Done). l ++ actions_so_far c began) at.3 ∙ append_assoc at.0 (at.1 ∷ at.2) (actions_so_far c began)) in
      let shut : IsReadOnly (end_of (at.1 ∷ before)) m =
      subst (λ (x : Action). IsReadOnly (after_action (end_of before) at.1.0 x) m) (sym at.4) (inl (update_at (end_of before).mount_ro m true)) in
      subst (λ (l : List Done). IsReadOnly (end_of l) m) (sym (ap (actions_so_far c) same ∙ whole))
      (shut_on (model_limits c) m at.0 (at.1 ∷ before) (subst (IsLegal (model_limits c)) whole (whole_run c lim (began ++ since)).legal) shut
      (none_later (Reopens m) at.0 (at.1 ∷ at.2) (subst (NoneOfThese (Reopens m)) at.3 never))).0

  pub left_shut : (last : List Entry) → left.seen ≡ last ∷ [] → IsPrefix last d → IsReadOnly (end_of (actions_so_far c last)) m
  left_shut last leaves to =
      elim (cases_Bool (found_read_only m called.trace)) [
        | inl found ↦ found_shut last leaves to
            (some_of (λ e. is_load e.touch && says_read_only m e.word e.found) Says
            (λ e is. and_parts (is_load e.touch) (says_read_only m e.word e.found) is) called.trace found)
        | inr not_so ↦ made_shut last leaves to (called.added ∙ rw not_so refl)
      ]

-- an operation that takes an access at this mount has added its grant last
takes_last : (m : ℕ) (op : Op) (reply : Reply) (trace : List Traced) → TakesMount m op →
    (rest : List Action) × (actions_of op (Ok reply) trace ≡ Grant (Mount m) ∷ rest)
takes_last m (Want k p wait) reply trace same = ([], ap (λ n. Grant (Mount n) ∷ []) same)
takes_last m (WantWrite k p) reply trace same = (Grant (Level 1) ∷ [], ap (λ n. Grant (Mount n) ∷ (Grant (Level 1) ∷ [])) same)
takes_last m other reply trace none = absurd none

-- so where a mount was made read-only, and nobody has made it writable, no access is granted there
pub none_admitted : (m : ℕ) (wait : Bool) (op : Op) (old left begins ends : SeatedTask) (reply answer : Reply) (before after : DealtNumbers)
    (s r : List (List Entry)) (f : HaveHistory old.config before s) (g : HaveHistory old.config after r) →
    Called (ChangeMount m true wait) old left (Ok reply) → Called op begins ends (Ok answer) → TakesMount m op → begins.config ≡ old.config →
    StaySeen s old.seen → StaySeen left.seen begins.seen → StaySeen ends.seen r → NoneSince (Reopens m) old.config f.world g.world → ⊥
none_admitted m wait op old left begins ends reply answer before after s r f g change want takes config saw between sees none =
    let c : Config = old.config in
    let lim : IsWithin c = f.within in
    let one : List Entry = f.history.reached.entries in
    let two : List Entry = g.history.reached.entries in
    let k : ℕ = own_number begins.items in
    let first : TakesEffect c old.items (ChangeMount m true wait) change.trace old.seen left.seen change.history.history.log =
    call_effect (ChangeMount m true wait) old left (Ok reply) change in
    let second : TakesEffect c begins.items op want.trace begins.seen ends.seen want.history.history.log =
    subst (λ d. TakesEffect d begins.items op want.trace begins.seen ends.seen want.history.history.log) config
    (call_effect op begins ends (Ok answer) want) in
    let here : HasSeen one old.seen = saw 0 one (ap (λ l. get_elem? l 0) f.last) in
    let from : IsPrefix one first.began = after_more one here.1 first.began here.3 (first.begins.saw here.0 here.1 here.2) in
    let last : List Entry = first.began ++ first.since in
    let known : HasSeen last begins.seen = between 0 last (ap (λ l. get_elem? l 0) first.leaves) in
    let on : IsPrefix last second.began = after_more last known.1 second.began known.3 (second.begins.saw known.0 known.1 known.2) in
    let end : List Entry = second.began ++ second.since in
    let there : HasSeen end r = sees 0 end (ap (λ l. get_elem? l 0) second.leaves) in
    let same : two ≡ there.1 = only two there.0 there.1 (subst (λ l. get_elem? l there.0 ≡ some there.1) g.last there.2) in
    let to : IsPrefix end two = subst (IsPrefix end) (sym same) there.3 in
    let ends_later : IsPrefix last two = after_more last second.began two on (after_more second.began end two (second.since, refl) to) in
    let whole : IsPrefix one two = after_more one last two (after_more one first.began last from (first.since, refl)) ends_later in
    let never : NoneOfThese (Reopens m) (actions_since c one whole.0) = none_between (Reopens m) c lim before after s r f g whole.0 whole.1 none in
    let gap : List Entry = ends_later.0 in
    let never_then : NoneOfThese (Reopens m) (actions_since c last gap) =
    none_within (Reopens m) c one last two whole.0 (after_more one first.began last from (first.since, refl)) gap
    ([], ends_later.1 ∙ sym (append-nil (last ++ gap))) whole.1 never in
    let taken = takes_last m op answer want.trace takes in
    let adds : (state_of_trace c k op want.trace).added ≡ Grant (Mount m) ∷ taken.0 =
    subst (λ d. (state_of_trace d k op want.trace).added ≡ Grant (Mount m) ∷ taken.0) config (want.added ∙ taken.1) in
    let its : own_part k (actions_since c second.began second.since) ≡ Grant (Mount m) ∷ taken.0 = second.added ∙ adds in
    let at = splits_at k (Grant (Mount m)) taken.0 (actions_since c second.began second.since) its in
    let legal : IsLegal (model_limits c) (at.0 ++ at.1 ∷ (at.2 ++ actions_so_far c second.began)) =
    subst (IsLegal (model_limits c))
    (actions_append c second.began second.since ∙ (ap (λ (l : List Done). l ++ actions_so_far c second.began) at.3 ∙
    append_assoc at.0 (at.1 ∷ at.2) (actions_so_far c second.began)))
    (whole_run c lim end).legal in
    let may : IsAllowed (model_limits c) (end_of (at.2 ++ actions_so_far c second.began)) at.1.0 (Grant (Mount m)) =
    subst (IsAllowed (model_limits c) (end_of (at.2 ++ actions_so_far c second.began)) at.1.0) at.4
    (legal_at (model_limits c) at.0 at.1 (at.2 ++ actions_so_far c second.began) legal).0 in
    let shut : IsReadOnly (end_of (actions_so_far c last)) m =
    left_shut m wait old left reply change lim may.1.0 one two whole.0 here whole.1 never last first.leaves ends_later in
    let all : IsLegal (model_limits c) (actions_since c last gap ++ actions_so_far c last) =
    subst (IsLegal (model_limits c)) (actions_append c last gap) (whole_run c lim (last ++ gap)).legal in
    let grants : NoneOfThese (λ a. a ≡ Grant (Mount m)) (actions_since c last gap) =
    (shut_on (model_limits c) m (actions_since c last gap) (actions_so_far c last) all shut never_then).1 in
    let during : NoneOfThese (λ a. a ≡ Grant (Mount m)) (actions_since c second.began second.since) =
    none_within (λ a. a ≡ Grant (Mount m)) c last second.began two gap on second.since to ends_later.1 grants in
    (subst (NoneIs (λ a. a ≡ Grant (Mount m))) its (none_own (λ a. a ≡ Grant (Mount m)) k (actions_since c second.began second.since) during)).0 refl
