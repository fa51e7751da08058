-- What the calls of a run's first task can't find: that the mount is read-only before any task has done anything, or that the root is no directory.
use Rattle.gate_runs.proofs.Prelude.{Action, Again, Bool, Called, Config, Create, Err, File, GateError, Gives, HasBegun, List, None, Op, ReadOnly}
use Rattle.gate_runs.proofs.Prelude.{Reply, Result, SeatedTask, Some, Traced, View, WantWrite, [], adds, ap, arith, false, inl, inr, own_actions}
use Rattle.gate_runs.proofs.Prelude.{own_number, own_view, refl, spare_of, subst, suc, sym, true, zero, ℕ, ◌++◌, ◌+◌, ◌<◌, ◌∙◌, ◌∷◌, ◌≡◌, ◌≤◌, ◌⊎◌}
use Rattle.std.proofs.{Common.{if◌then◌else◌, ◌==◌}, lemmas.Bool.{Decides.eqb_tells, and_parts, false≢true}}
use Rattle.access_model.specs.{Actions.after_action, Histories.{Done, IsLegal, end_of, own_part}, Laws.IsReadOnly, States.{IsDirectory, Limits}}
use Rattle.access_model.specs.{States.State, declared.{actions.Kind.TheVariants.Dir, errors.GateError.TheVariants.{NoEntry, NoSpace, NotDir}}}
use Rattle.cpu_words.specs.{Words.read, declared.{events.{Event.Event, Touch.{TheVariants.Load, Touch}}, names.WordName.{TheVariants.Node, WordName}}}
use Rattle.{finite_sums.proofs.Totals.each_updated, gate_schedules.proofs.schedules.HeadlineProof.{whole_rule, whole_run}}
use Rattle.gate_steps.proofs.call_events.{Grown.only, Moments.actions_append, Spanning.each_event}
use Rattle.gate_steps.specs.{Seating.{DealtNumbers, HaveHistory, HaveViews, one_if, times}, call_events.{Runs.AreMoves, Spans.IsEventDuring}}
use Rattle.gate_world.specs.{Configs.{IsWithin, model_limits}, Headline.{actions_since, actions_so_far, world_after}, Rules.Tree, Shown.shown}
use Rattle.gate_world.specs.{Work.next_of, declared.entries.Entry.{Entry, TheVariants.Steps}, traces.Found.{is_load, says_read_only}}
use Rattle.gate_world.specs.traces.Traces.{IsHonestAnswer, actions_of}
use Rattle.gated_tree.specs.Refusals.{finds_file, finds_free, loads_node}
use Rattle.node_words.specs.Nodes.{dirty_in, kind_in, node_shown, parent_in, removed_in, size_in}
use Rattle.vfs_gates.proofs.{Rounds.own_ends, several_tasks.{Enclosed.read_only_found, FrozenUntilThawed.{SomeSays, load_finds, some_of}}}
use Rattle.vfs_gates.specs.Splitting.{HaveDoneNothing}
use Rattle.gate_runs.{proofs.Keeping.called_stays, specs.Refusals.EndsCreate}
use lib.ListN.{get_elem?}

-- A load of a call that says this, and the schedule after which it happened: that with which the call returns goes on from there.
record LoadedSo (first last : SeatedTask) (Says : Event → Type 0) : Type 0 where
  within : IsWithin first.config
  event : Event
  says : Says event
  entries : List Entry
  rest : List Entry
  leaves : last.seen ≡ (entries ++ rest) ∷ []
  finds : event.found ≡ read (world_after first.config entries).words event.word

loaded_so : (op : Op) (first last : SeatedTask) (answer : Result Reply GateError) (Says : Event → Type 0) →
    ((e : Event) → Says e → is_load e.touch ≡ true) → (called : Called op first last answer) → SomeSays Says called.trace → LoadedSo first last Says
loaded_so op first last answer Says loads called says =
    let during : IsEventDuring first.config first.items op says.2 says.1 first.seen last.seen =
    each_event first.config op first.items first.seen last.seen says.0 says.1 says.2
    (subst (λ (l : List Traced). AreMoves first.config op first.items first.seen l last.seen) says.3 called.moves) in record {
      within = during.within;
      event = says.1.event;
      says = says.4;
      entries = during.entries;
      rest = Steps (own_number first.items) says.1.hook ∷ during.rest;
      leaves = during.leaves;
      finds = load_finds (world_after first.config during.entries).words (next_of during.happens.phase says.1.hook) says.1.event
          (ap (λ (x : Traced). x.event) during.happens.finds) (loads says.1.event says.4);
    }

-- The root is a directory in each state, so no load finds it free, or a file.
abbrev SaysNoDirectory : Event → Type 0
SaysNoDirectory e = (is_load e.touch ≡ true) × (e.word ≡ Node 0) × (((e.found == 0) ≡ true) ⊎ ((kind_in e.found == 1) ≡ true))

loads_root : (word : WordName) (touch : Touch) → loads_node 0 word touch ≡ true → (is_load touch ≡ true) × (word ≡ Node 0)
loads_root (Node m) Load is = (refl, elim (eqb_tells m 0) [ inl same ↦ ap Node same.1 | inr other ↦ absurd (false≢true (sym other.0 ∙ is)) ])
loads_root word touch is = absurd (false≢true is)

never_free : (found : ℕ) → IsDirectory (node_shown found) → (found == 0) ≡ true → ⊥
never_free found there is = elim (eqb_tells found 0) [
  | inl zero_found ↦ subst (λ n. IsDirectory (node_shown n)) zero_found.1 there
  | inr other ↦ false≢true (sym other.0 ∙ is)
]

never_file : (found : ℕ) → IsDirectory (node_shown found) → (kind_in found == 1) ≡ true → ⊥
never_file found there is =
    let Shown : ℕ → Type 0 = λ kind. IsDirectory (if kind == 0 then None else Some record {
      kind = (if kind == 1 then File else Dir);
      parent = parent_in found;
      size = size_in found;
      dirty = dirty_in found == 1;
      removed = removed_in found == 1;
    }) in
    elim (eqb_tells (kind_in found) 1) [
      | inl file ↦ let its : File ≡ Dir = subst Shown file.1 there in let f : ⊥ = cc in f
      | inr other ↦ false≢true (sym other.0 ∙ is)
    ]

no_directory : (first last : SeatedTask) → LoadedSo first last SaysNoDirectory → ⊥
no_directory first last load =
    let w = world_after first.config load.entries in
    let found : load.event.found ≡ w.words.node 0 = load.finds ∙ ap (read w.words) load.says.1 in
    let there : IsDirectory (node_shown load.event.found) =
    subst (λ n. IsDirectory (node_shown n)) (sym found) (whole_rule first.config load.within load.entries Tree).root in
    elim load.says.2 [ inl free ↦ never_free load.event.found there free | inr file ↦ never_file load.event.found there file ]

-- And a creation in the root is refused for room alone, or because its node was taken meanwhile.
create_ends : (c : Config) (trace : List Traced) (refusal : GateError) → IsHonestAnswer c (Create 0 File) (Err refusal) trace →
    SomeSays SaysNoDirectory trace ⊎ EndsCreate refusal
create_ends c trace NoEntry honest = inl (some_of (finds_free 0) SaysNoDirectory
    (λ e is. let both = and_parts (loads_node 0 e.word e.touch) (e.found == 0) is in
    let at = loads_root e.word e.touch both.0 in (at.0, at.1, inl both.1)) trace honest)
create_ends c trace NotDir honest = inl (some_of (finds_file 0) SaysNoDirectory
    (λ e is. let both = and_parts (loads_node 0 e.word e.touch) (kind_in e.found == 1) is in
    let at = loads_root e.word e.touch both.0 in (at.0, at.1, inr both.1)) trace honest)
create_ends c trace NoSpace honest = inr tt
create_ends c trace Again honest = inr tt
create_ends c trace refusal honest = absurd honest

pub create_refused : (first last : SeatedTask) (refusal : GateError) → Called (Create 0 File) first last (Err refusal) → EndsCreate refusal
create_refused first last refusal called = elim (create_ends first.config called.trace refusal called.honest) [
  | inl says ↦ absurd (no_directory first last (loaded_so (Create 0 File) first last (Err refusal) SaysNoDirectory (λ e its. its.0) called says))
  | inr ends ↦ ends
]

-- An action that makes no mount read-only, nor the superblock; and such lists and histories.
abbrev LeavesWritable : Action → Type 0
LeavesWritable (Action.MountRo m) = ⊥
LeavesWritable Action.SbRo = ⊥
LeavesWritable a = Unit {0}

abbrev NeverCloses : List Action → Type 0
NeverCloses [] = Unit {0}
NeverCloses (a ∷ earlier) = LeavesWritable a × NeverCloses earlier

abbrev NobodyCloses : List Done → Type 0
NobodyCloses [] = Unit {0}
NobodyCloses (a ∷ earlier) = LeavesWritable a.1 × NobodyCloses earlier

nobody_before : (later earlier : List Done) → NobodyCloses (later ++ earlier) → NobodyCloses earlier
nobody_before [] earlier none = none
nobody_before (a ∷ later) earlier none = nobody_before later earlier none.1

-- nobody closes whose own list has no such action
module _ (t : ℕ) (a : Done) (earlier : List Done) (never : NeverCloses (own_part t (a ∷ earlier))) where
  abbrev NeverIf : Bool → Type 0
  NeverIf own = NeverCloses (if own then a.1 ∷ own_part t earlier else own_part t earlier)

  own_newest : a.0 ≡ t → LeavesWritable a.1
  own_newest its = elim (eqb_tells a.0 t) [ inl is ↦ (subst NeverIf is.0 never).0 | inr other ↦ absurd (other.1 its) ]

  own_rest : NeverCloses (own_part t earlier)
  own_rest = elim (eqb_tells a.0 t) [ inl is ↦ (subst NeverIf is.0 never).1 | inr other ↦ subst NeverIf other.0 never ]

nobody_closes : (l : Limits) (log : List Done) → IsLegal l log → ((t : ℕ) → t < l.tasks → NeverCloses (own_part t log)) → NobodyCloses log
nobody_closes l [] legal each = tt
nobody_closes l (a ∷ earlier) legal each = (
  own_newest a.0 a earlier (each a.0 legal.0.0) refl,
  nobody_closes l earlier legal.1 (λ t lt. own_rest t a earlier (each t lt)),
)

-- then each mount is writable
abbrev AllWritable : State → Type 0
AllWritable s = ((m : ℕ) → s.mount_ro m ≡ false) × (s.sb_ro ≡ false)

writable_on : (s : State) (t : ℕ) (a : Action) → LeavesWritable a → AllWritable s → AllWritable (after_action s t a)
writable_on s t (Action.MountRo m) leaves all = absurd leaves
writable_on s t (Action.MountRw k) leaves all = (λ m. each_updated (λ x v. v ≡ false) s.mount_ro k false m refl (λ other. all.0 m), all.1)
writable_on s t Action.SbRo leaves all = absurd leaves
writable_on s t Action.SbRw leaves all = (all.0, refl)
writable_on s t a leaves all = all

all_writable : (log : List Done) → NobodyCloses log → AllWritable (end_of log)
all_writable [] none = (λ m. refl, refl)
all_writable (a ∷ earlier) none = writable_on (end_of earlier) a.0 a.1 none.0 (all_writable earlier none.1)

not_read_only : (s : State) (m : ℕ) → AllWritable s → IsReadOnly s m → ⊥
not_read_only s m all (inl flag) = false≢true (sym (all.0 m) ∙ flag)
not_read_only s m all (inr sealed) = false≢true (sym all.1 ∙ sealed)

-- numbers that have done nothing have done nothing in the state in which they have their views
idle_there : (views : ℕ → View) (items : DealtNumbers) → HaveViews views items → HaveDoneNothing items → (t : ℕ) → 1 ≤ times t items →
    (views t).actions ≡ []
idle_there views [] have nothing t some = absurd (omega (arith, some))
idle_there views (x ∷ xs) have nothing t some = elim (eqb_tells x.number t) [
  | inl is ↦ subst (λ n. (views n).actions ≡ []) is.1 (ap (λ (v : View). v.actions) (have 0 x refl) ∙ nothing.0)
  | inr other ↦
      let more : 1 ≤ one_if false + times t xs = subst (λ b. 1 ≤ one_if b + times t xs) other.0 some in
      idle_there views xs (λ k y at. have (suc k) y at) nothing.1 t (omega (arith, more))
]

spare_there : (views : ℕ → View) (items : DealtNumbers) → HaveViews views items → HaveViews views (spare_of items)
spare_there views [] have = have
spare_there views (x ∷ xs) have = λ k. have (suc k)

-- the load answers the read-only question of the first mount with yes
abbrev SaysReadOnly : Event → Type 0
SaysReadOnly e = (is_load e.touch ≡ true) × (says_read_only 0 e.word e.found ≡ true)

-- So write access isn't refused as read-only to a task that has all numbers, of which none has done anything.
module _ (cpu : ℕ) (first last : SeatedTask) (called : Called (WantWrite 0 cpu) first last (Err ReadOnly)) (begun : HasBegun 0 first)
    (gives : Gives first 1 first.config.tasks) where
  abbrev whole : HaveHistory first.config last.items last.seen
  whole = called.history

  -- the own list has a grant of the level and its return in the end, and each other is empty
  own_list : NeverCloses (whole.world.views 0).actions
  own_list =
      let stays = called_stays (WantWrite 0 cpu) first last (Err ReadOnly) called in
      let own : whole.world.views (own_number last.items) ≡ own_view last.items =
      own_ends whole.world.views last.items (stays.there begun.there) whole.mine in
      let added : NeverCloses (actions_of (WantWrite 0 cpu) (Err ReadOnly) called.trace ++ own_actions first) =
      subst (λ (l : List Action). NeverCloses (actions_of (WantWrite 0 cpu) (Err ReadOnly) called.trace ++ l)) (sym begun.nothing) (tt, (tt, tt)) in
      subst (λ n. NeverCloses (whole.world.views n).actions) (stays.own ∙ begun.own)
      (subst (λ (v : View). NeverCloses v.actions) (sym own)
      (subst NeverCloses (sym (adds (WantWrite 0 cpu) first last (Err ReadOnly) called)) added))

  other_list : (t : ℕ) → t < first.config.tasks → 1 ≤ t → NeverCloses (whole.world.views t).actions
  other_list t lt other =
      let stays = called_stays (WantWrite 0 cpu) first last (Err ReadOnly) called in
      let have : HaveViews whole.world.views (spare_of first.items) =
      subst (HaveViews whole.world.views) stays.spare (spare_there whole.world.views last.items whole.mine) in
      let once : times t (spare_of first.items) ≡ 1 = gives.later t other lt in
      subst NeverCloses (sym (idle_there whole.world.views (spare_of first.items) have gives.nothing t (omega (arith, once)))) tt

  each_list : (t : ℕ) → t < first.config.tasks → NeverCloses (whole.world.views t).actions
  each_list zero lt = own_list
  each_list (suc t) lt = other_list (suc t) lt (omega arith)

  pub finds_writable : 0 < first.config.mounts → ⊥
  finds_writable mount =
      let c = first.config in
      let says : SomeSays SaysReadOnly called.trace = some_of _ SaysReadOnly
      (λ e is. and_parts (is_load e.touch) (says_read_only 0 e.word e.found) is) called.trace called.honest in
      let load = loaded_so (WantWrite 0 cpu) first last (Err ReadOnly) SaysReadOnly (λ e its. its.0) called says in
      let es : List Entry = load.entries in
      let end : List Entry = whole.history.reached.entries in
      let same : es ++ load.rest ≡ end = only (es ++ load.rest) 0 end (ap (λ l. get_elem? l 0) (sym load.leaves ∙ whole.last)) in
      let in_end : NobodyCloses whole.history.log = nobody_closes (model_limits c) whole.history.log whole.history.legal
      (λ t lt. subst NeverCloses (sym (whole.history.lists t)) (each_list t lt)) in
      let there : NobodyCloses (actions_so_far c es) = nobody_before (actions_since c es load.rest) (actions_so_far c es)
      (subst NobodyCloses (sym (ap (actions_so_far c) same ∙ whole.history.reached.made) ∙ actions_append c es load.rest) in_end) in
      let w = world_after c es in
      let shut : IsReadOnly (shown c w) 0 =
      read_only_found c w (whole_rule c load.within es) 0 mount load.event.word load.event.found load.finds load.says.1 in
      not_read_only (shown c w) 0 (subst AllWritable (whole_run c load.within es).end (all_writable (actions_so_far c es) there)) shut
