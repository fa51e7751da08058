-- What the calls of a run's tasks answer, and how they leave their tasks: at rest, or with the write access that was granted.
use Rattle.gate_runs.proofs.Prelude.{Action, Again, Bool, Called, CallsBack, Config, Create, DealtNumbers, Does, DropWrite, Err, File, Freeze}
use Rattle.gate_runs.proofs.Prelude.{GateError, Gates, Grow, HasWriteAccess, IsRefused, List, MayFreeze, NeverFreezes, None, Ok, Op, Performs}
use Rattle.gate_runs.proofs.Prelude.{ReadOnly, Repeats, Reply, Rests, Result, SeatedTask, Some, Traced, User, WantWrite, WriterRefused, [], adds, ap}
use Rattle.gate_runs.proofs.Prelude.{arith, false, inl, inr, own_actions, refl, refusal_at, subst, suc, sym, true, zero, ℕ, ◌++◌, ◌+◌, ◌<◌, ◌∙◌, ◌∷◌}
use Rattle.gate_runs.proofs.Prelude.{◌≡◌, ◌⊎◌}
use Rattle.std.proofs.Common.{if◌then◌else◌, lt-ltb, ◌≢◌}
use Rattle.access_model.specs.{Histories.{levels_of, mounts_of}, Holders.{held_by, nobody}}
use Rattle.access_model.specs.declared.actions.{Action.TheVariants.{Grant, Hold, Leave, Reopen, Stage}, Gate.TheVariants.{Level, Mount}}
use Rattle.access_model.specs.declared.errors.GateError.TheVariants.{Hook, Invalid, IsDir, NoEntry, NoSpace, Order, TooMany}
use Rattle.{cpu_words.specs.Hooks.HookAnswer, freeze_levels.specs.declared.hooks.HookCall.{HookCall, TheVariants.UnfreezeFs}}
use Rattle.gate_steps.{proofs.call_events.ThawAsks.refused_thaw, specs.call_events.Asked.{AskedByRefused, failed}}
use Rattle.gate_steps.specs.call_events.Asking.{Ask, PerformsAsking, WereAsked, asks_of}
use Rattle.gate_world.specs.{Holdings.{Holdings, held_after, holdings_of}, Operations.some_mount}
use Rattle.gate_world.specs.{declared.operations.Op.TheVariants.{Callback, Snapshot, Thaw}, traces.Found.{found_complete, found_sealed, found_shared}}
use Rattle.gate_world.specs.traces.Traces.{IsHonestAnswer}
use Rattle.vfs_gates.proofs.{Grown.call_stays_seen, Holding.{as_before_twice, keeps, refused_call_keeps, rests_on, unchanged}}
use Rattle.vfs_gates.{proofs.Returning.{done_idle, return_restores, was_done}, specs.{Frozen.{holders_of, stage_of}, Grown.StaySeen}}
use Rattle.vfs_gates.specs.{Held.takes_nothing, Runs.{Replies, told_as, unit_of}}
use Rattle.gate_runs.{proofs.Keeping.either_way, specs.Refusals.{CreateRefused, EndsCreate, EndsGrow}}

-- a call that takes nothing leaves a task at rest, whatever it answers
pub rests_by : {A : Type 0} (read : Reply → A) (op : Op) (first last : SeatedTask) (outcome : Result A GateError) → takes_nothing op ≡ true →
    Rests first → Replies read op first last outcome → Rests last
rests_by read op first last outcome none rests did = rests_on first last rests (keeps read op first last outcome rests.0 did none)

-- and so does one that is refused
pub rests_refused : (op : Op) (refusal : GateError) (first last : SeatedTask) → Rests first → IsRefused op refusal first last → Rests last
rests_refused op refusal first last rests did = rests_on first last rests (refused_call_keeps _ op first last refusal rests.0 did)

-- one that its task might begin, and that is refused, was done whole
whole : {A : Type 0} (read : Reply → A) (op : Op) (first last : SeatedTask) (refusal : GateError) (answer : Result Reply GateError) →
    ◌≡◌ {A = Result A GateError} (Err refusal) (told_as read answer) → Called op first last answer → Called op first last (Err refusal)
whole read op first last refusal (Ok reply) told k = absurd (let f : ⊥ = cc in f)
whole read op first last refusal (Err cause) told k =
    let same : cause ≡ refusal = cc in subst (λ e. Called op first last (Err e)) same k

pub was_whole : {A : Type 0} (read : Reply → A) (op : Op) (first last : SeatedTask) (refusal : GateError) → refusal_at op first ≡ None →
    Replies read op first last (Err refusal) → Called op first last (Err refusal)
was_whole read op first last refusal began did = let done = did.done began in whole read op first last refusal done.0 done.1 done.2

-- write access that a task at rest takes
pub want_begins : (cpu : ℕ) (s : SeatedTask) → Rests s → 0 < s.config.mounts → cpu < s.config.processors → refusal_at (WantWrite 0 cpu) s ≡ None
want_begins cpu s rests mount there = rw (
  rests.0,
  lt-ltb 0 s.config.mounts mount,
  lt-ltb cpu s.config.processors there,
  rests.1.1 1 (omega arith) (omega arith),
  rests.1.1 2 (omega arith) (omega arith),
  rests.1.1 3 (omega arith) (omega arith),
  rests.1.0 0 mount,
) refl

want_ends : (cpu : ℕ) (c : Config) (trace : List Traced) (refusal : GateError) → IsHonestAnswer c (WantWrite 0 cpu) (Err refusal) trace →
    refusal ≡ ReadOnly
want_ends cpu c trace ReadOnly honest = refl
want_ends cpu c trace refusal honest = absurd honest

-- is refused as read-only alone
pub want_read_only : (cpu : ℕ) (first last : SeatedTask) (refusal : GateError) → Called (WantWrite 0 cpu) first last (Err refusal) →
    refusal ≡ ReadOnly
want_read_only cpu first last refusal k = want_ends cpu first.config k.trace refusal k.honest

-- and is inside it when it is granted
pub is_inside : (cpu : ℕ) (first last : SeatedTask) → Rests first → Does (WantWrite 0 cpu) first last → HasWriteAccess last
is_inside cpu first last rests took = record {
  cpu = cpu;
  before = first;
  granted = last;
  rests = rests;
  took = took;
  since = unchanged last (done_idle (WantWrite 0 cpu) first last took);
}

-- after a call that takes nothing it still is
pub inside_by : {A : Type 0} (read : Reply → A) (op : Op) (first last : SeatedTask) (outcome : Result A GateError) → takes_nothing op ≡ true →
    HasWriteAccess first → Replies read op first last outcome → HasWriteAccess last
inside_by read op first last outcome none held did = record {
  cpu = held.cpu;
  before = held.before;
  granted = held.granted;
  rests = held.rests;
  took = held.took;
  since = as_before_twice held.granted first last held.since (keeps read op first last outcome held.since.idle did none);
}

-- It is given back on any processor that there is, without a refusal, and the task rests again.
pub gives_back : (q : ℕ) (first last : SeatedTask) (outcome : Result (Unit {0}) GateError) → HasWriteAccess first →
    q < first.config.processors → Performs (DropWrite 0 q) first last outcome → (outcome ≡ Ok tt) × Rests last
gives_back q first last outcome held there did =
    let cpu : q < held.before.config.processors = subst (λ d. q < d.processors) (held.since.config ∙ held.took.config) there in
    let restored = return_restores 0 held.cpu q held.before held.granted first last outcome cpu held.took held.since did in
    (restored.0, rests_on held.before last held.rests restored.1)

-- an access at the first of some mounts is one at some mount
some_access : (n : ℕ) (held : ℕ → ℕ) → 0 < n → 0 < held 0 → some_mount n held ≡ true
some_access zero held mount some = absurd (omega arith)
some_access (suc zero) held mount some = lt-ltb 0 (held 0) some
some_access (suc (suc n)) held mount some = rw (some_access (suc n) held (omega arith) some) refl

-- A task inside write access may change the tree.
module _ (s : SeatedTask) (held : HasWriteAccess s) (mount : 0 < s.config.mounts) where
  holds_then : holdings_of (own_actions s) ≡
      held_after (Some (Grant (Mount 0))) (held_after (Some (Grant (Level 1))) (holdings_of (own_actions held.before)))
  holds_then =
      let was = was_done (WantWrite 0 held.cpu) held.before held.granted held.took in
      held.since.held ∙ ap holdings_of (adds (WantWrite 0 held.cpu) held.before held.granted (Ok was.reply) was.called)

  inside_level : levels_of (own_actions s) 1 ≡ true
  inside_level = ap (λ (h : Holdings). h.levels 1) holds_then

  has_access : some_mount s.config.mounts (mounts_of (own_actions s)) ≡ true
  has_access =
      let one : mounts_of (own_actions s) 0 ≡ mounts_of (own_actions held.before) 0 + 1 =
      ap (λ (h : Holdings). h.mounts 0) holds_then in
      some_access s.config.mounts (mounts_of (own_actions s)) mount (omega (arith, one))

  pub create_begins : 0 < s.config.nodes → refusal_at (Create 0 File) s ≡ None
  create_begins node = rw (held.since.idle, lt-ltb 0 s.config.nodes node, inside_level, has_access) refl

  pub grow_begins : (file : ℕ) → file < s.config.nodes → refusal_at (Grow file 1) s ≡ None
  grow_begins file node = rw (held.since.idle, lt-ltb file s.config.nodes node, inside_level, has_access) refl

-- how a growth is refused, where it isn't tried again
grow_ends : (file : ℕ) (c : Config) (trace : List Traced) (refusal : GateError) → ¬ (refusal ≡ Again) →
    IsHonestAnswer c (Grow file 1) (Err refusal) trace → EndsGrow refusal
grow_ends file c trace NoEntry other honest = tt
grow_ends file c trace IsDir other honest = tt
grow_ends file c trace NoSpace other honest = tt
grow_ends file c trace Again other honest = absurd (other refl)
grow_ends file c trace refusal other honest = absurd honest

pub grow_refused : (file : ℕ) (first last : SeatedTask) (refusal : GateError) → ¬ (refusal ≡ Again) →
    Called (Grow file 1) first last (Err refusal) → EndsGrow refusal
grow_refused file first last refusal other k = grow_ends file first.config k.trace refusal other k.honest

-- A task at rest may freeze, take a snapshot and thaw.
module _ (s : SeatedTask) (rests : Rests s) where
  pub freeze_begins : refusal_at (Freeze User) s ≡ None
  freeze_begins = rw (
    rests.0,
    rests.1.1 1 (omega arith) (omega arith),
    rests.1.1 2 (omega arith) (omega arith),
    rests.1.1 3 (omega arith) (omega arith),
  ) refl

  pub thaw_begins : refusal_at (Thaw User) s ≡ None
  thaw_begins = rw (
    rests.0,
    rests.1.1 1 (omega arith) (omega arith),
    rests.1.1 2 (omega arith) (omega arith),
    rests.1.1 3 (omega arith) (omega arith),
  ) refl

  pub snapshot_begins : refusal_at (Snapshot true) s ≡ None
  snapshot_begins = rw (
    rests.0,
    rests.1.1 1 (omega arith) (omega arith),
    rests.1.1 2 (omega arith) (omega arith),
    rests.1.1 3 (omega arith) (omega arith),
  ) refl

-- Hooks that all answer Ok.
module _ {H : Type 0} (answers : HookCall → DealtNumbers → H → HookAnswer → H → Type 0)
    (agree : (call : HookCall) (at : DealtNumbers) (old new : H) (answer : HookAnswer) → answers call at old answer new → answer ≡ Ok tt) where
  -- none of them has failed
  none_failed : (call : HookCall) (code : ℕ) (at : DealtNumbers) (earlier : List Ask) (before after : H) →
      WereAsked answers (failed call code at ∷ earlier) before after → ⊥
  none_failed call code at earlier before after asked =
      let no : ◌≡◌ {A = HookAnswer} (Err code) (Ok tt) = agree call at asked.0 after (Err code) asked.2 in let f : ⊥ = cc in f

  -- so a thaw is refused as invalid alone
  thaw_ends : (c : Config) (trace : List Traced) (asks : List Ask) (before after : H) (refusal : GateError) →
      IsHonestAnswer c (Thaw User) (Err refusal) trace → AskedByRefused UnfreezeFs refusal asks → WereAsked answers asks before after →
      refusal ≡ Invalid
  thaw_ends c trace asks before after Invalid honest told asked = refl
  thaw_ends c trace asks before after (Hook code) honest told asked =
      absurd (none_failed UnfreezeFs code told.0 [] before after (subst (λ l. WereAsked answers l before after) told.1 asked))
  thaw_ends c trace asks before after refusal honest told asked = absurd honest

  thaw_told : (first last : SeatedTask) (before after : H) (refusal : GateError) (answer : Result Reply GateError) →
      ◌≡◌ {A = Result (Unit {0}) GateError} (Err refusal) (told_as unit_of answer) → (called : Called (Thaw User) first last answer) →
      WereAsked answers (asks_of first.config (Thaw User) first.items called.trace) before after → Called (Thaw User) first last (Err Invalid)
  thaw_told first last before after refusal (Ok reply) told called asked = absurd (let f : ⊥ = cc in f)
  thaw_told first last before after refusal (Err cause) told called asked =
      subst (λ e. Called (Thaw User) first last (Err e))
      (thaw_ends first.config called.trace _ before after cause called.honest (refused_thaw User first last cause called) asked) called

  pub thaw_refused : (first last : SeatedTask) (before after : H) (refusal : GateError) → refusal_at (Thaw User) first ≡ None →
      PerformsAsking answers (Thaw User) first last (Err refusal) before after → Called (Thaw User) first last (Err Invalid)
  thaw_refused first last before after refusal began did =
      let done = did.replies.done began in thaw_told first last before after refusal done.0 done.1 done.2 (did.asked began)

-- how a snapshot is refused
snapshot_ends : (c : Config) (trace : List Traced) (refusal : GateError) → IsHonestAnswer c (Snapshot true) (Err refusal) trace → refusal ≡ Invalid
snapshot_ends c trace Invalid honest = refl
snapshot_ends c trace Again honest = absurd (let f : ⊥ = cc honest.0 in f)
snapshot_ends c trace refusal honest = absurd honest

pub snapshot_refused : (first last : SeatedTask) (refusal : GateError) → Called (Snapshot true) first last (Err refusal) → refusal ≡ Invalid
snapshot_refused first last refusal k = snapshot_ends first.config k.trace refusal k.honest

-- A granted freeze stands in its task's list, and a snapshot leaves the list, whatever it answers.
pub freezes_list : (first last : SeatedTask) → Does (Freeze User) first last → held_by (holders_of (own_actions last)) User ≡ true
freezes_list first last did =
    let was = was_done (Freeze User) first last did in
    subst (λ (l : List Action). held_by (holders_of l) User ≡ true) (sym (adds (Freeze User) first last (Ok was.reply) was.called)) refl

pub snapshot_list : {A : Type 0} (read : Reply → A) (first last : SeatedTask) (outcome : Result A GateError) →
    Replies read (Snapshot true) first last outcome → own_actions last ≡ own_actions first
snapshot_list read first last outcome did = either_way read (Snapshot true) first last outcome did (λ (s : SeatedTask). own_actions s ≡ own_actions first)
    refl (λ answer called. adds (Snapshot true) first last answer called)

-- By a list that has no freeze and no thaw the task may freeze.
never_as : (actions : List Action) → NeverFreezes actions → (stage_of actions ≡ 0) × (holders_of actions ≡ nobody)
never_as [] never = (refl, refl)
never_as (Stage n ∷ earlier) never = absurd never.0
never_as (Hold h ∷ earlier) never = absurd never.0
never_as (Leave h ∷ earlier) never = absurd never.0
never_as (a ∷ earlier) never = never_as earlier never.1

pub never_may : (actions : List Action) → NeverFreezes actions → MayFreeze User actions
never_may actions never = let its = never_as actions never in (inl its.0, ap (λ h. held_by h User) its.1)

-- And after a freeze and a thaw it may again.
abbrev IsSettled : List Action → Type 0
IsSettled actions = (stage_of actions ≡ 0) ⊎ (stage_of actions ≡ 4)

settled_frozen : (complete sealed : Bool) (closed earlier : List Action) → IsSettled earlier →
    IsSettled ((Hold User ∷ (if complete then [] else Stage 4 ∷ (if sealed then [] else closed))) ++ earlier)
settled_frozen true sealed closed earlier settled = settled
settled_frozen false sealed closed earlier settled = inr refl

may_thawed : (shared sealed : Bool) (earlier : List Action) → IsSettled earlier →
    MayFreeze User ((if shared then Leave User ∷ [] else if sealed then Stage 0 ∷ (Leave User ∷ []) else
    Reopen 1 ∷ (Reopen 2 ∷ (Reopen 3 ∷ (Stage 0 ∷ (Leave User ∷ []))))) ++ earlier)
may_thawed true sealed earlier settled = (settled, refl)
may_thawed false true earlier settled = (inl refl, refl)
may_thawed false false earlier settled = (inl refl, refl)

pub may_again : (first frozen copied thawed : SeatedTask) → MayFreeze User (own_actions first) → Does (Freeze User) first frozen →
    own_actions copied ≡ own_actions frozen → Does (Thaw User) copied thawed → MayFreeze User (own_actions thawed)
may_again first frozen copied thawed may freezes same thaws =
    let froze = was_done (Freeze User) first frozen freezes in
    let thawn = was_done (Thaw User) copied thawed thaws in
    let settled : IsSettled (own_actions copied) = subst IsSettled (sym (same ∙ adds (Freeze User) first frozen (Ok froze.reply) froze.called))
    (settled_frozen (found_complete froze.called.trace) (found_sealed froze.called.trace) _ (own_actions first) may.0) in
    subst (MayFreeze User) (sym (adds (Thaw User) copied thawed (Ok thawn.reply) thawn.called))
    (may_thawed (found_shared User thawn.called.trace) (found_sealed thawn.called.trace) (own_actions copied) settled)

-- callbacks leave the list
calls_back_list : (level : ℕ) (first last : SeatedTask × ℕ × ℕ) → CallsBack level first last → own_actions last.0 ≡ own_actions first.0
calls_back_list level first last ran = either_way _ (Callback level) first.0 last.0 _ ran.1 (λ (s : SeatedTask). own_actions s ≡ own_actions first.0)
    refl (λ answer called. adds (Callback level) first.0 last.0 answer called)

pub callbacks_list : (n : ℕ) (first last : SeatedTask × ℕ × ℕ) → Repeats (λ k. CallsBack (k + 1)) n first last →
    own_actions last.0 ≡ own_actions first.0
callbacks_list zero first last did = ap (λ (x : SeatedTask × ℕ × ℕ). own_actions x.0) did
callbacks_list (suc n) first last did = calls_back_list (n + 1) did.0 last did.2 ∙ callbacks_list n first did.0 did.1

-- what a task has seen it has seen still after a call that was done
pub done_stays_seen : (op : Op) (first last : SeatedTask) → Does op first last → StaySeen first.seen last.seen
done_stays_seen op first last did =
    let was = was_done op first last did in call_stays_seen op first last (Ok was.reply) was.called

-- No file is refused as Order, TooMany or Invalid.
abbrev pub IsInOrder : GateError → Type 0
IsInOrder refusal = (refusal ≢ Order) × (refusal ≢ TooMany) × (refusal ≢ Invalid)

create_in_order : (refusal : GateError) → EndsCreate refusal → IsInOrder refusal
create_in_order NoSpace ends = ((λ is. let f : ⊥ = cc in f), (λ is. let f : ⊥ = cc in f), (λ is. let f : ⊥ = cc in f))
create_in_order Again ends = ((λ is. let f : ⊥ = cc in f), (λ is. let f : ⊥ = cc in f), (λ is. let f : ⊥ = cc in f))
create_in_order refusal ends = absurd ends

grow_in_order : (refusal : GateError) → EndsGrow refusal → IsInOrder refusal
grow_in_order NoEntry ends = ((λ is. let f : ⊥ = cc in f), (λ is. let f : ⊥ = cc in f), (λ is. let f : ⊥ = cc in f))
grow_in_order IsDir ends = ((λ is. let f : ⊥ = cc in f), (λ is. let f : ⊥ = cc in f), (λ is. let f : ⊥ = cc in f))
grow_in_order NoSpace ends = ((λ is. let f : ⊥ = cc in f), (λ is. let f : ⊥ = cc in f), (λ is. let f : ⊥ = cc in f))
grow_in_order refusal ends = absurd ends

pub file_in_order : (gates : Gates) (tasks processors rounds : ℕ) (refusal : GateError) →
    CreateRefused gates tasks refusal ⊎ WriterRefused gates tasks processors rounds refusal → IsInOrder refusal
file_in_order gates tasks processors rounds refusal (inl created) = create_in_order refusal created.ends
file_in_order gates tasks processors rounds refusal (inr writer) = grow_in_order refusal writer.grow.ends
