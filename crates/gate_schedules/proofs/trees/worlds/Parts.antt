-- A step of a call at the tree: it leaves the mounts, the levels and the sections alone, and all of the shown state but the tree. A
-- snapshot is such a call, too.
use Rattle.gate_schedules.proofs.Prelude.{Action, AtLevel, AtMount, Bool, Config, Files, Fits, Fitting, HasFile, Holding, Holdings, Holds, HookAnswer}
use Rattle.gate_schedules.proofs.Prelude.{IsGood, IsWithin, Mark, MarkStep, Next, None, Option, Part, Phase, Role, Roles, SameWords, Sections, Some}
use Rattle.gate_schedules.proofs.Prelude.{SyncAt, Touch, Tree, TreeHolds, TreePhase, View, ViewFits, WordName, Words, World, added_by, after_of}
use Rattle.gate_schedules.proofs.Prelude.{after_step, ap, arith, closing, common_steps, each_updated, false, file_of, found_at, has_open, held_after}
use Rattle.gate_schedules.proofs.Prelude.{held_at, held_of, holders_in, holds_level, if◌then◌else◌, is_bare_at, left, level_added_by, level_taken_by}
use Rattle.gate_schedules.proofs.Prelude.{map_next, mark_after, model_limits, next_of, no_roles, node_shown, openers, phase_after, put, read, refl}
use Rattle.gate_schedules.proofs.Prelude.{ro_bit, role_after, roles_of, shown, subst, sym, taken_by, tree_bounds, tree_role_of, tree_roles, true}
use Rattle.gate_schedules.proofs.Prelude.{true≢false, update, update_map, update_same, value_at, values_noted, view_after, words_after, ℕ, ◌<◌, ◌==◌}
use Rattle.gate_schedules.proofs.Prelude.{◌||◌, ◌∙◌, ◌≡◌, ◌⊎◌}
use Rattle.freeze_laws.specs.stages.Roles.{Aside}
use Rattle.gate_world.specs.{Fits.TreeAccess, Levels.{level_added_after, level_taken_after}, Roles.nodes_noted, Rules.{Moves as ModelMoves, SameView}}
use Rattle.gate_world.specs.{Trees.is_sealed, Views.{added_after, taken_after}, traces.Found.is_load}
use Rattle.gated_tree.specs.{Calls.{NextFits, TreePhaseFits, phase_role}, Phases.{after, next}}
use Rattle.gate_schedules.proofs.frames.{Accesses.holdings_of_after, Agreeing.access_agrees, Frames.{left_alone, level_view_as, shown_as, view_as}}
use Rattle.gate_schedules.proofs.{frames.Openers.most_tasks_is, trees.{Allowed.{may_do, tree_alone}, Fitting.fits_after, Phases.each_phase}}
use Rattle.gate_schedules.proofs.trees.worlds.{MayTree.{LeaveFor, call_fits, leave, may_step}, OpenFiles.{file_then, files_counted, same_counts}}
use Rattle.gate_schedules.{proofs.trees.worlds.Trees.{tree_holds, tree_within}, specs.trees.Events.{MovesBy, opens_shown}}
use Rattle.gate_schedules.specs.trees.Steps.{Notes, StepKeeps, tree_in}

-- the words of the tree
abbrev pub is_node_word : WordName → Bool
is_node_word WordName.Used = true
is_node_word WordName.Removed = true
is_node_word (WordName.Node n) = true
is_node_word (WordName.Kids d) = true
is_node_word word = false

-- the words that calls at the tree write: those, and a snapshot `umount`
abbrev pub is_call_word : WordName → Bool
is_call_word WordName.Umount = true
is_call_word WordName.Used = true
is_call_word WordName.Removed = true
is_call_word (WordName.Node n) = true
is_call_word (WordName.Kids d) = true
is_call_word word = false

pub node_call : (word : WordName) → is_node_word word ≡ true → is_call_word word ≡ true
node_call word h = grind (arith, h)

-- the call is a snapshot
abbrev pub is_snapshot : TreePhase → Bool
is_snapshot (TreePhase.Snapshot x) = true
is_snapshot x = false

pub node_word : (x : TreePhase) (hook : HookAnswer) → is_snapshot x ≡ false → is_node_word (next x hook).0 ≡ true
node_word x hook other = grind arith

-- the step of this touch on this word is a load, or the word is one that calls write
abbrev pub IsCallTouch : WordName × Touch → Type 0
IsCallTouch x = (is_load x.1 ≡ true) ⊎ (is_call_word x.0 ≡ true)

pub call_touch : (x : TreePhase) (hook : HookAnswer) → IsCallTouch (next x hook)
call_touch x hook = grind arith

-- the words that no call at the tree writes
abbrev pub beside_calls : Words → Words
beside_calls w = record w { umount = 0; used = 0; removed = 0; node = λ n. 0; kids = λ d. 0 }

-- are as they were
abbrev pub IsBesideTree : Words → Words → Type 0
IsBesideTree old new = beside_calls new ≡ beside_calls old

-- so they are after each step that loads a word, or writes such a one
pub touch_beside : (w : Words) (x : WordName × Touch) → IsCallTouch x → IsBesideTree w (put w x.0 (left x.1 (read w x.0)))
touch_beside w x touches = grind arith

pub sealed_beside : (old new : Words) → IsBesideTree old new → is_sealed new ≡ is_sealed old
sealed_beside old new same = λ j. is_sealed (same j)

pub bare_beside : (old new : Words) → IsBesideTree old new → is_bare_at new ≡ is_bare_at old
bare_beside old new same = λ j. is_bare_at (same j)

-- so no step of a call counts anywhere
pub record CountsNowhere (x : WordName × Touch) : Type 0 where
  pub added : (a : ℕ → ℕ → ℕ) → added_after x.0 x.1 a ≡ a
  pub taken : (a : ℕ → ℕ → ℕ) → taken_after x.0 x.1 a ≡ a
  pub level_added : (a : ℕ → ℕ → ℕ) → level_added_after x.0 x.1 a ≡ a
  pub level_taken : (a : ℕ → ℕ → ℕ) → level_taken_after x.0 x.1 a ≡ a

pub counts_nowhere : (x : WordName × Touch) → IsCallTouch x → CountsNowhere x
counts_nowhere x touches = grind arith

-- an action, if there is one, leaves its task's accesses at mounts and levels
pub record LeavesAccesses (action : Option Action) : Type 0 where
  pub mounts : (held : Holdings) → (held_after action held).mounts ≡ held.mounts
  pub levels : (held : Holdings) → (held_after action held).levels ≡ held.levels

pub call_leaves : (x : TreePhase) (found : ℕ) (hook : HookAnswer) → LeavesAccesses (after x found hook).1
call_leaves x found hook = grind (arith, common_steps)

module _ (c : Config) (held : Holdings) where
  -- what comes after a step is a call at which its task may be
  abbrev pub AccessAfter : Next TreePhase → Type 0
  AccessAfter (Next.Go x) = TreeAccess c held x
  AccessAfter (Next.Wait x) = TreeAccess c held x
  AccessAfter (Next.Done answer) = Unit {0}

  comes_with : {P : Type 0} (to : P → TreePhase) → ((y : P) → TreeAccess c held (to y)) → (n : Next P) → AccessAfter (map_next to n)
  comes_with to may n = grind arith

  -- after a step of a page fault or a write-back
  mark_access : (x : Mark) (s : MarkStep) (found : ℕ) → TreeAccess c held (TreePhase.Mark x) →
      AccessAfter (map_next TreePhase.Mark (mark_after x s found).0)
  mark_access x s found may = grind (arith, common_steps)

  -- a call keeps its task's accesses
  pub access_after : (x : TreePhase) (found : ℕ) (hook : HookAnswer) → TreeAccess c held x → AccessAfter (after x found hook).0
  access_after x found hook may = grind (arith, comes_with, mark_access)

  -- so what comes after it fits
  next_fits : (t : ℕ) (n : Next TreePhase) → NextFits (tree_bounds c) t n → AccessAfter n →
      Fits c t held (phase_after (map_next Phase.Trees n))
  next_fits t n fits may = grind arith

  call_goes_on : IsWithin c → (t : ℕ) (x : TreePhase) (found : ℕ) (hook : HookAnswer) →
      TreePhaseFits (tree_bounds c) t x × TreeAccess c held x →
      Fits c t held (phase_after (map_next Phase.Trees (after x found hook).0))
  call_goes_on within t x found hook fits =
      next_fits t (after x found hook).0 (fits_after (tree_bounds c) (tree_within c within) t x found hook fits.0)
      (access_after x found hook fits.1)

-- and its task's accesses are the same
pub call_goes : (c : Config) (held : Holdings) → IsWithin c → (t : ℕ) (x : TreePhase) (found : ℕ) (hook : HookAnswer) →
    TreePhaseFits (tree_bounds c) t x × TreeAccess c held x →
    Fits c t (held_after (after x found hook).1 held) (phase_after (map_next Phase.Trees (after x found hook).0))
call_goes c held within t x found hook fits =
    let left : Holdings = held_after (after x found hook).1 held in
    let leaves : LeavesAccesses (after x found hook).1 = call_leaves x found hook in
    call_goes_on c left within t x found hook (
      fits.0,
      access_agrees c held left (λ m lm. ap (λ f. f m) (sym (leaves.mounts held)))
          (λ i one three. ap (λ f. f i) (sym (leaves.levels held))) x fits.1,
    )

-- these roles but for those of calls at the tree
abbrev pub off_calls : Roles → Roles
off_calls r = record r { stage = Aside; tree = no_roles.tree; owns = 0; file = None }

-- a phase that has no other role, and closes no level
pub record IsOffGates (p : Option Phase) : Type 0 where
  pub roles : off_calls (roles_of p) ≡ no_roles
  pub closing_none : (i : ℕ) → closing i p ≡ 0

pub idle_off : IsOffGates None
idle_off = record { roles = refl; closing_none = λ i. refl }

pub call_off : (x : TreePhase) → IsOffGates (Some (Phase.Trees x))
call_off x = record { roles = refl; closing_none = λ i. refl }

pub next_off : (n : Next TreePhase) → IsOffGates (phase_after (map_next Phase.Trees n))
next_off n = grind arith

-- the parts that no step of a call touches
abbrev pub is_gate_part : Part → Bool
is_gate_part Holding = true
is_gate_part (AtMount m) = true
is_gate_part (AtLevel i) = true
is_gate_part (SyncAt i) = true
is_gate_part Sections = true
is_gate_part part = false

pub gate_words : (part : Part) → is_gate_part part ≡ true → (old new : Words) → IsBesideTree old new → SameWords old new part
gate_words part h old new same = grind arith

-- a step at the tree, of whatever operation: it writes no other word but `umount`, and leaves its task's accesses
pub record IsAtTree (w : World) (phase : Phase) (hook : HookAnswer) : Type 0 where
  pub touches : IsCallTouch (next_of phase hook)
  pub leaves : LeavesAccesses (after_of phase (found_at w.words phase hook) hook).1
  pub off : IsOffGates (Some phase)
  pub off_then : IsOffGates (phase_after (after_of phase (found_at w.words phase hook) hook).0)

module _ (c : Config) (w : World) (good : IsGood c w) (t : ℕ) (lt : t < c.tasks) (phase : Phase) (hook : HookAnswer)
    (e : (w.views t).phase ≡ Some phase) (at : IsAtTree w phase hook) where
  -- the words and the task's view after it, and its action
  abbrev pub words_then : Words
  words_then = words_after w.words phase hook

  abbrev pub view_then : View
  view_then = view_after (w.views t) phase (value_at w.words phase hook) hook

  abbrev pub action_then : Option Action
  action_then = (after_of phase (found_at w.words phase hook) hook).1

  pub beside_then : IsBesideTree w.words words_then
  beside_then = touch_beside w.words (next_of phase hook) at.touches

  held_then : held_of view_then ≡ held_after action_then (held_of (w.views t))
  held_then = holdings_of_after action_then (w.views t).actions

  held_still : held_at view_then ≡ held_at (w.views t)
  held_still = ap (λ (h : Holdings). h.mounts) held_then ∙ at.leaves.mounts (held_of (w.views t))

  levels_still : holds_level view_then ≡ holds_level (w.views t)
  levels_still = ap (λ (h : Holdings). h.levels) held_then ∙ at.leaves.levels (held_of (w.views t))

  was_off : IsOffGates (w.views t).phase
  was_off = subst IsOffGates (sym e) at.off

  -- the roles that no call has are the same
  pub roles_still : off_calls (roles_of view_then.phase) ≡ off_calls (roles_of (w.views t).phase)
  roles_still = at.off_then.roles ∙ sym was_off.roles

  -- what the parts of mounts, levels and sections read of the task's view is the same
  gate_view : (part : Part) → is_gate_part part ≡ true → SameView (w.views t) view_then part
  gate_view Holding h = λ j. (roles_still j).holder
  gate_view (AtMount m) h =
      let none : CountsNowhere (next_of phase hook) = counts_nowhere (next_of phase hook) at.touches in
      view_as (ap (λ f. f m) held_still) (ap (λ f. f m) (none.added (added_by (w.views t).events)))
      (ap (λ f. f m) (none.taken (taken_by (w.views t).events))) (λ j. (roles_still j).mount m)
  gate_view (AtLevel i) h =
      let none : CountsNowhere (next_of phase hook) = counts_nowhere (next_of phase hook) at.touches in
      level_view_as (ap (λ (f : ℕ → Bool). if f i then 1 else 0) levels_still)
      (ap (λ f. f i) (none.level_added (level_added_by (w.views t).events)))
      (ap (λ f. f i) (none.level_taken (level_taken_by (w.views t).events)))
      (λ j. (roles_still j).count i)
  gate_view (SyncAt i) h = λ j. (roles_still j).sync i
  gate_view Sections h = λ j. (roles_still j).inside
  gate_view part h = absurd (true≢false (sym h))

  pub gate_parts : (part : Part) → is_gate_part part ≡ true → Holds c (after_step w t phase hook) part
  gate_parts part h = left_alone c w t lt part words_then view_then (gate_words part h w.words words_then beside_then) (gate_view part h) (good part)

  -- what comes after the step fits the accesses that it leaves
  pub fitting_then : Fits c t (held_after action_then (held_of (w.views t))) view_then.phase →
      Holds c (after_step w t phase hook) Fitting
  fitting_then fits y ly =
      each_updated (λ z (u : View). ViewFits c z u) w.views t view_then y
      (subst (λ k. Fits c t k view_then.phase) (sym held_then) fits) (λ ne. good Fitting y ly)

  -- the shown state is as it was but for the tree and the task's open files
  shown_then : shown c (after_step w t phase hook) ≡ record (shown c w) {
    opens = update (shown c w).opens t (held_after action_then (held_of (w.views t))).files;
    tree = λ n. node_shown (words_then.node n);
  }
  shown_then =
      let same : IsBesideTree w.words words_then = beside_then in
      shown_as c w t lt words_then view_then (λ j. (same j).block) (λ i. at.off_then.closing_none i ∙ sym (was_off.closing_none i)) ∙
      (λ j. record (shown c w) {
        mounts = (ap (update (λ y. held_at (w.views y)) t) held_still ∙ update_same (λ y. held_at (w.views y)) t) j;
        levels = (ap (update (λ y. holds_level (w.views y)) t) levels_still ∙ update_same (λ y. holds_level (w.views y)) t) j;
        opens = ap (λ (h : Holdings). update (λ y. has_open (w.views y)) t h.files) held_then j;
        mount_ro = λ m. ro_bit ((same j).flags m) == 1;
        sb_ro = (same j).remount == 1 || (same j).sb == 1;
        stage = (same j).stage;
        holders = holders_in (same j).holders;
        tree = λ n. node_shown (words_then.node n);
      })

  -- so where the nodes that are shown move by the step's action, the model does
  pub shown_moves : (action : Option Action) → action_then ≡ action → LeaveFor c w good t lt action →
      MovesBy (tree_bounds c) w.words.node words_then.node action →
      ModelMoves c (shown c w) t action (shown c (after_step w t phase hook))
  shown_moves None is leave moves =
      shown_then ∙
      (λ j. record (shown c w) {
        opens = (ap (λ a. update (shown c w).opens t (held_after a (held_of (w.views t))).files) is ∙ update_same (shown c w).opens t) j;
        tree = moves.0 j;
      })
  shown_moves (Some action) is leave moves = (
    (lt, may_do (model_limits c) (shown c w) t action leave moves.allowed),
    shown_then ∙
        (λ j. record (shown c w) {
          opens = ap (λ a. update (shown c w).opens t (held_after a (held_of (w.views t))).files) is j;
          tree = (moves.effect ∙ same_counts (tree_bounds c) (opens_shown w.words.node) (openers (shown c w).opens) (shown c w).tree action
              moves.allowed (λ n ln. (good Files).counted n ln)) j;
        }) ∙ sym (tree_alone (model_limits c) (shown c w) t action leave),
  )

  -- the files of the state then: as many tasks have each open as its word says
  pub files_then : IsWithin c → LeaveFor c w good t lt action_then → MovesBy (tree_bounds c) w.words.node words_then.node action_then →
      HasFile (held_after action_then (held_of (w.views t))).files (file_of view_then.phase) → Holds c (after_step w t phase hook) Files
  files_then within leave moves has = record {
    counted = λ n ln.
        files_counted (model_limits c) (shown c w) t (omega (arith, lt, within.tasks, most_tasks_is)) w.words.node words_then.node action_then
        leave moves (good Files).counted n ln ∙
        sym (ap (λ f. openers f n) (update_map has_open w.views t view_then ∙
        ap (λ (h : Holdings). update (λ y. has_open (w.views y)) t h.files) held_then));
    own = λ y ly. each_updated (λ z (u : View). HasFile (has_open u) (file_of u.phase)) w.views t view_then y
        (subst (λ (h : Holdings). HasFile h.files (file_of view_then.phase)) (sym held_then) has)
        (λ ne. (good Files).own y ly);
  }

  -- what holds of the tree with the task's new role, by its words then
  pub tree_then : (role : Role) → role ≡ tree_role_of view_then.trace view_then.phase →
      TreeHolds (tree_bounds c) (tree_in (is_sealed w.words) (is_bare_at w.words) words_then (update (tree_roles w) t role)) →
      Holds c (after_step w t phase hook) Tree
  tree_then role is kept =
      let now_roles : ℕ → Role = update (tree_roles w) t (tree_role_of view_then.trace view_then.phase) in
      tree_holds c w good t lt words_then view_then
      (subst (λ s. TreeHolds (tree_bounds c) (tree_in s (is_bare_at words_then) words_then now_roles))
      (sym (sealed_beside w.words words_then beside_then))
      (subst (λ b. TreeHolds (tree_bounds c) (tree_in (is_sealed w.words) b words_then now_roles))
      (sym (bare_beside w.words words_then beside_then))
      (subst (λ r. TreeHolds (tree_bounds c) (tree_in (is_sealed w.words) (is_bare_at w.words) words_then (update (tree_roles w) t r))) is kept)))

-- a call at the tree has such steps alone
pub call_at : (w : World) (x : TreePhase) (hook : HookAnswer) → IsAtTree w (Phase.Trees x) hook
call_at w x hook = record {
  touches = call_touch x hook;
  leaves = call_leaves x (found_at w.words (Phase.Trees x) hook) hook;
  off = call_off x;
  off_then = next_off (after x (found_at w.words (Phase.Trees x) hook) hook).0;
}

module _ (c : Config) (within : IsWithin c) (w : World) (good : IsGood c w) (t : ℕ) (lt : t < c.tasks) (x : TreePhase) (hook : HookAnswer)
    (e : (w.views t).phase ≡ Some (Phase.Trees x)) where
  -- what the step finds, and what comes after it
  abbrev pub call_found : ℕ
  call_found = found_at w.words (Phase.Trees x) hook

  abbrev pub call_next : Next TreePhase
  call_next = (after x call_found hook).0

  abbrev pub call_words : Words
  call_words = words_after w.words (Phase.Trees x) hook

  abbrev pub call_view : View
  call_view = view_after (w.views t) (Phase.Trees x) (value_at w.words (Phase.Trees x) hook) hook

  pub call_parts : (part : Part) → is_gate_part part ≡ true → Holds c (after_step w t (Phase.Trees x) hook) part
  call_parts = gate_parts c w good t lt (Phase.Trees x) hook e (call_at w x hook)

  pub call_fitting : Holds c (after_step w t (Phase.Trees x) hook) Fitting
  call_fitting =
      fitting_then c w good t lt (Phase.Trees x) hook e (call_at w x hook)
      (call_goes c (held_of (w.views t)) within t x call_found hook (call_fits c w good t lt x e))

  -- what the tree's own law says of the step, where a snapshot has noted this after it
  abbrev pub TreeKeeps : Type 0
  TreeKeeps =
      Holds c (after_step w t (Phase.Trees x) hook) Tree × MovesBy (tree_bounds c) w.words.node call_words.node (after x call_found hook).1

  pub call_keeps : (noted : ℕ → ℕ) → Notes x (values_noted (nodes_noted x) (w.views t).trace) noted call_found →
      role_after (phase_role noted) call_next ≡ tree_role_of call_view.trace call_view.phase → TreeKeeps
  call_keeps noted notes role =
      let kept : StepKeeps (tree_bounds c) (is_sealed w.words) (is_bare_at w.words) w.words (tree_roles w) t x noted hook =
      each_phase (tree_bounds c) (tree_within c within) (is_sealed w.words) (is_bare_at w.words) w.words (tree_roles w) (good Tree) t lt x
      (values_noted (nodes_noted x) (w.views t).trace) noted hook (ap (tree_role_of (w.views t).trace) e) (call_fits c w good t lt x e).0
      (may_step c w good t lt x e) notes in
      (tree_then c w good t lt (Phase.Trees x) hook e (call_at w x hook) (role_after (phase_role noted) call_next) role kept.0, kept.1)

  pub call_files : TreeKeeps → Holds c (after_step w t (Phase.Trees x) hook) Files
  call_files kept =
      files_then c w good t lt (Phase.Trees x) hook e (call_at w x hook) within (leave c w good t lt x call_found hook e) kept.1
      (file_then (held_of (w.views t)) x call_found hook (subst (λ p. HasFile (has_open (w.views t)) (file_of p)) e ((good Files).own t lt)))

  pub call_moves : TreeKeeps → ModelMoves c (shown c w) t (after x call_found hook).1 (shown c (after_step w t (Phase.Trees x) hook))
  call_moves kept =
      shown_moves c w good t lt (Phase.Trees x) hook e (call_at w x hook) (after x call_found hook).1 refl (leave c w good t lt x call_found hook e) kept.1
