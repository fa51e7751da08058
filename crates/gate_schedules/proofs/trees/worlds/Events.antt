-- The law of one step of a call at the tree that is no snapshot: the invariant holds after it, and it moves the shown state by its action.
use Rattle.gate_schedules.proofs.Prelude.{Config, Files, Fitting, Holds, HookAnswer, IsGood, IsWithin, Known, List, Next, Option, Owner, Part, Phase}
use Rattle.gate_schedules.proofs.Prelude.{Some, Stages, StepKeeps, SyncAt, SyncStep, Traced, Tree, TreePhase, WordName, Words, World, after_of}
use Rattle.gate_schedules.proofs.Prelude.{after_step, ap, arith, false, found_at, left, level_in, map_next, next_of, owns, phase_after, put, read}
use Rattle.gate_schedules.proofs.Prelude.{refl, role_after, stage_role_of, sym, tree_role_of, true, values_noted, words_after, ℕ, ◌<◌, ◌∙◌, ◌≡◌}
use Rattle.{freeze_laws.specs.stages.Roles.Aside, gate_world.specs.Roles.nodes_noted, gated_tree.specs.{Calls.phase_role, Phases.after}}
use Rattle.gate_schedules.proofs.{frames.{Frames.{left_alone, unwritten}, Known.{IsOwnersWork, known_after}}, mounts.Runs.apart_run}
use Rattle.gate_schedules.proofs.trees.worlds.Parts.{IsAtTree, IsBesideTree, TreeKeeps, beside_then, call_at, call_files, call_fitting, call_found}
use Rattle.gate_schedules.proofs.trees.worlds.Parts.{call_keeps, call_moves, call_next, call_view, gate_parts, gate_words, is_node_word, is_snapshot}
use Rattle.gate_schedules.{proofs.trees.worlds.Parts.{node_word, roles_still, touch_beside, view_then, words_then}, specs.trees.Steps.Notes}

-- a phase that owns nothing, has to do with no stage, and of which nothing is noted
pub record IsPlain (p : Option Phase) : Type 0 where
  pub aside : stage_role_of p ≡ Aside
  pub owns_none : owns p ≡ 0

-- a call that is no snapshot is one
plain_call : (x : TreePhase) → is_snapshot x ≡ false → IsPlain (Some (Phase.Trees x))
plain_call x other = grind arith

-- nor does anything come after it that is one
abbrev IsOther : Next TreePhase → Type 0
IsOther (Next.Go x) = is_snapshot x ≡ false
IsOther (Next.Wait x) = is_snapshot x ≡ false
IsOther (Next.Done answer) = Unit {0}

-- so none that is no snapshot becomes one
other_after : (x : TreePhase) (found : ℕ) (hook : HookAnswer) → is_snapshot x ≡ false → IsOther (after x found hook).0
other_after x found hook other = grind arith

-- and what comes after it is plain
plain_after : (n : Next TreePhase) → IsOther n → IsPlain (phase_after (map_next Phase.Trees n))
plain_after n other = grind arith

role_comes : (n : Next TreePhase) (noted : ℕ → ℕ) (trace : List Traced) → IsOther n →
    role_after (phase_role noted) n ≡ tree_role_of trace (phase_after (map_next Phase.Trees n))
role_comes n noted trace other = grind arith

notes_nothing : (x : TreePhase) (values noted : ℕ → ℕ) (found : ℕ) → is_snapshot x ≡ false → Notes x values noted found
notes_nothing x values noted found other = grind arith

-- a write of a word of the tree leaves `umount`
pub umount_same : (w : Words) (word : WordName) (n : ℕ) → is_node_word word ≡ true → (put w word n).umount ≡ w.umount
umount_same w word n h = grind arith

-- each level stays at a step at the tree
pub tree_run : (tasks : ℕ) (w : World) (t : ℕ) → t < tasks → (phase : Phase) (hook : HookAnswer) → (w.views t).phase ≡ Some phase →
    IsAtTree w phase hook → (i : ℕ) → SyncStep tasks (level_in w i) (level_in (after_step w t phase hook) i)
tree_run tasks w t lt phase hook e at i =
    apart_run tasks w t lt hook phase e i
    (gate_words (SyncAt i) refl w.words (words_after w.words phase hook) (touch_beside w.words (next_of phase hook) at.touches))
    (λ j. (at.off.roles j).inside) (λ j. (at.off.roles j).sync i) (λ j. (at.off_then.roles j).inside) (λ j. (at.off_then.roles j).sync i)

-- The conjuncts of the invariant after a step at the tree before and after which the task is plain.
module _ (c : Config) (w : World) (good : IsGood c w) (t : ℕ) (lt : t < c.tasks) (phase : Phase) (hook : HookAnswer)
    (e : (w.views t).phase ≡ Some phase) (at : IsAtTree w phase hook) (word : is_node_word (next_of phase hook).0 ≡ true)
    (was : IsPlain (Some phase)) (now : IsPlain (phase_after (after_of phase (found_at w.words phase hook) hook).0)) where
  plain_work : IsOwnersWork w phase hook
  plain_work = grind arith

  pub plain_parts : Holds c (after_step w t phase hook) Fitting → Holds c (after_step w t phase hook) Tree →
      Holds c (after_step w t phase hook) Files → (part : Part) → Holds c (after_step w t phase hook) part
  plain_parts fitting tree files Owner =
      left_alone c w t lt Owner (words_then c w good t lt phase hook e at) (view_then c w good t lt phase hook e at) (
        umount_same w.words (next_of phase hook).0 (left (next_of phase hook).1 (read w.words (next_of phase hook).0)) word,
        λ j. (beside_then c w good t lt phase hook e at j).remount,
      )
      (now.owns_none ∙ sym (ap owns e ∙ was.owns_none), λ j. (roles_still c w good t lt phase hook e at j).remounts) (good Owner)
  plain_parts fitting tree files Stages =
      let beside : IsBesideTree w.words (words_then c w good t lt phase hook e at) = beside_then c w good t lt phase hook e at in
      left_alone c w t lt Stages (words_then c w good t lt phase hook e at) (view_then c w good t lt phase hook e at)
      (unwritten beside Stages) (now.aside ∙ sym (ap stage_role_of e ∙ was.aside)) (good Stages)
  plain_parts fitting tree files Fitting = fitting
  plain_parts fitting tree files Known = known_after c w t phase hook good lt e plain_work
  plain_parts fitting tree files Tree = tree
  plain_parts fitting tree files Files = files
  plain_parts fitting tree files part = gate_parts c w good t lt phase hook e at part refl

module _ (c : Config) (within : IsWithin c) (w : World) (good : IsGood c w) (t : ℕ) (lt : t < c.tasks) (hook : HookAnswer) (x : TreePhase)
    (other : is_snapshot x ≡ false) (e : (w.views t).phase ≡ Some (Phase.Trees x)) where
  next_other : IsOther (call_next c within w good t lt x hook e)
  next_other = other_after x (call_found c within w good t lt x hook e) hook other

  tree_kept : TreeKeeps c within w good t lt x hook e
  tree_kept =
      let values : ℕ → ℕ = values_noted (nodes_noted x) (w.views t).trace in
      call_keeps c within w good t lt x hook e values (notes_nothing x values values (call_found c within w good t lt x hook e) other)
      (role_comes (call_next c within w good t lt x hook e) values (call_view c within w good t lt x hook e).trace next_other)

  tree_keeps : StepKeeps c w t hook (Phase.Trees x)
  tree_keeps = (
    plain_parts c w good t lt (Phase.Trees x) hook e (call_at w x hook) (node_word x hook other) (plain_call x other)
        (plain_after (call_next c within w good t lt x hook e) next_other) (call_fitting c within w good t lt x hook e) tree_kept.0
        (call_files c within w good t lt x hook e tree_kept),
    call_moves c within w good t lt x hook e tree_kept,
  )

-- The law of one step of each call at the tree but a snapshot.
pub tree_step : (c : Config) → IsWithin c → (w : World) → IsGood c w → (t : ℕ) → t < c.tasks → (hook : HookAnswer) (x : TreePhase) →
    is_snapshot x ≡ false → (w.views t).phase ≡ Some (Phase.Trees x) → StepKeeps c w t hook (Phase.Trees x)
tree_step c within w good t lt hook x other e = tree_keeps c within w good t lt hook x other e
