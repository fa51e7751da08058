-- What the steps of want, drop and change touch: the rest of the invariant stays.
use Rattle.gate_schedules.proofs.Prelude.{AtLevel, Bool, Config, Files, GateStepKeeps, Holding, Holds, HookAnswer, IsGood, Known, MountPhase, Next}
use Rattle.gate_schedules.proofs.Prelude.{Part, Phase, Roles, SameWords, Sections, Some, Stages, StepKeeps, SyncAt, Touch, Tree, View, WordName}
use Rattle.gate_schedules.proofs.Prelude.{Words, World, after_step, arith, at_level, cases_Bool, false, has_open, inl, inr, left, map_next, no_roles}
use Rattle.gate_schedules.proofs.Prelude.{phase_after, put, read, refl, roles_of, subst, sym, tree_role_of, true, true≢false, value_at, view_after}
use Rattle.gate_schedules.proofs.Prelude.{words_after, ℕ, ◌<◌, ◌≡◌, ◌⊎◌}
use Rattle.gate_world.specs.{Levels.{level_added_after, level_taken_after}, Rules.{SameView, at_gates}, traces.Found.is_load}
use Rattle.mount_counts.specs.Phases.{next}
use Rattle.gate_schedules.proofs.frames.{Frames.left_alone, Known.{IsOwnersWork, known_after}}

-- the words that want, drop and change write
abbrev pub is_gate_word : WordName → Bool
is_gate_word WordName.Umount = true
is_gate_word (WordName.MountFlags m) = true
is_gate_word (WordName.MountCount m p) = true
is_gate_word word = false

-- the step of this touch on this word is a load, or it is a word of these
abbrev pub IsGateTouch : WordName × Touch → Type 0
IsGateTouch x = (is_load x.1 ≡ true) ⊎ (is_gate_word x.0 ≡ true)

mounts_touch : (x : MountPhase) (hook : HookAnswer) → IsGateTouch (next x hook)
mounts_touch x hook = grind arith

-- the part of what an owner knows, which each step's own trace moves
abbrev pub is_known_part : Part → Bool
is_known_part Known = true
is_known_part part = false

pub known_is : (part : Part) → is_known_part part ≡ true → part ≡ Known
known_is part h = grind arith

-- the words but for these
abbrev pub off_gates : Words → Words
off_gates w = record w { umount = 0; flags = λ m. 0; count = λ m p. 0 }

-- so they are as they were
gate_words_left : (w : Words) (x : WordName × Touch) → IsGateTouch x → off_gates (put w x.0 (left x.1 (read w x.0))) ≡ off_gates w
gate_words_left w x touches = grind arith

-- and the parts of the stage, the holders, the tree, the files and the levels read none of these
unread : (part : Part) → at_gates part ≡ false → is_known_part part ≡ false → (old new : Words) → off_gates new ≡ off_gates old →
    SameWords old new part
unread part h k old new same = grind arith

-- these roles but for those of want, drop and change
abbrev pub off_mounts : Roles → Roles
off_mounts r = record r { mount = no_roles.mount; owns = 0 }

-- so what the parts that a step of one doesn't touch read of its task's view is the same
record IsUnseen (old new : View) : Type 0 where
  roles_same : off_mounts (roles_of new.phase) ≡ off_mounts (roles_of old.phase)
  tree_same : tree_role_of new.trace new.phase ≡ tree_role_of old.trace old.phase
  level_same : (i : ℕ) → at_level i new ≡ at_level i old
  open_same : has_open new ≡ has_open old

unseen : (part : Part) → at_gates part ≡ false → is_known_part part ≡ false → (old new : View) → IsUnseen old new → SameView old new part
unseen Stages h k old new same = λ j. (same.roles_same j).stage
unseen Holding h k old new same = λ j. (same.roles_same j).holder
unseen Known h k old new same = absurd (true≢false k)
unseen Tree h k old new same = same.tree_same
unseen Files h k old new same = (same.open_same, λ j. (same.roles_same j).file)
unseen (AtLevel i) h k old new same = same.level_same i
unseen (SyncAt i) h k old new same = λ j. (same.roles_same j).sync i
unseen Sections h k old new same = λ j. (same.roles_same j).inside
unseen part h k old new same = absurd (true≢false h)

pub level_added_load : (word : WordName) (touch : Touch) (added : ℕ → ℕ → ℕ) → is_load touch ≡ true →
    level_added_after word touch added ≡ added
level_added_load word touch added h = grind arith

pub level_taken_load : (word : WordName) (touch : Touch) (taken : ℕ → ℕ → ℕ) → is_load touch ≡ true →
    level_taken_after word touch taken ≡ taken
level_taken_load word touch taken h = grind arith

-- want, drop and change have no role but at mounts, and own `umount` or not
pub mounts_roles : (next : Next MountPhase) → off_mounts (roles_of (phase_after (map_next Phase.Mounts next))) ≡ no_roles
mounts_roles next = grind arith

-- so owned words change only under `umount`
mounts_work : (w : World) (x : MountPhase) (hook : HookAnswer) → IsOwnersWork w (Phase.Mounts x) hook
mounts_work w x hook = grind arith

-- so their steps are unseen at the levels
mounts_unseen : (v : View) (x : MountPhase) (value : ℕ) (hook : HookAnswer) → v.phase ≡ Some (Phase.Mounts x) →
    IsUnseen v (view_after v (Phase.Mounts x) value hook)
mounts_unseen v x value hook e = grind arith

-- what a step of want, drop or change leaves of the other parts
others_hold : (c : Config) (w : World) (t : ℕ) → t < c.tasks → IsGood c w → (hook : HookAnswer) (x : MountPhase) →
    (w.views t).phase ≡ Some (Phase.Mounts x) →
    (part : Part) → at_gates part ≡ false → (b : Bool) → is_known_part part ≡ b → Holds c (after_step w t (Phase.Mounts x) hook) part
others_hold c w t lt good hook x e part h true k =
    subst (Holds c (after_step w t (Phase.Mounts x) hook)) (sym (known_is part k))
    (known_after c w t (Phase.Mounts x) hook good lt e (mounts_work w x hook))
others_hold c w t lt good hook x e part h false k =
    left_alone c w t lt part (words_after w.words (Phase.Mounts x) hook)
    (view_after (w.views t) (Phase.Mounts x) (value_at w.words (Phase.Mounts x) hook) hook)
    (unread part h k w.words (words_after w.words (Phase.Mounts x) hook) (gate_words_left w.words (next x hook) (mounts_touch x hook)))
    (unseen part h k (w.views t) (view_after (w.views t) (Phase.Mounts x) (value_at w.words (Phase.Mounts x) hook) hook)
    (mounts_unseen (w.views t) x (value_at w.words (Phase.Mounts x) hook) hook e)) (good part)

-- so a step of want, drop or change keeps the invariant where it keeps the parts that it may touch
pub whole_step : (c : Config) (w : World) (t : ℕ) → t < c.tasks → IsGood c w → (hook : HookAnswer) (x : MountPhase) →
    (w.views t).phase ≡ Some (Phase.Mounts x) →
    GateStepKeeps c w t hook (Phase.Mounts x) → StepKeeps c w t hook (Phase.Mounts x)
whole_step c w t lt good hook x e keeps = (
  λ part.
      elim (cases_Bool (at_gates part)) [
        | inl h ↦ keeps.0 part h
        | inr h ↦ others_hold c w t lt good hook x e part h (is_known_part part) refl
      ],
  keeps.1,
)
