-- Laws of whole histories.
use Rattle.std.specs.Prelude.{List, [], false, true, ℕ, ◌<◌, ◌∷◌, ◌≡◌, ◌≤◌, ◌⊎◌}
use Rattle.access_model.specs.{Actions.{IsAllowed, after_action}, Histories.{Done, end_of, levels_of, mounts_of, opens_of, own_part}, Holders.held_by}
use Rattle.access_model.specs.{States.{IsClean, Limits, NoneRemoved, State}, declared.actions.{Action.{Action, TheVariants.Leave}, Holder.Holder}}

-- writes through the mount are refused, by its own flag or the superblock's
abbrev pub IsReadOnly : State → ℕ → Type 0
IsReadOnly s m = (s.mount_ro m ≡ true) ⊎ (s.sb_ro ≡ true)

-- nobody holds an access at a mount that is read-only or a level that a freeze has passed; and the numbers keep their ranges
pub record NobodyHoldsClosed (l : Limits) (s : State) : Type 0 where
  pub mounts : (t m : ℕ) → t < l.tasks → m < l.mounts → IsReadOnly s m → s.mounts t m ≡ 0
  pub levels : (t i : ℕ) → t < l.tasks → 1 ≤ i → i ≤ s.passed → s.levels t i ≡ false
  pub counts : (t m : ℕ) → s.mounts t m ≤ 1024
  pub passed : s.passed ≤ 3
  pub stage : s.stage ≤ 4

-- what a task holds at the end is what its own list leaves
pub record FollowsOwnList (history : List Done) (t : ℕ) : Type 0 where
  pub mounts : (m : ℕ) → (end_of history).mounts t m ≡ mounts_of (own_part t history) m
  pub levels : (i : ℕ) → (end_of history).levels t i ≡ levels_of (own_part t history) i
  pub opens : (n : ℕ) → (end_of history).opens t n ≡ opens_of (own_part t history) n

-- all is frozen, and this one holds a freeze
abbrev pub IsFrozenFor : State → Holder → Type 0
IsFrozenFor s h = (s.stage ≡ 4) × (held_by s.holders h ≡ true)

-- What this one has frozen stays so until it leaves: any other action, whoever does it, leaves all frozen, held by this one, and no level open
-- that was closed.
abbrev pub StaysFrozen : Limits → State → ℕ → Action → Holder → Type 0
StaysFrozen l s t a h = IsAllowed l s t a → IsFrozenFor s h → (a ≡ Leave h → ⊥) →
    IsFrozenFor (after_action s t a) h × ((after_action s t a).passed ≡ s.passed)

-- What is frozen is shut: at stage 4 all levels are closed, or the superblock is read-only, and then no file is removed; at stages 3 and 4 no file
-- is dirty; and where some holder holds a freeze all is frozen.
pub record FrozenIsShut (l : Limits) (s : State) : Type 0 where
  pub shut : s.stage ≡ 4 → (s.passed ≡ 3) ⊎ (s.sb_ro ≡ true)
  pub shutting : s.stage ≡ 3 → 2 ≤ s.passed
  pub clean : 3 ≤ s.stage → IsClean l s
  pub none_removed : s.sb_ro ≡ true → NoneRemoved l s
  pub frozen : (h : Holder) → held_by s.holders h ≡ true → s.stage ≡ 4

-- an action leaves each node as it was: whether it is there, its kind, its parent, its size and its marks
abbrev pub TreeStays : State → State → Type 0
TreeStays before after = (n : ℕ) → after.tree n ≡ before.tree n

-- none of these actions is that this holder leaves
abbrev pub NeverLeaves : Holder → List Done → Type 0
NeverLeaves h [] = Unit {0}
NeverLeaves h (a ∷ earlier) = (a.1 ≡ Leave h → ⊥) × NeverLeaves h earlier

-- all is frozen still, for this holder, with the same levels closed and the same tree
pub record IsFrozenStill (h : Holder) (before after : State) : Type 0 where
  pub frozen : IsFrozenFor after h
  pub passed : after.passed ≡ before.passed
  pub tree : TreeStays before after
