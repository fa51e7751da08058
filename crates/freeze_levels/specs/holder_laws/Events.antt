-- The holders from step to step.
use Rattle.std.specs.Prelude.{false, true, ℕ, ◌≡◌}
use Rattle.access_model.specs.{Holders.{is_unheld, nobody, with_holder}, declared.actions.{Holder.Holder, Holders.Holders}}
use Rattle.finite_sums.specs.Sums.{total, update}
use Rattle.freeze_levels.specs.{Holders.{holders_in, word_of}, holder_laws.Roles.{Apart, Empties, Fills, Found, HolderRole, HoldersHold, minds}}

-- One moment: the stage, the word of the holders, and the roles.
pub record HolderMoment : Type 0 where
  pub stage : ℕ
  pub holders : ℕ
  pub at : ℕ → HolderRole

-- what holds at it
abbrev pub HoldsAt : ℕ → HolderMoment → Type 0
HoldsAt tasks x = HoldersHold tasks x.stage x.holders x.at

-- the same moment with another role of task t
abbrev pub playing : HolderMoment → ℕ → HolderRole → HolderMoment
playing x t r = record x { at = update x.at t r }

-- the kinds of steps that change the stage or the holders, or what a task is doing with them
pub data HolderEvent : Type 0 where
  -- an owner's load at stage 4
  Finds : HolderEvent
  -- after which it no longer relies on them
  LetsGo : (held : Holders) → HolderEvent
  -- a store of stage 4 by a freeze, and of another stage by anybody where it isn't 4
  Freezes : HolderEvent
  Moves : (stage : ℕ) → HolderEvent
  -- a freeze's store of its holder: right after stage 4, and beside others
  HoldsFirst : (holder : Holder) → HolderEvent
  Joins : (holder : Holder) (held : Holders) → HolderEvent
  -- a thaw's store without its holder: others stay, or nobody does
  Leaves : (holder : Holder) (held : Holders) → HolderEvent
  LeavesLast : (held : Holders) → HolderEvent
  -- a thaw's store of stage 0
  Thaws : HolderEvent
  -- a step that is about other words
  Stays : HolderEvent

-- The step of this kind by task t: what has to hold before it, and what is there after it. The layer above tells that nobody else relies
-- on the holders where one begins to: it owns `umount`.
abbrev pub Happens : ℕ → ℕ → HolderMoment → HolderMoment → HolderEvent → Type 0
Happens tasks t x x' Finds =
    (x.at t ≡ Apart) × (x.stage ≡ 4) × (total tasks (λ y. minds (x.at y)) ≡ 0) × (x' ≡ playing x t (Found (holders_in x.holders)))
Happens tasks t x x' (LetsGo held) = (x.at t ≡ Found held) × (x' ≡ playing x t Apart)
Happens tasks t x x' Freezes =
    (x.at t ≡ Apart) × (x.stage ≡ 4 → ⊥) × (total tasks (λ y. minds (x.at y)) ≡ 0) × (x' ≡ playing (record x { stage = 4 }) t Fills)
Happens tasks t x x' (Moves stage) = (x.stage ≡ 4 → ⊥) × (stage ≡ 4 → ⊥) × (x' ≡ record x { stage = stage })
Happens tasks t x x' (HoldsFirst holder) =
    (x.at t ≡ Fills) × (x' ≡ playing (record x { holders = word_of (with_holder holder true nobody) }) t Apart)
Happens tasks t x x' (Joins holder held) =
    (x.at t ≡ Found held) × (x' ≡ playing (record x { holders = word_of (with_holder holder true held) }) t Apart)
Happens tasks t x x' (Leaves holder held) =
    (x.at t ≡ Found held) × (is_unheld (with_holder holder false held) ≡ false) ×
    (x' ≡ playing (record x { holders = word_of (with_holder holder false held) }) t Apart)
Happens tasks t x x' (LeavesLast held) = (x.at t ≡ Found held) × (x' ≡ playing (record x { holders = 0 }) t Empties)
Happens tasks t x x' Thaws = (x.at t ≡ Empties) × (x' ≡ playing (record x { stage = 0 }) t Apart)
Happens tasks t x x' Stays = x' ≡ x
