-- Who holds a freeze: the word of the holders beside the stage, and what each task is doing with it.
use Rattle.std.specs.Prelude.{if◌then◌else◌, ℕ, ◌+◌, ◌<◌, ◌==◌, ◌≡◌, ◌≤◌}
use Rattle.{access_model.specs.declared.actions.Holders.Holders, finite_sums.specs.Sums.total}
use Rattle.freeze_levels.specs.Holders.{holders_in, word_of}

-- What a task is doing with the holders. All but who is apart own `umount`.
pub data HolderRole : Type 0 where
  -- it relies on nothing
  Apart : HolderRole
  -- it has found these holders, some, at stage 4
  Found : (held : Holders) → HolderRole
  -- a freeze that has stored stage 4, and not yet its holder
  Fills : HolderRole
  -- a thaw that has stored that nobody holds a freeze, and not yet stage 0
  Empties : HolderRole

-- 1 for who relies on the holders
abbrev pub minds : HolderRole → ℕ
minds Apart = 0
minds r = 1

-- 1 for who is at stage 4 with nobody who holds a freeze
abbrev pub between : HolderRole → ℕ
between Fills = 1
between Empties = 1
between r = 0

-- 1 where some freeze is held
abbrev pub is_held : ℕ → ℕ
is_held holders = if holders == 0 then 0 else 1

-- 1 at stage 4
abbrev pub is_four : ℕ → ℕ
is_four stage = if stage == 4 then 1 else 0

-- What a task relies on is so.
abbrev pub KnowsHolders : ℕ → ℕ → HolderRole → Type 0
KnowsHolders stage holders (Found held) = (stage ≡ 4) × (holders ≡ word_of held)
KnowsHolders stage holders r = Unit {0}

-- The holders between any two steps: some freeze is held exactly where the stage is 4 and no freeze is between its store of stage 4 and its
-- store of its holder, nor a thaw between its store that nobody holds one and its store of stage 0.
pub record HoldersHold (tasks stage holders : ℕ) (at : ℕ → HolderRole) : Type 0 where
  -- the word is one of some holders
  pub lawful : holders ≡ word_of (holders_in holders)
  pub held : is_held holders + total tasks (λ t. between (at t)) ≡ is_four stage
  -- at most one task relies on them
  pub alone : total tasks (λ t. minds (at t)) ≤ 1
  pub knows : (t : ℕ) → t < tasks → KnowsHolders stage holders (at t)
