-- How a task stands with the levels, and what the invariant says of all of them.
use Rattle.gate_schedules.proofs.Prelude.{AtLevel, Config, DownWrite, Holds, LevelPosition, Next, None, Option, Phase, Sections, Some, SyncAt}
use Rattle.gate_schedules.proofs.Prelude.{SyncStep, UpWrite, View, Words, World, closed_to, down_write_role, if◌then◌else◌, inside, level_in}
use Rattle.gate_schedules.proofs.Prelude.{level_role_of, position_sync, sync_role_of, update, ℕ, ◌-◌, ◌==◌, ◌≡◌, ◌≤◌}
use Rattle.{freeze_laws.specs.levels.Operations.up_write_role, gate_world.specs.Roles.{down_count_role, position_count, up_count_role}}

-- a phase stands so with the levels, and is inside no section
pub record HasPosition (p : Option Phase) (s : Option LevelPosition) : Type 0 where
  pub counts : (i : ℕ) → 1 ≤ i → i ≤ 3 → level_role_of i p ≡ position_count i s
  pub syncs : (i : ℕ) → 1 ≤ i → i ≤ 3 → sync_role_of i p ≡ position_sync i s
  pub outside : inside p ≡ 0

-- a down-write with its level
abbrev pub closing_position : DownWrite → LevelPosition
closing_position d = record { level = d.level; count = down_count_role d.step; sync = down_write_role d.step }

-- an up-write with its level
abbrev pub opening_position : UpWrite → LevelPosition
opening_position u = record { level = u.level; count = up_count_role u.step; sync = up_write_role u.step }

-- the levels up to this one are closed: none, where it is 0
abbrev pub still_closed : ℕ → Option LevelPosition
still_closed level = if level == 0 then None else Some (closed_to level)

-- what comes after a step of a down-write stands so: with the level closed and passed at its end
abbrev pub position_after_closing : ℕ → Next DownWrite → Option LevelPosition
position_after_closing level (Next.Go d) = Some (closing_position d)
position_after_closing level (Next.Wait d) = Some (closing_position d)
position_after_closing level (Next.Done answer) = Some (closed_to level)

-- and after a step of an up-write: with the level open at its end, and those below it still closed
abbrev pub position_after_opening : ℕ → Next UpWrite → Option LevelPosition
position_after_opening level (Next.Go u) = Some (opening_position u)
position_after_opening level (Next.Wait u) = Some (opening_position u)
position_after_opening level (Next.Done answer) = still_closed (level - 1)

-- what the invariant says of the levels
abbrev pub LevelsHold : Config → World → Type 0
LevelsHold c w = ((i : ℕ) → Holds c w (AtLevel i)) × ((i : ℕ) → Holds c w (SyncAt i)) × Holds c w Sections

-- the state after a step of a task that leaves these words and this view
abbrev pub left_world : World → ℕ → Words → View → World
left_world w t ws v = record { words = ws; views = update w.views t v }

-- from the one state to the other each level makes a step of its own
abbrev pub LevelsRun : Config → World → World → Type 0
LevelsRun c w next = (i : ℕ) → 1 ≤ i → i ≤ 3 → SyncStep c.tasks (level_in w i) (level_in next i)
