-- What callers know of a task.
use Rattle.std.specs.Prelude.{List, None, Option, [], false, is_some, slice_index, slice_index_or, ℕ, ◌<◌, ◌∷◌, ◌≡◌, ◌≤◌}
use Rattle.{access_model.specs.declared.errors.GateError.GateError, atomic_table.specs.Seated.TableId}
use Rattle.gate_world.specs.{Beginnings.{refusal}, Views.{has_open, held_at, held_of, holds_level, opening_view}}
use Rattle.gate_world.specs.declared.{accesses.Accesses.Accesses, config.Config.Config, entries.Entry.Entry, operations.Op.Op, views.View.View}
use Rattle.gate_world.specs.declared.work.Phase.{Phase}
use Rattle.gate_steps.specs.{Seating.DealtNumbers, declared.seating.Knowledge.Knowledge}

-- the table, the configuration, the operation that has begun and has had no step, the phase of the operation under way, and the
-- numbers with their views, its own first, and the schedules that it has seen
pub record SeatedTask : Type 0 where
  pub table : TableId
  pub config : Config
  pub begins : Option Op
  pub phase : Option Phase
  pub items : DealtNumbers
  pub seen : List (List Entry)

-- of these parts
abbrev pub task_state : TableId → Config → Option Op → Option Phase → Knowledge → SeatedTask
task_state t c b p k = record { table = t; config = c; begins = b; phase = p; items = k.items; seen = k.seen }

-- its own number
abbrev pub own_number : DealtNumbers → ℕ
own_number [] = 0
own_number (x ∷ xs) = x.number

-- and its view
abbrev pub own_view : DealtNumbers → View
own_view [] = opening_view
own_view (x ∷ xs) = x.view

-- the numbers that it has to give
abbrev pub spare_of : DealtNumbers → DealtNumbers
spare_of [] = []
spare_of (x ∷ xs) = xs

-- no operation is under way
abbrev pub IsIdle : SeatedTask → Type 0
IsIdle s = s.phase ≡ None

-- nothing is held at any mount or level that there is, and no file is open
abbrev pub Empty : Config → View → Type 0
Empty c v = ((m : ℕ) → m < c.mounts → held_at v m ≡ 0) × ((i : ℕ) → 1 ≤ i → i ≤ 3 → holds_level v i ≡ false) ×
    ((n : ℕ) → has_open v n ≡ false)

-- its own number holds nothing
abbrev pub HoldsNothing : SeatedTask → Type 0
HoldsNothing s = Empty s.config (own_view s.items)

-- no access at so many mounts, nor at a level, and no file open
abbrev pub IsNothing : Accesses → ℕ → Type 0
IsNothing a mounts = ((m : ℕ) → m < mounts → slice_index a.mounts m ≡ 0) ×
    ((i : ℕ) → 1 ≤ i → i ≤ 3 → slice_index_or a.levels i false ≡ false) ×
    ((n : ℕ) → n < 64 → slice_index_or a.files n false ≡ false)

-- why the operation can't begin, the first reason in the stated order
abbrev pub refusal_at : Op → SeatedTask → Option GateError
refusal_at op s = refusal s.config (is_some s.phase) (held_of (own_view s.items)) op
