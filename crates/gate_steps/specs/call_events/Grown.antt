-- Each later schedule goes on from each earlier one.
use Rattle.std.specs.Prelude.{List, ℕ, ◌≡◌}
use Rattle.gate_world.specs.declared.entries.Entry.{Entry}
use Rattle.gate_steps.specs.Seating.{IsPrefix}
use lib.ListN.{get_elem?}
use mathlib.Core.Option.{some}

-- each of the schedules left goes on from each that was seen
abbrev pub AllGoOn : List (List Entry) → List (List Entry) → Type 0
AllGoOn seen gone = (k : ℕ) (earlier : List Entry) → get_elem? seen k ≡ some earlier → (j : ℕ) (later : List Entry) →
    get_elem? gone j ≡ some later → IsPrefix earlier later

-- one of these schedules goes on from it
abbrev pub HasSeen : List Entry → List (List Entry) → Type 0
HasSeen earlier seen = (k : ℕ) × (there : List Entry) × (get_elem? seen k ≡ some there) × IsPrefix earlier there

-- What was seen is seen still: from each of the first schedules one of the others goes on. So whoever has seen the others has the first
-- behind it.
abbrev pub StaySeen : List (List Entry) → List (List Entry) → Type 0
StaySeen seen now = (k : ℕ) (earlier : List Entry) → get_elem? seen k ≡ some earlier → HasSeen earlier now
