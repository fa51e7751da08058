-- What a step does to its word.
use Rattle.std.specs.Prelude.{ℕ, ◌+◌, ◌-◌, ◌%◌, ◌==◌, if◌then◌else◌, bit_and, bit_or}
use Rattle.cpu_words.specs.declared.{names.WordName.{WordName}, events.Touch.{Touch}}
use Rattle.cpu_words.specs.declared.events.{Touch.TheVariants.{Load, Store, Add, Sub, Or, And, Swap, Cas}, Event.{Event}}

-- a sum at 2^64, which is written out so that arithmetic sees the number
abbrev pub wrap_add : ℕ → ℕ → ℕ
wrap_add a b = (a + b) % 18446744073709551616

-- a difference at 2^64
abbrev pub wrap_sub : ℕ → ℕ → ℕ
wrap_sub a b = (a + (18446744073709551616 - b)) % 18446744073709551616

-- what a touch leaves of the value found
abbrev pub left : Touch → ℕ → ℕ
left Load found = found
left (Store new) found = new
left (Add by) found = wrap_add found by
left (Sub by) found = wrap_sub found by
left (Or bits) found = bit_or found bits
left (And bits) found = bit_and found bits
left (Swap new) found = new
left (Cas expect put) found = if found == expect then put else found

-- what a step says that it found in a word: a store says what it wrote
abbrev pub found_by : Touch → ℕ → ℕ
found_by Load value = value
found_by (Store new) value = new
found_by (Add by) value = value
found_by (Sub by) value = value
found_by (Or bits) value = value
found_by (And bits) value = value
found_by (Swap new) value = value
found_by (Cas expect put) value = value

-- the step of a touch on a word that held this value
abbrev pub event_of : WordName → Touch → ℕ → Event
event_of word touch value = record { word = word; touch = touch; found = found_by touch value; left = left touch value }
