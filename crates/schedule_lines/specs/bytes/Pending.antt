-- What was read and not yet taken.
use Rattle.std.specs.Prelude.{ℕ, ◌-◌, List, slice_range}
use Rattle.schedule_lines.specs.declared.lines.Input.{Input}

-- the bytes of the block from the first not taken to the last read
abbrev pub pending : Input → List ℕ
pending input = slice_range input.bytes.items input.start input.end

-- how many they are
abbrev pub pending_count : Input → ℕ
pending_count input = input.end - input.start
