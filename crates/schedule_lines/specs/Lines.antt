-- Where lines end.
use Rattle.std.specs.{Prelude.{ℕ, Bool, true, false, ◌==◌, nat_lt, take, List, length, Option, Some, None}, List.{position}}
use Rattle.schedule_lines.specs.declared.lines.Front.{Front, TheVariants.{Line, TooLong, Part}}

-- the byte that ends a line
abbrev pub is_newline : ℕ → Bool
is_newline byte = byte == 10

-- what bytes begin with, by where the first newline of a line is, and by whether they are more than a line may have
abbrev pub front_by : Option ℕ → Bool → Front
front_by (Some length) long = Line length
front_by None true = TooLong
front_by None false = Part

-- the line before the newline among the first 257 bytes; with none there, a line that is too long, or a part of one
unfoldable pub front_of : List ℕ → Front
front_of bytes = front_by (position is_newline (take 257 bytes)) (nat_lt 256 (length bytes))
