-- The pieces of a condition's text: words of letters and digits, and each other byte alone. Blanks stand between them, where one likes.
use Rattle.std.specs.Prelude.{ℕ, ◌+◌, ◌==◌, not, Bool, nat_lt, if◌then◌else◌, List, length, take, drop, bytes_eq}
use Rattle.std.specs.{Char.{is_ascii_alphanumeric}, List.{position_or_len}}
use Rattle.race_conditions.specs.declared.faults.{Expected.{Expected}, Unexpected.{Unexpected}}

abbrev pub is_no_blank : ℕ → Bool
is_no_blank byte = not (byte == 32)

abbrev pub is_no_word : ℕ → Bool
is_no_word byte = not (is_ascii_alphanumeric byte)

-- where the first piece from this index on begins
unfoldable pub start_of : List ℕ → ℕ → ℕ
start_of text at = at + position_or_len is_no_blank (drop at text)

-- the piece that these bytes begin with: a word, or one byte; nothing, where there are none
abbrev pub front_piece : List ℕ → List ℕ
front_piece text = if nat_lt 0 (position_or_len is_no_word text) then take (position_or_len is_no_word text) text else take 1 text

-- the first piece from this index on
unfoldable pub piece_at : List ℕ → ℕ → List ℕ
piece_at text at = front_piece (drop (start_of text at) text)

-- where it ends
unfoldable pub end_of : List ℕ → ℕ → ℕ
end_of text at = start_of text at + length (piece_at text at)

-- it is this one
abbrev pub is_next : List ℕ → ℕ → List ℕ → Bool
is_next text at word = bytes_eq (piece_at text at) word

-- something else was expected where it begins
abbrev pub unexpected : List ℕ → ℕ → Expected → Unexpected
unexpected text at expected = record { after = start_of text at; expected = expected }
