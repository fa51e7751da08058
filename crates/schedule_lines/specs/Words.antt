-- Words of a line, with one space between two of them.
use Rattle.std.specs.{Prelude.{ℕ, Bool, ◌==◌, ◌+◌, take, drop, List, count_by}, List.{position_or_len}}

-- the byte between two words
abbrev pub is_space : ℕ → Bool
is_space byte = byte == 32

-- the bytes before the first space
unfoldable pub first_word : List ℕ → List ℕ
first_word text = take (position_or_len is_space text) text

-- the bytes after the first space
unfoldable pub after_word : List ℕ → List ℕ
after_word text = drop (position_or_len is_space text + 1) text

-- one more than there are spaces
unfoldable pub word_count : List ℕ → ℕ
word_count line = 1 + count_by is_space line
