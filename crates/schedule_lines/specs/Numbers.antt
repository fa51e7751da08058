-- Numbers of schedules.
use Rattle.std.specs.{Prelude.{ℕ, Bool, ◌&&◌, nat_le, nat_lt, min, if◌then◌else◌, List, length, Option, Some, None}, Char.{is_ascii_digit}}
use Rattle.std.specs.{List.{list_all}, Str.Parse.{digits_value}}

-- whether a word is of digits alone, and not empty
unfoldable pub is_digits : List ℕ → Bool
is_digits word = nat_lt 0 (length word) && list_all is_ascii_digit word

-- the number that a word is: 1 to 10 digits that write a number below 2^32
unfoldable pub number_of : List ℕ → Option ℕ
number_of word =
    if nat_le (length word) 10 && (is_digits word && nat_lt (digits_value 10 word) 4294967296) then Some (digits_value 10 word) else None

-- the number that is handed to a call that takes a byte
abbrev pub byte_of : ℕ → ℕ
byte_of number = min number 255

-- the code of a number: 0 is none, nor is one above 65,535
abbrev pub code_from : Option ℕ → Option ℕ
code_from None = None
code_from (Some number) = if nat_lt 0 number && nat_lt number 65536 then Some number else None

-- the code of a hook that a word is: 1 to 65,535
unfoldable pub code_of : List ℕ → Option ℕ
code_of word = code_from (number_of word)
