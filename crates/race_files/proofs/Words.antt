-- The first word of a line, and the first free place of a task.
use Rattle.std.proofs.{Common.{Bool, List, None, arith, length, length-take, ℕ, ◌≡◌, ◌≤◌}, lemmas.Bool.Decides.nat_tests}
use Rattle.std.{proofs.lemmas.List.Sums.prefix_len-le-length, specs.List.{position, position_or_len}}
use Rattle.schedule_lines.specs.Words.{first_word, is_space}

-- a word is no longer than the line
pub word_within : (text : List ℕ) → length (first_word text) ≤ length text
unfolding first_word
word_within text = omega (arith, length-take (position_or_len is_space text) text)

-- what is nowhere is first found at the end
pub nowhere_is_end : {X : Type 0} (p : X → Bool) (xs : List X) → position p xs ≡ None → length xs ≡ position_or_len p xs
nowhere_is_end p xs e = grind (arith, nat_tests, prefix_len-le-length)
