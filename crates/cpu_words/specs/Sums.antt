-- Sums over the words of a gate, read one after the other.
use Rattle.std.specs.Prelude.{List, if◌then◌else◌, length, nat_le, nat_lt, sum, ℕ, ◌%◌, ◌+◌}
use Rattle.finite_sums.specs.Sums.{total}
use Rattle.cpu_words.specs.{Touches.wrap_add, declared.sums.{Sum.Sum, Taken.{Taken, TheVariants.{More, Total}}}}

-- what a sum is after one word more, of so many processors
abbrev pub sum_taking : Sum → ℕ → ℕ → Taken
sum_taking sum word processors =
    if nat_lt (sum.words + 1) processors
    then More record { words = sum.words + 1; total = wrap_add sum.total word }
    else Total (wrap_add sum.total word)

-- the sum in progress of just these words
abbrev pub sum_of : List ℕ → Sum
sum_of words = record { words = length words; total = sum words % 18446744073709551616 }

-- the sum of these words: in progress, or, where they are the words of all processors, their wrapping sum
abbrev pub taken_of : List ℕ → ℕ → Taken
taken_of words processors = if nat_lt (length words) processors then More (sum_of words) else Total (sum words % 18446744073709551616)

-- the present values of word k and the later ones
abbrev pub ahead : ℕ → (ℕ → ℕ) → ℕ → ℕ
ahead processors count k = total processors (λ p. if nat_le k p then count p else 0)

-- the value that a partial sum leads to, with k words read: what was read, and the present values of the words to come
abbrev pub lead : ℕ → (ℕ → ℕ) → ℕ → ℕ → ℕ
lead processors count k sum = (sum + ahead processors count k) % 18446744073709551616
