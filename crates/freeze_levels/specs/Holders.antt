-- The word of those who hold a freeze: the kernel 1, user space 2.
use Rattle.std.specs.Prelude.{if◌then◌else◌, ℕ, ◌%◌, ◌+◌, ◌/◌, ◌==◌}
use Rattle.access_model.specs.declared.actions.Holders.{Holders}

-- the word of these holders
abbrev pub word_of : Holders → ℕ
word_of held = (if held.kernel then 1 else 0) + (if held.user then 2 else 0)

-- the holders that a word tells of
abbrev pub holders_in : ℕ → Holders
holders_in word = record { kernel = word % 2 == 1; user = (word / 2) % 2 == 1 }
