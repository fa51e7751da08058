-- What a meeting says of a run at which it looks on.
use Rattle.std.specs.Prelude.{ℕ}

-- of a freeze: nothing
abbrev pub unseen : ℕ → Type 0
unseen freeze = Unit {0}
