-- How a count is told.
use Rattle.std.specs.Prelude.{ℕ, ◌-◌, ◌^◌, min}

-- so often; a count stands still at 2^64 - 1
abbrev pub counted : ℕ → ℕ
counted n = min n (2 ^ 64 - 1)
