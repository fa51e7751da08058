-- What a hook of the file system answers.
use Rattle.std.specs.Prelude.{ℕ, Result}

-- Ok, or the code with which it failed
abbrev pub HookAnswer : Type 0
HookAnswer = Result (Unit {0}) ℕ
