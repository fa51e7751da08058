-- What a call prints.
use Rattle.std.specs.Prelude.{◌≡◌, ℕ, true, List, ◌++◌}
use Rattle.schedule_lines.specs.declared.output.Output.{Output}

-- A text is printed: where there was memory for all that was printed up to now, there was for all before, and the text stands behind it.
pub record Prints (old new : Output) (text : List ℕ) : Type 0 where
  pub whole : new.is_whole ≡ true → old.is_whole ≡ true
  pub printed : new.is_whole ≡ true → new.bytes.items ≡ old.bytes.items ++ text
