-- The endings of replays, and what is read.
use Rattle.std.specs.{Prelude.{◌≡◌, ℕ, List, Option, Some, None, codes}, Borrow.{Bor}}
use Rattle.exit_status.specs.declared.ends.ProgramEnding.{ProgramEnding, TheVariants.{Done, DoneOfFile}}

-- the ending of a replay of a file, where it would be this of standard input
abbrev pub of_file : ProgramEnding → ProgramEnding
of_file Done = DoneOfFile
of_file ending = ending

-- standard input is read: no file is named, or `-`
abbrev pub IsInput : Option (Bor (List ℕ)) → Type 0
IsInput None = Unit {0}
IsInput (Some file) = file.now ≡ codes "-"
