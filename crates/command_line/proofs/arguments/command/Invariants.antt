use Rattle.std.proofs.Common.{take, ◌≡◌}
use Rattle.clap.specs.Words.{app_of}
use Rattle.command_line.proofs.Parsing.{no_commands, with_all}
use Rattle.command_line.proofs.arguments.command.Given as goal

abbrev pub invariant-loop-subcommand : goal.invariant-loop-subcommand
invariant-loop-subcommand l = app_of l.program ≡ with_all no_commands (take l.subcommand-index l.subcommand-items)
