use Rattle.std.proofs.Common.{map, take, ◌≡◌}
use Rattle.clap.specs.Words.{app_of}
use Rattle.command_line.specs.CommandLine.{alone, argument_rule, command_of}
use Rattle.command_line.proofs.arguments.subcommand_of.Given as goal

abbrev pub invariant-loop-argument : goal.invariant-loop-argument
invariant-loop-argument l =
    app_of l.command ≡ alone (command_of l.subcommand.name.now (map argument_rule (take l.argument-index l.subcommand.arguments.now)))
