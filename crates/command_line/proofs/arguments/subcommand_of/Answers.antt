use Rattle.std.proofs.{Common.{List, ap, arith, map, ◌∙◌}, lemmas.List.take_all}
use Rattle.clap.specs.{Simple.app_of_fields, Words.Rule}
use Rattle.command_line.{proofs.Parsing.{added, rules_more}, specs.CommandLine.{alone, argument_rule, command_of}}
use Rattle.command_line.specs.declared.arguments.Argument.{Argument}
use Rattle.command_line.proofs.arguments.subcommand_of.Goals as goal

pub loop-argument-init : goal.loop-argument-init
loop-argument-init c = ap app_of_fields c.about-command.ensures ∙ c.new.ensures.app

pub loop-argument-preserved : goal.loop-argument-preserved
loop-argument-preserved c =
    added _ _ _ _ _ c.in_ok-command.ensures c.argument_of.ensures.local c.loop-argument.invariant c.argument_of.ensures.rule
    ∙ ap (λ (rules : List Rule). alone (command_of c.args.subcommand.now.name.now rules))
    (rules_more c.args.subcommand.now.arguments.now c.loop-argument.argument-index _ (omega arith))

pub returns : goal.returns
returns c =
    c.loop-argument.invariant
    ∙ ap (λ (xs : List Argument). alone (command_of c.args.subcommand.now.name.now (map argument_rule xs)))
    (take_all c.loop-argument.argument-index c.args.subcommand.now.arguments.now (omega arith))
