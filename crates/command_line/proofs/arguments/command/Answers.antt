use Rattle.std.proofs.Common.{ap, refl, true, ◌∙◌}
use Rattle.clap.specs.{Simple.{app_of_fields, on_top}, Words.App}
use Rattle.command_line.proofs.Parsing.{commands_all, commands_more, joined}
use Rattle.command_line.proofs.arguments.command.Goals as goal

-- with a version
abbrev versioned : App → App
versioned = on_top (λ s. record s { has_version = true })

-- with a command that has to be there
abbrev required : App → App
required = on_top (λ s. record s { subcommand_required = true })

pub loop-subcommand-init : goal.loop-subcommand-init
loop-subcommand-init c =
    let begins = ap app_of_fields c.about.ensures ∙ c.new.ensures.app in
    let version = ap app_of_fields c.version.ensures ∙ ap versioned begins in
    ap app_of_fields c.subcommand_required-program.ensures ∙ ap required version

pub loop-subcommand-preserved : goal.loop-subcommand-preserved
loop-subcommand-preserved c =
    commands_more _ _ _ _ _ c.loop-subcommand-test.true c.loop-subcommand.invariant
    (joined _ _ _ _ _ c.in_ok-program.ensures refl c.in_ok-subcommand_of.ensures refl)

pub returns : goal.returns
returns c = let all = commands_all _ _ _ c.loop-subcommand-test.false c.loop-subcommand.invariant in all
