use Rattle.std.proofs.Common.{Option, Some, ap, sym, ◌∙◌}
use Rattle.clap.specs.{Lexer.usize_max, declared.builder.{action.ArgAction.TheVariants.SetTrue, range.ValueRange.ValueRange}}
use Rattle.clap.specs.declared.builder.value_parser.ValueParser.{ValueParser}
use Rattle.command_line.{proofs.Parsing.{acted, helped, named, parsed, range_there, ranged, required, valued}, specs.CommandLine.kind_rule}
use Rattle.command_line.proofs.arguments.argument_of.Goals as goal

pub returns-in-Word : goal.returns-in-Word
returns-in-Word c =
    let made = helped c.new.result c.help-made.result _ (record { rule = c.new.ensures.rule; local = c.new.ensures.optional.1 }) _ c.help-made.ensures in
    record { rule = made.rule ∙ ap (kind_rule c.args.argument.now.name.now) (sym c.in-Word.is); local = made.local }

pub returns-in-Words : goal.returns-in-Words
returns-in-Words c =
    let made = helped c.new.result c.help-made.result _ (record { rule = c.new.ensures.rule; local = c.new.ensures.optional.1 }) _ c.help-made.ensures in
    let of_any : ValueRange = record { start_inclusive = 1; end_inclusive = usize_max } in
    let range = range_there c.num_args.result.num_vals of_any c.num_args.ensures.1 in
    let made = ranged c.help-made.result c.num_args.result _ made _ c.num_args.ensures.0 range in
    record { rule = made.rule ∙ ap (kind_rule c.args.argument.now.name.now) (sym c.in-Words.is); local = made.local }

pub returns-in-Flag : goal.returns-in-Flag
returns-in-Flag c =
    let made = helped c.new.result c.help-made.result _ (record { rule = c.new.ensures.rule; local = c.new.ensures.optional.1 }) _ c.help-made.ensures in
    let made = named c.help-made.result c.long.result _ made _ c.long.ensures in
    let made = acted c.long.result c.action.result _ made SetTrue c.action.ensures in
    record { rule = made.rule ∙ ap (kind_rule c.args.argument.now.name.now) (sym c.in-Flag.is); local = made.local }

pub returns-in-Number : goal.returns-in-Number
returns-in-Number c =
    let some : ValueParser → Option ValueParser = Some in
    let made = helped c.new.result c.help-made.result _ (record { rule = c.new.ensures.rule; local = c.new.ensures.optional.1 }) _ c.help-made.ensures in
    let made = named c.help-made.result c.long-in-Number.result _ made _ c.long-in-Number.ensures in
    let made = valued c.long-in-Number.result c.value_name.result _ made _ c.value_name.ensures in
    let parser = c.value_parser.ensures.given in
    let made = parsed c.value_name.result c.value_parser.result _ made _ c.value_parser.ensures.others
    (parser.1 ∙ ap some (parser.2 ∙ c.unsigned.ensures)) in
    let made = required c.value_parser.result c.required.result _ made _ c.required.ensures in
    record { rule = made.rule ∙ ap (kind_rule c.args.argument.now.name.now) (sym c.in-Number.is); local = made.local }

pub returns-in-Choice : goal.returns-in-Choice
returns-in-Choice c =
    let made = helped c.new.result c.help-made.result _ (record { rule = c.new.ensures.rule; local = c.new.ensures.optional.1 }) _ c.help-made.ensures in
    let made = named c.help-made.result c.long-in-Choice.result _ made _ c.long-in-Choice.ensures in
    let made = valued c.long-in-Choice.result c.value_name-in-Choice.result _ made _ c.value_name-in-Choice.ensures in
    record { rule = made.rule ∙ ap (kind_rule c.args.argument.now.name.now) (sym c.in-Choice.is); local = made.local }
