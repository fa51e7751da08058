use Rattle.std.proofs.Common.{◌∙◌}
use Rattle.clap.{proofs.WalkLemmas.one_text-rows, specs.Words.{found_of, one_of, rows_of}}
use Rattle.command_line.proofs.Parsing.{off_false}
use Rattle.command_line.proofs.words.is_on.Goals as goal

pub returns-clause-off : goal.returns-clause-off
returns-clause-off c off =
    let found = found_of c.args.matches.now in
    let same = one_text-rows found c.args.name.now in
    off_false (one_of c.args.name.now (rows_of found)) c.get_flag.result off (λ none. c.get_flag.ensures.none (same ∙ none))
    (λ other. c.get_flag.ensures.other (same ∙ other))

pub returns-clause-on : goal.returns-clause-on
returns-clause-on c on = c.get_flag.ensures.value (one_text-rows (found_of c.args.matches.now) c.args.name.now ∙ on)
