use Rattle.std.proofs.Common.{codes, ◌∙◌}
use Rattle.clap.{proofs.WalkLemmas.first_value-rows, specs.Words.found_of}
use Rattle.command_line.proofs.words.has_kernel_names.Goals as goal

pub returns-in-Some : goal.returns-in-Some
returns-in-Some c h =
    let none = c.in-Some.ensures ∙ first_value-rows (found_of c.args.matches.now) (codes "names") ∙ h in
    cc
