use Rattle.std.proofs.Common.{Bool, Option, Some, ap₂, sym, ◌∙◌}
use Rattle.command_line.{proofs.Parsing.same_flag, specs.declared.words.Style.Style}
use Rattle.command_line.proofs.words.style_of.Goals as goal

-- the style of these two
abbrev some_style : Bool → Bool → Option Style
some_style names raw = Some (record { kernel_names = names; raw = raw })

pub returns : goal.returns
returns c h off =
    let was = c.in_ok-kernel_names.was in
    ap₂ some_style (same_flag _ _ (sym was ∙ c.has_kernel_names.ensures h)) (c.is_on.ensures.off off)
