-- How words and their values are printed.
use Rattle.std.specs.Prelude.{Bool, if◌then◌else◌}
use Rattle.replay_forms.specs.declared.forms.{Names.TheVariants.{Schedule, Kernel}, Style.{Style}}

-- with the kernel's names or not, and with values as numbers or not
abbrev pub style_of : Bool → Bool → Style
style_of kernel_names raw = record { names = (if kernel_names then Kernel else Schedule); raw = raw }
