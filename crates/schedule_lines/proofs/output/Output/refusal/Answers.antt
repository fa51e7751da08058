use Rattle.std.proofs.Common.{codes, decimal, ℕ, ◌++◌, ◌≡◌}
use Rattle.access_model.specs.declared.errors.GateError.{GateError, TheVariants.Hook}
use Rattle.schedule_lines.specs.Printing.{refusal_text}
use Rattle.schedule_lines.proofs.output.Output.refusal.Goals as goal

-- the text of a hook that failed
hook_text : (refusal : GateError) (code : ℕ) → refusal ≡ Hook code → refusal_text refusal ≡ codes " refused hook " ++ decimal code
unfolding refusal_text
hook_text refusal code is = rw is

pub returns-in-Hook : goal.returns-in-Hook
returns-in-Hook c = rw (hook_text c.args.refusal c.in-Hook.code c.in-Hook.is, ← c.from.ensures) c.numbered.ensures
