-- a run that was refused is told as Refused
use Rattle.gate_runs.proofs.Prelude.{sym, ◌∙◌, ◌≡◌}
use Rattle.exit_status.specs.declared.ends.ProgramEnding.TheVariants.{Ran, Refused}
use Rattle.gate_runs.proofs.told.run_told.Goals as goal

pub returns-in-Err-clause-ran : goal.returns-in-Err-clause-ran
returns-in-Err-clause-ran g c = λ ran. let same : Refused ≡ Ran = sym c.report_refusal.ensures ∙ ran in absurd (let f : ⊥ = cc in f)
