-- the law is a lemma
use Rattle.vfs_gates.proofs.Prelude.{Freeze, unit_of}
use Rattle.vfs_gates.proofs.{Holding.refused_call_keeps, call_laws.HookFailed.refused_leaves}
use Rattle.access_model.specs.declared.errors.GateError.TheVariants.{Hook}
use Rattle.vfs_gates.proofs.laws.undone.a_freeze_that_a_hook_refused_leaves_nothing.Goals as goal

pub returns-clause-gates : goal.returns-clause-gates
returns-clause-gates c = refused_leaves

pub returns-clause-task : goal.returns-clause-task
returns-clause-task c = λ holder old left code idle call. refused_call_keeps unit_of (Freeze holder) old left (Hook code) idle call
