-- the law is a lemma
use Rattle.vfs_gates.proofs.call_laws.Timing.{comes_after}
use Rattle.vfs_gates.proofs.laws.in_time.a_call_comes_after_what_was_joined.Goals as goal

pub returns : goal.returns
returns c = comes_after
