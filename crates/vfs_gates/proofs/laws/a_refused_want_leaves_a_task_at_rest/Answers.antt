-- the law is a lemma
use Rattle.vfs_gates.proofs.Resting.{want_adds_nothing, want_read_only, want_rests}
use Rattle.vfs_gates.proofs.laws.a_refused_want_leaves_a_task_at_rest.Goals as goal

pub returns : goal.returns
returns c = λ m p old left refusal rests mount cpu does.
    (want_read_only m p old left refusal rests does mount cpu, want_adds_nothing m p old left refusal rests does, want_rests m p old left refusal rests does)
