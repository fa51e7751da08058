-- the law is a lemma
use Rattle.vfs_gates.proofs.several_tasks.Heard.{heard_refused}
use Rattle.vfs_gates.proofs.laws.one_world.a_holder_that_sent_word_keeps_the_mount_writable.Goals as goal

pub returns : goal.returns
returns c = heard_refused
