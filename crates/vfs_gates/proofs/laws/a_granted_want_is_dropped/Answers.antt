-- the law is a lemma
use Rattle.vfs_gates.proofs.{Returning.dropped, Rounds.given_back}
use Rattle.vfs_gates.proofs.laws.a_granted_want_is_dropped.Goals as goal

pub returns-clause-there : goal.returns-clause-there
returns-clause-there c = λ m p wait old there left outcome took gives. given_back took gives

pub returns-clause-anywhere : goal.returns-clause-anywhere
returns-clause-anywhere c = dropped
