use Rattle.mount_counts.proofs.laws.MountLaws.{empties}
use Rattle.mount_counts.proofs.laws.nobody_is_admitted_until_hold_is_cleared.Goals as goal

pub returns : goal.returns
returns c = λ tasks processors flags remount sb count at good t lt e. empties good t lt e
