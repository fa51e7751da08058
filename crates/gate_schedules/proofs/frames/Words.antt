-- Words after a load.
use Rattle.gate_schedules.proofs.Prelude.{WordName, Words, arith, put, read, ◌≡◌}

pub load_same : (w : Words) (name : WordName) → put w name (read w name) ≡ w
load_same w name = grind arith
