-- The words that are kept of a configuration have places.
use Rattle.gate_schedules.proofs.Prelude.{Config, IsWithin, arith}
use Rattle.{cpu_words.specs.Lists.AreFew, gate_world.specs.Configs.{extents_among, extents_kept}}

-- a configuration within the limits has no more of each than there may be
pub are_few : (c : Config) → IsWithin c → AreFew (extents_kept c)
are_few c within = record { tasks = within.tasks; processors = within.processors; mounts = within.mounts; nodes = omega arith }

-- nor with the section words of as many tasks as there may be
pub few_among : (c : Config) → IsWithin c → AreFew (extents_among 64 c)
few_among c within = record { tasks = omega arith; processors = within.processors; mounts = within.mounts; nodes = omega arith }
