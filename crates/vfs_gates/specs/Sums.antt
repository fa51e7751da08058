-- The words of a gate.
use Rattle.std.specs.Prelude.{ℕ, ◌<◌, ◌≤◌}
use Rattle.access_model.specs.declared.actions.Gate.{Gate, TheVariants.{Level, Mount}}
use Rattle.{cpu_words.specs.declared.names.WordName.{TheVariants.{LevelCount, MountCount}, WordName}, gate_world.specs.declared.config.Config.Config}

-- the word that counts a gate's writers on a processor
abbrev pub count_word : Gate → ℕ → WordName
count_word (Mount m) p = MountCount m p
count_word (Level i) p = LevelCount i p

-- there is that gate
abbrev pub IsGate : Config → Gate → Type 0
IsGate c (Mount m) = m < c.mounts
IsGate c (Level i) = (1 ≤ i) × (i ≤ 3)
