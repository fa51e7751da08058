-- A level that a freeze closes, and one that a failed freeze or a thaw reopens, before its first step.
use Rattle.std.specs.Prelude.{ℕ}
use Rattle.percpu_rwsem.specs.declared.{transitions.Transition.TheVariants.Loads, writers.{DownWrite.DownWrite, DownWriteStep.TheVariants.Enters}}
use Rattle.percpu_rwsem.specs.declared.writers.{UpWrite.UpWrite, UpWriteStep.TheVariants.ClearsBlock}

-- the down-write of a level that begins, among so many tasks and processors
abbrev pub closing : ℕ → ℕ → ℕ → DownWrite
closing level tasks processors = record { level = level; tasks = tasks; processors = processors; step = Enters Loads }

-- the up-write of a level that begins
abbrev pub reopening : ℕ → UpWrite
reopening level = record { level = level; step = ClearsBlock }
