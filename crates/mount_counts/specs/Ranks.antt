-- How many steps of a call at a mount may still come after its next one, where its way is free and no other task does anything.
use Rattle.std.specs.Prelude.{ℕ, ◌+◌, ◌-◌}
use Rattle.mount_counts.specs.declared.phases.{ChangeStep.{ChangeStep, TheVariants.{Locks, LoadsFlags, LoadsSuperblock as LoadsSb, ClearsReadOnly}}}
use Rattle.mount_counts.specs.declared.phases.ChangeStep.TheVariants.{SetsHold, Sums, SetsReadOnly, ClearsHold, Releases}
use Rattle.mount_counts.specs.declared.phases.{MountPhase.{MountPhase, TheVariants.{Want as Wants, Change as Changes}}, WantStep.WantStep}
use Rattle.mount_counts.specs.declared.phases.WantStep.TheVariants.{CountsUp, LoadsHold, LoadsRemount, LoadsReadOnly, LoadsSuperblock, CountsDown}

-- a want
abbrev pub want_rank : WantStep → ℕ
want_rank CountsUp = 5
want_rank LoadsHold = 4
want_rank LoadsRemount = 3
want_rank LoadsReadOnly = 2
want_rank LoadsSuperblock = 1
want_rank (CountsDown refusal) = 0

-- a change, among so many processors
abbrev pub change_rank : ℕ → ChangeStep → ℕ
change_rank processors Locks = processors + 7
change_rank processors LoadsFlags = processors + 6
change_rank processors LoadsSb = processors + 5
change_rank processors ClearsReadOnly = 1
change_rank processors SetsHold = processors + 4
change_rank processors (Sums sum) = processors - sum.words + 3
change_rank processors SetsReadOnly = 2
change_rank processors (ClearsHold answer) = 1
change_rank processors (Releases answer) = 0

-- a phase of these; that of another is one step, after which none comes
abbrev pub mount_rank : MountPhase → ℕ
mount_rank (Wants x) = want_rank x.step
mount_rank (Changes x) = change_rank x.processors x.step
mount_rank phase = 0
