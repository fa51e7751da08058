-- Which refusals of a call end a run, why it was refused so, and why a run is refused whose numbers are within their limits.
use Rattle.std.specs.Prelude.{Err, None, true, ℕ, ◌+◌, ◌<◌, ◌≡◌, ◌⊎◌}
use Rattle.access_model.specs.{Holders.held_by, declared.{actions.{Holder.TheVariants.User, Kind.TheVariants.File}, errors.GateError.GateError}}
use Rattle.access_model.specs.declared.errors.GateError.TheVariants.{Again, Busy, Invalid, IsDir, NoEntry, NoMemory, NoSpace}
use Rattle.gate_world.specs.declared.operations.Op.{Op, TheVariants.{Create, DropWrite, Freeze, Grow, WantWrite}}
use Rattle.run_plans.specs.{Plans.{processor_of, run_config}, declared.counts.Writes.Writes}
use Rattle.vfs_gates.specs.{Frozen.{MayFreeze, NeedsFreeze, holders_of}, Grown.StaySeen, Held.{IsAsBefore, Rests, own_actions}, Runs.Called}
use Rattle.vfs_gates.specs.{Splitting.{Gives, HasBegun}, TaskStates.{IsFrom, SeatedTask, own_number, refusal_at}, declared.Gates.Gates}
use Rattle.gate_runs.specs.{Counts.no_writes, Rounds.{CreatesFile, Does, IsRefused, Repeats, Takes, WriterRound}}

-- A task that was granted write access when it rested, and holds since then just what the grant left it.
pub record HasWriteAccess (s : SeatedTask) : Type 0 where
  pub cpu : ℕ
  pub before : SeatedTask
  pub granted : SeatedTask
  pub rests : Rests before
  pub took : Does (WantWrite 0 cpu) before granted
  pub since : IsAsBefore granted s

-- A task of these gates, with this number and inside its write access, might begin this operation, and the whole operation was refused so: its cause is
-- in its trace.
pub record WasRefused (gates : Gates) (number : ℕ) (op : Op) (refusal : GateError) : Type 0 where
  pub first : SeatedTask
  pub last : SeatedTask
  pub from : IsFrom first gates
  pub own : own_number first.items ≡ number
  pub inside : HasWriteAccess first
  pub began : refusal_at op first ≡ None
  pub refused : Called op first last (Err refusal)

-- the refusals that end the creation of a file: the root is always a directory
abbrev pub EndsCreate : GateError → Type 0
EndsCreate NoSpace = Unit {0}
EndsCreate Again = Unit {0}
EndsCreate refusal = ⊥

-- The backup's creation of a file was refused so. As the first task of these gates, before any other had done anything, it had taken write access and
-- created fewer files than there are writers; and then this creation was refused.
pub record CreateRefused (gates : Gates) (tasks : ℕ) (refusal : GateError) : Type 0 where
  pub ends : EndsCreate refusal
  pub begins : SeatedTask
  pub held : SeatedTask
  pub begun : HasBegun 0 begins
  pub gives : Gives begins 1 tasks
  pub took : Does (WantWrite 0 0) begins held
  pub was : WasRefused gates 0 (Create 0 File) refusal
  pub files : ℕ
  pub fewer : files + 2 < tasks
  pub creates : Repeats (λ k. CreatesFile) files held was.first

-- the refusals that end the growth of a file: after Again it is tried again
abbrev pub EndsGrow : GateError → Type 0
EndsGrow NoEntry = Unit {0}
EndsGrow IsDir = Unit {0}
EndsGrow NoSpace = Unit {0}
EndsGrow refusal = ⊥

-- a task's growth of this file was refused so, after it was refused as Again so often, and nothing else was called since the task stood so
pub record GrowthRefused (gates : Gates) (file : ℕ) (start : SeatedTask) (refusal : GateError) : Type 0 where
  pub ends : EndsGrow refusal
  pub was : WasRefused gates (own_number start.items) (Grow file 1) refusal
  pub tries : ℕ
  pub tried : Repeats (λ k. IsRefused (Grow file 1) Again) tries start was.first

-- A task stands as its last calls left it: the growth of this file was refused so, and then its write access was given back.
pub record LeftByRefusal (file : ℕ) (refusal : GateError) (now : SeatedTask) : Type 0 where
  pub before : SeatedTask
  pub refused : SeatedTask
  pub was : IsRefused (Grow file 1) refusal before refused
  pub cpu : ℕ
  pub gave : Does (DropWrite 0 cpu) refused now

-- a call of a watch of which nothing is said
abbrev pub any_call : SeatedTask → ℕ → Unit {0} → Unit {0} → Type 0
any_call task round before after = Unit {0}

-- A writer was refused so. From its beginning on it had done fewer rounds than it was asked for, and nothing else; then it took write access, as each
-- round begins, and the growth of its file was refused.
pub record WriterRefused (gates : Gates) (tasks processors rounds : ℕ) (refusal : GateError) : Type 0 where
  pub writer : ℕ
  pub there : writer + 2 < tasks
  pub begins : SeatedTask
  pub begun : HasBegun (writer + 2) begins
  pub round : ℕ
  pub fewer : round < rounds
  pub before : SeatedTask
  pub writes : Writes
  pub did : Repeats (WriterRound any_call processors writer) round (begins, tt, no_writes) (before, tt, writes)
  pub held : SeatedTask
  pub waits : ℕ
  pub took : Takes (processor_of processors writer round) (before, writes.waits) (held, waits)
  pub grow : GrowthRefused gates (writer + 1) held refusal

-- A call of this task's number found thawed what its own list had frozen: a snapshot, or a thaw, was refused as Invalid.
pub record FoundThawed (s : SeatedTask) : Type 0 where
  pub op : Op
  pub first : SeatedTask
  pub last : SeatedTask
  pub config : first.config ≡ s.config
  pub own : own_number first.items ≡ own_number s.items
  pub needs : NeedsFreeze User op
  pub holds : held_by (holders_of (own_actions first)) User ≡ true
  pub refused : Called op first last (Err Invalid)
  pub seen : StaySeen last.seen s.seen

-- A call of this task's number found a freeze of others: its freeze was refused as Busy, though by its own list none was under way, and none was
-- held for user space.
pub record FoundFrozen (s : SeatedTask) : Type 0 where
  pub first : SeatedTask
  pub last : SeatedTask
  pub config : first.config ≡ s.config
  pub own : own_number first.items ≡ own_number s.items
  pub may : MayFreeze User (own_actions first)
  pub refused : Called (Freeze User) first last (Err Busy)
  pub seen : StaySeen last.seen s.seen

-- a call of this task's number found that others had thawed, or frozen
abbrev pub FoundOthers : SeatedTask → Type 0
FoundOthers s = FoundThawed s ⊎ FoundFrozen s

-- why a run ends before all its threads are started: memory or a thread was refused, or the creation of a file
abbrev pub NotStarted : Gates → ℕ → GateError → Type 0
NotStarted gates tasks refusal = (refusal ≡ NoMemory) ⊎ CreateRefused gates tasks refusal

-- Memory or a thread was refused; or, at gates of this run's configuration, the creation or the growth of a file. No other call ends a run.
abbrev pub RunRefused : ℕ → ℕ → ℕ → GateError → Type 0
RunRefused tasks processors rounds refusal = (refusal ≡ NoMemory) ⊎ ((gates : Gates) × (gates.words.config ≡ run_config tasks processors rounds) ×
    (CreateRefused gates tasks refusal ⊎ WriterRefused gates tasks processors rounds refusal))
