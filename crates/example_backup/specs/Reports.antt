-- What the program tells of its run: what the lists of its two tasks have in the end.
use Rattle.std.specs.Prelude.{◌≡◌, ◌++◌, ℕ, true, false, Ok, IfSome}
use Rattle.vfs_gates.specs.Rounds.{Rounds, BothDone, Did, Granted, SeatedTask, Ended, ClosedState, Mount, ChangeMount, ComesAfter, Performs, granted_in, own_actions}
use Rattle.vfs_gates.specs.{Seating.{times}, TaskStates.{own_number, own_view}, View.{View}}
use Rattle.example_backup.specs.declared.report.Report.{Report}

-- the same numbers, whatever these have done
abbrev pub SameNumbers : SeatedTask → SeatedTask → Type 0
SameNumbers first last = (n : ℕ) → times n last.items ≡ times n first.items

-- a copy: the mount was made read-only and then writable, and neither was refused
abbrev pub HasCopied : SeatedTask → SeatedTask → Type 0
HasCopied old left = BothDone (ChangeMount 0 true true) (ChangeMount 0 false true) old left

-- so many copies: in each the mount was made read-only and then writable, and neither was refused
abbrev pub Copies : ℕ → SeatedTask → SeatedTask → Type 0
Copies = Rounds HasCopied

-- The backup's task, to which the writer's was joined, has copied: the mount was made read-only and then writable, neither was refused, and in the
-- history that the first change leaves all that the writer had done comes before it.
pub record HasEveryWrite (backup writer left : SeatedTask) : Type 0 where
  pub joined : SeatedTask
  pub joins : joined ≡ record backup { items = backup.items ++ writer.items; seen = backup.seen ++ writer.seen }
  pub there : SeatedTask
  pub closes : Performs (ChangeMount 0 true true) joined there (Ok tt)
  pub after : ComesAfter writer joined there
  pub opens : Performs (ChangeMount 0 false true) there left (Ok tt)

-- The copy at the end, where the numbers end with these views. The writer's task has the number told and had been granted an access for each write told,
-- and its number ends as it knew it. It was joined to the task that copied then; this one has the number told as the last, which ends as the copy left it.
pub record HasAllWrites (told : Report) (views : ℕ → View) : Type 0 where
  pub last : SeatedTask
  pub writer : SeatedTask
  pub left : SeatedTask
  pub writer_is : own_number writer.items ≡ told.writer
  pub writer_ends : views told.writer ≡ own_view writer.items
  pub granted : granted_in (Mount 0) (own_actions writer) ≡ told.writes
  pub copied : HasEveryWrite last writer left
  pub last_is : own_number left.items ≡ told.last
  pub last_ends : views told.last ≡ own_view left.items

-- In the closed gates' state the writer was granted an access for each write that is told, and the backup made all copies told, each from no action; and
-- the last copy, where it is told whether it was torn, was made there and has all writes told.
pub record ReportIsTrue (told : Report) (closed : ClosedState) : Type 0 where
  pub ended : Ended closed.config closed.words
  pub writes : Did (ended.world.views told.writer) (Granted (Mount 0) told.writes)
  pub copies : Did (ended.world.views told.backup) (Copies told.copies)
  pub every_write : IfSome told.last_torn (λ torn. HasAllWrites told ended.world.views)
