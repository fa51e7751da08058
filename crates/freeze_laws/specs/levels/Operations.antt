-- The operations at a level as steps of it: what a task is doing there before each step, and what the step leaves.
use Rattle.std.specs.Prelude.{ℕ, ◌+◌, ◌<◌, ◌≡◌}
use Rattle.access_model.specs.declared.replies.Next.{Next, TheVariants.{Done, Go, Wait}}
use Rattle.cpu_words.specs.{Touches.{found_by, left}, declared.{events.Touch.Touch, names.WordName.{TheVariants.{Block, Section, Sync}, WordName}}}
use Rattle.finite_sums.specs.Sums.{total, update}
use Rattle.percpu_rwsem.specs.{Callbacks.{callback_after, callback_next}, Readers.{down_read_after, down_read_next}, SyncWords.on_callback}
use Rattle.percpu_rwsem.specs.{SyncWords.{on_claim, on_enter, on_exit}, Writers.{down_write_after, down_write_next, up_write_after, up_write_next}}
use Rattle.percpu_rwsem.specs.declared.callbacks.{Callback.Callback, CallbackStep.CallbackStep}
use Rattle.percpu_rwsem.specs.declared.callbacks.CallbackStep.TheVariants.{AwaitsSections as AwaitsGrace, CallsBack as MakesCall, Claims}
use Rattle.percpu_rwsem.specs.declared.readers.{DownRead.DownRead, DownReadStep.{DownReadStep, TheVariants.{CountsUpFast, EntersSection}}}
use Rattle.percpu_rwsem.specs.declared.writers.{DownWrite.DownWrite, DownWriteStep.DownWriteStep}
use Rattle.percpu_rwsem.specs.declared.writers.DownWriteStep.TheVariants.{AwaitsPassed, AwaitsSections, CallsBack, Enters, SetsBlock, Sums}
use Rattle.percpu_rwsem.specs.declared.writers.{UpWrite.UpWrite, UpWriteStep.{TheVariants.{ClearsBlock, Exits}, UpWriteStep}}
use Rattle.freeze_laws.specs.levels.{Events.{SyncLevel, SyncLevelHolds, SyncStep}, Exchanges.KnowsWords}
use Rattle.freeze_laws.specs.levels.Roles.{Claimed, Closed, Entered, Fast, Out, Past, Ready, SyncRole, Waiting, entered}

-- a down-read is on the fast path from its load of GP_IDLE to its addition
abbrev pub down_read_role : DownReadStep → SyncRole
down_read_role CountsUpFast = Fast
down_read_role _ = Out

-- 1 for a down-read inside its section
abbrev pub down_read_inside : DownReadStep → ℕ
down_read_inside EntersSection = 0
down_read_inside _ = 1

-- a down-write enters, waits until readers are slow, and closes the level
abbrev pub down_write_role : DownWriteStep → SyncRole
down_write_role (Enters transition) = Out
down_write_role (AwaitsSections grace) = Waiting grace
down_write_role (CallsBack transition) = Past
down_write_role AwaitsPassed = Entered
down_write_role SetsBlock = Entered
down_write_role (Sums sum) = Closed

-- an up-write opens the level, and leaves it
abbrev pub up_write_role : UpWriteStep → SyncRole
up_write_role ClearsBlock = Closed
up_write_role (Exits transition) = Entered

-- a callback is claimed, waits for a grace period, and makes its transition
abbrev pub callback_role : CallbackStep → SyncRole
callback_role (Claims transition) = Out
callback_role (AwaitsGrace grace) = Claimed grace
callback_role (MakesCall transition) = Ready

-- what a down-write knows of an exchange that is to come
abbrev pub KnowsDownWrite : DownWriteStep → Type 0
KnowsDownWrite (Enters transition) = KnowsWords on_enter transition
KnowsDownWrite (CallsBack transition) = KnowsWords on_callback transition
KnowsDownWrite _ = Unit {0}

-- what an up-write knows of it
abbrev pub KnowsUpWrite : UpWriteStep → Type 0
KnowsUpWrite ClearsBlock = Unit {0}
KnowsUpWrite (Exits transition) = KnowsWords on_exit transition

-- what a callback knows of it
abbrev pub KnowsCallback : CallbackStep → Type 0
KnowsCallback (Claims transition) = KnowsWords on_claim transition
KnowsCallback (AwaitsGrace grace) = Unit {0}
KnowsCallback (MakesCall transition) = KnowsWords on_callback transition

-- the value of a level's word; of any other word, which the level doesn't read, this one
abbrev pub value_at : SyncLevel → ℕ → WordName → ℕ
value_at l other (Sync i) = l.sync
value_at l other (Block i) = l.block
value_at l other (Section t) = l.section t
value_at l other _ = other

-- a level with this value of one of its words
abbrev pub put_at : SyncLevel → WordName → ℕ → SyncLevel
put_at l (Sync i) value = record l { sync = value }
put_at l (Block i) value = record l { block = value }
put_at l (Section t) value = record l { section = update l.section t value }
put_at l _ value = l

-- a level after a task's step, where the word had this value, and the task has this role then
abbrev pub left_by : SyncLevel → ℕ → WordName × Touch → ℕ → SyncRole → SyncLevel
left_by l t event value role = record (put_at l event.0 (left event.1 value)) { at = update l.at t role }

-- what comes after a step is read as its phase, or as done
abbrev pub by_next : {P X : Type 0} → (P → X) → X → Next P → X
by_next read done (Go phase) = read phase
by_next read done (Wait phase) = read phase
by_next read done (Done answer) = done

-- what holds of the phase after a step, where there is one
abbrev pub HoldsOfNext : {P : Type 0} → (P → Type 0) → Next P → Type 0
HoldsOfNext holds (Go phase) = holds phase
HoldsOfNext holds (Wait phase) = holds phase
HoldsOfNext holds (Done answer) = Unit {0}

-- A task's step on a word that had this value is one of the level, and leaves the task with the role of the phase after it, or this one
-- where it is done; and what a phase knows, the phase after it does.
abbrev pub IsEventThere : {P : Type 0} → ℕ → ℕ → SyncLevel → WordName × Touch → ℕ → (ℕ → Next P) → (P → SyncRole) → SyncRole →
    (P → Type 0) → Type 0
IsEventThere tasks t l event value after role done knows =
    SyncStep tasks l (left_by l t event value (by_next role done (after (found_by event.1 value)))) ×
    HoldsOfNext knows (after (found_by event.1 value))

-- of a down-write at this step, which leaves the level closed
abbrev pub DownWriteIsThere : ℕ → ℕ → SyncLevel → DownWrite → DownWriteStep → Type 0
DownWriteIsThere t other l d step =
    IsEventThere d.tasks t l (down_write_next d step) (value_at l other (down_write_next d step).0)
    (λ found. (down_write_after d step found).0) (λ (x : DownWrite). down_write_role x.step) Closed
    (λ (x : DownWrite). (x.tasks ≡ d.tasks) × KnowsDownWrite x.step)

-- of an up-write
abbrev pub UpWriteIsThere : ℕ → ℕ → ℕ → SyncLevel → UpWrite → UpWriteStep → Type 0
UpWriteIsThere tasks t other l u step =
    IsEventThere tasks t l (up_write_next u step) (value_at l other (up_write_next u step).0)
    (λ found. (up_write_after u step found).0) (λ (x : UpWrite). up_write_role x.step) Out
    (λ (x : UpWrite). KnowsUpWrite x.step)

-- of a callback
abbrev pub CallbackIsThere : ℕ → ℕ → SyncLevel → Callback → CallbackStep → Type 0
CallbackIsThere t other l b step =
    IsEventThere b.tasks t l (callback_next b step) (value_at l other (callback_next b step).0)
    (λ found. (callback_after b step found).0) (λ (x : Callback). callback_role x.step) Out
    (λ (x : Callback). (x.tasks ≡ b.tasks) × KnowsCallback x.step)

-- of a down-read, which also begins and ends its section
abbrev pub DownReadIsThere : ℕ → ℕ → SyncLevel → DownRead → DownReadStep → Type 0
DownReadIsThere tasks other l r step =
    let event = down_read_next r step in
    let value = value_at l other event.0 in
    let next = (down_read_after r step (found_by event.1 value)).0 in
    SyncStep tasks l record (left_by l r.task event value (by_next (λ (x : DownRead). down_read_role x.step) Out next)) {
      inside = update l.inside r.task (by_next (λ (x : DownRead). down_read_inside x.step) 0 next);
    }

-- Each step of a down-write is one of its level; it enters where nobody has entered.
abbrev pub DownWritesAreThere : Type 0
DownWritesAreThere = (t other : ℕ) (l : SyncLevel) (d : DownWrite) → t < d.tasks → SyncLevelHolds d.tasks l →
    l.at t ≡ down_write_role d.step → KnowsDownWrite d.step → (l.at t ≡ Out → total d.tasks (λ x. entered (l.at x)) + l.full ≡ 0) →
    DownWriteIsThere t other l d d.step

-- each step of an up-write is
abbrev pub UpWritesAreThere : Type 0
UpWritesAreThere = (tasks t other : ℕ) (l : SyncLevel) (u : UpWrite) → t < tasks → l.at t ≡ up_write_role u.step →
    KnowsUpWrite u.step → UpWriteIsThere tasks t other l u u.step

-- and each of a callback
abbrev pub CallbacksAreThere : Type 0
CallbacksAreThere = (t other : ℕ) (l : SyncLevel) (b : Callback) → t < b.tasks → l.at t ≡ callback_role b.step →
    KnowsCallback b.step → CallbackIsThere t other l b b.step

-- and each of a down-read, which finds GP_IDLE inside its section
abbrev pub DownReadsAreThere : Type 0
DownReadsAreThere = (tasks other : ℕ) (l : SyncLevel) (r : DownRead) → r.task < tasks → l.at r.task ≡ down_read_role r.step →
    l.inside r.task ≡ down_read_inside r.step → DownReadIsThere tasks other l r r.step
