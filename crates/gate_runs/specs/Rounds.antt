-- What each task of a run does, call by call, and when who looks on is called.
use Rattle.std.specs.Prelude.{Bool, Err, None, Ok, Option, Some, false, suc, true, zero, ℕ, ◌+◌, ◌≡◌, ◌⊎◌}
use Rattle.access_model.specs.declared.{actions.{Holder.TheVariants.User, Kind.TheVariants.File}, errors.GateError.GateError}
use Rattle.access_model.specs.declared.errors.GateError.TheVariants.{Again, Busy, ReadOnly}
use Rattle.gate_world.specs.declared.operations.Op.{Op, TheVariants.{Callback, ChangeMount, Create, DropWrite, Grow, Snapshot, Thaw, WantWrite}}
use Rattle.run_plans.specs.{Plans.processor_of, declared.counts.{Copies.Copies, Remounts.Remounts, Tried.TheVariants.{Copied, GaveUp as GivenUp}}}
use Rattle.run_plans.specs.declared.counts.{Tried.Tried, Writes.Writes}
use Rattle.vfs_gates.specs.{Runs.{Performs, Replies, node_of, ran_of}, TaskStates.SeatedTask}
use Rattle.gate_runs.specs.{Counts.{blocks_of, with_ran, with_round, with_try, with_waits}, Patience.{Froze, GaveUp}}

-- so many rounds from one state to another, by their numbers from 0, each going on where the one before it ended
abbrev pub Repeats : {S : Type 0} → (ℕ → S → S → Type 0) → ℕ → S → S → Type 0
Repeats {S} Round zero first last = last ≡ first
Repeats {S} Round (suc rounds) first last = (mid : S) × Repeats Round rounds first mid × Round rounds mid last

-- a call that was done
abbrev pub Does : Op → SeatedTask → SeatedTask → Type 0
Does op first last = Performs op first last (Ok tt)

-- a call that was refused so
abbrev pub IsRefused : Op → GateError → SeatedTask → SeatedTask → Type 0
IsRefused op refusal first last = Performs op first last (Err refusal)

-- a call that was made again where it was refused so, until it was done
abbrev pub Retries : Op → GateError → SeatedTask → SeatedTask → Type 0
Retries op refusal first last =
    (tries : ℕ) × (mid : SeatedTask) × Repeats (λ k. IsRefused op refusal) tries first mid × Does op mid last

-- a call, and the waits so far with its own
abbrev pub Waits : (SeatedTask → SeatedTask → Type 0) → SeatedTask × ℕ → SeatedTask × ℕ → Type 0
Waits Calls first last = Calls first.0 last.0 × (last.1 ≡ with_waits first.1 last.0)

-- write access, asked for again where it was read-only, with the waits so far of each of these calls
abbrev pub Takes : ℕ → SeatedTask × ℕ → SeatedTask × ℕ → Type 0
Takes cpu first last = (tries : ℕ) × (mid : SeatedTask × ℕ) × Repeats (λ k. Waits (IsRefused (WantWrite 0 cpu) ReadOnly)) tries first mid
    × Waits (Does (WantWrite 0 cpu)) mid last

-- a callback of a level, whether one was queued or not, how many ran so far, and the waits so far
abbrev pub CallsBack : ℕ → SeatedTask × ℕ × ℕ → SeatedTask × ℕ × ℕ → Type 0
CallsBack level first last = (ran : Bool) × Replies ran_of (Callback level) first.0 last.0 (Ok ran) × (last.1 ≡ with_ran ran first.1)
    × (last.2 ≡ with_waits first.2 last.0)

-- a file in the root
abbrev pub CreatesFile : SeatedTask → SeatedTask → Type 0
CreatesFile first last = (node : ℕ) × Replies node_of (Create 0 File) first last (Ok node)

-- a file for each writer, inside one write access
pub record CreatesFiles (writers : ℕ) (first last : SeatedTask) : Type 0 where
  pub held : SeatedTask
  pub made : SeatedTask
  pub took : Does (WantWrite 0 0) first held
  pub creates : Repeats (λ k. CreatesFile) writers held made
  pub gave : Does (DropWrite 0 0) made last

-- the mount is made read-only, or was busy, and how often it was: never, or once
abbrev pub Closes : ℕ → SeatedTask → SeatedTask → Type 0
Closes busy first last =
    (Does (ChangeMount 0 true true) first last × (busy ≡ 0)) ⊎ (IsRefused (ChangeMount 0 true true) Busy first last × (busy ≡ 1))

-- a round of the remounter: the mount is made read-only, unless it is busy, which is counted, and then writable; the waits of both are counted
pub record RemountRound (round : ℕ) (first last : SeatedTask × Remounts) : Type 0 where
  pub mid : SeatedTask
  pub busy : ℕ
  pub closed : Closes busy first.0 mid
  pub opened : Does (ChangeMount 0 false true) mid last.0
  pub counts : last.1 ≡ record { busy = first.1.busy + busy; waits = with_waits (with_waits first.1.waits mid) last.0 }

-- The rounds that a watch is called in: a task goes on, and so do its notes and its counts. `link` is what the watch says of a call, by the task
-- as it stands at that moment.
module _ {N : Type 0} (link : SeatedTask → ℕ → N → N → Type 0) where
  -- A round of a writer: write access on its processor, again while the mount is read-only; its file larger by one block, again while others
  -- were before it; one call of the watch, with the task as it stands then; and the access given back on the next processor. Each call that
  -- was refused is counted, and so are the waits of each call for write access.
  pub record WriterRound (processors writer round : ℕ) (first last : SeatedTask × N × Writes) : Type 0 where
    pub held : SeatedTask
    pub grown : SeatedTask
    pub waits : ℕ
    pub took : Takes (processor_of processors writer round) (first.0, first.2.waits) (held, waits)
    pub grew : Retries (Grow (writer + 1) 1) Again held grown
    pub met : link grown round first.1 last.1
    pub gave : Does (DropWrite 0 (processor_of processors writer (round + 1))) grown last.0
    pub counts : last.2 ≡ with_round took.0 grew.0 waits first.2

  -- A copy: a freeze that was granted with this patience, a snapshot of so many blocks, one call of the watch, and a thaw. The waits of all these
  -- calls are counted.
  pub record CopiesOnce (patience : Option ℕ) (round blocks : ℕ) (first last : SeatedTask × N × ℕ) : Type 0 where
    pub frozen : SeatedTask
    pub copied : SeatedTask
    pub freezes : Froze patience first.0 frozen
    pub copies : Does (Snapshot true) frozen copied
    pub size : blocks ≡ blocks_of copied
    pub met : link copied round first.1 last.1
    pub thaws : Does (Thaw User) copied last.0
    pub counts : last.2 ≡ with_waits (with_waits (with_waits first.2 frozen) copied) last.0

  -- How a round of the backup begins: with a copy, or with a freeze that gave up, at which the watch isn't called.
  abbrev pub Tries : Option ℕ → ℕ → Tried → SeatedTask × N × ℕ → SeatedTask × N × ℕ → Type 0
  Tries patience round (Copied (Some blocks)) first last = CopiesOnce patience round blocks first last
  Tries patience round (Copied None) first last = ⊥
  Tries patience round GivenUp first last = Waits (GaveUp patience) (first.0, first.2) (last.0, last.2) × (last.1 ≡ first.1)

  -- A round of the backup: it begins so, and then come the callbacks of the three levels, also after a freeze that gave up. The snapshot's blocks or that it
  -- gave up, the callbacks that ran, and the waits of all these calls are counted.
  pub record BackupRound (patience : Option ℕ) (round : ℕ) (first last : SeatedTask × N × Copies) : Type 0 where
    pub tried : Tried
    pub mid : SeatedTask
    pub before : ℕ
    pub tries : Tries patience round tried (first.0, first.1, first.2.waits) (mid, last.1, before)
    pub ran : ℕ
    pub waits : ℕ
    pub calls_back : Repeats (λ k. CallsBack (k + 1)) 3 (mid, 0, before) (last.0, ran, waits)
    pub counts : last.2 ≡ with_try tried ran waits first.2
