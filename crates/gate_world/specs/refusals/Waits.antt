-- Waits: where a step reports that its operation waits, another task has what it waits for.
use Rattle.std.specs.Prelude.{◌≡◌, ℕ, ◌<◌, true, Some, Ok, Err, List, [], ◌∷◌}
use Rattle.access_model.specs.declared.replies.Next.{Next, TheVariants.{Go, Wait, Done}}
use Rattle.cpu_words.specs.Hooks.{HookAnswer}
use Rattle.gated_tree.specs.declared.phases.TreePhase.{TreePhase, TheVariants.Snapshot as Snapshots}
use Rattle.mount_counts.specs.{Roles.has_hold, declared.phases.MountPhase.{MountPhase, TheVariants.{Want as Wants, Change as Changes}}}
use Rattle.percpu_rwsem.specs.declared.writers.DownWriteStep.{DownWriteStep, TheVariants.{AwaitsSections, Sums as SumsLevel}}
use Rattle.freeze_levels.specs.declared.freezes.{Freeze.Freeze, FreezeStep.{FreezeStep, TheVariants.{Locks, LocksAgain, Closes, Waits as FreezeWaits, LocksToUndo}}}
use Rattle.composite_ops.specs.declared.write_access.phases.WritePhase.{WritePhase, TheVariants.{Takes, Wants as WriteWants}}
use Rattle.composite_ops.specs.declared.file_closes.phases.ClosePhase.{ClosePhase, TheVariants.Enters}
use Rattle.gate_world.specs.{refusals.Causes.{trail_of, since_begun, HasCause, last_asked, WasClosed, moments_of_sum, was_inside}, Headline.world_after, Levels.inside}
use Rattle.gate_world.specs.{Rules.{role_of, owns}, Work.{after_of}, Worlds.{World, found_at}, declared.entries.Entry.{Entry}}
use Rattle.gate_world.specs.declared.config.Config.{Config}
use Rattle.gate_world.specs.declared.work.Phase.{Phase, TheVariants.{Mounts, Remounts, DownReads, Callbacks, Writes, Freezes, Thaws, Trees, Closes}}

-- What a phase waits for, task y has: a want waits for who has HOLD set at its mount, a change for who has `umount`. One with no row waits for
-- nobody, so that none can be proved to wait by omission.
abbrev pub MountIsWaitedFor : World → MountPhase → ℕ → Type 0
MountIsWaitedFor w (Wants x) y = has_hold (role_of x.mount (w.views y).phase) ≡ 1
MountIsWaitedFor w (Changes x) y = owns (w.views y).phase ≡ 1
MountIsWaitedFor w phase y = ⊥

-- a down-write waits for who is inside a read-side section; where it sums, it waits for who was counted while it did
abbrev pub DownWriteIsWaitedFor : World → DownWriteStep → ℕ → Type 0
DownWriteIsWaitedFor w (AwaitsSections grace) y = inside (w.views y).phase ≡ 1
DownWriteIsWaitedFor w step y = ⊥

-- a freeze waits for who has `umount`, and as its down-write
abbrev pub FreezeIsWaitedFor : World → FreezeStep → ℕ → Type 0
FreezeIsWaitedFor w Locks y = owns (w.views y).phase ≡ 1
FreezeIsWaitedFor w LocksAgain y = owns (w.views y).phase ≡ 1
FreezeIsWaitedFor w (LocksToUndo code) y = owns (w.views y).phase ≡ 1
FreezeIsWaitedFor w (Closes d) y = DownWriteIsWaitedFor w d.step y
FreezeIsWaitedFor w (FreezeWaits d) y = DownWriteIsWaitedFor w d.step y
FreezeIsWaitedFor w step y = ⊥

-- a snapshot waits for who has `umount`, and no other call at the tree waits
abbrev pub TreeIsWaitedFor : World → TreePhase → ℕ → Type 0
TreeIsWaitedFor w (Snapshots x) y = owns (w.views y).phase ≡ 1
TreeIsWaitedFor w phase y = ⊥

-- The same of a phase of any layer: a remount and a thaw wait for who has `umount`, a callback for who is inside a read-side section. A
-- reader of a level waits for nobody at its own step: it has found the level closed before.
abbrev pub IsWaitedFor : World → Phase → ℕ → Type 0
IsWaitedFor w (Mounts phase) y = MountIsWaitedFor w phase y
IsWaitedFor w (Remounts x) y = owns (w.views y).phase ≡ 1
IsWaitedFor w (Callbacks b) y = inside (w.views y).phase ≡ 1
IsWaitedFor w (Freezes x) y = FreezeIsWaitedFor w x.step y
IsWaitedFor w (Thaws x) y = owns (w.views y).phase ≡ 1
IsWaitedFor w (Trees phase) y = TreeIsWaitedFor w phase y
IsWaitedFor w phase y = ⊥

-- another task has what task t, which is at this phase, waits for
pub record HasCulprit (c : Config) (w : World) (t : ℕ) (phase : Phase) : Type 0 where
  pub task : ℕ
  pub there : task < c.tasks
  pub other : task ≡ t → ⊥
  pub stands : IsWaitedFor w phase task

-- the same of a write access: for level 1 as a reader, for the mount as a want
abbrev pub WriteHasCulprit : Config → World → List World → ℕ → WritePhase → Type 0
WriteHasCulprit c w earlier t (Takes m r) = WasClosed c t r.level (last_asked t (w ∷ earlier))
WriteHasCulprit c w earlier t (WriteWants x) = HasCulprit c w t (Mounts (Wants x))
WriteHasCulprit c w earlier t x = ⊥

-- and of a close: for level 3 as a reader
abbrev pub CloseHasCulprit : Config → World → List World → ℕ → ClosePhase → Type 0
CloseHasCulprit c w earlier t (Enters f node r) = WasClosed c t r.level (last_asked t (w ∷ earlier))
CloseHasCulprit c w earlier t x = ⊥

-- the same of a down-write: where it sums its level's words, something was counted there in one of the states of its sum
abbrev pub DownWriteHasCulprit : Config → World → List World → ℕ → Freeze → ℕ → DownWriteStep → Type 0
DownWriteHasCulprit c w earlier t x i (SumsLevel sum) = was_inside c i (moments_of_sum t (w ∷ earlier)) ≡ true
DownWriteHasCulprit c w earlier t x i step = HasCulprit c w t (Freezes x)

-- of a freeze
abbrev pub FreezeHasCulprit : Config → World → List World → ℕ → Freeze → FreezeStep → Type 0
FreezeHasCulprit c w earlier t x (Closes d) = DownWriteHasCulprit c w earlier t x d.level d.step
FreezeHasCulprit c w earlier t x (FreezeWaits d) = DownWriteHasCulprit c w earlier t x d.level d.step
FreezeHasCulprit c w earlier t x step = HasCulprit c w t (Freezes x)

-- what makes a phase wait, with the present state and the earlier ones: for a reader, that the level was closed when it last asked; for
-- a freeze that sums, that something was counted at the level meanwhile; for any other, that another task has now what it waits for
abbrev pub HasCulpritSince : Config → World → List World → ℕ → Phase → Type 0
HasCulpritSince c w earlier t (DownReads r) = WasClosed c t r.level (last_asked t (w ∷ earlier))
HasCulpritSince c w earlier t (Writes x) = WriteHasCulprit c w earlier t x
HasCulpritSince c w earlier t (Freezes x) = FreezeHasCulprit c w earlier t x x.step
HasCulpritSince c w earlier t (Closes phase) = CloseHasCulprit c w earlier t phase
HasCulpritSince c w earlier t phase = HasCulprit c w t phase

-- a step after which this comes has its reason: where it is a wait, its phase waits for what another task has or had; where it is a
-- refusal, that has its cause
abbrev pub HasReason : Config → World → List World → ℕ → Phase → Next Phase → Type 0
HasReason c w earlier t phase (Go next) = Unit {0}
HasReason c w earlier t phase (Wait next) = HasCulpritSince c w earlier t phase
HasReason c w earlier t phase (Done (Ok reply)) = Unit {0}
HasReason c w earlier t phase (Done (Err refusal)) = HasCause c t (w ∷ earlier) phase refusal

-- the same of the states of an execution, the newest first
abbrev pub HasCulpritAmong : Config → List World → ℕ → Phase → Type 0
HasCulpritAmong c [] t phase = ⊥
HasCulpritAmong c (w ∷ earlier) t phase = HasCulpritSince c w earlier t phase

-- Every wait has a blocker: after any execution, where the next step of a task reports that it waits, another task has what it waits for,
-- in the state in which the step is done; or, where it waits for a level, that was closed in the state in which the task last asked, or,
-- where a freeze sums the words of one, something was counted there while it did: always since the task began its operation.
abbrev pub EachWaitHasCulprit : Config → List Entry → Type 0
EachWaitHasCulprit c entries =
    (t : ℕ) (phase again : Phase) (hook : HookAnswer) → t < c.tasks → ((world_after c entries).views t).phase ≡ Some phase →
    (after_of phase (found_at (world_after c entries).words phase hook) hook).0 ≡ Wait again →
    HasCulpritAmong c (since_begun t (trail_of c entries)) t phase
