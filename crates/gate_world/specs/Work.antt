-- The phases of all layers as one.
use Rattle.std.specs.Prelude.{None, Option, ℕ, ◌≡◌}
use Rattle.access_model.specs.{Replies.map_next, declared.{actions.Action.Action, replies.Next.Next}}
use Rattle.composite_ops.specs.declared.write_access.phases.WritePhase.{TheVariants.{Drops, Ends, GivesBack, Takes, Wants}, WritePhase}
use Rattle.composite_ops.specs.file_closes.Phases.{after as close_after, next as close_next}
use Rattle.composite_ops.specs.write_access.Phases.{after as write_after, leaves_on, next as write_next}
use Rattle.cpu_words.specs.{Hooks.HookAnswer, declared.{events.Touch.Touch, names.WordName.WordName}}
use Rattle.freeze_levels.specs.{Freezes.{freeze_after, freeze_hook, freeze_next}, Thaws.{thaw_after, thaw_hook, thaw_next}}
use Rattle.freeze_levels.specs.declared.hooks.HookKind.{HookKind}
use Rattle.gated_tree.specs.Phases.{after as tree_after, next as tree_next}
use Rattle.mount_counts.specs.{Phases.{after, next}, Remounts.{remount_after, remount_next}}
use Rattle.mount_counts.specs.declared.phases.MountPhase.TheVariants.{Drop as PlainDrop, Want as PlainWant}
use Rattle.percpu_rwsem.specs.{Callbacks.{callback_after, callback_next}, Readers.{down_read_after, down_read_next, up_read_after, up_read_next}}
use Rattle.gate_world.specs.{Roles.remount_hook, declared.work.Phase.Phase}
use Rattle.gate_world.specs.declared.work.Phase.TheVariants.{Callbacks, Closes, DownReads, Freezes, Mounts, Remounts, Thaws, Trees, UpReads, Writes}

-- the word and the touch of the next step
abbrev pub next_of : Phase → HookAnswer → WordName × Touch
next_of (Mounts phase) hook = next phase hook
next_of (Remounts x) hook = remount_next x x.step hook
next_of (DownReads r) hook = down_read_next r r.step
next_of (UpReads u) hook = up_read_next u
next_of (Callbacks b) hook = callback_next b b.step
next_of (Writes x) hook = write_next x
next_of (Freezes x) hook = freeze_next x x.step hook
next_of (Thaws x) hook = thaw_next x x.step hook
next_of (Trees phase) hook = tree_next phase hook
next_of (Closes phase) hook = close_next phase

-- what comes after the step that found this value, and the action that the step adds
abbrev pub after_of : Phase → ℕ → HookAnswer → Next Phase × Option Action
after_of (Mounts phase) found hook = (map_next Mounts (after phase found hook).0, (after phase found hook).1)
after_of (Remounts x) found hook = (map_next Remounts (remount_after x x.step found hook).0, (remount_after x x.step found hook).1)
after_of (DownReads r) found hook = (map_next DownReads (down_read_after r r.step found).0, (down_read_after r r.step found).1)
after_of (UpReads u) found hook = (map_next UpReads (up_read_after u).0, (up_read_after u).1)
after_of (Callbacks b) found hook = (map_next Callbacks (callback_after b b.step found).0, (callback_after b b.step found).1)
after_of (Writes x) found hook = (map_next Writes (write_after x found).0, (write_after x found).1)
after_of (Freezes x) found hook = (map_next Freezes (freeze_after x x.step found hook).0, (freeze_after x x.step found hook).1)
after_of (Thaws x) found hook = (map_next Thaws (thaw_after x x.step found hook).0, (thaw_after x x.step found hook).1)
after_of (Trees phase) found hook = (map_next Trees (tree_after phase found hook).0, (tree_after phase found hook).1)
after_of (Closes phase) found hook = (map_next Closes (close_after phase found).0, (close_after phase found).1)

-- the phase of its own gate at which a taking or a return of write access stands
abbrev pub inner_phase : WritePhase → Phase
inner_phase (Takes m r) = DownReads r
inner_phase (Wants x) = Mounts (PlainWant x)
inner_phase (GivesBack m p refusal) = UpReads (leaves_on p)
inner_phase (Drops m p) = Mounts (PlainDrop m p)
inner_phase (Ends p) = UpReads (leaves_on p)

-- the hook whose answer the next step reads: any other step is the same whatever a hook answers
abbrev pub hook_of : Phase → Option HookKind
hook_of (Remounts x) = remount_hook x.step
hook_of (Freezes x) = freeze_hook x.step
hook_of (Thaws x) = thaw_hook x.step
hook_of phase = None

-- where no hook's answer is read, the next step is the same for any two answers, and so is what comes after it
abbrev pub IgnoresAnswer : Phase → Option HookKind → Type 0
IgnoresAnswer phase hook = hook ≡ None → (a b : HookAnswer) (found : ℕ) →
    (next_of phase a ≡ next_of phase b) × (after_of phase found a ≡ after_of phase found b)
