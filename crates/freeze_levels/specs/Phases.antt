-- The order of steps of a freeze or a thaw.
use Rattle.std.specs.Prelude.{Option, ℕ}
use Rattle.access_model.specs.{Replies.map_next, declared.{actions.Action.Action, replies.Next.Next}}
use Rattle.cpu_words.specs.{Hooks.HookAnswer, declared.{events.Touch.Touch, names.WordName.WordName}}
use Rattle.freeze_levels.specs.{Freezes.{freeze_after, freeze_hook, freeze_next}, Thaws.{thaw_after, thaw_hook, thaw_next}}
use Rattle.freeze_levels.specs.declared.{hooks.HookKind.HookKind, phases.FreezePhase.{FreezePhase, TheVariants.{Freeze as Freezes, Thaw as Thaws}}}

-- the hook whose answer the next step reads
abbrev pub phase_hook : FreezePhase → Option HookKind
phase_hook (Freezes f) = freeze_hook f.step
phase_hook (Thaws t) = thaw_hook t.step

-- the word and the touch of the next step, where the file system answers this
abbrev pub next : FreezePhase → HookAnswer → WordName × Touch
next (Freezes f) hook = freeze_next f f.step hook
next (Thaws t) hook = thaw_next t t.step hook

-- what comes after the step that found this value, where the file system answers this, and the action that the step adds
abbrev pub after : FreezePhase → ℕ → HookAnswer → Next FreezePhase × Option Action
after (Freezes f) found hook = (map_next Freezes (freeze_after f f.step found hook).0, (freeze_after f f.step found hook).1)
after (Thaws t) found hook = (map_next Thaws (thaw_after t t.step found hook).0, (thaw_after t t.step found hook).1)
