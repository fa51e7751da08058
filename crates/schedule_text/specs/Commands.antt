-- Words that name hooks, holders and kinds of nodes, and what a hook answers that a schedule lets fail.
use Rattle.std.specs.Prelude.{ℕ, Bool, true, false, if◌then◌else◌, List, codes, Option, Some, None, Ok, Err, bytes_eq}
use Rattle.access_model.specs.declared.actions.{Holder.{Holder, TheVariants.{Kernel, User}}, Kind.{Kind, TheVariants.{File, Dir}}}
use Rattle.cpu_words.specs.Hooks.{HookAnswer}
use Rattle.freeze_levels.specs.declared.hooks.HookKind.{HookKind, TheVariants.{Sync, FreezeFs, UnfreezeFs, Reconfigure, KeepWaiting}}
use Rattle.schedule_text.specs.declared.commands.HookFailure.{HookFailure}

-- the hook that a word names
unfoldable pub hook_named : List ℕ → Option HookKind
hook_named word =
    if bytes_eq word (codes "sync") then Some Sync else
    if bytes_eq word (codes "freeze") then Some FreezeFs else
    if bytes_eq word (codes "unfreeze") then Some UnfreezeFs else
    if bytes_eq word (codes "reconfigure") then Some Reconfigure else
    if bytes_eq word (codes "wait") then Some KeepWaiting else None

-- the kind of node that a word names
unfoldable pub kind_named : List ℕ → Option Kind
kind_named word =
    if bytes_eq word (codes "file") then Some File else
    if bytes_eq word (codes "dir") then Some Dir else None

-- the holder that a word names
unfoldable pub holder_named : List ℕ → Option Holder
holder_named word =
    if bytes_eq word (codes "kernel") then Some Kernel else
    if bytes_eq word (codes "user") then Some User else None

-- whether two hooks are one
abbrev pub is_hook : HookKind → HookKind → Bool
is_hook Sync Sync = true
is_hook FreezeFs FreezeFs = true
is_hook UnfreezeFs UnfreezeFs = true
is_hook Reconfigure Reconfigure = true
is_hook KeepWaiting KeepWaiting = true
is_hook hook other = false

-- what a hook answers that a step asks, where one fails and all others answer Ok; Ok where the step asks none
abbrev pub failing_answer : HookFailure → Option HookKind → HookAnswer
failing_answer failure None = Ok tt
failing_answer failure (Some hook) = if is_hook hook failure.hook then Err failure.code else Ok tt
