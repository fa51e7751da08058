-- What a number tells C of an answer.
use Rattle.std.specs.Prelude.{ℕ, ◌+◌, ◌-◌, ◌==◌, Bool, true, false, nat_le, if◌then◌else◌, Option, Some, None, Result, Ok, Err}
use Rattle.access_model.specs.declared.{actions.Holder.{Holder, TheVariants.{Kernel, User}}, errors.GateError.{GateError}}
use Rattle.access_model.specs.declared.errors.GateError.TheVariants.{NoEntry, Again, NoMemory, Busy, NotDir, IsDir, Invalid, TooMany, NoSpace, ReadOnly, Order, Hook}
use Rattle.access_model.specs.declared.replies.Reply.{Reply, TheVariants.{Unit as UnitReply, Node, Ran, Tree}}
use Rattle.cpu_words.specs.Hooks.{HookAnswer}
use Rattle.freeze_levels.specs.declared.hooks.HookKind.{HookKind, TheVariants.{Sync, FreezeFs, UnfreezeFs, Reconfigure, KeepWaiting}}
use Rattle.gate_transitions.specs.declared.steps.Progress.{Progress, TheVariants.{Idle, Going, Waiting, Done}}
use Rattle.mntgate_c.specs.declared.codes.Outcome.{Outcome}

-- The refusal of an errno; from 65536 on a hook's code is added to that. Any other number is read as the failure of a hook with a code that
-- none has: no call is refused so.
abbrev pub refusal_of : ℕ → GateError
refusal_of n =
    if nat_le 65536 n then Hook (n - 65536) else if n == 2 then NoEntry else if n == 11 then Again else if n == 12 then NoMemory
    else if n == 16 then Busy else if n == 20 then NotDir else if n == 21 then IsDir else if n == 22 then Invalid
    else if n == 24 then TooMany else if n == 28 then NoSpace else if n == 30 then ReadOnly else if n == 35 then Order else Hook (65536 + n)

-- what a call answered: 0 is Ok
abbrev pub answer_of : ℕ → Result (Unit {0}) GateError
answer_of n = if n == 0 then Ok tt else Err (refusal_of n)

-- what a call answered that writes a number where it is not refused
abbrev pub answer_with : ℕ → ℕ → Result ℕ GateError
answer_with n value = if n == 0 then Ok value else Err (refusal_of n)

-- who holds a freeze
abbrev pub holder_of : Bool → Holder
holder_of true = Kernel
holder_of false = User

-- which hook is asked
abbrev pub hook_number : Option HookKind → ℕ
hook_number None = 0
hook_number (Some Sync) = 1
hook_number (Some FreezeFs) = 2
hook_number (Some UnfreezeFs) = 3
hook_number (Some Reconfigure) = 4
hook_number (Some KeepWaiting) = 5

-- what a hook answered
abbrev pub hook_answer : ℕ → HookAnswer
hook_answer n = if n == 0 then Ok tt else Err n

-- The reply of an operation that was not refused. Any other numbers are read as a node that no file system has: no operation replies so.
abbrev pub reply_at : ℕ → ℕ → Reply
reply_at kind value =
    if kind == 0 then UnitReply else if kind == 1 then Node value
    else if kind == 2 then (if value == 0 then Ran false else if value == 1 then Ran true else Node (256 + value))
    else if kind == 3 then Tree else Node (256 + kind)

-- how it was done
abbrev pub done_at : Result (Unit {0}) GateError → Reply → Result Reply GateError
done_at (Ok _) reply = Ok reply
done_at (Err refusal) reply = Err refusal

-- How an operation stands, as an outcome tells it. Any other number is read as the failure of a hook with a code that none has.
abbrev pub progress_at : Outcome → Progress
progress_at o =
    if o.progress == 0 then Idle else if o.progress == 1 then Going else if o.progress == 2 then Waiting
    else if o.progress == 3 then Done (done_at (answer_of o.answer) (reply_at o.reply o.value)) else Done (Err (Hook (65536 + o.progress)))

-- how an operation stands that was begun, or why it was refused
abbrev pub begun_at : ℕ → Outcome → Result Progress GateError
begun_at n o = if n == 0 then Ok (progress_at o) else Err (refusal_of n)
