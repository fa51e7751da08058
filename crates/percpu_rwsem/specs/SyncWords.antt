-- The word of a level's rcu_sync: which there are, as a number, and what becomes of it.
use Rattle.std.specs.Prelude.{◌≡◌, ℕ, zero, suc, ◌+◌, ◌-◌, ◌*◌, ◌/◌, ◌%◌, ◌≤◌, Bool, true, false, not, ◌&&◌, ◌==◌, nat_lt, nat_le}
use Rattle.std.specs.Prelude.{if◌then◌else◌, Option, Some, None}
use Rattle.percpu_rwsem.specs.declared.sync_word.{GpState.{GpState, TheVariants.{Idle, Enter, Passed, Exit, Replay}}, SyncWord.{SyncWord}}

-- 1 for true
abbrev pub bit : Bool → ℕ
bit true = 1
bit false = 0

-- the kernel's number of a state
abbrev pub state_number : GpState → ℕ
state_number Idle = 0
state_number Enter = 1
state_number Passed = 2
state_number Exit = 3
state_number Replay = 4

-- the state of that number
abbrev pub state_of : ℕ → Option GpState
state_of zero = Some Idle
state_of (suc zero) = Some Enter
state_of (suc (suc zero)) = Some Passed
state_of (suc (suc (suc zero))) = Some Exit
state_of (suc (suc (suc (suc zero)))) = Some Replay
state_of (suc (suc (suc (suc (suc n))))) = None

-- nobody has entered GP_IDLE, somebody GP_ENTER and GP_PASSED, and a callback is taken only where one was queued
abbrev pub is_lawful : GpState → Bool → ℕ → Bool
is_lawful Idle taken count = not taken && (count == 0)
is_lawful Enter taken count = not taken && nat_lt 0 count
is_lawful Passed taken count = not taken && nat_lt 0 count
is_lawful Exit taken count = true
is_lawful Replay taken count = true

-- a word that there may be
pub record IsLawful (w : SyncWord) : Type 0 where
  pub fits : is_lawful w.state w.taken w.count ≡ true
  pub few : w.count ≤ 65535

-- the word as the number that it is in memory: the state, 8 where the callback is taken, and 256 for each writer
abbrev pub pack : SyncWord → ℕ
pack w = state_number w.state + 8 * bit w.taken + 256 * w.count

-- the word of a state that there is, where it is lawful
abbrev pub if_lawful : Option GpState → Bool → ℕ → Option SyncWord
if_lawful None taken count = None
if_lawful (Some state) taken count =
    if is_lawful state taken count then Some record { state = state; taken = taken; count = count } else None

-- what a number says: bits 4 to 7 and those above 23 are clear, and the word is lawful
abbrev pub unpack : ℕ → Option SyncWord
unpack n =
    if (n / 16 % 16 == 0) && nat_le (n / 256) 65535 then if_lawful (state_of (n % 8)) (n / 8 % 2 == 1) (n / 256) else None

-- a writer has entered: where it found GP_IDLE, the state is GP_ENTER
abbrev pub entered_state : GpState → GpState
entered_state Idle = Enter
entered_state Enter = Enter
entered_state Passed = Passed
entered_state Exit = Exit
entered_state Replay = Replay

-- a writer enters, where there is room for it in the count
abbrev pub on_enter : SyncWord → Option SyncWord
on_enter w = if w.count == 65535 then None else Some record { state = entered_state w.state; taken = w.taken; count = w.count + 1 }

-- a writer can leave: it has waited until the state was at least GP_PASSED
abbrev pub is_passed : GpState → Bool
is_passed Idle = false
is_passed Enter = false
is_passed Passed = true
is_passed Exit = true
is_passed Replay = true

-- the last writer has left: a callback is queued, or another one after it
abbrev pub left_state : GpState → GpState
left_state Idle = Idle
left_state Enter = Enter
left_state Passed = Exit
left_state Exit = Replay
left_state Replay = Replay

-- a writer leaves, where one has entered
abbrev pub on_exit : SyncWord → Option SyncWord
on_exit w =
    if is_passed w.state && nat_lt 0 w.count
    then Some record { state = if w.count == 1 then left_state w.state else w.state; taken = w.taken; count = w.count - 1 }
    else None

-- a callback is queued, or taken
abbrev pub is_queued : GpState → Bool
is_queued Idle = false
is_queued Enter = false
is_queued Passed = false
is_queued Exit = true
is_queued Replay = true

-- a task takes the callback that is queued
abbrev pub on_claim : SyncWord → Option SyncWord
on_claim w = if is_queued w.state && not w.taken then Some record { state = w.state; taken = true; count = w.count } else None

-- somebody waits for a grace period: the writer that found GP_IDLE, or a callback that is taken
abbrev pub is_awaited : GpState → Bool → Bool
is_awaited Idle taken = false
is_awaited Enter taken = true
is_awaited Passed taken = false
is_awaited Exit taken = taken
is_awaited Replay taken = taken

-- nobody has entered: GP_REPLAY queues the other callback, and else readers are fast again
abbrev pub emptied_state : GpState → GpState
emptied_state Idle = Idle
emptied_state Enter = Idle
emptied_state Passed = Idle
emptied_state Exit = Idle
emptied_state Replay = Exit

-- the grace period has ended: readers stay slow where a writer has entered
abbrev pub on_callback : SyncWord → Option SyncWord
on_callback w =
    if is_awaited w.state w.taken
    then Some record { state = if nat_lt 0 w.count then Passed else emptied_state w.state; taken = false; count = w.count }
    else None
