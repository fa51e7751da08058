-- What the hooks of a freeze with little patience answer: they ask a file system's own, and where these would wait they may give up.
use Rattle.std.specs.Prelude.{Err, Ok, ℕ, ◌≡◌, ◌⊎◌}
use Rattle.{cpu_words.specs.Hooks.HookAnswer, freeze_levels.specs.declared.hooks.HookCall.{HookCall, TheVariants.KeepWaiting}}
use Rattle.gate_steps.specs.Seating.{DealtNumbers}

-- EAGAIN, by which a freeze that waits for nobody gives up, and ETIMEDOUT, by which one gives up whose limit has passed
abbrev pub found_somebody : ℕ
found_somebody = 11

abbrev pub timed_out : ℕ
timed_out = 110

-- where the file system would wait, nobody is waited for
abbrev pub IsImpatient : HookAnswer → HookAnswer → Type 0
IsImpatient (Ok agrees) answer = answer ≡ Err found_somebody
IsImpatient (Err code) answer = answer ≡ Err code

-- where it would wait, that is so until the limit has passed
abbrev pub IsWithinLimit : HookAnswer → HookAnswer → Type 0
IsWithinLimit (Ok agrees) answer = (answer ≡ Ok tt) ⊎ (answer ≡ Err timed_out)
IsWithinLimit (Err code) answer = answer ≡ Err code

-- Each hook answers what the file system's own does, which is asked with just that; but `keep_waiting` what is decided by the answer of its own.
abbrev pub decided_by : {H : Type 0} → (HookAnswer → HookAnswer → Type 0) → (HookCall → DealtNumbers → H → HookAnswer → H → Type 0) →
    HookCall → DealtNumbers → H → HookAnswer → H → Type 0
decided_by decides answers (KeepWaiting level) at old answer new =
    (own : HookAnswer) × answers (KeepWaiting level) at old own new × decides own answer
decided_by decides answers call at old answer new = answers call at old answer new

-- the answers of a file system whose freeze waits for nobody
abbrev pub without_patience : {H : Type 0} → (HookCall → DealtNumbers → H → HookAnswer → H → Type 0) →
    HookCall → DealtNumbers → H → HookAnswer → H → Type 0
without_patience answers call at old answer new = decided_by IsImpatient answers call at old answer new

-- and of one whose freeze waits no longer than a limit
abbrev pub with_deadline : {H : Type 0} → (HookCall → DealtNumbers → H → HookAnswer → H → Type 0) →
    HookCall → DealtNumbers → H → HookAnswer → H → Type 0
with_deadline answers call at old answer new = decided_by IsWithinLimit answers call at old answer new
