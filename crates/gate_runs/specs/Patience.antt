-- How long a freeze of a run waits for who is inside a level: how often it looks again before it gives up.
use Rattle.std.specs.Prelude.{Bool, Err, None, Ok, Option, Result, Some, false, suc, true, zero, ℕ, ◌≡◌}
use Rattle.access_model.specs.declared.{actions.Holder.TheVariants.User, errors.GateError.{GateError, TheVariants.Hook}}
use Rattle.{cpu_words.specs.Hooks.HookAnswer, freeze_levels.specs.declared.hooks.HookCall.{HookCall, TheVariants.KeepWaiting}}
use Rattle.{gate_steps.specs.call_events.Asking.PerformsAsking, gate_world.specs.declared.operations.Op.TheVariants.Freeze}
use Rattle.vfs_gates.specs.{Patience.found_somebody, TaskStates.SeatedTask}

-- What who has so much patience answers to whether to look again, and what is left of it. None has no end. Each look uses up one, and where none is left
-- it found somebody (EAGAIN).
abbrev pub LooksAgain : Option ℕ → HookAnswer → Option ℕ → Type 0
LooksAgain None answer left = (answer ≡ Ok tt) × (left ≡ None)
LooksAgain (Some zero) answer left = (answer ≡ Err found_somebody) × (left ≡ Some zero)
LooksAgain (Some (suc looks)) answer left = (answer ≡ Ok tt) × (left ≡ Some looks)

-- What the hooks of a run answer with so much patience: `keep_waiting` that, and each other one Ok.
abbrev pub with_patience : HookCall → Option ℕ → HookAnswer → Option ℕ → Type 0
with_patience (KeepWaiting level) patience answer left = LooksAgain patience answer left
with_patience call patience answer left = (answer ≡ Ok tt) × (left ≡ patience)

-- a freeze for user space, which asked these, and the patience that was left
abbrev pub FreezesWith : Option ℕ → SeatedTask → SeatedTask → Result (Unit {0}) GateError → Option ℕ → Type 0
FreezesWith patience first last outcome left =
    PerformsAsking (λ call at. with_patience call) (Freeze User) first last outcome patience left

-- a freeze that was granted
abbrev pub Froze : Option ℕ → SeatedTask → SeatedTask → Type 0
Froze patience first last = (left : Option ℕ) × FreezesWith patience first last (Ok tt) left

-- a freeze that gave up: it had no patience left, and was refused by the code that says so
abbrev pub GaveUp : Option ℕ → SeatedTask → SeatedTask → Type 0
GaveUp patience first last = FreezesWith patience first last (Err (Hook found_somebody)) (Some 0)

-- whichever it was
abbrev pub TriedToFreeze : Option ℕ → Bool → SeatedTask → SeatedTask → Type 0
TriedToFreeze patience true first last = Froze patience first last
TriedToFreeze patience false first last = GaveUp patience first last
