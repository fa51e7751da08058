-- Where a step reads no hook's answer, it is the same for any two answers, and so is what comes after it.
use Rattle.std.specs.Prelude.{None, ℕ, ◌≡◌}
use Rattle.cpu_words.specs.Hooks.{HookAnswer}
use Rattle.freeze_levels.specs.{Freezes.{freeze_after, freeze_hook, freeze_next}, Thaws.{thaw_after, thaw_hook, thaw_next}}
use Rattle.freeze_levels.specs.declared.{freezes.Freeze.Freeze, thaws.Thaw.Thaw}

-- the next step of a freeze
abbrev pub FreezeIgnoresAnswer : Freeze → Type 0
FreezeIgnoresAnswer x = freeze_hook x.step ≡ None → (a b : HookAnswer) (found : ℕ) →
    (freeze_next x x.step a ≡ freeze_next x x.step b) × (freeze_after x x.step found a ≡ freeze_after x x.step found b)

-- the next step of a thaw
abbrev pub ThawIgnoresAnswer : Thaw → Type 0
ThawIgnoresAnswer x = thaw_hook x.step ≡ None → (a b : HookAnswer) (found : ℕ) →
    (thaw_next x x.step a ≡ thaw_next x x.step b) × (thaw_after x x.step found a ≡ thaw_after x x.step found b)
