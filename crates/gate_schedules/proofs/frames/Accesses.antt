-- What an action makes of what a task holds, and of its lists at run time.
use Rattle.gate_schedules.proofs.Prelude.{Action, ActionFits, Agree, Config, Holdings, List, Option, actions_after, arith, common_steps, held_after}
use Rattle.gate_schedules.proofs.Prelude.{holdings_of, length, ◌≡◌}
use Rattle.gate_world.specs.{Accesses.{accesses_after, held_in}, declared.accesses.Accesses.Accesses}

pub holdings_of_after : (a : Option Action) (actions : List Action) → holdings_of (actions_after a actions) ≡ held_after a (holdings_of actions)
holdings_of_after a actions = grind arith

pub long_after : (held : Accesses) (a : Option Action) → length (accesses_after held a).mounts ≡ length held.mounts
long_after held a = grind (arith, common_steps)

pub wide_after : (held : Accesses) (a : Option Action) → length (accesses_after held a).levels ≡ length held.levels
wide_after held a = grind (arith, common_steps)

pub deep_after : (held : Accesses) (a : Option Action) → length (accesses_after held a).files ≡ length held.files
deep_after held a = grind (arith, common_steps)

-- what an action leaves agrees, where what it finds does
pub agree_after : (c : Config) (held : Accesses) → length held.mounts ≡ 8 → length held.levels ≡ 4 → length held.files ≡ 64 → (seen : Holdings) →
    (a : Option Action) → ActionFits (held_in held) a → Agree c (held_in held) seen → Agree c (held_in (accesses_after held a)) (held_after a seen)
agree_after c held long wide deep seen a f h = grind (arith, common_steps)
