-- Worked executions, by computing: who has to wait beside a task that is lost where it stands, and what a start can do that doesn't sleep.
use Rattle.progress_laws.proofs.Prelude.{Begins, Config, Entry, Err, List, None, Ok, Op, Steps, [], false, refl, run, suc, true, turns_left, zero, ℕ}
use Rattle.progress_laws.proofs.Prelude.{◌==◌, ◌∷◌, ◌≡◌}
use Rattle.std.proofs.Common.{replicate, ◌++◌}
use Rattle.{access_model.specs.declared.actions.Holder.Holder, gate_world.specs.Worlds.opening}
use Rattle.progress_laws.{proofs.rounds.Settling.waits_at, specs.{Alone.turns_alone, GivingUp.turns_to_give_up}}

-- three tasks, two processors, one mount
abbrev limits : Config
limits = record { tasks = 3; processors = 2; mounts = 1; nodes = 2; capacity = 8 }

-- so many steps of a task
abbrev steps : ℕ → ℕ → List Entry
steps n t = replicate n (Steps t (Ok tt))

-- a change is lost with HOLD set and `umount` taken
abbrev lost_change : List Entry
lost_change = Begins 0 (Op.ChangeMount 0 true true) ∷ steps 4 0

-- it needn't wait itself
change_goes : waits_at (run limits opening lost_change) 0 ≡ false
change_goes = refl

-- a want that has counted itself has to
want_waits_there : waits_at (run limits opening (lost_change ++ (Begins 1 (Op.Want 0 0 true) ∷ steps 1 1))) 1 ≡ true
want_waits_there = refl

-- a try form doesn't
try_goes : waits_at (run limits opening (lost_change ++ (Begins 1 (Op.Want 0 0 false) ∷ steps 1 1))) 1 ≡ false
try_goes = refl

-- a freeze has to wait for the lock
freeze_waits_there : waits_at (run limits opening (lost_change ++ (Begins 1 (Op.Freeze Holder.User) ∷ []))) 1 ≡ true
freeze_waits_there = refl

-- a start is lost inside its section: the freeze of its level waits for it, once it has looked twice
abbrev lost_section : List Entry
lost_section = Begins 0 (Op.Start 1 0 true) ∷ steps 1 0 ++ (Begins 1 (Op.Freeze Holder.User) ∷ steps 7 1)

section_looks : waits_at (run limits opening lost_section) 1 ≡ false
section_looks = refl

section_waits_there : waits_at (run limits opening (lost_section ++ steps 1 1)) 1 ≡ true
section_waits_there = refl

-- a freeze at its sum of level 1, whose first word it has read, and which is 0
abbrev half_summed : List Entry
half_summed = Begins 1 (Op.Freeze Holder.User) ∷ steps 14 1

-- a start is lost that counts itself on that word only then: the sum that runs passes the level all the same
abbrev lost_late : List Entry
lost_late = half_summed ++ (Begins 0 (Op.Start 1 0 true) ∷ steps 3 0)

late_goes : waits_at (run limits opening lost_late) 1 ≡ false
late_goes = refl

-- one that counts itself on the word to come keeps it
abbrev lost_soon : List Entry
lost_soon = half_summed ++ (Begins 0 (Op.Start 1 1 true) ∷ steps 3 0)

soon_waits : waits_at (run limits opening lost_soon) 1 ≡ true
soon_waits = refl

-- A start that doesn't sleep starves a freeze for ever: in each of these rounds both take a step, and after as many as one likes the freeze is
-- where it was. So the premise on starts can't be dropped.
abbrev starving : ℕ → List Entry
starving zero = []
starving (suc n) = steps 1 0 ++ (steps 1 1 ++ (steps 5 0 ++ (steps 1 1 ++ starving n)))

abbrev starves : ℕ → List Entry
starves n = Begins 1 (Op.Freeze Holder.User) ∷ steps 13 1 ++ (Begins 0 (Op.Start 1 0 true) ∷ steps 3 0 ++ (steps 1 1 ++ starving n))

starved : ((run limits opening (starves 10)).views 1).phase ≡ ((run limits opening (starves 0)).views 1).phase
starved = refl

start_starved : ((run limits opening (starves 10)).views 0).phase ≡ ((run limits opening (starves 0)).views 0).phase
start_starved = refl

start_waits_on : waits_at (run limits opening (starves 10)) 0 ≡ false
start_waits_on = refl

-- a want behind a change: as many turns as they have steps left, and one
behind_change : turns_left limits (run limits opening (lost_change ++ (Begins 1 (Op.Want 0 0 true) ∷ steps 1 1))) ≡ 12
behind_change = refl

-- a freeze and a start that begin together
beside_start : turns_left limits (run limits opening (Begins 0 (Op.Start 1 0 true) ∷ (Begins 1 (Op.Freeze Holder.User) ∷ []))) ≡ 491
beside_start = refl

-- and the freeze alone
alone : turns_alone limits (run limits opening (Begins 0 (Op.Start 1 0 true) ∷ (Begins 1 (Op.Freeze Holder.User) ∷ []))) 1 ≡ 160
alone = refl

-- A freeze beside an idle task inside level 1 has summed its counts, and found it: asked whether to wait on, it has to wait.
abbrev beside_idle : List Entry
beside_idle = Begins 0 (Op.Start 1 0 true) ∷ steps 4 0 ++ (Begins 1 (Op.Freeze Holder.User) ∷ steps 15 1)

asked_waits : waits_at (run limits opening beside_idle) 1 ≡ true
asked_waits = refl

-- told to, it does so through its next sum
asks_again : waits_at (run limits opening (beside_idle ++ steps 2 1)) 1 ≡ true
asks_again = refl

-- told not to, it goes on, and has its reply after six steps more
gives_up_goes : waits_at (run limits opening (beside_idle ++ (Steps 1 (Err 110) ∷ []))) 1 ≡ false
gives_up_goes = refl

gives_up_replies : ((run limits opening (beside_idle ++ (Steps 1 (Err 110) ∷ steps 5 1))).views 1).phase ≡ None
gives_up_replies = refl

-- it has to wait for `umount`, which it takes to store stage 0, where a change is lost that owns it
abbrev lost_owner : List Entry
lost_owner = beside_idle ++ (Begins 2 (Op.ChangeMount 0 true true) ∷ steps 1 2 ++ (Steps 1 (Err 110) ∷ steps 2 1))

undoes_waits : waits_at (run limits opening lost_owner) 1 ≡ true
undoes_waits = refl

-- while a start that waited outside goes in
opened : ((run limits opening lost_owner).words.block 1 == 0) ≡ true
opened = refl

-- where it gives up, so many turns are left from its wait: three for each of the 128 that are left anyhow, as its sum has two loads
turns_of_one : turns_left limits (run limits opening beside_idle) ≡ 128
turns_of_one = refl

turns_to_its_reply : turns_to_give_up limits (run limits opening beside_idle) ≡ 384
turns_to_its_reply = refl
