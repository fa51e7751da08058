use Rattle.std.proofs.Common.{None, subst, ◌⊎◌, inl, inr}
use Rattle.race_files.specs.{FirstFaults.{FailsBeforeRace, HasFaultBeforeRace, IsMemory}, Left.{Left, left_in}, declared.faults.RaceFault.RaceFault}
use Rattle.race_files.proofs.setting_up.set_up_again.Goals as goal

-- a fault that isn't that memory was refused is one of the lines
fails : (all left : Left) (fault : RaceFault) → (IsMemory fault → ⊥) → FailsBeforeRace None all left fault ⊎ IsMemory fault → HasFaultBeforeRace all
fails all left fault not (inl is) = (left, fault, is)
fails all left fault not (inr is) = absurd (not is)

pub returns-else-is_no_memory-clause-fault : goal.returns-else-is_no_memory-clause-fault
returns-else-is_no_memory-clause-fault c =
    let left = left_in c.set_up.new.lines in
    fails _ left c.in-Err.fault (c.is_no_memory.ensures c.if-is_no_memory.false)
    (subst (λ (all : Left). FailsBeforeRace None all left c.in-Err.fault ⊎ IsMemory c.in-Err.fault) c.new-lines.ensures.lines c.in-Err.ensures.fault)
