-- Worked executions of refusals and their causes, by computing: in which states a cause may lie.
use Rattle.std.proofs.Common.{Err, List, Ok, [], arith, false, length, refl, true, ◌++◌, ◌∷◌, ◌≡◌}
use Rattle.{access_model.specs.declared.errors.GateError.GateError, gate_transitions.specs.{Answers.step_answer, declared.steps.Progress.Progress}}
use Rattle.gate_world.specs.{Worlds.{opening, run}, declared.{entries.Entry.{Entry, TheVariants.Begins}, operations.Op.Op}}
use Rattle.gate_world.specs.refusals.Causes.{ChangeRefused, SomeWasCounted, WantRefused, last_question, moments_of_sum, since_begun, trail_of}
use Rattle.gate_world.specs.refusals.Causes.{was_counted}
use Rattle.test_schedules.specs.Schedules.{small, steps}

-- a remount while another task holds an access, up to its last step, which refuses it as busy
abbrev remounts : List Entry
remounts = Begins 0 (Op.Want 0 1 true) ∷ steps 5 0 ++ (Begins 1 (Op.RemountSb true) ∷ steps 9 1)

remounts_ends : (step_answer small (run small opening remounts) 1 (Ok tt)).progress ≡ Progress.Done (Err GateError.Busy)
unfolding lib.Count.count_trailing_zeros
remounts_ends = refl

-- something was counted at the mount that it summed, in the states of its two loads
remounts_cause : SomeWasCounted small 1 (since_begun 1 (trail_of small remounts))
unfolding lib.Count.count_trailing_zeros
remounts_cause = (0, omega arith, (refl, (refl, tt)), refl)

-- a remount that has only begun, by a task whose change was refused as busy before it
abbrev begins : List Entry
begins = Begins 0 (Op.Want 0 1 true) ∷ steps 5 0 ++ (Begins 1 (Op.ChangeMount 0 true true) ∷ steps 8 1) ++ (Begins 1 (Op.RemountSb true) ∷ [])

-- something was counted in the states of the change's sum, which are not the remount's: it has summed nothing
begins_before : was_counted small 0 (moments_of_sum 1 (trail_of small begins)) ≡ true
begins_before = refl

begins_none : moments_of_sum 1 (since_begun 1 (trail_of small begins)) ≡ []
begins_none = refl

-- since it began there was one state
begins_since : length (since_begun 1 (trail_of small begins)) ≡ 1
begins_since = refl

-- a want that doesn't wait, up to its last step, while a change has HOLD set: it is refused again
abbrev wants : List Entry
wants = Begins 0 (Op.ChangeMount 0 true true) ∷ steps 4 0 ++ (Begins 1 (Op.Want 0 1 false) ∷ steps 2 1)

wants_ends : (step_answer small (run small opening wants) 1 (Ok tt)).progress ≡ Progress.Done (Err GateError.Again)
wants_ends = refl

-- for the task that had it set when the want asked
wants_cause : WantRefused small 1 0 (last_question 1 (since_begun 1 (trail_of small wants))) GateError.Again
wants_cause = (0, omega arith, (λ same. omega (arith, same)), refl)

-- a change that doesn't wait is, by its first step, for the task that owns `umount`
abbrev changes : List Entry
changes = Begins 0 (Op.ChangeMount 0 true true) ∷ steps 1 0 ++ (Begins 1 (Op.ChangeMount 0 false false) ∷ [])

changes_ends : (step_answer small (run small opening changes) 1 (Ok tt)).progress ≡ Progress.Done (Err GateError.Again)
changes_ends = refl

changes_cause : ChangeRefused small 1 (since_begun 1 (trail_of small changes)) 0 GateError.Again
changes_cause = (0, omega arith, (λ same. omega (arith, same)), refl)
