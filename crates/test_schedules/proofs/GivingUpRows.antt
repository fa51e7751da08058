-- Worked executions of a freeze that gives up, by computing: at level 1 and at level 2, what it leaves, and what goes on after it.
use Rattle.std.proofs.Common.{Bool, Err, List, Ok, Some, [], ap, arith, false, inl, inr, length, refl, sym, true, true≢false, ℕ, ◌&&◌, ◌++◌, ◌==◌}
use Rattle.std.proofs.{Common.{◌||◌, ◌∷◌, ◌≡◌}, lemmas.Bool.eq-eqb}
use Rattle.access_model.specs.declared.{actions.{Action.Action, Gate.Gate, Holder.Holder}, errors.GateError.GateError}
use Rattle.access_model.specs.declared.replies.{Next.TheVariants.Done as Ends, Reply.Reply}
use Rattle.{cpu_words.specs.{Hooks.HookAnswer, declared.names.WordName.WordName}, freeze_levels.specs.declared.hooks.HookKind.HookKind}
use Rattle.gate_schedules.specs.operations.Progress.{AFreezeIsKept}
use Rattle.gate_transitions.specs.{Answers.{step_answer, wanted_hook}, declared.steps.Progress.Progress}
use Rattle.gate_world.specs.{Views.holds_level, Worlds.{history, opening, run}, declared.entries.Entry.{Entry, TheVariants.{Begins, Steps}}}
use Rattle.gate_world.specs.{declared.{operations.Op.Op, views.Traced.Traced}, traces.Found.{ReadAnswer, clears_word, is_clearing}}
use Rattle.gate_world.specs.traces.Traces.{IsHonest, Tells}
use Rattle.test_schedules.specs.Schedules.{small, steps}

-- a freeze beside a reader of level 1 that stays: after its sum it asks whether to wait on, and is kept
abbrev asks : List Entry
asks = Begins 0 (Op.Start 1 0 true) ∷ steps 4 0 ++ (Begins 1 (Op.Freeze Holder.User) ∷ steps 15 1)

asks_hook : wanted_hook small (run small opening asks) 1 ≡ Some HookKind.KeepWaiting
asks_hook = refl

asks_kept : AFreezeIsKept small (run small opening asks)
asks_kept = (1, omega arith, _, refl, (1, omega arith, omega arith, (0, omega arith, refl, refl)))

-- told to, it sums again, and asks again
asks_on : wanted_hook small (run small opening (asks ++ steps 2 1)) 1 ≡ Some HookKind.KeepWaiting
asks_on = refl

-- told not to, it opens the level by that step, with no action, and with stage 1 still
opens_level : (run small opening (asks ++ (Steps 1 (Err 110) ∷ []))).words.block 1 ≡ 0
opens_level = refl

opens_stage : (run small opening (asks ++ (Steps 1 (Err 110) ∷ []))).words.stage ≡ 1
opens_stage = refl

-- it gives up, up to its last step
abbrev gives_up : List Entry
gives_up = asks ++ (Steps 1 (Err 110) ∷ steps 4 1)

-- by which it answers the hook's code
gives_up_ends : (step_answer small (run small opening gives_up) 1 (Ok tt)).progress ≡ Progress.Done (Err (GateError.Hook 110))
gives_up_ends = refl

-- it has stored stage 1 and stage 0
gives_up_history : history small opening [] (gives_up ++ steps 1 1) ≡
    (1, Action.Stage 0) ∷ ((1, Action.Stage 1) ∷ ((0, Action.Grant (Gate.Level 1)) ∷ []))
gives_up_history = refl

-- the reader is inside still
gives_up_beside : holds_level ((run small opening (gives_up ++ steps 1 1)).views 0) 1 ≡ true
gives_up_beside = refl

-- and `umount` is free
gives_up_lock : (run small opening (gives_up ++ steps 1 1)).words.umount ≡ 0
gives_up_lock = refl

-- the level's rcu_sync has a callback queued
gives_up_queued : (run small opening (gives_up ++ steps 1 1)).words.sync 1 ≡ 3
gives_up_queued = refl

-- then another start is granted, on the slow path
abbrev goes_in : List Entry
goes_in = gives_up ++ (steps 1 1 ++ (Begins 2 (Op.Start 1 0 true) ∷ steps 4 2))

goes_in_ends : (step_answer small (run small opening goes_in) 2 (Ok tt)).progress ≡ Progress.Done (Ok Reply.Unit)
goes_in_ends = refl

-- and once both have left, a second freeze freezes all, up to its last step: level 1 needs no grace period, as its readers are slow still
abbrev again : List Entry
again = goes_in ++ (steps 1 2 ++ (Begins 0 (Op.End 1 0) ∷ steps 1 0 ++ (Begins 2 (Op.End 1 0) ∷ steps 1 2 ++ (Begins 1 (Op.Freeze Holder.User) ∷ steps 36 1))))

again_ends : (step_answer small (run small opening again) 1 (Ok tt)).progress ≡ Progress.Done (Ok Reply.Unit)
again_ends = refl

again_frozen : (run small opening (again ++ steps 1 1)).words.stage ≡ 4
again_frozen = refl

-- a start that waits outside while the freeze asks is let in by the step by which that gives up, before it has `umount`
abbrev waits_outside : List Entry
waits_outside = asks ++ (Begins 2 (Op.Start 1 0 true) ∷ steps 5 2)

waits_outside_there : (step_answer small (run small opening waits_outside) 2 (Ok tt)).progress ≡ Progress.Waiting
waits_outside_there = refl

let_in : (step_answer small (run small opening (waits_outside ++ (steps 1 2 ++ (Steps 1 (Err 110) ∷ steps 4 2)))) 2 (Ok tt)).progress ≡ Progress.Done (Ok Reply.Unit)
let_in = refl

-- a freeze beside a reader of level 2 has passed level 1, and owns `umount`
abbrev asks_second : List Entry
asks_second = Begins 0 (Op.Start 2 0 true) ∷ steps 4 0 ++ (Begins 1 (Op.Freeze Holder.User) ∷ steps 27 1)

asks_second_hook : wanted_hook small (run small opening asks_second) 1 ≡ Some HookKind.KeepWaiting
asks_second_hook = refl

asks_second_closed : (run small opening asks_second).words.block 1 ≡ 1
asks_second_closed = refl

-- it gives up, up to its last step: level 2 is opened, stage 0 stored, and level 1 reopened
abbrev gives_up_second : List Entry
gives_up_second = asks_second ++ (Steps 1 (Err 110) ∷ steps 6 1)

gives_up_second_ends : (step_answer small (run small opening gives_up_second) 1 (Ok tt)).progress ≡ Progress.Done (Err (GateError.Hook 110))
gives_up_second_ends = refl

gives_up_second_history : history small opening [] (gives_up_second ++ steps 1 1) ≡
    (1, Action.Reopen 1) ∷
    ((1, Action.Stage 0) ∷ ((1, Action.Stage 2) ∷ ((1, Action.Pass 1) ∷ ((1, Action.Stage 1) ∷ ((0, Action.Grant (Gate.Level 2)) ∷ [])))))
gives_up_second_history = refl

gives_up_second_open : (run small opening (gives_up_second ++ steps 1 1)).words.block 1 ≡ 0
gives_up_second_open = refl

-- a second freeze that doesn't meet it is not busy: it loads the stage, and stores 1
freezes_anew : (run small opening (gives_up_second ++ (steps 1 1 ++ (Begins 2 (Op.Freeze Holder.Kernel) ∷ steps 4 2)))).words.stage ≡ 1
freezes_anew = refl

-- while it asked, another one was busy
busy_beside : (step_answer small (run small opening (asks ++ (Begins 2 (Op.Freeze Holder.Kernel) ∷ steps 2 2))) 2 (Ok tt)).progress ≡
    Progress.Done (Err GateError.Busy)
busy_beside = refl

-- the answer names the code that the hook gave, and no other
abbrev code_of : HookAnswer → ℕ
code_of (Ok answer) = 0
code_of (Err code) = code

abbrev reads_code : WordName → ℕ → List Traced → Bool
reads_code word code [] = false
reads_code word code (e ∷ earlier) =
    (clears_word word e.event.word && (is_clearing e.event.touch && (code_of e.hook == code))) || reads_code word code earlier

reads_it : (word : WordName) (code : ℕ) (trace : List Traced) → ReadAnswer word (Err code) trace → reads_code word code trace ≡ true
reads_it word code [] h = absurd h
reads_it word code (e ∷ earlier) (inl h) = rw (h.0, h.1, eq-eqb (code_of e.hook) code (ap code_of h.2)) refl
reads_it word code (e ∷ earlier) (inr h) =
    let later : reads_code word code earlier ≡ true = reads_it word code earlier h in grind (arith, later)

code_never : IsHonest small (Op.Freeze Holder.User) (GateError.Hook 5) ((run small opening gives_up).views 1).trace → ⊥
code_never h = true≢false (sym (reads_it (WordName.Block 1) 5 ((run small opening gives_up).views 1).trace h))

-- and the level that was passed is reopened before it
shut_never : Tells small (Op.Freeze Holder.User) ((run small opening gives_up_second).views 1).trace (Ends (Err (GateError.Hook 110)))
    (Action.Stage 0 ∷ (Action.Stage 2 ∷ (Action.Pass 1 ∷ (Action.Stage 1 ∷ [])))) → ⊥
shut_never h = omega (arith, ap (λ (l : List Action). length l) h.0)
