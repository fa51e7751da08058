-- Worked executions, by computing, on two processors and one mount.
use Rattle.access_model.specs.declared.{actions.{Action.Action, Gate.Gate, Holder.Holder}, errors.GateError.GateError, replies.Reply.Reply}
use Rattle.gate_transitions.specs.{Answers.step_answer, declared.steps.Progress.Progress}
use Rattle.gate_world.specs.{Worlds.{history, opening, run}, declared.{entries.Entry.{Entry, TheVariants.{Begins, Steps}}, operations.Op.Op}}
use Rattle.std.proofs.Common.{Err, List, Ok, [], false, refl, true, ◌++◌, ◌∷◌, ◌≡◌}
use Rattle.test_schedules.specs.Schedules.{moves, small, steps}

-- a change of an idle mount to read-only
abbrev closes : List Entry
closes = Begins 0 (Op.ChangeMount 0 true true) ∷ steps 9 0

-- it adds the mount's new state
closes_history : history small opening [] closes ≡ (0, Action.MountRo 0) ∷ []
closes_history = refl

-- and the mount's flags say so
closes_flags : (run small opening closes).words.flags 0 ≡ 1
closes_flags = refl

-- an access that is granted on one processor and given back on the other adds a grant and a return
moves_history : history small opening [] moves ≡ (0, Action.Return (Gate.Mount 0)) ∷ ((0, Action.Grant (Gate.Mount 0)) ∷ [])
moves_history = refl

-- the one word has 1
moves_taken : (run small opening moves).words.count 0 0 ≡ 1
moves_taken = refl

-- a change while another task holds an access, up to its last step: that ends it, refused, and it has added nothing
abbrev contends : List Entry
contends = Begins 0 (Op.Want 0 1 true) ∷ steps 5 0 ++ (Begins 1 (Op.ChangeMount 0 true true) ∷ steps 7 1)

-- its last step says Busy
contends_ends : (step_answer small (run small opening contends) 1 (Ok tt)).progress ≡ Progress.Done (Err GateError.Busy)
contends_ends = refl

-- only the grant was added
contends_history : history small opening [] (contends ++ steps 1 1) ≡ (0, Action.Grant (Gate.Mount 0)) ∷ []
contends_history = refl

-- and the mount's flags are as they were
contends_flags : (run small opening (contends ++ steps 1 1)).words.flags 0 ≡ 0
contends_flags = refl

-- write access: four steps at level 1, and five at the mount; and its return on the other processor
abbrev writes : List Entry
writes = Begins 1 (Op.WantWrite 0 1) ∷ steps 9 1 ++ (Begins 1 (Op.DropWrite 0 0) ∷ steps 2 1)

-- it goes inside the level first, and leaves it last
writes_history : history small opening [] writes ≡
    (1, Action.Return (Gate.Level 1)) ∷ ((1, Action.Return (Gate.Mount 0)) ∷ ((1, Action.Grant (Gate.Mount 0)) ∷ ((1, Action.Grant (Gate.Level 1)) ∷ [])))
writes_history = refl

-- its one section has ended
writes_section : (run small opening writes).words.section 1 ≡ 2
writes_section = refl

-- the level's count on the other processor has wrapped below 0
writes_given_back : (run small opening writes).words.level 1 0 ≡ 18446744073709551615
writes_given_back = refl

-- write access at a mount that is read-only
abbrev refuses : List Entry
refuses = closes ++ (Begins 1 (Op.WantWrite 0 1) ∷ steps 9 1)

-- the last of its ten steps refuses it
refuses_ends : (step_answer small (run small opening refuses) 1 (Ok tt)).progress ≡ Progress.Done (Err GateError.ReadOnly)
refuses_ends = refl

-- and gives the level back
refuses_history : history small opening [] (refuses ++ steps 1 1) ≡
    (1, Action.Return (Gate.Level 1)) ∷ ((1, Action.Grant (Gate.Level 1)) ∷ ((0, Action.MountRo 0) ∷ []))
refuses_history = refl

-- inside level 2, neither a start at level 1 nor a change can begin
abbrev orders : List Entry
orders = Begins 0 (Op.Start 2 0 true) ∷ steps 4 0 ++ (Begins 0 (Op.Start 1 0 true) ∷ (Begins 0 (Op.ChangeMount 0 true true) ∷ []))

-- so the next step finds nothing under way
orders_idle : (step_answer small (run small opening orders) 0 (Ok tt)).progress ≡ Progress.Idle
orders_idle = refl

-- a callback of a level that has none queued
abbrev calls : List Entry
calls = Begins 2 (Op.Callback 3) ∷ []

-- says so, by one step
calls_none : (step_answer small (run small opening calls) 2 (Ok tt)).progress ≡ Progress.Done (Ok (Reply.Ran false))
calls_none = refl

-- a freeze: five steps under the lock, ten at each level, two and two between them, and three at the end
abbrev pub freezes : List Entry
freezes = Begins 0 (Op.Freeze Holder.User) ∷ steps 42 0

-- it closes the levels one after the other
freezes_history : history small opening [] freezes ≡
    (0, Action.Hold Holder.User) ∷
    ((0, Action.Stage 4) ∷
    ((0, Action.Pass 3) ∷ ((0, Action.Stage 3) ∷ ((0, Action.Pass 2) ∷ ((0, Action.Stage 2) ∷ ((0, Action.Pass 1) ∷ ((0, Action.Stage 1) ∷ [])))))))
freezes_history = refl

-- which are closed at its end, with one writer in each that is past its grace period
freezes_closed : (run small opening freezes).words.block 2 ≡ 1
freezes_closed = refl

freezes_passed : (run small opening freezes).words.sync 3 ≡ 258
freezes_passed = refl

-- a second freeze is busy
freezes_twice : (step_answer small (run small opening (freezes ++ (Begins 1 (Op.Freeze Holder.User) ∷ steps 3 1))) 1 (Ok tt)).progress ≡ Progress.Done
    (Err GateError.Busy)
freezes_twice = refl

-- and a start that doesn't wait is refused, by the last of its six steps
freezes_out : (step_answer small (run small opening (freezes ++ (Begins 1 (Op.Start 1 0 false) ∷ steps 5 1))) 1 (Ok tt)).progress ≡ Progress.Done
    (Err GateError.Again)
freezes_out = refl

-- another task's thaw opens them again, the highest first
abbrev thaws : List Entry
thaws = freezes ++ (Begins 1 (Op.Thaw Holder.User) ∷ steps 16 1)

thaws_history : history small opening [] thaws ≡
    (1, Action.Reopen 1) ∷
    ((1, Action.Reopen 2) ∷ ((1, Action.Reopen 3) ∷ ((1, Action.Stage 0) ∷ ((1, Action.Leave Holder.User) ∷ history small opening [] freezes))))
thaws_history = refl

-- each with a callback queued
thaws_queued : (run small opening thaws).words.sync 1 ≡ 3
thaws_queued = refl

-- the kernel freezes, and user space joins it, by five steps: the lock, two loads, the store and the release
abbrev kernel_freezes : List Entry
kernel_freezes = Begins 0 (Op.Freeze Holder.Kernel) ∷ steps 42 0

abbrev joins : List Entry
joins = kernel_freezes ++ (Begins 1 (Op.Freeze Holder.User) ∷ steps 5 1)

joins_history : history small opening [] joins ≡ (1, Action.Hold Holder.User) ∷ history small opening [] kernel_freezes
joins_history = refl

-- both hold a freeze then
joins_both : (run small opening joins).words.holders ≡ 3
joins_both = refl

-- and a second one for one of them is busy
joins_twice : (step_answer small (run small opening (joins ++ (Begins 1 (Op.Freeze Holder.User) ∷ steps 3 1))) 1 (Ok tt)).progress ≡ Progress.Done
    (Err GateError.Busy)
joins_twice = refl

-- the kernel's is given back, and all stays frozen
abbrev leaves : List Entry
leaves = joins ++ (Begins 0 (Op.Thaw Holder.Kernel) ∷ steps 5 0)

leaves_history : history small opening [] leaves ≡ (0, Action.Leave Holder.Kernel) ∷ history small opening [] joins
leaves_history = refl

leaves_one : (run small opening leaves).words.holders ≡ 2
leaves_one = refl

leaves_frozen : (run small opening leaves).words.stage ≡ 4
leaves_frozen = refl

-- it can't be given back twice
leaves_twice : (step_answer small (run small opening (leaves ++ (Begins 0 (Op.Thaw Holder.Kernel) ∷ steps 3 0))) 0 (Ok tt)).progress ≡ Progress.Done
    (Err GateError.Invalid)
leaves_twice = refl

-- a third task gives user space's back: nobody holds one then, and all is thawed
abbrev leaves_all : List Entry
leaves_all = leaves ++ (Begins 2 (Op.Thaw Holder.User) ∷ steps 16 2)

leaves_nobody : (run small opening leaves_all).words.holders ≡ 0
leaves_nobody = refl

leaves_queued : (run small opening leaves_all).words.sync 3 ≡ 3
leaves_queued = refl

-- a thaw of what isn't frozen is invalid
thaws_nothing : (step_answer small (run small opening (Begins 1 (Op.Thaw Holder.User) ∷ steps 2 1)) 1 (Ok tt)).progress ≡ Progress.Done (Err GateError.Invalid)
thaws_nothing = refl

-- a freeze whose file system can't be synced opens the two levels that it had closed
abbrev fails : List Entry
fails = Begins 0 (Op.Freeze Holder.User) ∷ steps 28 0 ++ (Steps 0 (Err 5) ∷ steps 7 0)

fails_history : history small opening [] fails ≡
    (0, Action.Reopen 1) ∷
    ((0, Action.Reopen 2) ∷ ((0, Action.Stage 0) ∷ ((0, Action.Pass 2) ∷ ((0, Action.Stage 2) ∷ ((0, Action.Pass 1) ∷ ((0, Action.Stage 1) ∷ []))))))
fails_history = refl

-- and was refused with the file system's code
fails_ends : (step_answer small (run small opening (Begins 0 (Op.Freeze Holder.User) ∷ steps 28 0 ++ (Steps 0 (Err 5) ∷ steps 6 0))) 0 (Ok tt)).progress ≡
    Progress.Done (Err (GateError.Hook 5))
fails_ends = refl
