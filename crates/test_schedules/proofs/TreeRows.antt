-- Worked executions of calls at the tree, by computing, on two processors and one mount.
use Rattle.std.proofs.Common.{Err, List, Ok, Some, [], refl, true, ◌*◌, ◌++◌, ◌+◌, ◌∷◌, ◌≡◌}
use Rattle.access_model.specs.declared.{actions.{Action.Action, Gate.Gate, Holder.Holder, Kind.Kind}, errors.GateError.GateError, replies.Reply.Reply}
use Rattle.gate_transitions.specs.{Answers.step_answer, declared.steps.Progress.Progress}
use Rattle.gate_world.specs.{Worlds.{history, opening, run}, declared.{entries.Entry.{Entry, TheVariants.Begins}, operations.Op.Op}}
use Rattle.gate_world.specs.traces.Snapshots.{values_noted}
use Rattle.test_schedules.specs.Schedules.{small, steps}

-- a create, with write access: it loads the directory and the one other node, charges the child and takes the node
abbrev creates : List Entry
creates = Begins 0 (Op.WantWrite 0 0) ∷ steps 9 0 ++ (Begins 0 (Op.Create 0 Kind.File) ∷ steps 3 0)

-- its last step answers the node's number
creates_ends : (step_answer small (run small opening creates) 0 (Ok tt)).progress ≡ Progress.Done (Ok (Reply.Node 1))
creates_ends = refl

-- it adds the one action
creates_history : history small opening [] (creates ++ steps 1 0) ≡
    (0, Action.Create 1 0 Kind.File) ∷ ((0, Action.Grant (Gate.Mount 0)) ∷ ((0, Action.Grant (Gate.Level 1)) ∷ []))
creates_history = refl

-- the node is a file, clean and empty, in the root, which has a child
creates_node : (run small opening (creates ++ steps 1 0)).words.node 1 ≡ 1
creates_node = refl

creates_child : (run small opening (creates ++ steps 1 0)).words.kids 0 ≡ 1
creates_child = refl

-- a second create finds no free node
abbrev twice : List Entry
twice = creates ++ steps 1 0 ++ (Begins 0 (Op.Create 0 Kind.File) ∷ steps 1 0)

creates_twice : (step_answer small (run small opening twice) 0 (Ok tt)).progress ≡ Progress.Done (Err GateError.NoSpace)
creates_twice = refl

-- nor can one be made in a file
abbrev in_file : List Entry
in_file = creates ++ steps 1 0 ++ (Begins 0 (Op.Create 1 Kind.File) ∷ [])

creates_in_file : (step_answer small (run small opening in_file) 0 (Ok tt)).progress ≡ Progress.Done (Err GateError.NotDir)
creates_in_file = refl

-- a grow by 3 of 8 blocks
abbrev grows : List Entry
grows = creates ++ steps 1 0 ++ (Begins 0 (Op.Grow 1 3) ∷ steps 4 0)

-- charges them, and makes the file dirty
grows_charged : (run small opening grows).words.used ≡ 3
grows_charged = refl

grows_node : (run small opening grows).words.node 1 ≡ 5 + 4294967296 * 3
grows_node = refl

grows_history : history small opening [] grows ≡ (0, Action.Grow 1 3) ∷ history small opening [] (creates ++ steps 1 0)
grows_history = refl

-- one by 6 more has no room
grows_out : (step_answer small (run small opening (grows ++ (Begins 0 (Op.Grow 1 6) ∷ steps 1 0))) 0 (Ok tt)).progress ≡ Progress.Done (Err GateError.NoSpace)
grows_out = refl

-- a freeze once the writer has left: it cleans the file on its way
abbrev pub freezes : List Entry
freezes = grows ++ (Begins 0 (Op.DropWrite 0 0) ∷ steps 2 0) ++ (Begins 1 (Op.Freeze Holder.User) ∷ steps 43 1)

freezes_history : history small opening [] freezes ≡
    (1, Action.Hold Holder.User) ∷
    ((1, Action.Stage 4) ∷
    ((1, Action.Pass 3) ∷
    ((1, Action.Stage 3) ∷ ((1, Action.Clean 1) ∷ ((1, Action.Pass 2) ∷ ((1, Action.Stage 2) ∷ ((1, Action.Pass 1) ∷ ((1, Action.Stage 1) ∷
    ((0, Action.Return (Gate.Level 1)) ∷ ((0, Action.Return (Gate.Mount 0)) ∷ history small opening [] grows))))))))))
freezes_history = refl

-- a snapshot then, up to the load of the last word
abbrev pub snapshots : List Entry
snapshots = freezes ++ (Begins 2 (Op.Snapshot true) ∷ steps 7 2)

-- is the tree, of which this task has done nothing
snapshots_taken : ((run small opening snapshots).views 2).snapshot ≡
    Some (record {
      loaded = record { used = 3; nodes = 2 ∷ (1 + 4294967296 * 3) ∷ []; kids = 1 ∷ 0 ∷ [] };
      done = 0;
      others = [];
    })
snapshots_taken = refl

-- it has loaded five words then, of which this is the file's, and a thaw that comes before its release waits
snapshots_loaded : values_noted 2 ((run small opening snapshots).views 2).trace 2 ≡ 1 + 4294967296 * 3
snapshots_loaded = refl

snapshots_stands : (step_answer small (run small opening (snapshots ++ (Begins 1 (Op.Thaw Holder.User) ∷ []))) 1 (Ok tt)).progress ≡ Progress.Waiting
snapshots_stands = refl

-- and its last step says so
snapshots_end : (step_answer small (run small opening snapshots) 2 (Ok tt)).progress ≡ Progress.Done (Ok Reply.Tree)
snapshots_end = refl

-- one of a tree that isn't frozen is invalid
snapshots_thawed : (step_answer small (run small opening (Begins 2 (Op.Snapshot true) ∷ steps 2 2)) 2 (Ok tt)).progress ≡ Progress.Done (Err GateError.Invalid)
snapshots_thawed = refl
