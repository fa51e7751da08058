-- A call at the tree that its next step refuses for what a node is: the step loads that node, and the shown state has it so.
use Rattle.gate_schedules.proofs.Prelude.{Bool, ClearMarks, Config, Create, CreateStep, Err, GateError, Grow, GrowStep, HookAnswer, List, Mark}
use Rattle.gate_schedules.proofs.Prelude.{MarkStep, MoveStep, MoveTo, Next, NodeWord, OpenFile, OpenStep, Option, Phase, Remove, RemoveStep, Reply}
use Rattle.gate_schedules.proofs.Prelude.{Result, Some, TreePhase, World, after_look, after_of, arith, clear_after, common_steps, create_after, false}
use Rattle.gate_schedules.proofs.Prelude.{found_at, grow_after, if◌then◌else◌, map_next, mark_after, move_after, nat_lt, node_after, node_shown}
use Rattle.gate_schedules.proofs.Prelude.{open_after, refl, remove_after, shown, true, unpacked, word_of, ℕ, ◌+◌, ◌==◌, ◌∷◌, ◌≡◌}
use Rattle.gate_world.specs.refusals.Causes.{CallRefused, TellsOf, tree_sees}
use Rattle.gated_tree.specs.{Calls.{IsMoveAnswer, MoveStepFits}, Phases.{at_create, at_grow, at_mark, at_move, at_open, at_remove, create_looked}}
use Rattle.node_words.specs.{Nodes.{directory_in, file_in}, Phases.clears_at}

pub some_is : {A : Type 0} (a b : A) → Some a ≡ Some b → a ≡ b
some_is a b e = cc

file_tells : (word : ℕ) (refusal : GateError) → file_in word ≡ Some (Err refusal) → TellsOf (node_shown word) refusal
file_tells word refusal e = grind (arith, common_steps)

directory_tells : (word : ℕ) (refusal : GateError) → directory_in word ≡ Some (Err refusal) → TellsOf (node_shown word) refusal
directory_tells word refusal e = grind (arith, common_steps)

-- what comes after a look at a node is a refusal only where the look was refused
look_refused : {A : Type 0} {P : Type 0} (to : P → TreePhase) (again : P) (from : A → P) (r : Option (Result A GateError))
    (refusal : GateError) → map_next Phase.Trees (map_next to (after_look again from r)) ≡ Next.Done (Err refusal) → r ≡ Some (Err refusal)
look_refused to again from r refusal e = grind arith

-- a refusal that tells what a node is
abbrev pub is_of_node : GateError → Bool
is_of_node GateError.NoEntry = true
is_of_node GateError.NotDir = true
is_of_node GateError.IsDir = true
is_of_node refusal = false

-- A call at the tree that its next step refuses so loads a node with that step, and the shown state has the node so.
abbrev pub NodeHasCause : Config → World → TreePhase → Type 0
NodeHasCause c w phase = (hook : HookAnswer) (refusal : GateError) →
    (after_of (Phase.Trees phase) (found_at w.words (Phase.Trees phase) hook) hook).0 ≡ Next.Done (Err refusal) → is_of_node refusal ≡ true →
    (n : ℕ) × (tree_sees phase ≡ Some n) × TellsOf ((shown c w).tree n) refusal

-- so it is of a refusal, whatever it tells
pub call_refused : (c : Config) (w : World) (earlier : List World) (phase : TreePhase) (refusal : GateError) →
    (is_of_node refusal ≡ true → (n : ℕ) × (tree_sees phase ≡ Some n) × TellsOf ((shown c w).tree n) refusal) →
    CallRefused c (w ∷ earlier) phase refusal
call_refused c w earlier phase refusal h = grind arith

-- an end that is no refusal for what a node is
abbrev NotOfNode : {P : Type 0} → Next P → Type 0
NotOfNode (Next.Done (Err refusal)) = is_of_node refusal ≡ false
NotOfNode other = Unit {0}

-- either of two
either : {P : Type 0} (b : Bool) (n m : Next P) → NotOfNode n → NotOfNode m → NotOfNode (if b then n else m)
either true n m h k = h
either false n m h k = k

-- it is none
not_of_node : {A : Type 0} {P : Type 0} (to : P → TreePhase) (n : Next P) → NotOfNode n → (refusal : GateError) →
    map_next Phase.Trees (map_next to n) ≡ Next.Done (Err refusal) → is_of_node refusal ≡ true → A
not_of_node to n h refusal e is = grind arith

create_looked_not : (x : Create) (node : ℕ) (found : Option NodeWord) → NotOfNode (create_looked x node found)
create_looked_not x node found = grind arith

answer_not : (answer : Result Reply GateError) → IsMoveAnswer answer → NotOfNode {P = MoveTo} (Next.Done answer)
answer_not answer h = grind arith

-- a clearing of marks is never refused
clears_not : (x : ClearMarks) (o : Option ℕ) → NotOfNode (clears_at x o)
clears_not x o = grind arith

module _ (c : Config) (w : World) where
  pub create_node : (x : Create) (s : CreateStep) → NodeHasCause c w (TreePhase.Create (at_create x s))
  create_node x CreateStep.LoadsDirectory hook refusal e is = (
    x.dir,
    refl,
    directory_tells (w.words.node x.dir) refusal
        (look_refused TreePhase.Create _ _ (directory_in (w.words.node x.dir)) refusal e),
  )
  create_node x (CreateStep.LoadsNode node) hook refusal e is =
      not_of_node TreePhase.Create _ (create_looked_not (at_create x (CreateStep.LoadsNode node)) node (unpacked (w.words.node node))) refusal e is
  create_node x (CreateStep.ChargesChild node) hook refusal e is =
      not_of_node TreePhase.Create
      (create_after (at_create x (CreateStep.ChargesChild node)) (CreateStep.ChargesChild node) (w.words.kids x.dir)).0 tt refusal e is
  create_node x (CreateStep.TakesNode node) hook refusal e is =
      not_of_node TreePhase.Create (create_after (at_create x (CreateStep.TakesNode node)) (CreateStep.TakesNode node) (w.words.node node)).0
      (either (w.words.node node == 0) _ _ tt tt) refusal e is
  create_node x CreateStep.RefundsChild hook refusal e is =
      not_of_node TreePhase.Create (create_after (at_create x CreateStep.RefundsChild) CreateStep.RefundsChild (w.words.kids x.dir)).0 refl refusal e is

  pub remove_node : (x : Remove) (s : RemoveStep) → NodeHasCause c w (TreePhase.Remove (at_remove x s))
  remove_node x RemoveStep.LoadsFile hook refusal e is = (
    x.file,
    refl,
    file_tells (w.words.node x.file) refusal
        (look_refused TreePhase.Remove _ _ (file_in (w.words.node x.file)) refusal e),
  )
  remove_node x (RemoveStep.FreesNode file) hook refusal e is =
      not_of_node TreePhase.Remove (remove_after (at_remove x (RemoveStep.FreesNode file)) (RemoveStep.FreesNode file) (w.words.node x.file)).0
      (either (w.words.node x.file == word_of file) _ _ tt refl) refusal e is
  remove_node x (RemoveStep.CountsRemoved file) hook refusal e is =
      not_of_node TreePhase.Remove
      (remove_after (at_remove x (RemoveStep.CountsRemoved file)) (RemoveStep.CountsRemoved file) w.words.removed).0 tt refusal e is
  remove_node x (RemoveStep.MarksRemoved file) hook refusal e is =
      not_of_node TreePhase.Remove (remove_after (at_remove x (RemoveStep.MarksRemoved file)) (RemoveStep.MarksRemoved file) (w.words.node x.file)).0
      (either (w.words.node x.file == word_of file) _ _ tt tt) refusal e is
  remove_node x RemoveStep.RefundsRemoved hook refusal e is =
      not_of_node TreePhase.Remove (remove_after (at_remove x RemoveStep.RefundsRemoved) RemoveStep.RefundsRemoved w.words.removed).0 refl refusal e is
  remove_node x (RemoveStep.RefundsBlocks file) hook refusal e is =
      not_of_node TreePhase.Remove (remove_after (at_remove x (RemoveStep.RefundsBlocks file)) (RemoveStep.RefundsBlocks file) w.words.used).0 tt
      refusal e is
  remove_node x (RemoveStep.RefundsChild file) hook refusal e is =
      not_of_node TreePhase.Remove
      (remove_after (at_remove x (RemoveStep.RefundsChild file)) (RemoveStep.RefundsChild file) (w.words.kids file.parent)).0 tt refusal e is

  pub grow_node : (x : Grow) (s : GrowStep) → NodeHasCause c w (TreePhase.Grow (at_grow x s))
  grow_node x GrowStep.LoadsFile hook refusal e is = (
    x.file,
    refl,
    file_tells (w.words.node x.file) refusal
        (look_refused TreePhase.Grow _ _ (file_in (w.words.node x.file)) refusal e),
  )
  grow_node x (GrowStep.LoadsUsed file) hook refusal e is =
      not_of_node TreePhase.Grow (grow_after (at_grow x (GrowStep.LoadsUsed file)) (GrowStep.LoadsUsed file) w.words.used).0
      (either (nat_lt x.capacity (w.words.used + x.blocks)) _ _ refl (either (nat_lt x.capacity (file.size + x.blocks)) _ _ refl tt))
      refusal e is
  grow_node x (GrowStep.ChargesBlocks file used) hook refusal e is =
      not_of_node TreePhase.Grow (grow_after (at_grow x (GrowStep.ChargesBlocks file used)) (GrowStep.ChargesBlocks file used) w.words.used).0
      (either (w.words.used == used) _ _ tt refl) refusal e is
  grow_node x (GrowStep.GrowsFile file) hook refusal e is =
      not_of_node TreePhase.Grow (grow_after (at_grow x (GrowStep.GrowsFile file)) (GrowStep.GrowsFile file) (w.words.node x.file)).0
      (either (w.words.node x.file == word_of file) _ _ tt tt) refusal e is
  grow_node x GrowStep.RefundsBlocks hook refusal e is =
      not_of_node TreePhase.Grow (grow_after (at_grow x GrowStep.RefundsBlocks) GrowStep.RefundsBlocks w.words.used).0 refl refusal e is

  pub move_node : (x : MoveTo) (s : MoveStep) → MoveStepFits s → NodeHasCause c w (TreePhase.MoveTo (at_move x s))
  move_node x MoveStep.LoadsFile fits hook refusal e is = (
    x.file,
    refl,
    file_tells (w.words.node x.file) refusal
        (look_refused TreePhase.MoveTo _ _ (file_in (w.words.node x.file)) refusal e),
  )
  move_node x (MoveStep.LoadsDirectory file) fits hook refusal e is = (
    x.dir,
    refl,
    directory_tells (w.words.node x.dir) refusal
        (look_refused TreePhase.MoveTo _ _ (directory_in (w.words.node x.dir)) refusal e),
  )
  move_node x (MoveStep.ChargesChild file) fits hook refusal e is =
      not_of_node TreePhase.MoveTo (move_after (at_move x (MoveStep.ChargesChild file)) (MoveStep.ChargesChild file) (w.words.kids x.dir)).0 tt refusal e is
  move_node x (MoveStep.MovesFile file) fits hook refusal e is =
      not_of_node TreePhase.MoveTo (move_after (at_move x (MoveStep.MovesFile file)) (MoveStep.MovesFile file) (w.words.node x.file)).0
      (either (w.words.node x.file == word_of file) _ _ tt tt) refusal e is
  move_node x (MoveStep.RefundsChild dir answer) fits hook refusal e is =
      not_of_node TreePhase.MoveTo (move_after (at_move x (MoveStep.RefundsChild dir answer)) (MoveStep.RefundsChild dir answer) (w.words.kids dir)).0
      (answer_not answer fits.1) refusal e is

  pub mark_node : (x : Mark) (s : MarkStep) → NodeHasCause c w (TreePhase.Mark (at_mark x s))
  mark_node x MarkStep.LoadsFile hook refusal e is = (
    x.file,
    refl,
    file_tells (w.words.node x.file) refusal
        (look_refused TreePhase.Mark _ _ (file_in (w.words.node x.file)) refusal e),
  )
  mark_node x (MarkStep.MarksFile file) hook refusal e is =
      not_of_node TreePhase.Mark (mark_after (at_mark x (MarkStep.MarksFile file)) (MarkStep.MarksFile file) (w.words.node x.file)).0
      (either (w.words.node x.file == word_of file) _ _ tt refl) refusal e is

  pub open_node : (x : OpenFile) (s : OpenStep) → NodeHasCause c w (TreePhase.OpenFile (at_open x s))
  open_node x OpenStep.LoadsFile hook refusal e is = (
    x.file,
    refl,
    file_tells (w.words.node x.file) refusal
        (look_refused TreePhase.OpenFile _ _ (file_in (w.words.node x.file)) refusal e),
  )
  open_node x (OpenStep.OpensFile file) hook refusal e is =
      not_of_node TreePhase.OpenFile (open_after (at_open x (OpenStep.OpensFile file)) (OpenStep.OpensFile file) (w.words.node x.file)).0
      (either (w.words.node x.file == word_of file) _ _ tt refl) refusal e is

  pub clear_node : (x : ClearMarks) → NodeHasCause c w (TreePhase.ClearMarks x)
  clear_node x hook refusal e is =
      not_of_node TreePhase.ClearMarks (clear_after x (w.words.node x.node)).0 (clears_not x (node_after x.node x.nodes)) refusal e is
