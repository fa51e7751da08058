-- What the steps of a call have found, as far as it has come: so each refusal has its cause among them, and an answer its actions.
use Rattle.access_model.specs.declared.actions.Action.{Action, TheVariants.{Create as CreateAction, Grow as GrowAction, MoveTo as MoveToAction}}
use Rattle.access_model.specs.declared.{actions.Action.TheVariants.{Open as OpenAction, Remove as RemoveAction}, errors.GateError.GateError}
use Rattle.access_model.specs.declared.{errors.GateError.TheVariants.{Again, Invalid}, replies.Next.{Next, TheVariants.{Done, Go, Wait}}}
use Rattle.access_model.specs.declared.replies.Reply.{Reply, TheVariants.{Node as NodeReply, Tree as TreeReply, Unit as UnitReply}}
use Rattle.cpu_words.specs.declared.events.Event.{Event}
use Rattle.gated_tree.specs.Phases.{create_after, grow_after, mark_after, mark_done, move_after, open_after, remove_after, snapshot_after}
use Rattle.gated_tree.specs.Refusals.{CreateHonest, FileHonest, GrowHonest, MoveHonest, SnapshotHonest, finds_large, finds_other, finds_taken}
use Rattle.gated_tree.specs.{Refusals.finds_thawed, declared.changes.{Create.Create, CreateStep.{CreateStep, TheVariants.{LoadsNode, RefundsChild}}}}
use Rattle.gated_tree.specs.declared.changes.{MoveStep.{MoveStep, TheVariants.RefundsChild as RefundsOne}, MoveTo.MoveTo, Remove.Remove}
use Rattle.gated_tree.specs.declared.changes.RemoveStep.{RemoveStep, TheVariants.{CountsRemoved, FreesNode, LoadsFile as LoadsFileToRemove}}
use Rattle.gated_tree.specs.declared.changes.RemoveStep.TheVariants.{MarksRemoved, RefundsBlocks as RefundsItsBlocks, RefundsChild as RefundsItsChild}
use Rattle.gated_tree.specs.declared.{changes.RemoveStep.TheVariants.RefundsRemoved, growth.{Grow.Grow, GrowStep.{GrowStep, TheVariants.LoadsUsed}}}
use Rattle.gated_tree.specs.declared.{growth.GrowStep.TheVariants.RefundsBlocks, marks.{Mark.Mark, MarkStep.MarkStep}, opens.OpenFile.OpenFile}
use Rattle.gated_tree.specs.declared.{opens.OpenStep.OpenStep, snapshots.{Snapshot.Snapshot, SnapshotStep.{SnapshotStep, TheVariants.Releases}}}
use Rattle.std.specs.Prelude.{Bool, Err, List, None, Ok, Option, Result, Some, [], nat_lt, true, ℕ, ◌+◌, ◌<◌, ◌∷◌, ◌≡◌, ◌≤◌}

-- an action, if there is one, on top of the earlier ones
abbrev pub with_action : Option Action → List Action → List Action
with_action None added = added
with_action (Some action) added = action ∷ added

-- an action of a call that is done, and none of one that is refused
abbrev pub action_if_done : Action → Result Reply GateError → List Action
action_if_done action (Ok reply) = action ∷ []
action_if_done action (Err refusal) = []

-- what a remove and a move have added so far
abbrev pub remove_added : Remove → RemoveStep → List Action
remove_added x LoadsFileToRemove = []
remove_added x (FreesNode file) = []
remove_added x (CountsRemoved file) = []
remove_added x (MarksRemoved file) = []
remove_added x RefundsRemoved = []
remove_added x (RefundsItsBlocks file) = RemoveAction x.file ∷ []
remove_added x (RefundsItsChild file) = RemoveAction x.file ∷ []

abbrev pub move_added : MoveTo → MoveStep → List Action
move_added x (RefundsOne dir answer) = action_if_done (MoveToAction x.file x.dir) answer
move_added x step = []

-- what a create has added, by its answer: the node that it names
abbrev pub create_adds : Create → Result Reply GateError → List Action
create_adds x (Ok (NodeReply node)) = CreateAction node x.dir x.kind ∷ []
create_adds x answer = []

-- the answer of a call that is done is this one
abbrev pub IsReply : Reply → Reply → Type 0
IsReply wanted reply = reply ≡ wanted

-- a create is done with some node
abbrev pub IsNodeReply : Reply → Type 0
IsNodeReply (NodeReply node) = Unit {0}
IsNodeReply reply = ⊥

module _ (Seen : (Event → Bool) → Type 0) where
  -- a remove that is to take its count back has failed
  abbrev pub RemoveKnows : Remove → RemoveStep → Type 0
  RemoveKnows x RefundsRemoved = Seen finds_other
  RemoveKnows x step = Unit {0}

  -- a create has found the nodes below the next one taken, and one that is to subtract its child has failed
  abbrev pub CreateKnows : Create → CreateStep → Type 0
  CreateKnows x (LoadsNode node) = (n : ℕ) → 1 ≤ n → n < node → Seen (finds_taken n)
  CreateKnows x RefundsChild = Seen finds_other
  CreateKnows x step = Unit {0}

  -- a grow has found its file's size, and one that is to subtract its blocks has failed
  abbrev pub GrowKnows : Grow → GrowStep → Type 0
  GrowKnows x (LoadsUsed file) = nat_lt x.capacity (file.size + x.blocks) ≡ true → Seen (finds_large x.file x.blocks x.capacity)
  GrowKnows x RefundsBlocks = Seen finds_other
  GrowKnows x step = Unit {0}

  -- the answer that a move is to give: done, or again
  abbrev pub MoveAnswers : Result Reply GateError → Type 0
  MoveAnswers (Ok reply) = IsReply UnitReply reply
  MoveAnswers (Err Again) = Seen finds_other
  MoveAnswers (Err refusal) = ⊥

  abbrev pub MoveKnows : MoveTo → MoveStep → Type 0
  MoveKnows x (RefundsOne dir answer) = MoveAnswers answer
  MoveKnows x step = Unit {0}

  -- the answer that a snapshot is to give: a tree, or that not all is frozen
  abbrev pub SnapshotAnswers : Result Reply GateError → Type 0
  SnapshotAnswers (Ok reply) = IsReply TreeReply reply
  SnapshotAnswers (Err Invalid) = Seen finds_thawed
  SnapshotAnswers (Err refusal) = ⊥

  abbrev pub SnapshotKnows : Snapshot → SnapshotStep → Type 0
  SnapshotKnows x (Releases answer) = SnapshotAnswers answer
  SnapshotKnows x step = Unit {0}

-- What comes after a step of a call, and the actions added with it: a phase of which `Knows` holds and which has added just those; or an
-- answer with its actions, of which a reply is one of the call's, and a refusal has its cause.
abbrev pub NextIsJustified : {P : Type 0} → (P → Type 0) → (P → List Action) → (Reply → Type 0) → (GateError → Type 0) →
    (Result Reply GateError → List Action) → Next P → List Action → Type 0
NextIsJustified Knows added IsOne IsHonest adds (Go phase) actions = Knows phase × (actions ≡ added phase)
NextIsJustified Knows added IsOne IsHonest adds (Wait phase) actions = Knows phase × (actions ≡ added phase)
NextIsJustified Knows added IsOne IsHonest adds (Done (Ok reply)) actions = IsOne reply × (actions ≡ adds (Ok reply))
NextIsJustified Knows added IsOne IsHonest adds (Done (Err refusal)) actions = IsHonest refusal × (actions ≡ adds (Err refusal))

-- what was seen is seen still, and what this step shows is seen too
pub record SeesMore (Seen More : (Event → Bool) → Type 0) (e : Event) : Type 0 where
  pub earlier : (test : Event → Bool) → Seen test → More test
  pub now : (test : Event → Bool) → test e ≡ true → More test

-- some step of a call passed this test, by an account of its steps
abbrev pub Passed : ((Event → Bool) → Bool) → (Event → Bool) → Type 0
Passed seen test = seen test ≡ true

module _ (More : (Event → Bool) → Type 0) where
  -- after the step of a create that found this value: it is done with a node, which it has created, or refused, with a cause
  abbrev pub CreateEnds : Create → CreateStep → ℕ → Type 0
  CreateEnds x step found =
      NextIsJustified (λ (y : Create). CreateKnows More y y.step) (λ y. []) IsNodeReply (CreateHonest More x) (create_adds x)
      (create_after x step found).0 (with_action (create_after x step found).1 [])

  -- of a remove: its file is removed
  abbrev pub RemoveEnds : Remove → RemoveStep → ℕ → Type 0
  RemoveEnds x step found =
      NextIsJustified (λ (y : Remove). RemoveKnows More y y.step) (λ y. remove_added y y.step) (IsReply UnitReply) (FileHonest More x.file)
      (action_if_done (RemoveAction x.file)) (remove_after x step found).0 (with_action (remove_after x step found).1 (remove_added x step))

  -- of a grow: its file has grown
  abbrev pub GrowEnds : Grow → GrowStep → ℕ → Type 0
  GrowEnds x step found =
      NextIsJustified (λ (y : Grow). GrowKnows More y y.step) (λ y. []) (IsReply UnitReply) (GrowHonest More x)
      (action_if_done (GrowAction x.file x.blocks)) (grow_after x step found).0 (with_action (grow_after x step found).1 [])

  -- of a move: its file has moved
  abbrev pub MoveEnds : MoveTo → MoveStep → ℕ → Type 0
  MoveEnds x step found =
      NextIsJustified (λ (y : MoveTo). MoveKnows More y y.step) (λ y. move_added y y.step) (IsReply UnitReply) (MoveHonest More x)
      (action_if_done (MoveToAction x.file x.dir)) (move_after x step found).0 (with_action (move_after x step found).1 (move_added x step))

  -- of a page fault or a write-back: its file is dirty, or clean
  abbrev pub MarkEnds : Mark → MarkStep → ℕ → Type 0
  MarkEnds x step found =
      NextIsJustified (λ (y : Mark). Unit {0}) (λ y. []) (IsReply UnitReply) (FileHonest More x.file) (action_if_done (mark_done x.dirty x.file))
      (mark_after x step found).0 (with_action (mark_after x step found).1 [])

  -- of an open: its file is open
  abbrev pub OpenEnds : OpenFile → OpenStep → ℕ → Type 0
  OpenEnds x step found =
      NextIsJustified (λ (y : OpenFile). Unit {0}) (λ y. []) (IsReply UnitReply) (FileHonest More x.file) (action_if_done (OpenAction x.file))
      (open_after x step found).0 (with_action (open_after x step found).1 [])

  -- of a snapshot: it has added nothing
  abbrev pub SnapshotEnds : Snapshot → SnapshotStep → ℕ → Type 0
  SnapshotEnds x step found =
      NextIsJustified (λ (y : Snapshot). SnapshotKnows More y y.step) (λ y. []) (IsReply TreeReply) (SnapshotHonest More x) (λ answer. [])
      (snapshot_after x step found).0 (with_action (snapshot_after x step found).1 [])
