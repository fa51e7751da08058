-- What a refusal leaves, and when a call says that it waits.
use Rattle.std.specs.{List.All, Prelude.{◌≡◌, ◌⊎◌, ℕ, false, Option, Result, Ok, Err, List, [], ◌∷◌, option_map}}
use Rattle.access_model.specs.{Actions.{marked, tree_after}, declared.{actions.{Action.Action, NodeInfo.NodeInfo}, errors.GateError.GateError}}
use Rattle.access_model.specs.declared.replies.{Next.{Next, TheVariants.{Go, Wait, Done}}, Reply.Reply}
use Rattle.gate_world.specs.{traces.TraceStates.state_of_trace, traces.Traces.MayWait, Views.held_of, declared.{config.Config.Config, operations.Op.Op, views.Traced.Traced}}
use Rattle.gate_world.specs.declared.{views.View.View, work.Phase.Phase}

-- an action that leaves each node of any tree as it was, or without its dirty mark
abbrev pub LeavesTree : Action → Type 0
LeavesTree action = (counts : ℕ → ℕ) (tree : ℕ → Option NodeInfo) (n : ℕ) →
    (tree_after action counts tree n ≡ tree n) ⊎ (tree_after action counts tree n ≡ option_map (marked false) (tree n))

-- A call that has added these actions: its task holds what it held before, and the tree has of the call no change but cleared marks.
pub record IsUnchanged (added : List Action) (before after : View) : Type 0 where
  pub held : held_of after ≡ held_of before
  pub tree : All LeavesTree added

-- the same of a call that was refused
abbrev pub IsUnchangedBy : Result Reply GateError → List Action → View → View → Type 0
IsUnchangedBy (Ok reply) added before after = Unit {0}
IsUnchangedBy (Err refusal) added before after = IsUnchanged added before after

-- where it comes to a wait, it may
abbrev pub IsHonestWait : Config → Op → List Traced → Next Phase → Type 0
IsHonestWait c op trace (Go phase) = Unit {0}
IsHonestWait c op trace (Wait phase) = MayWait c op trace
IsHonestWait c op trace (Done answer) = Unit {0}

-- so it does after each step
abbrev pub WaitsHonestly : Config → ℕ → Op → List Traced → Type 0
WaitsHonestly c t op [] = Unit {0}
WaitsHonestly c t op (e ∷ earlier) =
    IsHonestWait c op (e ∷ earlier) (state_of_trace c t op (e ∷ earlier)).comes × WaitsHonestly c t op earlier
