-- What the trace of an operation tells.
use Rattle.std.specs.Prelude.{◌≡◌, ℕ, ◌≤◌, Option, Some, None, Result, Ok, Err, List, [], ◌∷◌, length}
use Rattle.access_model.specs.declared.{actions.Action.Action, errors.GateError.GateError, replies.{Next.{Next, TheVariants.{Go, Wait, Done}}, Reply.Reply}}
use Rattle.gate_world.specs.{Operations.claims, declared.{config.Config.Config, operations.Op.Op, views.Traced.Traced, work.Phase.Phase}}

-- what an operation with this answer and trace has added
abbrev pub actions_of : Op → Result Reply GateError → List Traced → List Action
actions_of op answer trace = (claims op).actions answer trace

-- a refusal has its cause in the trace
abbrev pub IsHonest : Config → Op → GateError → List Traced → Type 0
IsHonest c op refusal trace = (claims op).IsHonest c refusal trace

-- a reply says what the trace found
abbrev pub ReplyMatchesTrace : Op → Reply → List Traced → Type 0
ReplyMatchesTrace op reply trace = (claims op).ReplyMatchesTrace reply trace

-- an answer is justified if it is a reply that says what was found, or a refusal that has its cause
abbrev pub IsHonestAnswer : Config → Op → Result Reply GateError → List Traced → Type 0
IsHonestAnswer c op (Ok reply) trace = ReplyMatchesTrace op reply trace
IsHonestAnswer c op (Err refusal) trace = IsHonest c op refusal trace

-- the most steps of an operation, where it waits for nobody
abbrev pub most_events : Config → Op → Option ℕ
most_events c op = (claims op).most_events c

-- a trace has no more steps than that, where there is a bound
abbrev pub IsShort : Option ℕ → List Traced → Type 0
IsShort None trace = Unit {0}
IsShort (Some most) trace = length trace ≤ most

-- an operation may report that it waits after these steps
abbrev pub MayWait : Config → Op → List Traced → Type 0
MayWait c op trace = (claims op).MayWait c trace

-- what the trace of an operation says, by where the operation stands
abbrev pub Tells : Config → Op → List Traced → Next Phase → List Action → Type 0
Tells c op trace (Go phase) added = Unit {0}
Tells c op [] (Wait phase) added = ⊥
Tells c op (e ∷ earlier) (Wait phase) added = MayWait c op (e ∷ earlier)
Tells c op trace (Done answer) added = (added ≡ actions_of op answer trace) × IsHonestAnswer c op answer trace
