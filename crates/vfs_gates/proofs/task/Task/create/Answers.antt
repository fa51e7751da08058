-- it tells of the reply the node that it took
use Rattle.vfs_gates.proofs.Prelude.{Config, Err, GateError, IsHonestAnswer, List, None, Ok, Option, Replies, Reply, Result, SeatedTask, Some, Traced}
use Rattle.vfs_gates.proofs.Prelude.{refl, refusal_at, subst, sym, the_reply, told_as, ℕ, ◌≡◌}
use Rattle.std.proofs.Common.{IfOk}
use Rattle.{access_model.specs.declared.actions.Kind.Kind, gate_steps.{proofs.call_events.Running.was_told, specs.call_events.Runs.node_of}}
use Rattle.gate_world.specs.{Operations.IsNodeReply, declared.operations.Op.TheVariants.Create}
use Rattle.vfs_gates.proofs.task.Task.create.Goals as goal

-- an answer that is justified tells of a node
node_or_not : (dir : ℕ) (kind : Kind) (c : Config) (trace : List Traced) (answer : Result Reply GateError) →
    IsHonestAnswer c (Create dir kind) answer trace → IfOk (told_as the_reply answer) IsNodeReply
node_or_not dir kind c trace (Ok reply) honest = honest
node_or_not dir kind c trace (Err refusal) honest = tt

replied_node : (dir : ℕ) (kind : Kind) (old left : SeatedTask) (outcome : Result Reply GateError) →
    Replies the_reply (Create dir kind) old left outcome → (o : Option GateError) → refusal_at (Create dir kind) old ≡ o → IfOk outcome IsNodeReply
replied_node dir kind old left outcome call (Some refusal) at = subst (λ x. IfOk x IsNodeReply) (sym (call.refused refusal at).0) tt
replied_node dir kind old left outcome call None at =
    let done = call.done at in
    subst (λ x. IfOk x IsNodeReply) (sym done.1) (node_or_not dir kind old.config done.2.trace done.0 done.2.honest)

pub node-requires : goal.node-requires
node-requires c = replied_node c.args.dir c.args.kind _ _ c.call.result c.call.ensures (refusal_at (Create c.args.dir c.args.kind) c.args.self.now) refl

pub returns : goal.returns
returns c = was_told node_of (Create c.args.dir c.args.kind) _ _ c.call.result c.node.result c.call.ensures c.node.ensures
