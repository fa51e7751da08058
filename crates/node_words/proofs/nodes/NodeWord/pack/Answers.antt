-- a lawful node comes back from its word
use Rattle.std.proofs.Common.{ap, ◌∙◌}
use Rattle.node_words.{proofs.Packing.node_returns, specs.Nodes.unpacked}
use Rattle.node_words.proofs.nodes.NodeWord.pack.Goals as goal

pub returns-clause-back : goal.returns-clause-back
returns-clause-back c = λ h. ap unpacked c.bits.ensures ∙ node_returns c.args.self h
