-- a node's word comes back from it
use Rattle.std.proofs.Common.{rules}
use Rattle.node_words.proofs.Packing.{node_back}
use Rattle.node_words.proofs.nodes.NodeWord.unpack.Goals as goal

pub returns-clause-back : goal.returns-clause-back
returns-clause-back c = node_back c.args.word c.of.result (search rules) c.of.ensures
