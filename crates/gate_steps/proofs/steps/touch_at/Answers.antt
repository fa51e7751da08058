-- whatever atomic operation the step is, the law of the step is what the table's step asks
use Rattle.gate_steps.proofs.TableSimulation.{lifted_at}
use Rattle.gate_steps.proofs.steps.touch_at.Goals as goal

pub load-requires : goal.load-requires
load-requires g c =
    lifted_at c.args.shared.now.table_id.slots c.args.seat.now.id c.args.seat.now.me c.requires.table c.requires.config c.requires.begins
    c.requires.phase c.requires.hook c.requires.known c.index_of-i.ensures c.in-Load.is c.requires.words c.requires.inside c.requires.acts

pub store-requires : goal.store-requires
store-requires g c =
    lifted_at c.args.shared.now.table_id.slots c.args.seat.now.id c.args.seat.now.me c.requires.table c.requires.config c.requires.begins
    c.requires.phase c.requires.hook c.requires.known c.index_of-i.ensures c.in-Store.is c.requires.words c.requires.inside c.requires.acts

pub fetch_add-requires : goal.fetch_add-requires
fetch_add-requires g c =
    lifted_at c.args.shared.now.table_id.slots c.args.seat.now.id c.args.seat.now.me c.requires.table c.requires.config c.requires.begins
    c.requires.phase c.requires.hook c.requires.known c.index_of-i.ensures c.in-Add.is c.requires.words c.requires.inside c.requires.acts

pub fetch_sub-requires : goal.fetch_sub-requires
fetch_sub-requires g c =
    lifted_at c.args.shared.now.table_id.slots c.args.seat.now.id c.args.seat.now.me c.requires.table c.requires.config c.requires.begins
    c.requires.phase c.requires.hook c.requires.known c.index_of-i.ensures c.in-Sub.is c.requires.words c.requires.inside c.requires.acts

pub fetch_or-requires : goal.fetch_or-requires
fetch_or-requires g c =
    lifted_at c.args.shared.now.table_id.slots c.args.seat.now.id c.args.seat.now.me c.requires.table c.requires.config c.requires.begins
    c.requires.phase c.requires.hook c.requires.known c.index_of-i.ensures c.in-Or.is c.requires.words c.requires.inside c.requires.acts

pub fetch_and-requires : goal.fetch_and-requires
fetch_and-requires g c =
    lifted_at c.args.shared.now.table_id.slots c.args.seat.now.id c.args.seat.now.me c.requires.table c.requires.config c.requires.begins
    c.requires.phase c.requires.hook c.requires.known c.index_of-i.ensures c.in-And.is c.requires.words c.requires.inside c.requires.acts

pub swap-requires : goal.swap-requires
swap-requires g c =
    lifted_at c.args.shared.now.table_id.slots c.args.seat.now.id c.args.seat.now.me c.requires.table c.requires.config c.requires.begins
    c.requires.phase c.requires.hook c.requires.known c.index_of-i.ensures c.in-Swap.is c.requires.words c.requires.inside c.requires.acts

pub compare_exchange-requires : goal.compare_exchange-requires
compare_exchange-requires g c =
    lifted_at c.args.shared.now.table_id.slots c.args.seat.now.id c.args.seat.now.me c.requires.table c.requires.config c.requires.begins
    c.requires.phase c.requires.hook c.requires.known c.index_of-i.ensures c.in-Cas.is c.requires.words c.requires.inside c.requires.acts
