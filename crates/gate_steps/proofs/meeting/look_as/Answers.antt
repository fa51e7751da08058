use Rattle.gate_steps.proofs.Prelude.{Config, arith, subst}
use Rattle.atomic_table.specs.Table.{Allows}
use Rattle.gate_steps.{proofs.{Looking.looks, TableSimulation.holds}, specs.Meetings.looked}
use Rattle.gate_steps.proofs.meeting.look_as.Goals as goal

pub load-requires : goal.load-requires
load-requires g c =
    let key : Config = c.args.shared.now.key in
    let me = c.args.seat.now.me in (
      c.requires.table,
      (let w = c.requires.words in omega arith),
      subst (λ (d : Config). Allows (holds key) c.args.shared.now.table_id.slots c.args.seat.now.id me 0 (λ n. n) (λ n after. looked d me after))
          c.requires.config (looks key c.args.shared.now.table_id.slots c.args.seat.now.id me.0.items me.0.seen me.1 0),
    )
