-- the growth is in the task's list, which the return leaves seen
use Rattle.vfs_gates.{proofs.Rounds.own_seen, specs.Op.TheVariants.{DropWrite, WantWrite}}
use Rattle.example_message.proofs.Writing.{in_any_case, wrote_once}
use Rattle.example_message.proofs.writer.write_once.Goals as goal

pub returns-clause-wrote : goal.returns-clause-wrote
returns-clause-wrote g c = wrote_once (WantWrite 0 0) (DropWrite 0 0) c.args.file 1 c.args.task.now c.want_write.new.self c.grow-grown.new.self
    c.drop_write.new.self c.grow-grown.result c.in_ok-want_write.ensures c.grow-grown.ensures c.in_ok-drop_write.ensures

pub returns-clause-seen : goal.returns-clause-seen
returns-clause-seen g c = in_any_case c.grow-grown.result (own_seen c.in_ok-drop_write.ensures)
