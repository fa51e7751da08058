use Rattle.schedule_lines.proofs.bytes.Blocks.{first_taken}
use Rattle.schedule_lines.proofs.lines.Input.take.Goals as goal

pub returns : goal.returns
returns c = first_taken c.args.self.now.bytes.items c.args.self.now.start c.args.self.now.end c.args.count c.requires
