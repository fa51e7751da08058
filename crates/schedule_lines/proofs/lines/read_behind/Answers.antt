use Rattle.std.proofs.{Common.{◌++◌, ◌∙◌, ap, take}, lemmas.List.{length-take-le, take-append-le}}
use Rattle.schedule_lines.proofs.bytes.Blocks.{read_behind}
use Rattle.schedule_lines.proofs.lines.read_behind.Goals as goal

pub returns-in-Ok-clause-grows : goal.returns-in-Ok-clause-grows
returns-in-Ok-clause-grows g c =
    let block = c.args.block.now in
    let buf = c.read.new.buf in
    let end = c.args.end in
    let count = c.in-Ok.count in
    let fits = c.in-Ok.ensures.bound.0 in
    record {
      more = take count buf;
      grown = read_behind block _ end count c.requires ∙ ap (λ l. take end block ++ l) (take-append-le count buf _ fits);
      counted = length-take-le count buf fits;
      lost = c.in-Ok.ensures.bytes.0;
    }
