use Rattle.std.proofs.{Common.{sym, arith}, lemmas.List.{take_all}}
use Rattle.schedule_lines.proofs.lines.line_window.Goals as goal

pub returns-else-bytes-gt-LINE_BYTES : goal.returns-else-bytes-gt-LINE_BYTES
returns-else-bytes-gt-LINE_BYTES c = sym (take_all 257 c.args.bytes.now (omega arith))
