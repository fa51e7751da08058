use Rattle.std.proofs.Common.{◌≡◌, None, arith}
use Rattle.transcripts.proofs.Replaying.{opens, same}
use Rattle.transcripts.proofs.line_replay.LineReplay.do_lines.Goals as goal

pub loop-done-init : goal.loop-done-init
loop-done-init g c known =
    let new = c.requires known in
    record {
      play = None;
      way = same (opens (g.R.Read.remaining c.args.reader.now) (g.W.Write.contents c.args.writer.now)) _ _ new.pending new.printed;
      known = known;
      plays = new.plays;
    }

pub returns-in-Ok-false-clause-replayed : goal.returns-in-Ok-false-clause-replayed
returns-in-Ok-false-clause-replayed g c known =
    c.finish.ensures.replayed _ _ _ known
    (c.do_line.ensures.ends _ _ c.loop-done.done c.loop-done-test.true (c.loop-done.invariant known) (cc))

pub returns-clause-replayed : goal.returns-clause-replayed
returns-clause-replayed g c known =
    let all : c.loop-done.done ≡ 1048576 = omega arith in
    c.finish-2.ensures.replayed _ _ _ known (c.expect_end-outcome.ensures _ _ (rw all at (c.loop-done.invariant known)))
