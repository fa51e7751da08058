use Rattle.std.proofs.{Common.{◌≡◌, ap, ◌∙◌, sym, inl, arith}, lemmas.Result.{err_from_is_err_and}}
use Rattle.schedule_lines.specs.{declared.lines.Front.TheVariants.{Part}, Lines.{front_of}, bytes.Pending.{pending}}
use Rattle.schedule_lines.proofs.bytes.Fronts.{part_short}
use Rattle.transcripts.proofs.Replaying.{too_long, cut_off}
use Rattle.transcripts.proofs.line_replay.LineReplay.read_line.Goals as goal

pub returns-in-TooLong-clause-stops : goal.returns-in-TooLong-clause-stops
returns-in-TooLong-clause-stops g c input held done less way =
    let now = c.reads.invariant input held done way in
    too_long now.way less (sym c.in-TooLong.ensures.front)

pub returns-else-is_empty-clause-stops : goal.returns-else-is_empty-clause-stops
returns-else-is_empty-clause-stops g c input held done less way =
    let read = c.in_ok-read_more.ensures in
    let now = read.goes_on input held done (c.reads.invariant input held done way) in
    let end = read.end c.if-branch-eq0.true in
    cut_off now.way less (ap front_of end.0 ∙ sym c.in-Part.ensures.front) (c.is_empty.ensures.some c.if-is_empty.false) end.1

pub returns-in_err-read_more-clause-stops : goal.returns-in_err-read_more-clause-stops
returns-in_err-read_more-clause-stops g c input held done less way =
    let p = err_from_is_err_and c.from_residual.result c.from_residual.ensures.1 in
    rw (p.1, p.2) (c.in_err-read_more.ensures.stops input held done (inl less) (c.reads.invariant input held done way))

pub reads-smaller : goal.reads-smaller
reads-smaller g c =
    let front : front_of (pending c.reads.self.input) ≡ Part = sym c.in-Part.ensures.front in
    omega (arith, part_short (pending c.reads.self.input) front, c.in_ok-read_more.ensures.count)
