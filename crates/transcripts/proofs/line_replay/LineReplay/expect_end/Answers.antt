use Rattle.std.proofs.{Common.{◌≡◌, ap, ◌∙◌, refl, arith, inr}, lemmas.Result.{err_from_is_err_and}}
use Rattle.schedule_lines.specs.Lines.{front_of}
use Rattle.schedule_lines.proofs.bytes.Fronts.{none_part}
use Rattle.transcripts.proofs.Replaying.{too_many, lines_end}
use Rattle.transcripts.proofs.line_replay.LineReplay.expect_end.Goals as goal

pub returns-then-not-is_empty : goal.returns-then-not-is_empty
returns-then-not-is_empty g c input held way = too_many way.way refl (c.is_empty.ensures.some c.if-not-is_empty.true)

pub read_more-requires : goal.read_more-requires
read_more-requires g c = ap front_of (c.is_empty.ensures.none c.if-not-is_empty.false) ∙ none_part

pub returns-then-branch-gt0 : goal.returns-then-branch-gt0
returns-then-branch-gt0 g c input held way =
    let read = c.in_ok-read_more.ensures in
    too_many (read.goes_on input held 1048576 way).way refl (omega (arith, read.count))

pub returns-in_err-read_more : goal.returns-in_err-read_more
returns-in_err-read_more g c input held way =
    let p = err_from_is_err_and c.from_residual.result c.from_residual.ensures.1 in
    rw (p.1, p.2) (c.in_err-read_more.ensures.stops input held 1048576 (inr (c.is_empty.ensures.none c.if-not-is_empty.false)) way)

pub returns : goal.returns
returns g c input held way =
    let read = c.in_ok-read_more.ensures in
    let none : c.in_ok-read_more.field-0 ≡ 0 = omega arith in
    let end = read.end none in
    let now = read.goes_on input held 1048576 way in
    let config = c.expect_config.ensures in
    lines_end now.way c.expect_config.result (end.0 ∙ c.is_empty.ensures.none c.if-not-is_empty.false) end.1
    (config.begun now.play now.plays) (config.fault now.play now.plays)
