use Rattle.std.proofs.{Common.{◌≡◌, ℕ, refl, arith, Option, None, Result, Ok}, lemmas.Result.{err_from_is_err_and}}
use Rattle.schedule_lines.specs.declared.faults.Fault.{Fault}
use Rattle.transcripts.proofs.Replaying.{same, writes_out, write_filled, no_config, all_done}
use Rattle.transcripts.proofs.line_replay.LineReplay.do_line.Goals as goal

pub returns-in_default-clause-ends : goal.returns-in_default-clause-ends
returns-in_default-clause-ends g c input held done less way is =
    let read = c.in_ok-length.ensures in
    let none : ◌≡◌ {A = Result (Option ℕ) Fault} (Ok c.in_ok-length.field-0) (Ok None) = cc in
    let end = read.end none in
    let now = read.goes_on input held done way in
    all_done now.way end.pending end.at_end (c.in_ok-expect_config.ensures.begun now.play now.plays)

pub returns-in_err-expect_config-clause-stops : goal.returns-in_err-expect_config-clause-stops
returns-in_err-expect_config-clause-stops g c input held done less way =
    let p = err_from_is_err_and c.from_residual-in_err-expect_config.result c.from_residual-in_err-expect_config.ensures.1 in
    let read = c.in_ok-length.ensures in
    let none : ◌≡◌ {A = Result (Option ℕ) Fault} (Ok c.in_ok-length.field-0) (Ok None) = cc in
    let end = read.end none in
    let now = read.goes_on input held done way in
    let without = c.in_err-expect_config.ensures.fault now.play now.plays in
    rw (p.1, p.2, without.0) (no_config now.way end.pending end.at_end without.1)

pub returns-in_err-write_out-clause-stops : goal.returns-in_err-write_out-clause-stops
returns-in_err-write_out-clause-stops g c input held done less way =
    let p = err_from_is_err_and c.from_residual-in_err-write_out.result c.from_residual-in_err-write_out.ensures.1 in
    let now = c.in_ok-do_front.ensures.goes_on input held _ _ done less (c.in_ok-length.ensures.goes_on input held done way) in
    let failed = c.in_err-write_out.ensures in
    rw (p.1, p.2, failed.fault, failed.nothing) (write_filled now.way _ done refl (omega arith) failed.part)

pub returns-in_ok-write_out-clause-goes_on : goal.returns-in_ok-write_out-clause-goes_on
returns-in_ok-write_out-clause-goes_on g c input held done less way is =
    let now = c.in_ok-do_front.ensures.goes_on input held _ _ done less (c.in_ok-length.ensures.goes_on input held done way) in
    let wrote = c.in_ok-write_out.ensures in
    record {
      play = now.play;
      way = same (writes_out now.way _ wrote.all) _ _ refl wrote.nothing;
      known = now.known;
      plays = now.plays;
    }
