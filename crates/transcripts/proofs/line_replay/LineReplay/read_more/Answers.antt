use Rattle.std.proofs.{Common.{ℕ, refl}, lemmas.Result.{err_from_is_err_and, IfOk-weaker}}
use Rattle.schedule_lines.specs.{declared.faults.Fault.TheVariants.{ReadFailed}, bytes.Pending.{pending}}
use Rattle.transcripts.proofs.Replaying.{same, reads_on, writes_out, read_failed, write_failed, nothing_read, fails_by}
use Rattle.transcripts.proofs.line_replay.LineReplay.read_more.Goals as goal

pub returns-in_err-write_out-clause-stops : goal.returns-in_err-write_out-clause-stops
returns-in_err-write_out-clause-stops g c input held done how way =
    let p = err_from_is_err_and c.from_residual.result c.from_residual.ensures.1 in
    let failed = c.in_err-write_out.ensures in
    rw (p.1, p.2, failed.fault, failed.nothing) (write_failed way.way _ c.requires how failed.part)

pub returns-clause-goes_on : goal.returns-clause-goes_on
returns-clause-goes_on g c input held done way =
    let wrote = c.in_ok-write_out.ensures in
    let here = same (writes_out way.way _ wrote.all) _ _ refl wrote.nothing in
    IfOk-weaker c.read.result _ _ (λ (n : ℕ) h. record {
      play = way.play;
      way = reads_on here _ _ n h;
      known = way.known;
      plays = way.plays;
    }) c.read.ensures.grows

pub returns-clause-end : goal.returns-clause-end
returns-clause-end g c =
    nothing_read c.read.result _ _ _ _ _ c.read.ensures.grows c.read.ensures.end refl c.requires

pub returns-clause-stops : goal.returns-clause-stops
returns-clause-stops g c input held done how way =
    let wrote = c.in_ok-write_out.ensures in
    let here = same (writes_out way.way _ wrote.all) (pending c.args.self.now.input) _ refl wrote.nothing in
    fails_by c.read.result _ _ ReadFailed c.read.ensures.failed c.read.ensures.kept (λ kept. read_failed here _ c.requires how kept)
