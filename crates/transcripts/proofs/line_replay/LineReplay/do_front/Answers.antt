use Rattle.std.proofs.{Common.{◌≡◌, ◌∙◌, ℕ, sym, ap, List, Option, Result, take}, lemmas.Result.{err_from_is_err_and}}
use Rattle.schedule_text.specs.{declared.commands.Line.{Line}, Parsing.{parsed}}
use Rattle.schedule_lines.specs.{declared.faults.Fault.{Fault}, bytes.Pending.{pending}}
use Rattle.transcripts.specs.Transcript.{ReplayState, tasks_of, line_effect}
use Rattle.transcripts.proofs.Replaying.{bad_line, failed_line, line_done}
use Rattle.transcripts.proofs.line_replay.LineReplay.do_front.Goals as goal

-- what the line asks for, by what is pending and by the play
asked : (length : ℕ) (bytes first : List ℕ) (tasks : Option ℕ) (play : Option ReplayState) (line : Result Line Fault) →
    first ≡ take length bytes → tasks ≡ tasks_of play → line ≡ parsed first tasks → parsed (take length bytes) (tasks_of play) ≡ line
asked length bytes first tasks play line a b e = ap (λ l. parsed l (tasks_of play)) (sym a) ∙ ap (parsed first) (sym b) ∙ sym e

pub returns-in_err-line-clause-stops : goal.returns-in_err-line-clause-stops
returns-in_err-line-clause-stops g c input held left holds done less way =
    let p = err_from_is_err_and c.from_residual.result c.from_residual.ensures.1 in
    let is = asked c.args.length (pending c.args.self.now.input) c.first.result.now c.tasks.result way.play _ c.first.ensures
    (c.tasks.ensures way.play way.plays) c.in_err-line.ensures in
    rw (p.1, p.2) (bad_line way.way c.args.length less c.requires.front c.in_err-line.field-0.0 is)

pub returns-in_err-do_line-clause-stops : goal.returns-in_err-do_line-clause-stops
returns-in_err-do_line-clause-stops g c input held left holds done less way =
    let p = err_from_is_err_and c.from_residual-in_err-do_line.result c.from_residual-in_err-do_line.ensures.1 in
    let is = asked c.args.length (pending c.args.self.now.input) c.first.result.now c.tasks.result way.play _ c.first.ensures
    (c.tasks.ensures way.play way.plays) c.in_ok-line.ensures in
    let failed = c.in_err-do_line.ensures in
    rw (p.1, p.2) (failed_line way.way c.args.length less c.requires.front c.in_ok-line.line is c.in_err-do_line.field-0.0 _
    (failed.fault way.play way.plays) failed.kept)

pub returns-clause-goes_on : goal.returns-clause-goes_on
returns-clause-goes_on g c input held left holds done less way =
    let is = asked c.args.length (pending c.args.self.now.input) c.first.result.now c.tasks.result way.play _ c.first.ensures
    (c.tasks.ensures way.play way.plays) c.in_ok-line.ensures in
    let done_so = c.in_ok-do_line.ensures in
    record {
      play = (line_effect way.play c.in_ok-line.line).play;
      way = line_done way.way c.args.length less c.requires.front c.in_ok-line.line is _ _ c.take.ensures
          (done_so.prints way.play way.plays) (done_so.done way.play way.plays);
      known = way.known;
      plays = done_so.plays way.play way.known way.plays;
    }
