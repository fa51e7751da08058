use Rattle.std.proofs.Common.{◌∙◌, sym, ap, subst, List, ℕ}
use Rattle.std.specs.Result.{result_and}
use Rattle.transcripts.specs.Replaying.{LinesEnd}
use Rattle.transcripts.proofs.Replaying.{ended_well, ended_by}
use Rattle.transcripts.proofs.line_replay.LineReplay.finish.Goals as goal

pub returns-in-Ok-clause-replayed : goal.returns-in-Ok-clause-replayed
returns-in-Ok-clause-replayed g c input held left known end =
    let quiet = c.print_end-printed.ensures in
    let holds = g.W.Write.contents c.args.writer.now in
    let here = subst (λ (l : List ℕ). LinesEnd input held left l holds c.args.done c.args.outcome) (sym (quiet.printed known)) end in
    let first = c.and.ensures ∙ ap (λ r. result_and r c.write_out-written.result) (quiet.done known) in
    ended_well input held left holds _ _ c.args.done c.write_out-written.result c.args.outcome here c.write_out-written.ensures.all
    (ap (λ r. result_and r c.args.outcome) (sym first) ∙ sym c.and-2.ensures ∙ c.in-Ok.is)

pub returns-in-Err-clause-replayed : goal.returns-in-Err-clause-replayed
returns-in-Err-clause-replayed g c input held left known end =
    let quiet = c.print_end-printed.ensures in
    let holds = g.W.Write.contents c.args.writer.now in
    let here = subst (λ (l : List ℕ). LinesEnd input held left l holds c.args.done c.args.outcome) (sym (quiet.printed known)) end in
    let first = c.and.ensures ∙ ap (λ r. result_and r c.write_out-written.result) (quiet.done known) in
    let wrote = c.write_out-written.ensures in
    let told = c.fault_after.ensures in
    ended_by input held left holds _ _ c.args.done c.write_out-written.result c.args.outcome c.in-Err.fault c.fault_after.result here wrote.all wrote.part
    wrote.fault (ap (λ r. result_and r c.args.outcome) (sym first) ∙ sym c.and-2.ensures ∙ c.in-Err.is) told.kind told.line
