-- The closure leaves the task as it was, so the return is not refused, and the task is then as it was before.
use Rattle.vfs_gates.proofs.Prelude.{IsAsBefore, WantWrite, rules, unit_of, ◌∙◌}
use Rattle.vfs_gates.proofs.{Holding.refused_call_keeps, Returning.{done_idle, written_back}}
use Rattle.vfs_gates.proofs.task.Task.with_write.Goals as goal

pub returns-in_err-want_write-clause-as_before : goal.returns-in_err-want_write-clause-as_before
returns-in_err-want_write-clause-as_before g c = λ idle.
    refused_call_keeps unit_of (WantWrite c.args.mount c.args.cpu) c.args.self.now c.want_write.new.self _ idle c.in_err-want_write.ensures

pub drop_write-requires : goal.drop_write-requires
drop_write-requires g c =
    let same : IsAsBefore c.want_write.new.self c.inside-answer.new.arg2 =
    c.requires.keeps c.want_write.new.self c.inside-answer.new.arg2 c.inside-answer.result
    (done_idle (WantWrite c.args.mount c.args.cpu) c.args.self.now c.want_write.new.self c.in_ok-want_write.ensures) c.in_ok-want_write.ensures
    (search (rules, c.inside-answer.ensures)) in
    (same.table ∙ (c.want_write.ensures.table ∙ c.requires.from.0), same.config ∙ (c.want_write.ensures.config ∙ c.requires.from.1))

pub unreachable-requires : goal.unreachable-requires
unreachable-requires g c =
    let same : IsAsBefore c.want_write.new.self c.inside-answer.new.arg2 =
    c.requires.keeps c.want_write.new.self c.inside-answer.new.arg2 c.inside-answer.result
    (done_idle (WantWrite c.args.mount c.args.cpu) c.args.self.now c.want_write.new.self c.in_ok-want_write.ensures) c.in_ok-want_write.ensures
    (search (rules, c.inside-answer.ensures)) in
    c.in_default.not-Ok tt (written_back c.args.mount c.args.cpu c.args.self.now c.want_write.new.self c.inside-answer.new.arg2
    c.drop_write.new.self c.drop_write.result c.in_ok-want_write.ensures same c.drop_write.ensures).0

pub returns-clause-from : goal.returns-clause-from
returns-clause-from g c =
    let same : IsAsBefore c.want_write.new.self c.inside-answer.new.arg2 =
    c.requires.keeps c.want_write.new.self c.inside-answer.new.arg2 c.inside-answer.result
    (done_idle (WantWrite c.args.mount c.args.cpu) c.args.self.now c.want_write.new.self c.in_ok-want_write.ensures) c.in_ok-want_write.ensures
    (search (rules, c.inside-answer.ensures)) in (
      c.drop_write.ensures.table ∙ (same.table ∙ (c.want_write.ensures.table ∙ c.requires.from.0)),
      c.drop_write.ensures.config ∙ (same.config ∙ (c.want_write.ensures.config ∙ c.requires.from.1)),
    )

pub returns-clause-as_before : goal.returns-clause-as_before
returns-clause-as_before g c = λ idle.
    let same : IsAsBefore c.want_write.new.self c.inside-answer.new.arg2 =
    c.requires.keeps c.want_write.new.self c.inside-answer.new.arg2 c.inside-answer.result
    (done_idle (WantWrite c.args.mount c.args.cpu) c.args.self.now c.want_write.new.self c.in_ok-want_write.ensures) c.in_ok-want_write.ensures
    (search (rules, c.inside-answer.ensures)) in
    (written_back c.args.mount c.args.cpu c.args.self.now c.want_write.new.self c.inside-answer.new.arg2
    c.drop_write.new.self c.drop_write.result c.in_ok-want_write.ensures same c.drop_write.ensures).1
