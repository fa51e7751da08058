-- A freeze and a thaw take nothing, and the closure leaves the task as it was.
use Rattle.vfs_gates.proofs.Prelude.{Freeze, IsAsBefore, Thaw, refl, rules, unit_of, ◌∙◌}
use Rattle.vfs_gates.proofs.{Holding.{as_before_twice, keeps}, Returning.done_idle}
use Rattle.vfs_gates.proofs.task.Task.with_freeze.Goals as goal

pub returns-in_err-freeze-clause-as_before : goal.returns-in_err-freeze-clause-as_before
returns-in_err-freeze-clause-as_before g c = λ idle.
    keeps unit_of (Freeze c.args.holder) c.args.self.now c.freeze.new.self c.freeze.result idle c.freeze.ensures.replies refl

pub thaw-thawed-requires : goal.thaw-thawed-requires
thaw-thawed-requires g c =
    let same : IsAsBefore c.freeze.new.self c.inside-answer.new.arg2 =
    c.requires.keeps c.freeze.new.self c.inside-answer.new.arg2 c.inside-answer.result
    (done_idle (Freeze c.args.holder) c.args.self.now c.freeze.new.self c.in_ok-freeze.ensures.replies) c.in_ok-freeze.ensures.replies
    (search (rules, c.inside-answer.ensures)) in
    (same.table ∙ (c.freeze.ensures.replies.table ∙ c.requires.from.0), same.config ∙ (c.freeze.ensures.replies.config ∙ c.requires.from.1))

pub returns-clause-from : goal.returns-clause-from
returns-clause-from g c =
    let same : IsAsBefore c.freeze.new.self c.inside-answer.new.arg2 =
    c.requires.keeps c.freeze.new.self c.inside-answer.new.arg2 c.inside-answer.result
    (done_idle (Freeze c.args.holder) c.args.self.now c.freeze.new.self c.in_ok-freeze.ensures.replies) c.in_ok-freeze.ensures.replies
    (search (rules, c.inside-answer.ensures)) in (
      c.thaw-thawed.ensures.replies.table ∙ (same.table ∙ (c.freeze.ensures.replies.table ∙ c.requires.from.0)),
      c.thaw-thawed.ensures.replies.config ∙ (same.config ∙ (c.freeze.ensures.replies.config ∙ c.requires.from.1)),
    )

pub returns-clause-as_before : goal.returns-clause-as_before
returns-clause-as_before g c = λ idle.
    let first = done_idle (Freeze c.args.holder) c.args.self.now c.freeze.new.self c.in_ok-freeze.ensures.replies in
    let same : IsAsBefore c.freeze.new.self c.inside-answer.new.arg2 =
    c.requires.keeps c.freeze.new.self c.inside-answer.new.arg2 c.inside-answer.result first c.in_ok-freeze.ensures.replies
    (search (rules, c.inside-answer.ensures)) in
    as_before_twice c.args.self.now c.freeze.new.self c.thaw-thawed.new.self
    (keeps unit_of (Freeze c.args.holder) c.args.self.now c.freeze.new.self c.freeze.result idle c.freeze.ensures.replies refl)
    (as_before_twice c.freeze.new.self c.inside-answer.new.arg2 c.thaw-thawed.new.self same
    (keeps unit_of (Thaw c.args.holder) c.inside-answer.new.arg2 c.thaw-thawed.new.self c.thaw-thawed.result same.idle
    c.thaw-thawed.ensures.replies refl))
