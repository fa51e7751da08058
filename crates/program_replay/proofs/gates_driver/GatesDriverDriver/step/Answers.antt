-- A step shows what its transition makes of the state.
use Rattle.std.proofs.Common.{◌<◌, arith}
use Rattle.program_replay.proofs.Driving.{idle_drives, step_drives}
use Rattle.program_replay.proofs.gates_driver.GatesDriverDriver.step.Goals as goal

pub returns-in-Some-clause-answer : goal.returns-in-Some-clause-answer
returns-in-Some-clause-answer c config w shows =
    let many = shows.shows.count in
    let lt : c.args.task < config.tasks = omega (arith, many, c.if-number-len.false, c.len.ensures) in
    let e = c.step_there-step.ensures in
    (step_drives config w c.args.self.now shows c.args.task lt c.step_there-step.new.self c.args.hook c.step_there-step.result e.event e.idle e.others e.words
    c.in-Some.event c.in-Some.is c.note.new.self c.gather.new.self c.note.ensures.tasks c.note.ensures.config c.note.ensures.words
    c.gather.ensures.gathered c.gather.ensures.config c.gather.ensures.words).0

pub returns-in-Some-clause-shows : goal.returns-in-Some-clause-shows
returns-in-Some-clause-shows c config w shows =
    let many = shows.shows.count in
    let lt : c.args.task < config.tasks = omega (arith, many, c.if-number-len.false, c.len.ensures) in
    let e = c.step_there-step.ensures in
    (step_drives config w c.args.self.now shows c.args.task lt c.step_there-step.new.self c.args.hook c.step_there-step.result e.event e.idle e.others e.words
    c.in-Some.event c.in-Some.is c.note.new.self c.gather.new.self c.note.ensures.tasks c.note.ensures.config c.note.ensures.words
    c.gather.ensures.gathered c.gather.ensures.config c.gather.ensures.words).1

pub returns-in_default-clause-answer : goal.returns-in_default-clause-answer
returns-in_default-clause-answer c config w shows =
    let many = shows.shows.count in
    let lt : c.args.task < config.tasks = omega (arith, many, c.if-number-len.false, c.len.ensures) in
    let e = c.step_there-step.ensures in
    (idle_drives config w c.args.self.now shows c.args.task lt c.step_there-step.new.self c.args.hook c.step_there-step.result e.event e.idle e.others e.words
    c.in_default.is).0

pub returns-in_default-clause-shows : goal.returns-in_default-clause-shows
returns-in_default-clause-shows c config w shows =
    let many = shows.shows.count in
    let lt : c.args.task < config.tasks = omega (arith, many, c.if-number-len.false, c.len.ensures) in
    let e = c.step_there-step.ensures in
    (idle_drives config w c.args.self.now shows c.args.task lt c.step_there-step.new.self c.args.hook c.step_there-step.result e.event e.idle e.others e.words
    c.in_default.is).1
