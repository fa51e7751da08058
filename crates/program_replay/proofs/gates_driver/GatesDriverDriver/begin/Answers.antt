-- A beginning shows what its transition makes of the state.
use Rattle.std.proofs.Common.{◌<◌, arith}
use Rattle.program_replay.proofs.Driving.{begin_drives, begin_told}
use Rattle.program_replay.proofs.gates_driver.GatesDriverDriver.begin.Goals as goal

pub returns-clause-answer : goal.returns-clause-answer
returns-clause-answer c config w shows =
    let many = shows.shows.count in
    let lt : c.args.task < config.tasks = omega (arith, many, c.if-number-len.false, c.len.ensures) in
    let e = c.begin_there.ensures in
    begin_told config w c.args.self.now shows c.args.task lt c.begin_there.new.self c.args.op c.begin_there.result e.answer e.begun e.refused e.others e.words

pub returns-clause-shows : goal.returns-clause-shows
returns-clause-shows c config w shows =
    let many = shows.shows.count in
    let lt : c.args.task < config.tasks = omega (arith, many, c.if-number-len.false, c.len.ensures) in
    let e = c.begin_there.ensures in
    begin_drives config w c.args.self.now shows c.args.task lt c.begin_there.new.self c.args.op c.begin_there.result e.answer e.begun e.refused e.others e.words
