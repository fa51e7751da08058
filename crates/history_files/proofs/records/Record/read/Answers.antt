use Rattle.std.proofs.Common.{IfSome, Ok, ap, arith, inl, length, refl, subst, sym, ℕ, ◌+◌, ◌∙◌, ◌∷◌, ◌≡◌}
use Rattle.{exploration.proofs.Lists.err_from, race_files.specs.{Left.{Left, behind, left_in}, declared.faults.RaceFault.TheVariants.Schedule}}
use Rattle.history_files.{proofs.Reading.{at_end, end_fails, line_fails, none_recorded, one_read, one_recorded}, specs.Faults.IsToldOrMemory}
use Rattle.history_files.specs.{Readings.read_in, Records.{nothing_read, reading_after, reading_of}, declared.faults.HistoryFault.TheVariants.Race}
use Rattle.history_files.proofs.records.Record.read.Goals as goal

-- how many lines were taken, where none was at first
counted : (done before : ℕ) (left all : Left) → done + length left.lines ≡ before + length all.lines → before ≡ 0 →
    done + length left.lines ≡ length all.lines
counted done before left all e none = omega (arith, e, none)

pub loop-reading-init : goal.loop-reading-init
loop-reading-init c =
    let left = left_in c.args.lines.now in
    let here : c.args.history + 1 ≡ c.args.history + 1 + c.args.lines.now.done = omega (arith, c.requires.first) in
    record {
      tasks = c.in-Ok.ensures.tasks;
      read = ap (λ (n : ℕ). reading_of c.args.tasks left.fault n left.lines (nothing_read c.args.tasks)) here
          ∙ ap (reading_of c.args.tasks left.fault (c.args.history + 1 + c.args.lines.now.done) left.lines) (sym c.in-Ok.ensures.nothing);
      recorded = none_recorded _ _ _ _ c.in-Ok.ensures.nothing;
      count = refl;
    }

pub loop-reading-preserved : goal.loop-reading-preserved
loop-reading-preserved c =
    let left = left_in c.loop-reading.lines in
    let more = read_in c.read_line.new.self in
    let first : left.lines ≡ c.in-Some.line.now ∷ (behind left).lines =
    subst (λ found. IfSome found (λ line. left.lines ≡ line.now ∷ (behind left).lines)) c.in-Some.is c.in_ok-line.ensures.some in
    let here : c.args.history + c.number.result ≡ (c.args.history + 1) + c.loop-reading.lines.done = omega (arith, c.number.ensures.is) in
    let next : (c.args.history + 1) + c.take.new.self.done ≡ (c.args.history + 1) + c.loop-reading.lines.done + 1 =
    omega (arith, c.take.ensures.done c.in-Some.line.now first) in
    let read : reading_after c.loop-reading.reading.tasks (read_in c.loop-reading.reading) ((c.args.history + 1) + c.loop-reading.lines.done) c.in-Some.line.now
    ≡ Ok more = subst (λ (n : ℕ). reading_after c.loop-reading.reading.tasks (read_in c.loop-reading.reading) n c.in-Some.line.now ≡ Ok more) here
    c.in_ok-read_line.ensures.read in
    record {
      tasks = c.in_ok-read_line.ensures.tasks ∙ c.loop-reading.invariant.tasks;
      read = c.loop-reading.invariant.read ∙
          one_read _ _ _ _ left (left_in c.take.new.self) _ _ more c.loop-reading.invariant.tasks first c.take.ensures.left next read;
      recorded = one_recorded _ _ _ _ _ left (left_in c.take.new.self) _ more _ c.loop-reading.invariant.recorded
          (counted c.loop-reading.lines.done c.args.lines.now.done left (left_in c.args.lines.now) c.loop-reading.invariant.count c.requires.first) c.loop-reading.invariant.tasks first c.take.ensures.left read;
      count = c.take.ensures.count ∙ c.loop-reading.invariant.count;
    }

pub returns-clause-read : goal.returns-clause-read
returns-clause-read c = c.loop-reading.invariant.read ∙ at_end _ _ _ _ _ (c.in_ok-line.ensures.none (ap Ok c.in_default.is))

pub returns-in_err-line-clause-fault : goal.returns-in_err-line-clause-fault
returns-in_err-line-clause-fault c =
    err_from _ (Race (Schedule c.in_err-line.field-0.0)) _ c.from_residual.ensures.1
    (inl (end_fails _ _ _ _ _ c.in_err-line.field-0.0 c.loop-reading.invariant.recorded c.in_err-line.ensures.fault))

pub returns-in_err-read_line-clause-fault : goal.returns-in_err-read_line-clause-fault
returns-in_err-read_line-clause-fault c =
    let left = left_in c.loop-reading.lines in
    let first : left.lines ≡ c.in-Some.line.now ∷ (behind left).lines =
    subst (λ found. IfSome found (λ line. left.lines ≡ line.now ∷ (behind left).lines)) c.in-Some.is c.in_ok-line.ensures.some in
    let here : c.args.history + c.number.result ≡ (c.args.history + 1) + c.loop-reading.lines.done = omega (arith, c.number.ensures.is) in
    let told = subst (λ (n : ℕ). IsToldOrMemory (reading_after c.loop-reading.reading.tasks (read_in c.loop-reading.reading) n c.in-Some.line.now)
    c.in_err-read_line.field-0.0) here c.in_err-read_line.ensures.fault in
    err_from _ c.in_err-read_line.field-0.0 _ c.from_residual-in_err-read_line.ensures.1
    (line_fails _ _ _ _ _ left _ _ _ c.loop-reading.invariant.recorded (counted c.loop-reading.lines.done c.args.lines.now.done left (left_in c.args.lines.now) c.loop-reading.invariant.count c.requires.first)
    c.loop-reading.invariant.tasks first told)
