use Rattle.std.proofs.Common.{ap, drop, refl, sym, ℕ, ◌+◌, ◌∙◌}
use Rattle.{exploration.proofs.Lists.err_from, gate_world.specs.declared.config.Config.Config, race_files.specs.Left.{Left, left_in, lines_in}}
use Rattle.history_files.{proofs.{Found.whole_rest, Whole.{record_fails, set_up_fails}}, specs.{Files.IsFaultTold, Readings.read_in}}
use Rattle.history_files.specs.Records.{reading_left}
use Rattle.history_files.proofs.files.read_history.Goals as goal

pub returns-in_err-core-clause-fault : goal.returns-in_err-core-clause-fault
returns-in_err-core-clause-fault c =
    err_from _ c.in_err-core.field-0.0 (IsFaultTold c.args.bytes.now) c.from_residual.ensures.1
    (set_up_fails c.args.bytes.now c.in-Some.place (sym c.in-Some.ensures.at) c.in_err-core.field-0.0 c.in_err-core.ensures.fault)

pub returns-in-Ok-clause-history : goal.returns-in-Ok-clause-history
returns-in-Ok-clause-history c =
    let number = c.in-Some.place.number + 1 in
    record {
      place = c.in-Some.place;
      found = sym c.in-Some.ensures.at;
      calls = c.in_ok-core.ensures.race.0;
      set_up = c.in_ok-core.ensures.race.1;
      reading = read_in c.in-Ok.record;
      recorded =
          ap (λ (n : ℕ). reading_left n number (lines_in 1048576 (drop c.in-Some.place.behind c.args.bytes.now)))
          (sym (ap (λ (d : Config). d.tasks) c.config.ensures.is)) ∙
          (ap (λ (all : Left). reading_left c.config.result.tasks number all)
          (sym (c.new-lines.ensures.lines ∙ ap (lines_in 1048576) (whole_rest c.in-Some.place.behind c.args.bytes.now))) ∙ c.in-Ok.ensures.read);
      read = refl;
      numbered = refl;
    }

pub returns-in-Err-clause-fault : goal.returns-in-Err-clause-fault
returns-in-Err-clause-fault c =
    record_fails c.args.bytes.now c.in-Some.place (sym c.in-Some.ensures.at) c.in_ok-core.core c.in_ok-core.ensures.race.0 c.in_ok-core.ensures.race.1
    c.config.result.tasks c.new-lines.result.done c.read.new.lines.done c.number.result (left_in c.new-lines.result) (left_in c.read.new.lines) c.in-Err.fault _
    (ap (λ (d : Config). d.tasks) c.config.ensures.is) (c.new-lines.ensures.lines ∙ ap (lines_in 1048576) (whole_rest c.in-Some.place.behind c.args.bytes.now))
    c.new-lines.ensures.done c.in-Err.ensures.count c.number.ensures.is
    c.in-Err.ensures.fault c.at.ensures
