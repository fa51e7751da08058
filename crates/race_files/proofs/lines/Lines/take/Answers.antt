use Rattle.std.proofs.Common.{ap, refl, sym, ◌+◌, ◌-◌, ◌∙◌}
use Rattle.schedule_lines.specs.declared.faults.Fault.TheVariants.{CutOff}
use Rattle.race_files.proofs.Left.{first_of, front_behind, no_first, none_behind, of_front, one_taken, part_lines}
use Rattle.race_files.specs.Left.{behind, left_in, lines_in}
use Rattle.race_files.proofs.lines.Lines.take.Goals as goal

pub returns-then-self-ge-LINES-clause-left : goal.returns-then-self-ge-LINES-clause-left
returns-then-self-ge-LINES-clause-left c = none_behind c.args.self.now.done c.args.self.now.rest.now c.if-self-ge-LINES.true

pub returns-then-self-ge-LINES-clause-done : goal.returns-then-self-ge-LINES-clause-done
returns-then-self-ge-LINES-clause-done c line e =
    no_first _ line (none_behind c.args.self.now.done c.args.self.now.rest.now c.if-self-ge-LINES.true) e

pub returns-in-Line-clause-left : goal.returns-in-Line-clause-left
returns-in-Line-clause-left c =
    let lines = c.args.self.now in
    ap (lines_in (1048576 - (lines.done + 1))) c.behind_line-self.ensures
    ∙ sym (ap behind (of_front lines.done lines.rest.now _ c.if-self-ge-LINES.false (sym c.front_of.ensures.front ∙ c.in-Line.is)))

pub returns-in-Line-clause-count : goal.returns-in-Line-clause-count
returns-in-Line-clause-count c =
    let lines = c.args.self.now in
    one_taken lines.done (left_in lines) _ _
    (first_of _ _ _ (of_front lines.done lines.rest.now _ c.if-self-ge-LINES.false (sym c.front_of.ensures.front ∙ c.in-Line.is)))
    (returns-in-Line-clause-left c)

pub returns-in-TooLong-clause-left : goal.returns-in-TooLong-clause-left
returns-in-TooLong-clause-left c =
    let lines = c.args.self.now in
    front_behind lines.done lines.rest.now _ c.if-self-ge-LINES.false (sym c.front_of.ensures.front ∙ c.in-TooLong.is) refl

pub returns-in-TooLong-clause-done : goal.returns-in-TooLong-clause-done
returns-in-TooLong-clause-done c line e = no_first _ line (returns-in-TooLong-clause-left c) e

pub returns-in-Part-clause-left : goal.returns-in-Part-clause-left
returns-in-Part-clause-left c =
    let lines = c.args.self.now in
    front_behind lines.done lines.rest.now _ c.if-self-ge-LINES.false (sym c.front_of.ensures.front ∙ c.in-Part.is)
    (part_lines CutOff lines.rest.now)

pub returns-in-Part-clause-done : goal.returns-in-Part-clause-done
returns-in-Part-clause-done c line e = no_first _ line (returns-in-Part-clause-left c) e
