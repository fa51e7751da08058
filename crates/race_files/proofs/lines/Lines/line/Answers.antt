use Rattle.schedule_lines.specs.declared.faults.Fault.TheVariants.{CutOff, TooManyLines}
use Rattle.std.proofs.{Common.{List, ap, sym, ℕ, ◌-◌, ◌∙◌, ◌∷◌}, lemmas.Bool.eqb-true}
use Rattle.race_files.{proofs.Left.{first_of, no_bytes, of_front, some_bytes, some_part, too_many}, specs.Left.{behind, left_in}}
use Rattle.race_files.proofs.lines.Lines.line.Goals as goal

pub returns-then-is_empty-clause-none : goal.returns-then-is_empty-clause-none
returns-then-is_empty-clause-none c e =
    no_bytes (1048576 - c.args.self.now.done) c.args.self.now.rest.now (eqb-true _ _ (sym c.is_empty.ensures ∙ c.if-is_empty.true))

pub returns-then-self-ge-LINES-clause-fault : goal.returns-then-self-ge-LINES-clause-fault
returns-then-self-ge-LINES-clause-fault c =
    let lines = c.args.self.now in
    too_many lines.done lines.rest.now c.if-self-ge-LINES.true
    ∙ some_part TooManyLines lines.rest.now (some_bytes lines.rest.now (sym c.is_empty.ensures ∙ c.if-is_empty.false))

pub returns-in-Line-clause-some : goal.returns-in-Line-clause-some
returns-in-Line-clause-some c =
    let lines = c.args.self.now in
    let h = first_of _ _ _ (of_front lines.done lines.rest.now _ c.if-self-ge-LINES.false (sym c.front_of.ensures.front ∙ c.in-Line.is)) in
    h ∙ ap (λ (l : List ℕ). l ∷ (behind (left_in lines)).lines) (sym c.line_of.ensures)

pub returns-in-TooLong-clause-fault : goal.returns-in-TooLong-clause-fault
returns-in-TooLong-clause-fault c =
    let lines = c.args.self.now in
    of_front lines.done lines.rest.now _ c.if-self-ge-LINES.false (sym c.front_of.ensures.front ∙ c.in-TooLong.is)

pub returns-in-Part-clause-fault : goal.returns-in-Part-clause-fault
returns-in-Part-clause-fault c =
    let lines = c.args.self.now in
    of_front lines.done lines.rest.now _ c.if-self-ge-LINES.false (sym c.front_of.ensures.front ∙ c.in-Part.is)
    ∙ some_part CutOff lines.rest.now (some_bytes lines.rest.now (sym c.is_empty.ensures ∙ c.if-is_empty.false))
