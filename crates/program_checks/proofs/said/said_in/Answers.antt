use Rattle.program_checks.proofs.Marks.{marked, more, spaced, unmarked}
use Rattle.program_checks.proofs.said.said_in.Goals as goal

pub returns-in-Some : goal.returns-in-Some
returns-in-Some c = λ said. more c.args.line.now c.in-Some.more.now said c.in-Some.ensures.cases.0 c.in-Some.ensures.cases.1

pub returns-in-Some-strip_prefix : goal.returns-in-Some-strip_prefix
returns-in-Some-strip_prefix c = λ said.
    spaced c.args.line.now c.in-Some-strip_prefix.text.now said c.in_default.ensures.cases c.in-Some-strip_prefix.ensures.cases.0 c.in-Some-strip_prefix.ensures.cases.1

pub returns-in-Some-strip_prefix-2 : goal.returns-in-Some-strip_prefix-2
returns-in-Some-strip_prefix-2 c = λ said.
    marked c.args.line.now c.in-Some-strip_prefix-2.text.now said c.in_default.ensures.cases c.in_default-strip_prefix.ensures.cases
    c.in-Some-strip_prefix-2.ensures.cases.0 c.in-Some-strip_prefix-2.ensures.cases.1

pub returns-in-None : goal.returns-in-None
returns-in-None c = λ said.
    unmarked c.args.line.now said c.in_default.ensures.cases c.in_default-strip_prefix.ensures.cases c.in-None.ensures.cases
