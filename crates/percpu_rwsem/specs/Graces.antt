-- A grace period over the section words: a number is passed where its word is even, or another one than the first odd value found.
use Rattle.std.specs.Prelude.{ℕ, ◌+◌, ◌%◌, Bool, true, ◌&&◌, ◌==◌, nat_lt, if◌then◌else◌, Option, Some, None}
use Rattle.percpu_rwsem.specs.declared.grace.{Grace.{Grace}, GraceNext.{GraceNext, TheVariants.{More, Wait, Ended}}}

-- the value found is the first one
abbrev pub is_first : Option ℕ → ℕ → Bool
is_first None found = true
is_first (Some first) found = found == first

-- before the first load
abbrev pub started : ℕ → Grace
started tasks = record { tasks = tasks; task = 0; first = None }

-- the number is passed: on to the next, or the end
abbrev pub passed_on : Grace → GraceNext
passed_on g = if nat_lt (g.task + 1) g.tasks then More record { tasks = g.tasks; task = g.task + 1; first = None } else Ended

-- what a value found leads to
abbrev pub looked : Grace → ℕ → GraceNext
looked g found =
    if (found % 2 == 1) && is_first g.first found
    then Wait record { tasks = g.tasks; task = g.task; first = Some found }
    else passed_on g
