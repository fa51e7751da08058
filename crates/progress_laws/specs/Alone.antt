-- A task that runs alone, whatever all others are at: how many steps it takes until it has its reply or has to wait.
use Rattle.std.specs.Prelude.{Bool, Option, not, ℕ, ◌*◌, ◌+◌, ◌<◌, ◌==◌, ◌≤◌}
use Rattle.{cpu_words.specs.Words.Words, gate_world.specs.{Worlds.World, declared.{config.Config.Config, work.Phase.Phase}}}
use Rattle.progress_laws.specs.LostTasks.{SettlesAmong}
use Rattle.progress_laws.specs.StepsLeft.{as_one, changes_of, most_steps, start_room_of, start_steps_of, steps_of, tries_of, try_room_of}

-- all tasks but this one are lost
abbrev pub all_but : ℕ → ℕ → Bool
all_but t x = not (x == t)

-- the numbers of one task alone, with these bounds of its own start's steps and of its tries
abbrev pub alone_left : (starts tries : ℕ) → Words → Option Phase → ℕ
alone_left starts tries w p = as_one tries (steps_of p) (changes_of (starts + 1) p) (start_steps_of w p) (tries_of w p)

abbrev pub turns_alone : Config → World → ℕ → ℕ
turns_alone c w t =
    alone_left (start_room_of (w.views t).phase) (try_room_of c.processors (w.views t).phase) w.words (w.views t).phase

-- no task alone takes more: a freeze has the most changes, 15
abbrev pub most_turns_alone : Config → ℕ
most_turns_alone c = most_steps c + 16 * (2 * c.processors + 3)

-- Each task, stepped alone, has its reply or has to wait after so many steps.
abbrev pub SettlesAlone : Config → World → Type 0
SettlesAlone c w =
    (t : ℕ) → t < c.tasks → SettlesAmong c (all_but t) (turns_alone c w t) w × (turns_alone c w t ≤ most_turns_alone c)
