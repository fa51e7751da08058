-- What the task of a thread comes home with: the remounter, which has number 1, and each writer.
use Rattle.std.specs.Prelude.{IfErr, IfOk, Result, length, ℕ, ◌++◌, ◌+◌, ◌<◌, ◌≡◌, ◌≤◌}
use Rattle.access_model.specs.declared.errors.GateError.{GateError}
use Rattle.run_plans.specs.{Plans.run_config, declared.{counts.{Remounts.Remounts, Writes.Writes}, plans.Plan.Plan}}
use Rattle.vfs_gates.specs.{Grown.StaySeen, Held.Rests, Seating.times, Splitting.HasBegun, TaskStates.{IsFrom, SeatedTask, own_number, spare_of}}
use Rattle.vfs_gates.specs.declared.Gates.{Gates}
use Rattle.gate_runs.specs.{Counts.{both, no_remounts, no_writes}, Keeping.HaveNotFrozen, Observers.was_held, Parts.{Remounted, Wrote}}
use Rattle.gate_runs.specs.{Refusals.WriterRefused, Rounds.{RemountRound, Repeats, WriterRound}, declared.threads.Met.Met}
use Rattle.gate_runs.specs.declared.threads.Met.TheVariants.{Remounter, Writer}

-- all rounds of the task with this number, and nothing else, which met this
abbrev pub DoesRounds : (ℕ → ℕ → Type 0) → ℕ → ℕ → ℕ → SeatedTask → SeatedTask → Met → Type 0
DoesRounds held processors rounds number first last (Remounter met) =
    (number ≡ 1) × Repeats RemountRound rounds (first, no_remounts) (last, met)
DoesRounds held processors rounds number first last (Writer met) = (writer : ℕ) × (number ≡ writer + 2)
    × Repeats (WriterRound (was_held held) processors writer) rounds (first, tt, no_writes) (last, tt, met)

-- a task that may do the rounds of this number: it comes from gates of this plan, rests, and has done nothing
pub record IsReady (gates : Gates) (plan : Plan) (number : ℕ) (s : SeatedTask) : Type 0 where
  pub from : IsFrom s gates
  pub planned : gates.words.config ≡ run_config plan.tasks plan.processors plan.rounds
  pub first : 1 ≤ number
  pub last : number < plan.tasks
  pub begun : HasBegun number s
  pub rests : Rests s
  pub none : HaveNotFrozen s.items

-- a task with this number, none of whose numbers has frozen or thawed
pub record NeverFroze (number : ℕ) (s : SeatedTask) : Type 0 where
  pub there : 1 ≤ length s.items
  pub own : own_number s.items ≡ number
  pub none : HaveNotFrozen s.items

-- It comes back to these gates, at rest, with its number, and has frozen and thawed nothing. It has done all its rounds since it began, unless the growth
-- of its file was refused so.
abbrev pub ComesHome : (ℕ → ℕ → Type 0) → Gates → Plan → ℕ → SeatedTask → Result Met GateError → Type 0
ComesHome held gates plan number last met = IsFrom last gates × Rests last × NeverFroze number last
    × IfOk met (λ m. (first : SeatedTask) × HasBegun number first × DoesRounds held plan.processors plan.rounds number first last m)
    × IfErr met (WriterRefused gates plan.tasks plan.processors plan.rounds)

-- what it has done of a run, and met, and how it stands at the end
abbrev pub TaskShare : (SeatedTask → Type 0) → (ℕ → ℕ → Type 0) → ℕ → ℕ → ℕ → Met → Type 0
TaskShare Ends held processors rounds number (Remounter met) = (number ≡ 1) × Remounted Ends rounds met
TaskShare Ends held processors rounds number (Writer met) = (writer : ℕ) × (number ≡ writer + 2)
    × Wrote Ends (was_held held) processors rounds writer tt tt met

-- a task that took back the numbers of another
abbrev pub TookBack : SeatedTask → SeatedTask → SeatedTask → Type 0
TookBack old other new = new ≡ record old { items = old.items ++ other.items; seen = old.seen ++ other.seen }

-- A task that took back the numbers of others, and has seen what they had: the numbers from this one on, below so many. None of those that it took
-- back has frozen or thawed.
pub record HasBack (from count : ℕ) (old new : SeatedTask) : Type 0 where
  pub own : own_number new.items ≡ own_number old.items
  pub there : 1 ≤ length old.items → 1 ≤ length new.items
  pub back : (n : ℕ) → from ≤ n → n < count → 1 ≤ times n new.items
  pub none : HaveNotFrozen (spare_of old.items) → HaveNotFrozen (spare_of new.items)
  pub seen : StaySeen old.seen new.seen

-- what some have met, with one more: what the remounter met, or a writer, of whom it comes before the others
abbrev pub with_met : Remounts × Writes → Met → Remounts × Writes
with_met before (Remounter its) = (its, before.1)
with_met before (Writer its) = (before.0, both its before.1)
