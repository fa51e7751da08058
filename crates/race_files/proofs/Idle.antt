-- A core whose tasks are idle is in no grace period.
use Rattle.std.proofs.{Common.{IfSome, List, None, Option, arith, refl, subst, sym, true, ℕ, ◌<◌, ◌∙◌, ◌≡◌}, lemmas.Bool.lt-ltb}
use Rattle.std.proofs.lemmas.List.{get_or_default}
use Rattle.gate_core.specs.{Drivers.CoreShows, Memory.{IsSound, Memory, no_seat, seat_of}, Moves.phase_in}
use Rattle.{gate_transitions.specs.declared.task_states.TaskState.TaskState, gate_world.specs.declared.{config.Config.Config, work.Phase.Phase}}
use Rattle.{races.specs.Counts.is_recent, transcripts.specs.Transcript.ReplayState}
use Rattle.race_files.specs.Races.{AllAreIdle, IsRecent}

-- where a task stands
pub phase_there : (core : Memory) (t : ℕ) → t < core.config.tasks → phase_in core t ≡ (seat_of core t).phase
phase_there core t less = let there = lt-ltb t core.config.tasks less in rw there refl

-- no phase is one that has waited too long
none_recent : (words : List ℕ) (phase : Option Phase) → phase ≡ None → IfSome phase (λ x. is_recent words x ≡ true)
none_recent words phase none = subst (λ (p : Option Phase). IfSome p (λ x. is_recent words x ≡ true)) (sym none) tt

pub idle_recent : (core : Memory) (play : ReplayState) → IsSound core → CoreShows core play.config play.world → AllAreIdle play → IsRecent core
idle_recent core play sound shows idle k d less =
    let own : k < core.config.tasks = omega (arith, less, sound.seats) in
    let none : (seat_of core k).phase ≡ None = shows.world.phases k own ∙ idle k (subst (λ (c : Config). k < c.tasks) shows.config own) in
    subst (λ (seat : TaskState). IfSome seat.phase (λ x. is_recent core.words x ≡ true)) (get_or_default core.seats k no_seat d less)
    (none_recent core.words (seat_of core k).phase none)
