-- What the program does that is asked for something, and how it ends.
use Rattle.std.specs.{Borrow.Bor, Prelude.{List, None, Option, Some, codes, false, suc, vec_len, ℕ, ◌≡◌, ◌⊎◌}}
use Rattle.command_line.specs.declared.words.{Numbers.Numbers, OutcomeForm.TheVariants.Text, Outcomes.Outcomes, ProgramRequest.ProgramRequest}
use Rattle.command_line.specs.declared.words.{Replay.Replay, ReplayForm.TheVariants.Plain}
use Rattle.exit_status.specs.declared.ends.ProgramEnding.{ProgramEnding, TheVariants.{Blessed, Listed, Misused, Passed, Ran, Refused, Told}}
use Rattle.{gate_runs.specs.Told.WasRun, program_checks.specs.Checks.{TellsPassed, count_checked}}
use Rattle.program_replay.specs.Replays.{EndsReplayed, EndsReplayedFile, EndsReplayedNamed, IsRefusedUnread, done_in, done_of}
use Rattle.run_plans.specs.{Meetings.unseen, Plans.MayRun}
use Rattle.mntgate.specs.{Outcomes.EndsTold, Validated.EndsValidated}
use Rattle.command_line.specs.declared.words.ProgramRequest.TheVariants as ask

-- How a replay ends, where its reader had and has this left, and its writer held and holds this.
pub record EndsReplay (r : Replay) (input left held holds : Option (List ℕ)) (ending : ProgramEnding) : Type 0 where
  pub ends : (ending ≡ done_of r.file (done_in r.form r.over_gates)) ⊎ (ending ≡ Refused)
  pub plain : r.form ≡ Plain → r.file ≡ None → EndsReplayed r.over_gates input left held holds ending
  pub of_file : (file : Bor (List ℕ)) → r.form ≡ Plain → r.file ≡ Some file →
      EndsReplayedFile r.over_gates held holds ending ⊎ IsRefusedUnread input left held holds ending
  pub named : (file : Bor (List ℕ)) → r.form ≡ Plain → r.file ≡ Some file → file.now ≡ codes "-" →
      EndsReplayedNamed r.over_gates input left held holds ending

-- How checks of so many schedules end: where they passed, what is written ends with the line that says so of as many as were asked for.
pub record EndsChecks (count : ℕ) (held holds : Option (List ℕ)) (ending : ProgramEnding) : Type 0 where
  pub ends : (ending ≡ Passed) ⊎ (ending ≡ Refused)
  pub passed : ending ≡ Passed → TellsPassed (count_checked count) held holds

-- How it ends where the outcomes of a race were asked for: as text, they are printed.
pub record EndsOutcomes (race : Outcomes) (input held holds : Option (List ℕ)) (ending : ProgramEnding) : Type 0 where
  pub ends : (ending ≡ Listed) ⊎ (ending ≡ Refused)
  pub told : race.form ≡ Text → race.ends ≡ false → EndsTold race input held holds ending

-- what who watches a run of the program says of a round
abbrev pub unheld : ℕ → ℕ → Type 0
unheld task round = Unit {0}

-- A run of these numbers, which are within their limits, was done whole: each task has done its part, and nothing else.
pub record WasWhole (numbers : Numbers) : Type 0 where
  pub within : MayRun numbers.tasks numbers.processors numbers.rounds numbers.freezes
  pub was : WasRun unheld unseen numbers.tasks numbers.processors numbers.rounds numbers.freezes numbers.patience

-- How a run of these numbers ends: with `Ran` only where it was done whole.
pub record EndsRun (numbers : Numbers) (ending : ProgramEnding) : Type 0 where
  pub ends : (ending ≡ Ran) ⊎ (ending ≡ Refused)
  pub ran : ending ≡ Ran → WasWhole numbers

-- How it ends, by what was asked for.
abbrev pub EndsAsked : ProgramRequest → (input left held holds : Option (List ℕ)) → ProgramEnding → Type 0
EndsAsked (ask.Replay r) input left held holds ending = EndsReplay r input left held holds ending
EndsAsked (ask.Check files) input left held holds ending = EndsChecks (vec_len files) held holds ending
EndsAsked (ask.Bless files) input left held holds ending = (ending ≡ Blessed) ⊎ (ending ≡ Refused)
EndsAsked (ask.Explain refusals) input left held holds ending = (ending ≡ Told) ⊎ (ending ≡ Refused) ⊎ (ending ≡ Misused)
EndsAsked (ask.Outcomes race) input left held holds ending = EndsOutcomes race input held holds ending
EndsAsked (ask.Validate asked) input left held holds ending = EndsValidated asked input held holds ending
EndsAsked (ask.Run numbers tells) input left held holds ending = EndsRun numbers ending
EndsAsked (ask.Told text) input left held holds ending = (ending ≡ Told) ⊎ (ending ≡ Refused)
EndsAsked ask.Misused input left held holds ending = ending ≡ Misused

-- a run of some numbers was done whole
pub record WasSomeRun : Type 0 where
  pub numbers : Numbers
  pub whole : WasWhole numbers

-- checks that passed, of one schedule at least
pub record TellsSomePassed (held holds : Option (List ℕ)) : Type 0 where
  pub others : ℕ
  pub told : TellsPassed (suc others) held holds
