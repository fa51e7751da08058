-- How the program ends that did what was asked for.
use Rattle.std.proofs.Common.{Bool, Err, IfOk, List, None, Ok, Option, Result, Some, ap, false, inl, inr, refl, subst, suc, sym, true, zero, ℕ, ◌∙◌}
use Rattle.std.{proofs.Common.{◌≡◌, ◌⊎◌}, specs.Borrow.Bor}
use Rattle.command_line.specs.{CommandLine.IsPlainOfInput, declared.words.{Numbers.Numbers, OutcomeForm.TheVariants.Text, Outcomes.Outcomes}}
use Rattle.command_line.specs.declared.words.{ProgramRequest.ProgramRequest, Replay.Replay, ReplayForm.ReplayForm}
use Rattle.command_line.specs.declared.words.{ReplayForm.TheVariants.{Columns, Events, Html, Json, Plain}, Validation.Validation}
use Rattle.exit_status.specs.{Endings.of_file, declared.ends.ProgramEnding.{ProgramEnding, TheVariants.{Blessed, Done, DoneOfFile, DoneOverGates}}}
use Rattle.exit_status.specs.declared.ends.ProgramEnding.TheVariants.{Listed, Misused, Passed, Possible, Ran, Refused, Shown, Told}
use Rattle.{program_checks.specs.Checks.{TellsPassed, count_checked}, program_replay.specs.Replays.{EndsReplayed, done_in, done_of, ending_of}}
use Rattle.{schedule_lines.specs.declared.bytes.replay_faults.ReplayFault.ReplayFault, transcripts.specs.Replayed.Replayed}
use Rattle.mntgate.specs.{Asking.{EndsAsked, EndsOutcomes, EndsReplay, EndsRun, TellsSomePassed}, Outcomes.EndsTold, Validated.EndsValidated}
use Rattle.mntgate.specs.Validated.EndsValidated.{HasNoVerdict, IsCutOff, IsImpossible, IsPossible, IsUnread}
use mathlib.Core.Bool.{true≢false}
use Rattle.command_line.specs.declared.words.ProgramRequest.TheVariants as ask

-- a file's replay never ends with `Done`
never_of_file : (ending : ProgramEnding) → of_file ending ≡ Done → ⊥
never_of_file Done e = cc
never_of_file DoneOfFile e = cc
never_of_file DoneOverGates e = cc
never_of_file Shown e = cc
never_of_file Passed e = cc
never_of_file Blessed e = cc
never_of_file Listed e = cc
never_of_file Possible e = cc
never_of_file Ran e = cc
never_of_file Told e = cc
never_of_file Refused e = cc
never_of_file Misused e = cc

-- what was done of standard input, over the core and in no other form
plainly : (form : ReplayForm) (over_gates : Bool) → done_in form over_gates ≡ Done → (form ≡ Plain) × (over_gates ≡ false)
plainly Plain true e = cc
plainly Plain false e = (refl, refl)
plainly Events over_gates e = cc
plainly Columns over_gates e = cc
plainly Json over_gates e = cc
plainly Html over_gates e = cc

-- a replay that ends with `Done` is a plain one of standard input
of_input : (file : Option (Bor (List ℕ))) (form : ReplayForm) (over_gates : Bool) → done_of file (done_in form over_gates) ≡ Done →
    (form ≡ Plain) × (over_gates ≡ false) × (file ≡ None)
of_input None form over_gates e = let plain = plainly form over_gates e in (plain.0, plain.1, refl)
of_input (Some file) form over_gates e = absurd (never_of_file (done_in form over_gates) e)

-- what a replay ends with that was done
abbrev is_of_replay : ProgramEnding → Bool
is_of_replay Done = true
is_of_replay DoneOfFile = true
is_of_replay DoneOverGates = true
is_of_replay Shown = true
is_of_replay ending = false

replay_done : (file : Option (Bor (List ℕ))) (form : ReplayForm) (over_gates : Bool) → is_of_replay (done_of file (done_in form over_gates)) ≡ true
replay_done None Plain true = refl
replay_done None Plain false = refl
replay_done None Events over_gates = refl
replay_done None Columns over_gates = refl
replay_done None Json over_gates = refl
replay_done None Html over_gates = refl
replay_done (Some file) Plain true = refl
replay_done (Some file) Plain false = refl
replay_done (Some file) Events over_gates = refl
replay_done (Some file) Columns over_gates = refl
replay_done (Some file) Json over_gates = refl
replay_done (Some file) Html over_gates = refl

-- what outcomes end with, and whatever is refused
abbrev is_of_outcomes : ProgramEnding → Bool
is_of_outcomes Listed = true
is_of_outcomes Refused = true
is_of_outcomes ending = false

outcomes_end : (ending : ProgramEnding) → (ending ≡ Listed) ⊎ (ending ≡ Refused) → is_of_outcomes ending ≡ true
outcomes_end ending (inl e) = ap is_of_outcomes e
outcomes_end ending (inr e) = ap is_of_outcomes e

-- what it ends with that was asked about a history
abbrev is_of_histories : ProgramEnding → Bool
is_of_histories Possible = true
is_of_histories Refused = true
is_of_histories ending = false

histories_end : (asked : Validation) (input held holds : Option (List ℕ)) (ending : ProgramEnding) → EndsValidated asked input held holds ending →
    is_of_histories ending ≡ true
histories_end asked input held holds ending (IsPossible bytes text read possible written e) = ap is_of_histories e
histories_end asked input held holds ending (IsImpossible bytes number text read impossible written e) = ap is_of_histories e
histories_end asked input held holds ending (HasNoVerdict bytes why read unjudged kept e) = ap is_of_histories e
histories_end asked input held holds ending (IsCutOff text part e) = ap is_of_histories e
histories_end asked input held holds ending (IsUnread kept e) = ap is_of_histories e

-- how it ends where one was asked about
pub history_ended : (asked : ProgramRequest) (history : Validation) (input left held holds : Option (List ℕ)) (ending : ProgramEnding) →
    asked ≡ ask.Validate history → EndsValidated history input held holds ending → EndsAsked asked input left held holds ending
history_ended asked history input left held holds ending is ended =
    subst (λ (a : ProgramRequest). EndsAsked a input left held holds ending) (sym is) ended

-- how it ends where outcomes were asked for, unless memory was refused
pub outcomes_ended : {E : Type 0} (asked : ProgramRequest) (race : Outcomes) (input left held holds : Option (List ℕ)) (r : Result ProgramEnding E) →
    asked ≡ ask.Outcomes race → IfOk r (λ ending. (ending ≡ Listed) ⊎ (ending ≡ Refused)) →
    (race.form ≡ Text → race.ends ≡ false → IfOk r (EndsTold race input held holds)) → IfOk r (EndsAsked asked input left held holds)
outcomes_ended asked race input left held holds (Ok ending) is ends told =
    let ended : EndsOutcomes race input held holds ending = record { ends = ends; told = told } in
    subst (λ (a : ProgramRequest). EndsAsked a input left held holds ending) (sym is) ended
outcomes_ended asked race input left held holds (Err refused) is ends told = tt

-- how it ends where a replay was asked for
pub replay_ended : (asked : ProgramRequest) (replay : Replay) (input left held holds : Option (List ℕ)) (ending : ProgramEnding) →
    asked ≡ ask.Replay replay → EndsReplay replay input left held holds ending → EndsAsked asked input left held holds ending
replay_ended asked replay input left held holds ending is ended =
    subst (λ (a : ProgramRequest). EndsAsked a input left held holds ending) (sym is) ended

-- what ends so ends with none that is otherwise
otherwise : (is : ProgramEnding → Bool) (ending other : ProgramEnding) → is ending ≡ true → is other ≡ false → ending ≡ other → ⊥
otherwise is ending other so not same = true≢false (sym so ∙ ap is same ∙ not)

-- one at least is checked
some_told : (n : ℕ) (held holds : Option (List ℕ)) → TellsPassed (count_checked n) held holds → TellsSomePassed held holds
some_told zero held holds told = record { others = 0; told = told }
some_told (suc n) held holds told = record { others = n; told = told }

-- a replay that ended well
answered : (answer : Result (Unit {0}) ReplayFault) → ending_of false answer ≡ Done → answer ≡ Ok tt
answered (Ok x) e = refl
answered (Err fault) e = cc

module _ (input left held holds : Option (List ℕ)) where
  -- who ends with `Done` was asked for a plain replay of standard input
  pub done_plainly : (asked : ProgramRequest) (ending : ProgramEnding) → EndsAsked asked input left held holds ending → ending ≡ Done → IsPlainOfInput asked
  done_plainly (ask.Replay r) ending ends done = elim ends.ends [
    | inl e ↦ (let plain = of_input r.file r.form r.over_gates (sym e ∙ done) in
        record { replay = r; is = refl; plain = record { form = plain.0; core = plain.1 }; of_input = plain.2 })
    | inr e ↦ cc
  ]
  done_plainly (ask.Check files) ending ends done = elim ends.ends [ inl e ↦ cc | inr e ↦ cc ]
  done_plainly (ask.Bless files) ending (inl e) done = cc
  done_plainly (ask.Bless files) ending (inr e) done = cc
  done_plainly (ask.Explain refusals) ending (inl e) done = cc
  done_plainly (ask.Explain refusals) ending (inr (inl e)) done = cc
  done_plainly (ask.Explain refusals) ending (inr (inr e)) done = cc
  done_plainly (ask.Outcomes race) ending ends done =
      absurd (otherwise is_of_outcomes ending Done (outcomes_end ending ends.ends) refl done)
  done_plainly (ask.Validate history) ending ends done = absurd (otherwise is_of_histories ending Done (histories_end history input held holds ending ends) refl done)
  done_plainly (ask.Run numbers tells) ending ends done = elim ends.ends [ inl e ↦ cc | inr e ↦ cc ]
  done_plainly (ask.Told text) ending (inl e) done = cc
  done_plainly (ask.Told text) ending (inr e) done = cc
  done_plainly ask.Misused ending e done = cc

  -- who ends with `Passed` was asked for checks, and tells of one at least that it passed
  pub passes : (asked : ProgramRequest) (ending : ProgramEnding) → EndsAsked asked input left held holds ending → ending ≡ Passed → TellsSomePassed held holds
  passes (ask.Replay r) ending ends passed = elim ends.ends [
    | inl e ↦ absurd (otherwise is_of_replay ending Passed (ap is_of_replay e ∙ replay_done r.file r.form r.over_gates) refl passed)
    | inr e ↦ cc
  ]
  passes (ask.Check files) ending ends passed = some_told _ held holds (ends.passed passed)
  passes (ask.Bless files) ending (inl e) passed = cc
  passes (ask.Bless files) ending (inr e) passed = cc
  passes (ask.Explain refusals) ending (inl e) passed = cc
  passes (ask.Explain refusals) ending (inr (inl e)) passed = cc
  passes (ask.Explain refusals) ending (inr (inr e)) passed = cc
  passes (ask.Outcomes race) ending ends passed =
      absurd (otherwise is_of_outcomes ending Passed (outcomes_end ending ends.ends) refl passed)
  passes (ask.Validate history) ending ends passed = absurd (otherwise is_of_histories ending Passed (histories_end history input held holds ending ends) refl passed)
  passes (ask.Run numbers tells) ending ends passed = elim ends.ends [ inl e ↦ cc | inr e ↦ cc ]
  passes (ask.Told text) ending (inl e) passed = cc
  passes (ask.Told text) ending (inr e) passed = cc
  passes ask.Misused ending e passed = cc

  -- who ends with `Ran` was asked for a run, which ended so
  pub ran : {P : Type 0} (asked : ProgramRequest) (ending : ProgramEnding) → ((numbers : Numbers) → EndsRun numbers ending → P) →
      EndsAsked asked input left held holds ending → ending ≡ Ran → P
  ran (ask.Replay r) ending by ends is = elim ends.ends [
    | inl e ↦ absurd (otherwise is_of_replay ending Ran (ap is_of_replay e ∙ replay_done r.file r.form r.over_gates) refl is)
    | inr e ↦ absurd (otherwise is_of_outcomes ending Ran (ap is_of_outcomes e) refl is)
  ]
  ran (ask.Check files) ending by ends is = elim ends.ends [ inl e ↦ cc | inr e ↦ cc ]
  ran (ask.Bless files) ending by (inl e) is = cc
  ran (ask.Bless files) ending by (inr e) is = cc
  ran (ask.Explain refusals) ending by (inl e) is = cc
  ran (ask.Explain refusals) ending by (inr (inl e)) is = cc
  ran (ask.Explain refusals) ending by (inr (inr e)) is = cc
  ran (ask.Outcomes race) ending by ends is =
      absurd (otherwise is_of_outcomes ending Ran (outcomes_end ending ends.ends) refl is)
  ran (ask.Validate history) ending by ends is = absurd (otherwise is_of_histories ending Ran (histories_end history input held holds ending ends) refl is)
  ran (ask.Run numbers tells) ending by ends is = by numbers ends
  ran (ask.Told text) ending by (inl e) is = cc
  ran (ask.Told text) ending by (inr e) is = cc
  ran ask.Misused ending by e is = cc

  -- a plain replay of standard input is one
  pub replays : (asked : ProgramRequest) → IsPlainOfInput asked → (ending : ProgramEnding) → EndsAsked asked input left held holds ending →
      EndsReplayed false input left held holds ending
  replays asked p ending ends =
      let replay : EndsReplay p.replay input left held holds ending = subst (λ (a : ProgramRequest). EndsAsked a input left held holds ending) p.is ends in
      subst (λ (over_gates : Bool). EndsReplayed over_gates input left held holds ending) p.plain.core (replay.plain p.plain.form p.of_input)

  -- what ends with `Done` was a replay that ended well
  pub replayed : (asked : ProgramRequest) (ending : ProgramEnding) → EndsAsked asked input left held holds ending → ending ≡ Done →
      Replayed input left held holds (Ok tt)
  replayed asked ending ends done =
      let replay = replays asked (done_plainly asked ending ends done) ending ends in
      subst (λ (a : Result (Unit {0}) ReplayFault). Replayed input left held holds a) (answered replay.answer (sym replay.ends ∙ done))
      replay.replayed
