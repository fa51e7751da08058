-- How the program ends that was asked for the outcomes of a race.
use Rattle.std.proofs.Common.{Bool, Err, IfErr, IfOk, IsTrue, List, None, Ok, Option, Result, Some, [], ap, arith, false, inl, inr, refl, subst, sym}
use Rattle.std.{proofs.{Common.{true, ℕ, ◌++◌, ◌<◌, ◌↔◌, ◌∙◌, ◌≡◌, ◌≤◌, ◌⊎◌}, lemmas.Bool.cases_lt}, specs.Io.KnownBytes.{Appends, Keeps}}
use Rattle.std.specs.Result.{OnErr, OnOk}
use Rattle.{command_line.specs.declared.words.Outcomes.Outcomes, exit_status.specs.declared.ends.ProgramEnding.ProgramEnding}
use Rattle.{gate_core.specs.Memory.Memory, outcome_forms.specs.Told.{TellsAll, TellsSome}}
use Rattle.{program_checks.specs.{Claims.{PrintsClaims, TellsClaims}, declared.claims.Judged.Judged}, race_files.specs.{Left.Left, Races.IsRaceIn}}
use Rattle.{race_outcomes.specs.Outcomes.{HaveOwnTexts, IsIdle}, races.specs.declared.calls.Call.Call}
use Rattle.schedule_lines.specs.{bytes.Writing.AppendsPart, declared.{faults.Fault.TheVariants.WriteFailed, output.Output.Output}}
use Rattle.mntgate.specs.Outcomes.{IsListed, IsUnlisted, IsUnlisted.IsCutOff, TellsAs, TellsRace, details_of, list_ending, method_of, outcomes_told}
use Rattle.mntgate.specs.declared.unlisted.Unlisted.{TheVariants.Unwritten, Unlisted}

-- all outcomes are printed, or those so far
pub tells_as : (b : Bool) (core : Memory) (calls : List (List (Option Call))) (tasks : ℕ) (asked : Outcomes) (before after : List ℕ)
    {expanded origins states : ℕ} → (IsTrue b ↔ (expanded ≡ origins)) → origins ≡ states → expanded ≤ states → tasks ≡ core.config.tasks →
    (expanded ≡ states → TellsAll (method_of asked.reduction) core calls (details_of asked) before after) →
    (expanded < states → TellsSome (method_of asked.reduction) core tasks calls asked.limit (details_of asked) before after) → TellsAs b core calls asked before after
tells_as true core calls tasks asked before after whole lengths within same all some = all (whole.0 refl ∙ lengths)
tells_as false core calls tasks asked before after {expanded} {origins} {states} whole lengths within same all some =
    subst (λ (k : ℕ). TellsSome (method_of asked.reduction) core k calls asked.limit (details_of asked) before after) same (some (not_all (cases_lt expanded states)))
  where
    false_true : false ≡ true → ⊥
    false_true e = cc

    not_all : (expanded < states) ⊎ (states ≤ expanded) → expanded < states
    not_all (inl less) = less
    not_all (inr more) = absurd (false_true (whole.1 (omega (arith, more, within, lengths))))

-- a race of a file begins with no operation under way, so each outcome that is printed has a line of its own
core_idle : (all : Left) (core : Memory) (calls : List (List (Option Call))) → IsRaceIn all core calls → IsIdle core
core_idle all core calls race t less =
    let tasks : core.config.tasks ≡ race.play.config.tasks = λ i. (race.shows.config i).tasks in
    race.shows.world.phases t less ∙ race.idle t (omega (arith, less, tasks))

pub own_lines : (whole : Bool) (all : Left) (core : Memory) (calls : List (List (Option Call))) (asked : Outcomes) (before after : List ℕ)
    (tells : TellsAs whole core calls asked before after) → IsRaceIn all core calls → HaveOwnTexts core.config.tasks calls (outcomes_told whole core calls asked before after tells)
own_lines true all core calls asked before after tells race = tells.are.so_far.apart (core_idle all core calls race)
own_lines false all core calls asked before after tells race = tells.are.apart (core_idle all core calls race)

-- the verdicts are all that was printed of the claims
pub verdicts_told : (core : Memory) (calls : List (List (Option Call))) (mark margin : List ℕ) (limit : ℕ) (lines : List (List ℕ)) (judged : Judged)
    (before after : Output) → before.bytes.items ≡ [] → after.is_whole ≡ true → PrintsClaims core calls mark margin limit lines judged before after →
    TellsClaims core calls mark margin limit lines judged after.bytes.items
verdicts_told core calls mark margin limit lines judged before after none whole prints =
    subst (λ (text : List ℕ). TellsClaims core calls mark margin limit lines judged text)
    (sym (prints.2.printed whole ∙ ap (λ (held : List ℕ). held ++ prints.0) none)) prints.1

-- the form and the limit are those that are asked for
pub claims_as : {E : Type 0} (core : Memory) (calls : List (List (Option Call))) (mark mark' margin margin' : List ℕ) (limit limit' : ℕ) (lines : List (List ℕ))
    (before after : Output) (r : Result Judged E) → mark ≡ mark' → margin ≡ margin' → limit ≡ limit' →
    IfOk r (λ judged. PrintsClaims core calls mark margin limit lines judged before after) →
    IfOk r (λ judged. PrintsClaims core calls mark' margin' limit' lines judged before after)
claims_as core calls mark mark' margin margin' limit limit' lines before after r same_mark same_margin same_limit told =
    subst (λ (m : List ℕ). IfOk r (λ judged. PrintsClaims core calls m margin' limit' lines judged before after)) same_mark
    (subst (λ (m : List ℕ). IfOk r (λ judged. PrintsClaims core calls mark m limit' lines judged before after)) same_margin
    (subst (λ (n : ℕ). IfOk r (λ judged. PrintsClaims core calls mark margin n lines judged before after)) same_limit told))

-- a writer that nobody wrote to
pub kept : (held : Option (List ℕ)) → Keeps held held
kept None = tt
kept (Some bytes) = refl

module _ (asked : Outcomes) (bytes : List ℕ) (held holds : Option (List ℕ)) (whole : Bool) (judged : Judged) (before told : List ℕ) where
  -- what was printed is written
  pub listed : (r : Result ProgramEnding Unlisted) → before ≡ [] → TellsRace asked whole judged bytes before told →
      IfOk r (λ ending. ending ≡ list_ending whole judged) → OnOk r (Appends held holds told) → IfOk r (IsListed asked bytes held holds)
  listed (Ok ending) none tells ends written = record {
    whole = whole;
    judged = judged;
    text = told;
    tells = subst (λ (b : List ℕ). TellsRace asked whole judged bytes b told) none tells;
    written = written;
    ends = ends;
  }
  listed (Err why) none tells ends written = tt

  -- or a write failed
  pub cut_off : (r : Result ProgramEnding Unlisted) → before ≡ [] → TellsRace asked whole judged bytes before told →
      IfErr r (λ why. why ≡ Unwritten WriteFailed) → OnErr r (AppendsPart held holds told) → IfErr r (IsUnlisted asked bytes held holds)
  cut_off (Ok ending) none tells is part = tt
  cut_off (Err why) none tells is part =
      IsCutOff whole judged told (subst (λ (b : List ℕ). TellsRace asked whole judged bytes b told) none tells) part is
