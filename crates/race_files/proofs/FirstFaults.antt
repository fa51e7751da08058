-- The first fault of the lines before a race.
use Rattle.std.proofs.Common.{Err, List, None, Ok, Option, Result, Some, ap, false, inl, inr, subst, sym, true, ℕ, ◌∙◌, ◌∷◌, ◌≡◌, ◌⊎◌}
use Rattle.std.{proofs.lemmas.Bool.cases_Bool, specs.Result.{IfErr, IsErrAnd, MatchResult, result_and}}
use Rattle.{access_model.specs.declared.errors.GateError.TheVariants.{Invalid, NoMemory}, gate_world.specs.declared.config.Config.Config}
use Rattle.schedule_lines.specs.declared.faults.Fault.{Fault, TheVariants.Refused}
use Rattle.schedule_text.specs.{Parsing.parsed, declared.commands.Line.TheVariants.Config as ConfigLine}
use Rattle.transcripts.specs.{Limits.is_config, Transcript.{ReplayState, config_effect}}
use Rattle.race_files.{proofs.SettingUp.and_more, specs.{Calls.is_race, FirstFaults.{FailsBeforeRace, FailsBeforeRace.{AtEnd, AtLine}}}}
use Rattle.race_files.specs.{FirstFaults.{IsMemory, fault_at_end, fault_of_line, fault_unless_race}, Left.{Left, behind, none_left}, SettingUp.SetsUp}
use Rattle.race_files.specs.declared.faults.RaceFault.{RaceFault, TheVariants.Schedule}

-- no line follows
pub at_end : (from play : Option ReplayState) (all left : Left) (end : Option Fault) (fault : RaceFault) → SetsUp from play all left →
    left ≡ none_left end → fault ≡ fault_at_end play end → FailsBeforeRace from all left fault ⊎ IsMemory fault
at_end from play all left end fault so_far none is =
    inl (AtEnd play so_far (ap (λ (x : Left). x.lines) none) (is ∙ ap (λ (x : Left). fault_at_end play x.fault) (sym none)))

-- a line isn't understood, before the configuration
pub no_line : (from : Option ReplayState) (all left : Left) (text : List ℕ) (of_line : Fault) (fault : RaceFault) → SetsUp from None all left →
    left.lines ≡ text ∷ (behind left).lines → parsed text None ≡ Err of_line → fault ≡ Schedule of_line → FailsBeforeRace from all left fault ⊎ IsMemory fault
no_line from all left text of_line fault so_far first e is = inl (AtLine None text of_line so_far first (ap (fault_of_line None) e) is)

-- a configuration that isn't within the limits
bad_config : (from : Option ReplayState) (all left : Left) (text : List ℕ) (c : Config) (fault : RaceFault) → SetsUp from None all left →
    left.lines ≡ text ∷ (behind left).lines → parsed text None ≡ Ok (ConfigLine c) → is_config c ≡ false → fault ≡ Schedule (Refused Invalid) →
    FailsBeforeRace from all left fault ⊎ IsMemory fault
bad_config from all left text c fault so_far first understood bad is =
    inl (AtLine None text (Refused Invalid) so_far first (ap (fault_of_line None) understood ∙ ap (λ b. (config_effect c b).fault) bad) is)

-- an answer has one error
err_same : {A E : Type 0} (r : Result A E) (a b : E) → r ≡ Err a → r ≡ Err b → a ≡ b
err_same r a b h k = cc

-- a session of it isn't opened
pub not_opened : {A : Type 0} (from : Option ReplayState) (all left : Left) (text : List ℕ) (c : Config) (answer : Result A Fault) (told : Fault) (fault : RaceFault) →
    SetsUp from None all left → left.lines ≡ text ∷ (behind left).lines → parsed text None ≡ Ok (ConfigLine c) → answer ≡ Err told →
    (is_config c ≡ false → answer ≡ Err (Refused Invalid)) → (is_config c ≡ true → IfErr answer (λ f. f ≡ Refused NoMemory)) →
    fault ≡ Schedule told → FailsBeforeRace from all left fault ⊎ IsMemory fault
not_opened {A} from all left text c answer told fault so_far first understood was invalid memory is = elim (cases_Bool (is_config c)) [
  | inl good ↦ inr (is ∙ ap Schedule (subst (λ (r : Result A Fault). IfErr r (λ f. f ≡ Refused NoMemory)) was (memory good)))
  | inr bad ↦ bad_config from all left text c fault so_far first understood bad
      (is ∙ ap Schedule (err_same answer told (Refused Invalid) was (invalid bad)))
]

-- it isn't told whether a line behind the configuration is `race`
pub no_word : (from : Option ReplayState) (play : ReplayState) (all left : Left) (text : List ℕ) (of_line : Fault) (fault : RaceFault) →
    SetsUp from (Some play) all left → left.lines ≡ text ∷ (behind left).lines → is_race text ≡ Err of_line → fault ≡ Schedule of_line →
    FailsBeforeRace from all left fault ⊎ IsMemory fault
no_word from play all left text of_line fault so_far first e is =
    inl (AtLine (Some play) text of_line so_far first (ap (fault_unless_race play text) e) is)

-- a line behind it isn't understood
pub no_request_line : (from : Option ReplayState) (play : ReplayState) (all left : Left) (text : List ℕ) (of_line : Fault) (fault : RaceFault) →
    SetsUp from (Some play) all left → left.lines ≡ text ∷ (behind left).lines → is_race text ≡ Ok false →
    parsed text (Some play.config.tasks) ≡ Err of_line → fault ≡ Schedule of_line → FailsBeforeRace from all left fault ⊎ IsMemory fault
no_request_line from play all left text of_line fault so_far first other e is =
    inl (AtLine (Some play) text of_line so_far first (ap (fault_unless_race play text) other ∙ ap (fault_of_line (Some play)) e) is)

-- lines that come behind others have the fault of all
pub behind_others : (from mid : Option ReplayState) (all left now : Left) (fault : RaceFault) → SetsUp from mid all left →
    FailsBeforeRace mid left now fault ⊎ IsMemory fault → FailsBeforeRace from all now fault ⊎ IsMemory fault
behind_others from mid all left now fault so_far (inr memory) = inr memory
behind_others from mid all left now fault so_far (inl (AtLine play text of_line done first e is)) =
    inl (AtLine play text of_line (and_more from mid play all left now so_far done) first e is)
behind_others from mid all left now fault so_far (inl (AtEnd play done none is)) =
    inl (AtEnd play (and_more from mid play all left now so_far done) none is)

-- the fault of an answer, of another that is given in its place
pub and_fault : {T U E : Type 0} (r : Result T E) (x : U) (P Q : E → Type 0) → ((e : E) → P e → Q e) → IfErr r P → IfErr (result_and r (Ok x)) Q
and_fault (Ok y) x P Q f h = tt
and_fault (Err e) x P Q f h = f e h

-- the fault of an answer whose error was mapped
pub fault_mapped : {A E F : Type 0} (r : Result A E) (s : Result A F) (Post : E → F → Type 0) (P : E → Type 0) (Q : F → Type 0) →
    MatchResult r (λ x. s ≡ Ok x) (λ e. IsErrAnd s (Post e)) → IfErr r P → ((e : E) (f : F) → P e → Post e f → Q f) → IfErr s Q
fault_mapped {A} {E} {F} (Ok x) s Post P Q cases h to = subst (λ (a : Result A F). IfErr a Q) (sym cases) tt
fault_mapped (Err e) (Ok x) Post P Q cases h to = absurd cases
fault_mapped (Err e) (Err f) Post P Q cases h to = to e f h cases

-- a weaker fact of a fault
pub fault_weaker : {A E : Type 0} (r : Result A E) (P Q : E → Type 0) → ((e : E) → P e → Q e) → IfErr r P → IfErr r Q
fault_weaker (Ok x) P Q f h = tt
fault_weaker (Err e) P Q f h = f e h

-- of any answer
pub any_fault : {A E : Type 0} (r : Result A E) → IfErr r (λ e. Unit {0})
any_fault (Ok x) = tt
any_fault (Err e) = tt
