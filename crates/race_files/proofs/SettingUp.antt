-- Lines that set up, one after the other.
use Rattle.std.proofs.Common.{Bool, Err, IfOk, List, None, Ok, OnOk, Option, Result, Some, [], ap, append_assoc, arith, bytes_eq, codes, false}
use Rattle.std.proofs.Common.{if◌then◌else◌, inl, inr, not, ok_or, refl, subst, suc, sym, take, true, ℕ, ◌++◌, ◌+◌, ◌==◌, ◌∙◌, ◌∷◌, ◌≡◌}
use Rattle.std.{proofs.lemmas.{Bool.{cases_Bool, eqb-true}, Slice.Eq.bytes_eq-Decides}, specs.{List.position_or_len, Result.result_and}}
use Rattle.gate_world.specs.declared.config.Config.{Config}
use Rattle.schedule_lines.specs.{Numbers.is_digits, Words.{after_word, first_word, is_space, word_count}, declared.faults.Fault.Fault}
use Rattle.schedule_lines.specs.declared.faults.Fault.TheVariants.{NoSuchTask, UnknownCommand, WrongNumberOfWords}
use Rattle.schedule_text.specs.Parsing.{alone, arguments_of, command_line, config_line, config_of, expect, is_skipped, parsed, task_line, task_of}
use Rattle.schedule_text.specs.{Parsing.◌>>=◌, Verbs.{takes, verb_of}, declared.commands.Line.{Line, TheVariants.Config as ConfigLine}}
use Rattle.schedule_text.specs.declared.commands.{Line.TheVariants.{Request as RequestLine, Skipped}, Request.{Request, TheVariants.Task}}
use Rattle.transcripts.specs.{Limits.is_config, Transcript.{ReplayState, config_effect, line_effect, opening_play, request_outcome}}
use Rattle.race_files.specs.{Calls.is_race, Left.{Left, behind}, SettingUp.{AreDone, IsDone, Opens, SetsUp}}

-- lines after others
done_more : (from mid to : Option ReplayState) (before after : List (List ℕ)) → AreDone from before mid → AreDone mid after to →
    AreDone from (before ++ after) to
done_more from mid to [] after first more = subst (λ (p : Option ReplayState). AreDone p after to) (sym first) more
done_more from mid to (text ∷ texts) after first more = (first.0, first.1, done_more first.0 mid to texts after first.2 more)

-- no line yet
pub none_yet : (p : Option ReplayState) (all : Left) → SetsUp p p all all
none_yet p all = record { before = []; lines = refl; end = refl; done = refl }

-- one more
pub one_more : (from to next : Option ReplayState) (all left now : Left) (line : List ℕ) → SetsUp from to all left →
    left.lines ≡ line ∷ (behind left).lines → now ≡ behind left → IsDone to line next → SetsUp from next all now
one_more from to next all left now line so_far first rest is = record {
  before = so_far.before ++ line ∷ [];
  lines = so_far.lines ∙ (ap (λ (l : List (List ℕ)). so_far.before ++ l) (first ∙ ap (λ (x : Left). line ∷ x.lines) (sym rest)) ∙
      sym (append_assoc so_far.before (line ∷ []) now.lines));
  end = ap (λ (x : Left). x.fault) rest ∙ so_far.end;
  done = done_more from to next so_far.before (line ∷ []) so_far.done (next, is, refl);
}

-- and those that come behind
pub and_more : (from mid to : Option ReplayState) (all left now : Left) → SetsUp from mid all left → SetsUp mid to left now → SetsUp from to all now
and_more from mid to all left now first second = record {
  before = first.before ++ second.before;
  lines = first.lines ∙ (ap (λ (l : List (List ℕ)). first.before ++ l) second.lines ∙
      sym (append_assoc first.before second.before now.lines));
  end = second.end ∙ first.end;
  done = done_more from mid to first.before second.before first.done second.done;
}

-- so it is where a play is opened
pub opening : (p : ReplayState) (all left : Left) → Opens p all left → SetsUp None (Some p) all left
opening p all left opens = one_more None None (Some p) all opens.before left opens.text opens.unopened opens.first opens.rest opens.opens

-- a line whose first word isn't `race`
not_race : (line : List ℕ) → bytes_eq (first_word line) (codes "race") ≡ false → is_race line ≡ Ok false
unfolding is_race
not_race line other = rw other refl

-- the first word of a line that doesn't begin with a space
word_from : (x : ℕ) (xs : List ℕ) → is_space x ≡ false → first_word (x ∷ xs) ≡ x ∷ first_word xs
unfolding first_word
word_from x xs other =
    let n : ℕ = position_or_len is_space xs in
    let e : 1 + n ≡ suc n = omega arith in
    rw other (ap (λ k. take k (x ∷ xs)) e)

-- that of an empty line or a comment isn't `race`
no_word : (x : ℕ) (rest : List ℕ) → x ≡ 35 → x ∷ rest ≡ codes "race" → ⊥
no_word x rest hash is = let r : x ≡ 114 = cc in omega (arith, hash, r)

empty_word : first_word [] ≡ []
unfolding first_word
empty_word = refl

skipped_word : (line : List ℕ) → is_skipped line ≡ true → first_word line ≡ codes "race" → ⊥
skipped_word [] skipped is = let word : [] ≡ codes "race" = sym empty_word ∙ is in let no : ⊥ = cc in no
skipped_word (first ∷ others) skipped is =
    let hash : first ≡ 35 = eqb-true first 35 skipped in
    let other : is_space first ≡ false = ap is_space hash in
    no_word first (first_word others) hash (sym (word_from first others other) ∙ is)

-- so a line that is understood before the configuration is no `race`
config_word : (line : List ℕ) (l : Line) → config_line line ≡ Ok l → bytes_eq (first_word line) (codes "config") ≡ true
unfolding config_line
config_word line l e = elim (cases_Bool (bytes_eq (first_word line) (codes "config"))) [
  | inl named ↦ named
  | inr other ↦
      let fault : config_line line ≡ Err Fault.ConfigExpected = rw other refl in
      absurd (let f : ⊥ = cc in f)
]

pub before_config : (line : List ℕ) (l : Line) → parsed line None ≡ Ok l → is_race line ≡ Ok false
unfolding parsed
before_config line l e = elim (cases_Bool (bytes_eq (first_word line) (codes "race"))) [
  | inr other ↦ not_race line other
  | inl race ↦
      let word : first_word line ≡ codes "race" = (bytes_eq-Decides (first_word line) (codes "race")).0 race in
      elim (cases_Bool (is_skipped line)) [
        | inl skipped ↦ absurd (skipped_word line skipped word)
        | inr not_skipped ↦
            let config : config_line line ≡ Ok l = sym (rw not_skipped refl) ∙ e in
            let named : first_word line ≡ codes "config" =
            (bytes_eq-Decides (first_word line) (codes "config")).0 (config_word line l config) in
            absurd (let f : ⊥ = cc in f)
      ]
]

-- what is made of a line that is understood is one of these
record Makes (Is : Line → Type 0) (made : Result Line Fault) : Type 0 where
  is : IfOk made Is

module _ (Is : Line → Type 0) where
  no_fault : (fault : Fault) → Makes Is (Err fault)
  no_fault fault = record { is = tt }

  either_is : (b : Bool) (r s : Result Line Fault) → Makes Is r → Makes Is s → Makes Is (if b then r else s)
  either_is true r s h k = h
  either_is false r s h k = k

  then_is : {A : Type 0} (r : Result A Fault) (f : A → Result Line Fault) → ((x : A) → Makes Is (f x)) → Makes Is (r >>= f)
  then_is (Ok x) f h = h x
  then_is (Err fault) f h = no_fault fault

abbrev IsNoRequest : Line → Type 0
IsNoRequest Skipped = Unit {0}
IsNoRequest (ConfigLine c) = Unit {0}
IsNoRequest (RequestLine request) = ⊥

a_config : (c : Config) → Makes IsNoRequest (Ok (ConfigLine c))
a_config c = record { is = tt }

config_no : (line : List ℕ) → Makes IsNoRequest (config_line line)
unfolding config_line
config_no line =
    then_is IsNoRequest (expect (bytes_eq (first_word line) (codes "config")) Fault.ConfigExpected) _ (λ named.
    then_is IsNoRequest (expect (word_count line == 6) WrongNumberOfWords) _ (λ whole.
    then_is IsNoRequest (config_of (after_word line)) _ (λ config. a_config config)))

-- before the configuration no line is a request
before_no : (line : List ℕ) → Makes IsNoRequest (parsed line None)
unfolding parsed
before_no line = either_is IsNoRequest (is_skipped line) _ _ (record { is = tt }) (config_no line)

-- so one that is no configuration makes no play
skipped_so : (l : Line) → IsNoRequest l → ((c : Config) → l ≡ ConfigLine c → ⊥) → ((line_effect None l).fault ≡ None) × ((line_effect None l).play ≡ None)
skipped_so Skipped plain other = (refl, refl)
skipped_so (ConfigLine c) plain other = absurd (other c refl)
skipped_so (RequestLine request) plain other = absurd plain

pub no_config : (line : List ℕ) (l : Line) → parsed line None ≡ Ok l → ((c : Config) → l ≡ ConfigLine c → ⊥) → IsDone None line None
no_config line l understood other =
    let so = skipped_so l (subst (λ (r : Result Line Fault). IfOk r IsNoRequest) understood (before_no line).is) other in record {
      line = l;
      no_race = before_config line l understood;
      understood = understood;
      faultless = so.0;
      makes = so.1;
    }

-- the configuration opens one
pub config_opens : (line : List ℕ) (c : Config) → parsed line None ≡ Ok (ConfigLine c) → is_config c ≡ true → IsDone None line (Some (opening_play c))
config_opens line c understood lawful = record {
  line = ConfigLine c;
  no_race = before_config line (ConfigLine c) understood;
  understood = understood;
  faultless = ap (λ b. (config_effect c b).fault) lawful;
  makes = ap (λ b. (config_effect c b).play) lawful;
}

abbrev IsNoConfig : Line → Type 0
IsNoConfig Skipped = Unit {0}
IsNoConfig (ConfigLine c) = ⊥
IsNoConfig (RequestLine request) = Unit {0}

a_request : (request : Request) → Makes IsNoConfig (Ok (RequestLine request))
a_request request = record { is = tt }

alone_no : (words : ℕ) (request : Request) → Makes IsNoConfig (alone words request)
alone_no words request = either_is IsNoConfig (words == 1) _ _ (record { is = tt }) (no_fault IsNoConfig _)

task_no : (line : List ℕ) (tasks : ℕ) → Makes IsNoConfig (task_line line tasks)
unfolding task_line
task_no line tasks =
    then_is IsNoConfig (ok_or (verb_of (first_word (after_word line))) UnknownCommand) _ (λ verb.
    then_is IsNoConfig (expect (takes verb (word_count line)) WrongNumberOfWords) _ (λ allowed.
    then_is IsNoConfig (ok_or (task_of (first_word line) tasks) NoSuchTask) _ (λ task.
    then_is IsNoConfig (arguments_of verb (after_word (after_word line)) (word_count line)) _ (λ command. a_request (Task task command)))))

-- behind the configuration no line is one
command_no : (line : List ℕ) (tasks : ℕ) → Makes IsNoConfig (command_line line tasks)
unfolding command_line
command_no line tasks =
    either_is IsNoConfig (bytes_eq (first_word line) (codes "config")) _ _ (no_fault IsNoConfig _)
    (either_is IsNoConfig (bytes_eq (first_word line) (codes "words")) _ _ (alone_no _ Request.Words)
    (either_is IsNoConfig (bytes_eq (first_word line) (codes "tree")) _ _ (alone_no _ Request.Tree)
    (either_is IsNoConfig (bytes_eq (first_word line) (codes "model")) _ _ (alone_no _ Request.Model)
    (either_is IsNoConfig (not (is_digits (first_word line))) _ _ (no_fault IsNoConfig _)
    (either_is IsNoConfig (word_count line == 1) _ _ (no_fault IsNoConfig _) (task_no line tasks))))))

parsed_no : (line : List ℕ) (tasks : ℕ) → Makes IsNoConfig (parsed line (Some tasks))
unfolding parsed
parsed_no line tasks = either_is IsNoConfig (is_skipped line) _ _ (record { is = tt }) (command_no line tasks)

stays_so : (q : ReplayState) (l : Line) → IsNoConfig l → ((r : Request) → l ≡ RequestLine r → ⊥) →
    ((line_effect (Some q) l).fault ≡ None) × ((line_effect (Some q) l).play ≡ Some q)
stays_so q Skipped plain other = (refl, refl)
stays_so q (ConfigLine c) plain other = absurd plain
stays_so q (RequestLine request) plain other = absurd (other request refl)

-- so one that asks for nothing leaves the play
pub no_request : (q : ReplayState) (line : List ℕ) (l : Line) → is_race line ≡ Ok false → parsed line (Some q.config.tasks) ≡ Ok l →
    ((r : Request) → l ≡ RequestLine r → ⊥) → IsDone (Some q) line (Some q)
no_request q line l no_race understood other =
    let so = stays_so q l (subst (λ (r : Result Line Fault). IfOk r IsNoConfig) understood (parsed_no line q.config.tasks).is) other in record {
      line = l;
      no_race = no_race;
      understood = understood;
      faultless = so.0;
      makes = so.1;
    }

-- and one that asks for something does it
pub request_done : (q : ReplayState) (line : List ℕ) (request : Request) → is_race line ≡ Ok false →
    parsed line (Some q.config.tasks) ≡ Ok (RequestLine request) → IsDone (Some q) line (Some (request_outcome q request).play)
request_done q line request no_race understood = record {
  line = RequestLine request;
  no_race = no_race;
  understood = understood;
  faultless = refl;
  makes = refl;
}

-- what is known of an answer, of a session that is given in its place
pub and_made : {U E S : Type 0} (r : Result U E) (session : S) (P : Type 0) (Q : S → Type 0) → (P → Q session) → OnOk r P →
    IfOk (result_and {U = S} r (Ok session)) Q
and_made (Ok x) session P Q f h = f h
and_made (Err e) session P Q f h = tt
