-- In each round the potential falls, or all have to wait; and then they do so in each further round.
use Rattle.progress_laws.proofs.Prelude.{AllWait, Begins, Bool, Config, Entry, HookAnswer, IsGood, IsWithin, List, None, Option, Phase, Some, Steps}
use Rattle.progress_laws.proofs.Prelude.{Words, World, [], after_step, ap, arith, cases_Bool, eqb_tells, false, happens, inl, inr, is_outside, refl}
use Rattle.progress_laws.proofs.Prelude.{run, subst, suc, sym, true, true≢false, turns_left, zero, ℕ, ◌<◌, ◌∙◌, ◌∷◌, ◌≡◌, ◌⊎◌}
use Rattle.std.proofs.Common.{◌++◌}
use Rattle.gate_schedules.specs.operations.Progress.{IsUnderWay}
use Rattle.progress_laws.proofs.nearer.{AllNearer.outside_waits, Nearer.{on_waits, patient_waits, waits_on}}
use Rattle.progress_laws.proofs.rounds.Measured.{IsStep, Keeps, Measures, after_good, by_entry, rounds_once, rounds_settle, run_keeps}
use Rattle.progress_laws.proofs.rounds.Settling.{IsRoomy, next_roomy, others_same, step_falls, step_same, step_stays, waits_at, waits_of}
use Rattle.progress_laws.specs.{Answers.{AllAnswerSo, AnswersSo, IsPatient, RoundsAnswerSo}, FairRounds.{IsServed, MayAllStep, MayStep, RoundsExist}}
use Rattle.progress_laws.specs.{FairRounds.{SettlesFairly, SettlesOnce, StaysSettled, rests_at, run_all}, StepsLeft.{potential, start_room, try_room}}

-- who rests has to wait
rest_waits : (w : Words) (p : Option Phase) → rests_at w p ≡ true → waits_of w p ≡ true
rest_waits w None h = refl
rest_waits w (Some phase) h = outside_waits w phase h

module _ (c : Config) (lim : IsWithin c) (lost : ℕ → Bool) where
  -- each that isn't lost has to wait, or is idle
  abbrev pub AllIn : World → Type 0
  AllIn w = (t : ℕ) → t < c.tasks → lost t ≡ false → waits_at w t ≡ true

  all_in : (w : World) → AllWait c lost w → AllIn w
  all_in w all t lt live = one (w.views t).phase refl
    where
      one : (p : Option Phase) → (w.views t).phase ≡ p → waits_of w.words p ≡ true
      one None at = refl
      one (Some phase) at = all t lt live phase at

  pub all_wait : (w : World) → AllIn w → AllWait c lost w
  all_wait w all t lt live phase at = sym (ap (waits_of w.words) at) ∙ all t lt live

  -- the potential falls with each step that doesn't wait, whatever `keep_waiting` answers
  potential_falls : (such : ℕ → HookAnswer → Type 0) (starts tries : ℕ) →
      Measures c lim lost such waits_at (potential starts tries c) (IsRoomy starts tries c)
  potential_falls such starts tries = record {
    rest = λ w t rests. rest_waits w.words (w.views t).phase rests;
    step = λ w good roomy t phase hook (lt, live, at, awake, answers). elim (cases_Bool (waits_on w.words phase hook)) [
      | inr free ↦ inl (step_falls c lim w good t lt phase at hook starts tries roomy free)
      | inl waits ↦
          let h = step_stays c lim w good t lt phase at hook waits awake in
          inr (h.0 starts tries, h.1, ap (waits_of w.words) at ∙ on_waits w.words phase hook waits)
    ];
    measured = λ w good roomy t phase hook (lt, live, at, awake, answers). next_roomy c lim w good t lt phase at hook starts tries roomy;
  }

  -- who has to wait does so with this answer
  waits_so : (w : World) (t : ℕ) (phase : Phase) (hook : HookAnswer) → AllIn w → IsStep c lim lost IsPatient waits_at w t phase hook →
      waits_on w.words phase hook ≡ true
  waits_so w t phase hook all (lt, live, at, awake, patient) =
      patient_waits w.words phase hook patient (sym (ap (waits_of w.words) at) ∙ all t lt live)

  -- where all have to wait, no step changes that, if freezes are told to wait on
  patient_keeps : Keeps c lim lost IsPatient waits_at
  patient_keeps w good all t phase hook s =
      let h = step_stays c lim w good t s.0 phase s.2 hook (waits_so w t phase hook all s) s.3 in λ u lu live. h.1 u ∙ all u lu live

  pub settles_fairly : (w : World) → IsGood c w → SettlesFairly c lost (turns_left c w) w
  settles_fairly w good rounds are patient le =
      all_wait (run_all c w rounds)
      (rounds_settle c lim lost IsPatient waits_at (potential (start_room c w) (try_room c w) c) (IsRoomy (start_room c w) (try_room c w) c)
      (potential_falls IsPatient (start_room c w) (try_room c w)) patient_keeps rounds w good (omega arith, omega arith) are patient (omega (arith, le)))

  -- any answers
  abbrev AnyAnswer : ℕ → HookAnswer → Type 0
  AnyAnswer t hook = Unit {0}

  any_answers : (es : List Entry) (w : World) → AllAnswerSo AnyAnswer c w es
  any_answers [] w = tt
  any_answers (Begins t op ∷ es) w = (tt, any_answers es (happens c w (Begins t op)))
  any_answers (Steps t hook ∷ es) w = (λ phase at asks. tt, any_answers es (happens c w (Steps t hook)))

  any_rounds : (rounds : List (List Entry)) (w : World) → RoundsAnswerSo AnyAnswer c w rounds
  any_rounds [] w = tt
  any_rounds (es ∷ rounds) w = (any_answers es w, any_rounds rounds (run c w es))

  pub settles_once : (w : World) → IsGood c w → SettlesOnce c lost (turns_left c w) w
  settles_once w good rounds are le =
      let some = rounds_once c lim lost AnyAnswer waits_at (potential (start_room c w) (try_room c w) c) (IsRoomy (start_room c w) (try_room c w) c)
      (potential_falls AnyAnswer (start_room c w) (try_room c w)) rounds w good (omega arith, omega arith) are (any_rounds rounds w) (omega (arith, le)) in
      (some.0, some.1, some.2, all_wait (run_all c w some.0) some.3)

  -- where all have to wait, one transition changes no word, and is no reply
  abbrev Same : World → World → Type 0
  Same w next = (next.words ≡ w.words) × ((t : ℕ) → t < c.tasks → IsUnderWay w t → IsUnderWay next t)

  entry_same : (w : World) → IsGood c w → (e : Entry) → MayStep lost w e → AnswersSo IsPatient w e → AllIn w → Same w (happens c w e)
  entry_same w good e may patient all =
      by_entry c lim lost IsPatient waits_at (Same w) w e may patient (refl, λ t lt on. on) (λ t phase hook s.
      let h = step_same c lim w good t s.0 phase s.2 hook (waits_so w t phase hook all s) s.3 in (
        h.0,
        λ u lu on. elim (eqb_tells u t) [
          | inl e ↦ subst (IsUnderWay (after_step w t phase hook)) (sym e.1) h.1
          | inr ne ↦ (on.0, others_same c lim w good t s.0 phase s.2 hook u ne.1 ∙ on.1)
        ],
      ))

  run_same : (es : List Entry) (w : World) → IsGood c w → MayAllStep c lost w es → AllAnswerSo IsPatient c w es → AllIn w → Same w (run c w es)
  run_same [] w good may patient all = (refl, λ t lt on. on)
  run_same (e ∷ es) w good may patient all =
      let first : Same w (happens c w e) = entry_same w good e may.0 patient.0 all in
      let kept : AllIn (happens c w e) = by_entry c lim lost IsPatient waits_at AllIn w e may.0 patient.0 all (patient_keeps w good all) in
      let rest : Same (happens c w e) (run c (happens c w e) es) = run_same es (happens c w e) (after_good c lim lost w good e) may.1 patient.1 kept in
      (rest.0 ∙ first.0, λ t lt on. rest.1 t lt (first.1 t lt on))

  pub stays_settled : (w : World) → IsGood c w → StaysSettled c lost w
  stays_settled w good waits es may patient =
      let all : AllIn w = all_in w waits in
      let same : Same w (run c w es) = run_same es w good may patient all in
      (all_wait (run c w es) (run_keeps c lim lost IsPatient waits_at patient_keeps es w good may patient all), same.0, same.1)

  -- what each transition of a round answers
  abbrev AllSay : HookAnswer → World → List Entry → Type 0
  AllSay answer w es = AllAnswerSo (λ t hook. hook ≡ answer) c w es

  -- one task after the other takes a step, if it isn't lost and doesn't rest
  record RoundOf (answer : HookAnswer) (n : ℕ) (w : World) : Type 0 where
    entries : List Entry
    may : MayAllStep c lost w entries
    says : AllSay answer w entries
    serves : (t : ℕ) → t < n → lost t ≡ false → IsServed c t w entries

  rest_decides : (w : Words) (o : Option Phase) → (rests_at w o ≡ true) ⊎ ((phase : Phase) × (o ≡ Some phase) × (is_outside w phase ≡ false))
  rest_decides w o = grind arith

  some_same : (a b : Phase) → Some a ≡ Some b → a ≡ b
  some_same a b e = ap (λ (o : Option Phase). elim o [ None ↦ a | Some x ↦ x ]) e

  -- who is served among some transitions is so if others come before, or after
  served_later : (t : ℕ) (w : World) (es more : List Entry) → IsServed c t w es → IsServed c t w (es ++ more)
  served_later t w [] [] served = served
  served_later t w [] (e ∷ more) served = inl served
  served_later t w (e ∷ es) more (inl now) = inl now
  served_later t w (e ∷ es) more (inr (inl mine)) = inr (inl mine)
  served_later t w (e ∷ es) more (inr (inr later)) = inr (inr (served_later t (happens c w e) es more later))

  served_then : (t : ℕ) (w : World) (es more : List Entry) → IsServed c t (run c w es) more → IsServed c t w (es ++ more)
  served_then t w [] more served = served
  served_then t w (e ∷ es) more served = inr (inr (served_then t (happens c w e) es more served))

  may_then : (w : World) (es more : List Entry) → MayAllStep c lost w es → MayAllStep c lost (run c w es) more → MayAllStep c lost w (es ++ more)
  may_then w [] more may then_ = then_
  may_then w (e ∷ es) more may then_ = (may.0, may_then (happens c w e) es more may.1 then_)

  says_then : (answer : HookAnswer) (w : World) (es more : List Entry) → AllSay answer w es → AllSay answer (run c w es) more →
      AllSay answer w (es ++ more)
  says_then answer w [] more says then_ = then_
  says_then answer w (e ∷ es) more says then_ = (says.0, says_then answer (happens c w e) es more says.1 then_)

  one_round : (answer : HookAnswer) (n : ℕ) (w : World) → RoundOf answer n w
  one_round answer zero w = record { entries = []; may = tt; says = tt; serves = λ t lt live. absurd (omega (arith, lt)) }
  one_round answer (suc n) w =
      let first : RoundOf answer n w = one_round answer n w in
      let v : World = run c w first.entries in
      elim (cases_Bool (lost n)) [
        | inl dead ↦ record {
          entries = first.entries;
          may = first.may;
          says = first.says;
          serves = λ t lt live. elim (eqb_tells t n) [
            | inl e ↦ absurd (true≢false (sym dead ∙ (sym (ap lost e.1) ∙ live)))
            | inr ne ↦ first.serves t (omega (arith, lt, ne.1)) live
          ];
        }
        | inr lives ↦ elim (rest_decides v.words (v.views n).phase) [
          | inl rests ↦ record {
            entries = first.entries ++ [];
            may = may_then w first.entries [] first.may tt;
            says = says_then answer w first.entries [] first.says tt;
            serves = λ t lt live. elim (eqb_tells t n) [
              | inl e ↦ subst (λ x. IsServed c x w (first.entries ++ [])) (sym e.1) (served_then n w first.entries [] rests)
              | inr ne ↦ served_later t w first.entries [] (first.serves t (omega (arith, lt, ne.1)) live)
            ];
          }
          | inr s ↦ record {
            entries = first.entries ++ (Steps n answer ∷ []);
            may = may_then w first.entries (Steps n answer ∷ []) first.may (
              (
                lives,
                λ phase at.
                    subst (λ (x : Phase). is_outside v.words x ≡ false) (some_same s.0 phase (sym s.1 ∙ at)) s.2,
              ),
              tt,
            );
            says = says_then answer w first.entries (Steps n answer ∷ []) first.says (λ phase at asks. refl, tt);
            serves = λ t lt live. elim (eqb_tells t n) [
              | inl e ↦ subst (λ x. IsServed c x w (first.entries ++ (Steps n answer ∷ []))) (sym e.1)
                  (served_then n w first.entries (Steps n answer ∷ []) (inr (inl refl)))
              | inr ne ↦ served_later t w first.entries (Steps n answer ∷ []) (first.serves t (omega (arith, lt, ne.1)) live)
            ];
          }
        ]
      ]

  pub rounds_exist : (w : World) → RoundsExist c lost w
  rounds_exist w answer zero = ([], tt, tt, refl)
  rounds_exist w answer (suc n) =
      let first : RoundOf answer c.tasks w = one_round answer c.tasks w in
      let more = rounds_exist (run c w first.entries) answer n in
      (first.entries ∷ more.0, ((first.may, first.serves), more.1), (first.says, more.2), ap suc more.3)
