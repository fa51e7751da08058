-- The states of a schedule that goes on, and the transitions of one number in it.
use Rattle.gate_steps.proofs.Prelude.{Config, Entry, List, None, NoneOf, Phase, Some, View, World, [], ap, append-nil, append_assoc, arith, happens}
use Rattle.gate_steps.proofs.Prelude.{inl, inr, opening, refl, run, subst, sym, world_after, ℕ, ◌++◌, ◌∙◌, ◌∷◌, ◌≡◌}
use Rattle.std.proofs.lemmas.Bool.Decides.{eqb_tells}
use Rattle.{access_model.specs.Histories.Done, gate_schedules.proofs.schedules.{Entries.begun_on, Runs.{history_on, run_more}}}
use Rattle.gate_world.specs.{Headline.{actions_since, actions_so_far}, Worlds.{history, task_of}, refusals.Causes.{since_begun, trail, trail_of}}
use Rattle.gate_steps.specs.call_events.Spans.{own_entries}

-- the transitions of a number in two lists, one after the other
pub own_more : (n : ℕ) (a b : List Entry) → own_entries n (a ++ b) ≡ own_entries n a ++ own_entries n b
own_more n [] b = refl
own_more n (e ∷ a) b =
    elim (eqb_tells (task_of e) n) [
      | inl h ↦ rw h.0 (ap (λ (l : List Entry). e ∷ l) (own_more n a b))
      | inr h ↦ rw h.0 (own_more n a b)
    ]

pub own_none : (n : ℕ) (es : List Entry) → NoneOf n es → own_entries n es ≡ []
own_none n [] none = refl
own_none n (e ∷ es) none =
    elim (eqb_tells (task_of e) n) [ inl h ↦ absurd (none.0 h.1) | inr h ↦ rw h.0 (own_none n es none.1) ]

pub own_one : (n : ℕ) (e : Entry) (es : List Entry) → task_of e ≡ n → own_entries n (e ∷ es) ≡ e ∷ own_entries n es
own_one n e es its = elim (eqb_tells (task_of e) n) [ inl h ↦ rw h.0 refl | inr h ↦ absurd (h.1 its) ]

pub entry_quiet : (c : Config) (w : World) (n : ℕ) (e : Entry) → (task_of e ≡ n → ⊥) → (happens c w e).views n ≡ w.views n
entry_quiet c w n e other = grind arith

pub run_quiet : (c : Config) (n : ℕ) (es : List Entry) (w : World) → NoneOf n es → (run c w es).views n ≡ w.views n
run_quiet c n [] w none = refl
run_quiet c n (e ∷ es) w none = run_quiet c n es (happens c w e) none.1 ∙ entry_quiet c w n e none.0

-- two schedules, one after the other
pub run_append : (c : Config) (a b : List Entry) (w : World) → run c w (a ++ b) ≡ run c (run c w a) b
run_append c [] b w = refl
run_append c (e ∷ a) b w = run_append c a b (happens c w e)

history_append : (c : Config) (a b : List Entry) (w : World) (earlier : List Done) →
    history c w earlier (a ++ b) ≡ history c (run c w a) (history c w earlier a) b
history_append c [] b w earlier = refl
history_append c (e ∷ a) b w earlier = history_append c a b (happens c w e) _

pub actions_append : (c : Config) (a b : List Entry) → actions_so_far c (a ++ b) ≡ actions_since c a b ++ actions_so_far c a
actions_append c a b = history_append c a b opening [] ∙ history_on c (run c opening a) (history c opening [] a) b

-- the states of a schedule with one transition more
pub trail_more : (c : Config) (earlier : List World) (w : World) (es : List Entry) (e : Entry) →
    trail c earlier w (es ++ e ∷ []) ≡ happens c (run c w es) e ∷ trail c earlier w es
trail_more c earlier w [] e = refl
trail_more c earlier w (x ∷ es) e = trail_more c (w ∷ earlier) (happens c w x) es e

-- the newest of them is the one that it leaves
pub trail_ends : (c : Config) (earlier : List World) (w : World) (es : List Entry) →
    (rest : List World) × (trail c earlier w es ≡ run c w es ∷ rest)
trail_ends c earlier w [] = (earlier, refl)
trail_ends c earlier w (e ∷ es) = trail_ends c (w ∷ earlier) (happens c w e) es

-- an idle number has none since it began
none_begun : (n : ℕ) (w : World) (earlier : List World) → (w.views n).phase ≡ None → since_begun n (w ∷ earlier) ≡ []
none_begun n w earlier idle = rw idle refl

pub idle_since : (c : Config) (n : ℕ) (es : List Entry) → ((world_after c es).views n).phase ≡ None → since_begun n (trail_of c es) ≡ []
idle_since c n es idle =
    let ends = trail_ends c [] opening es in ap (since_begun n) ends.1 ∙ none_begun n (world_after c es) ends.0 idle

-- States since a number began its operation, in a schedule that goes on while the operation does
module _ (c : Config) (n : ℕ) (start : World) (phase : Phase) where
  pub one_since : (es since : List Entry) (e : Entry) → since_begun n (trail_of c es) ≡ trail c [] start since →
      run c start since ≡ world_after c es → ((happens c (world_after c es) e).views n).phase ≡ Some phase →
      since_begun n (trail_of c (es ++ e ∷ [])) ≡ trail c [] start (since ++ e ∷ [])
  one_since es since e worlds same at =
      ap (since_begun n) (trail_more c [] opening es e) ∙
      (begun_on n (happens c (world_after c es) e) (trail_of c es) phase at ∙
      ((λ i. happens c (sym same i) e ∷ worlds i) ∙ sym (trail_more c [] start since e)))

  pub one_run : (es since : List Entry) (e : Entry) → run c start since ≡ world_after c es →
      run c start (since ++ e ∷ []) ≡ world_after c (es ++ e ∷ [])
  one_run es since e same =
      run_more c start since e ∙ (ap (λ (w : World). happens c w e) same ∙ sym (run_more c opening es e))

  -- while others go on
  pub more_since : (gap es since : List Entry) → NoneOf n gap → since_begun n (trail_of c es) ≡ trail c [] start since →
      run c start since ≡ world_after c es → ((world_after c es).views n).phase ≡ Some phase →
      since_begun n (trail_of c (es ++ gap)) ≡ trail c [] start (since ++ gap)
  more_since [] es since none worlds same at =
      let P : List Entry × List Entry → Type 0 = λ z. since_begun n (trail_of c z.0) ≡ trail c [] start z.1 in
      subst P (λ i. (sym (append-nil es) i, sym (append-nil since) i)) worlds
  more_since (e ∷ gap) es since none worlds same at =
      let P : List Entry × List Entry → Type 0 = λ z. since_begun n (trail_of c z.0) ≡ trail c [] start z.1 in
      let stays : ((happens c (world_after c es) e).views n).phase ≡ Some phase =
      ap (λ (v : View). v.phase) (entry_quiet c (world_after c es) n e none.0) ∙ at in
      let there : ((world_after c (es ++ e ∷ [])).views n).phase ≡ Some phase =
      ap (λ (w : World). (w.views n).phase) (run_more c opening es e) ∙ stays in
      subst P (λ i. (append_assoc es (e ∷ []) gap i, append_assoc since (e ∷ []) gap i))
      (more_since gap (es ++ e ∷ []) (since ++ e ∷ []) none.1 (one_since es since e worlds same stays) (one_run es since e same) there)
