-- A whole call takes effect between call and return, and calls whose schedules go on from each other do so in order.
use Rattle.gate_steps.proofs.Prelude.{Action, AreMoves, Begins, Called, Config, DealtNumbers, Entry, GateError, HaveViews, IsNextMove, IsPrefix, List}
use Rattle.gate_steps.proofs.Prelude.{Next, Op, Phase, Reply, Result, SeatedTask, Steps, Traced, View, [], ap, append_assoc, arith, get_elem?}
use Rattle.gate_steps.proofs.Prelude.{own_number, own_view, refl, some, state_of_trace, subst, sym, world_after, ℕ, ◌++◌, ◌∙◌, ◌∷◌, ◌≡◌}
use Rattle.std.proofs.lemmas.List.{append_cancel_right}
use Rattle.access_model.{proofs.Lists.part_append, specs.{Histories.{Done, own_part}, declared.replies.Next.TheVariants.Done as Ended}}
use Rattle.{gate_schedules.proofs.schedules.HeadlineProof.whole_run, gate_world.specs.Headline.{actions_since, actions_so_far}}
use Rattle.gate_steps.{proofs.call_events.{Grown.only, Moments.{actions_append, own_more, own_one}, Spanning.last_event}, specs.Seating.HaveHistory}
use Rattle.gate_steps.specs.call_events.{Grown.HasSeen, Runs.ran_items, Spans.{AreInOrder, GoesOnFromSeen, IsEventDuring, TakesEffect}}

-- of no numbers there is no move
pub none_moves : (c : Config) (op : Op) (earlier : List Traced) (e : Traced) (seen gone : List (List Entry)) (comes : Next Phase) →
    IsNextMove c op [] earlier e seen gone comes → ⊥
none_moves c op earlier e seen gone comes m = grind arith

-- what a number has added since it began: all that it has done but for what it had
since_then : (n : ℕ) (log later before : List Done) (all added was : List Action) → log ≡ later ++ before → own_part n log ≡ all →
    all ≡ added ++ was → own_part n before ≡ was → own_part n later ≡ added
since_then n log later before all added was is whole ends had = grind (arith, append_cancel_right, own_part, part_append)

module _ (c : Config) (op : Op) (seen gone : List (List Entry)) (e : Traced) (earlier : List Traced) where
  -- what the own number has done in the one history that is left
  has_done : (items left : DealtNumbers) → left ≡ ran_items c op (e ∷ earlier) items → AreMoves c op items seen (e ∷ earlier) gone →
      (h : HaveHistory c left gone) →
      own_part (own_number items) h.history.log ≡ (state_of_trace c (own_number items) op (e ∷ earlier)).added ++ (own_view items).actions
  has_done [] left is moves h = absurd (none_moves c op earlier e moves.0 gone (state_of_trace c 0 op earlier).comes moves.1)
  has_done (x ∷ xs) left is moves h =
      let mine = subst (HaveViews h.world.views) is h.mine in
      h.history.lists x.number ∙ ap (λ (v : View). v.actions) (mine 0 _ refl)

  -- and what it had done in the one with which the call began
  had_done : (items : DealtNumbers) (began : List Entry) → AreMoves c op items seen (e ∷ earlier) gone → GoesOnFromSeen c items seen began →
      ((world_after c began).views (own_number items)).actions ≡ (own_view items).actions
  had_done [] began moves h = absurd (none_moves c op earlier e moves.0 gone (state_of_trace c 0 op earlier).comes moves.1)
  had_done (x ∷ xs) began moves h = h.lists 0 x refl

  trace_effect : (items left : DealtNumbers) → left ≡ ran_items c op (e ∷ earlier) items → AreMoves c op items seen (e ∷ earlier) gone →
      (h : HaveHistory c left gone) → TakesEffect c items op (e ∷ earlier) seen gone h.history.log
  trace_effect items left is moves h =
      let n : ℕ = own_number items in
      let last = last_event c op items seen gone e earlier moves in
      let one : IsEventDuring c items op earlier e seen gone = last.0 in
      let begin : Entry = Begins n op in
      let step : Entry = Steps n e.hook in
      let since : List Entry = begin ∷ (one.since ++ step ∷ []) in
      let leaves : gone ≡ (one.began ++ since) ∷ [] =
      one.leaves ∙ ((λ i. (one.is i ++ step ∷ last.1 i) ∷ []) ∙
      ap (λ (l : List Entry). l ∷ []) (append_assoc one.began (begin ∷ one.since) (step ∷ []))) in
      let same : one.began ++ since ≡ h.history.reached.entries =
      only (one.began ++ since) 0 h.history.reached.entries (ap (λ l. get_elem? l 0) (sym leaves ∙ h.last)) in
      let grows : h.history.log ≡ actions_since c one.began since ++ actions_so_far c one.began =
      sym (ap (actions_so_far c) same ∙ h.history.reached.made) ∙ actions_append c one.began since in record {
        began = one.began;
        begins = one.begins;
        since = since;
        own = own_one n begin (one.since ++ step ∷ []) refl ∙
            ap (λ (l : List Entry). begin ∷ l)
            (own_more n one.since (step ∷ []) ∙ (λ i. one.own i ++ own_one n step [] refl i));
        leaves = leaves;
        grows = grows;
        had = λ k x there. (whole_run c one.within one.began).lists x.number ∙ one.begins.lists k x there;
        added = since_then n h.history.log (actions_since c one.began since) (actions_so_far c one.began) _
            (state_of_trace c n op (e ∷ earlier)).added (own_view items).actions grows (has_done items left is moves h) refl
            ((whole_run c one.within one.began).lists n ∙ had_done items one.began moves one.begins);
      }

any_effect : (c : Config) (op : Op) (items left : DealtNumbers) (seen gone : List (List Entry)) (answer : Result Reply GateError)
    (trace : List Traced) → (state_of_trace c (own_number items) op trace).comes ≡ Ended answer → left ≡ ran_items c op trace items →
    AreMoves c op items seen trace gone → (h : HaveHistory c left gone) → TakesEffect c items op trace seen gone h.history.log
any_effect c op items left seen gone answer [] ends is moves h = absurd (let no : ⊥ = cc in no)
any_effect c op items left seen gone answer (e ∷ earlier) ends is moves h = trace_effect c op seen gone e earlier items left is moves h

-- so of each whole call
pub call_effect : (op : Op) (old left : SeatedTask) (answer : Result Reply GateError) (called : Called op old left answer) →
    TakesEffect old.config old.items op called.trace old.seen left.seen called.history.history.log
call_effect op old left answer called =
    any_effect old.config op old.items left.items old.seen left.seen answer called.trace called.ends
    (ap (λ (s : SeatedTask). s.items) called.after) called.moves called.history

-- and two of which the later one has seen what the earlier one left
pub in_order : (c : Config) (items others : DealtNumbers) (one two : Op) (first second : List Traced) (seen left begins ends : List (List Entry))
    (log now : List Done) → TakesEffect c items one first seen left log → TakesEffect c others two second begins ends now →
    ((k : ℕ) (there : List Entry) → get_elem? left k ≡ some there → HasSeen there begins) →
    AreInOrder (own_number items) (state_of_trace c (own_number items) one first).added (own_number others)
    (state_of_trace c (own_number others) two second).added now
in_order c items others one two first second seen left begins ends log now f s all =
    let there : List Entry = f.began ++ f.since in
    let known : HasSeen there begins = all 0 there (ap (λ l. get_elem? l 0) f.leaves) in
    let on : IsPrefix there known.1 = known.3 in
    let more : IsPrefix known.1 s.began = s.begins.saw known.0 known.1 known.2 in
    let gap : List Entry = on.0 ++ more.0 in
    let began : s.began ≡ there ++ gap =
    more.1 ∙ (ap (λ (l : List Entry). l ++ more.0) on.1 ∙ append_assoc there on.0 more.0) in record {
      later = actions_since c s.began s.since;
      between = actions_since c there gap;
      earlier = actions_since c f.began f.since;
      before = actions_so_far c f.began;
      is = s.grows ∙ ap (λ (l : List Done). actions_since c s.began s.since ++ l)
          (ap (actions_so_far c) began ∙ (actions_append c there gap ∙
          ap (λ (l : List Done). actions_since c there gap ++ l) (actions_append c f.began f.since)));
      of_first = f.added;
      of_second = s.added;
    }
