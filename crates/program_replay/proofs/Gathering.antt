-- What tasks know that have met.
use Rattle.std.proofs.Common.{◌≡◌, ◌≢◌, ℕ, zero, suc, ◌+◌, ◌<◌, ◌≤◌, List, [], ◌∷◌, ◌++◌, length, get_or, set, refl, sym, ap, ◌∙◌, subst, inl, inr, arith, get_or-set_same, get_or-set_other}
use Rattle.std.proofs.{lemmas.{Bool.Decides.{eqb_tells}, List.{get_or_default}}, Math.ListN.{length-set}}
use lib.ListN.{get_elem?}
use Rattle.gate_world.specs.{Headline.{world_after}, declared.{config.Config.{Config}, entries.Entry.{Entry}, views.View.{View}}}
use Rattle.gate_steps.specs.{Histories.{IsLike}, Seating.{DealtNumbers, HaveViews, IsPrefix}, call_events.Grown.{HasSeen, StaySeen}}
use Rattle.gate_steps.proofs.call_events.Grown.{after_more, both_stay_seen}
use Rattle.vfs_gates.specs.{Meetings.{Meets}, TaskStates.{SeatedTask, own_number, own_view}}
use Rattle.program_replay.specs.Standing.{AreGathered, HasMet, HasOnlySeen, Stands, StandsLater}

seen_on : (a b : List (List Entry)) → StaySeen a b → (e : List Entry) → HasSeen e a → HasSeen e b
seen_on a b stay e h = let r = stay h.0 h.1 h.2 in (r.0, r.1, r.2, after_more e h.1 r.1 h.3 r.3)

-- the own number of the first of two tasks whose numbers stand in one state
first_view : (views : ℕ → View) (mine others : DealtNumbers) → HaveViews views (mine ++ others) → 1 ≤ length mine →
    views (own_number mine) ≡ own_view mine
first_view views [] others have there = absurd (omega (arith, there))
first_view views (x ∷ mine) others have there = have 0 x refl

-- and of the second
second_view : (views : ℕ → View) (mine others : DealtNumbers) → HaveViews views (mine ++ others) → 1 ≤ length others →
    views (own_number others) ≡ own_view others
second_view views mine [] have there = absurd (omega (arith, there))
second_view views [] (y ∷ ys) have there = have 0 y refl
second_view views (x ∷ mine) (y ∷ ys) have there = second_view views mine (y ∷ ys) (λ k z at. have (suc k) z at) there

-- nothing has changed but what was seen, and again
pub only_seen_on : (a b c : SeatedTask) → HasOnlySeen a b → HasOnlySeen b c → HasOnlySeen a c
only_seen_on a b c one two = two ∙ ap (λ (x : SeatedTask). record x { seen = c.seen }) one

-- so it stands where it stood
later_still : (e : List Entry) (a b : SeatedTask) → HasOnlySeen a b → StandsLater e a → StandsLater e b
later_still e a b same stands = subst (StandsLater e) (sym same) (record {
  later = stands.later;
  goes_on = stands.goes_on;
  stands = record {
    phase = stands.stands.phase;
    events = stands.stands.events;
  };
})

module _ (one two first second : SeatedTask) (m : Meets one two first second) where
  abbrev now : List Entry
  now = m.stand.all.history.reached.entries

  joined : (e : List Entry) → HasSeen e (one.seen ++ two.seen) → IsPrefix e now
  joined e h = after_more e h.1 now h.3 (m.stand.from.goes_on h.0 h.1 h.2)

  saw : (e : List Entry) → HasSeen e (one.seen ++ two.seen) → HasSeen e m.seen
  saw e h = (0, now, ap (λ l. get_elem? l 0) m.stand.all.last, joined e h)

  saw_first : (e : List Entry) → HasSeen e one.seen → HasSeen e (one.seen ++ two.seen)
  saw_first e h = seen_on one.seen (one.seen ++ two.seen) (both_stay_seen one.seen two.seen).0 e h

  saw_second : (e : List Entry) → HasSeen e two.seen → HasSeen e (one.seen ++ two.seen)
  saw_second e h = seen_on two.seen (one.seen ++ two.seen) (both_stay_seen one.seen two.seen).1 e h

  pub first_same : HasOnlySeen one first
  first_same = m.first ∙ (λ i. record one { seen = sym (ap (λ (s : SeatedTask). s.seen) m.first) i })

  pub second_same : HasOnlySeen two second
  second_same = m.second ∙ (λ i. record two { seen = sym (ap (λ (s : SeatedTask). s.seen) m.second) i })

  pub first_saw : (e : List Entry) → HasSeen e one.seen → HasSeen e first.seen
  first_saw e h = subst (HasSeen e) (sym (ap (λ (s : SeatedTask). s.seen) m.first)) (saw e (saw_first e h))

  like : (n : ℕ) → IsLike ((world_after one.config now).views n) (m.stand.all.world.views n)
  like n = m.stand.all.history.reached.views n

  -- the first task has met the second
  pub first_met : HasMet two one first
  first_met = record {
    same = first_same;
    seen = λ e h. subst (HasSeen e) (sym (ap (λ (s : SeatedTask). s.seen) m.first)) (saw e (saw_second e h));
    stands = λ e h there. let view = first_view m.stand.all.world.views one.items two.items m.stand.all.mine there in
        later_still e one first first_same (record {
          later = now;
          goes_on = joined e (saw_second e h);
          stands = record {
            phase = (like (own_number one.items)).phase ∙ ap (λ (v : View). v.phase) view;
            events = (like (own_number one.items)).events ∙ ap (λ (v : View). v.events) view;
          };
        });
  }

  -- and the second the first, with all that another had seen which the first has seen
  pub second_met : (hub : SeatedTask) → ((e : List Entry) → HasSeen e hub.seen → HasSeen e one.seen) → HasMet hub two second
  second_met hub hears = record {
    same = second_same;
    seen = λ e h. subst (HasSeen e) (sym (ap (λ (s : SeatedTask). s.seen) m.second)) (saw e (saw_first e (hears e h)));
    stands = λ e h there. let view = second_view m.stand.all.world.views one.items two.items m.stand.all.mine there in
        later_still e two second second_same (record {
          later = now;
          goes_on = joined e (saw_first e (hears e h));
          stands = subst (λ (c : Config). Stands (world_after c now) (own_number two.items) two) (sym m.config) (record {
            phase = (like (own_number two.items)).phase ∙ ap (λ (v : View). v.phase) view;
            events = (like (own_number two.items)).events ∙ ap (λ (v : View). v.events) view;
          });
        });
  }

module _ (first last : SeatedTask) (others lasts : List SeatedTask) (same : HasOnlySeen first last)
    (saw : (e : List Entry) → HasSeen e first.seen → HasSeen e last.seen) (count : length lasts ≡ length others)
    (met : (k : ℕ) (t : SeatedTask) → k < length others → HasMet first (get_or others k t) (get_or lasts k t)) where
  -- after a step of the first task
  pub gathered_first : AreGathered 0 (first ∷ others) (last ∷ lasts)
  gathered_first = record {
    count = omega (arith, count);
    same = λ k t. elim k as (λ k. k < length (first ∷ others) → HasOnlySeen (get_or (first ∷ others) k t) (get_or (last ∷ lasts) k t)) [
      | zero ↦ (λ lt. same)
      | suc j ↦ (λ lt. (met j t (omega (arith, lt))).same)
    ];
    seen = λ e d h k t. elim k as (λ k. k < length (first ∷ others) → HasSeen e (get_or (last ∷ lasts) k t).seen) [
      | zero ↦ (λ lt. saw e h)
      | suc j ↦ (λ lt. (met j t (omega (arith, lt))).seen e h)
    ];
    stands = λ e d h k t. elim k as (λ k. k < length (first ∷ others) → k ≢ 0 → 1 ≤ length (get_or (first ∷ others) k t).items →
        StandsLater e (get_or (last ∷ lasts) k t)) [
          | zero ↦ (λ lt ne there. absurd (ne refl))
          | suc j ↦ (λ lt ne there. (met j t (omega (arith, lt))).stands e h there)
        ];
  }

module _ (first mid last other second : SeatedTask) (others lasts : List SeatedTask) (j : ℕ) (inside : j < length others)
    (its : other ≡ get_or others j other) (m : Meets first other mid second) (same : HasOnlySeen mid last)
    (saw : (e : List Entry) → HasSeen e mid.seen → HasSeen e last.seen) (count : length lasts ≡ length (set others j second))
    (met : (k : ℕ) (t : SeatedTask) → k < length (set others j second) → HasMet mid (get_or (set others j second) k t) (get_or lasts k t)) where
  many : length (set others j second) ≡ length others
  many = length-set others j second

  kept : (k : ℕ) (t : SeatedTask) → k < length others → HasOnlySeen (get_or others k t) (get_or (set others j second) k t)
  kept k t lt = elim (eqb_tells k j) [
    | inl is ↦ subst (λ (n : ℕ). HasOnlySeen (get_or others n t) (get_or (set others j second) n t)) (sym is.1)
        (subst (HasOnlySeen (get_or others j t)) (sym (get_or-set_same others j second t inside))
        (subst (λ (x : SeatedTask). HasOnlySeen x second) (its ∙ get_or_default others j other t inside) (second_same first other mid second m)))
    | inr ne ↦ subst (HasOnlySeen (get_or others k t)) (sym (get_or-set_other others j k second t ne.1)) refl
  ]

  heard : (e : List Entry) (d : SeatedTask) → HasSeen e (get_or others j d).seen → HasSeen e mid.seen
  heard e d h = (first_met first other mid second m).seen e
      (subst (λ (x : SeatedTask). HasSeen e x.seen) (sym (its ∙ get_or_default others j other d inside)) h)

  -- after a step of another
  pub gathered_other : AreGathered (suc j) (first ∷ others) (last ∷ lasts)
  gathered_other = record {
    count = omega (arith, count, many);
    same = λ k t. elim k as (λ k. k < length (first ∷ others) → HasOnlySeen (get_or (first ∷ others) k t) (get_or (last ∷ lasts) k t)) [
      | zero ↦ (λ lt. only_seen_on first mid last (first_same first other mid second m) same)
      | suc i ↦ (λ lt. only_seen_on (get_or others i t) (get_or (set others j second) i t) (get_or lasts i t) (kept i t (omega (arith, lt)))
          (met i t (omega (arith, lt, many))).same)
    ];
    seen = λ e d h k t. elim k as (λ k. k < length (first ∷ others) → HasSeen e (get_or (last ∷ lasts) k t).seen) [
      | zero ↦ (λ lt. saw e (heard e d h))
      | suc i ↦ (λ lt. (met i t (omega (arith, lt, many))).seen e (heard e d h))
    ];
    stands = λ e d h k t. elim k as (λ k. k < length (first ∷ others) → k ≢ suc j → 1 ≤ length (get_or (first ∷ others) k t).items →
        StandsLater e (get_or (last ∷ lasts) k t)) [
          | zero ↦ (λ lt ne there. later_still e mid last same ((first_met first other mid second m).stands e
              (subst (λ (x : SeatedTask). HasSeen e x.seen) (sym (its ∙ get_or_default others j other d inside)) h) there))
          | suc i ↦ (λ lt ne there. let low : i < length others = omega (arith, lt) in
              (met i t (omega (arith, low, many))).stands e (heard e d h)
              (subst (λ (l : DealtNumbers). 1 ≤ length l) (sym (ap (λ (x : SeatedTask). x.items) (kept i t low))) there))
        ];
  }

-- one meeting more of those that the first task has with each other one
module _ (hub first other mid second : SeatedTask) (was others : List SeatedTask) (i : ℕ) (inside : i < length others)
    (its : other ≡ get_or others i other) (m : Meets first other mid second) (hears : (e : List Entry) → HasSeen e hub.seen → HasSeen e first.seen)
    (met : (k : ℕ) (t : SeatedTask) → k < i → HasMet hub (get_or was k t) (get_or others k t))
    (rest : (k : ℕ) (t : SeatedTask) → i ≤ k → get_or others k t ≡ get_or was k t) where
  pub met_more : (k : ℕ) (t : SeatedTask) → k < i + 1 → HasMet hub (get_or was k t) (get_or (set others i second) k t)
  met_more k t lt = elim (eqb_tells k i) [
    | inl is ↦ (let same : other ≡ get_or was i t = its ∙ (get_or_default others i other t inside ∙ rest i t (omega arith)) in
        subst (λ (n : ℕ). HasMet hub (get_or was n t) (get_or (set others i second) n t)) (sym is.1)
        (subst (HasMet hub (get_or was i t)) (sym (get_or-set_same others i second t inside))
        (subst (λ (x : SeatedTask). HasMet hub x second) same (second_met first other mid second m hub hears))))
    | inr ne ↦ (let differ : k ≢ i = ne.1 in
        subst (HasMet hub (get_or was k t)) (sym (get_or-set_other others i k second t differ)) (met k t (omega (arith, lt, differ))))
  ]

  pub rest_more : (k : ℕ) (t : SeatedTask) → i + 1 ≤ k → get_or (set others i second) k t ≡ get_or was k t
  rest_more k t le = let differ : k ≢ i = omega (arith, le) in
      get_or-set_other others i k second t differ ∙ rest k t (omega (arith, le))

-- the same of values that are these
pub gathered_from_first : (number : ℕ) → number ≡ 0 → (first f last : SeatedTask) → f ≡ first → (others l lasts : List SeatedTask) → l ≡ others →
    HasOnlySeen f last → ((e : List Entry) → HasSeen e f.seen → HasSeen e last.seen) → length lasts ≡ length l →
    ((k : ℕ) (t : SeatedTask) → k < length l → HasMet f (get_or l k t) (get_or lasts k t)) → AreGathered number (first ∷ others) (last ∷ lasts)
gathered_from_first number none first f last is others l lasts are same saw count met =
    subst (λ n. AreGathered n (first ∷ others) (last ∷ lasts)) (sym none)
    (subst (λ (x : SeatedTask). AreGathered 0 (x ∷ others) (last ∷ lasts)) is
    (subst (λ (y : List SeatedTask). AreGathered 0 (f ∷ y) (last ∷ lasts)) are (gathered_first f last l lasts same saw count met)))

pub gathered_from_other : (number j : ℕ) → number ≡ suc j → (first mid f last other second : SeatedTask) → f ≡ mid → (others l lasts : List SeatedTask) →
    j < length others → other ≡ get_or others j other → l ≡ set others j second → Meets first other mid second → HasOnlySeen f last →
    ((e : List Entry) → HasSeen e f.seen → HasSeen e last.seen) → length lasts ≡ length l →
    ((k : ℕ) (t : SeatedTask) → k < length l → HasMet f (get_or l k t) (get_or lasts k t)) → AreGathered number (first ∷ others) (last ∷ lasts)
gathered_from_other number j next first mid f last other second is others l lasts inside its are m same saw count met =
    subst (λ n. AreGathered n (first ∷ others) (last ∷ lasts)) (sym next)
    (gathered_other first f last other second others lasts j inside its (subst (λ (x : SeatedTask). Meets first other x second) (sym is) m) same saw
    (count ∙ ap length are)
    (subst (λ (y : List SeatedTask). (k : ℕ) (t : SeatedTask) → k < length y → HasMet f (get_or y k t) (get_or lasts k t)) are met))
