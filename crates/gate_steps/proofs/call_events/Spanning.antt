-- Each step of a call has its moment between call and return.
use Rattle.gate_steps.proofs.Prelude.{AreMoves, Begins, Config, DealtNumbers, Done, Entry, Go, HookAnswer, IsNextMove, IsPrefix, List, Next, None}
use Rattle.gate_steps.proofs.Prelude.{NoneOf, Numbered, Op, Option, Phase, Some, Steps, Traced, View, Wait, World, [], after_of, ap, append-nil}
use Rattle.gate_steps.proofs.Prelude.{append_assoc, arith, done_by, entered, event_of, found_by, get_elem?, happens, length, next_of, numbered}
use Rattle.gate_steps.proofs.Prelude.{opening, own_number, own_view, phase_after, refl, run, state_of_trace, subst, sym, view_after_with_others}
use Rattle.gate_steps.proofs.Prelude.{world_after, ℕ, ◌++◌, ◌∙◌, ◌∷◌, ◌≡◌}
use Rattle.gate_schedules.proofs.schedules.{Entries.begun_on, Runs.run_more}
use Rattle.gate_world.specs.{Views.with_hook, refusals.Causes.{since_begun, trail, trail_of}, traces.TraceStates.TraceState}
use Rattle.gate_steps.proofs.{Dealing.times-at, Reaching.begins_idle, call_events.Grown.{after_more, goes_on_after, next_on, sees_on_stays}}
use Rattle.gate_steps.proofs.call_events.Moments.{idle_since, more_since, one_run, one_since, own_more, own_none, own_one, run_append, run_quiet}
use Rattle.gate_steps.proofs.call_events.{Moments.trail_more, Resting.{formed_rest, no_entry}, Running.course_is}
use Rattle.gate_steps.specs.{Histories.{IsLike, IsWellFormed}, Seating.StepWitness, call_events.Grown.{AllGoOn, HasSeen, StaySeen}}
use Rattle.gate_steps.specs.call_events.{Runs.{IsMoveOf, events_onto, ran_view}, Spans.{HappensAfter, IsEventDuring, own_entries, worlds_since}}

-- the moment of a step that was a move of a phase, of an operation that was under way with these earlier steps
happens_after : (c : Config) (op : Op) (earlier : List Traced) (e : Traced) (begins : Option Op) (phase : Phase) (x : Numbered)
    (xs : DealtNumbers) (found : ℕ) (seen gone : List (List Entry)) →
    phase_after (state_of_trace c x.number op earlier).comes ≡ Some phase →
    e ≡ with_hook (event_of (next_of phase e.hook).0 (next_of phase e.hook).1 found) e.hook →
    (move : StepWitness c begins phase e.hook x xs found seen gone) → (entered x.view begins phase).phase ≡ Some phase →
    (entered x.view begins phase).op ≡ Some op → (entered x.view begins phase).trace ≡ earlier →
    HappensAfter c x.number op earlier e move.reached.entries
happens_after c op earlier e begins phase x xs found seen gone comes is move at under_way events = grind arith

-- the schedule that a step leaves
leaves_so : (c : Config) (begins : Option Op) (phase : Phase) (hook : HookAnswer) (x : Numbered) (xs : DealtNumbers) (found : ℕ)
    (seen gone : List (List Entry)) (move : StepWitness c begins phase hook x xs found seen gone) →
    gone ≡ (move.reached.entries ++ Steps x.number hook ∷ []) ∷ []
leaves_so c begins phase hook x xs found seen gone move = move.leaves ∙ ap (λ (l : List Entry). l ∷ []) move.stepped

-- the task of the last step has seen all up to it
abbrev IsLast : (c : Config) (items : DealtNumbers) (op : Op) (earlier : List Traced) (e : Traced) (seen gone : List (List Entry)) → Type 0
IsLast c items op earlier e seen gone = (d : IsEventDuring c items op earlier e seen gone) × (d.rest ≡ [])

-- in the state that a schedule leaves, a number's operation stands where these steps lead, and it has had no other steps since it began with
-- this view
abbrev StandsAfter : Config → ℕ → Op → View → List Traced → List Entry → Type 0
StandsAfter c n op v trace entries = (((world_after c entries).views n).phase ≡ phase_after (state_of_trace c n op trace).comes) ×
    (((world_after c entries).views n).events ≡ events_onto trace v.events)

-- the step of a phase that stands leads on from there
leads_on : (c : Config) (n : ℕ) (op : Op) (earlier : List Traced) (e : Traced) (phase : Phase) (found : ℕ) →
    phase_after (state_of_trace c n op earlier).comes ≡ Some phase →
    e ≡ with_hook (event_of (next_of phase e.hook).0 (next_of phase e.hook).1 found) e.hook →
    phase_after (after_of phase (found_by (next_of phase e.hook).1 found) e.hook).0 ≡ phase_after (state_of_trace c n op (e ∷ earlier)).comes
leads_on c n op earlier e phase found comes is =
    (λ i. phase_after (after_of phase (sym is i).event.found e.hook).0) ∙
    ap (λ (s : TraceState). phase_after s.comes)
    (sym (course_is (state_of_trace c n op earlier).comes phase (state_of_trace c n op earlier).added e comes))

-- where a step's schedule leaves its number
stands_after : (c : Config) (op : Op) (earlier : List Traced) (e : Traced) (begins : Option Op) (phase : Phase) (x : Numbered)
    (xs : DealtNumbers) (found : ℕ) (v : View) (seen gone : List (List Entry)) →
    phase_after (state_of_trace c x.number op earlier).comes ≡ Some phase →
    e ≡ with_hook (event_of (next_of phase e.hook).0 (next_of phase e.hook).1 found) e.hook →
    (entered x.view begins phase).events ≡ events_onto earlier v.events →
    (move : StepWitness c begins phase e.hook x xs found seen gone) →
    StandsAfter c x.number op v (e ∷ earlier) (move.reached.entries ++ Steps x.number e.hook ∷ [])
stands_after c op earlier e begins phase x xs found v seen gone comes is had move =
    let like = move.history.reached.views x.number in
    let mine = move.left 0 (numbered x.number (view_after_with_others (done_by xs) (entered x.view begins phase) phase found e.hook)) refl in
    let at : (world_after c (move.reached.entries ++ Steps x.number e.hook ∷ [])).views x.number ≡
    (world_after c move.history.reached.entries).views x.number = ap (λ (l : List Entry). (world_after c l).views x.number) (sym move.stepped) in (
      ap (λ (u : View). u.phase) at ∙ (like.phase ∙ (ap (λ (u : View). u.phase) mine ∙ leads_on c x.number op earlier e phase found comes is)),
      ap (λ (u : View). u.events) at ∙ (like.events ∙ (ap (λ (u : View). u.events) mine ∙
          (λ i. (sym is i).event ∷ had i))),
    )

-- the last step, and where it leaves the task's own number
abbrev Lasts : (c : Config) (items : DealtNumbers) (op : Op) (earlier : List Traced) (e : Traced) (seen gone : List (List Entry)) → Type 0
Lasts c items op earlier e seen gone = (last : IsLast c items op earlier e seen gone) ×
    StandsAfter c (own_number items) op (own_view items) (e ∷ earlier) (last.0.entries ++ Steps (own_number items) e.hook ∷ [])

module _ (c : Config) (op : Op) (x : Numbered) (xs : DealtNumbers) (e : Traced) (phase : Phase) (found : ℕ) where
  abbrev n : ℕ
  n = x.number

  -- the first step
  first_event : (seen gone : List (List Entry)) → phase_after (state_of_trace c n op []).comes ≡ Some phase →
      e ≡ with_hook (event_of (next_of phase e.hook).0 (next_of phase e.hook).1 found) e.hook →
      StepWitness c (Some op) phase e.hook x xs found seen gone → Lasts c (x ∷ xs) op [] e seen gone
  first_event seen gone comes is move =
      let past : List Entry = move.past.reached.entries in
      let like : IsLike ((world_after c past).views n) (move.world.views n) = move.past.reached.views n in
      let mine : move.world.views n ≡ x.view = move.mine 0 x refl in
      let idle : ((world_after c past).views n).phase ≡ None =
      like.phase ∙ (ap (λ (v : View). v.phase) mine ∙ begins_idle c x.view op move.may.0) in
      let happens_so : HappensAfter c n op [] e move.reached.entries =
      happens_after c op [] e (Some op) phase x xs found seen gone comes is move refl refl refl in
      let at : ((happens c (world_after c past) (Begins n op)).views n).phase ≡ Some happens_so.phase =
      ap (λ (w : World). (w.views n).phase) (sym (run_more c opening past (Begins n op)) ∙ ap (world_after c) (sym move.begun)) ∙
      happens_so.at in
      let began : since_begun n (trail_of c (past ++ Begins n op ∷ [])) ≡ worlds_since c past n op [] =
      ap (since_begun n) (trail_more c [] opening past (Begins n op)) ∙
      (begun_on n (happens c (world_after c past) (Begins n op)) (trail_of c past) happens_so.phase at ∙
      (λ i. sym (run_more c opening past (Begins n op)) i ∷ idle_since c n past idle i)) in (
        (
          record {
            within = move.within;
            task = move.task;
            began = past;
            begins = record {
              saw = move.from.goes_on;
              rested = move.from.rested n (times-at (x ∷ xs) 0 x refl);
              idle = idle;
              lists = λ k y there. (move.past.reached.views y.number).actions ∙ ap (λ (v : View). v.actions) (move.mine k y there);
            };
            since = [];
            own = refl;
            entries = move.reached.entries;
            is = move.begun;
            moments = ap (λ (l : List Entry). since_begun n (trail_of c l)) move.begun ∙ began;
            happens = happens_so;
            rest = [];
            leaves = leaves_so c (Some op) phase e.hook x xs found seen gone move;
          },
          refl,
        ),
        stands_after c op [] e (Some op) phase x xs found x.view seen gone comes is refl move,
      )

  -- since the step before this one its number has had no transition: it is where that one left it
  rests_until : (d : Traced) (ds : List Traced) (v : View) (es gap : List Entry) (saw gone : List (List Entry)) →
      phase_after (state_of_trace c n op (d ∷ ds)).comes ≡ Some phase → v.events ≡ events_onto (d ∷ ds) x.view.events →
      (move : StepWitness c None phase e.hook (numbered n v) xs found saw gone) → move.past.reached.entries ≡ es ++ gap →
      StandsAfter c n op x.view (d ∷ ds) es → NoneOf n gap
  rests_until d ds v es gap saw gone comes had move is stands =
      let formed : IsWellFormed c opening (es ++ gap) = subst (IsWellFormed c opening) is move.past.reached.formed in
      let events : ((run c (world_after c es) gap).views n).events ≡ events_onto (d ∷ ds) x.view.events =
      ap (λ (w : World). (w.views n).events) (sym (ap (world_after c) is ∙ run_append c es gap opening)) ∙
      ((move.past.reached.views n).events ∙ (ap (λ (u : View). u.events) (move.mine 0 (numbered n v) refl) ∙ had)) in
      let same : length ((run c (world_after c es) gap).views n).events ≡ length ((world_after c es).views n).events =
      ap length (events ∙ sym stands.1) in
      no_entry c n move.task phase gap (world_after c es) (formed_rest c es gap opening formed) (stands.0 ∙ comes) (omega arith)

  -- and each further one, after the one before
  next_event : (d : Traced) (ds : List Traced) (v : View) (seen before saw gone : List (List Entry)) →
      phase_after (state_of_trace c n op (d ∷ ds)).comes ≡ Some phase →
      e ≡ with_hook (event_of (next_of phase e.hook).0 (next_of phase e.hook).1 found) e.hook → v.phase ≡ Some phase →
      v.op ≡ Some op → v.trace ≡ d ∷ ds → v.events ≡ events_onto (d ∷ ds) x.view.events →
      StepWitness c None phase e.hook (numbered n v) xs found saw gone → StaySeen before saw → Lasts c (x ∷ xs) op ds d seen before →
      Lasts c (x ∷ xs) op (d ∷ ds) e seen gone
  next_event d ds v seen before saw gone comes is at under_way events had move stays (last, stands) =
      let one : IsEventDuring c (x ∷ xs) op ds d seen before = last.0 in
      let step : Entry = Steps n d.hook in
      let begin : Entry = Begins n op in
      let es : List Entry = one.entries in
      let past : List Entry = move.past.reached.entries in
      let seen_last : before ≡ (es ++ step ∷ []) ∷ [] = one.leaves ∙ ap (λ (l : List Entry). (es ++ step ∷ l) ∷ []) last.1 in
      let later : HasSeen (es ++ step ∷ []) saw = stays 0 (es ++ step ∷ []) (ap (λ l. get_elem? l 0) seen_last) in
      let on : IsPrefix (es ++ step ∷ []) past =
      after_more (es ++ step ∷ []) later.1 past later.3 (move.from.goes_on later.0 later.1 later.2) in
      let gap : List Entry = on.0 in
      let rests : NoneOf n gap = rests_until d ds v (es ++ step ∷ []) gap saw gone comes had move on.1 stands in
      let grown : move.reached.entries ≡ (es ++ step ∷ []) ++ gap = move.begun ∙ on.1 in
      let happens_so : HappensAfter c n op (d ∷ ds) e move.reached.entries =
      happens_after c op (d ∷ ds) e None phase (numbered n v) xs found saw gone comes is move at under_way events in
      let start : World = world_after c (one.began ++ begin ∷ []) in
      let so_far : run c start one.since ≡ world_after c es =
      sym (ap (world_after c) (one.is ∙ sym (append_assoc one.began (begin ∷ []) one.since)) ∙
      run_append c (one.began ++ begin ∷ []) one.since opening) in
      let still : ((run c (world_after c (es ++ step ∷ [])) gap).views n).phase ≡ Some happens_so.phase =
      ap (λ (w : World). (w.views n).phase) (sym (ap (world_after c) grown ∙ run_append c (es ++ step ∷ []) gap opening)) ∙
      happens_so.at in
      let there : ((world_after c (es ++ step ∷ [])).views n).phase ≡ Some happens_so.phase =
      ap (λ (u : View). u.phase) (sym (run_quiet c n gap (world_after c (es ++ step ∷ [])) rests)) ∙ still in
      let stepped : ((happens c (world_after c es) step).views n).phase ≡ Some happens_so.phase =
      ap (λ (w : World). (w.views n).phase) (sym (run_more c opening es step)) ∙ there in
      let since : List Entry = (one.since ++ step ∷ []) ++ gap in
      let worlds : since_begun n (trail_of c ((es ++ step ∷ []) ++ gap)) ≡ trail c [] start since =
      more_since c n start happens_so.phase gap (es ++ step ∷ []) (one.since ++ step ∷ []) rests
      (one_since c n start happens_so.phase es one.since step one.moments so_far stepped)
      (one_run c n start happens_so.phase es one.since step so_far) there in (
        (
          record {
            within = one.within;
            task = one.task;
            began = one.began;
            begins = one.begins;
            since = since;
            own = own_more n (one.since ++ step ∷ []) gap ∙
                ((λ i. own_more n one.since (step ∷ []) i ++ own_none n gap rests i) ∙
                (append-nil (own_entries n one.since ++ own_entries n (step ∷ [])) ∙
                (λ i. one.own i ++ own_one n step [] refl i)));
            entries = move.reached.entries;
            is = grown ∙
                (ap (λ (l : List Entry). (l ++ step ∷ []) ++ gap) one.is ∙
                (ap (λ (l : List Entry). l ++ gap) (append_assoc one.began (begin ∷ one.since) (step ∷ [])) ∙
                append_assoc one.began (begin ∷ (one.since ++ step ∷ [])) gap));
            moments = ap (λ (l : List Entry). since_begun n (trail_of c l)) grown ∙ worlds;
            happens = happens_so;
            rest = [];
            leaves = leaves_so c None phase e.hook (numbered n v) xs found saw gone move;
          },
          refl,
        ),
        stands_after c op (d ∷ ds) e None phase (numbered n v) xs found x.view saw gone comes is had move,
      )

-- the step of this phase, after those before it
module _ (c : Config) (op : Op) (e : Traced) (phase : Phase) (seen gone : List (List Entry)) where
  move_first : (items : DealtNumbers) (before : List (List Entry)) → before ≡ seen →
      phase_after (state_of_trace c (own_number items) op []).comes ≡ Some phase → IsMoveOf c op items [] e before gone phase →
      Lasts c items op [] e seen gone
  move_first [] before same comes m = absurd m.2
  move_first (x ∷ xs) before same comes m = subst (λ l. Lasts c (x ∷ xs) op [] e l gone) same
      (first_event c op x xs e phase m.0 before gone comes m.1 m.2)

  move_next : (items : DealtNumbers) (before saw : List (List Entry)) (d : Traced) (ds : List Traced) → Lasts c items op ds d seen before →
      StaySeen before saw → phase_after (state_of_trace c (own_number items) op (d ∷ ds)).comes ≡ Some phase →
      IsMoveOf c op items (d ∷ ds) e saw gone phase → Lasts c items op (d ∷ ds) e seen gone
  move_next [] before saw d ds last stays comes m = absurd m.2
  move_next (x ∷ xs) before saw d ds last stays comes m =
      next_event c op x xs e phase m.0 d ds (ran_view c x.number op (done_by xs) (d ∷ ds) x.view) seen before saw gone comes m.1 comes refl refl
      refl m.2 stays last

-- and of whatever came next
comes_first : (c : Config) (op : Op) (items : DealtNumbers) (e : Traced) (seen before gone : List (List Entry)) (comes : Next Phase) →
    (state_of_trace c (own_number items) op []).comes ≡ comes → before ≡ seen → IsNextMove c op items [] e before gone comes →
    Lasts c items op [] e seen gone
comes_first c op items e seen before gone (Go phase) is same m = move_first c op e phase seen gone items before same (ap phase_after is) m
comes_first c op items e seen before gone (Wait phase) is same m = move_first c op e phase seen gone items before same (ap phase_after is) m
comes_first c op items e seen before gone (Done answer) is same m = absurd m

comes_next : (c : Config) (op : Op) (items : DealtNumbers) (e d : Traced) (ds : List Traced) (seen before saw gone : List (List Entry))
    (comes : Next Phase) → (state_of_trace c (own_number items) op (d ∷ ds)).comes ≡ comes → Lasts c items op ds d seen before →
    StaySeen before saw → IsNextMove c op items (d ∷ ds) e saw gone comes → Lasts c items op (d ∷ ds) e seen gone
comes_next c op items e d ds seen before saw gone (Go phase) is last stays m =
    move_next c op e phase seen gone items before saw d ds last stays (ap phase_after is) m
comes_next c op items e d ds seen before saw gone (Wait phase) is last stays m =
    move_next c op e phase seen gone items before saw d ds last stays (ap phase_after is) m
comes_next c op items e d ds seen before saw gone (Done answer) is last stays m = absurd m

-- so of the last step of any trace
lasts : (c : Config) (op : Op) (items : DealtNumbers) (seen gone : List (List Entry)) (e : Traced) (earlier : List Traced) →
    AreMoves c op items seen (e ∷ earlier) gone → Lasts c items op earlier e seen gone
lasts c op items seen gone e [] m =
    comes_first c op items e seen m.0 gone (state_of_trace c (own_number items) op []).comes refl (m.3 ∙ m.4) m.1
lasts c op items seen gone e (d ∷ ds) m =
    comes_next c op items e d ds seen m.2 m.0 gone (state_of_trace c (own_number items) op (d ∷ ds)).comes refl
    (lasts c op items seen m.2 d ds m.4) m.3 m.1

pub last_event : (c : Config) (op : Op) (items : DealtNumbers) (seen gone : List (List Entry)) (e : Traced) (earlier : List Traced) →
    AreMoves c op items seen (e ∷ earlier) gone → (during : IsEventDuring c items op earlier e seen gone) × (during.rest ≡ [])
last_event c op items seen gone e earlier m = (lasts c op items seen gone e earlier m).0

-- what a step leaves goes on from where the one before it did
goes_on_from : (c : Config) (items : DealtNumbers) (op : Op) (earlier : List Traced) (e : Traced) (seen before gone : List (List Entry)) →
    IsEventDuring c items op earlier e seen before → AllGoOn before gone → (last : List Entry) → gone ≡ last ∷ [] →
    IsEventDuring c items op earlier e seen gone
goes_on_from c items op earlier e seen before gone one all last only_one =
    let n : ℕ = own_number items in
    let so_far : List Entry = one.entries ++ Steps n e.hook ∷ one.rest in
    let on : IsPrefix so_far last = all 0 so_far (ap (λ l. get_elem? l 0) one.leaves) 0 last (ap (λ l. get_elem? l 0) only_one) in record {
      within = one.within;
      task = one.task;
      began = one.began;
      begins = one.begins;
      since = one.since;
      own = one.own;
      entries = one.entries;
      is = one.is;
      moments = one.moments;
      happens = one.happens;
      rest = one.rest ++ on.0;
      leaves = only_one ∙ ap (λ (l : List Entry). l ∷ [])
          (on.1 ∙ append_assoc one.entries (Steps n e.hook ∷ one.rest) on.0);
    }

-- and of each step before it
pub each_event : (c : Config) (op : Op) (items : DealtNumbers) (seen gone : List (List Entry)) (later : List Traced) (e : Traced)
    (earlier : List Traced) → AreMoves c op items seen (later ++ e ∷ earlier) gone → IsEventDuring c items op earlier e seen gone
each_event c op items seen gone [] e earlier m = (last_event c op items seen gone e earlier m).0
each_event c op items seen gone (f ∷ later) e earlier m =
    let rest : List Traced = later ++ e ∷ earlier in
    let last = last_event c op items seen gone f rest m in
    let on = next_on c op items rest f m.0 gone (state_of_trace c (own_number items) op rest).comes m.1 in
    let all : AllGoOn m.2 gone = goes_on_after m.2 m.0 gone (sees_on_stays rest m.2 m.0 m.3) on.0 in
    goes_on_from c items op earlier e seen m.2 gone (each_event c op items seen m.2 later e earlier m.4) all
    (last.0.entries ++ Steps (own_number items) f.hook ∷ last.0.rest) last.0.leaves
