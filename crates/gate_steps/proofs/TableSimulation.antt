-- The laws of one step and of a beginning as what the table's atomic step asks.
use Rattle.gate_steps.proofs.Prelude.{Action, Config, Dealt, DealtNumbers, Entry, HaveViews, HookAnswer, IsWithin, Knowledge, List, None, Numbered}
use Rattle.gate_steps.proofs.Prelude.{Op, Option, Phase, Some, TableInvariantHolds, Touch, View, WordName, World, [], after_of, ap, arith, at_map}
use Rattle.gate_steps.proofs.Prelude.{done_by, entered, first_phase, found_by, get_elem?, held_of, items_after, items_of, knows, length, map, next_of}
use Rattle.gate_steps.proofs.Prelude.{place, refl, set, some, subst, suc, sym, table_index, table_length, view_after_with_others, ℕ, ◌<◌, ◌∙◌, ◌∷◌}
use Rattle.gate_steps.proofs.Prelude.{◌≡◌}
use Rattle.std.proofs.{Common.{is_some, length-set, slice_index}, lemmas.List.map-set}
use Rattle.access_model.specs.{Histories.{Done, IsLegal, IsMerge, end_of}, States.State as Shown}
use Rattle.atomic_table.specs.Table.{Allows, Me, State, keeps}
use Rattle.cpu_words.specs.{Names.{IsWord, words_in_all}, Touches.left, Words.{Words, put, read}}
use Rattle.{finite_sums.{proofs.Totals.{update_at, update_off}, specs.Sums.update}, freeze_laws.specs.moments.Moments.HaveDone}
use Rattle.gate_schedules.proofs.{frames.{Snapshots.others_apart, ValidWords.events_may_be}, operations.AllOperations.phase_keeps}
use Rattle.gate_schedules.proofs.schedules.{Beginnings.may_begin, Lists.{begin_lists, beside_lists}, Phases.word_there, Schedule.begun_keeps}
use Rattle.gate_schedules.proofs.{schedules.{Schedule.legal_more, Snapshots.{begin_moments, beside_moments}}, trees.worlds.Frozen.frozen_whole}
use Rattle.gate_world.specs.{Beginnings.view_refusal, Configs.{extents_kept, model_limits}, Fits.Fits, Moments.AllHaveMoments}
use Rattle.gate_world.specs.{Rules.{Fitting, IsGood, Moves, StepKeeps}, Shown.shown, Views.begun_view, Worlds.{after_step, after_step_with_others}}
use Rattle.gate_world.specs.{Worlds.{found_at, phase_action, value_at, with_action, words_after}, traces.TraceStates.ReadIsValid}
use Rattle.gate_steps.proofs.{Dealing.{inside, known_here, redealt, times-at}, Growing.seen_all, Reaching.{begun_reached, stepped_reached}}
use Rattle.gate_steps.{proofs.{Stores.there_found, TableWords.table_written}, specs.Histories.{HasHistory, IsReached, then_begins, then_steps}}
use Rattle.gate_steps.specs.{Rules.TableShows, Seating.{NumberMayStep, OwnNumberMayStep, happened, world_entered}}

abbrev pub Carried : Type 0
Carried = List (ℕ × Unit {0})

abbrev pub holds : Config → State (Unit {0}) Knowledge → Type 0
holds c s = TableInvariantHolds c s.words s.views

pub found_serves : (others : List (ℕ × ℕ)) (v : View) (phase : Phase) (n : ℕ) (hook : HookAnswer) →
    view_after_with_others others v phase (found_by (next_of phase hook).1 n) hook ≡ view_after_with_others others v phase n hook
found_serves others v phase n hook = grind arith

-- the numbers that a seat has to give have done what it knows of them
have_done : (views : ℕ → View) (log : List Done) → IsMerge (λ t. (views t).actions) log → (l : DealtNumbers) → HaveViews views l →
    HaveDone (done_by l) log
have_done views log lists [] mine = tt
have_done views log lists (x ∷ xs) mine = (
  ap length (lists x.number) ∙ ap (λ (v : View). length v.actions) (mine 0 x refl),
  have_done views log lists xs (λ k. mine (suc k)),
)

-- the state with which a step of a task begins: the task may just have begun its operation
record Entered (c : Config) (w : World) (t : ℕ) (begins : Option Op) (phase : Phase) (v : View) (log : List Done) : Type 0 where
  good : IsGood c (world_entered c w t begins)
  shows : shown c (world_entered c w t begins) ≡ shown c w
  lists : IsMerge (λ x. ((world_entered c w t begins).views x).actions) log
  snapshots : AllHaveMoments c log (world_entered c w t begins)
  mine : (world_entered c w t begins).views t ≡ entered v begins phase
  at_phase : ((world_entered c w t begins).views t).phase ≡ Some phase
  words : (world_entered c w t begins).words ≡ w.words
  reached : (r : IsReached c log w) → (now : IsReached c log (world_entered c w t begins)) × (now.entries ≡ then_begins t begins r.entries)
  others : (y : ℕ) → (y ≡ t → ⊥) → (world_entered c w t begins).views y ≡ w.views y

enter : (c : Config) (lim : IsWithin c) (w : World) → IsGood c w → (x : Numbered) → x.number < c.tasks → (h : HasHistory c w) →
    w.views x.number ≡ x.view → (begins : Option Op) (phase : Phase) → NumberMayStep c begins phase x →
    Entered c w x.number begins phase x.view h.log
enter c lim w good x lt h mine None phase may = record {
  good = good;
  shows = refl;
  lists = h.lists;
  snapshots = h.snapshots;
  mine = mine;
  at_phase = ap (λ (v : View). v.phase) mine ∙ may;
  words = refl;
  reached = λ r. (r, refl);
  others = λ y ne. refl;
}
enter c lim w good x lt h mine (Some op) phase may =
    let t : ℕ = x.number in
    let v : View = begun_view (w.views t) op (first_phase c t op) in
    let ok : view_refusal c (w.views t) op ≡ None = ap (λ u. view_refusal c u op) mine ∙ may.0 in
    let kept = begun_keeps c lim w good t lt op (may_begin c (is_some (w.views t).phase) (held_of (w.views t)) op ok) in
    let here : update w.views t v t ≡ v = update_at w.views t v in
    record {
      good = kept.0;
      shows = kept.1;
      lists = begin_lists c w h.log t op None h.lists;
      snapshots = begin_moments c w h.log t op None h.snapshots;
      mine = here ∙ (λ i. begun_view (mine i) op (sym may.1 i));
      at_phase = ap (λ (u : View). u.phase) here ∙ ap Some (sym may.1);
      words = refl;
      reached = λ r. begun_reached c h.log w r t lt op ok;
      others = λ y ne. update_off w.views t v y ne;
    }

-- a view that has just had a step has had one
touched : (others : List (ℕ × ℕ)) (u v : View) (phase : Phase) (n : ℕ) (hook : HookAnswer) → u ≡ view_after_with_others others v phase n hook →
    u.events ≡ [] → ⊥
touched others u v phase n hook is none = grind arith

-- Whatever the step, the laws of the machine are what the table's step asks
pub step_simulates : (c : Config) (slots id : ℕ) (items : DealtNumbers) (seen : List (List Entry)) (carried : Carried) (begins : Option Op) (phase : Phase) (hook : HookAnswer) →
    OwnNumberMayStep c begins phase items →
    Allows (holds c) slots id (knows items seen, carried) (table_index (place (next_of phase hook).0)) (left (next_of phase hook).1)
    (λ n. happened c begins phase hook (knows items seen, carried) (found_by (next_of phase hook).1 n))
step_simulates c slots id [] seen carried begins phase hook acts s held len at small = absurd acts
step_simulates c slots id (x ∷ xs) seen carried begins phase hook acts s held len there_is small =
    let seats : List DealtNumbers = map items_of s.views in
    let at : get_elem? seats id ≡ some (x ∷ xs) = at_map items_of s.views id (knows (x ∷ xs) seen) there_is in
    let t : ℕ = x.number in
    let w : World = held.world in
    let lim : IsWithin c = held.ruled.within in
    let good : IsGood c w = held.ruled.good in
    let mine : HaveViews w.views (x ∷ xs) = held.dealt.same id (x ∷ xs) at in
    let lt : t < c.tasks = known_here c.tasks w.views seats held.dealt id (x ∷ xs) at t (times-at (x ∷ xs) 0 x refl) in
    let log : List Done = held.history.log in
    let en : Entered c w t begins phase x.view log = enter c lim w good x lt held.history (mine 0 x refl) begins phase acts in
    let w' : World = world_entered c w t begins in
    let name : WordName = (next_of phase hook).0 in
    let touch : Touch = (next_of phase hook).1 in
    let others : List (ℕ × ℕ) = done_by xs in
    let after : World = after_step_with_others others w' t phase hook in
    let a : Option Action = phase_action w' hook (Some phase) in
    let law : StepKeeps c w' t hook phase = (phase_keeps c phase).step lim w' en.good t lt hook en.at_phase in
    let beside : IsGood c after × (shown c (after_step w' t phase hook) ≡ shown c after) = others_apart c others w' t phase hook law.0 in
    let kept : IsGood c after × Moves c (shown c w') t a (shown c after) =
    (beside.0, subst (Moves c (shown c w') t a) beside.1 law.1) in
    let there : IsWord (extents_kept c) name =
    word_there c lim t (held_of (w'.views t)) lt phase hook
    (subst (λ o. Fits c t (held_of (w'.views t)) o) en.at_phase (en.good Fitting t lt)) in
    let i : ℕ = table_index (place name) in
    let n : ℕ = slice_index s.words i in
    let value : n ≡ value_at w'.words phase hook = held.ruled.words name there ∙ ap (λ (l : Words). read l name) (sym en.words) in
    let table : TableShows c (set s.words i (left touch n)) (words_after w'.words phase hook) =
    subst (λ m. TableShows c (set s.words i (left touch n)) (put w'.words name (left touch m))) value
    (table_written c lim s.words w'.words name (left touch n) held.ruled.long there
    (subst (TableShows c s.words) (sym en.words) held.ruled.words)) in
    let v : View = view_after_with_others others (entered x.view begins phase) phase (found_by touch n) hook in
    let v' : View = view_after_with_others others (w'.views t) phase (value_at w'.words phase hook) hook in
    let own : after.views t ≡ v =
    update_at w'.views t v' ∙
    ((λ j. view_after_with_others others (en.mine j) phase (sym value j) hook) ∙
    sym (found_serves others (entered x.view begins phase) phase n hook)) in
    let apart : (y : ℕ) → (y ≡ t → ⊥) → after.views y ≡ w.views y = λ y ne. update_off w'.views t v' y ne ∙ en.others y ne in
    let ends : end_of log ≡ shown c w' = held.history.end ∙ sym en.shows in
    let more : IsLegal (model_limits c) (with_action t a log) × (end_of (with_action t a log) ≡ shown c after) =
    legal_more c lim (shown c w') (shown c after) t a log kept.1 held.history.legal ends in
    let done : HaveDone others log = have_done w.views log held.history.lists xs (λ k. mine (suc k)) in
    let came = en.reached held.history.reached in
    let went = stepped_reached c log w' came.0 t lt others phase hook en.at_phase in
    let past : List Entry = held.history.reached.entries in
    let now : List Entry = went.0.entries in
    let grown : now ≡ then_steps t hook (then_begins t begins past) = went.1 ∙ ap (then_steps t hook) came.1 in
    let left_items : DealtNumbers = items_after begins phase hook (found_by touch n) (x ∷ xs) in
    let history : HasHistory c after = record {
      log = with_action t a log;
      legal = more.0;
      end = more.1;
      lists = beside_lists others w' log t hook phase en.lists;
      snapshots = beside_moments c w' (frozen_whole c lim w' en.good) log ends others t hook phase en.lists done
          ((phase_keeps c phase).completes lim w' en.good t lt hook en.at_phase) en.snapshots;
      reached = went.0;
    } in (
      knows left_items (now ∷ []),
      keeps,
      tt,
      record {
        world = after;
        ruled = record {
          within = lim;
          long = length-set s.words i (left touch n) ∙ held.ruled.long;
          words = table;
          good = kept.0;
          opens = λ untouched. absurd
              (touched others (after.views t) (entered x.view begins phase) phase (found_by touch n) hook own (untouched t lt));
        };
        history = history;
        dealt = subst (Dealt c.tasks after.views) (sym (map-set items_of s.views id (knows left_items (now ∷ []))))
            (redealt c.tasks w.views seats held.dealt id (x ∷ xs) at t x.view v xs refl after.views own apart);
        seen = seen_all c.tasks w.views s.views held.dealt id x xs seen there_is begins hook past now grown held.seen left_items;
      },
      (
        refl,
        refl,
        record {
          within = lim;
          world = w;
          task = lt;
          may = acts;
          before = good;
          mine = mine;
          found = ap (found_by touch) (held.ruled.words name there);
          holds = there_found phase hook n
              (subst (ReadIsValid phase name) (sym value) (events_may_be c lim w' en.good t lt phase hook en.at_phase));
          after = kept.0;
          moves = subst (λ (z : Shown × Words). Moves c z.0 t (after_of phase (found_at z.1 phase hook) hook).1 (shown c after))
              (λ j. (en.shows j, en.words j)) kept.1;
          past = held.history;
          from = held.seen id (knows (x ∷ xs) seen) there_is;
          history = history;
          grows = ap (λ (z : Words). with_action t (after_of phase (found_at z phase hook) hook).1 log) en.words;
          reached = came.0;
          begun = came.1;
          stepped = went.1;
          leaves = refl;
          stands = en.mine;
          left = inside c.tasks w.views seats held.dealt id (x ∷ xs) at t x.view v xs refl after.views own apart;
        },
      ),
    )

-- The same at a place, a touch and a moment that equal those of the phase, with the place's bound; the tables are the same.
pub lifted_at : {T : Type 0} {seated shared : T} {c d : Config} {words i : ℕ} {begins starts : Option Op} {p q : Phase} {h k : HookAnswer}
    {r : WordName × Touch} {touch : Touch} (slots id : ℕ) (me : Me (Unit {0}) Knowledge) →
    seated ≡ shared → c ≡ d → begins ≡ starts → p ≡ q → h ≡ k → r ≡ next_of p h → i ≡ table_index (place r.0) → r.1 ≡ touch → words ≡ table_length →
    place (next_of p h).0 < words_in_all → OwnNumberMayStep c begins p me.0.items →
    (seated ≡ shared) × (i < words) × Allows (holds c) slots id me i (left touch) (λ n. happened d starts q k me (found_by touch n))
lifted_at {T} {seated} {shared} {c} {d} {words} {i} {begins} {starts} {p} {q} {h} {k} {r} {touch} slots id me table ec eb ep eh er ei et ew small acts =
    let at : i ≡ table_index (place (next_of p h).0) = ei ∙ ap (λ (z : WordName × Touch). table_index (place z.0)) er in
    let same : (next_of p h).1 ≡ touch = ap (λ (z : WordName × Touch). z.1) (sym er) ∙ et in
    let P : Config × Option Op × Phase × HookAnswer × ℕ × Touch →
    Type 0 = λ z. Allows (holds c) slots id me z.4 (left z.5) (λ n. happened z.0 z.1 z.2 z.3 me (found_by z.5 n)) in
    (table, omega arith, subst P (λ j. (ec j, eb j, ep j, eh j, sym at j, same j)) (step_simulates c slots id me.0.items me.0.seen me.1 begins p h acts))
