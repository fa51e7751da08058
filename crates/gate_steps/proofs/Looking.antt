-- A seat that looks at the table, and one whose numbers are divided.
use Rattle.gate_steps.proofs.Prelude.{Config, Dealt, DealtNumbers, Entry, HaveSeen, Knowledge, List, View, World, [], ap, arith, at_map, at_set, dite}
use Rattle.gate_steps.proofs.Prelude.{get_elem?, items_of, knows, map, refl, set, some, subst, sym, times, ℕ, ⊎_elim, ◌++◌, ◌<◌, ◌∙◌, ◌∷◌, ◌≡◌, ◌≤◌}
use Rattle.atomic_table.{proofs.Lists.{at_longer, at_snoc, set_again}, specs.Table.{Allows, Splits, keeps}}
use Rattle.std.proofs.lemmas.List.{map-append, map-set, set-get_or}
use Rattle.gate_steps.proofs.{Dealing.{known, times-append, times_all-one, times_all-set, times_all-snoc}, Giving.{at_behind, fewer_seen}}
use Rattle.gate_steps.{proofs.{Growing.seen_now, TableSimulation.{Carried, holds}}, specs.{Meetings.looked, Rules.Ruled, Seating.times_all}}
use native.Mathlib.Decide.{dec_le}

-- of a list in two parts each number stands in one of them
module _ (tasks : ℕ) (views : ℕ → View) (seats : List DealtNumbers) (dealt : Dealt tasks views seats) (id : ℕ) (mine others : DealtNumbers)
    (at : get_elem? seats id ≡ some (mine ++ others)) where
  parted : Dealt tasks views (set seats id mine ++ others ∷ [])
  parted =
      let same : (m : ℕ) → times_all m (set seats id mine ++ others ∷ []) ≡ times_all m seats =
      λ m. omega (
        arith,
        times_all-snoc m (set seats id mine) others,
        times_all-set m seats id (mine ++ others) mine at,
        times-append m mine others,
      ) in
      record {
        once = λ m lt. same m ∙ dealt.once m lt;
        no_other = λ m ge. same m ∙ dealt.no_other m ge;
        same = λ j m e k y f. ⊎_elim
            (λ s. ⊎_elim
            (λ q. dealt.same id (mine ++ others) at k y
            (at_longer mine others k y (subst (λ (l : DealtNumbers). get_elem? l k ≡ some y) (sym q.1) f)))
            (λ q. dealt.same j m q.1 k y f)
            (at_set seats id j mine m s))
            (λ s. let p = at_behind mine others k y (subst (λ (l : DealtNumbers). get_elem? l k ≡ some y) (sym s) f) in
            dealt.same id (mine ++ others) at p.0 y p.1)
            (at_snoc (set seats id mine) others m j e);
      }

-- a seat whose numbers are divided
pub divides : (c : Config) (id : ℕ) (v mine others : DealtNumbers) (seen : List (List Entry)) → v ≡ mine ++ others →
    Splits (holds c) id (knows v seen) (knows mine seen) (knows others seen)
divides c id v mine others seen is s held there_is =
    let w : World = held.world in
    let seats : List DealtNumbers = map items_of s.views in
    let at : get_elem? seats id ≡ some (mine ++ others) = at_map items_of s.views id (knows v seen) there_is ∙ ap some is in
    let now : List Entry = held.history.reached.entries in
    let have : HaveSeen now (mine ++ others) seen = subst (λ (l : DealtNumbers). HaveSeen now l seen) is (held.seen id (knows v seen) there_is) in record {
      world = w;
      ruled = held.ruled;
      history = held.history;
      dealt = subst (Dealt c.tasks w.views)
          (sym (map-append items_of (set s.views id (knows mine seen)) (knows others seen ∷ []) ∙
          ap (λ (l : List DealtNumbers). l ++ others ∷ []) (map-set items_of s.views id (knows mine seen))))
          (parted c.tasks w.views seats held.dealt id mine others at);
      seen = λ j k e. ⊎_elim
          (λ o. ⊎_elim
          (λ q. subst (λ (l : Knowledge). HaveSeen now l.items l.seen) q.1
          (fewer_seen now (mine ++ others) mine seen (λ m here. let t = times-append m mine others in omega arith) have))
          (λ q. held.seen j k q.1)
          (at_set s.views id j (knows mine seen) k o))
          (λ o. subst (λ (l : Knowledge). HaveSeen now l.items l.seen) o
          (fewer_seen now (mine ++ others) others seen (λ m here. let t = times-append m mine others in omega arith) have))
          (at_snoc (set s.views id (knows mine seen)) (knows others seen) k j e);
    }

-- a seat that looks at the table: its numbers stand in the state that the table shows
pub looks : (c : Config) (slots id : ℕ) (items : DealtNumbers) (seen : List (List Entry)) (carried : Carried) (i : ℕ) →
    Allows (holds c) slots id (knows items seen, carried) i (λ n. n) (λ n after. looked c (knows items seen, carried) after)
looks c slots id items seen carried i s held len there_is small =
    let w : World = held.world in
    let seats : List DealtNumbers = map items_of s.views in
    let at : get_elem? seats id ≡ some items = at_map items_of s.views id (knows items seen) there_is in
    let now : List Entry = held.history.reached.entries in
    let left : Knowledge = knows items (now ∷ []) in
    let same : map items_of (set s.views id left) ≡ seats = map-set items_of s.views id left ∙ set_again seats id items at in
    let counted : (n : ℕ) → 1 ≤ times n items → (n < c.tasks) × (times_all n seats ≡ 1) =
    λ n here. let one = times_all-one n seats id items at in known c.tasks w.views seats held.dealt n (omega arith) in (
      left,
      keeps,
      tt,
      record {
        world = w;
        ruled = subst (λ (l : List ℕ). Ruled c l w) (sym (set-get_or s.words i 0)) held.ruled;
        history = held.history;
        dealt = subst (Dealt c.tasks w.views) (sym same) held.dealt;
        seen = λ j k e. ⊎_elim
            (λ q. subst (λ (l : Knowledge). HaveSeen now l.items l.seen) q.1 (seen_now now items))
            (λ q. held.seen j k q.1)
            (at_set s.views id j left k e);
      },
      (
        refl,
        refl,
        record {
          all = record {
            within = held.ruled.within;
            world = w;
            good = held.ruled.good;
            history = held.history;
            mine = held.dealt.same id items at;
            last = refl;
          };
          from = held.seen id (knows items seen) there_is;
          tasks = λ n here. (counted n here).0;
          once = λ n. let one = times_all-one n seats id items at in
              dite (dec_le 1 (times n items)) (λ yes. let all = (counted n yes).1 in omega arith) (λ no. omega arith);
        },
      ),
    )
