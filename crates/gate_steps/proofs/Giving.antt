-- A seat gives one of its numbers to a new seat, or takes back those of another.
use Rattle.gate_steps.proofs.Prelude.{Config, Dealt, DealtNumbers, Entry, HaveSeen, HaveViews, Knowledge, List, Numbered, Option, Phase, Traced, View}
use Rattle.gate_steps.proofs.Prelude.{World, [], ap, arith, at_map, at_set, dite, get_elem?, inl, inr, items_of, knows, map, numbered, refl, set}
use Rattle.gate_steps.proofs.Prelude.{some, some-injective, some-ne-none, subst, suc, sym, times, zero, ℕ, ⊎_elim, ◌++◌, ◌+◌, ◌<◌, ◌∙◌, ◌∷◌, ◌≡◌, ◌≤◌}
use Rattle.std.proofs.{Common.{cond, eq-eqb, eqb, ne_eqb, ◌≢◌, ◌⊎◌}, lemmas.List.{map-append, map-set}}
use Rattle.{access_model.specs.Histories.own_part, atomic_table.{proofs.Lists.{at_longer, at_snoc, set_else}, specs.Table.{Joins, Splits}}}
use Rattle.{cpu_words.specs.Words.Words, finite_sums.{proofs.Totals.{each_updated, update_at, update_off}, specs.Sums.update}}
use Rattle.gate_schedules.proofs.frames.Frames.{left_alone, shown_still}
use Rattle.gate_world.specs.{Moments.HasMoment, Owners.KnowsWords, Rules.{AtLevel, AtMount, Files, Fitting, Holding, Holds, IsGood, Known, Owner}}
use Rattle.gate_world.specs.{Rules.{Part, Sections, Stages, SyncAt, Tree, owns}, Trees.tree_role_of}
use Rattle.gate_steps.proofs.Dealing.{apart, known, one_if-other, one_if-same, times-append, times_all-one, times_all-set, times_all-snoc}
use Rattle.gate_steps.{proofs.{Reaching.renewed_reached, TableSimulation.holds}, specs.Histories.HasHistory}
use Rattle.gate_steps.specs.Seating.{Spares, given_of, known_both, known_given, known_kept, one_if, renewed, times_all, trace_kept, view_in, without}
use native.Mathlib.Decide.{dec_le, ℕ_discrete}

pub times-without : (n : ℕ) (l : DealtNumbers) → times n (without n l) ≡ 0
times-without n [] = refl
times-without n (x ∷ xs) = dite (ℕ_discrete x.number n)
    (λ yes. ap (λ b. times n (cond b (without n xs) (x ∷ without n xs))) (eq-eqb x.number n yes) ∙ times-without n xs)
    (λ no. ap (λ b. times n (cond b (without n xs) (x ∷ without n xs))) (ne_eqb x.number n no) ∙
    (let r = times-without n xs in omega (arith, one_if-other x.number n no)))

pub times-without_other : (m n : ℕ) (l : DealtNumbers) → m ≢ n → times m (without n l) ≡ times m l
times-without_other m n [] ne = refl
times-without_other m n (x ∷ xs) ne =
    let r = times-without_other m n xs ne in
    dite (ℕ_discrete x.number n)
    (λ yes. ap (λ b. times m (cond b (without n xs) (x ∷ without n xs))) (eq-eqb x.number n yes) ∙
    (let z = one_if-other x.number m (λ q. ne (sym q ∙ yes)) in omega arith))
    (λ no. ap (λ b. times m (cond b (without n xs) (x ∷ without n xs))) (ne_eqb x.number n no) ∙
    ap (λ (k : ℕ). one_if (eqb x.number m) + k) r)

-- the transition stands in the list, and is another number's
abbrev IsAmongOthers : DealtNumbers → ℕ → Numbered → Type 0
IsAmongOthers l n y = (j : ℕ) × (get_elem? l j ≡ some y) × (y.number ≢ n)

without-at_kept : (n : ℕ) (x : Numbered) (xs : DealtNumbers) (k : ℕ) (y : Numbered) → x.number ≢ n → get_elem? (x ∷ without n xs) k ≡ some y →
    ((j : ℕ) (z : Numbered) → get_elem? (without n xs) j ≡ some z → IsAmongOthers xs n z) → IsAmongOthers (x ∷ xs) n y
without-at_kept n x xs zero y ne e r = (0, e, subst (λ (z : Numbered). z.number ≢ n) (some-injective x y e) ne)
without-at_kept n x xs (suc k) y ne e r = let t = r k y e in (suc t.0, t.1, t.2)

without-at : (n : ℕ) (l : DealtNumbers) (k : ℕ) (y : Numbered) → get_elem? (without n l) k ≡ some y → IsAmongOthers l n y
without-at n [] k y e = absurd (some-ne-none y (sym e))
without-at n (x ∷ xs) k y e = dite (ℕ_discrete x.number n)
    (λ yes. let r = without-at n xs k y (subst (λ b. get_elem? (cond b (without n xs) (x ∷ without n xs)) k ≡ some y)
    (eq-eqb x.number n yes) e) in (suc r.0, r.1, r.2))
    (λ no. without-at_kept n x xs k y no (subst (λ b. get_elem? (cond b (without n xs) (x ∷ without n xs)) k ≡ some y)
    (ne_eqb x.number n no) e) (without-at n xs))

-- a number that is counted stands there with its view
pub view_in-at : (n : ℕ) (l : DealtNumbers) → 1 ≤ times n l → (j : ℕ) × (get_elem? l j ≡ some (numbered n (view_in n l)))
view_in-at n [] some_there = absurd (omega arith)
view_in-at n (x ∷ xs) some_there = dite (ℕ_discrete x.number n)
    (λ yes. (
      0,
      ap some (λ i. numbered (yes i) x.view) ∙ ap (λ b. some (numbered n (cond b x.view (view_in n xs))))
          (sym (eq-eqb x.number n yes)),
    ))
    (λ no. let r = view_in-at n xs (omega (arith, one_if-other x.number n no)) in
    (suc r.0, r.1 ∙ ap (λ b. some (numbered n (cond b x.view (view_in n xs)))) (sym (ne_eqb x.number n no))))

-- so, where the numbers have their views, it is the view of that number
pub view_in-is : (views : ℕ → View) (l : DealtNumbers) (n : ℕ) → HaveViews views l → 1 ≤ times n l → views n ≡ view_in n l
view_in-is views l n mine some_there = let r = view_in-at n l some_there in mine r.0 (numbered n (view_in n l)) r.1

at_append : {A : Type 0} (l m : List A) (k : ℕ) (y : A) → get_elem? (l ++ m) k ≡ some y →
    (get_elem? l k ≡ some y) ⊎ ((j : ℕ) × (get_elem? m j ≡ some y))
at_append [] m k y e = inr (k, e)
at_append (x ∷ xs) m zero y e = inl e
at_append (x ∷ xs) m (suc k) y e = at_append xs m k y e

module _ (tasks : ℕ) (views : ℕ → View) (seats : List DealtNumbers) (dealt : Dealt tasks views seats) (id n : ℕ) (x : Numbered)
    (xs : DealtNumbers) (at : get_elem? seats id ≡ some (x ∷ xs)) (spare : 1 ≤ times n xs) where
  only : (times n (x ∷ xs) ≡ 1) × (times n xs ≡ 1) × (x.number ≢ n)
  only =
      let all = times_all-one n seats id (x ∷ xs) at in
      let o = (known tasks views seats dealt n (omega arith)).1 in
      (omega arith, omega arith, (λ q. let e : one_if (eqb x.number n) ≡ 1 = ap one_if (eq-eqb x.number n q) in omega arith))

  counts : (m : ℕ) (v : View) → times m (x ∷ without n xs) + times m (numbered n v ∷ []) ≡ times m (x ∷ xs)
  counts m v = dite (ℕ_discrete m n)
      (λ yes. subst (λ z. times z (x ∷ without n xs) + times z (numbered n v ∷ []) ≡ times z (x ∷ xs)) (sym yes)
      (let o = only in let a = o.0 in let b = o.1 in omega (arith, times-without n xs, one_if-same n)))
      (λ no. omega (arith, times-without_other m n xs no, one_if-other n m (λ q. no (sym q))))

  -- the number goes with the view w, and no other view changes
  module _ (w : View) (new : ℕ → View) (mine : new n ≡ w) (others : (y : ℕ) → (y ≡ n → ⊥) → new y ≡ views y) where
    left_behind : HaveViews new (x ∷ without n xs)
    left_behind zero y f =
        let is : x ≡ y = some-injective x y f in
        others y.number (subst (λ (z : Numbered). z.number ≢ n) is (only.2)) ∙ dealt.same id (x ∷ xs) at 0 y f
    left_behind (suc k) y f = let r = without-at n xs k y f in others y.number r.2 ∙ dealt.same id (x ∷ xs) at (suc r.0) y r.1

    given : HaveViews new (numbered n w ∷ [])
    given zero y f = subst (λ (z : Numbered). new z.number ≡ z.view) (some-injective (numbered n w) y f) mine
    given (suc k) y f = absurd (some-ne-none y (sym f))

    divided : Dealt tasks new (set seats id (x ∷ without n xs) ++ (numbered n w ∷ []) ∷ [])
    divided =
        let same : (m : ℕ) → times_all m (set seats id (x ∷ without n xs) ++ (numbered n w ∷ []) ∷ []) ≡ times_all m seats =
        λ m. omega (
          arith,
          times_all-snoc m (set seats id (x ∷ without n xs)) (numbered n w ∷ []),
          times_all-set m seats id (x ∷ xs) (x ∷ without n xs) at,
          counts m w,
        ) in
        let here : 1 ≤ times n (x ∷ xs) = let a = only.0 in omega arith in
        record {
          once = λ m lt. same m ∙ dealt.once m lt;
          no_other = λ m ge. same m ∙ dealt.no_other m ge;
          same = λ j m e k y f. ⊎_elim
              (λ s. ⊎_elim
              (λ q. left_behind k y (subst (λ l. get_elem? l k ≡ some y) (sym q.1) f))
              (λ q. others y.number (apart tasks views seats dealt id (x ∷ xs) at n j k m y here q.0 q.1 f) ∙ dealt.same j m q.1 k y f)
              (at_set seats id j (x ∷ without n xs) m s))
              (λ s. given k y (subst (λ l. get_elem? l k ≡ some y) (sym s) f))
              (at_snoc (set seats id (x ∷ without n xs)) (numbered n w ∷ []) m j e);
        }

-- the state in which a number's view is renewed
abbrev renewed_at : World → ℕ → World
renewed_at w n = record { words = w.words; views = update w.views n (renewed (w.views n)) }

-- what an owner of `umount` knows, it knows still
renewed_knows : (ws : Words) (p : Option Phase) (trace : List Traced) → (owns p ≡ 1 → KnowsWords ws trace) → owns p ≡ 1 →
    KnowsWords ws (trace_kept p trace)
renewed_knows ws p trace knows o = grind arith

-- what the number is doing at the tree, it does still
renewed_role : (p : Option Phase) (trace : List Traced) → tree_role_of (trace_kept p trace) p ≡ tree_role_of trace p
renewed_role p trace = grind arith

-- each conjunct of the invariant holds of it: it reads the same of the view, but for the trace of a number that is idle
renewed_part : (c : Config) (w : World) → IsGood c w → (n : ℕ) → n < c.tasks → (part : Part) → Holds c (renewed_at w n) part
renewed_part c w good n lt Known = λ x lx.
    each_updated (λ y (u : View). owns u.phase ≡ 1 → KnowsWords w.words u.trace) w.views n (renewed (w.views n)) x
    (renewed_knows w.words (w.views n).phase (w.views n).trace (good Known n lt)) (λ ne. good Known x lx)
renewed_part c w good n lt Owner = left_alone c w n lt Owner w.words (renewed (w.views n)) (refl, refl) (refl, refl) (good Owner)
renewed_part c w good n lt Fitting = left_alone c w n lt Fitting w.words (renewed (w.views n)) tt (refl, refl) (good Fitting)
renewed_part c w good n lt Stages =
    left_alone c w n lt Stages w.words (renewed (w.views n)) (refl, refl, refl, refl) refl (good Stages)
renewed_part c w good n lt Holding = left_alone c w n lt Holding w.words (renewed (w.views n)) (refl, refl) refl (good Holding)
renewed_part c w good n lt Tree =
    left_alone c w n lt Tree w.words (renewed (w.views n)) (refl, refl, refl, refl, refl, refl)
    (renewed_role (w.views n).phase (w.views n).trace) (good Tree)
renewed_part c w good n lt Files = left_alone c w n lt Files w.words (renewed (w.views n)) refl (refl, refl) (good Files)
renewed_part c w good n lt (AtLevel i) =
    left_alone c w n lt (AtLevel i) w.words (renewed (w.views n)) (refl, refl, refl) refl (good (AtLevel i))
renewed_part c w good n lt (SyncAt i) =
    left_alone c w n lt (SyncAt i) w.words (renewed (w.views n)) (refl, refl, refl, refl) refl (good (SyncAt i))
renewed_part c w good n lt Sections = left_alone c w n lt Sections w.words (renewed (w.views n)) refl refl (good Sections)
renewed_part c w good n lt (AtMount m) =
    left_alone c w n lt (AtMount m) w.words (renewed (w.views n)) (refl, refl, refl, refl) refl (good (AtMount m))

-- so the invariant does
renewed_good : (c : Config) (w : World) → IsGood c w → (n : ℕ) → n < c.tasks → IsGood c (renewed_at w n)
renewed_good c w good n lt = renewed_part c w good n lt

renewed_history : (c : Config) (w : World) (n : ℕ) → n < c.tasks → (h : HasHistory c w) →
    (now : HasHistory c (renewed_at w n)) × (now.reached.entries ≡ h.reached.entries)
renewed_history c w n lt h =
    let v : View = renewed (w.views n) in
    let came = renewed_reached c h.log w h.reached n in (
      record {
        log = h.log;
        legal = h.legal;
        end = h.end ∙ sym (shown_still c w n lt w.words v refl refl refl refl refl refl refl (λ i. refl) refl);
        lists = λ x. each_updated (λ y (u : View). own_part y h.log ≡ u.actions) w.views n v x (h.lists n) (λ ne. h.lists x);
        snapshots = λ x. each_updated (λ y (u : View). HasMoment c h.log y u.snapshot) w.views n v x tt (λ ne. h.snapshots x);
        reached = came.0;
      },
      came.1,
    )

-- and has had the same steps
renewed_events : (w : World) (n t : ℕ) → ((renewed_at w n).views t).events ≡ (w.views t).events
renewed_events w n t = each_updated (λ y (u : View). u.events ≡ (w.views y).events) w.views n (renewed (w.views n)) t refl (λ ne. refl)

-- of fewer numbers all is seen, too
pub fewer_seen : (now : List Entry) (all some_of : DealtNumbers) (seen : List (List Entry)) → ((m : ℕ) → 1 ≤ times m some_of → 1 ≤ times m all) →
    HaveSeen now all seen → HaveSeen now some_of seen
fewer_seen now all some_of seen fewer have = record { goes_on = have.goes_on; rested = λ m here. have.rested m (fewer m here) }

few_kept : (m n : ℕ) (x : Numbered) (xs : DealtNumbers) → 1 ≤ times m (x ∷ without n xs) → 1 ≤ times m (x ∷ xs)
few_kept m n x xs here = grind (arith, dite, times, without, times-without, times-without_other)

few_given : (m n : ℕ) (v : View) (x : Numbered) (xs : DealtNumbers) → 1 ≤ times n xs → 1 ≤ times m (numbered n v ∷ []) → 1 ≤ times m (x ∷ xs)
few_given m n v x xs spare here = grind arith

-- a seat gives a number that it has to give
pub splits : (c : Config) (id n : ℕ) (v : DealtNumbers) (seen : List (List Entry)) → Spares n v →
    Splits (holds c) id (knows v seen) (known_kept n (knows v seen)) (known_given n (knows v seen))
splits c id n [] seen spare s held at = absurd spare
splits c id n (x ∷ xs) seen spare s held there_is =
    let seats : List DealtNumbers = map items_of s.views in
    let at : get_elem? seats id ≡ some (x ∷ xs) = at_map items_of s.views id (knows (x ∷ xs) seen) there_is in
    let kept : Knowledge = knows (x ∷ without n xs) seen in
    let given_one : Knowledge = knows (given_of n (x ∷ xs)) seen in
    let have : HaveSeen held.history.reached.entries (x ∷ xs) seen = held.seen id (knows (x ∷ xs) seen) there_is in
    let w : World = held.world in
    let there = view_in-at n xs spare in
    let u : View = view_in n xs in
    let is : w.views n ≡ u = held.dealt.same id (x ∷ xs) at (suc there.0) (numbered n u) there.1 in
    let all = times_all-one n seats id (x ∷ xs) at in
    let lt : n < c.tasks = (known c.tasks w.views seats held.dealt n (omega arith)).0 in
    let v : View = renewed (w.views n) in
    let kept_on = renewed_history c w n lt held.history in record {
      world = renewed_at w n;
      ruled = record {
        within = held.ruled.within;
        long = held.ruled.long;
        words = held.ruled.words;
        good = renewed_good c w held.ruled.good n lt;
        opens = λ untouched. held.ruled.opens (λ t there. sym (renewed_events w n t) ∙ untouched t there);
      };
      history = kept_on.0;
      dealt = subst (Dealt c.tasks (update w.views n v))
          (sym (map-append items_of (set s.views id kept) (given_one ∷ []) ∙
          ap (λ l. l ++ given_of n (x ∷ xs) ∷ []) (map-set items_of s.views id kept)))
          (divided c.tasks w.views seats held.dealt id n x xs at spare (renewed u) (update w.views n v)
          (update_at w.views n v ∙ ap renewed is) (λ y ne. update_off w.views n v y ne));
      seen = λ j k e. subst (λ now. HaveSeen now k.items k.seen) (sym kept_on.1) (⊎_elim
          (λ o. ⊎_elim
          (λ q. subst (λ (l : Knowledge). HaveSeen held.history.reached.entries l.items l.seen) q.1
          (fewer_seen held.history.reached.entries (x ∷ xs) (x ∷ without n xs) seen (λ m here. few_kept m n x xs here) have))
          (λ q. held.seen j k q.1)
          (at_set s.views id j kept k o))
          (λ o. subst (λ (l : Knowledge). HaveSeen held.history.reached.entries l.items l.seen) o
          (fewer_seen held.history.reached.entries (x ∷ xs) (given_of n (x ∷ xs)) seen (λ m here. few_given m n (renewed (view_in n xs)) x xs spare here) have))
          (at_snoc (set s.views id kept) given_one k j e));
    }

module _ (tasks : ℕ) (views : ℕ → View) (seats : List DealtNumbers) (dealt : Dealt tasks views seats) (id other : ℕ) (v w : DealtNumbers)
    (at : get_elem? seats id ≡ some v) (ne : ¬ (other ≡ id)) (at' : get_elem? seats other ≡ some w) where
  merged : Dealt tasks views (set (set seats id (v ++ w)) other [])
  merged =
      let then_at : get_elem? (set seats id (v ++ w)) other ≡ some w = set_else seats id other (v ++ w) ne ∙ at' in
      let same : (m : ℕ) → times_all m (set (set seats id (v ++ w)) other []) ≡ times_all m seats =
      λ m. omega (
        arith,
        times_all-set m (set seats id (v ++ w)) other w [] then_at,
        times_all-set m seats id v (v ++ w) at,
        times-append m v w,
      ) in
      record {
        once = λ m lt. same m ∙ dealt.once m lt;
        no_other = λ m ge. same m ∙ dealt.no_other m ge;
        same = λ j m e k y f. ⊎_elim
            (λ q. absurd (some-ne-none y (sym (subst (λ l. get_elem? l k ≡ some y) (sym q.1) f))))
            (λ q. ⊎_elim
            (λ r. ⊎_elim (λ t. dealt.same id v at k y t) (λ t. dealt.same other w at' t.0 y t.1)
            (at_append v w k y (subst (λ l. get_elem? l k ≡ some y) (sym r.1) f)))
            (λ r. dealt.same j m r.1 k y f)
            (at_set seats id j (v ++ w) m q.1))
            (at_set (set seats id (v ++ w)) other j [] m e);
      }

-- what stands in the second of two lists stands behind the first
pub at_behind : {A : Type 0} (l m : List A) (k : ℕ) (y : A) → get_elem? m k ≡ some y → (j : ℕ) × (get_elem? (l ++ m) j ≡ some y)
at_behind [] m k y e = (k, e)
at_behind (x ∷ xs) m k y e = let r = at_behind xs m k y e in (suc r.0, r.1)

seen_nothing : (now : List Entry) → HaveSeen now [] []
seen_nothing now = record { goes_on = λ k earlier at. absurd (some-ne-none earlier (sym at)); rested = λ n here. absurd (omega (arith, here)) }

-- two seats have seen together what each has
both_seen : (now : List Entry) (v w : DealtNumbers) (s r : List (List Entry)) → HaveSeen now v s → HaveSeen now w r →
    HaveSeen now (v ++ w) (s ++ r)
both_seen now v w s r a b = record {
  goes_on = λ k earlier at. ⊎_elim (λ t. a.goes_on k earlier t) (λ t. b.goes_on t.0 earlier t.1) (at_append s r k earlier at);
  rested = λ n here. dite (dec_le 1 (times n v))
      (λ yes. let h = a.rested n yes in record {
        place = h.place;
        earlier = h.earlier;
        there = at_longer s r h.place h.earlier h.there;
        since = h.since;
        is = h.is;
        none = h.none;
      })
      (λ no. let h = b.rested n (omega (arith, here, times-append n v w, no)) in let p = at_behind s r h.place h.earlier h.there in record {
        place = p.0;
        earlier = h.earlier;
        there = p.1;
        since = h.since;
        is = h.is;
        none = h.none;
      });
}

-- a seat takes back all numbers of another
pub joins : (c : Config) (id other : ℕ) (a b : Knowledge) → Joins (holds c) id a other b (known_both a b) (knows [] [])
joins c id other a b s held at ne at' = let both : Knowledge = known_both a b in
    let there : get_elem? s.views other ≡ some b = sym (set_else s.views id other both ne) ∙ at' in
    let seats : List DealtNumbers = map items_of s.views in record {
      world = held.world;
      ruled = held.ruled;
      history = held.history;
      dealt = subst (Dealt c.tasks held.world.views)
          (sym (map-set items_of (set s.views id both) other (knows [] []) ∙
          ap (λ l. set l other []) (map-set items_of s.views id both)))
          (merged c.tasks held.world.views seats held.dealt id other a.items b.items (at_map items_of s.views id a at) ne
          (at_map items_of s.views other b there));
      seen = λ j k e. ⊎_elim
          (λ q. subst (λ (l : Knowledge). HaveSeen held.history.reached.entries l.items l.seen) q.1 (seen_nothing held.history.reached.entries))
          (λ q. ⊎_elim
          (λ r. subst (λ (l : Knowledge). HaveSeen held.history.reached.entries l.items l.seen) r.1
          (both_seen held.history.reached.entries a.items b.items a.seen b.seen (held.seen id a at) (held.seen other b there)))
          (λ r. held.seen j k r.1)
          (at_set s.views id j both k q.1))
          (at_set (set s.views id both) other j (knows [] []) k e);
    }
