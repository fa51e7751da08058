-- What a task is among others in the end.
use Rattle.gate_runs.proofs.Prelude.{Among, DealtNumbers, Gives, HasBegun, List, Option, RemountRound, Remounts, Repeats, SeatedTask, View}
use Rattle.gate_runs.proofs.Prelude.{WriterRound, Writes, [], ap, arith, inl, inr, length, own_number, own_view, refl, subst, suc, sym, ℕ, ◌++◌, ◌+◌}
use Rattle.gate_runs.proofs.Prelude.{◌-◌, ◌∙◌, ◌∷◌, ◌≡◌, ◌≤◌}
use Rattle.{run_plans.specs.declared.counts.Details.Details, vfs_gates.specs.{Seating.{HaveViews, numbered, times}, Splitting.HaveDoneNothing}}
use Rattle.gate_runs.{proofs.Keeping.{remounts_freeze_none, writes_freeze_none}, specs.Counts.{both, no_remounts, no_writes, remounts_of}}
use Rattle.gate_runs.specs.{Homes.TookBack, Keeping.KeepsNumbers, Observers.was_held, Parts.{AllDid, AllWrote, EachFrom, EndsAs, Remounted, Wrote}}

-- who stands among these does so among more
pub among_more : (s : SeatedTask) (items more : DealtNumbers) → Among items s → Among (items ++ more) s
among_more s [] more h = absurd h
among_more s (x ∷ xs) more (inl is) = inl is
among_more s (x ∷ xs) more (inr h) = inr (among_more s xs more h)

-- and who joins them does
own_among : (s : SeatedTask) (items : DealtNumbers) → 1 ≤ length items → s.items ≡ items → Among items s
own_among s [] there is = absurd (omega arith)
own_among s (x ∷ xs) there is = inl (sym (ap (λ l. numbered (own_number l) (own_view l)) is))

among_behind : (s : SeatedTask) (items more : DealtNumbers) → Among more s → Among (items ++ more) s
among_behind s [] more h = h
among_behind s (x ∷ xs) more h = inr (among_behind s xs more h)

pub joins_them : (s : SeatedTask) (items : DealtNumbers) → 1 ≤ length s.items → Among (items ++ s.items) s
joins_them s items there = among_behind s items s.items (own_among s s.items there refl)

pub is_among : (s : SeatedTask) → 1 ≤ length s.items → Among s.items s
is_among s there = own_among s s.items there refl

-- each of a list that is so is otherwise
each_on : {A : Type 0} (Is Other : ℕ → A → Type 0) → ((n : ℕ) (x : A) → Is n x → Other n x) → (n : ℕ) (xs : List A) → EachFrom Is n xs →
    EachFrom Other n xs
each_on Is Other on n [] each = tt
each_on Is Other on n (x ∷ xs) each = (on n x each.0, each_on Is Other on (suc n) xs each.1)

-- in the end its number has the view that it knew
pub ends_as : (views : ℕ → View) (items : DealtNumbers) (s : SeatedTask) → HaveViews views items → Among items s → EndsAs views s
ends_as views [] s have h = absurd h
ends_as views (x ∷ xs) s have (inl is) = subst (λ y. views y.number ≡ y.view) is (have 0 x refl)
ends_as views (x ∷ xs) s have (inr h) = ends_as views xs s (λ k y e. have (suc k) y e) h

-- parts of those who end so are parts of those who end otherwise
module _ (Ends Other : SeatedTask → Type 0) (on : (s : SeatedTask) → Ends s → Other s) where
  pub remounted_on : (rounds : ℕ) (met : Remounts) → Remounted Ends rounds met → Remounted Other rounds met
  remounted_on rounds met r = record { first = r.first; last = r.last; begun = r.begun; did = r.did; own = r.own; ends = on r.last r.ends }

  module _ {N : Type 0} (link : SeatedTask → ℕ → N → N → Type 0) (processors rounds : ℕ) (before after : N) where
    pub wrote_on : (writer : ℕ) (writes : Writes) → Wrote Ends link processors rounds writer before after writes →
        Wrote Other link processors rounds writer before after writes
    wrote_on writer writes w =
        record { first = w.first; last = w.last; begun = w.begun; did = w.did; own = w.own; ends = on w.last w.ends }

    pub all_wrote_on : (from count : ℕ) (writes : Writes) → AllWrote Ends link processors rounds from count before after writes →
        AllWrote Other link processors rounds from count before after writes
    all_wrote_on from count writes w = record {
      each = w.each;
      all = w.all;
      parts = each_on (λ writer. Wrote Ends link processors rounds writer before after)
          (λ writer. Wrote Other link processors rounds writer before after) wrote_on from w.each w.parts;
      sum = w.sum;
    }

  pub all_did_on : (held : ℕ → ℕ → Type 0) (seen : ℕ → Type 0) (tasks processors rounds freezes : ℕ) (patience : Option ℕ) (details : Details) →
      AllDid Ends held seen tasks processors rounds freezes patience details → AllDid Other held seen tasks processors rounds freezes patience details
  all_did_on held seen tasks processors rounds freezes patience details did = record {
    backup = record {
      begins = did.backup.begins;
      made = did.backup.made;
      first = did.backup.first;
      last = did.backup.last;
      begun = did.backup.begun;
      creates = did.backup.creates;
      same = did.backup.same;
      did = did.backup.did;
      own = did.backup.own;
      ends = on did.backup.last did.backup.ends;
    };
    remounter = remounted_on rounds (remounts_of details) did.remounter;
    writers = all_wrote_on (was_held held) processors rounds tt tt 0 (tasks - 2) details.writes did.writers;
  }

-- one writer more, before all that come after it
pub all_wrote_before : (Ends : SeatedTask → Type 0) {N : Type 0} (link : SeatedTask → ℕ → N → N → Type 0)
    (processors rounds : ℕ) (before after : N) (writer from count : ℕ) (its writes all : Writes) → from ≡ suc writer →
    Wrote Ends link processors rounds writer before after its →
    AllWrote Ends link processors rounds from count before after writes → all ≡ both its writes →
    AllWrote Ends link processors rounds writer count before after all
all_wrote_before Ends link processors rounds before after writer from count its writes all next part later is = record {
  each = its ∷ later.each;
  all = let many : count ≡ from + length later.each = later.all in omega (arith, many, next);
  parts = (
    part,
    subst (λ n. EachFrom (λ k. Wrote Ends link processors rounds k before after) n later.each) next later.parts,
  );
  sum = is ∙ ap (both its) later.sum;
}

-- one more of a list
pub each_more : {A : Type 0} (Is : ℕ → A → Type 0) (n : ℕ) (xs : List A) (x : A) → EachFrom Is n xs → Is (n + length xs) x →
    EachFrom Is n (xs ++ x ∷ [])
each_more Is n [] x each is = let e : n + 0 ≡ n = omega arith in (subst (λ k. Is k x) e is, tt)
each_more Is n (y ∷ xs) x each is =
    let e : n + suc (length xs) ≡ suc n + length xs = omega arith in
    (each.0, each_more Is (suc n) xs x each.1 (subst (λ k. Is k x) e is))

-- the same, by its place
pub each_next : {A : Type 0} (Is : ℕ → A → Type 0) (xs : List A) (x : A) (k : ℕ) → length xs ≡ k → EachFrom Is 0 xs → Is k x →
    EachFrom Is 0 (xs ++ x ∷ [])
each_next Is xs x k place each is =
    let e : k ≡ 0 + length xs = omega (arith, place) in each_more Is 0 xs x each (subst (λ j. Is j x) e is)

-- the last of a list, and those before it
pub each_last : {A : Type 0} (Is : ℕ → A → Type 0) (n : ℕ) (xs : List A) (x : A) → EachFrom Is n (xs ++ x ∷ []) →
    EachFrom Is n xs × Is (n + length xs) x
each_last Is n [] x each = let e : n ≡ n + 0 = omega arith in (tt, subst (λ k. Is k x) e each.0)
each_last Is n (y ∷ xs) x each =
    let e : suc n + length xs ≡ n + suc (length xs) = omega arith in
    let rest = each_last Is (suc n) xs x each.1 in ((each.0, rest.0), subst (λ k. Is k x) e rest.1)

-- the same, of a list that is told by both
pub each_popped : {A : Type 0} (Is : ℕ → A → Type 0) (all rest : List A) (x : A) → all ≡ rest ++ x ∷ [] → EachFrom Is 0 all →
    EachFrom Is 0 rest × Is (length rest) x
each_popped Is all rest x are each =
    let parts = each_last Is 0 rest x (subst (EachFrom Is 0) are each) in
    let e : 0 + length rest ≡ length rest = omega arith in (parts.0, subst (λ k. Is k x) e parts.1)

pub stays_among : (old other new : SeatedTask) → TookBack old other new → (s : SeatedTask) → Among old.items s → Among new.items s
stays_among old other new took s h =
    subst (λ (t : SeatedTask). Among t.items s) (sym took) (among_more s old.items other.items h)

pub comes_among : (old other new : SeatedTask) → TookBack old other new → 1 ≤ length other.items → Among new.items other
comes_among old other new took there =
    subst (λ (t : SeatedTask). Among t.items other) (sym took) (joins_them other old.items there)

-- the remounter's part, once its task was taken back
pub remounter_part : (rounds : ℕ) (met : Remounts) (first last old new : SeatedTask) → HasBegun 1 first →
    Repeats RemountRound rounds (first, no_remounts) (last, met) → TookBack old last new → Remounted (Among new.items) rounds met
remounter_part rounds met first last old new begun did took =
    let stayed = (remounts_freeze_none rounds (first, no_remounts) (last, met) did).numbers in record {
      first = first;
      last = last;
      begun = begun;
      did = did;
      own = stayed.own ∙ begun.own;
      ends = comes_among old last new took (stayed.there begun.there);
    }

-- and a writer's
pub writer_part : {N : Type 0} (link : SeatedTask → ℕ → N → N → Type 0) (processors rounds writer : ℕ) (before after : N)
    (writes : Writes) (first last old new : SeatedTask) → HasBegun (writer + 2) first →
    Repeats (WriterRound link processors writer) rounds (first, before, no_writes) (last, after, writes) → TookBack old last new →
    Wrote (Among new.items) link processors rounds writer before after writes
writer_part link processors rounds writer before after writes first last old new begun did took =
    let stayed = (writes_freeze_none link processors writer rounds (first, before, no_writes) (last, after, writes) did).numbers in record {
      first = first;
      last = last;
      begun = begun;
      did = did;
      own = stayed.own ∙ begun.own;
      ends = comes_among old last new took (stayed.there begun.there);
    }

-- what a task has to give stays its to give
pub gives_stay : (first last : SeatedTask) (from count : ℕ) → KeepsNumbers first last → Gives first from count → Gives last from count
gives_stay first last from count stayed gives = record {
  there = stayed.there gives.there;
  own = stayed.own ∙ gives.own;
  idle = stayed.idle gives.idle;
  later = λ k low high. ap (times k) stayed.spare ∙ gives.later k low high;
  earlier = λ k low. ap (times k) stayed.spare ∙ gives.earlier k low;
  nothing = subst HaveDoneNothing (sym stayed.spare) gives.nothing;
}
