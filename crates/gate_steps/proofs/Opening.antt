-- The table as it begins: the words of an opening, and one seat with all numbers.
use Rattle.gate_steps.proofs.Prelude.{Config, DealtNumbers, HaveSeen, HaveViews, IsWithin, Knowledge, List, Numbered, TableInvariantHolds, [], ap}
use Rattle.gate_steps.proofs.Prelude.{arith, dite, get_elem?, knows, numbered, opening, refl, some, some-injective, some-ne-none, subst, suc, sym}
use Rattle.gate_steps.proofs.Prelude.{table_index, table_length, times, zero, ℕ, ◌+◌, ◌<◌, ◌∙◌, ◌∷◌, ◌≡◌, ◌≤◌}
use Rattle.std.proofs.Common.{eqb}
use Rattle.cpu_words.{proofs.Places.opening_listed, specs.{Lists.AreOpening, Words.opening_words}}
use Rattle.gate_schedules.proofs.{frames.Places.are_few, schedules.Schedule.{opening_good, opening_shown}}
use Rattle.gate_world.specs.{Configs.extents_kept, Views.opening_view}
use Rattle.gate_steps.proofs.{Dealing.{one_if-other, one_if-same}, Growing.seen_now, Reaching.opening_reached, TableWords.apart}
use Rattle.gate_steps.specs.{Rules.{TableShows, first_items, first_known}, Seating.{deal, one_if}}
use native.Mathlib.Decide.{ℕ_discrete}

-- numbers below those that are dealt stand nowhere
pub times-deal_below : (m from k : ℕ) → m < from → times m (deal from k) ≡ 0
times-deal_below m from zero lt = refl
times-deal_below m from (suc k) lt =
    let r = times-deal_below m (suc from) k (omega arith) in
    let ne = one_if-other from m (λ q. omega arith) in
    omega arith

-- nor do those above
pub times-deal_above : (m from k : ℕ) → from + k ≤ m → times m (deal from k) ≡ 0
times-deal_above m from zero le = refl
times-deal_above m from (suc k) le =
    let r = times-deal_above m (suc from) k (omega arith) in
    let ne = one_if-other from m (λ q. omega arith) in
    omega arith

-- and each of these stands there once
pub times-deal : (m from k : ℕ) → from ≤ m → m < from + k → times m (deal from k) ≡ 1
times-deal m from zero le lt = absurd (omega arith)
times-deal m from (suc k) le lt = dite (ℕ_discrete from m)
    (λ yes.
    let r = times-deal_below m (suc from) k (omega arith) in
    let e : one_if (eqb from m) ≡ 1 = ap (λ z. one_if (eqb from z)) (sym yes) ∙ one_if-same from in
    omega arith)
    (λ no. let r = times-deal m (suc from) k (omega arith) (omega arith) in let ne = one_if-other from m no in omega arith)

-- each has done nothing
deal-views : (from k : ℕ) → HaveViews (λ t. opening_view) (deal from k)
deal-views from zero j y e = absurd (some-ne-none y (sym e))
deal-views from (suc k) zero y e = ap (λ (z : Numbered). z.view) (some-injective (numbered from opening_view) y e)
deal-views from (suc k) (suc j) y e = deal-views (suc from) k j y e

-- which the first seat knows
first_views : (n id : ℕ) (l : DealtNumbers) → get_elem? (deal 0 n ∷ []) id ≡ some l → HaveViews (λ t. opening_view) l
first_views n zero l e = subst (HaveViews (λ t. opening_view)) (some-injective (deal 0 n) l e) (deal-views 0 n)
first_views n (suc id) l e = absurd (some-ne-none l (sym e))

-- which has seen the empty schedule
first_seen : (items : DealtNumbers) (id : ℕ) (k : Knowledge) → get_elem? (knows items ([] ∷ []) ∷ []) id ≡ some k → HaveSeen [] k.items k.seen
first_seen items zero k e = subst (λ (l : Knowledge). HaveSeen [] l.items l.seen) (some-injective (knows items ([] ∷ [])) k e) (seen_now [] items)
first_seen items (suc id) k e = absurd (some-ne-none k (sym e))

module _ (c : Config) (lim : IsWithin c) (ws : List ℕ) (opens : AreOpening table_index table_length ws) where
  -- the table shows the opening words
  shows_opening : TableShows c ws opening_words
  shows_opening = opening_listed (extents_kept c) (are_few c lim) table_index apart table_length ws opens (omega (arith, lim.some_node))

  -- and its rule holds, with all numbers in the first seat
  pub opening_held : TableInvariantHolds c ws (first_known c ∷ [])
  opening_held = let n : ℕ = c.tasks in record {
    world = opening;
    ruled = record { within = lim; long = opens.long; words = shows_opening; good = opening_good c lim; opens = λ untouched. refl };
    history = record {
      log = [];
      legal = tt;
      end = opening_shown c lim;
      lists = λ t. refl;
      snapshots = λ t. tt;
      reached = (opening_reached c).0;
    };
    dealt = record {
      once = λ m lt. let e = times-deal m 0 n (omega arith) (omega arith) in omega arith;
      no_other = λ m ge. let e = times-deal_above m 0 n (omega arith) in omega arith;
      same = λ id l e. first_views n id l e;
    };
    seen = λ id k e. subst (λ l. HaveSeen l k.items k.seen) (sym (opening_reached c).1) (first_seen (first_items c) id k e);
  }
