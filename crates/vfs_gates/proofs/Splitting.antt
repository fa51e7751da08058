-- Tasks that are split off, one after the other, take the numbers in their order, and none is refused but for memory.
use Rattle.vfs_gates.proofs.Prelude.{Config, DealtNumbers, GateError, IsIdle, List, SeatedTask, SplitOf, [], ap, arith, cond, deal, dite, eqb, false}
use Rattle.vfs_gates.proofs.Prelude.{first_items, given_of, kept_of, length, own_number, own_view, refl, spare_of, subst, suc, sym, times, true}
use Rattle.vfs_gates.proofs.Prelude.{view_in, zero, ℕ, ℕ_discrete, ◌++◌, ◌+◌, ◌<◌, ◌∙◌, ◌∷◌, ◌≡◌, ◌≤◌}
use Rattle.std.proofs.Common.{◌≢◌}
use Rattle.access_model.specs.declared.errors.GateError.TheVariants.{NoMemory, Order, TooMany}
use Rattle.gate_steps.proofs.call_events.{Giving.{times-without, times-without_other}, Opening.{times-deal, times-deal_below}}
use Rattle.gate_steps.specs.Seating.{without}
use Rattle.vfs_gates.{proofs.Waiting.kept_number, specs.{Parts.SplitRefused, Splitting.{AreNumbered, Gives, HasBegun, HaveDoneNothing}}}
use native.Mathlib.Decide.{dec_lt}

-- the numbers behind the first of so many
later_dealt : (count k : ℕ) → 1 ≤ k → k < count → times k (spare_of (deal 0 count)) ≡ 1
later_dealt zero k from below = absurd (omega arith)
later_dealt (suc count) k from below = times-deal k 1 count from (omega arith)

-- and none before them
earlier_dealt : (count k : ℕ) → k < 1 → times k (spare_of (deal 0 count)) ≡ 0
earlier_dealt zero k below = refl
earlier_dealt (suc count) k below = times-deal_below k 1 count below

-- the first of all numbers is 0
own_dealt : (count : ℕ) → own_number (deal 0 count) ≡ 0
own_dealt zero = refl
own_dealt (suc count) = refl

-- it is there, and has done nothing
begins_dealt : (count : ℕ) → 1 ≤ count → (1 ≤ length (deal 0 count)) × ((own_view (deal 0 count)).actions ≡ [])
begins_dealt zero some = absurd (omega (arith, some))
begins_dealt (suc count) some = (omega arith, refl)

-- who is given a number has it
own_given : (n : ℕ) (items : DealtNumbers) → 1 ≤ times n (spare_of items) → own_number (given_of n items) ≡ n
own_given n [] there = absurd (omega (arith, there))
own_given n (x ∷ xs) there = refl

-- numbers that were dealt have done nothing
none_dealt : (from count : ℕ) → HaveDoneNothing (deal from count)
none_dealt from zero = tt
none_dealt from (suc count) = (refl, none_dealt (suc from) count)

-- nor have those of them behind the first
none_later : (count : ℕ) → HaveDoneNothing (spare_of (deal 0 count))
none_later zero = tt
none_later (suc count) = none_dealt 1 count

-- nor those that are left without one
none_without : (n : ℕ) (items : DealtNumbers) → HaveDoneNothing items → HaveDoneNothing (without n items)
none_without n [] none = tt
none_without n (x ∷ xs) none =
    let rest = none_without n xs none.1 in
    elim (eqb x.number n) as (λ b. HaveDoneNothing (cond b (without n xs) (x ∷ without n xs))) [ true ↦ rest | false ↦ (none.0, rest) ]

-- nor has one of them
none_in : (n : ℕ) (items : DealtNumbers) → HaveDoneNothing items → (view_in n items).actions ≡ []
none_in n [] none = refl
none_in n (x ∷ xs) none =
    let rest = none_in n xs none.1 in
    elim (eqb x.number n) as (λ b. (cond b x.view (view_in n xs)).actions ≡ []) [ true ↦ none.0 | false ↦ rest ]

-- who keeps the others
none_kept : (n : ℕ) (items : DealtNumbers) → HaveDoneNothing (spare_of items) →
    HaveDoneNothing (spare_of (kept_of n items))
none_kept n [] none = none
none_kept n (x ∷ xs) none = none_without n xs none

-- who is given one
none_given : (n : ℕ) (items : DealtNumbers) → HaveDoneNothing (spare_of items) → (own_view (given_of n items)).actions ≡ []
none_given n [] none = refl
none_given n (x ∷ xs) none = none_in n xs none

-- the first task has all numbers but its own to give
pub gives_all : (first : SeatedTask) (c : Config) → 1 ≤ c.tasks → IsIdle first → first.items ≡ first_items c → Gives first 1 c.tasks
gives_all first c some idle all = record {
  there = subst (λ (l : DealtNumbers). 1 ≤ length l) (sym all) (begins_dealt c.tasks some).0;
  own = ap own_number all ∙ own_dealt c.tasks;
  idle = idle;
  later = λ (k : ℕ) from below. ap (λ (l : DealtNumbers). times k (spare_of l)) all ∙ later_dealt c.tasks k from below;
  earlier = λ (k : ℕ) below. ap (λ (l : DealtNumbers). times k (spare_of l)) all ∙ earlier_dealt c.tasks k below;
  nothing = subst (λ (l : DealtNumbers). HaveDoneNothing (spare_of l)) (sym all) (none_later c.tasks);
}

-- the lowest number is the next one
next_number : (first left other : SeatedTask) (from count : ℕ) → Gives first from count → from < count →
    (s : SplitOf first left other) → s.number ≡ from
next_number first left other from count gives below s =
    let there = s.there in
    let next = gives.later from (omega arith) below in
    dite (dec_lt s.number from)
    (λ low. let none = gives.earlier s.number low in absurd (omega (arith, none, there)))
    (λ not_low. dite (dec_lt from s.number)
    (λ high. let none = s.lowest from high in absurd (omega (arith, none, next)))
    (λ not_high. omega arith))

-- and it is the new task's
pub has_next : (first left other : SeatedTask) (from count : ℕ) → Gives first from count → from < count → SplitOf first left other →
    own_number other.items ≡ from
has_next first left other from count gives below s =
    ap (λ (t : SeatedTask). own_number t.items) s.given ∙ own_given s.number first.items s.there
    ∙ next_number first left other from count gives below s

-- who is given a number has one
there_given : (n : ℕ) (items : DealtNumbers) → 1 ≤ times n (spare_of items) → 1 ≤ length (given_of n items)
there_given n [] there = absurd (omega (arith, there))
there_given n (x ∷ xs) there = omega arith

-- which has done nothing
pub has_begun : (first left other : SeatedTask) (from count : ℕ) → Gives first from count → from < count → SplitOf first left other →
    HasBegun from other
has_begun first left other from count gives below s = record {
  there = subst (λ (t : SeatedTask). 1 ≤ length t.items) (sym s.given) (there_given s.number first.items s.there);
  own = has_next first left other from count gives below s;
  nothing = ap (λ (t : SeatedTask). (own_view t.items).actions) s.given ∙ none_given s.number first.items gives.nothing;
}

-- one more with the next number
pub numbered_more : (from : ℕ) (ts : List SeatedTask) (t : SeatedTask) → AreNumbered from ts → own_number t.items ≡ from + length ts →
    AreNumbered from (ts ++ t ∷ [])
numbered_more from [] t are is = (omega (arith, is), _)
numbered_more from (x ∷ xs) t are is = (are.0, numbered_more (from + 1) xs t are.1 (omega (arith, is)))

-- what a task has to give that gave a number away
spare_left : (n : ℕ) (items : DealtNumbers) (k : ℕ) → k ≢ n → times k (spare_of (kept_of n items)) ≡ times k (spare_of items)
spare_left n [] k other = refl
spare_left n (x ∷ xs) k other = times-without_other k n xs other

-- it has not that number
spare_gone : (n : ℕ) (items : DealtNumbers) → times n (spare_of (kept_of n items)) ≡ 0
spare_gone n [] = refl
spare_gone n (x ∷ xs) = times-without n xs

-- it is still there
pub there_kept : (n : ℕ) (items : DealtNumbers) → 1 ≤ length items → 1 ≤ length (kept_of n items)
there_kept n [] there = there
there_kept n (x ∷ xs) there = omega arith

-- after a split the first task has the numbers behind the next to give
pub gives_on : (first left other : SeatedTask) (from count : ℕ) → Gives first from count → from < count → SplitOf first left other →
    Gives left (from + 1) count
gives_on first left other from count gives below s =
    let is = next_number first left other from count gives below s in
    let kept : left.items ≡ kept_of s.number first.items = ap (λ (t : SeatedTask). t.items) s.kept in
    let same = λ (k : ℕ) (ne : k ≢ s.number).
    ap (λ (l : DealtNumbers). times k (spare_of l)) kept ∙ spare_left s.number first.items k ne in
    record {
      there = subst (λ (l : DealtNumbers). 1 ≤ length l) (sym kept) (there_kept s.number first.items gives.there);
      own = ap own_number kept ∙ kept_number s.number first.items ∙ gives.own;
      idle = ap (λ (t : SeatedTask). t.phase) s.kept ∙ gives.idle;
      later = λ (k : ℕ) (low : from + 1 ≤ k) (high : k < count).
          let ne : k ≢ s.number = omega arith in same k ne ∙ gives.later k (omega arith) high;
      earlier = λ (k : ℕ) (low : k < from + 1). dite (ℕ_discrete k s.number)
          (λ yes. ap (λ (l : DealtNumbers). times k (spare_of l)) kept
          ∙ ap (λ (n : ℕ). times n (spare_of (kept_of s.number first.items))) yes ∙ spare_gone s.number first.items)
          (λ ne. same k ne ∙ gives.earlier k (omega arith));
      nothing = subst (λ (l : DealtNumbers). HaveDoneNothing (spare_of l)) (sym kept) (none_kept s.number first.items gives.nothing);
    }

-- while a number is left, a split is refused for memory alone
pub refused_for_memory : (first : SeatedTask) (from count : ℕ) (e : GateError) → Gives first from count → from < count →
    SplitRefused first e → e ≡ NoMemory
refused_for_memory first from count Order gives below h = absurd (h gives.idle)
refused_for_memory first from count TooMany gives below h =
    let none = h.1 from in
    let next = gives.later from (omega arith) below in
    absurd (omega (arith, none, next))
refused_for_memory first from count NoMemory gives below h = refl
refused_for_memory first from count _ gives below h = absurd h

-- the first task that there is begins with number 0
pub first_begins : (first : SeatedTask) (c : Config) → 1 ≤ c.tasks → first.items ≡ first_items c → HasBegun 0 first
first_begins first c some all =
    let dealt = begins_dealt c.tasks some in record {
      there = subst (λ (l : DealtNumbers). 1 ≤ length l) (sym all) dealt.0;
      own = ap own_number all ∙ own_dealt c.tasks;
      nothing = ap (λ (l : DealtNumbers). (own_view l).actions) all ∙ dealt.1;
    }
