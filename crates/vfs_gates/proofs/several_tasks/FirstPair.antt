-- The first two tasks of some gates: they have all numbers between them, and none of these has done anything.
use Rattle.vfs_gates.proofs.Prelude.{Action, Config, DealtNumbers, HaveAll, NoneIs, SeatedTask, SplitOf, [], ap, arith, cond, deal, dite, false}
use Rattle.vfs_gates.proofs.Prelude.{first_items, given_of, kept_of, subst, suc, sym, times, true, view_in, zero, ℕ, ℕ_discrete, ◌++◌, ◌+◌, ◌<◌, ◌==◌}
use Rattle.vfs_gates.proofs.Prelude.{◌∙◌, ◌∷◌, ◌≡◌, ◌≤◌}
use Rattle.gate_steps.{proofs.{Dealing.{one_if-same, times-append}, Giving.times-without_other, Opening.times-deal}, specs.Seating.without}
use Rattle.vfs_gates.specs.Meetings.{NoneDone}

-- a number that stands among some is kept or given
kept_or_given : (given n : ℕ) (items : DealtNumbers) → 1 ≤ times n items → 1 ≤ times n (given_of given items) + times n (kept_of given items)
kept_or_given given n [] there = absurd (omega arith)
kept_or_given given n (x ∷ xs) there = dite (ℕ_discrete n given)
    (λ same. let one = one_if-same n in subst (λ z. 1 ≤ times n (given_of z (x ∷ xs)) + times n (kept_of z (x ∷ xs))) same (omega arith))
    (λ other. let rest = times-without_other n given xs other in omega arith)

-- none of fresh numbers has done such an action, nor of those that are kept or given
none_dealt : (Is : Action → Type 0) (from count : ℕ) → NoneDone Is (deal from count)
none_dealt Is from zero = tt
none_dealt Is from (suc count) = (tt, none_dealt Is (suc from) count)

none_without : (Is : Action → Type 0) (n : ℕ) (items : DealtNumbers) → NoneDone Is items → NoneDone Is (without n items)
none_without Is n [] none = tt
none_without Is n (x ∷ xs) none =
    let rest = none_without Is n xs none.1 in
    elim (x.number == n) as (λ b. NoneDone Is (cond b (without n xs) (x ∷ without n xs))) [ true ↦ rest | false ↦ (none.0, rest) ]

none_in : (Is : Action → Type 0) (n : ℕ) (items : DealtNumbers) → NoneDone Is items → NoneIs Is (view_in n items).actions
none_in Is n [] none = tt
none_in Is n (x ∷ xs) none =
    let rest = none_in Is n xs none.1 in
    elim (x.number == n) as (λ b. NoneIs Is (cond b x.view (view_in n xs)).actions) [ true ↦ none.0 | false ↦ rest ]

none_given : (Is : Action → Type 0) (n : ℕ) (items : DealtNumbers) → NoneDone Is items → NoneDone Is (given_of n items)
none_given Is n [] none = tt
none_given Is n (x ∷ xs) none = (none_in Is n xs none.1, tt)

none_kept : (Is : Action → Type 0) (n : ℕ) (items : DealtNumbers) → NoneDone Is items → NoneDone Is (kept_of n items)
none_kept Is n [] none = tt
none_kept Is n (x ∷ xs) none = (none.0, none_without Is n xs none.1)

none_of_two : (Is : Action → Type 0) (one two : DealtNumbers) → NoneDone Is one → NoneDone Is two → NoneDone Is (one ++ two)
none_of_two Is [] two first second = second
none_of_two Is (x ∷ one) two first second = (first.0, none_of_two Is one two first.1 second)

-- the second task and the first, after the first split
module _ (c : Config) (old left other : SeatedTask) (all : old.items ≡ first_items c) (config : old.config ≡ c) (split : SplitOf old left other) where
  kept : left.items ≡ kept_of split.number old.items
  kept = ap (λ (s : SeatedTask). s.items) split.kept

  given : other.items ≡ given_of split.number old.items
  given = ap (λ (s : SeatedTask). s.items) split.given

  pub first_pair_has_all : HaveAll other left
  first_pair_has_all n lt =
      let below : n < c.tasks = subst (λ (k : Config). n < k.tasks) (ap (λ (s : SeatedTask). s.config) split.given ∙ config) lt in
      let one : times n old.items ≡ 1 = ap (times n) all ∙ times-deal n 0 c.tasks (omega arith) (omega arith) in
      let both : 1 ≤ times n (given_of split.number old.items) + times n (kept_of split.number old.items) =
      kept_or_given split.number n old.items (omega arith) in
      let mine = ap (times n) kept in
      let its = ap (times n) given in
      let whole = times-append n other.items left.items in omega arith

  pub first_pair_has_done_none : (Is : Action → Type 0) → NoneDone Is (other.items ++ left.items)
  first_pair_has_done_none Is =
      let fresh : NoneDone Is old.items = subst (NoneDone Is) (sym all) (none_dealt Is 0 c.tasks) in
      none_of_two Is other.items left.items (subst (NoneDone Is) (sym given) (none_given Is split.number old.items fresh))
      (subst (NoneDone Is) (sym kept) (none_kept Is split.number old.items fresh))

-- two tasks that have all numbers have them after calls
pub all_stay : (one two first second : SeatedTask) → HaveAll one two → first.config ≡ one.config →
    ((n : ℕ) → times n first.items ≡ times n one.items) → ((n : ℕ) → times n second.items ≡ times n two.items) → HaveAll first second
all_stay one two first second all config mine its n lt =
    let was = all n (subst (λ (c : Config). n < c.tasks) config lt) in
    let before = times-append n one.items two.items in
    let after = times-append n first.items second.items in
    let same = mine n in
    let other = its n in omega arith
