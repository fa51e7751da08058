-- A number's list goes with it, when tasks are split and joined.
use Rattle.vfs_gates.proofs.Prelude.{Action, DealtNumbers, Entry, HasDone, HaveHistory, List, Numbered, SeatedTask, SplitOf, View, [], ap, eqb_tells}
use Rattle.vfs_gates.proofs.Prelude.{get_elem?, given_of, inl, inr, kept_of, some, subst, suc, sym, times, view_in, zero, ℕ, ◌++◌, ◌∙◌, ◌∷◌, ◌≡◌, ◌≤◌}
use Rattle.vfs_gates.proofs.Prelude.{◌⊎◌}
use mathlib.Core.Option.{some-injective, some-ne-none}
use Rattle.gate_steps.{proofs.{Dealing.times-at, Giving.{at_behind, view_in-at}}, specs.Seating.{HaveViews, numbered, renewed, without}}
use Rattle.atomic_table.proofs.Lists.{at_longer}

-- of two tasks' numbers after a join
pub joined_first : (n : ℕ) (list : List Action) (items others : DealtNumbers) → HasDone n list items → HasDone n list (items ++ others)
joined_first n list items others has =
    record { place = has.place; view = has.view; there = at_longer items others has.place (numbered n has.view) has.there; done = has.done }

pub joined_second : (n : ℕ) (list : List Action) (items others : DealtNumbers) → HasDone n list others → HasDone n list (items ++ others)
joined_second n list items others has =
    let there = at_behind items others has.place (numbered n has.view) has.there in
    record { place = there.0; view = has.view; there = there.1; done = has.done }

-- another number than the one that is given stays
stays_at : (given n : ℕ) (v : View) (items : DealtNumbers) (k : ℕ) → (n ≡ given → ⊥) → get_elem? items k ≡ some (numbered n v) →
    (j : ℕ) × (get_elem? (without given items) j ≡ some (numbered n v))
stays_at given n v [] k other at = absurd (some-ne-none (numbered n v) (sym at))
stays_at given n v (x ∷ items) zero other at =
    let is : x ≡ numbered n v = some-injective x (numbered n v) at in
    elim (eqb_tells x.number given) [
      | inl same ↦ absurd (other (sym (ap (λ (y : Numbered). y.number) is) ∙ same.1))
      | inr else ↦ rw else.0 (0, at)
    ]
stays_at given n v (x ∷ items) (suc k) other at =
    let r = stays_at given n v items k other at in
    elim (eqb_tells x.number given) [ inl same ↦ rw same.0 r | inr else ↦ rw else.0 (suc r.0, r.1) ]

-- of a task's numbers after a split
moved : (views : ℕ → View) (given n : ℕ) (v : View) (list : List Action) (items : DealtNumbers) (k : ℕ) → HaveViews views items →
    get_elem? items k ≡ some (numbered n v) → v.actions ≡ list → HasDone n list (kept_of given items) ⊎ HasDone n list (given_of given items)
moved views given n v list [] k mine at done = absurd (some-ne-none (numbered n v) (sym at))
moved views given n v list (x ∷ xs) zero mine at done = inl (record { place = 0; view = v; there = at; done = done })
moved views given n v list (x ∷ xs) (suc k) mine at done =
    elim (eqb_tells n given) [
      | inl same ↦
          let here = view_in-at given xs (subst (λ z. 1 ≤ times z xs) same.1 (times-at xs k (numbered n v) at)) in
          let its : views given ≡ view_in given xs = mine (suc here.0) (numbered given (view_in given xs)) here.1 in
          let own : views n ≡ v = mine (suc k) (numbered n v) at in
          inr (record {
            place = 0;
            view = renewed (view_in given xs);
            there = ap (λ z. some (numbered z (renewed (view_in given xs)))) (sym same.1);
            done = ap (λ (u : View). u.actions) (sym its ∙ (ap views (sym same.1) ∙ own)) ∙ done;
          })
      | inr other ↦
          let r = stays_at given n v xs k other.1 at in inl (record { place = suc r.0; view = v; there = r.1; done = done })
    ]

pub split_keeps : (n : ℕ) (list : List Action) (old left other : SeatedTask) (s : List (List Entry)) → SplitOf old left other →
    HaveHistory old.config old.items s → HasDone n list old.items → HasDone n list left.items ⊎ HasDone n list other.items
split_keeps n list old left other s split history has =
    subst (λ (l : DealtNumbers). HasDone n list l ⊎ HasDone n list other.items) (sym (ap (λ (t : SeatedTask). t.items) split.kept))
    (subst (λ (l : DealtNumbers). HasDone n list (kept_of split.number old.items) ⊎ HasDone n list l)
    (sym (ap (λ (t : SeatedTask). t.items) split.given))
    (moved history.world.views split.number n has.view list old.items has.place history.mine has.there has.done))
