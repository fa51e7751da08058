-- A task that was split, and took the numbers back, has all its numbers still.
use Rattle.std.proofs.Common.{[], ap, arith, cond, eq-eqb, eqb, false, inl, inr, length, ne_eqb, refl, subst, sym, true, ℕ, ◌++◌, ◌+◌, ◌↔◌, ◌∙◌, ◌∷◌}
use Rattle.std.proofs.{Common.{◌≡◌, ◌≢◌, ◌≤◌}, lemmas.Bool.Decides.eqb_tells}
use Rattle.access_model.specs.declared.errors.GateError.{GateError, TheVariants.{NoMemory, Order, TooMany}}
use Rattle.{gate_steps.proofs.Giving.times-without_other, gate_world.specs.{Views.opening_view, declared.views.View.View}}
use Rattle.vfs_gates.{proofs.{Grown.{both_stay_seen, same_stays_seen}, Rounds.{joined_rests, times-append}}, specs.{Grown.StaySeen, Held.Rests}}
use Rattle.vfs_gates.specs.{Parts.{SplitOf, SplitRefused}, Seating.{DealtNumbers, given_of, kept_of, numbered, renewed, times, view_in, without}}
use Rattle.vfs_gates.specs.TaskStates.{SeatedTask, own_number, own_view, spare_of}
use Rattle.mntgate_c.specs.Openings.{HasAllStill, SplitIsRefused}
use mathlib.Core.Logic.{dite}
use native.Mathlib.Decide.{ℕ_discrete}

pub still_has_all : (s : SeatedTask) → Rests s → HasAllStill s s
still_has_all s rests = record {
  table = refl;
  config = refl;
  own = refl;
  view = refl;
  numbers = λ n. ((λ some. some), (λ some. some));
  done = λ n. refl;
  rests = rests;
  seen = same_stays_seen s.seen;
}

-- a number that is given and taken back
abbrev back : ℕ → DealtNumbers → DealtNumbers
back n items = kept_of n items ++ given_of n items

back_times : (n : ℕ) (items : DealtNumbers) → 1 ≤ times n (spare_of items) → (k : ℕ) →
    (1 ≤ times k items) ↔ (1 ≤ times k (back n items))
back_times n [] some k = absurd (omega (arith, some))
back_times n (x ∷ xs) some k =
    let all = times-append k (x ∷ without n xs) (given_of n (x ∷ xs)) in
    elim (eqb_tells n k) [
      | inl same ↦
          let given : times k (given_of n (x ∷ xs)) ≡ 1 = rw same.0 refl in
          let spare : 1 ≤ times k xs = subst (λ m. 1 ≤ times m xs) same.1 some in
          ((λ one. omega (arith, all, given)), (λ one. omega (arith, spare)))
      | inr other ↦
          let given : times k (given_of n (x ∷ xs)) ≡ 0 = rw other.0 refl in
          let kept = times-without_other k n xs (λ is. other.1 (sym is)) in
          ((λ one. omega (arith, all, given, kept, one)), (λ one. omega (arith, all, given, kept, one)))
    ]

-- the view of a number among these, from which one was taken, and that one behind them
view_behind : (k n : ℕ) (v : View) (l : DealtNumbers) → k ≢ n → view_in k (l ++ numbered n v ∷ []) ≡ view_in k l
view_behind k n v [] other = ap (λ b. cond b v opening_view) (ne_eqb n k (λ is. other (sym is)))
view_behind k n v (x ∷ xs) other = ap (cond (eqb x.number k) x.view) (view_behind k n v xs other)

view_without : (k n : ℕ) (l : DealtNumbers) → k ≢ n → view_in k (without n l) ≡ view_in k l
view_without k n [] other = refl
view_without k n (x ∷ xs) other = dite (ℕ_discrete x.number n)
    (λ yes. ap (λ b. view_in k (cond b (without n xs) (x ∷ without n xs))) (eq-eqb x.number n yes) ∙ view_without k n xs other ∙
    sym (ap (λ b. cond b x.view (view_in k xs)) (ne_eqb x.number k (λ is. other (sym is ∙ yes)))))
    (λ no. ap (λ b. view_in k (cond b (without n xs) (x ∷ without n xs))) (ne_eqb x.number n no) ∙
    ap (cond (eqb x.number k) x.view) (view_without k n xs other))

view_last : (n : ℕ) (v : View) (l : DealtNumbers) → view_in n (without n l ++ numbered n v ∷ []) ≡ v
view_last n v [] = ap (λ b. cond b v opening_view) (eq-eqb n n refl)
view_last n v (x ∷ xs) = dite (ℕ_discrete x.number n)
    (λ yes. ap (λ b. view_in n (cond b (without n xs) (x ∷ without n xs) ++ numbered n v ∷ [])) (eq-eqb x.number n yes) ∙ view_last n v xs)
    (λ no. ap (λ b. view_in n (cond b (without n xs) (x ∷ without n xs) ++ numbered n v ∷ [])) (ne_eqb x.number n no) ∙
    ap (λ b. cond b x.view (view_in n (without n xs ++ numbered n v ∷ []))) (ne_eqb x.number n no) ∙ view_last n v xs)

-- each number has done what it had
back_done : (n : ℕ) (items : DealtNumbers) (k : ℕ) → (view_in k (back n items)).actions ≡ (view_in k items).actions
back_done n [] k = refl
back_done n (x ∷ xs) k =
    let given : View = renewed (view_in n xs) in
    let behind : (view_in k (without n xs ++ numbered n given ∷ [])).actions ≡ (view_in k xs).actions =
    dite (ℕ_discrete k n)
    (λ yes. subst (λ m. (view_in m (without n xs ++ numbered n given ∷ [])).actions ≡ (view_in m xs).actions) (sym yes)
    (ap (λ (v : View). v.actions) (view_last n given xs)))
    (λ no. ap (λ (v : View). v.actions) (view_behind k n given (without n xs) no ∙ view_without k n xs no)) in
    elim (eqb x.number k) as (λ b. (cond b x.view (view_in k (without n xs ++ numbered n given ∷ []))).actions ≡ (cond b x.view (view_in k xs)).actions) [
      | true ↦ refl
      | false ↦ behind
    ]

own_back : (n : ℕ) (items : DealtNumbers) → 1 ≤ times n (spare_of items) →
    (own_number (back n items) ≡ own_number items) × (own_view (back n items) ≡ own_view items)
own_back n [] some = absurd (omega (arith, some))
own_back n (x ∷ xs) some = (refl, refl)

some_kept : (n : ℕ) (items : DealtNumbers) → 1 ≤ times n (spare_of items) → 1 ≤ length (kept_of n items)
some_kept n [] some = absurd (omega (arith, some))
some_kept n (x ∷ xs) some = omega arith

pub took_back : (old left other new : SeatedTask) → SplitOf old left other → Rests left →
    new ≡ record left { items = left.items ++ other.items; seen = left.seen ++ other.seen } → HasAllStill old new
took_back old left other new split rests is =
    let n : ℕ = split.number in
    let items : new.items ≡ back n old.items =
    ap (λ (s : SeatedTask). s.items) is ∙ (λ i. (ap (λ (s : SeatedTask). s.items) split.kept i) ++ (ap (λ (s : SeatedTask). s.items) split.given i)) in
    let seen : new.seen ≡ old.seen ++ old.seen =
    ap (λ (s : SeatedTask). s.seen) is ∙ (λ i. (ap (λ (s : SeatedTask). s.seen) split.kept i) ++ (ap (λ (s : SeatedTask). s.seen) split.given i)) in
    let own = own_back n old.items split.there in
    record {
      table = ap (λ (s : SeatedTask). s.table) is ∙ ap (λ (s : SeatedTask). s.table) split.kept;
      config = ap (λ (s : SeatedTask). s.config) is ∙ ap (λ (s : SeatedTask). s.config) split.kept;
      own = ap own_number items ∙ own.0;
      view = ap own_view items ∙ own.1;
      done = λ k. ap (λ (l : DealtNumbers). (view_in k l).actions) items ∙ back_done n old.items k;
      numbers = λ k. subst (λ (l : DealtNumbers). (1 ≤ times k old.items) ↔ (1 ≤ times k l)) (sym items) (back_times n old.items split.there k);
      rests = joined_rests left other is
          (subst (λ (s : SeatedTask). 1 ≤ length s.items) (sym split.kept) (some_kept n old.items split.there)) rests;
      seen = subst (StaySeen old.seen) (sym seen) (both_stay_seen old.seen old.seen).0;
    }

-- Why it is not split, by why the task itself is not, and by what it took back.
pub not_split : (old new : SeatedTask) (refusal : GateError) → Rests old → new ≡ old → SplitRefused old refusal → SplitIsRefused old new refusal
not_split old new Order rests same refused = absurd (refused rests.0)
not_split old new TooMany rests same refused = (rests, refused.1, same)
not_split old new NoMemory rests same refused = (rests, refused.1, subst (HasAllStill old) (sym same) (still_has_all old rests))
not_split old new refusal rests same refused = absurd refused

pub none_for_it : (old left other new : SeatedTask) → Rests old → SplitOf old left other → Rests left →
    new ≡ record left { items = left.items ++ other.items; seen = left.seen ++ other.seen } → SplitIsRefused old new NoMemory
none_for_it old left other new rests split left_rests is =
    (rests, (λ gave. let none = gave split.number in omega (arith, none, split.there)), took_back old left other new split left_rests is)
