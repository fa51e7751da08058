-- What a task has that took back the numbers of others, and why it found nothing frozen or thawed by them.
use Rattle.gate_runs.proofs.Prelude.{Action, Config, DealtNumbers, FoundOthers, HaveNotFrozen, List, NeverFreezes, SeatedTask, User, View, [], arith}
use Rattle.gate_runs.proofs.Prelude.{false, inl, inr, length, own_number, refl, spare_of, subst, suc, sym, zero, ℕ, ◌++◌, ◌+◌, ◌<◌, ◌∙◌, ◌∷◌, ◌≡◌}
use Rattle.gate_runs.proofs.Prelude.{◌≤◌}
use Rattle.std.proofs.lemmas.Bool.Decides.{eqb_tells}
use Rattle.access_model.specs.declared.actions.Action.TheVariants.{Leave}
use Rattle.vfs_gates.proofs.{Grown.{both_stay_seen, same_stays_seen, stays_seen_on}, Rounds.{own_number_same, own_times, times-append}}
use Rattle.vfs_gates.{proofs.several_tasks.{FreezesBeside.not_busy, FrozenUntilThawed.stands}, specs.Ended.{EndedWith, HasAll}}
use Rattle.vfs_gates.specs.{Frozen.{IsBesideFreezes, NeverThaws}, Grown.StaySeen, Seating.{HaveViews, one_if, times}}
use Rattle.gate_runs.specs.Homes.{HasBack, NeverFroze, TookBack}

have_not_both : (a b : DealtNumbers) → HaveNotFrozen a → HaveNotFrozen b → HaveNotFrozen (a ++ b)
have_not_both [] b none more = more
have_not_both (x ∷ a) b none more = (none.0, have_not_both a b none.1 more)

pub some_both : (a b : DealtNumbers) → 1 ≤ length a → 1 ≤ length (a ++ b)
some_both [] b there = absurd (omega arith)
some_both (x ∷ a) b there = omega arith

spare_both : (a b : DealtNumbers) → 1 ≤ length a → HaveNotFrozen (spare_of a) → HaveNotFrozen b → HaveNotFrozen (spare_of (a ++ b))
spare_both [] b there none more = absurd (omega arith)
spare_both (x ∷ a) b there none more = have_not_both a b none more

-- none was taken back yet
pub has_none_back : (s : SeatedTask) (from count : ℕ) → count ≤ from → HasBack from count s s
has_none_back s from count none = record {
  own = refl;
  there = λ some. some;
  back = λ n low high. absurd (omega (arith, low, high, none));
  none = λ never. never;
  seen = same_stays_seen s.seen;
}

-- and one more
pub has_back_more : (from next count : ℕ) (first old other new : SeatedTask) → next ≡ suc from → 1 ≤ length old.items → NeverFroze from other →
    TookBack old other new → HasBack next count first old → HasBack from count first new
has_back_more from next count first old other new is there never took before =
    let joined : SeatedTask = record old { items = old.items ++ other.items; seen = old.seen ++ other.seen } in
    subst (HasBack from count first) (sym took) (let has : HasBack from count first joined = record {
      own = own_number_same old.items other.items there ∙ before.own;
      there = λ some. some_both old.items other.items there;
      back = λ n low high.
          let all = times-append n old.items other.items in
          elim (eqb_tells from n) [
            | inl same ↦ let its = own_times n other.items (never.own ∙ same.1) never.there in omega (arith, all, its)
            | inr more ↦ let its = before.back n (omega (arith, low, is, more.1)) high in omega (arith, all, its)
          ];
      none = λ none. spare_both old.items other.items there (before.none none) never.none;
      seen = stays_seen_on first.seen old.seen joined.seen before.seen (both_stay_seen old.seen other.seen).0;
    } in has)

-- so it has all, if its own is the first
pub all_numbers : (count : ℕ) (old new : SeatedTask) → HasBack 1 count old new → own_number new.items ≡ 0 → 1 ≤ length new.items →
    (n : ℕ) → n < count → 1 ≤ times n new.items
all_numbers count old new has own there zero lt = own_times 0 new.items own there
all_numbers count old new has own there (suc k) lt = has.back (suc k) (omega arith) lt

-- what a task found it has found still when it has seen more
pub found_on : (s t : SeatedTask) → t.config ≡ s.config → own_number t.items ≡ own_number s.items → StaySeen s.seen t.seen → FoundOthers s →
    FoundOthers t
found_on s t config own seen (inl found) = inl (record {
  op = found.op;
  first = found.first;
  last = found.last;
  config = found.config ∙ sym config;
  own = found.own ∙ sym own;
  needs = found.needs;
  holds = found.holds;
  refused = found.refused;
  seen = stays_seen_on found.last.seen s.seen t.seen found.seen seen;
})
found_on s t config own seen (inr found) = inr (record {
  first = found.first;
  last = found.last;
  config = found.config ∙ sym config;
  own = found.own ∙ sym own;
  may = found.may;
  refused = found.refused;
  seen = stays_seen_on found.last.seen s.seen t.seen found.seen seen;
})

-- each other number has neither frozen nor thawed in the end
spare_never : (views : ℕ → View) (items : DealtNumbers) → HaveViews views items → HaveNotFrozen items → (t : ℕ) → 1 ≤ times t items →
    NeverFreezes (views t).actions
spare_never views [] have none t some = absurd (omega (arith, some))
spare_never views (x ∷ xs) have none t some =
    elim (eqb_tells x.number t) [
      | inl is ↦ subst (λ n. NeverFreezes (views n).actions) is.1 (subst (λ (v : View). NeverFreezes v.actions) (sym (have 0 x refl)) none.0)
      | inr other ↦
          let more : 1 ≤ one_if false + times t xs = subst (λ b. 1 ≤ one_if b + times t xs) other.0 some in
          spare_never views xs (λ k y at. have (suc k) y at) none.1 t (omega (arith, more))
    ]

others_never : (views : ℕ → View) (items : DealtNumbers) → HaveViews views items → HaveNotFrozen (spare_of items) → (t : ℕ) → 1 ≤ times t items →
    (t ≡ own_number items → ⊥) → NeverFreezes (views t).actions
others_never views [] have none t some other = absurd (omega (arith, some))
others_never views (x ∷ xs) have none t some other =
    elim (eqb_tells x.number t) [
      | inl is ↦ absurd (other (sym is.1))
      | inr differs ↦
          let more : 1 ≤ one_if false + times t xs = subst (λ b. 1 ≤ one_if b + times t xs) differs.0 some in
          spare_never views xs (λ k y at. have (suc k) y at) none t (omega (arith, more))
    ]

-- who has neither frozen nor thawed hasn't thawed
never_thaws : (actions : List Action) → NeverFreezes actions → NeverThaws User actions
never_thaws [] never = tt
never_thaws (Leave h ∷ earlier) never = absurd never.0
never_thaws (a ∷ earlier) never = ((λ is. subst IsBesideFreezes is never.0), never_thaws earlier never.1)

-- so closed gates tell that a task with all numbers has found nothing frozen or thawed, if none of the others did
pub found_nothing : (c : Config) (ws : List ℕ) (s : SeatedTask) → s.config ≡ c → HasAll s → HaveNotFrozen (spare_of s.items) →
    EndedWith c ws s.items s.seen → FoundOthers s → ⊥
found_nothing c ws s of all none e (inl found) =
    let same : c ≡ found.first.config = sym (found.config ∙ of) in
    let ends : EndedWith found.first.config ws s.items s.seen = subst (λ (d : Config). EndedWith d ws s.items s.seen) same e in
    stands User found.op found.first found.last found.refused found.needs ws s.items s.seen ends found.holds found.seen
    (λ t lt other. never_thaws (ends.ended.world.views t).actions (others_never ends.ended.world.views s.items ends.mine none t
    (all.2 t (subst (λ (d : Config). t < d.tasks) found.config lt)) (λ is. other (is ∙ sym found.own))))
found_nothing c ws s of all none e (inr found) =
    let same : c ≡ found.first.config = sym (found.config ∙ of) in
    let ends : EndedWith found.first.config ws s.items s.seen = subst (λ (d : Config). EndedWith d ws s.items s.seen) same e in
    not_busy User found.first found.last found.refused ws s.items s.seen ends found.may found.seen
    (λ t lt other. others_never ends.ended.world.views s.items ends.mine none t
    (all.2 t (subst (λ (d : Config). t < d.tasks) found.config lt)) (λ is. other (is ∙ sym found.own)))
