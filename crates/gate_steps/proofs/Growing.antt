-- The schedule goes on from what each seat has seen.
use Rattle.gate_steps.proofs.Prelude.{Begins, Dealt, DealtNumbers, Entry, HaveSeen, HookAnswer, IsPrefix, Knowledge, List, None, NoneOf, Numbered, Op}
use Rattle.gate_steps.proofs.Prelude.{Option, Some, Steps, View, [], append-nil, append_assoc, arith, at_map, at_set, get_elem?, items_of, knows, map}
use Rattle.gate_steps.proofs.Prelude.{refl, set, some, some-injective, some-ne-none, subst, suc, sym, times, zero, ℕ, ⊎_elim, ◌++◌, ◌∙◌, ◌∷◌, ◌≡◌}
use Rattle.gate_steps.proofs.Prelude.{◌≤◌}
use Rattle.std.proofs.lemmas.Grind.{common_steps}
use Rattle.gate_steps.{proofs.Dealing.{known, times-at, times_all-two}, specs.Histories.{then_begins, then_steps}}

none_append : (n : ℕ) (a b : List Entry) → NoneOf n a → NoneOf n b → NoneOf n (a ++ b)
none_append n [] b na nb = nb
none_append n (x ∷ a) b na nb = (na.0, none_append n a b na.1 nb)

-- the transitions that a step adds
abbrev added_by : ℕ → Option Op → HookAnswer → List Entry
added_by t None hook = Steps t hook ∷ []
added_by t (Some op) hook = Begins t op ∷ (Steps t hook ∷ [])

added_is : (t : ℕ) (begins : Option Op) (hook : HookAnswer) (past : List Entry) →
    then_steps t hook (then_begins t begins past) ≡ past ++ added_by t begins hook
added_is t begins hook past = grind (arith, common_steps)

none_added : (t n : ℕ) → (t ≡ n → ⊥) → (begins : Option Op) (hook : HookAnswer) → NoneOf n (added_by t begins hook)
none_added t n ne begins hook = grind arith

-- what a seat has seen, it has seen still after a step of a number that it has not
pub seen_on : (past more now : List Entry) → now ≡ past ++ more → (items : DealtNumbers) (seen : List (List Entry)) →
    ((n : ℕ) → 1 ≤ times n items → NoneOf n more) → HaveSeen past items seen → HaveSeen now items seen
seen_on past more now is items seen others have = grind (arith, common_steps, append_assoc, none_append)

-- of the schedule that stands, all is seen
goes_now : (now : List Entry) (k : ℕ) (earlier : List Entry) → get_elem? (now ∷ []) k ≡ some earlier → IsPrefix earlier now
goes_now now zero earlier at = ([], some-injective now earlier at ∙ sym (append-nil earlier))
goes_now now (suc k) earlier at = absurd (some-ne-none earlier (sym at))

pub seen_now : (now : List Entry) (items : DealtNumbers) → HaveSeen now items (now ∷ [])
seen_now now items = record {
  goes_on = goes_now now;
  rested = λ n here. record { place = 0; earlier = now; there = refl; since = []; is = sym (append-nil now); none = tt };
}

-- After a step of the first number of a seat, all that each seat has seen then
pub seen_all : (tasks : ℕ) (views : ℕ → View) (seats : List Knowledge) (dealt : Dealt tasks views (map items_of seats)) (id : ℕ) (x : Numbered)
    (xs : DealtNumbers) (seen : List (List Entry)) (at : get_elem? seats id ≡ some (knows (x ∷ xs) seen)) (begins : Option Op)
    (hook : HookAnswer) (past now : List Entry) → now ≡ then_steps x.number hook (then_begins x.number begins past) →
    ((j : ℕ) (k : Knowledge) → get_elem? seats j ≡ some k → HaveSeen past k.items k.seen) → (left : DealtNumbers) (j : ℕ) (k : Knowledge) →
    get_elem? (set seats id (knows left (now ∷ []))) j ≡ some k → HaveSeen now k.items k.seen
seen_all tasks views seats dealt id x xs seen at begins hook past now is have left j k e =
    let t : ℕ = x.number in
    let more : List Entry = added_by t begins hook in
    let here : get_elem? (map items_of seats) id ≡ some (x ∷ xs) = at_map items_of seats id (knows (x ∷ xs) seen) at in
    ⊎_elim
    (λ q. subst (λ (l : Knowledge). HaveSeen now l.items l.seen) q.1 (seen_now now left))
    (λ q. seen_on past more now (is ∙ added_is t begins hook past) k.items k.seen
    (λ n there. none_added t n
    (λ same.
    let two = times_all-two t (map items_of seats) j id k.items (x ∷ xs) q.0 (at_map items_of seats j k q.1) here in
    let mine : 1 ≤ times t (x ∷ xs) = times-at (x ∷ xs) 0 x refl in
    let its : 1 ≤ times t k.items = subst (λ m. 1 ≤ times m k.items) (sym same) there in
    let one = (known tasks views (map items_of seats) dealt t (omega arith)).1 in
    absurd (omega arith)) begins hook)
    (have j k q.1))
    (at_set seats id j (knows left (now ∷ [])) k e)
