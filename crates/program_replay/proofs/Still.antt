-- A number that has come no further has its view still, and a state in which no task has come further is the same state.
use Rattle.std.proofs.Common.{List, None, Option, Some, [], ap, arith, inl, inr, is_some, length, nat_lt, refl, subst, suc, sym, ℕ, ◌*◌, ◌+◌, ◌<◌}
use Rattle.std.proofs.{Common.{◌∙◌, ◌∷◌, ◌≡◌, ◌≤◌, ◌⊎◌}, lemmas.Bool.{Decides.eqb_tells, cases_Bool, ltb-true}}
use Rattle.{access_model.specs.declared.errors.GateError.GateError, cpu_words.specs.Hooks.HookAnswer}
use Rattle.finite_sums.proofs.Totals.{update_at, update_off}
use Rattle.gate_world.specs.{Beginnings.{first_phase, refusal, view_refusal}, Holdings.Holdings, Views.{begun_view, held_of, view_after}}
use Rattle.gate_world.specs.{Worlds.{World, begin_of, happens, run, step_of, task_of, value_at}, declared.{config.Config.Config, entries.Entry.Entry}}
use Rattle.gate_world.specs.declared.{entries.Entry.TheVariants.{Begins, Steps}, operations.Op.Op, views.View.View, work.Phase.Phase}

-- 1 while an operation is under way
abbrev pub under_way : Option Phase → ℕ
under_way None = 0
under_way (Some phase) = 1

-- how far a number has come: two for each step, and one for an operation under way
abbrev pub come : View → ℕ
come v = 2 * length v.events + under_way v.phase

-- One task has come further, and each other number is as it was.
pub record Moved (c : Config) (w next : World) (t : ℕ) : Type 0 where
  pub task : t < c.tasks
  pub further : come (w.views t) < come (next.views t)
  pub others : (n : ℕ) → (n ≡ t → ⊥) → next.views n ≡ w.views n

-- one step more, whatever is under way then
one_more : (n k : ℕ) → 2 * n + 1 < 2 * suc n + k
one_more n k = omega arith

-- who begins an operation has none under way
idle_begins : (c : Config) (held : Holdings) (op : Op) (p : Option Phase) → refusal c (is_some p) held op ≡ None → under_way p ≡ 0
idle_begins c held op None e = refl
idle_begins c held op (Some phase) e = absurd (let same : Some GateError.Order ≡ None = e in let no : ⊥ = cc in no)

step_moves : (c : Config) (w : World) (t : ℕ) (hook : HookAnswer) → t < c.tasks → (p : Option Phase) → (w.views t).phase ≡ p →
    (step_of w t hook p ≡ w) ⊎ Moved c w (step_of w t hook p) t
step_moves c w t hook lt None e = inl refl
step_moves c w t hook lt (Some phase) e =
    let v : View = view_after (w.views t) phase (value_at w.words phase hook) hook in
    let was : under_way (w.views t).phase ≡ 1 = ap under_way e in
    let is : come ((step_of w t hook (Some phase)).views t) ≡ come v = ap come (update_at w.views t v) in
    let more : 2 * length (w.views t).events + 1 < come v = one_more (length (w.views t).events) (under_way v.phase) in
    inr (record { task = lt; further = omega (arith, was, is, more); others = λ n ne. update_off w.views t v n ne })

begin_moves : (c : Config) (w : World) (t : ℕ) (op : Op) → t < c.tasks → (r : Option GateError) → view_refusal c (w.views t) op ≡ r →
    (begin_of c w t op r ≡ w) ⊎ Moved c w (begin_of c w t op r) t
begin_moves c w t op lt (Some refused) e = inl refl
begin_moves c w t op lt None e =
    let v : View = begun_view (w.views t) op (first_phase c t op) in
    let was : under_way (w.views t).phase ≡ 0 = idle_begins c (held_of (w.views t)) op (w.views t).phase e in
    let is : come ((begin_of c w t op None).views t) ≡ come v = ap come (update_at w.views t v) in
    let more : come v ≡ 2 * length (w.views t).events + 1 = refl in
    inr (record { task = lt; further = omega (arith, was, is, more); others = λ n ne. update_off w.views t v n ne })

-- a transition changes nothing, or its task has come further
moves : (c : Config) (w : World) (e : Entry) → (happens c w e ≡ w) ⊎ Moved c w (happens c w e) (task_of e)
moves c w (Begins t op) =
    elim (cases_Bool (nat_lt t c.tasks)) [
      | inl h ↦ rw h (begin_moves c w t op (ltb-true t c.tasks h) (view_refusal c (w.views t) op) refl)
      | inr h ↦ inl (rw h refl)
    ]
moves c w (Steps t hook) =
    elim (cases_Bool (nat_lt t c.tasks)) [
      | inl h ↦ rw h (step_moves c w t hook (ltb-true t c.tasks h) (w.views t).phase refl)
      | inr h ↦ inl (rw h refl)
    ]

grows : (c : Config) (w : World) (e : Entry) (n : ℕ) → come (w.views n) ≤ come ((happens c w e).views n)
grows c w e n =
    elim (moves c w e) [
      | inl same ↦ (let is : come ((happens c w e).views n) ≡ come (w.views n) = ap (λ (x : World). come (x.views n)) same in omega (arith, is))
      | inr moved ↦ elim (eqb_tells n (task_of e)) [
        | inl own ↦
            (let further = moved.further in
            subst (λ (k : ℕ). come (w.views k) ≤ come ((happens c w e).views k)) (sym own.1) (omega (arith, further)))
        | inr other ↦ (let is : come ((happens c w e).views n) ≡ come (w.views n) = ap come (moved.others n other.1) in omega (arith, is))
      ]
    ]

one_stays : (c : Config) (w : World) (e : Entry) (n : ℕ) → come ((happens c w e).views n) ≤ come (w.views n) →
    (happens c w e).views n ≡ w.views n
one_stays c w e n no_more =
    elim (moves c w e) [
      | inl same ↦ ap (λ (x : World). x.views n) same
      | inr moved ↦ elim (eqb_tells n (task_of e)) [
        | inl own ↦
            (let further : come (w.views n) < come ((happens c w e).views n) =
            subst (λ (k : ℕ). come (w.views k) < come ((happens c w e).views k)) (sym own.1) moved.further in
            absurd (omega (arith, further, no_more)))
        | inr other ↦ moved.others n other.1
      ]
    ]

-- the state stays, where its task has come no further
entry_stays : (c : Config) (w : World) (e : Entry) →
    (task_of e < c.tasks → come ((happens c w e).views (task_of e)) ≤ come (w.views (task_of e))) → happens c w e ≡ w
entry_stays c w e no_more =
    elim (moves c w e) [
      | inl same ↦ same
      | inr moved ↦ (let further = moved.further in let bound = no_more moved.task in absurd (omega (arith, further, bound)))
    ]

-- no transition takes a number back
pub grows_on : (c : Config) (es : List Entry) (w : World) (n : ℕ) → come (w.views n) ≤ come ((run c w es).views n)
grows_on c [] w n = omega arith
grows_on c (e ∷ es) w n =
    let one = grows c w e n in
    let on = grows_on c es (happens c w e) n in
    omega (arith, one, on)

-- who has come no further stands as it did
pub view_stays : (c : Config) (es : List Entry) (w : World) (n : ℕ) → come ((run c w es).views n) ≤ come (w.views n) →
    (run c w es).views n ≡ w.views n
view_stays c [] w n no_more = refl
view_stays c (e ∷ es) w n no_more =
    let one = grows c w e n in
    let on = grows_on c es (happens c w e) n in
    let still : come ((run c (happens c w e) es).views n) ≤ come ((happens c w e).views n) = omega (arith, one, no_more) in
    let first : come ((happens c w e).views n) ≤ come (w.views n) = omega (arith, on, no_more) in
    view_stays c es (happens c w e) n still ∙ one_stays c w e n first

-- where no task has, the state is the same
pub world_stays : (c : Config) (es : List Entry) (w : World) →
    ((n : ℕ) → n < c.tasks → come ((run c w es).views n) ≤ come (w.views n)) → run c w es ≡ w
world_stays c [] w no_more = refl
world_stays c (e ∷ es) w no_more =
    let same : happens c w e ≡ w = entry_stays c w e (λ lt.
    let on = grows_on c es (happens c w e) (task_of e) in
    let all = no_more (task_of e) lt in
    omega (arith, on, all)) in
    ap (λ (x : World). run c x es) same ∙
    world_stays c es w (λ n lt. subst (λ (x : World). come ((run c x es).views n) ≤ come (w.views n)) same (no_more n lt))
