-- A task's fields are what its seat knows, after a split and a join, and of the first task.
use Rattle.vfs_gates.proofs.Prelude.{AllRest, Bool, Config, Empty, GhostAgrees, IsWithin, List, None, Numbered, Op, Option, TaskState, View, [], ap}
use Rattle.vfs_gates.proofs.Prelude.{arith, cond, dite, eqb, false, get_elem?, get_or, inl, inr, length, opening_view, own_view, refl, set, some}
use Rattle.vfs_gates.proofs.Prelude.{spare_of, subst, suc, sym, true, view_in-at, zero, ℕ, ℕ_discrete, ◌++◌, ◌<◌, ◌∙◌, ◌∷◌, ◌≡◌, ◌≤◌, ◌⊎◌}
use Rattle.std.proofs.{Common.{get_or-set_other, get_or-set_same, replicate, ⊎_elim, ◌↔◌}, lemmas.Bool.cases_lt}
use Rattle.std.proofs.lemmas.List.{get_or-replicate, get_or_past}
use Rattle.gate_steps.proofs.call_events.{Dealing.{one_if-other, one_if-same, times-append}, Giving.{times-without, times-without_other}}
use Rattle.gate_steps.proofs.call_events.Opening.{times-deal, times-deal_above, times-deal_below}
use Rattle.gate_steps.specs.call_events.{GhostAgrees.{IsStill, Keeps, OwnNumberAgrees, PhaseOk}, Seating.{DealtNumbers, deal, given_of, kept_of}}
use Rattle.gate_steps.specs.call_events.{Seating.{numbered, one_if, renewed, times, view_in, without}, TaskStates.idle_task}
use Rattle.vfs_gates.{proofs.FlagSteps.{IsSet, false_true}, specs.TaskStates.IsNothing}
use mathlib.Core.Option.{some-injective, some-ne-none}
use native.Mathlib.Decide.{dec_lt}

-- an idle seat has no access at a mount
idle_mount : (m : ℕ) → m < 8 → ◌≡◌ {A = ℕ} (get_or (replicate 8 0) m 0) 0
idle_mount m lt = get_or-replicate 8 m 0 0 lt

-- nor at a level
idle_level : (i : ℕ) → i ≤ 3 → get_or (replicate 4 false) i false ≡ false
idle_level i le = get_or-replicate 4 i false false (omega arith)

-- a list of 64 that is false everywhere has nothing past its end either
no_file : (files : List Bool) → length files ≡ 64 → ((n : ℕ) → n < 64 → get_or files n false ≡ false) → (n : ℕ) → get_or files n false ≡ false
no_file files deep none n =
    elim (cases_lt n 64) [ inl lt ↦ none n lt | inr past ↦ get_or_past files n false (omega (arith, deep, past)) ]

module _ (c : Config) where
  -- where all rest, each does
  pub rest-at : (l : DealtNumbers) (k : ℕ) (y : Numbered) → AllRest c l → get_elem? l k ≡ some y → IsStill c y.view
  rest-at [] k y r e = absurd (some-ne-none y (sym e))
  rest-at (x ∷ xs) zero y r e = subst (λ (z : Numbered). IsStill c z.view) (some-injective x y e) r.0
  rest-at (x ∷ xs) (suc k) y r e = rest-at xs k y r.1 e

  -- all rest without one of them
  rest-without : (n : ℕ) (l : DealtNumbers) → AllRest c l → AllRest c (without n l)
  rest-without n [] r = tt
  rest-without n (x ∷ xs) r = let t = rest-without n xs r.1 in elim (eqb x.number n) as
      (λ b. AllRest c (cond b (without n xs) (x ∷ without n xs))) [ true ↦ t | false ↦ (r.0, t) ]

  -- all of both rest
  rest-append : (l m : DealtNumbers) → AllRest c l → AllRest c m → AllRest c (l ++ m)
  rest-append [] m r s = s
  rest-append (x ∷ xs) m r s = (r.0, rest-append xs m r.1 s)

  -- numbers that were dealt rest
  rest-deal : (from k : ℕ) → AllRest c (deal from k)
  rest-deal from zero = tt
  rest-deal from (suc k) = ((refl, ((λ m lt. refl), (λ i one three. refl), (λ n. refl))), rest-deal (suc from) k)

  -- a view that holds nothing has what an idle seat keeps
  idle_keeps : (v : View) → Empty c v → c.mounts ≤ 8 → Keeps c idle_task v
  idle_keeps v e few = record {
    long = refl;
    wide = refl;
    deep = refl;
    held = record {
      mounts = λ m lt. idle_mount m (omega arith) ∙ sym (e.0 m lt);
      levels = λ i one three. idle_level i three ∙ sym (e.1 i one three);
      files = λ n. no_file (replicate 64 false) refl (λ i lt. get_or-replicate 64 i false false lt) n ∙ sym (e.2 n);
    };
  }

  -- the own view of a task that rests is still
  still-own : (number : ℕ) (begins : Option Op) (state : TaskState) (flags : List Bool) (x : Numbered) (xs : DealtNumbers) →
      OwnNumberAgrees number c begins state flags x xs → state.phase ≡ None → Empty c x.view → IsStill c x.view
  still-own number begins state flags x xs t idle e = let may : PhaseOk c begins None x = subst (λ o. PhaseOk c begins o x) idle t.may in
      (may.1, e)

-- what isn't one or more is none
no_more : (m : ℕ) → (1 ≤ m → ⊥) → m ≡ 0
no_more zero none = refl
no_more (suc m) none = absurd (none (omega arith))

module _ (number : ℕ) (c : Config) (begins : Option Op) (state : TaskState) (flags : List Bool) where
  -- the lowest number that is marked is the lowest that there is to give
  pub lowest_there : (l : DealtNumbers) (n : ℕ) → GhostAgrees number c begins state flags l → IsSet flags n →
      ((k : ℕ) → k < n → get_or flags k false ≡ false) →
      (1 ≤ times n (spare_of l)) × ((k : ℕ) → k < n → times k (spare_of l) ≡ 0)
  lowest_there [] n t on low = absurd t
  lowest_there (x ∷ xs) n t on low = (
    (t.marks n).0 on,
    λ k lt. no_more (times k xs) (λ some. false_true (sym (low k lt) ∙ (t.marks k).1 some)),
  )

  -- where no flag is set, it has none to give
  pub none_there : (l : DealtNumbers) → GhostAgrees number c begins state flags l → ((k : ℕ) → get_or flags k false ≡ false) → (n : ℕ) →
      times n (spare_of l) ≡ 0
  none_there [] t low n = absurd t
  none_there (x ∷ xs) t low n = no_more (times n xs) (λ some. false_true (sym (low n) ∙ (t.marks n).1 some))

  -- a task that is idle has begun nothing
  pub none_begun : (l : DealtNumbers) → GhostAgrees number c begins state flags l → state.phase ≡ None → begins ≡ None
  none_begun [] t idle = absurd t
  none_begun (x ∷ xs) t idle = let may : PhaseOk c begins None x = subst (λ o. PhaseOk c begins o x) idle t.may in may.0

  -- the giver's fields agree without the number
  pub split_self : (l : DealtNumbers) (n : ℕ) → GhostAgrees number c begins state flags l → n < length flags →
      GhostAgrees number c begins state (set flags n false) (kept_of n l)
  split_self [] n t lt = absurd t
  split_self (x ∷ xs) n t lt = record {
    within = t.within;
    same_number = t.same_number;
    below = t.below;
    may = t.may;
    fits = t.fits;
    keeps = t.keeps;
    rest = rest-without c n xs t.rest;
    marks = λ k. dite (ℕ_discrete k n)
        (λ e. (
          (λ s. false_true (sym (ap (λ j. get_or (set flags n false) j false) e ∙ get_or-set_same flags n false false lt) ∙ s)),
          (λ h. let z : times k (without n xs) ≡ 0 = ap (λ j. times j (without n xs)) e ∙ times-without n xs in absurd (omega arith)),
        ))
        (λ ne. let same = get_or-set_other flags n k false false ne in let o = times-without_other k n xs ne in (
          (λ s. let h = (t.marks k).0 (sym same ∙ s) in omega arith),
          (λ h. same ∙ (t.marks k).1 (omega arith)),
        ));
  }

  -- the new task's fields agree with the number that it was given
  pub split_new : (l : DealtNumbers) (n : ℕ) (none : List Bool) (idle : TaskState) → GhostAgrees number c begins state flags l → IsSet flags n → n < 64 →
      ((k : ℕ) → get_or none k false ≡ false) → idle ≡ idle_task →
      GhostAgrees n c None idle none (given_of n l)
  split_new [] n none idle t on lt off still = absurd t
  split_new (x ∷ xs) n none idle t on lt off still =
      let there = view_in-at n xs ((t.marks n).0 on) in
      let r : IsStill c (view_in n xs) = rest-at c xs there.0 (numbered n (view_in n xs)) t.rest there.1 in
      subst (λ (s : TaskState). GhostAgrees n c None s none (given_of n (x ∷ xs))) (sym still) (record {
        within = t.within;
        same_number = refl;
        below = lt;
        may = (refl, r.0);
        fits = tt;
        keeps = idle_keeps c (renewed (view_in n xs)) r.1 t.within.mounts;
        rest = tt;
        marks = λ k. ((λ s. false_true (sym (off k) ∙ s)), (λ h. absurd (omega arith)));
      })

  -- a number is below 64
  pub below : (l : DealtNumbers) → GhostAgrees number c begins state flags l → number < 64
  below [] t = absurd t
  below (x ∷ xs) t = t.below

  -- nothing is kept just where nothing is held
  pub holds_same : (l : DealtNumbers) → GhostAgrees number c begins state flags l → IsNothing state.accesses c.mounts ↔ Empty c (own_view l)
  holds_same [] t = absurd t
  holds_same (x ∷ xs) t = (
    (λ h. (
      λ m lt. sym (t.keeps.held.mounts m lt) ∙ h.0 m lt,
      λ i one three. sym (t.keeps.held.levels i one three) ∙ h.1 i one three,
      λ n. sym (t.keeps.held.files n) ∙ no_file state.accesses.files t.keeps.deep h.2 n,
    )),
    (λ h. (
      λ m lt. t.keeps.held.mounts m lt ∙ h.0 m lt,
      λ i one three. t.keeps.held.levels i one three ∙ h.1 i one three,
      λ n ln. t.keeps.held.files n ∙ h.2 n,
    )),
  )

  -- what a task that rests knows rests
  pub all_rest : (l : DealtNumbers) → GhostAgrees number c begins state flags l → state.phase ≡ None → Empty c (own_view l) → AllRest c l
  all_rest [] t idle e = absurd t
  all_rest (x ∷ xs) t idle e = (still-own c number begins state flags x xs t idle e, t.rest)

  -- all numbers are there just where each other number is marked
  pub all_marked : (l : DealtNumbers) → GhostAgrees number c begins state flags l →
      ((k : ℕ) → k < c.tasks → (k ≡ number) ⊎ IsSet flags k) ↔ ((n : ℕ) → n < c.tasks → 1 ≤ times n l)
  all_marked [] t = absurd t
  all_marked (x ∷ xs) t = (
    (λ h n lt. ⊎_elim (λ e. let here : one_if (eqb x.number n) ≡ 1 = ap (λ z. one_if (eqb z n)) (t.same_number ∙ sym e) ∙ one_if-same n in
        omega arith) (λ s. let m = (t.marks n).0 s in omega arith) (h n lt)),
    (λ h k lt. dite (ℕ_discrete k number) (λ e. inl e) (λ ne. let other : one_if (eqb x.number k) ≡ 0 =
        one_if-other x.number k (λ e. ne (sym e ∙ t.same_number)) in let m = h k lt in inr ((t.marks k).1 (omega arith)))),
  )

  module _ (number' : ℕ) (begins' : Option Op) (kept' : TaskState) (flags' all : List Bool) where
    -- a task's fields agree with its numbers and those that it took back
    pub join_self : (l m : DealtNumbers) → GhostAgrees number c begins state flags l → GhostAgrees number' c begins' kept' flags' m → kept'.phase ≡ None →
        Empty c (own_view m) →
        ((k : ℕ) → IsSet all k ↔ (IsSet flags k ⊎ IsSet flags' k)) → number' < length all →
        GhostAgrees number c begins state (set all number' true) (l ++ m)
    join_self [] m p q idle none both lt = absurd p
    join_self (x ∷ xs) [] p q idle none both lt = absurd q
    join_self (x ∷ xs) (y ∷ ys) p q idle none both lt = record {
      within = p.within;
      same_number = p.same_number;
      below = p.below;
      may = p.may;
      fits = p.fits;
      keeps = p.keeps;
      rest = rest-append c xs (y ∷ ys) p.rest (still-own c number' begins' kept' flags' y ys q idle none, q.rest);
      marks = λ k. let t = times-append k xs (y ∷ ys) in dite (ℕ_discrete k number')
          (λ e. let here : one_if (eqb y.number k) ≡ 1 = ap (λ j. one_if (eqb j k)) (q.same_number ∙ sym e) ∙ one_if-same k in (
            (λ s. omega arith),
            (λ h. ap (λ j. get_or (set all number' true) j false) e ∙ get_or-set_same all number' true false lt),
          ))
          (λ ne. let same = get_or-set_other all number' k true false ne in
          let other : one_if (eqb y.number k) ≡ 0 = one_if-other y.number k (λ e. ne (sym e ∙ q.same_number)) in (
            (λ s. ⊎_elim (λ f. let h = (p.marks k).0 f in omega arith) (λ f. let h = (q.marks k).0 f in omega arith)
                ((both k).0 (sym same ∙ s))),
            (λ h. same ∙ (both k).1 (dite (ℕ_discrete (times k xs) 0) (λ z. inr ((q.marks k).1 (omega arith)))
                (λ nz. inl ((p.marks k).1 (omega arith))))),
          ));
    }

-- the first task has all other numbers to give
pub first_ghost_agrees : (c : Config) (idle : TaskState) (n : ℕ) (flags : List Bool) → IsWithin c → idle ≡ idle_task → 1 ≤ n → n ≤ 64 →
    ((k : ℕ) → IsSet flags k ↔ ((0 < k) × (k < n))) → GhostAgrees 0 c None idle flags (deal 0 n)
first_ghost_agrees c idle zero flags within still some_there few set_are = absurd (omega arith)
first_ghost_agrees c idle (suc n) flags within still some_there few set_are = subst (λ (s : TaskState). GhostAgrees 0 c None s flags (deal 0 (suc n)))
    (sym still) (record {
      within = within;
      same_number = refl;
      below = omega arith;
      may = (refl, refl);
      fits = tt;
      keeps = idle_keeps c opening_view ((λ m lt. refl), (λ i one three. refl), (λ n. refl)) within.mounts;
      rest = rest-deal c 1 n;
      marks = λ k. (
        (λ s. let p = (set_are k).0 s in let a = p.0 in let b = p.1 in let t = times-deal k 1 n (omega arith) (omega arith) in omega arith),
        (λ h. dite (dec_lt 0 k)
            (λ lt. dite (dec_lt k (suc n)) (λ lt'. (set_are k).1 (lt, lt'))
            (λ ge. let t = times-deal_above k 1 n (omega arith) in absurd (omega arith)))
            (λ ge. let t = times-deal_below k 1 n (omega arith) in absurd (omega arith))),
      );
    })
