-- What a task holds is what its own list leaves.
use Rattle.std.proofs.Common.{List, [], ap, arith, cond, false, if◌then◌else◌, inl, inr, refl, subst, sym, true, ℕ, ◌++◌, ◌==◌, ◌∙◌, ◌∷◌, ◌≡◌}
use Rattle.std.proofs.lemmas.Bool.Decides.{eqb_tells}
use Rattle.access_model.specs.{Actions.{after_action, levels_after, mounts_after, opens_after}, Histories.{Done, end_of, levels_of, mounts_of}}
use Rattle.access_model.specs.{Histories.{opens_of, own_part}, Laws.FollowsOwnList, States.State, declared.actions.Action.Action}

-- an own part is that of the later actions, and before it that of the first ones
pub part_append : (t : ℕ) (later earlier : List Done) → own_part t (later ++ earlier) ≡ own_part t later ++ own_part t earlier
part_append t [] earlier = refl
part_append t (a ∷ later) earlier =
    let more : own_part t (later ++ earlier) ≡ own_part t later ++ own_part t earlier = part_append t later earlier in
    let whole : List Action = own_part t (later ++ earlier) in
    let own : List Action = own_part t later in
    elim (a.0 == t) as (λ b. (if b then a.1 ∷ whole else whole) ≡ (if b then a.1 ∷ own else own) ++ own_part t earlier) [
      | true ↦ ap (λ l. a.1 ∷ l) more
      | false ↦ more
    ]

-- an action leaves its own task's accesses as `mounts_after` says
mounts_own : (s : State) (t : ℕ) (a : Action) → (after_action s t a).mounts t ≡ mounts_after a (s.mounts t)
mounts_own s t a = grind arith

-- an action leaves its own task's levels as `levels_after` says
levels_own : (s : State) (t : ℕ) (a : Action) → (after_action s t a).levels t ≡ levels_after a (s.levels t)
levels_own s t a = grind arith

-- an action leaves the accesses of every other task
mounts_others : (s : State) (t x : ℕ) (a : Action) → (x ≡ t → ⊥) → (after_action s t a).mounts x ≡ s.mounts x
mounts_others s t x a ne = grind arith

-- an action leaves the levels of every other task
levels_others : (s : State) (t x : ℕ) (a : Action) → (x ≡ t → ⊥) → (after_action s t a).levels x ≡ s.levels x
levels_others s t x a ne = grind arith

-- an action leaves its own task's open files as `opens_after` says
opens_own : (s : State) (t : ℕ) (a : Action) → (after_action s t a).opens t ≡ opens_after a (s.opens t)
opens_own s t a = grind arith

-- an action leaves the open files of every other task
opens_others : (s : State) (t x : ℕ) (a : Action) → (x ≡ t → ⊥) → (after_action s t a).opens x ≡ s.opens x
opens_others s t x a ne = grind arith

-- a task's accesses after a history are what its own part leaves
mounts_follow : (h : List Done) (t : ℕ) → (end_of h).mounts t ≡ mounts_of (own_part t h)
mounts_follow [] t = refl
mounts_follow (a ∷ earlier) t =
    elim (eqb_tells a.0 t) [
      | inl h ↦ rw (h.0, cond) (subst
          (λ y. (after_action (end_of earlier) a.0 a.1).mounts y ≡ mounts_after a.1 (mounts_of (own_part t earlier))) h.1
          (mounts_own (end_of earlier) a.0 a.1 ∙ ap (mounts_after a.1) (ap (end_of earlier).mounts h.1 ∙ mounts_follow earlier t)))
      | inr h ↦ rw (h.0, cond) (mounts_others (end_of earlier) a.0 t a.1 (λ e. h.1 (sym e)) ∙ mounts_follow earlier t)
    ]

-- a task's levels after a history are what its own part leaves
levels_follow : (h : List Done) (t : ℕ) → (end_of h).levels t ≡ levels_of (own_part t h)
levels_follow [] t = refl
levels_follow (a ∷ earlier) t =
    elim (eqb_tells a.0 t) [
      | inl h ↦ rw (h.0, cond) (subst
          (λ y. (after_action (end_of earlier) a.0 a.1).levels y ≡ levels_after a.1 (levels_of (own_part t earlier))) h.1
          (levels_own (end_of earlier) a.0 a.1 ∙ ap (levels_after a.1) (ap (end_of earlier).levels h.1 ∙ levels_follow earlier t)))
      | inr h ↦ rw (h.0, cond) (levels_others (end_of earlier) a.0 t a.1 (λ e. h.1 (sym e)) ∙ levels_follow earlier t)
    ]

-- a task's open files after a history are what its own part leaves
opens_follow : (h : List Done) (t : ℕ) → (end_of h).opens t ≡ opens_of (own_part t h)
opens_follow [] t = refl
opens_follow (a ∷ earlier) t =
    elim (eqb_tells a.0 t) [
      | inl h ↦ rw (h.0, cond) (subst
          (λ y. (after_action (end_of earlier) a.0 a.1).opens y ≡ opens_after a.1 (opens_of (own_part t earlier))) h.1
          (opens_own (end_of earlier) a.0 a.1 ∙ ap (opens_after a.1) (ap (end_of earlier).opens h.1 ∙ opens_follow earlier t)))
      | inr h ↦ rw (h.0, cond) (opens_others (end_of earlier) a.0 t a.1 (λ e. h.1 (sym e)) ∙ opens_follow earlier t)
    ]

-- all, as the law says it
pub follows : (h : List Done) (t : ℕ) → FollowsOwnList h t
follows h t = record { mounts = λ m. ap (λ f. f m) (mounts_follow h t); levels = λ i. ap (λ f. f i) (levels_follow h t); opens = λ n. ap (λ f. f n) (opens_follow h t) }
