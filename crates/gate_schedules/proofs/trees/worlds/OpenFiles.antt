-- How many tasks have each file open, after an action of one of them.
use Rattle.gate_schedules.proofs.Prelude.{Action, Bool, Bounds, HasFile, Holdings, HookAnswer, None, Option, Phase, Some, State, TreePhase, ap, arith}
use Rattle.gate_schedules.proofs.Prelude.{eqb_tells, false, file_of, held_after, inl, inr, map_next, one_if, openers, opens_in, phase_after, sym}
use Rattle.gate_schedules.proofs.Prelude.{total_updated, true, update, update_at, update_off, update_same, ℕ, ◌+◌, ◌-◌, ◌<◌, ◌∙◌, ◌≡◌}
use Rattle.access_model.specs.{Actions.tree_after, States.{Limits, most_tasks}, declared.actions.NodeInfo.NodeInfo}
use Rattle.gated_tree.specs.Phases.{after}
use Rattle.gate_schedules.specs.trees.Events.{HasLeave, MovesBy, TreeAllows, bounds_of, opens_shown}

-- an action's effect on the tree asks only how many tasks have its own node open
pub same_counts : (c : Bounds) (f g : ℕ → ℕ) (tree : ℕ → Option NodeInfo) (action : Action) → TreeAllows c tree action →
    ((n : ℕ) → n < c.nodes → f n ≡ g n) → tree_after action f tree ≡ tree_after action g tree
same_counts c f g tree action allows same = grind arith

-- how many tasks have a file open, where one task has it open or not
module _ (opens : ℕ → ℕ → Bool) (t : ℕ) (lt : t < most_tasks) where
  changed : (k : ℕ) (b : Bool) (n : ℕ) →
      openers (update opens t (update (opens t) k b)) n + one_if (opens t n) ≡ openers opens n + one_if (update (opens t) k b n)
  changed k b n = total_updated (λ (f : ℕ → Bool). one_if (f n)) most_tasks t opens (update (opens t) k b) lt

  -- it opens one
  more_open : (k n : ℕ) → opens t k ≡ false →
      update (openers opens) k (openers opens k + 1) n ≡ openers (update opens t (update (opens t) k true)) n
  more_open k n own = elim (eqb_tells n k) [
    | inl h ↦
        let now : one_if (update (opens t) k true n) ≡ 1 = ap (λ x. one_if (update (opens t) k true x)) h.1 ∙ ap one_if (update_at (opens t) k true) in
        let was : one_if (opens t n) ≡ 0 = ap (λ x. one_if (opens t x)) h.1 ∙ ap one_if own in
        let here : update (openers opens) k (openers opens k + 1) n ≡ openers opens n + 1 =
        ap (update (openers opens) k (openers opens k + 1)) h.1 ∙ update_at (openers opens) k (openers opens k + 1) ∙
        ap (λ x. openers opens x + 1) (sym h.1) in
        omega (arith, changed k true n, now, was, here)
    | inr h ↦
        let still : one_if (update (opens t) k true n) ≡ one_if (opens t n) = ap one_if (update_off (opens t) k true n h.1) in
        let here : update (openers opens) k (openers opens k + 1) n ≡ openers opens n = update_off (openers opens) k (openers opens k + 1) n h.1 in
        omega (arith, changed k true n, still, here)
  ]

  -- it closes one
  fewer_open : (k n : ℕ) → opens t k ≡ true →
      update (openers opens) k (openers opens k - 1) n ≡ openers (update opens t (update (opens t) k false)) n
  fewer_open k n own = elim (eqb_tells n k) [
    | inl h ↦
        let now : one_if (update (opens t) k false n) ≡ 0 =
        ap (λ x. one_if (update (opens t) k false x)) h.1 ∙ ap one_if (update_at (opens t) k false) in
        let was : one_if (opens t n) ≡ 1 = ap (λ x. one_if (opens t x)) h.1 ∙ ap one_if own in
        let here : update (openers opens) k (openers opens k - 1) n ≡ openers opens n - 1 =
        ap (update (openers opens) k (openers opens k - 1)) h.1 ∙ update_at (openers opens) k (openers opens k - 1) ∙
        ap (λ x. openers opens x - 1) (sym h.1) in
        omega (arith, changed k false n, now, was, here)
    | inr h ↦
        let still : one_if (update (opens t) k false n) ≡ one_if (opens t n) = ap one_if (update_off (opens t) k false n h.1) in
        let here : update (openers opens) k (openers opens k - 1) n ≡ openers opens n = update_off (openers opens) k (openers opens k - 1) n h.1 in
        omega (arith, changed k false n, still, here)
  ]

-- the model gives leave to an action, if there is one
abbrev pub LeaveToDo : Limits → State → ℕ → Option Action → Type 0
LeaveToDo l s t None = Unit {0}
LeaveToDo l s t (Some action) = HasLeave l s t action

-- what a task of the model holds
abbrev pub held_shown : State → ℕ → Holdings
held_shown s t = record { mounts = s.mounts t; levels = s.levels t; files = s.opens t }

-- so the words say how many have each open after a step that moves the shown tree by an action, where they said so before it
module _ (l : Limits) (s : State) (t : ℕ) (lt : t < most_tasks) (node node' : ℕ → ℕ) where
  abbrev pub AreCounted : Type 0
  AreCounted = (n : ℕ) → n < l.nodes → opens_in (node n) ≡ openers s.opens n

  stays_counted : (opens_shown node' ≡ opens_shown node) → AreCounted → (n : ℕ) → n < l.nodes →
      opens_in (node' n) ≡ openers (update s.opens t (s.opens t)) n
  stays_counted same counted n ln = ap (λ f. f n) same ∙ counted n ln ∙ sym (ap (λ f. openers f n) (update_same s.opens t))

  one_counted : (k v : ℕ) (b : Bool) → opens_shown node' ≡ update (opens_shown node) k v → (n : ℕ) → n < l.nodes → AreCounted →
      (u : ℕ) → v ≡ u → update (openers s.opens) k u n ≡ openers (update s.opens t (update (s.opens t) k b)) n →
      opens_in (node' n) ≡ openers (update s.opens t (update (s.opens t) k b)) n
  one_counted k v b moves n ln counted u same is =
      ap (λ f. f n) moves ∙
      elim (eqb_tells n k) as (λ h. update (opens_shown node) k v n ≡ update (openers s.opens) k u n) [
        | inl h ↦ ap (update (opens_shown node) k v) h.1 ∙ update_at (opens_shown node) k v ∙ same ∙
            sym (ap (update (openers s.opens) k u) h.1 ∙ update_at (openers s.opens) k u)
        | inr h ↦ update_off (opens_shown node) k v n h.1 ∙ counted n ln ∙ sym (update_off (openers s.opens) k u n h.1)
      ] ∙ is

  pub files_counted : (action : Option Action) → LeaveToDo l s t action → MovesBy (bounds_of l) node node' action → AreCounted →
      (n : ℕ) → n < l.nodes → opens_in (node' n) ≡ openers (update s.opens t (held_after action (held_shown s t)).files) n
  files_counted action leave moves counted n ln = grind (arith, stays_counted, one_counted, more_open, fewer_open)

-- so after a step of a call its task has open, or not, what the phase relies on
pub file_then : (held : Holdings) (x : TreePhase) (found : ℕ) (hook : HookAnswer) → HasFile held.files (file_of (Some (Phase.Trees x))) →
    HasFile (held_after (after x found hook).1 held).files (file_of (phase_after (map_next Phase.Trees (after x found hook).0)))
file_then held x found hook own = grind arith
