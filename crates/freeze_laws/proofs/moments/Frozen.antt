-- Whatever is fully frozen has no dirty node, whatever was done since.
use Rattle.std.{proofs.Common.{List, [], ap, arith, subst, sym, true, ℕ, ◌<◌, ◌∙◌, ◌∷◌, ◌≡◌, ◌⊎◌}, specs.Prelude.Option}
use Rattle.access_model.{proofs.Closed.closed, specs.{Actions.{MayDo, after_action}, Histories.{Done, IsLegal, IsMerge, end_of}}}
use Rattle.access_model.specs.{Laws.NobodyHoldsClosed, States.{IsClean, Limits, State, is_dirty}, declared.actions.{Action.Action, NodeInfo.NodeInfo}}
use Rattle.freeze_laws.{proofs.moments.Moments.{cuts, first_legal}, specs.moments.Moments.{MomentTells, WasFrozenWith}}

-- at stage 4 either all levels are passed, or none is and the superblock is read-only; and no node is dirty
record IsSealed (l : Limits) (s : State) : Type 0 where
  shut : s.stage ≡ 4 → (s.passed ≡ 3) ⊎ ((s.passed ≡ 0) × (s.sb_ro ≡ true))
  clean : s.stage ≡ 4 → IsClean l s

module _ (l : Limits) (s : State) (t : ℕ) (lt : t < l.tasks) (nobody : NobodyHoldsClosed l s) (sealed : IsSealed l s) where
  step : (a : Action) → MayDo l s t a → IsSealed l (after_action s t a)
  step a may = grind arith

sealed_at : (l : Limits) (log : List Done) → IsLegal l log → IsSealed l (end_of log)
sealed_at l [] legal = record { shut = λ e. absurd (omega arith); clean = λ e. absurd (omega arith) }
sealed_at l (a ∷ earlier) legal =
    step l (end_of earlier) a.0 legal.0.0 (closed l earlier legal.1) (sealed_at l earlier legal.1) a.1 legal.0.1

pub frozen_clean : (l : Limits) (log : List Done) → IsLegal l log → (end_of log).stage ≡ 4 → IsClean l (end_of log)
frozen_clean l log legal e = (sealed_at l log legal).clean e

pub tells : (l : Limits) (tree : ℕ → Option NodeInfo) (done : List (ℕ × ℕ)) (lists : ℕ → List Action) (log : List Done) → IsLegal l log →
    IsMerge lists log → (h : WasFrozenWith l.nodes tree done log) → MomentTells l tree done lists h.earlier
tells l tree done lists log legal merge h =
    let first : IsLegal l h.earlier = first_legal l h.later h.earlier (subst (IsLegal l) h.parts legal) in
    record {
      legal = first;
      cuts = cuts done h.later h.earlier lists (subst (IsMerge lists) h.parts merge) h.was.have_done;
      clean = λ n lt. sym (ap is_dirty (h.was.same_tree n lt)) ∙ frozen_clean l h.earlier first h.was.frozen n lt;
    }
