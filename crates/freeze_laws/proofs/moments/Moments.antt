-- A moment of a history stays one, is the end of an allowed trace, and cuts each own list.
use Rattle.access_model.{proofs.Lists.part_append, specs.{Histories.{Done, IsLegal, IsMerge, own_part}, States.Limits}}
use Rattle.access_model.specs.declared.actions.{Action.Action, NodeInfo.NodeInfo}
use Rattle.std.{proofs.Common.{List, [], ap, arith, length, refl, ℕ, ◌++◌, ◌∷◌, ◌≡◌}, specs.Prelude.Option}
use Rattle.freeze_laws.specs.moments.Moments.{CutsList, CutsLists, HaveDone, IsFrozenWith, WasFrozenWith}

module _ (nodes : ℕ) (tree : ℕ → Option NodeInfo) (done : List (ℕ × ℕ)) where
  -- what is so now was so at some moment
  pub is_now : (log : List Done) → IsFrozenWith nodes tree done log → WasFrozenWith nodes tree done log
  is_now log h = record { later = []; earlier = log; parts = refl; was = h }

  -- and that stays, whatever is done later
  pub stays : (log : List Done) → WasFrozenWith nodes tree done log → (a : Done) → WasFrozenWith nodes tree done (a ∷ log)
  stays log h a = record { later = a ∷ h.later; earlier = h.earlier; parts = ap (λ l. a ∷ l) h.parts; was = h.was }

pub first_legal : (l : Limits) (later earlier : List Done) → IsLegal l (later ++ earlier) → IsLegal l earlier
first_legal l [] earlier legal = legal
first_legal l (a ∷ later) earlier legal = first_legal l later earlier legal.1

cut : (t count : ℕ) (later earlier : List Done) (actions : List Action) → own_part t (later ++ earlier) ≡ actions →
    length (own_part t earlier) ≡ count → CutsList t count earlier actions
cut t count later earlier actions merge counted = grind (arith, own_part, part_append)

-- each number's is
pub cuts : (done : List (ℕ × ℕ)) (later earlier : List Done) (lists : ℕ → List Action) → IsMerge lists (later ++ earlier) →
    HaveDone done earlier → CutsLists done earlier lists
cuts [] later earlier lists merge h = tt
cuts (k ∷ ks) later earlier lists merge h =
    (cut k.0 k.1 later earlier (lists k.0) (merge k.0) h.0, cuts ks later earlier lists merge h.1)
