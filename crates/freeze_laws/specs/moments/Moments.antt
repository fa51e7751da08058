-- Moments of a history: what held after its first actions.
use Rattle.std.specs.Prelude.{◌≡◌, ℕ, ◌<◌, false, Option, List, [], ◌∷◌, ◌++◌, length}
use Rattle.access_model.specs.{Histories.{Done, end_of, IsLegal, own_part}, States.{Limits, is_dirty}, declared.actions.{Action.Action, NodeInfo.NodeInfo}}

-- each of these numbers has done so many actions, no more and no fewer
abbrev pub HaveDone : List (ℕ × ℕ) → List Done → Type 0
HaveDone [] log = Unit {0}
HaveDone (k ∷ ks) log = (length (own_part k.0 log) ≡ k.1) × HaveDone ks log

-- after these actions everything is frozen, the first so many nodes are these, and each of these numbers has done so many actions
pub record IsFrozenWith (nodes : ℕ) (tree : ℕ → Option NodeInfo) (done : List (ℕ × ℕ)) (log : List Done) : Type 0 where
  pub frozen : (end_of log).stage ≡ 4
  pub same_tree : (n : ℕ) → n < nodes → (end_of log).tree n ≡ tree n
  pub have_done : HaveDone done log

-- at some moment of the history it was so: after some of its first actions
pub record WasFrozenWith (nodes : ℕ) (tree : ℕ → Option NodeInfo) (done : List (ℕ × ℕ)) (log : List Done) : Type 0 where
  pub later : List Done
  pub earlier : List Done
  pub parts : log ≡ later ++ earlier
  pub was : IsFrozenWith nodes tree done earlier

-- a number's own list is what it did after these first actions of the history, and before that just so many, which are its part of them
pub record CutsList (number count : ℕ) (earlier : List Done) (actions : List Action) : Type 0 where
  pub newer : List Action
  pub older : List Action
  pub parts : actions ≡ newer ++ older
  pub counted : length older ≡ count
  pub same_part : own_part number earlier ≡ older

-- each of these numbers' own lists is
abbrev pub CutsLists : List (ℕ × ℕ) → List Done → (ℕ → List Action) → Type 0
CutsLists [] earlier lists = Unit {0}
CutsLists (k ∷ ks) earlier lists = CutsList k.0 k.1 earlier (lists k.0) × CutsLists ks earlier lists

-- What a moment of a history tells: what was done until then is an allowed trace too, it cuts each of these numbers' own lists where the
-- number had done so many actions, and no node of the tree is dirty.
pub record MomentTells
    (l : Limits) (tree : ℕ → Option NodeInfo) (done : List (ℕ × ℕ)) (lists : ℕ → List Action) (earlier : List Done) : Type 0 where
  pub legal : IsLegal l earlier
  pub cuts : CutsLists done earlier lists
  pub clean : (n : ℕ) → n < l.nodes → is_dirty (tree n) ≡ false
