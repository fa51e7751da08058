-- Tasks at rest: one that begins, and one that takes back the numbers of another.
use Rattle.gate_runs.proofs.Prelude.{Action, DealtNumbers, HasBegun, List, Rests, SeatedTask, [], ap, arith, length, own_view, refl, subst, sym, ℕ}
use Rattle.gate_runs.proofs.Prelude.{◌++◌, ◌∙◌, ◌∷◌, ◌≡◌, ◌≤◌}
use Rattle.{access_model.specs.Histories.{levels_of, mounts_of, opens_of}, vfs_gates.specs.TaskStates.{HoldsNothing, IsIdle}}
use Rattle.gate_runs.proofs.Joining.{some_both}

-- a task that is idle and has done nothing rests
pub begun_rests : (number : ℕ) (s : SeatedTask) → IsIdle s → HasBegun number s → Rests s
begun_rests number s idle begun =
    let none : (own_view s.items).actions ≡ [] = begun.nothing in (
      idle,
      (
        (λ m lt. ap (λ (l : List Action). mounts_of l m) none),
        (λ i one three. ap (λ (l : List Action). levels_of l i) none),
        (λ n. ap (λ (l : List Action). opens_of l n) none),
      ),
    )

-- and one that took back the numbers of another holds what it held
own_still : (items more : DealtNumbers) → 1 ≤ length items → own_view (items ++ more) ≡ own_view items
own_still [] more there = absurd (omega arith)
own_still (x ∷ xs) more there = refl

pub joined_rests : (old other new : SeatedTask) → 1 ≤ length old.items → Rests old → new ≡ record old { items = old.items ++ other.items; seen = old.seen ++ other.seen } → Rests new
joined_rests old other new there rests is =
    let same : HoldsNothing (record old { items = old.items ++ other.items; seen = old.seen ++ other.seen }) =
    let view = own_still old.items other.items there in (
      (λ m lt. ap (λ v. mounts_of v.actions m) view ∙ rests.1.0 m lt),
      (λ i one three. ap (λ v. levels_of v.actions i) view ∙ rests.1.1 i one three),
      (λ n. ap (λ v. opens_of v.actions n) view ∙ rests.1.2 n),
    ) in
    subst Rests (sym is) (rests.0, same)

pub joined_there : (old other new : SeatedTask) → 1 ≤ length old.items → new ≡ record old { items = old.items ++ other.items; seen = old.seen ++ other.seen } → 1 ≤ length new.items
joined_there old other new there is = subst (λ (s : SeatedTask). 1 ≤ length s.items) (sym is) (some_both old.items other.items there)
