-- What calls are of a task that rests.
use Rattle.vfs_gates.proofs.Prelude.{Bool, Busy, Called, ChangeMount, Config, DealtNumbers, Empty, EndedWith, Entry, Err, GateError, GhostAgrees}
use Rattle.vfs_gates.proofs.Prelude.{HaveViews, IfErr, IsHonestAnswer, List, None, Ok, Op, Option, Performs, Reply, Rests, Result, SeatedTask, Some}
use Rattle.vfs_gates.proofs.Prelude.{SplitOf, TableId, TaskState, Traced, View, Want, [], ap, arith, cond, deal, eqb, false, given_of, kept_of}
use Rattle.vfs_gates.proofs.Prelude.{length, lt-ltb, numbered, opening_view, own_actions, own_number, own_view, refl, refusal_at, spare_of, subst}
use Rattle.vfs_gates.proofs.Prelude.{suc, sym, task_state, times, told_as, true, true≢false, unit_of, view_in, view_in-at, zero, ℕ, ◌++◌, ◌<◌, ◌∙◌}
use Rattle.vfs_gates.proofs.Prelude.{◌∷◌, ◌≡◌, ◌≤◌}
use Rattle.{access_model.specs.declared.errors.GateError.TheVariants.{Again, ReadOnly}, gate_steps.specs.Rules.first_known}
use Rattle.vfs_gates.{proofs.{Holding.{adds, keeps, refused_call_keeps, rests_on}, Parting.rest-at}, specs.TaskStates.IsFrom}
use Rattle.vfs_gates.specs.declared.gates.Gates.{Gates}

-- there is a mount and a processor
pub some_mount : (s : SeatedTask) (g : Gates) → IsFrom s g → 0 < s.config.mounts
some_mount s g from = subst (λ c. 0 < c.mounts) (sym from.1) g.words.within.some_mount

pub some_processor : (s : SeatedTask) (g : Gates) → IsFrom s g → 0 < s.config.processors
some_processor s g from = subst (λ c. 0 < c.processors) (sym from.1) g.words.within.some_processor

-- A change of a mount by a task that rests.
module _ (m : ℕ) (read_only : Bool) (old left : SeatedTask) (outcome : Result (Unit {0}) GateError) (rests : Rests old)
    (does : Performs (ChangeMount m read_only true) old left outcome) where
  -- it rests again
  pub change_rests : Rests left
  change_rests = rests_on old left rests (keeps unit_of (ChangeMount m read_only true) old left outcome rests.0 does refl)

  pub change_begins : m < old.config.mounts → refusal_at (ChangeMount m read_only true) old ≡ None
  change_begins mount =
      rw (
        rests.0,
        lt-ltb m old.config.mounts mount,
        rests.1.1 1 (omega arith) (omega arith),
        rests.1.1 2 (omega arith) (omega arith),
        rests.1.1 3 (omega arith) (omega arith),
      ) refl

  busy_alone : (trace : List Traced) (answer : Result Reply GateError) →
      IsHonestAnswer old.config (ChangeMount m read_only true) answer trace → IfErr (told_as unit_of answer) (λ refusal. refusal ≡ Busy)
  busy_alone trace (Ok reply) honest = tt
  busy_alone trace (Err Busy) honest = refl
  busy_alone trace (Err Again) honest = absurd (true≢false honest.0)
  busy_alone trace (Err refusal) honest = absurd honest

  -- and it is refused as busy alone
  pub change_busy : m < old.config.mounts → IfErr outcome (λ refusal. refusal ≡ Busy)
  change_busy mount =
      let change = does.done (change_begins mount) in
      subst (λ (r : Result (Unit {0}) GateError). IfErr r (λ refusal. refusal ≡ Busy)) (sym change.1)
      (busy_alone change.2.trace change.0 change.2.honest)

-- A want of a task that rests, which was refused.
module _ (m p : ℕ) (old left : SeatedTask) (refusal : GateError) (rests : Rests old)
    (does : Performs (Want m p true) old left (Err refusal)) where
  -- the task rests again
  pub want_rests : Rests left
  want_rests = rests_on old left rests (refused_call_keeps unit_of (Want m p true) old left refusal rests.0 does)

  adds_nothing : (answer : Result Reply GateError) → ◌≡◌ {A = Result (Unit {0}) GateError} (Err refusal) (told_as unit_of answer) →
      Called (Want m p true) old left answer → own_actions left ≡ own_actions old
  adds_nothing (Ok reply) told k = absurd (let f : ⊥ = cc in f)
  adds_nothing (Err cause) told k = adds (Want m p true) old left (Err cause) k

  by_beginning : (o : Option GateError) → refusal_at (Want m p true) old ≡ o → own_actions left ≡ own_actions old
  by_beginning None at = let done = does.done at in adds_nothing done.0 done.1 done.2
  by_beginning (Some cause) at = ap (λ (s : SeatedTask). own_actions s) (does.refused cause at).1

  -- nothing was added to its list
  pub want_adds_nothing : own_actions left ≡ own_actions old
  want_adds_nothing = by_beginning (refusal_at (Want m p true) old) refl

  want_begins : m < old.config.mounts → p < old.config.processors → refusal_at (Want m p true) old ≡ None
  want_begins mount cpu = rw (rests.0, lt-ltb m old.config.mounts mount, lt-ltb p old.config.processors cpu, rests.1.0 m mount) refl

  read_only_alone : (trace : List Traced) (answer : Result Reply GateError) → IsHonestAnswer old.config (Want m p true) answer trace →
      IfErr (told_as unit_of answer) (λ cause. cause ≡ ReadOnly)
  read_only_alone trace (Ok reply) honest = tt
  read_only_alone trace (Err ReadOnly) honest = refl
  read_only_alone trace (Err Again) honest = absurd (true≢false honest.0)
  read_only_alone trace (Err cause) honest = absurd honest

  -- and it is refused as read-only alone
  pub want_read_only : m < old.config.mounts → p < old.config.processors → refusal ≡ ReadOnly
  want_read_only mount cpu =
      let want = does.done (want_begins mount cpu) in
      subst (λ (r : Result (Unit {0}) GateError). IfErr r (λ cause. cause ≡ ReadOnly)) (sym want.1)
      (read_only_alone want.2.trace want.0 want.2.honest)

-- The numbers of two tasks that were joined have in the end the views that the two knew.
module _ (views : ℕ → View) where
  pub first_ends : (l m : DealtNumbers) → 1 ≤ length l → HaveViews views (l ++ m) → views (own_number l) ≡ own_view l
  first_ends [] m there have = absurd (omega arith)
  first_ends (x ∷ xs) m there have = have 0 x refl

  pub second_ends : (l m : DealtNumbers) → 1 ≤ length m → HaveViews views (l ++ m) → views (own_number m) ≡ own_view m
  second_ends [] [] there have = absurd (omega arith)
  second_ends [] (y ∷ ys) there have = have 0 y refl
  second_ends (x ∷ xs) m there have = second_ends xs m there (λ k y e. have (suc k) y e)

pub both_end : (c : Config) (ws : List ℕ) (first second : DealtNumbers) (seen : List (List Entry)) (e : EndedWith c ws (first ++ second) seen) →
    1 ≤ length first → 1 ≤ length second →
    (e.ended.world.views (own_number first) ≡ own_view first) × (e.ended.world.views (own_number second) ≡ own_view second)
both_end c ws first second seen e some_first some_second = (
  first_ends e.ended.world.views first second some_first e.mine,
  second_ends e.ended.world.views first second some_second e.mine,
)

-- a number that was given rests
pub given_empty : (number : ℕ) (c : Config) (begins : Option Op) (state : TaskState) (flags : List Bool) (l : DealtNumbers) (n : ℕ) →
    GhostAgrees number c begins state flags l → 1 ≤ times n (spare_of l) → Empty c (own_view (given_of n l))
given_empty number c begins state flags [] n ghost_agrees there = absurd ghost_agrees
given_empty number c begins state flags (x ∷ xs) n ghost_agrees there =
    let at = view_in-at n xs there in (rest-at c xs at.0 (numbered n (view_in n xs)) ghost_agrees.rest at.1).1

-- and so does the number to which all are dealt
pub first_empty : (c : Config) (k : ℕ) → Empty c (own_view (deal 0 k))
first_empty c zero = ((λ m lt. refl), (λ i one three. refl), (λ n. refl))
first_empty c (suc k) = ((λ m lt. refl), (λ i one three. refl), (λ n. refl))

-- a view with no action holds nothing; a number that was dealt has none
pub in_dealt : (n from k : ℕ) → view_in n (deal from k) ≡ opening_view
in_dealt n from zero = refl
in_dealt n from (suc k) =
    elim (eqb from n) as (λ b. cond b opening_view (view_in n (deal (suc from) k)) ≡ opening_view) [
      | true ↦ refl
      | false ↦ in_dealt n (suc from) k
    ]

kept_none : (n from k : ℕ) → (own_view (kept_of n (deal from k))).actions ≡ []
kept_none n from zero = refl
kept_none n from (suc k) = refl

given_none : (n from k : ℕ) → (own_view (given_of n (deal from k))).actions ≡ []
given_none n from zero = refl
given_none n from (suc k) = ap (λ (v : View). v.actions) (in_dealt n (suc from) k)

-- so neither the first task of some gates nor the one that is split off it first has done anything
pub split_done_nothing : (c : Config) (id : TableId) (old left other : SeatedTask) → old ≡ task_state id c None None (first_known c) →
    SplitOf old left other → (own_actions left ≡ []) × (own_actions other ≡ [])
split_done_nothing c id old left other is made =
    let split : SplitOf (task_state id c None None (first_known c)) left other = subst (λ s. SplitOf s left other) is made in (
      ap own_actions split.kept ∙ kept_none split.number 0 c.tasks,
      ap own_actions split.given ∙ given_none split.number 0 c.tasks,
    )
