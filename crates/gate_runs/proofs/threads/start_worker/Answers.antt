-- the next number goes to a task that begins
use Rattle.gate_runs.proofs.Prelude.{DealtNumbers, Err, GateError, HasBegun, HaveNotFrozen, NeverFreezes, Ok, Result, SeatedTask, [], ap}
use Rattle.gate_runs.proofs.Prelude.{err_from_is_err_and, own_view, refl, spare_of, subst, sym, ℕ, ◌∙◌, ◌∷◌, ◌≡◌}
use Rattle.std.specs.Prelude.{OnOk}
use Rattle.vfs_gates.{proofs.{Rooming.kept_view, Splitting.{gives_on, has_begun, refused_for_memory}}, specs.{Parts.SplitOf, Seating.given_of}}
use Rattle.gate_runs.{proofs.Keeping.have_not, specs.Homes.IsReady}
use Rattle.gate_runs.proofs.threads.start_worker.Goals as goal

-- a new task has one number, which has done nothing
one_given : (n : ℕ) (items : DealtNumbers) → spare_of (given_of n items) ≡ []
one_given n [] = refl
one_given n (x ∷ xs) = refl

given_have_not : (number : ℕ) (old left other : SeatedTask) → SplitOf old left other → HasBegun number other → HaveNotFrozen other.items
given_have_not number old left other made begun =
    have_not other.items (subst NeverFreezes (sym begun.nothing) tt)
    (subst HaveNotFrozen (sym (ap (λ (t : SeatedTask). spare_of t.items) made.given ∙ one_given made.number old.items)) tt)

-- what is so is so where an answer was granted
where_granted : {A : Type 0} {P : Type 0} (answer : Result A GateError) → P → OnOk answer P
where_granted (Ok a) holds = holds
where_granted (Err refusal) holds = tt

pub split-requires : goal.split-requires
split-requires g c = c.requires.from

pub returns-in_err-other-clause-from : goal.returns-in_err-other-clause-from
returns-in_err-other-clause-from g c = (c.split.ensures.table ∙ c.requires.from.0, c.split.ensures.config ∙ c.requires.from.1)

pub returns-in_err-other-clause-rests : goal.returns-in_err-other-clause-rests
returns-in_err-other-clause-rests g c = let p = err_from_is_err_and c.from_residual.result c.from_residual.ensures.1 in rw p.1 tt

pub returns-in_err-other-clause-same : goal.returns-in_err-other-clause-same
returns-in_err-other-clause-same g c = let p = err_from_is_err_and c.from_residual.result c.from_residual.ensures.1 in rw p.1 tt

pub returns-in_err-other-clause-gives : goal.returns-in_err-other-clause-gives
returns-in_err-other-clause-gives g c = let p = err_from_is_err_and c.from_residual.result c.from_residual.ensures.1 in rw p.1 tt

pub returns-in_err-other-clause-home : goal.returns-in_err-other-clause-home
returns-in_err-other-clause-home g c = let p = err_from_is_err_and c.from_residual.result c.from_residual.ensures.1 in rw p.1 tt

pub returns-in_err-other-clause-refused : goal.returns-in_err-other-clause-refused
returns-in_err-other-clause-refused g c =
    let p = err_from_is_err_and c.from_residual.result c.from_residual.ensures.1 in
    rw (p.1, p.2) (refused_for_memory _ _ _ c.in_err-other.field-0.0 c.requires.gives c.requires.number.1 c.in_err-other.ensures.refused.1)

pub returns-clause-from : goal.returns-clause-from
returns-clause-from g c = (c.split.ensures.table ∙ c.requires.from.0, c.split.ensures.config ∙ c.requires.from.1)

pub returns-clause-same : goal.returns-clause-same
returns-clause-same g c =
    let made = c.in_ok-other.ensures.made in
    where_granted c.spawn_worker.result (ap (λ (t : SeatedTask). own_view t.items) made.kept ∙ kept_view made.number c.args.task.now.items)

pub returns-clause-rests : goal.returns-clause-rests
returns-clause-rests g c = where_granted c.spawn_worker.result (c.in_ok-other.ensures.rests.1 c.requires.rests)

pub returns-clause-gives : goal.returns-clause-gives
returns-clause-gives g c = where_granted c.spawn_worker.result
    (gives_on _ _ _ c.args.number _ c.requires.gives c.requires.number.1 c.in_ok-other.ensures.made)

pub spawn_worker-requires-clause-ready : goal.spawn_worker-requires-clause-ready
spawn_worker-requires-clause-ready g c =
    let begun : HasBegun c.args.number c.in_ok-other.other =
    has_begun _ _ _ c.args.number _ c.requires.gives c.requires.number.1 c.in_ok-other.ensures.made in
    let ready : IsReady c.args.gates.now c.args.plan c.args.number c.in_ok-other.other = record {
      from = c.in_ok-other.ensures.from;
      planned = c.requires.planned;
      first = c.requires.number.0;
      last = c.requires.number.1;
      begun = begun;
      rests = c.in_ok-other.ensures.rests.0;
      none = given_have_not c.args.number c.args.task.now c.split.new.self c.in_ok-other.other c.in_ok-other.ensures.made begun;
    } in
    λ _ _. ready
