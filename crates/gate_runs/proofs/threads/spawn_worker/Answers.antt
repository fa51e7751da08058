-- the promise is that of this task
use Rattle.gate_runs.proofs.Prelude.{Err, IfOk, Ok, Result, refl, subst, sym, ◌≡◌}
use Rattle.gate_runs.proofs.Homes.{each_ok}
use Rattle.std.specs.Prelude.{IsErrAnd, MatchResult}
use Rattle.gate_runs.proofs.threads.spawn_worker.Goals as goal

-- what is granted stays as it is where only the refusal becomes another
granted_so : {A B C : Type 0} (P : A → Type 0) (Q : B → C → Type 0) (before : Result A B) (after : Result A C) → IfOk before P →
    MatchResult before (λ a. after ≡ Ok a) (λ b. IsErrAnd after (Q b)) → IfOk after P
granted_so {A} {B} {C} P Q (Ok a) after so is = subst (λ (r : Result A C). IfOk r P) (sym is) so
granted_so P Q (Err b) (Ok a) so is = absurd is
granted_so P Q (Err b) (Err refusal) so is = tt

pub spawn_with-requires-clause-keeps : goal.spawn_with-requires-clause-keeps
spawn_with-requires-clause-keeps g c = λ _ _ ended home. home

pub returns-clause-home : goal.returns-clause-home
returns-clause-home g c = each_ok _ _ c.map_err.result (λ w is. rw is (refl, refl, refl, refl))
    (granted_so _ _ c.spawn_with.result c.map_err.result c.spawn_with.ensures.ok c.map_err.ensures.cases)
