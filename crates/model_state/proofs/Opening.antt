-- Lists of one value, as functions: what a new model holds is what the opening state says.
use Rattle.std.proofs.{Common.{None, Some, arith, false, get_or, refl, replicate, set, suc, sym, zero, ℕ, ◌<◌, ◌∙◌, ◌≡◌}, Math.Path.fun_ext}
use Rattle.{access_model.specs.States.root, finite_sums.{proofs.Totals.update_off, specs.Sums.update}}
use Rattle.model_state.specs.{Shown.{flags_of, held_of, inside_of, nothing, opens_of, tree_of}, declared.model.Accesses.Accesses}

-- a list of one value has it everywhere, and past the end it is the default
all_one : {A : Type 0} (n i : ℕ) (d : A) → get_or (replicate n d) i d ≡ d
all_one zero i d = refl
all_one (suc n) zero d = refl
all_one (suc n) (suc i) d = all_one n i d

-- what holds of the value and of the default holds at each place
each_of_one : {A : Type 0} (P : A → Type 0) (n i : ℕ) (x d : A) → P x → P d → P (get_or (replicate n x) i d)
each_of_one P zero i x d here there = there
each_of_one P (suc n) zero x d here there = here
each_of_one P (suc n) (suc i) x d here there = each_of_one P n i x d here there

-- a new task's accesses: none
abbrev pub no_access : Accesses
no_access = record { mounts = replicate 8 0; levels = replicate 4 false; files = replicate 64 false }

-- tasks with no access hold nothing at any mount
pub nothing_held : (n : ℕ) → held_of (replicate n no_access) ≡ (λ t m. 0)
nothing_held n = fun_ext (λ t. fun_ext (λ m. each_of_one (λ a. get_or a.mounts m 0 ≡ 0) n t no_access nothing (all_one 8 m 0) refl))

-- and are inside no level
pub nobody_inside : (n : ℕ) → inside_of (replicate n no_access) ≡ (λ t i. false)
nobody_inside n =
    fun_ext (λ t. fun_ext (λ i. each_of_one (λ a. get_or a.levels i false ≡ false) n t no_access nothing (all_one 4 i false) refl))

-- and have no file open
pub nothing_open : (n : ℕ) → opens_of (replicate n no_access) ≡ (λ t f. false)
nothing_open n =
    fun_ext (λ t. fun_ext (λ f. each_of_one (λ a. get_or a.files f false ≡ false) n t no_access nothing (all_one 64 f false) refl))

-- no mount has its flag
pub no_flag : flags_of (replicate 8 false) ≡ (λ m. false)
no_flag = fun_ext (λ m. all_one 8 m false)

-- the nodes with the root written, node by node
root_at : (n i : ℕ) → get_or (set (replicate (suc n) None) 0 (Some root)) i None ≡ update (λ n. None) 0 (Some root) i
root_at n zero = refl
root_at n (suc i) = all_one n i None ∙ sym (update_off (λ n. None) 0 (Some root) (suc i) (λ e. absurd (omega arith)))

-- the tree of a new model has the root alone
pub root_alone : (n : ℕ) → 0 < n → tree_of (set (replicate n None) 0 (Some root)) ≡ update (λ n. None) 0 (Some root)
root_alone zero lt = absurd (omega arith)
root_alone (suc n) lt = fun_ext (root_at n)
