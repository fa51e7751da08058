-- The roles of a remount at each mount.
use Rattle.gate_schedules.proofs.Prelude.{Bool, MountSet, RemountStep, Sum, arith, false, give_up, has_mount, if◌then◌else◌, leave_holds, let_go}
use Rattle.gate_schedules.proofs.Prelude.{nat_lt, past_mount, refl, true, ℕ, ◌+◌, ◌<◌, ◌==◌, ◌≡◌}
use Rattle.std.proofs.{Common.{eq-eqb, ne_eqb}, lemmas.Bool.Decides.nat_tests}
use Rattle.gate_world.specs.Remounts.{giving_role, held_role, loop_role, remount_role, summing_role}
use Rattle.mount_counts.{proofs.laws.MountLaws.SeeksNone, specs.{Remounts.past_node, Roles.{Out, Role, Summing}}}
use Rattle.gate_schedules.proofs.frames.OperationLaws.{by_bool}
use mathlib.Core.Bool.{true}

pub remount_seeks : (m : ℕ) (s : RemountStep) → SeeksNone (remount_role m s)
remount_seeks m s = grind arith

pub passed_here : (m : ℕ) → nat_lt m (m + 1) ≡ true
passed_here m = grind (arith, nat_tests)

pub not_passed : (m : ℕ) → nat_lt m m ≡ false
not_passed m = grind (arith, nat_tests)

pub passed_there : (m n : ℕ) → (n ≡ m → ⊥) → nat_lt n (m + 1) ≡ nat_lt n m
passed_there m n ne = grind arith

-- the loop goes on, or has passed each mount
pub past_mount_role : (mounts at : ℕ) (held : MountSet) (m : ℕ) → m < mounts →
    remount_role m (past_mount mounts at held) ≡ loop_role (has_mount held m) (nat_lt m (at + 1))
past_mount_role mounts at held m lm = grind arith

pub let_go_role : (m : ℕ) (held : MountSet) → remount_role m (let_go held) ≡ held_role (has_mount held m)
let_go_role m held = grind arith

pub leave_holds_role : (m : ℕ) (held : MountSet) → remount_role m (leave_holds held) ≡ held_role (has_mount held m)
leave_holds_role m held = grind arith

pub no_giving : (a : Bool) → giving_role a false ≡ Out
no_giving true = refl
no_giving false = refl

pub give_up_role : (m at : ℕ) (held : MountSet) → remount_role m (give_up at held) ≡ giving_role (m == at) (has_mount held m)
give_up_role m at held = grind arith

pub summing_here : (m : ℕ) (sum : Sum) (r : Role) → summing_role (m == m) sum r ≡ Summing sum.words sum.total
summing_here m sum r = rw (eq-eqb m m refl) refl

pub summing_there : (m n : ℕ) (sum : Sum) (r : Role) → (n ≡ m → ⊥) → summing_role (n == m) sum r ≡ r
summing_there m n sum r ne = rw (ne_eqb n m ne) refl

pub past_node_role : (nodes n m : ℕ) → remount_role m (past_node nodes n) ≡ Out
past_node_role nodes n m =
    by_bool (nat_lt (n + 1) nodes) (λ b. remount_role m (if b then RemountStep.ClearsMark (n + 1) else RemountStep.SetsReadOnly) ≡ Out) refl refl
