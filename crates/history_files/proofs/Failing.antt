-- Operations in which a hook fails, one by one.
use Rattle.std.proofs.Common.{List, None, Option, ap, arith, slice_index_or, slice_set, suc, zero, ℕ, ◌+◌, ◌-◌, ◌<◌, ◌≡◌, ◌≤◌}
use Rattle.{races.specs.declared.calls.Call.Call, schedule_text.specs.declared.commands.HookFailure.HookFailure}
use Rattle.history_files.specs.Records.{failing_from, with_failure}

pub one_failing : (all turn : ℕ) (failure : HookFailure) (row : List (Option Call)) → turn < all →
    failing_from (all - turn) turn failure row ≡
    failing_from (all - (turn + 1)) (turn + 1) failure (slice_set row turn (with_failure failure (slice_index_or row turn None)))
unfolding failing_from
one_failing all turn failure row less =
    let e : all - turn ≡ suc (all - (turn + 1)) = omega (arith, less) in
    ap (λ (left : ℕ). failing_from left turn failure row) e

-- no operation is left
pub none_failing : (all turn : ℕ) (failure : HookFailure) (row : List (Option Call)) → all ≤ turn → failing_from (all - turn) turn failure row ≡ row
unfolding failing_from
none_failing all turn failure row full = let none : all - turn ≡ zero = omega (arith, full) in ap (λ (left : ℕ). failing_from left turn failure row) none
