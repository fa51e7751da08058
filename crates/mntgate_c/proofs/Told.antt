-- Values that are told one after the other.
use Rattle.std.proofs.Common.{List, arith, get_or-set_other, get_or-set_same, length, slice_index, slice_index_or, slice_set, subst, sym, ℕ, ◌+◌, ◌<◌}
use Rattle.vfs_gates.specs.Ended.{ClosedState}
use Rattle.mntgate_c.specs.{Closings.{IsValue, no_word}, declared.events.WordRecord.WordRecord}
use mathlib.Core.Logic.{dite}
use native.Mathlib.Decide.{ℕ_discrete}

-- one more
pub told_more : (e : ClosedState) (asked : List WordRecord) (values : List ℕ) (i v : ℕ) → i < length values → IsValue e (slice_index_or asked i no_word) v →
    ((k : ℕ) → k < i → IsValue e (slice_index_or asked k no_word) (slice_index values k)) →
    (k : ℕ) → k < i + 1 → IsValue e (slice_index_or asked k no_word) (slice_index (slice_set values i v) k)
told_more e asked values i v long new old k less = dite (ℕ_discrete k i)
    (λ same. subst (λ (j : ℕ). IsValue e (slice_index_or asked j no_word) (slice_index (slice_set values i v) j)) (sym same)
    (subst (IsValue e (slice_index_or asked i no_word)) (sym (get_or-set_same values i v 0 long)) new))
    (λ other. subst (IsValue e (slice_index_or asked k no_word)) (sym (get_or-set_other values i k v 0 other)) (old k (omega arith)))
