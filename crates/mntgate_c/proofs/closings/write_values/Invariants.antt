-- Each value so far is the one of its word.
use Rattle.std.{proofs.Common.{length, ℕ, ◌<◌, ◌≡◌}, specs.Prelude.{slice_index, slice_index_or}}
use Rattle.mntgate_c.specs.Closings.{IsValue, no_word}
use Rattle.mntgate_c.proofs.closings.write_values.Given as goal

abbrev pub invariant-loop-i : goal.invariant-loop-i
invariant-loop-i l = record {
  long : length l.values ≡ length l.fn.values;
  told : (k : ℕ) → k < l.i → IsValue l.closed (slice_index_or l.asked k no_word) (slice_index l.values k);
}
