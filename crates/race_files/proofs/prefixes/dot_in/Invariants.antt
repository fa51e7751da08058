use Rattle.std.proofs.Common.{◌≡◌, ℕ, ◌<◌, false, get_or}
use Rattle.race_files.specs.Prefixes.{is_dot}
use Rattle.race_files.proofs.prefixes.dot_in.Given as goal

-- no byte before this one is a dot
abbrev pub invariant-loop-index : goal.invariant-loop-index
invariant-loop-index l = (k : ℕ) → k < l.index → is_dot (get_or l.word k 0) ≡ false
