-- What is written in parts.
use Rattle.std.{proofs.Common.{List, None, Option, Some, ap, append_assoc, ℕ, ◌++◌, ◌∙◌}, specs.Io.KnownBytes.Appends}
use Rattle.program_checks.specs.Checks.{WritesMore}

-- bytes behind others
pub appends_both : (a b c : Option (List ℕ)) (first second : List ℕ) → Appends a b first → Appends b c second → Appends a c (first ++ second)
appends_both None b c first second one other = tt
appends_both (Some xs) None c first second one other = absurd one
appends_both (Some xs) (Some ys) None first second one other = absurd other
appends_both (Some xs) (Some ys) (Some zs) first second one other =
    other ∙ ap (λ (bytes : List ℕ). bytes ++ second) one ∙ append_assoc xs first second

-- more, and then more
pub writes_both : (a b c : Option (List ℕ)) → WritesMore a b → WritesMore b c → WritesMore a c
writes_both a b c one other = (one.0 ++ other.0, appends_both a b c one.0 other.0 one.1 other.1)
