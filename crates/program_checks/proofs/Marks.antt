-- What a line says, by how it begins.
use Rattle.std.proofs.Common.{Bool, List, ap, codes, drop, false, sym, true, ℕ, ◌++◌, ◌∙◌, ◌≡◌}
use Rattle.program_checks.specs.Said.{begins_with, says_line, says_with, unended}

-- more of a line
pub more : (line text said : List ℕ) → begins_with (codes "#>+") line ≡ true → text ≡ drop 3 line → says_line said line ≡ unended said ++ (text ++ codes "\n")
unfolding says_line
more line text said plus same =
    ap (λ (b : Bool). says_with b (begins_with (codes "#> ") line) (begins_with (codes "#>") line) said line) plus
    ∙ ap (λ (t : List ℕ). unended said ++ (t ++ codes "\n")) (sym same)

-- a line behind a space
pub spaced : (line text said : List ℕ) → begins_with (codes "#>+") line ≡ false → begins_with (codes "#> ") line ≡ true → text ≡ drop 3 line →
    says_line said line ≡ said ++ (text ++ codes "\n")
unfolding says_line
spaced line text said plus space same =
    ap (λ (b : Bool). says_with b (begins_with (codes "#> ") line) (begins_with (codes "#>") line) said line) plus
    ∙ ap (λ (b : Bool). says_with false b (begins_with (codes "#>") line) said line) space
    ∙ ap (λ (t : List ℕ). said ++ (t ++ codes "\n")) (sym same)

-- a line
pub marked : (line text said : List ℕ) → begins_with (codes "#>+") line ≡ false → begins_with (codes "#> ") line ≡ false → begins_with (codes "#>") line ≡ true →
    text ≡ drop 2 line → says_line said line ≡ said ++ (text ++ codes "\n")
unfolding says_line
marked line text said plus space mark same =
    ap (λ (b : Bool). says_with b (begins_with (codes "#> ") line) (begins_with (codes "#>") line) said line) plus
    ∙ ap (λ (b : Bool). says_with false b (begins_with (codes "#>") line) said line) space
    ∙ ap (λ (b : Bool). says_with false false b said line) mark
    ∙ ap (λ (t : List ℕ). said ++ (t ++ codes "\n")) (sym same)

-- nothing
pub unmarked : (line said : List ℕ) → begins_with (codes "#>+") line ≡ false → begins_with (codes "#> ") line ≡ false → begins_with (codes "#>") line ≡ false →
    says_line said line ≡ said
unfolding says_line
unmarked line said plus space mark =
    ap (λ (b : Bool). says_with b (begins_with (codes "#> ") line) (begins_with (codes "#>") line) said line) plus
    ∙ ap (λ (b : Bool). says_with false b (begins_with (codes "#>") line) said line) space
    ∙ ap (λ (b : Bool). says_with false false b said line) mark
