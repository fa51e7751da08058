-- Where a byte is first found.
use Rattle.std.proofs.{Common.{Bool, List, None, arith, false, get_or, length, ℕ, ◌<◌, ◌≡◌}, lemmas.Bool.Decides.nat_tests}
use Rattle.std.{proofs.lemmas.List.Sums.position_or_len_is, specs.List.{position, position_or_len}}

-- what is nowhere is first found at the end
pub nowhere_is_end : (p : ℕ → Bool) (xs : List ℕ) → ((k : ℕ) → k < length xs → p (get_or xs k 0) ≡ false) → position_or_len p xs ≡ length xs
nowhere_is_end p xs none = position_or_len_is p xs (length xs) 0 (omega arith) none (λ h. absurd (omega arith))

-- and is not found
pub nowhere_is_none : (p : ℕ → Bool) (xs : List ℕ) → ((k : ℕ) → k < length xs → p (get_or xs k 0) ≡ false) → position p xs ≡ None
nowhere_is_none p xs none = let end = nowhere_is_end p xs none in grind (arith, nat_tests)
