-- What digits write, one digit after the other.
use Rattle.std.proofs.Common.{◌≡◌, ℕ, ◌+◌, ◌-◌, ◌*◌, ◌^◌, ◌<◌, ◌≤◌, true, false, Bool, ◌&&◌, List, [], ◌∷◌, length, get_or, take, ap, Some, arith, rules}
use Rattle.std.proofs.lemmas.Str.Parse.{IsNumeralModel, numerals_by_value, digit_at, digits_value_short, digits_value-take-le}
use Rattle.std.proofs.lemmas.{Bool.Decides.{nat_tests}, Str.{digit_value_digit}, Int.Digits.{digits_value_more}}
use Rattle.std.specs.{Prelude.{nat_lt}, Char.{is_ascii_digit}, Int.{IsInRange}, List.{list_all}, Str.Parse.{digits_value}}
use Rattle.schedule_lines.specs.Numbers.{is_digits, number_of}

-- digits are the numerals of base ten
numerals : IsNumeralModel (λ ds. list_all is_ascii_digit ds ≡ true) (digits_value 10)
numerals = numerals_by_value _ (search rules)

-- each byte is a digit
pub digit_in : (ds : List ℕ) (i : ℕ) → list_all is_ascii_digit ds ≡ true → i < length ds → IsInRange 48 57 (get_or ds i 0)
digit_in ds i all inside = digit_at ds i (numerals.to ds all) inside

-- one digit more
pub value_with_next : (ds : List ℕ) (i : ℕ) → list_all is_ascii_digit ds ≡ true → i < length ds →
    digits_value 10 (take (i + 1) ds) ≡ digits_value 10 (take i ds) * 10 + (get_or ds i 0 - 48)
value_with_next ds i all inside =
    let more = digits_value_more 10 ds i inside in
    let digit = digit_value_digit (get_or ds i 0) (digit_in ds i all inside) in
    omega (arith, more, digit)

-- ten digits write less than 10^10, and so do the first ones of them
pub value_small : (ds : List ℕ) (i : ℕ) → list_all is_ascii_digit ds ≡ true → length ds ≤ 10 →
    digits_value 10 (take i ds) < 10 ^ 10
value_small ds i all few =
    let whole = digits_value_short numerals ds 10 all few in
    let part = digits_value-take-le 10 ds i (omega arith) in
    omega (arith, whole, part)

-- where both of two tests hold, the second does
pub second_holds : (a b : Bool) → (a && b) ≡ true → b ≡ true
second_holds true b e = e
second_holds false b e = cc

-- a digit alone is the number that it writes
pub one_digit : (ds : List ℕ) → length ds ≡ 1 → is_ascii_digit (get_or ds 0 0) ≡ true → number_of ds ≡ Some (get_or ds 0 0 - 48)
unfolding number_of is_digits
one_digit [] one is = absurd (omega (arith, one))
one_digit (d ∷ []) one is =
    let all : list_all is_ascii_digit (d ∷ []) ≡ true = search (rules, is) in
    let more : digits_value 10 (d ∷ []) ≡ 0 + (d - 48) = value_with_next (d ∷ []) 0 all (omega arith) in
    let value : digits_value 10 (d ∷ []) ≡ d - 48 = omega (arith, more) in
    let digit = digit_in (d ∷ []) 0 all (omega arith) in
    let small : nat_lt (digits_value 10 (d ∷ [])) 4294967296 ≡ true = grind (arith, nat_tests, value, digit) in
    rw (all, small) (ap Some value)
one_digit (d ∷ e ∷ ds) one is = absurd (omega (arith, one))
