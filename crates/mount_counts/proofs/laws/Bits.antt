-- The bits of a flags word: READONLY and HOLD, set, cleared and found.
use Rattle.std.{proofs.Common.{◌≡◌, ℕ, true, false, zero, suc, ◌<◌, refl, arith}, specs.Prelude.{bit_or, bit_and}}
use Rattle.mount_counts.specs.{Phases.has_flag, Roles.{ro_bit, hold_bit}}

-- a fact about each number below 4
pub below4 : (P : ℕ → Type 0) → P 0 → P 1 → P 2 → P 3 → (n : ℕ) → n < 4 → P n
below4 P a b c d zero h = a
below4 P a b c d (suc zero) h = b
below4 P a b c d (suc (suc zero)) h = c
below4 P a b c d (suc (suc (suc zero))) h = d
below4 P a b c d (suc (suc (suc (suc n)))) h = absurd (omega arith)

-- the second is the first with HOLD set
abbrev pub IsWithHold : ℕ → ℕ → Type 0
IsWithHold f g = (g < 4) × (ro_bit g ≡ ro_bit f) × (hold_bit g ≡ 1)

-- an `or` with 2 sets HOLD alone
pub or_hold : (f : ℕ) → f < 4 → IsWithHold f (bit_or f 2)
or_hold = below4 (λ f. IsWithHold f (bit_or f 2)) (omega arith) (omega arith) (omega arith) (omega arith)

-- the second is the first with READONLY set
abbrev pub IsWithReadOnly : ℕ → ℕ → Type 0
IsWithReadOnly f g = (g < 4) × (ro_bit g ≡ 1) × (hold_bit g ≡ hold_bit f)

pub or_read_only : (f : ℕ) → f < 4 → IsWithReadOnly f (bit_or f 1)
or_read_only = below4 (λ f. IsWithReadOnly f (bit_or f 1)) (omega arith) (omega arith) (omega arith) (omega arith)

-- a word with all bits but HOLD
abbrev pub without_hold : ℕ → ℕ
without_hold f = bit_and f 18446744073709551613

-- the second is the first with HOLD clear
abbrev pub IsWithoutHold : ℕ → ℕ → Type 0
IsWithoutHold f g = (g < 4) × (ro_bit g ≡ ro_bit f) × (hold_bit g ≡ 0)

-- an `and` with all but 2 clears HOLD alone
pub and_not_hold : (f : ℕ) → f < 4 → IsWithoutHold f (without_hold f)
and_not_hold = below4 (λ f. IsWithoutHold f (without_hold f)) (omega arith) (omega arith) (omega arith) (omega arith)

-- a word with all bits but READONLY
abbrev pub without_read_only : ℕ → ℕ
without_read_only f = bit_and f 18446744073709551614

-- the second is the first with READONLY clear
abbrev pub IsWithoutReadOnly : ℕ → ℕ → Type 0
IsWithoutReadOnly f g = (g < 4) × (ro_bit g ≡ 0) × (hold_bit g ≡ hold_bit f)

-- an `and` with all but 1 clears READONLY alone
pub and_not_read_only : (f : ℕ) → f < 4 → IsWithoutReadOnly f (without_read_only f)
and_not_read_only = below4 (λ f. IsWithoutReadOnly f (without_read_only f)) (omega arith) (omega arith) (omega arith) (omega arith)

pub hold_clear : (f : ℕ) → f < 4 → has_flag f 2 ≡ false → hold_bit f ≡ 0
hold_clear = below4 (λ f. has_flag f 2 ≡ false → hold_bit f ≡ 0) (λ h. omega arith) (λ h. omega arith) (λ h. cc) (λ h. cc)

pub hold_set : (f : ℕ) → f < 4 → has_flag f 2 ≡ true → hold_bit f ≡ 1
hold_set = below4 (λ f. has_flag f 2 ≡ true → hold_bit f ≡ 1) (λ h. cc) (λ h. cc) (λ h. omega arith) (λ h. omega arith)

pub hold_unset : (f : ℕ) → f < 4 → hold_bit f ≡ 0 → has_flag f 2 ≡ false
hold_unset =
    below4 (λ f. hold_bit f ≡ 0 → has_flag f 2 ≡ false) (λ h. refl) (λ h. refl)
    (λ h. absurd (omega (arith, h))) (λ h. absurd (omega (arith, h)))

pub read_only_clear : (f : ℕ) → f < 4 → has_flag f 1 ≡ false → ro_bit f ≡ 0
read_only_clear = below4 (λ f. has_flag f 1 ≡ false → ro_bit f ≡ 0) (λ h. omega arith) (λ h. cc) (λ h. omega arith) (λ h. cc)

pub read_only_set : (f : ℕ) → f < 4 → has_flag f 1 ≡ true → ro_bit f ≡ 1
read_only_set = below4 (λ f. has_flag f 1 ≡ true → ro_bit f ≡ 1) (λ h. cc) (λ h. omega arith) (λ h. cc) (λ h. omega arith)
