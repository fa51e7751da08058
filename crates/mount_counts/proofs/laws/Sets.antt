-- Sets of mounts: what a set has after a mount joins it, and after its lowest leaves it.
use Rattle.std.proofs.Common.{ap, arith, bit_and, bit_or, false, inl, inr, nat_lt, refl, sym, true, ℕ, ◌%◌, ◌*◌, ◌<◌, ◌==◌, ◌^◌, ◌∙◌, ◌≡◌, ◌≢◌, ◌≤◌}
use Rattle.std.proofs.lemmas.{Bool.{cases_Bool, eq-eqb, ltb-false, ltb-true}, Nat.Bits.{bit_at-trailing_zeros, bit_at-zero, bit_at_above}}
use Rattle.std.proofs.lemmas.Nat.{Bits.{bit_at_clear_other, bit_at_clear_same, bit_at_set_other, bit_at_set_same}, and_le_l, or_lt}
use Rattle.std.specs.Int.{bit_at, bit_not, w8}
use Rattle.mount_counts.specs.{Sets.{has_mount, lowest, one_mount, with_mount, without_lowest}, declared.sets.MountSet.MountSet}

pub none_held : (held : MountSet) → held.bits ≡ 0 → (n : ℕ) → has_mount held n ≡ false
none_held held e n = ap (λ b. bit_at b n == 1) e ∙ (let z : bit_at 0 n ≡ 0 = bit_at-zero n in ap (λ b. b == 1) z)

place : (m : ℕ) → m < 8 → one_mount m ≡ 1 * 2 ^ m % 256
place m lm = let e : m % 8 ≡ m = omega arith in ap (λ k. 1 * 2 ^ k % 256) e

pub joins_here : (held : MountSet) (m : ℕ) → m < 8 → has_mount (with_mount held m) m ≡ true
joins_here held m lm =
    eq-eqb (bit_at (with_mount held m).bits m) 1 (ap (λ b. bit_at (bit_or held.bits b) m) (place m lm) ∙ bit_at_set_same w8 held.bits m lm)

-- the others are in it as before
pub joins_there : (held : MountSet) (m n : ℕ) → m < 8 → n ≢ m → has_mount (with_mount held m) n ≡ has_mount held n
joins_there held m n lm ne =
    ap (λ b. b == 1) (ap (λ b. bit_at (bit_or held.bits b) n) (place m lm) ∙ bit_at_set_other w8 held.bits m lm n ne)

pub joins_within : (held : MountSet) (m : ℕ) → m < 8 → held.bits < 256 → (with_mount held m).bits < 256
joins_within held m lm within = or_lt 8 held.bits (one_mount m) within (omega arith)

pub lowest_held : (held : MountSet) → 0 < held.bits → held.bits < 256 → (lowest held < 8) × (has_mount held (lowest held) ≡ true)
lowest_held held some within =
    let z : (lowest held < 8) × (bit_at held.bits (lowest held) ≡ 1) × ((i : ℕ) → i < lowest held → bit_at held.bits i ≡ 0) =
    bit_at-trailing_zeros w8 held.bits some within in
    (z.0, eq-eqb (bit_at held.bits (lowest held)) 1 z.1)

pub leaves_here : (held : MountSet) → 0 < held.bits → held.bits < 256 → has_mount (without_lowest held) (lowest held) ≡ false
leaves_here held some within =
    let l : lowest held < 8 = (lowest_held held some within).0 in
    let z : bit_at (without_lowest held).bits (lowest held) ≡ 0 =
    ap (λ b. bit_at (bit_and held.bits (bit_not w8 b)) (lowest held)) (place (lowest held) l) ∙
    bit_at_clear_same w8 held.bits (lowest held) l in
    rw z refl

pub leaves_within : (held : MountSet) → held.bits < 256 → (without_lowest held).bits < 256
leaves_within held within = omega (arith, and_le_l held.bits (bit_not w8 (one_mount (lowest held))))

above : (held : MountSet) (n : ℕ) → held.bits < 256 → 8 ≤ n → has_mount held n ≡ false
above held n within h = let z : bit_at held.bits n ≡ 0 = bit_at_above held.bits 8 n within h in rw z refl

-- the others are in it as before
pub leaves_there : (held : MountSet) (n : ℕ) → 0 < held.bits → held.bits < 256 → n ≢ lowest held →
    has_mount (without_lowest held) n ≡ has_mount held n
leaves_there held n some within ne =
    let l : lowest held < 8 = (lowest_held held some within).0 in
    elim (cases_Bool (nat_lt n 8)) [
      | inl h ↦ ap (λ b. b == 1) (ap (λ b. bit_at (bit_and held.bits (bit_not w8 b)) n) (place (lowest held) l) ∙
          bit_at_clear_other w8 held.bits (lowest held) l n (ltb-true n 8 h) ne)
      | inr h ↦ above (without_lowest held) n (leaves_within held within) (ltb-false n 8 h) ∙ sym (above held n within (ltb-false n 8 h))
    ]
