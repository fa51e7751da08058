-- words of an rcu_sync, as numbers and back
use Rattle.std.{proofs.{Common.{arith, false, refl, true, ◌%◌, ◌/◌, ◌≡◌, ◌≤◌}, lemmas.Bool.le-leb}, specs.Prelude.{Bool, Some, ◌==◌}}
use Rattle.percpu_rwsem.specs.{SyncWords.{IsLawful, bit, pack, state_number, state_of, unpack}, declared.sync_word.GpState.GpState}
use Rattle.percpu_rwsem.specs.declared.sync_word.SyncWord.{SyncWord}

-- a state is found again in its number
state_of_number : (s : GpState) → state_of (state_number s) ≡ Some s
state_of_number s = grind arith

-- a state's number fits three bits
number_small : (s : GpState) → state_number s ≤ 4
number_small s = grind arith

-- a bit is at most 1
pub bit_small : (t : Bool) → bit t ≤ 1
bit_small true = omega arith
bit_small false = omega arith

-- a bit is 1 where it is true
bit_is : (t : Bool) → (bit t == 1) ≡ t
bit_is true = refl
bit_is false = refl

-- a lawful word is found again in its number
pub unpack_pack : (w : SyncWord) → IsLawful w → unpack (pack w) ≡ Some w
unpack_pack w lawful =
    let s : state_number w.state ≤ 4 = number_small w.state in
    let b : bit w.taken ≤ 1 = bit_small w.taken in
    let high : pack w / 16 % 16 ≡ 0 = omega arith in
    let count : pack w / 256 ≡ w.count = omega arith in
    let state : pack w % 8 ≡ state_number w.state = omega arith in
    let taken : pack w / 8 % 2 ≡ bit w.taken = omega arith in
    rw (high, count, state, taken, le-leb w.count 65535 lawful.few, state_of_number w.state, bit_is w.taken, lawful.fits)
