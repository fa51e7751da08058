-- Words of holders.
use Rattle.std.proofs.Common.{Bool, ap, arith, false, sym, true, ◌≡◌}
use Rattle.access_model.specs.{Holders.{held_by, is_unheld, nobody, with_holder}, declared.actions.{Holder.Holder, Holders.Holders}}
use Rattle.freeze_levels.specs.{Holders.{holders_in, word_of}, holder_laws.Roles.is_held}

-- these holders
abbrev these : Bool → Bool → Holders
these kernel user = record { kernel = kernel; user = user }

-- a word tells of the holders that it was made of
unpacked : (kernel user : Bool) → holders_in (word_of (these kernel user)) ≡ these kernel user
unpacked kernel user = grind arith

pub unpack_pack : (held : Holders) → holders_in (word_of held) ≡ held
unpack_pack held = unpacked held.kernel held.user

-- it is 0 just where nobody holds a freeze
held_bits : (kernel user : Bool) → is_unheld (these kernel user) ≡ false → is_held (word_of (these kernel user)) ≡ 1
held_bits kernel user h = grind arith

pub held_word : (held : Holders) → is_unheld held ≡ false → is_held (word_of held) ≡ 1
held_word held e = held_bits held.kernel held.user e

unheld_bits : (kernel user : Bool) → is_held (word_of (these kernel user)) ≡ 1 → is_unheld (these kernel user) ≡ false
unheld_bits kernel user h = grind arith

pub some_held : (held : Holders) → is_held (word_of held) ≡ 1 → is_unheld held ≡ false
some_held held e = unheld_bits held.kernel held.user e

-- with one more, some freeze is held
one_bits : (holder : Holder) (kernel user : Bool) → is_unheld (with_holder holder true (these kernel user)) ≡ false
one_bits holder kernel user = grind arith

pub one_held : (holder : Holder) (held : Holders) → is_unheld (with_holder holder true held) ≡ false
one_held holder held = one_bits holder held.kernel held.user

-- the word of some holders is one that they are unpacked from
pub packs : (held : Holders) → word_of held ≡ word_of (holders_in (word_of held))
packs held = ap word_of (sym (unpack_pack held))

-- who holds a freeze, where nobody else does, holds it alone
alone_bits : (holder : Holder) (kernel user : Bool) → held_by (these kernel user) holder ≡ true →
    is_unheld (with_holder holder false (these kernel user)) ≡ true → these kernel user ≡ with_holder holder true nobody
alone_bits holder kernel user h g = grind arith

pub holds_alone : (holder : Holder) (held : Holders) → held_by held holder ≡ true → is_unheld (with_holder holder false held) ≡ true →
    held ≡ with_holder holder true nobody
holds_alone holder held h e = alone_bits holder held.kernel held.user h e

-- the one who holds a freeze alone holds one, and without it nobody does
pub holds_own : (holder : Holder) → held_by (with_holder holder true nobody) holder ≡ true
holds_own holder = grind arith

pub leaves_none : (holder : Holder) → with_holder holder false (with_holder holder true nobody) ≡ nobody
leaves_none holder = grind arith

pub none_held : (holder : Holder) → held_by nobody holder ≡ false
none_held holder = grind arith

-- where nobody holds a freeze, it is nobody
nobody_bits : (kernel user : Bool) → is_unheld (these kernel user) ≡ true → these kernel user ≡ nobody
nobody_bits kernel user h = grind arith

pub is_nobody : (held : Holders) → is_unheld held ≡ true → held ≡ nobody
is_nobody held e = nobody_bits held.kernel held.user e
