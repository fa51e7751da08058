-- What bytes begin with, and that more bytes behind them change neither a whole line nor a line that is too long.
use Rattle.std.proofs.Common.{◌≡◌, ℕ, zero, suc, ◌+◌, ◌<◌, ◌≤◌, Bool, true, false, cond, not, List, [], ◌∷◌, ◌++◌, length, take, drop, refl, sym, ap, subst, ◌∙◌, arith, Option, Some, None, length-append, length-take, take-append-drop}
use Rattle.std.proofs.lemmas.{Bool.Decides.{nat_tests}, List.{take_all, take-append-le, Sums.{sum_by-cons, prefix_len-le-length}}}
use Rattle.std.specs.{Prelude.{nat_lt}, List.{position, position_or_len, count_by}}
use Rattle.schedule_lines.specs.declared.lines.Front.TheVariants.{Line as WholeLine, TooLong, Part}
use Rattle.schedule_lines.specs.Lines.{is_newline, front_by, front_of}

-- where a byte is first found
found_at : (p : ℕ → Bool) (xs : List ℕ) (n : ℕ) → position p xs ≡ Some n → (position_or_len p xs ≡ n) × (n < length xs)
found_at p xs n e = by (nat_lt (position_or_len p xs) (length xs)) refl e
  where
    by : (b : Bool) → nat_lt (position_or_len p xs) (length xs) ≡ b → cond b (Some (position_or_len p xs)) None ≡ Some n →
        (position_or_len p xs ≡ n) × (n < length xs)
    by true t f = let same : position_or_len p xs ≡ n = cc in (same, grind (arith, nat_tests))
    by false t f = cc

-- that it is found there
is_found : (p : ℕ → Bool) (xs : List ℕ) (n : ℕ) → position_or_len p xs ≡ n → n < length xs → position p xs ≡ Some n
is_found p xs n e l = grind (arith, nat_tests)

-- what is found nowhere
nowhere : (p : ℕ → Bool) (xs : List ℕ) → position p xs ≡ None → position_or_len p xs ≡ length xs
nowhere p xs e = grind (arith, nat_tests, prefix_len-le-length)

-- the first place stays the first
same_place : (p : ℕ → Bool) (xs ys : List ℕ) → position_or_len p xs < length xs → position_or_len p (xs ++ ys) ≡ position_or_len p xs
same_place p [] ys l = absurd (omega arith)
same_place p (x ∷ xs) ys l = by (p x) (same_place p xs ys) l
  where
    by : (b : Bool) → (position_or_len p xs < length xs → position_or_len p (xs ++ ys) ≡ position_or_len p xs) →
        cond (not b) (1 + position_or_len p xs) 0 < length (x ∷ xs) →
        cond (not b) (1 + position_or_len p (xs ++ ys)) 0 ≡ cond (not b) (1 + position_or_len p xs) 0
    by true h m = refl
    by false h m = ap (λ (n : ℕ). 1 + n) (h (omega arith))

-- the first place stays the first in the bytes up to it
still_first : (p : ℕ → Bool) (xs : List ℕ) → position_or_len p xs < length xs →
    position_or_len p (take (suc (position_or_len p xs)) xs) ≡ position_or_len p xs
still_first p [] l = absurd (omega arith)
still_first p (x ∷ xs) l = by (p x) (still_first p xs) l
  where
    by : (b : Bool) →
        (position_or_len p xs < length xs → position_or_len p (take (suc (position_or_len p xs)) xs) ≡ position_or_len p xs) →
        cond (not b) (1 + position_or_len p xs) 0 < length (x ∷ xs) →
        cond (not b) (1 + position_or_len p (take (cond (not b) (1 + position_or_len p xs) 0) xs)) 0
        ≡ cond (not b) (1 + position_or_len p xs) 0
    by true h m = refl
    by false h m =
        let next : 1 + position_or_len p xs ≡ suc (position_or_len p xs) = omega arith in
        ap (λ (n : ℕ). 1 + n) (ap (λ (n : ℕ). position_or_len p (take n xs)) next ∙ h (omega arith))

-- what is found stays found where more follows
still_found : (p : ℕ → Bool) (xs ys : List ℕ) (n : ℕ) → position p xs ≡ Some n → position p (xs ++ ys) ≡ Some n
still_found p xs ys n e =
    let at = found_at p xs n e in
    let same : position_or_len p xs ≡ n = at.0 in
    let within : position_or_len p xs < length xs = omega (arith, at.0, at.1) in
    is_found p (xs ++ ys) n (same_place p xs ys within ∙ same) (omega (arith, at.1, length-append xs ys))

-- what is nowhere is found no time
count_none : (p : ℕ → Bool) (xs : List ℕ) → position_or_len p xs ≡ length xs → count_by p xs ≡ 0
count_none p [] e = refl
count_none p (x ∷ xs) e = by (p x) refl (count_none p xs) e
  where
    by : (b : Bool) → p x ≡ b → (position_or_len p xs ≡ length xs → count_by p xs ≡ 0) →
        cond (not b) (1 + position_or_len p xs) 0 ≡ length (x ∷ xs) → count_by p (x ∷ xs) ≡ 0
    by true t h f = absurd (omega arith)
    by false t h f =
        sum_by-cons (λ y. cond (p y) 1 0) x xs ∙ ap (λ (c : Bool). cond c 1 0 + count_by p xs) t
        ∙ omega (arith, h (omega arith))

-- what is found somewhere is found once more than behind its first place
count_first : (p : ℕ → Bool) (xs : List ℕ) → position_or_len p xs < length xs →
    count_by p xs ≡ 1 + count_by p (drop (suc (position_or_len p xs)) xs)
count_first p [] l = absurd (omega arith)
count_first p (x ∷ xs) l = by (p x) refl (count_first p xs) l
  where
    by : (b : Bool) → p x ≡ b →
        (position_or_len p xs < length xs → count_by p xs ≡ 1 + count_by p (drop (suc (position_or_len p xs)) xs)) →
        cond (not b) (1 + position_or_len p xs) 0 < length (x ∷ xs) →
        count_by p (x ∷ xs) ≡ 1 + count_by p (drop (cond (not b) (1 + position_or_len p xs) 0) xs)
    by true t h m = sum_by-cons (λ y. cond (p y) 1 0) x xs ∙ ap (λ (c : Bool). cond c 1 0 + count_by p xs) t
    by false t h m =
        let next : 1 + position_or_len p xs ≡ suc (position_or_len p xs) = omega arith in
        sum_by-cons (λ y. cond (p y) 1 0) x xs ∙ ap (λ (c : Bool). cond c 1 0 + count_by p xs) t
        ∙ ap (λ (n : ℕ). 0 + n) (h (omega arith)) ∙ ap (λ (n : ℕ). 0 + (1 + count_by p (drop n xs))) (sym next) ∙ omega arith

-- a line is where its newline is
line_at : (o : Option ℕ) (b : Bool) (n : ℕ) → front_by o b ≡ WholeLine n → o ≡ Some n
line_at (Some m) b n e = cc
line_at None true n e = cc
line_at None false n e = cc

-- what is too long has no newline near, and is long
none_long : (o : Option ℕ) (b : Bool) → front_by o b ≡ TooLong → (o ≡ None) × (b ≡ true)
none_long (Some m) b e = cc
none_long None true e = (refl, refl)
none_long None false e = cc

-- a part has no newline near, and is short
none_short : (o : Option ℕ) (b : Bool) → front_by o b ≡ Part → (o ≡ None) × (b ≡ false)
none_short (Some m) b e = cc
none_short None true e = cc
none_short None false e = (refl, refl)

-- a line's newline is near
newline_at : (bytes : List ℕ) (n : ℕ) → front_of bytes ≡ WholeLine n → position is_newline (take 257 bytes) ≡ Some n
unfolding front_of
newline_at bytes n e = line_at (position is_newline (take 257 bytes)) (nat_lt 256 (length bytes)) n e

-- a newline that is near makes a line
line_of : (bytes : List ℕ) (n : ℕ) → position is_newline (take 257 bytes) ≡ Some n → front_of bytes ≡ WholeLine n
unfolding front_of
line_of bytes n e = ap (λ (o : Option ℕ). front_by o (nat_lt 256 (length bytes))) e

-- a line's newline is the first of all bytes
newline_in : (bytes : List ℕ) (n : ℕ) → front_of bytes ≡ WholeLine n → position is_newline bytes ≡ Some n
newline_in bytes n e =
    subst (λ (xs : List ℕ). position is_newline xs ≡ Some n) (take-append-drop 257 bytes)
    (still_found is_newline (take 257 bytes) (drop 257 bytes) n (newline_at bytes n e))

-- a line's newline is among the bytes
pub line_within : (bytes : List ℕ) (n : ℕ) → front_of bytes ≡ WholeLine n → n < length bytes
line_within bytes n e = (found_at is_newline bytes n (newline_in bytes n e)).1

-- the first bytes of two texts, one of which begins the other
near_more : (m : ℕ) (xs ys : List ℕ) → (rest : List ℕ) × (take m (xs ++ ys) ≡ take m xs ++ rest)
near_more zero xs ys = ([], refl)
near_more (suc m) [] ys = (take (suc m) ys, refl)
near_more (suc m) (x ∷ xs) ys = let h = near_more m xs ys in (h.0, ap (λ (l : List ℕ). x ∷ l) h.1)

-- a line stays the first where more follows
pub line_stays : (xs ys : List ℕ) (n : ℕ) → front_of xs ≡ WholeLine n → front_of (xs ++ ys) ≡ WholeLine n
line_stays xs ys n e =
    let near = near_more 257 xs ys in
    line_of (xs ++ ys) n (ap (position is_newline) near.1 ∙ still_found is_newline (take 257 xs) near.0 n (newline_at xs n e))

-- a line has at most 256 bytes
line_short : (bytes : List ℕ) (n : ℕ) → front_of bytes ≡ WholeLine n → n ≤ 256
line_short bytes n e =
    let at = (found_at is_newline (take 257 bytes) n (newline_at bytes n e)).1 in
    omega (arith, at, length-take 257 bytes)

-- a line stays one where nothing follows its newline
pub line_alone : (bytes : List ℕ) (n : ℕ) → front_of bytes ≡ WholeLine n → front_of (take (n + 1) bytes) ≡ WholeLine n
line_alone bytes n e =
    let at = found_at is_newline bytes n (newline_in bytes n e) in
    let next : suc (position_or_len is_newline bytes) ≡ n + 1 = omega (arith, at.0) in
    let near : take 257 (take (n + 1) bytes) ≡ take (n + 1) bytes =
    take_all 257 (take (n + 1) bytes) (omega (arith, line_short bytes n e, length-take (n + 1) bytes)) in
    let same : position_or_len is_newline (take (n + 1) bytes) ≡ n =
    ap (λ (m : ℕ). position_or_len is_newline (take m bytes)) (sym next)
    ∙ still_first is_newline bytes (omega (arith, at.0, at.1)) ∙ at.0 in
    let within : n < length (take (n + 1) bytes) = omega (arith, at.1, length-take (n + 1) bytes) in
    line_of (take (n + 1) bytes) n (ap (position is_newline) near ∙ is_found is_newline (take (n + 1) bytes) n same within)

-- what is too long stays so where more follows
pub too_long_stays : (xs ys : List ℕ) → front_of xs ≡ TooLong → front_of (xs ++ ys) ≡ TooLong
unfolding front_of
too_long_stays xs ys e =
    let is = none_long (position is_newline (take 257 xs)) (nat_lt 256 (length xs)) e in
    let long : nat_lt 256 (length xs) ≡ true = is.1 in
    let many : 257 ≤ length xs = grind (arith, nat_tests) in
    let more : nat_lt 256 (length (xs ++ ys)) ≡ true = grind (arith, nat_tests, length-append {A = ℕ}) in
    let none : position is_newline (take 257 (xs ++ ys)) ≡ None = ap (position is_newline) (take-append-le 257 xs ys many) ∙ is.0 in
    ap (λ (o : Option ℕ). front_by o (nat_lt 256 (length (xs ++ ys)))) none ∙ ap (front_by None) more

-- a part of a line is short
pub part_short : (bytes : List ℕ) → front_of bytes ≡ Part → length bytes ≤ 256
unfolding front_of
part_short bytes e =
    let short : nat_lt 256 (length bytes) ≡ false = (none_short (position is_newline (take 257 bytes)) (nat_lt 256 (length bytes)) e).1 in
    grind (arith, nat_tests)

-- a part of a line has no newline near
part_nowhere : (bytes : List ℕ) → front_of bytes ≡ Part → position is_newline (take 257 bytes) ≡ None
unfolding front_of
part_nowhere bytes e = (none_short (position is_newline (take 257 bytes)) (nat_lt 256 (length bytes)) e).0

-- a part of a line has no newline
pub part_lines : (bytes : List ℕ) → front_of bytes ≡ Part → count_by is_newline bytes ≡ 0
part_lines bytes e =
    let short = part_short bytes e in
    let near = take_all 257 bytes (omega (arith, short)) in
    count_none is_newline bytes (nowhere is_newline bytes (sym (ap (position is_newline) near) ∙ part_nowhere bytes e))

-- a line has one newline
pub one_line : (bytes : List ℕ) (n : ℕ) → front_of bytes ≡ WholeLine n →
    count_by is_newline bytes ≡ 1 + count_by is_newline (drop (n + 1) bytes)
one_line bytes n e =
    let at = found_at is_newline bytes n (newline_in bytes n e) in
    let next : suc (position_or_len is_newline bytes) ≡ n + 1 = omega (arith, at.0) in
    count_first is_newline bytes (omega (arith, at.0, at.1)) ∙ ap (λ (m : ℕ). 1 + count_by is_newline (drop m bytes)) next

-- no bytes are a part of a line
pub none_part : front_of [] ≡ Part
unfolding front_of
none_part = refl
