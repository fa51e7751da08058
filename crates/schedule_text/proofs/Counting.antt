-- How many words a text has, by its first word and what follows it.
use Rattle.std.proofs.Common.{◌≡◌, ℕ, ◌+◌, ◌<◌, ◌≤◌, ◌==◌, Bool, true, false, suc, List, ◌∷◌, [], length, refl, sym, ap, ◌∙◌, arith}
use Rattle.std.proofs.lemmas.{Bool.{ne_eqb}, List.{Folds.{length-prefix_len}, Sums.{sum_by-cons, count_by-le-length, prefix_len-le-length}}}
use Rattle.std.specs.{Prelude.{cond, not, count_by, drop}, List.{position_or_len}}
use Rattle.schedule_lines.specs.Words.{is_space, first_word, after_word, word_count}

-- where the first space is
abbrev end : List ℕ → ℕ
end text = position_or_len is_space text

abbrev spaces : List ℕ → ℕ
spaces text = count_by is_space text

end_cons : (byte : ℕ) (text : List ℕ) (b : Bool) → is_space byte ≡ b → end (byte ∷ text) ≡ cond (not b) (1 + end text) 0
end_cons byte text b is = ap (λ t. cond (not t) (1 + end text) 0) is

spaces_cons : (byte : ℕ) (text : List ℕ) (b : Bool) → is_space byte ≡ b → spaces (byte ∷ text) ≡ cond b 1 0 + spaces text
spaces_cons byte text b is = sum_by-cons (λ x. cond (is_space x) 1 0) byte text ∙ ap (λ t. cond t 1 0 + spaces text) is

-- a text in which the first word is all has no space
none_by : (byte : ℕ) (text : List ℕ) → (end text ≡ length text → spaces text ≡ 0) → end (byte ∷ text) ≡ length (byte ∷ text) →
    (b : Bool) → is_space byte ≡ b → spaces (byte ∷ text) ≡ 0
none_by byte text rest whole true is = let here = end_cons byte text true is in absurd (omega arith)
none_by byte text rest whole false is =
    let on = end_cons byte text false is in
    let count : spaces (byte ∷ text) ≡ 0 + spaces text = spaces_cons byte text false is in
    let none = rest (omega arith) in
    omega arith

no_space : (text : List ℕ) → end text ≡ length text → spaces text ≡ 0
no_space [] whole = refl
no_space (byte ∷ text) whole = none_by byte text (no_space text) whole (is_space byte) refl

-- any other has one space more than what follows the first word
more_by : (byte : ℕ) (text : List ℕ) → (end text < length text → spaces text ≡ 1 + spaces (drop (end text + 1) text)) →
    end (byte ∷ text) < length (byte ∷ text) → (b : Bool) → is_space byte ≡ b →
    spaces (byte ∷ text) ≡ 1 + spaces (drop (end (byte ∷ text) + 1) (byte ∷ text))
more_by byte text rest some true is =
    let here = end_cons byte text true is in
    let next : end (byte ∷ text) + 1 ≡ suc 0 = omega arith in
    spaces_cons byte text true is ∙ ap (λ n. 1 + spaces (drop n (byte ∷ text))) (sym next)
more_by byte text rest some false is =
    let on = end_cons byte text false is in
    let next : end (byte ∷ text) + 1 ≡ suc (end text + 1) = omega arith in
    let count : spaces (byte ∷ text) ≡ 0 + spaces text = spaces_cons byte text false is in
    let after = rest (omega arith) in
    let more : spaces (byte ∷ text) ≡ 1 + spaces (drop (end text + 1) text) = omega arith in
    more ∙ ap (λ n. 1 + spaces (drop n (byte ∷ text))) (sym next)

one_space_more : (text : List ℕ) → end text < length text → spaces text ≡ 1 + spaces (drop (end text + 1) text)
one_space_more [] some = absurd (omega arith)
one_space_more (byte ∷ text) some = more_by byte text (one_space_more text) some (is_space byte) refl

pub one_word : (text : List ℕ) → length (first_word text) ≡ length text → word_count text ≡ 1
unfolding first_word word_count
one_word text whole = ap (λ n. 1 + n) (no_space text (sym (length-prefix_len (λ x. not (is_space x)) text) ∙ whole))

pub one_word_more : (text : List ℕ) → ¬ (length (first_word text) ≡ length text) → word_count text ≡ 1 + word_count (after_word text)
unfolding first_word after_word word_count
one_word_more text part =
    let same = length-prefix_len (λ x. not (is_space x)) text in
    let within = prefix_len-le-length (λ x. not (is_space x)) text in
    ap (λ n. 1 + n) (one_space_more text (omega (arith, same, within, part)))

pub is_one_word : (text : List ℕ) → length (first_word text) ≡ length text → (word_count text == 1) ≡ true
is_one_word text whole = ap (λ n. n == 1) (one_word text whole)

pub is_more : (text : List ℕ) → ¬ (length (first_word text) ≡ length text) → (word_count text == 1) ≡ false
unfolding word_count
is_more text part =
    let more : 1 + spaces text ≡ 1 + (1 + spaces (after_word text)) = one_word_more text part in
    ne_eqb (1 + spaces text) 1 (λ one. omega arith)

-- there is a byte between two words
pub few_words : (text : List ℕ) → word_count text ≤ length text + 1
unfolding word_count
few_words text = let few = count_by-le-length is_space text in omega arith
