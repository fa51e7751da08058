-- Words that were put, and those that are left.
use Rattle.std.proofs.Common.{List, ap, append-nil, append_assoc, arith, suc, sym, true, zero, ℕ, ◌++◌, ◌+◌, ◌-◌, ◌<◌, ◌∙◌, ◌≡◌, ◌≤◌}
use Rattle.schedule_lines.specs.{Printed.Prints, Words.{after_word, first_word}, declared.output.Output.Output}
use Rattle.history_files.specs.{Operations.{behind_next, shown_words, word_text}, declared.operations.Behind.Behind}

next_words : (task : List ℕ) (count taken : ℕ) (behind : Behind) (rest : List ℕ) → taken < count → shown_words task (count - taken) behind rest ≡
    word_text task behind (first_word rest) ++ shown_words task (count - (taken + 1)) (behind_next behind (first_word rest)) (after_word rest)
unfolding shown_words
next_words task count taken behind rest less = let e : count - taken ≡ suc (count - (taken + 1)) = omega (arith, less) in ap (λ n. shown_words task n behind rest) e

pub one_word : (task : List ℕ) (count taken : ℕ) (behind : Behind) (rest all : List ℕ) (old new : Output) → taken < count →
    Prints old new (word_text task behind (first_word rest)) →
    (old.is_whole ≡ true → old.bytes.items ++ shown_words task (count - taken) behind rest ≡ all) →
    new.is_whole ≡ true → new.bytes.items ++ shown_words task (count - (taken + 1)) (behind_next behind (first_word rest)) (after_word rest) ≡ all
one_word task count taken behind rest all old new less prints so_far whole =
    ap (λ (l : List ℕ). l ++ shown_words task (count - (taken + 1)) (behind_next behind (first_word rest)) (after_word rest)) (prints.printed whole) ∙
    append_assoc old.bytes.items (word_text task behind (first_word rest)) (shown_words task (count - (taken + 1)) (behind_next behind (first_word rest)) (after_word rest)) ∙
    ap (λ (l : List ℕ). old.bytes.items ++ l) (sym (next_words task count taken behind rest less)) ∙
    so_far (prints.whole whole)

-- no word is left
pub no_word : (task : List ℕ) (count taken : ℕ) (behind : Behind) (rest shown all : List ℕ) → count ≤ taken →
    shown ++ shown_words task (count - taken) behind rest ≡ all → shown ≡ all
unfolding shown_words
no_word task count taken behind rest shown all full e =
    let none : count - taken ≡ zero = omega (arith, full) in
    sym (append-nil shown) ∙ ap (λ (left : ℕ). shown ++ shown_words task left behind rest) (sym none) ∙ e
