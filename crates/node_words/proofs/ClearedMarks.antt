-- The dirty mark of a node's word, cleared. This file alone sees its bit.
use Rattle.access_model.specs.{Actions.marked, States.{IsDirectory, IsFile, is_dirty}, declared.actions.Kind.TheVariants.File}
use Rattle.std.proofs.Common.{Some, ap, arith, bit_and, false, option_map, refl, sym, ℕ, ◌%◌, ◌*◌, ◌+◌, ◌/◌, ◌<◌, ◌==◌, ◌∙◌, ◌≡◌}
use Rattle.std.proofs.lemmas.{Bool.{eq-eqb, ne_eqb}, Nat.{Bits.and_pow, and-not, and_comm}}
use Rattle.node_words.{proofs.Packing.{bit_back, word_returns}, specs.Nodes.{IsNode, IsPacked, dirty_in, kind_in, mark_bit, marked_node, node_of}}
use Rattle.node_words.specs.Nodes.{node_shown, opens_in, parent_in, removed_in, size_in, word_of}

-- a word after an `and` with not 4
abbrev pub without_mark : ℕ → ℕ
without_mark word = bit_and word 18446744073709551611

-- the second word says what the first says, but for the mark, which it has not
pub record IsCleared (word cleared : ℕ) : Type 0 where
  pub kind : kind_in cleared ≡ kind_in word
  pub dirty : dirty_in cleared ≡ 0
  pub removed : removed_in cleared ≡ removed_in word
  pub opens : opens_in cleared ≡ opens_in word
  pub parent : parent_in cleared ≡ parent_in word
  pub size : size_in cleared ≡ size_in word

-- an `and` with not 4 takes the mark away, and nothing else
pub mark_taken : (word : ℕ) → word < 18446744073709551616 → without_mark word + 4 * dirty_in word ≡ word
mark_taken word lt =
    let mark : bit_and word 4 ≡ word / 4 % 2 * 4 = and_pow word 2 in
    let rest : bit_and 18446744073709551611 word + bit_and 4 word ≡ word = and-not 64 4 word (omega arith) lt in
    omega (arith, mark, rest, and_comm word 4, and_comm word 18446744073709551611)

-- the word of some node is one of 64 bits
pub packed_below : (word : ℕ) → IsPacked word → word < 18446744073709551616
packed_below word h = omega (arith, h.size)

-- a word that is less by its mark is cleared
lesser_cleared : (word cleared : ℕ) → cleared + 4 * (word / 4 % 2) ≡ word → IsCleared word cleared
lesser_cleared word cleared e = grind arith

-- the cleared word of a node is cleared
pub clears_mark : (word : ℕ) → IsPacked word → IsCleared word (without_mark word)
clears_mark word h = lesser_cleared word (without_mark word) (mark_taken word (packed_below word h))

-- where the mark is clear, the word stays
pub clean_stays : (word : ℕ) → IsNode word → dirty_in word ≡ 0 → without_mark word ≡ word
clean_stays word h clean = omega (arith, mark_taken word (packed_below word h.packed), clean)

-- the cleared word is that of the same node, clean
pub cleared_is : (word : ℕ) → IsPacked word → without_mark word ≡ word_of (marked_node false (node_of word))
cleared_is word h = grind (arith, word_returns, mark_bit, dirty_in, bit_back, mark_taken, packed_below)

-- only a file's word has the mark
pub marked_file : (word : ℕ) → IsNode word → dirty_in word ≡ 1 → kind_in word ≡ 1
marked_file word h marked = grind arith

-- what a file's word shows
pub file_shown : (word : ℕ) → kind_in word ≡ 1 →
    node_shown word ≡ Some record {
      kind = File;
      parent = parent_in word;
      size = size_in word;
      dirty = dirty_in word == 1;
      removed = removed_in word == 1;
    }
file_shown word file = rw (ne_eqb (kind_in word) 0 (λ e. absurd (omega (arith, e, file))), eq-eqb (kind_in word) 1 file) refl

-- no directory is dirty
pub directory_clean : (word : ℕ) → IsNode word → IsDirectory (node_shown word) → is_dirty (node_shown word) ≡ false
directory_clean word h dir = grind arith

-- where the mark is set, the word shows a file, and the cleared word the same file, clean
pub cleared_shown : (word : ℕ) → IsNode word → dirty_in word ≡ 1 →
    IsFile (node_shown word) × (node_shown (without_mark word) ≡ option_map (marked false) (node_shown word))
cleared_shown word h dirty =
    let file : kind_in word ≡ 1 = marked_file word h dirty in
    let c : IsCleared word (without_mark word) = clears_mark word h.packed in
    let before = file_shown word file in
    let after = file_shown (without_mark word) (c.kind ∙ file) in
    let clean : (dirty_in (without_mark word) == 1) ≡ false =
    ne_eqb (dirty_in (without_mark word)) 1 (λ e. absurd (omega (arith, e, c.dirty))) in (
      rw before refl,
      after ∙ (λ j. Some (record { kind = File; parent = c.parent j; size = c.size j; dirty = clean j; removed = c.removed j == 1 })) ∙
          sym (ap (option_map (marked false)) before),
    )
