-- Nodes to words and back.
use Rattle.access_model.specs.declared.actions.Kind.{Kind, TheVariants.{Dir, File}}
use Rattle.std.proofs.Common.{Bool, IfSome, None, Option, Some, ap, arith, false, if◌then◌else◌, inl, inr, option_map, refl, subst, suc, sym, true}
use Rattle.std.proofs.{Common.{zero, ℕ, ◌%◌, ◌/◌, ◌<◌, ◌==◌, ◌∙◌, ◌≡◌, ◌≤◌}, lemmas.Bool.{Decides.nat_tests, cases_Bool}}
use Rattle.node_words.specs.Nodes.{IsLawful, IsPacked, dirty_in, info_of, is_stray, kind_bits, kind_in, kind_of, mark_bit, node_of, node_shown}
use Rattle.node_words.specs.{Nodes.{opens_in, parent_in, placed, removed_in, size_in, unpacked, word_of}, declared.nodes.NodeWord.NodeWord}

-- the word of some node, of whatever size
record IsPlain (word : ℕ) : Type 0 where
  kind : kind_in word < 3
  low : word / 16 % 16 ≡ 0
  gap : word / 16384 % 4 ≡ 0
  high : word / 8388608 % 512 ≡ 0
  free : kind_in word ≡ 0 → word ≡ 0
  few : opens_in word ≤ 64
  closed : kind_in word ≡ 2 → opens_in word ≡ 0
  marked : removed_in word ≡ 1 → (kind_in word ≡ 1) × (dirty_in word ≡ 0) × (1 ≤ opens_in word)

-- it passes all tests
plain_tested : (word : ℕ) → IsPlain word → is_stray word ≡ false
plain_tested word h = grind arith

-- so it unpacks to the node of its fields
plain_unpacks : (word : ℕ) → IsPlain word → unpacked word ≡ Some (node_of word)
plain_unpacks word h = rw (plain_tested word h) refl

-- the word of some node does
pub packed_unpacks : (word : ℕ) → IsPacked word → unpacked word ≡ Some (node_of word)
packed_unpacks word h = plain_unpacks word record {
  kind = h.kind;
  low = h.low;
  gap = h.gap;
  high = h.high;
  free = h.free;
  few = h.few;
  closed = h.closed;
  marked = h.marked;
}

-- a word of 64 bits that unpacks is that of some node
pub unpacks_packed : (word : ℕ) (node : NodeWord) → word < 18446744073709551616 → unpacked word ≡ Some node → IsPacked word
unpacks_packed word node lt e = elim (cases_Bool (is_stray word)) [
  | inl stray ↦
      let none : unpacked word ≡ None = rw stray refl in
      absurd cc
  | inr plain ↦ record {
    kind = grind (arith, nat_tests);
    low = grind (arith, nat_tests);
    gap = grind (arith, nat_tests);
    high = grind (arith, nat_tests);
    size = omega arith;
    free = λ z. grind (arith, nat_tests);
    few = grind (arith, nat_tests);
    closed = λ z. grind (arith, nat_tests);
    marked = λ z. grind (arith, nat_tests);
  }
]

-- a mark's bit is 0 or 1
pub mark_below : (b : Bool) → mark_bit b < 2
mark_below true = omega arith
mark_below false = omega arith

-- fields that fit their bits are those of the word that has each in its place
pub fields_placed : (k d r p o s : ℕ) → k < 3 → d < 2 → r < 2 → p < 64 → o < 128 →
    (kind_in (placed k d r p o s) ≡ k) × (dirty_in (placed k d r p o s) ≡ d) × (removed_in (placed k d r p o s) ≡ r) ×
    (parent_in (placed k d r p o s) ≡ p) × (opens_in (placed k d r p o s) ≡ o) × (size_in (placed k d r p o s) ≡ s)
fields_placed k d r p o s kind dirty removed parent opens =
    (omega arith, omega arith, omega arith, omega arith, omega arith, omega arith)

-- and no bit outside them is set
pub outside_placed : (k d r p o s : ℕ) → k < 3 → d < 2 → r < 2 → p < 64 → o < 128 →
    (placed k d r p o s / 16 % 16 ≡ 0) × (placed k d r p o s / 16384 % 4 ≡ 0) × (placed k d r p o s / 8388608 % 512 ≡ 0)
outside_placed k d r p o s kind dirty removed parent opens = (omega arith, omega arith, omega arith)

-- a mark is its bit
pub bit_is : (b : Bool) → mark_bit b ≡ 1 → b ≡ true
bit_is true e = refl
bit_is false e = absurd (omega (arith, e))

-- a kind comes back from its bits, which are below 3
pub kind_again : (kind : Option Kind) → (kind_of (kind_bits kind) ≡ kind) × (kind_bits kind < 3)
kind_again kind = grind arith

-- bits of a kind that are 1 are a file's, those that are 2 a directory's, and those that are 0 no node's
bits_none : (kind : Option Kind) → kind_bits kind ≡ 0 → kind ≡ None
bits_none kind e = sym (kind_again kind).0 ∙ ap kind_of e

bits_dir : (kind : Option Kind) → kind_bits kind ≡ 2 → kind ≡ Some Dir
bits_dir kind e = sym (kind_again kind).0 ∙ ap kind_of e

-- the bits of a kind
file_bits : (kind : Option Kind) → kind ≡ Some File → kind_bits kind ≡ 1
file_bits kind e = ap kind_bits e

-- a node's fields come back from its word, one by one
pub fields_again : (node : NodeWord) → node.parent < 64 → node.opens < 128 → node_of (word_of node) ≡ node
fields_again node parent opens = grind arith

-- the word of a node that a word can say is that of some node
lawful_plain : (node : NodeWord) → IsLawful node → IsPlain (word_of node)
lawful_plain node h =
    let few : node.opens < 128 = omega (arith, h.few) in
    let f = fields_placed (kind_bits node.kind) (mark_bit node.dirty) (mark_bit node.removed) node.parent node.opens node.size
    (kind_again node.kind).1 (mark_below node.dirty) (mark_below node.removed) h.parent few in
    let o = outside_placed (kind_bits node.kind) (mark_bit node.dirty) (mark_bit node.removed) node.parent node.opens node.size
    (kind_again node.kind).1 (mark_below node.dirty) (mark_below node.removed) h.parent few in
    record {
      kind = omega (arith, f.0, (kind_again node.kind).1);
      low = o.0;
      gap = o.1;
      high = o.2;
      free = λ e.
          let none : node.kind ≡ None = bits_none node.kind (sym f.0 ∙ e) in
          let z = h.free none in
          omega (arith, ap kind_bits none, ap mark_bit z.0, z.1, z.2, z.3, ap mark_bit z.4);
      few = omega (arith, f.4, h.few);
      closed = λ e. f.4 ∙ h.closed (bits_dir node.kind (sym f.0 ∙ e));
      marked = λ e.
          let m = h.marked (bit_is node.removed (sym f.2 ∙ e)) in
          (f.0 ∙ file_bits node.kind m.0, f.1 ∙ ap mark_bit m.1, omega (arith, f.4, m.2));
    }

-- and fits, where its size does
pub lawful_packed : (node : NodeWord) → IsLawful node → node.size < 4294967296 → IsPacked (word_of node)
lawful_packed node h size =
    let few : node.opens < 128 = omega (arith, h.few) in
    let f = fields_placed (kind_bits node.kind) (mark_bit node.dirty) (mark_bit node.removed) node.parent node.opens node.size
    (kind_again node.kind).1 (mark_below node.dirty) (mark_below node.removed) h.parent few in
    let p = lawful_plain node h in
    record {
      kind = p.kind;
      low = p.low;
      gap = p.gap;
      high = p.high;
      size = omega (arith, f.5, size);
      free = p.free;
      few = p.few;
      closed = p.closed;
      marked = p.marked;
    }

-- a node that a word can say comes back from its word
pub node_returns : (node : NodeWord) → IsLawful node → unpacked (word_of node) ≡ Some node
node_returns node h = plain_unpacks (word_of node) (lawful_plain node h) ∙ ap Some (fields_again node h.parent (omega (arith, h.few)))

-- two bits that aren't 3 come back from their kind
pub kind_back : (k : ℕ) → k < 3 → kind_bits (kind_of k) ≡ k
kind_back zero h = refl
kind_back (suc zero) h = refl
kind_back (suc (suc zero)) h = refl
kind_back (suc (suc (suc k))) h = absurd (omega arith)

-- bits of no kind are 0
pub no_kind : (k : ℕ) → k < 3 → kind_of k ≡ None → k ≡ 0
no_kind k h e = sym (kind_back k h) ∙ ap kind_bits e

-- a bit comes back from its mark
pub bit_back : (d : ℕ) → d < 2 → mark_bit (d == 1) ≡ d
bit_back zero h = refl
bit_back (suc zero) h = refl
bit_back (suc (suc d)) h = absurd (omega arith)

-- the word of some node comes back from the node of its fields, which is one that a word can say
pub word_returns : (word : ℕ) → IsPacked word → IsLawful (node_of word) × (word_of (node_of word) ≡ word)
word_returns word h =
    let k : kind_bits (kind_of (kind_in word)) ≡ kind_in word = kind_back (kind_in word) h.kind in
    let d : mark_bit (dirty_in word == 1) ≡ dirty_in word = bit_back (dirty_in word) (omega arith) in
    let r : mark_bit (removed_in word == 1) ≡ removed_in word = bit_back (removed_in word) (omega arith) in (
      record {
        parent = omega arith;
        free = λ e.
            let z : word ≡ 0 = h.free (no_kind (kind_in word) h.kind e) in
            ((λ j. z j / 4 % 2 == 1), (λ j. z j / 256 % 64), (λ j. z j / 4294967296), (λ j. z j / 65536 % 128), (λ j. z j / 8 % 2 == 1));
        few = h.few;
        closed = λ e. h.closed (sym k ∙ ap kind_bits e);
        marked = λ e.
            let m = h.marked (sym r ∙ ap mark_bit e) in
            (ap kind_of m.0, ap (λ x. x == 1) m.1, m.2);
      },
      omega (arith, k, d, r, h.low, h.gap, h.high),
    )

-- what a word of 64 bits unpacks to is a node that a word can say, the node of its fields, and has that word
pub unpacked_returns : (word : ℕ) (node : NodeWord) → word < 18446744073709551616 → unpacked word ≡ Some node →
    IsPacked word × (node ≡ node_of word) × IsLawful node × (word_of node ≡ word)
unpacked_returns word node lt e =
    let h : IsPacked word = unpacks_packed word node lt e in
    let same : node_of word ≡ node = cc (packed_unpacks word h, e) in
    let back : IsLawful node × (word_of node ≡ word) = subst (λ n. IsLawful n × (word_of n ≡ word)) same (word_returns word h) in
    (h, sym same, back.0, back.1)

-- and so of what it unpacks to, if it does
pub node_back : (word : ℕ) (r : Option NodeWord) → word < 18446744073709551616 → r ≡ unpacked word →
    IfSome r (λ node. IsLawful node × (word_of node ≡ word))
node_back word None lt e = tt
node_back word (Some node) lt e = let p = unpacked_returns word node lt (sym e) in (p.2, p.3)

-- what is made of something that may be missing is missing with it
mapped : {A B : Type 0} (to : A → B) (missing : Bool) (a : A) →
    option_map to (if missing then None else Some a) ≡ (if missing then None else Some (to a))
mapped to true a = refl
mapped to false a = refl

-- what a word shows is the node of its fields, as the model has it
pub fields_shown : (word : ℕ) → info_of (node_of word) ≡ node_shown word
fields_shown word =
    mapped (λ kind. record {
      kind = kind;
      parent = parent_in word;
      size = size_in word;
      dirty = dirty_in word == 1;
      removed = removed_in word == 1;
    })
    (kind_in word == 0) (if kind_in word == 1 then File else Dir)
