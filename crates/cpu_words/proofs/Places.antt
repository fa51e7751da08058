-- Each word has a place of its own, at whatever limits: a list that has every word has every word after a write of one.
use Rattle.std.proofs.Common.{List, ap, arith, get_or-set_other, get_or-set_same, inl, inr, length, replicate, slice_set, sym, ℕ, ◌<◌, ◌∙◌, ◌≡◌}
use Rattle.std.proofs.lemmas.{Bool.Decides.eqb_tells, Grind.common_steps}
use Rattle.cpu_words.{proofs.Writes.{read_put_other, read_put_same}, specs.{Lists.{AreFew, AreOpening, ListShows}, Names.{Extents, IsWord, place}}}
use Rattle.cpu_words.specs.{Names.words_in_all, Words.{Words, opening_words, put}, declared.names.WordName.{TheVariants.Node, WordName}}

module _ (e : Extents) (few : AreFew e) where
  -- each word has a place among all
  pub place_small : (name : WordName) → IsWord e name → place name < words_in_all
  place_small name there = grind arith

  -- words that lie at one place are one word
  pub same_name : (name other : WordName) → IsWord e name → IsWord e other → place other ≡ place name → other ≡ name
  same_name name other here there same = grind arith

  -- at indexes that differ where places do
  module _ (index : ℕ → ℕ) (apart : (i j : ℕ) → index i ≡ index j → i ≡ j) where
    -- a list that has these words has the words after a write of one, where the index of that one is written
    pub written : (xs : List ℕ) (w : Words) (name : WordName) (v : ℕ) → index (place name) < length xs → IsWord e name →
        ListShows index e xs w → ListShows index e (slice_set xs (index (place name)) v) (put w name v)
    written xs w name v inside here shows other there =
        elim (eqb_tells (place other) (place name)) [
          | inl same ↦
              rw (same_name name other here there same.1)
              (get_or-set_same xs (index (place name)) v 0 inside ∙ sym (read_put_same w name v))
          | inr differ ↦
              get_or-set_other xs (index (place name)) (index (place other)) v 0 (λ q. differ.1 (apart (place other) (place name) q)) ∙
              (shows other there ∙ sym (read_put_other w v name other (λ q. differ.1 (ap place q))))
        ]

    -- a list of the opening words has them
    pub opening_listed : (size : ℕ) (xs : List ℕ) → AreOpening index size xs → IsWord e (Node 0) → ListShows index e xs opening_words
    opening_listed size xs opens root name there = grind arith

-- zeros in a list of this length, with the root's word written, are all words as they begin
pub opening_from : (index : ℕ → ℕ) (size at : ℕ) (xs : List ℕ) → index (place (Node 0)) < size → at ≡ index (place (Node 0)) →
    xs ≡ replicate size 0 →
    AreOpening index size (slice_set xs at 2)
opening_from index size at xs inside at_is xs_is = grind (arith, common_steps)
