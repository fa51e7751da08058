-- The table: after a write of one word it shows the words with that one written.
use Rattle.gate_steps.proofs.Prelude.{Config, IsWithin, List, WordName, [], arith, get_elem?, length, place, some, some-injective, some-ne-none, suc}
use Rattle.gate_steps.proofs.Prelude.{sym, table_index, table_length, zero, ℕ, ◌<◌, ◌∷◌, ◌≡◌}
use Rattle.std.proofs.Common.{slice_index, slice_set}
use Rattle.{cpu_words.{proofs.Places.{place_small, written}, specs.{Names.IsWord, Words.{Words, put}}}, gate_schedules.proofs.frames.Places.are_few}
use Rattle.gate_world.specs.Configs.{extents_kept}
use Rattle.gate_steps.specs.Rules.{TableShows}

-- words lie apart
pub apart : (i j : ℕ) → table_index i ≡ table_index j → i ≡ j
apart i j e = omega arith

module _ (c : Config) (within : IsWithin c) where
  -- each word lies in the table
  pub lies_inside : (name : WordName) → IsWord (extents_kept c) name → table_index (place name) < table_length
  lies_inside name there = omega (arith, place_small (extents_kept c) (are_few c within) name there)

  -- after a write of one word the table shows the words with that one written
  pub table_written : (ws : List ℕ) (w : Words) (name : WordName) (v : ℕ) → length ws ≡ table_length → IsWord (extents_kept c) name →
      TableShows c ws w → TableShows c (slice_set ws (table_index (place name)) v) (put w name v)
  table_written ws w name v long here shows =
      written (extents_kept c) (are_few c within) table_index apart ws w name v (omega (arith, lies_inside name here)) here shows

-- what is read at an index
pub read_at : (ws : List ℕ) (i n : ℕ) → get_elem? ws i ≡ some n → slice_index ws i ≡ n
read_at [] i n e = absurd (some-ne-none n (sym e))
read_at (x ∷ xs) zero n e = some-injective x n e
read_at (x ∷ xs) (suc i) n e = read_at xs i n e
