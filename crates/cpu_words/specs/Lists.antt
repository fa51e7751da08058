-- All words in one list, each at an index that its place gives.
use Rattle.std.specs.Prelude.{List, length, slice_index, ℕ, ◌≡◌, ◌≤◌}
use Rattle.cpu_words.specs.{Names.{Extents, IsWord, largest, place}, Words.{Words, read}, declared.names.WordName.{TheVariants.Node, WordName}}

-- there are no more of each than there may be
pub record AreFew (e : Extents) : Type 0 where
  pub tasks : e.tasks ≤ largest.tasks
  pub processors : e.processors ≤ largest.processors
  pub mounts : e.mounts ≤ largest.mounts
  pub nodes : e.nodes ≤ largest.nodes

-- the list has each word that there is, at the index of its place
abbrev pub ListShows : (ℕ → ℕ) → Extents → List ℕ → Words → Type 0
ListShows index e xs w = (name : WordName) → IsWord e name → slice_index xs (index (place name)) ≡ read w name

-- All words as they begin, in a list of this length: 0, but for the root's, which is a directory.
pub record AreOpening (index : ℕ → ℕ) (size : ℕ) (xs : List ℕ) : Type 0 where
  pub long : length xs ≡ size
  pub root : slice_index xs (index (place (Node 0))) ≡ 2
  pub zeros : (i : ℕ) → (i ≡ index (place (Node 0)) → ⊥) → slice_index xs i ≡ 0
