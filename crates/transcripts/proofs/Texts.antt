-- Texts of 0, 1, .. n - 1, and what words print.
use Rattle.std.proofs.Common.{◌≡◌, ℕ, zero, suc, ◌+◌, ◌<◌, ◌≤◌, refl, sym, ap, ap₂, ◌∙◌, List, [], ◌∷◌, ◌++◌, map, append_assoc, append-nil, add-one, arith}
use Rattle.std.proofs.lemmas.{Grind.{flat_map-append}, List.{flat_map_more}}
use Rattle.std.proofs.lemmas.List.Elements.{All-from_recursion, All-nil, All-cons, All-head, All-tail, All-append, All-push, All-weaker, All-map}
use Rattle.std.proofs.lemmas.List.Folds.{flat_map-map}
use Rattle.std.specs.{Prelude.{Option}, List.{All, flat_map}}
use Rattle.cpu_words.specs.declared.names.WordName.{WordName}
use Rattle.cpu_words.specs.declared.names.WordName.TheVariants.{MountFlags, MountCount, Block, Sync, LevelCount, Section, Used, Node, Kids}
use Rattle.cpu_words.specs.Names.{IsWord}
use Rattle.gate_world.specs.{Configs.{extents_of}, declared.config.Config.{Config}}
use Rattle.schedule_lines.specs.{declared.output.Output.{Output}, Printed.{Prints}}
use Rattle.schedule_lines.proofs.Printed.{prints_both, prints_same}
use Rattle.transcripts.specs.Transcript.{ReplayState, count_up, word_text, texts_of, words_of_all, mount_words, level_words, printed_words, printed_tree_words, word_in, words_text, tree_words_text}

-- the texts of one number more
pub one_more : (f : ℕ → List ℕ) {old now new : Output} (i : ℕ) → Prints old now (flat_map f (count_up i)) → Prints now new (f i) →
    Prints old new (flat_map f (count_up (i + 1)))
one_more f i so_far more =
    prints_same (prints_both so_far more)
    (flat_map_more f [] (count_up i) i ∙ ap (λ (n : ℕ). flat_map f (count_up n)) (sym (add-one i)))

-- the counts of all processors
counts : (f : WordName → List ℕ) (g : ℕ → WordName) {old new : Output} (i n : ℕ) →
    Prints old new (flat_map (λ k. f (g k)) (count_up i)) → i ≡ n → Prints old new (flat_map f (map g (count_up n)))
counts f g i n a e =
    prints_same a (ap (λ (j : ℕ). flat_map (λ k. f (g k)) (count_up j)) e ∙ sym (flat_map-map f g (count_up n)))

-- one word, and then the counts of all processors
pub one_and_counts : (f : WordName → List ℕ) (g : ℕ → WordName) {old now new : Output} {first : List ℕ} (i n : ℕ) →
    Prints old now first → Prints now new (flat_map (λ k. f (g k)) (count_up i)) → i ≡ n →
    Prints old new (first ++ flat_map f (map g (count_up n)))
one_and_counts f g i n a b e = prints_both a (counts f g i n b e)

-- six texts, one behind the other, as `words` prints them
six : (a b c d e f : List ℕ) → ((((a ++ b) ++ c) ++ d) ++ e) ++ f ≡ ((a ++ b) ++ (c ++ (d ++ (e ++ [])))) ++ f
six a b c d e f = simp (append_assoc, append-nil)

-- the texts of lists of words, one behind the other
texts_flat : (value : WordName → Option ℕ) (names : ℕ → List WordName) (xs : List ℕ) →
    texts_of value (flat_map names xs) ≡ flat_map (λ x. texts_of value (names x)) xs
texts_flat value names [] = refl
texts_flat value names (x ∷ xs) =
    flat_map-append (λ name. word_text name (value name)) (names x) (flat_map names xs)
    ∙ ap (λ l. texts_of value (names x) ++ l) (texts_flat value names xs)

-- the texts of two lists
texts_both : (value : WordName → Option ℕ) (xs ys : List WordName) → texts_of value (xs ++ ys) ≡ texts_of value xs ++ texts_of value ys
texts_both value xs ys = flat_map-append (λ name. word_text name (value name)) xs ys

module _ (value : WordName → Option ℕ) (c : Config) where
  -- a word
  abbrev line : WordName → List ℕ
  line name = word_text name (value name)

  -- the words of all mounts, and of all sections
  abbrev mounts : List ℕ
  mounts = flat_map (λ m. texts_of value (mount_words c m)) (count_up c.mounts)

  abbrev sections : List ℕ
  sections = flat_map (λ t. line (Section t)) (count_up c.tasks)

  -- the words of all nodes, and of their children
  abbrev nodes : List ℕ
  nodes = flat_map (λ n. line (Node n)) (count_up c.nodes)

  abbrev kids : List ℕ
  kids = flat_map (λ n. line (Kids n)) (count_up c.nodes)

  -- the words of a level
  abbrev level : ℕ → List ℕ
  level i = texts_of value (level_words c i)

  -- all words that `words` prints, part by part
  parts : texts_of value (printed_words c)
      ≡ ((texts_of value words_of_all ++ mounts) ++ (level 1 ++ (level 2 ++ (level 3 ++ [])))) ++ sections
  parts =
      let of_mounts = flat_map (mount_words c) (count_up c.mounts) in
      let of_levels = flat_map (level_words c) (1 ∷ 2 ∷ 3 ∷ []) in
      let of_sections = map Section (count_up c.tasks) in
      texts_both value ((words_of_all ++ of_mounts) ++ of_levels) of_sections
      ∙ ap₂ (λ (l m : List ℕ). l ++ m)
      (texts_both value (words_of_all ++ of_mounts) of_levels
      ∙ ap₂ (λ (l m : List ℕ). l ++ m)
      (texts_both value words_of_all of_mounts ∙ ap (λ l. texts_of value words_of_all ++ l) (texts_flat value (mount_words c) (count_up c.mounts)))
      (texts_flat value (level_words c) (1 ∷ 2 ∷ 3 ∷ [])))
      (flat_map-map line Section (count_up c.tasks))

  -- what `words` prints: the words of the whole, the mounts, three levels and the sections
  pub all_words : {o g h i j k n : Output} → Prints o g (texts_of value words_of_all) → Prints g h mounts → Prints h i (level 1) →
      Prints i j (level 2) → Prints j k (level 3) → Prints k n sections → Prints o n (texts_of value (printed_words c))
  all_words pg ph pi pj pk pn =
      prints_same (prints_both (prints_both (prints_both (prints_both (prints_both pg ph) pi) pj) pk) pn)
      (six (texts_of value words_of_all) mounts (level 1) (level 2) (level 3) sections ∙ sym parts)

  -- what `tree` prints: the blocks charged, the nodes and the children
  pub all_tree_words : {o a b d : Output} → Prints o a (line Used) → Prints a b nodes → Prints b d kids →
      Prints o d (texts_of value (printed_tree_words c))
  all_tree_words pa pb pd =
      let of_nodes = map Node (count_up c.nodes) in
      let of_kids = map Kids (count_up c.nodes) in
      let whole : (line Used ++ nodes) ++ kids ≡ ((line Used ++ []) ++ nodes) ++ kids = simp append-nil in
      let split : texts_of value (printed_tree_words c) ≡ ((line Used ++ []) ++ nodes) ++ kids =
      texts_both value ((Used ∷ []) ++ of_nodes) of_kids
      ∙ ap₂ (λ (l m : List ℕ). l ++ m)
      (texts_both value (Used ∷ []) of_nodes ∙ ap (λ l. (line Used ++ []) ++ l) (flat_map-map line Node (count_up c.nodes)))
      (flat_map-map line Kids (count_up c.nodes)) in
      prints_same (prints_both (prints_both pa pb) pd) (whole ∙ sym split)

-- ---- the words that are printed are words of the configuration

-- each of 0, 1, .. n - 1 is below n
counted : (n : ℕ) → All (λ k. k < n) (count_up n)
counted zero = All-nil (λ k. k < 0)
counted (suc n) =
    All-push (λ k. k < suc n) (count_up n) n
    (All-weaker (λ k. k < n) (λ k. k < suc n) (λ k lt. omega arith) (count_up n) (counted n)) (omega arith)

module _ (P : WordName → Type 0) where
  -- words of so many numbers
  all_numbered : (name : ℕ → WordName) (n : ℕ) → ((k : ℕ) → k < n → P (name k)) → All P (map name (count_up n))
  all_numbered name n h = All-map P name (count_up n) (All-weaker (λ k. k < n) (λ k. P (name k)) h (count_up n) (counted n))

  -- lists of words
  all_flat : (names : ℕ → List WordName) (xs : List ℕ) → All (λ x. All P (names x)) xs → All P (flat_map names xs)
  all_flat names [] h = All-nil P
  all_flat names (x ∷ xs) h =
      All-append P (names x) (flat_map names xs) (All-head (λ y. All P (names y)) x xs h)
      (all_flat names xs (All-tail (λ y. All P (names y)) x xs h))

module _ (c : Config) where
  abbrev There : WordName → Type 0
  There = IsWord (extents_of c)

  -- the words of a mount
  mount_there : (m : ℕ) → m < c.mounts → All There (mount_words c m)
  mount_there m lt =
      All-cons There (MountFlags m) (map (MountCount m) (count_up c.processors)) lt
      (all_numbered There (MountCount m) c.processors (λ p less. (lt, less)))

  -- the words of a level
  level_there : (i : ℕ) → 1 ≤ i → i ≤ 3 → All There (level_words c i)
  level_there i low high =
      All-cons There (Block i) (Sync i ∷ map (LevelCount i) (count_up c.processors)) (low, high)
      (All-cons There (Sync i) (map (LevelCount i) (count_up c.processors)) (low, high)
      (all_numbered There (LevelCount i) c.processors (λ p less. (low, high, less))))

  -- the words of the whole
  all_there : All There words_of_all
  all_there = All-from_recursion There words_of_all assumption

  -- all that `words` prints
  pub words_there : All There (printed_words c)
  words_there =
      let of_mounts = flat_map (mount_words c) (count_up c.mounts) in
      let of_levels = flat_map (level_words c) (1 ∷ 2 ∷ 3 ∷ []) in
      let OfLevel : ℕ → Type 0 = λ i. All There (level_words c i) in
      All-append There ((words_of_all ++ of_mounts) ++ of_levels) (map Section (count_up c.tasks))
      (All-append There (words_of_all ++ of_mounts) of_levels
      (All-append There words_of_all of_mounts all_there
      (all_flat There (mount_words c) (count_up c.mounts)
      (All-weaker (λ m. m < c.mounts) (λ m. All There (mount_words c m)) mount_there (count_up c.mounts) (counted c.mounts))))
      (all_flat There (level_words c) (1 ∷ 2 ∷ 3 ∷ [])
      (All-cons OfLevel 1 (2 ∷ 3 ∷ []) (level_there 1 (omega arith) (omega arith))
      (All-cons OfLevel 2 (3 ∷ []) (level_there 2 (omega arith) (omega arith))
      (All-cons OfLevel 3 [] (level_there 3 (omega arith) (omega arith)) (All-nil OfLevel))))))
      (all_numbered There Section c.tasks (λ t less. less))

  -- all that `tree` prints
  pub tree_words_there : All There (printed_tree_words c)
  tree_words_there =
      All-append There ((Used ∷ []) ++ map Node (count_up c.nodes)) (map Kids (count_up c.nodes))
      (All-append There (Used ∷ []) (map Node (count_up c.nodes)) (All-cons There Used [] tt (All-nil There))
      (all_numbered There Node c.nodes (λ n less. less)))
      (all_numbered There Kids c.nodes (λ n less. less))

-- ---- the same words with the same values

same_texts : (value other : WordName → Option ℕ) (names : List WordName) → All (λ name. value name ≡ other name) names →
    texts_of value names ≡ texts_of other names
same_texts value other [] h = refl
same_texts value other (name ∷ names) h =
    ap₂ (λ (l m : List ℕ). l ++ m) (ap (word_text name) (All-head (λ n. value n ≡ other n) name names h))
    (same_texts value other names (All-tail (λ n. value n ≡ other n) name names h))

module _ (value : WordName → Option ℕ) (p : ReplayState)
    (is : (name : WordName) → IsWord (extents_of p.config) name → value name ≡ word_in p name) where
  -- what `words` prints of a play
  pub shown_words : texts_of value (printed_words p.config) ≡ words_text p
  unfolding words_text
  shown_words =
      same_texts value (word_in p) (printed_words p.config)
      (All-weaker (IsWord (extents_of p.config)) (λ name. value name ≡ word_in p name) is (printed_words p.config) (words_there p.config))

  -- what `tree` prints of a play
  pub shown_tree_words : texts_of value (printed_tree_words p.config) ≡ tree_words_text p
  unfolding tree_words_text
  shown_tree_words =
      same_texts value (word_in p) (printed_tree_words p.config)
      (All-weaker (IsWord (extents_of p.config)) (λ name. value name ≡ word_in p name) is (printed_tree_words p.config)
      (tree_words_there p.config))
