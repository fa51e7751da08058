-- What the words of nodes say and show: of a node that a call makes, and of one that it loaded.
use Rattle.access_model.specs.{States.{IsDirectory, is_dirty, is_removed}, declared.actions.Kind.{Kind, TheVariants.{Dir, File}}}
use Rattle.std.proofs.Common.{Bool, None, Ok, Option, Some, ap, arith, false, option_map, refl, sym, true, ℕ, ◌<◌, ◌==◌, ◌∙◌, ◌≡◌, ◌≤◌}
use Rattle.node_words.proofs.Packing.{fields_again, fields_placed, fields_shown, lawful_packed, packed_unpacks}
use Rattle.node_words.specs.Nodes.{IsLawful, IsNode, IsPacked, any_file_in, as_any_file, as_file, directory_in, dirty_in, file_in, info_of, kind_in}
use Rattle.node_words.specs.{Nodes.{kind_of, new_node, node_of, node_shown, opens_in, removed_in, word_of}, declared.nodes.NodeWord.NodeWord}

-- a node whose parent and count fit their bits comes back from its word
pub node_again : (node : NodeWord) → node.parent < 64 → node.opens ≤ 64 → node_of (word_of node) ≡ node
node_again node parent opens = fields_again node parent (omega (arith, opens))

-- so its word shows just that node
pub word_shows : (node : NodeWord) → node.parent < 64 → node.opens ≤ 64 → node_shown (word_of node) ≡ info_of node
word_shows node parent opens = sym (fields_shown (word_of node)) ∙ ap info_of (node_again node parent opens)

-- and says how many tasks have it open
pub word_opens : (node : NodeWord) → node.parent < 64 → node.opens ≤ 64 → opens_in (word_of node) ≡ node.opens
word_opens node parent opens = ap (λ (x : NodeWord). x.opens) (node_again node parent opens)

-- the word of a file that a word can say, whose size fits, is a node's
pub lawful_file : (node : NodeWord) → node.kind ≡ Some File → IsLawful node → node.size < 4294967296 → IsNode (word_of node)
lawful_file node file h size = grind arith

-- a file that wasn't removed is one that a word can say
linked_lawful : (node : NodeWord) → node.kind ≡ Some File → node.parent < 64 → node.opens ≤ 64 → node.removed ≡ false → IsLawful node
linked_lawful node file parent opens linked = record {
  parent = parent;
  free = λ e.
      let wrong : Some File ≡ None = sym file ∙ e in
      absurd cc;
  few = opens;
  closed = λ e.
      let wrong : Some File ≡ Some Dir = sym file ∙ e in
      absurd cc;
  marked = λ e.
      let wrong : false ≡ true = sym linked ∙ e in
      absurd cc;
}

-- the word of a file that wasn't removed and whose fields fit is a node's
pub file_is_node : (node : NodeWord) → node.kind ≡ Some File → node.parent < 64 → node.opens ≤ 64 → node.removed ≡ false →
    node.size < 4294967296 → IsNode (word_of node)
file_is_node node file parent opens linked size = lawful_file node file (linked_lawful node file parent opens linked) size

-- the word of a new node is a node's
pub new_is_node : (kind : Kind) (dir : ℕ) → dir < 64 → IsNode (word_of (new_node kind dir))
new_is_node File dir h = file_is_node (new_node File dir) refl h (omega arith) refl (omega arith)
new_is_node Dir dir h =
    let lawful : IsLawful (new_node Dir dir) =
    record {
      parent = h;
      free = λ e. absurd cc;
      few = omega arith;
      closed = λ e. refl;
      marked = λ e. absurd cc;
    } in
    let f = fields_placed 2 0 0 dir 0 0 (omega arith) (omega arith) (omega arith) h (omega arith) in
    record { packed = lawful_packed (new_node Dir dir) lawful (omega arith); plain = λ e. omega (arith, f.1, f.5) }

-- the word of a free node is a node's
pub free_is_node : IsNode 0
free_is_node = record {
  packed = record {
    kind = omega arith;
    low = refl;
    gap = refl;
    high = refl;
    size = omega arith;
    free = λ e. refl;
    few = omega arith;
    closed = λ e. refl;
    marked = λ e. absurd (omega (arith, e));
  };
  plain = λ e. refl;
}

-- the word of the root is a node's
pub root_is_node : IsNode 2
root_is_node = record {
  packed = record {
    kind = omega arith;
    low = refl;
    gap = refl;
    high = refl;
    size = omega arith;
    free = λ e. absurd (omega (arith, e));
    few = omega arith;
    closed = λ e. refl;
    marked = λ e. absurd (omega (arith, e));
  };
  plain = λ e. refl;
}

-- what is there is what it is
some_is : {A : Type 0} (a b : A) → Some a ≡ Some b → a ≡ b
some_is a b e = cc

-- a node that was taken for a file is one, that wasn't removed
as_file_is : (node file : NodeWord) (removed : Bool) (kind : Option Kind) → as_file node removed kind ≡ Ok file →
    (kind ≡ Some File) × (removed ≡ false) × (node ≡ file)
as_file_is node file removed kind e = grind arith

-- a node that was taken for a file, removed or not, is one
as_any_file_is : (node file : NodeWord) (kind : Option Kind) → as_any_file node kind ≡ Ok file → (kind ≡ Some File) × (node ≡ file)
as_any_file_is node file kind e = grind arith

-- what a load found, of a file that is loaded, removed or not
pub record IsLoaded (word : ℕ) (file : NodeWord) : Type 0 where
  pub same : word_of file ≡ word
  pub kind : file.kind ≡ Some File
  pub lawful : IsLawful file
  pub opens : opens_in word ≡ file.opens
  pub removed : (removed_in word == 1) ≡ file.removed

-- the node of the fields of a word, where it is this file
node_loaded : (word : ℕ) (file : NodeWord) → IsPacked word → kind_of (kind_in word) ≡ Some File → node_of word ≡ file → IsLoaded word file
node_loaded word file h kind is = grind arith

-- what a load of a file's node found is the word of that file, which wasn't removed
pub file_loaded : (word : ℕ) (file : NodeWord) → IsPacked word → file_in word ≡ Some (Ok file) → IsLoaded word file × (file.removed ≡ false)
file_loaded word file h e =
    let read : as_file (node_of word) (node_of word).removed (kind_of (kind_in word)) ≡ Ok file =
    some_is _ _ (sym (ap (option_map (λ node. as_file node node.removed node.kind)) (packed_unpacks word h)) ∙ e) in
    let is = as_file_is (node_of word) file (node_of word).removed (kind_of (kind_in word)) read in
    (node_loaded word file h is.0 is.2, sym (ap (λ (node : NodeWord). node.removed) is.2) ∙ is.1)

-- and what a close's load found is the word of that file
pub any_file_loaded : (word : ℕ) (file : NodeWord) → IsPacked word → any_file_in word ≡ Some (Ok file) → IsLoaded word file
any_file_loaded word file h e =
    let read : as_any_file (node_of word) (kind_of (kind_in word)) ≡ Ok file =
    some_is _ _ (sym (ap (option_map (λ node. as_any_file node node.kind)) (packed_unpacks word h)) ∙ e) in
    let is = as_any_file_is (node_of word) file (kind_of (kind_in word)) read in
    node_loaded word file h is.0 is.1

-- what a load of a directory's node found is a directory
pub directory_loaded : (word : ℕ) (dir : NodeWord) → IsPacked word → directory_in word ≡ Some (Ok dir) → IsDirectory (node_shown word)
directory_loaded word dir h e = grind arith

-- a word shows a dirty node just where it has the mark
pub dirty_shown : (word : ℕ) → IsPacked word → is_dirty (node_shown word) ≡ (dirty_in word == 1)
dirty_shown word h = grind arith

-- a word shows a removed file just where it has the mark
pub removed_shown : (word : ℕ) → IsPacked word → is_removed (node_shown word) ≡ (removed_in word == 1)
removed_shown word h = grind arith
