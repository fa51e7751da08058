-- Node words, as numbers: the kind in bits 0 and 1 (0 free, 1 a file, 2 a directory), the dirty mark in bit 2, the removed mark in bit 3, the
-- parent in bits 8 to 13, the number of tasks that have the file open in bits 16 to 22, the size in bits 32 to 63. A free node is the word 0.
use Rattle.std.specs.Prelude.{◌≡◌, ℕ, ◌+◌, ◌-◌, ◌*◌, ◌/◌, ◌%◌, ◌<◌, ◌≤◌, ◌==◌, ◌||◌, ◌&&◌, not, Bool, true, false, nat_lt, if◌then◌else◌, Option, Some, None, option_map, Result, Ok, Err}
use Rattle.access_model.specs.declared.{actions.{Kind.{Kind, TheVariants.{File, Dir}}, NodeInfo.{NodeInfo}}, errors.GateError.{GateError}}
use Rattle.access_model.specs.declared.errors.GateError.TheVariants.{NoEntry, NotDir, IsDir}
use Rattle.node_words.specs.declared.nodes.NodeWord.{NodeWord}

-- the kind of a word: 0 free, 1 a file, 2 a directory
abbrev pub kind_in : ℕ → ℕ
kind_in word = word % 4

-- its dirty mark, 0 or 1
abbrev pub dirty_in : ℕ → ℕ
dirty_in word = word / 4 % 2

-- its removed mark, 0 or 1
abbrev pub removed_in : ℕ → ℕ
removed_in word = word / 8 % 2

-- how many tasks have it open
abbrev pub opens_in : ℕ → ℕ
opens_in word = word / 65536 % 128

-- its parent's number
abbrev pub parent_in : ℕ → ℕ
parent_in word = word / 256 % 64

-- its size in blocks
abbrev pub size_in : ℕ → ℕ
size_in word = word / 4294967296

-- The word of some node: its kind is not 3, no bit outside the fields is set, which are the bits 4 to 7, 14, 15 and 23 to 31, the size fits
-- its bits, and a free node's word is 0. At most 64 tasks have it open, none a directory; and what is removed is a clean file that is open.
pub record IsPacked (word : ℕ) : Type 0 where
  pub kind : kind_in word < 3
  pub low : word / 16 % 16 ≡ 0
  pub gap : word / 16384 % 4 ≡ 0
  pub high : word / 8388608 % 512 ≡ 0
  pub size : size_in word < 4294967296
  pub free : kind_in word ≡ 0 → word ≡ 0
  pub few : opens_in word ≤ 64
  pub closed : kind_in word ≡ 2 → opens_in word ≡ 0
  pub marked : removed_in word ≡ 1 → (kind_in word ≡ 1) × (dirty_in word ≡ 0) × (1 ≤ opens_in word)

-- a word that a node of a tree may have: of the nodes only files have a size or a dirty mark
pub record IsNode (word : ℕ) : Type 0 where
  pub packed : IsPacked word
  pub plain : kind_in word ≡ 2 → dirty_in word + size_in word ≡ 0

-- the word of these fields, each in its place
abbrev pub placed : (kind dirty removed parent opens size : ℕ) → ℕ
placed kind dirty removed parent opens size = kind + (4 * dirty + (8 * removed + (256 * parent + (65536 * opens + 4294967296 * size))))

-- a kind as its bits
abbrev pub kind_bits : Option Kind → ℕ
kind_bits None = 0
kind_bits (Some File) = 1
kind_bits (Some Dir) = 2

-- a mark as its bit
abbrev pub mark_bit : Bool → ℕ
mark_bit dirty = if dirty then 1 else 0

-- the word of a node
abbrev pub word_of : NodeWord → ℕ
word_of node = placed (kind_bits node.kind) (mark_bit node.dirty) (mark_bit node.removed) node.parent node.opens node.size

-- a node that a word can say: its parent fits its bits, a free node says nothing else, at most 64 tasks have it open, none a directory, and
-- what is removed is a clean file that is open
pub record IsLawful (node : NodeWord) : Type 0 where
  pub parent : node.parent < 64
  pub free : node.kind ≡ None →
      (node.dirty ≡ false) × (node.parent ≡ 0) × (node.size ≡ 0) × (node.opens ≡ 0) × (node.removed ≡ false)
  pub few : node.opens ≤ 64
  pub closed : node.kind ≡ Some Dir → node.opens ≡ 0
  pub marked : node.removed ≡ true → (node.kind ≡ Some File) × (node.dirty ≡ false) × (1 ≤ node.opens)

-- the kind of these two bits
abbrev pub kind_of : ℕ → Option Kind
kind_of bits = if bits == 0 then None else Some (if bits == 1 then File else Dir)

-- the node that the fields of a word make
abbrev pub node_of : ℕ → NodeWord
node_of word = record {
  kind = kind_of (kind_in word);
  dirty = dirty_in word == 1;
  removed = removed_in word == 1;
  parent = parent_in word;
  opens = opens_in word;
  size = size_in word;
}

-- these bits are outside the fields, or the kind is 3, or a free node's word isn't 0
abbrev pub is_outside : (kind low gap high word : ℕ) → Bool
is_outside kind low gap high word =
    kind == 3 || (not (low == 0) || (not (gap == 0) || (not (high == 0) || (kind == 0 && not (word == 0)))))

-- more than 64 tasks have it open, or some a directory, or what is removed is no clean file that is open
abbrev pub is_misplaced : (kind dirty removed opens : ℕ) → Bool
is_misplaced kind dirty removed opens =
    nat_lt 64 opens || ((kind == 2 && not (opens == 0)) || (removed == 1 && not (kind == 1 && (dirty == 0 && not (opens == 0)))))

-- the word is no node's
abbrev pub is_stray : ℕ → Bool
is_stray word =
    is_outside (kind_in word) (word / 16 % 16) (word / 16384 % 4) (word / 8388608 % 512) word ||
    is_misplaced (kind_in word) (dirty_in word) (removed_in word) (opens_in word)

-- what a word says: the node of its fields, and nothing where it is no node's
abbrev pub unpacked : ℕ → Option NodeWord
unpacked word = if is_stray word then None else Some (node_of word)

-- a node as the model has it: nothing where it is free
abbrev pub info_of : NodeWord → Option NodeInfo
info_of node = option_map (λ kind. record { kind = kind; parent = node.parent; size = node.size; dirty = node.dirty; removed = node.removed }) node.kind

-- what a word shows of its node: nothing where it is free
abbrev pub node_shown : ℕ → Option NodeInfo
node_shown word =
    if kind_in word == 0 then None else
    Some record {
      kind = (if kind_in word == 1 then File else Dir);
      parent = parent_in word;
      size = size_in word;
      dirty = dirty_in word == 1;
      removed = removed_in word == 1;
    }

-- a new node: empty and clean
abbrev pub new_node : Kind → ℕ → NodeWord
new_node kind dir = record { kind = Some kind; dirty = false; removed = false; parent = dir; opens = 0; size = 0 }

-- a file with so many blocks more, which makes it dirty; a call grows it so only where the sum fits the bits of a size
abbrev pub grown_node : ℕ → NodeWord → NodeWord
grown_node blocks file = record file { dirty = true; size = (file.size + blocks) % 4294967296 }

-- a file with another parent
abbrev pub moved_node : ℕ → NodeWord → NodeWord
moved_node dir file = record file { parent = dir }

-- a file with its dirty mark set or cleared
abbrev pub marked_node : Bool → NodeWord → NodeWord
marked_node dirty file = record file { dirty = dirty }

-- a file that one more task has open; a call opens it only where fewer than 64 have
abbrev pub opened_node : NodeWord → NodeWord
opened_node file = record file { opens = (file.opens + 1) % 256 }

-- a file that one task less has open; a call closes it only where some task has it open
abbrev pub closed_node : NodeWord → NodeWord
closed_node file = record file { opens = file.opens - 1 }

-- a file that was removed while some task has it open
abbrev pub unlinked_node : NodeWord → NodeWord
unlinked_node file = record file { dirty = false; removed = true }

-- a node that a call needs to be a file that wasn't removed, by its mark and its kind
abbrev pub as_file : NodeWord → Bool → Option Kind → Result NodeWord GateError
as_file node removed None = Err NoEntry
as_file node true (Some File) = Err NoEntry
as_file node false (Some File) = Ok node
as_file node removed (Some Dir) = Err IsDir

-- a node that a close needs to be a file, removed or not, by its kind
abbrev pub as_any_file : NodeWord → Option Kind → Result NodeWord GateError
as_any_file node None = Err NoEntry
as_any_file node (Some File) = Ok node
as_any_file node (Some Dir) = Err IsDir

-- a node that a call needs to be a directory, by its kind
abbrev pub as_directory : NodeWord → Option Kind → Result NodeWord GateError
as_directory node None = Err NoEntry
as_directory node (Some File) = Err NotDir
as_directory node (Some Dir) = Ok node

-- the file of a word, or why a call refuses it; nothing where the word is no node's
abbrev pub file_in : ℕ → Option (Result NodeWord GateError)
file_in word = option_map (λ node. as_file node node.removed node.kind) (unpacked word)

-- the same of a file that may be removed
abbrev pub any_file_in : ℕ → Option (Result NodeWord GateError)
any_file_in word = option_map (λ node. as_any_file node node.kind) (unpacked word)

-- the directory of a word, or why a call refuses it; nothing where the word is no node's
abbrev pub directory_in : ℕ → Option (Result NodeWord GateError)
directory_in word = option_map (λ node. as_directory node node.kind) (unpacked word)

-- the next of so many nodes, if there is one
abbrev pub node_after : ℕ → ℕ → Option ℕ
node_after node nodes = if nat_lt (node + 1) nodes then Some (node + 1) else None
