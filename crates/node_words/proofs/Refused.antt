-- Why a look at a node is refused.
use Rattle.access_model.specs.declared.{actions.Kind.{Kind, TheVariants.{Dir, File}}, errors.GateError.GateError}
use Rattle.access_model.specs.declared.errors.GateError.TheVariants.{IsDir, NoEntry, NotDir}
use Rattle.std.proofs.Common.{Bool, Err, None, Ok, Option, Result, Some, ap, arith, inl, inr, is_some, option_map, refl, sym, true, ℕ, ◌<◌, ◌==◌}
use Rattle.std.proofs.{Common.{◌||◌, ◌∙◌, ◌≡◌, ◌⊎◌}, lemmas.{Bool.{Decides.eqb_tells, cases_Bool, eq-eqb}, Grind.common_steps}}
use Rattle.node_words.{proofs.Packing.{kind_back, no_kind}, specs.Nodes.{as_directory, as_file, directory_in, file_in, kind_bits, kind_in, kind_of}}
use Rattle.node_words.specs.{Nodes.{node_of, removed_in, unpacked}, declared.nodes.NodeWord.NodeWord}

-- what an unpacked word says of its kind: it is not 3, and a word of kind 0 is 0
kinds : (word : ℕ) → unpacked word ≡ Some (node_of word) → (kind_in word < 3) × (kind_in word ≡ 0 → word ≡ 0)
kinds word e = grind arith

-- what was made of a word that may be no node's was made of the node of its fields
read_node : (f : NodeWord → Result NodeWord GateError) (word : ℕ) (r : Result NodeWord GateError) → option_map f (unpacked word) ≡ Some r →
    (unpacked word ≡ Some (node_of word)) × (f (node_of word) ≡ r)
read_node f word r e = grind arith

-- what a file of a kind is refused for
refused_as : (node : NodeWord) (removed : Bool) (kind : Option Kind) (refusal : GateError) → as_file node removed kind ≡ Err refusal →
    ((refusal ≡ NoEntry) × ((kind ≡ None) ⊎ (removed ≡ true))) ⊎ ((refusal ≡ IsDir) × (kind ≡ Some Dir))
refused_as node removed kind refusal e = grind arith

-- the kind of two bits that aren't 3 tells them
free_bits : (k : ℕ) → k < 3 → kind_of k ≡ None → k ≡ 0
free_bits k h e = no_kind k h e

dir_bits : (k : ℕ) → k < 3 → kind_of k ≡ Some Dir → k ≡ 2
dir_bits k h e = sym (kind_back k h) ∙ ap kind_bits e

-- a file that is refused is free or removed, or a directory
pub file_refused : (word : ℕ) (refusal : GateError) → file_in word ≡ Some (Err refusal) →
    ((refusal ≡ NoEntry) × ((word == 0 || removed_in word == 1) ≡ true)) ⊎ ((refusal ≡ IsDir) × (kind_in word ≡ 2))
file_refused word refusal e =
    let h = read_node (λ node. as_file node node.removed node.kind) word (Err refusal) e in
    let k = kinds word h.0 in
    elim (refused_as (node_of word) (node_of word).removed (kind_of (kind_in word)) refusal h.1) [
      | inl gone ↦ elim gone.1 [
        | inl free ↦
            let zero_is : word ≡ 0 = k.1 (free_bits (kind_in word) k.0 free) in
            inl (gone.0, rw (eq-eqb word 0 zero_is) refl)
        | inr removed ↦
            let either : (word == 0 || true) ≡ true = elim (cases_Bool (word == 0)) [ inl z ↦ rw z refl | inr z ↦ rw z refl ] in
            inl (gone.0, rw removed either)
      ]
      | inr dir ↦ inr (dir.0, dir_bits (kind_in word) k.0 dir.1)
    ]

-- a directory that is refused is free, or a file
pub directory_refused : (word : ℕ) (refusal : GateError) → directory_in word ≡ Some (Err refusal) →
    ((refusal ≡ NoEntry) × (word ≡ 0)) ⊎ ((refusal ≡ NotDir) × (kind_in word ≡ 1))
directory_refused word refusal e =
    let h = read_node (λ node. as_directory node node.kind) word (Err refusal) e in
    let k = kinds word h.0 in
    elim (eqb_tells (kind_in word) 0) [
      | inl free ↦
          let is : as_directory (node_of word) None ≡ Err refusal = ap (λ x. as_directory (node_of word) (kind_of x)) (sym free.1) ∙ h.1 in
          inl (cc, k.1 free.1)
      | inr there ↦ elim (eqb_tells (kind_in word) 1) [
        | inl file ↦
            let is : as_directory (node_of word) (Some File) ≡ Err refusal =
            ap (λ x. as_directory (node_of word) (kind_of x)) (sym file.1) ∙ h.1 in
            inr (cc, file.1)
        | inr other ↦
            let two : kind_in word ≡ 2 = omega (arith, k.0, there.1, other.1) in
            let is : as_directory (node_of word) (Some Dir) ≡ Err refusal =
            ap (λ x. as_directory (node_of word) (kind_of x)) (sym two) ∙ h.1 in
            absurd cc
      ]
    ]

-- a node that was found taken isn't free
pub taken_some : (word : ℕ) (node : NodeWord) → unpacked word ≡ Some node → is_some node.kind ≡ true → word ≡ 0 → ⊥
taken_some word node e taken none = grind arith

-- a file that was loaded is the node of the word's fields
pub size_loaded : (word : ℕ) (file : NodeWord) → file_in word ≡ Some (Ok file) → node_of word ≡ file
size_loaded word file e = grind (arith, common_steps)
