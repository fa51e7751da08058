-- A law of drivers, of the core: what it tells of a word is its value in the state which it shows.
use Rattle.std.specs.{Prelude.{◌≡◌, ℕ, Bool, true, Option, Some, None, if◌then◌else◌, slice_index}, Cmp.Derive.{both_true}}
use Rattle.std.proofs.{Common.{refl, sym, ap, subst, ◌∙◌}, lemmas.Bool.{lt-ltb, le-leb}, Math.Nat.{le_trans}}
use Rattle.cpu_words.specs.declared.names.{WordName.{WordName}, WordRow.{WordRow}}
use Rattle.cpu_words.specs.declared.names.WordRow.TheVariants.{OfAll, OfMount, CountOfMount, OfLevel, CountOfLevel, OfTask, OfNode}
use Rattle.cpu_words.specs.{Names.{Extents, HasRow, IsWord, row, place}, Words.{read}}
use Rattle.gate_core.specs.{Memory.{Memory}, Drivers.{has_row, core_word, CoreShows}}
use Rattle.gate_world.specs.{Configs.{IsWithin, extents_of, extents_kept}, Worlds.{World}, declared.config.Config.{Config}}

-- the test finds a word that there is
found : (e : Extents) (r : WordRow) → HasRow e r → has_row e r ≡ true
found e (OfAll k) there = refl
found e (OfMount k m) there = lt-ltb m e.mounts there
found e (CountOfMount k m p) there = both_true (lt-ltb m e.mounts there.0) (lt-ltb p e.processors there.1)
found e (OfLevel k i) there = both_true (le-leb 1 i there.0) (le-leb i 3 there.1)
found e (CountOfLevel k i p) there =
    both_true (le-leb 1 i there.0) (both_true (le-leb i 3 there.1) (lt-ltb p e.processors there.2))
found e (OfTask k t) there = lt-ltb t e.tasks there
found e (OfNode k n) there = lt-ltb n e.nodes there

-- a word of a lawful configuration is among those that are kept
kept_too : (c : Config) → IsWithin c → (r : WordRow) → HasRow (extents_of c) r → HasRow (extents_kept c) r
kept_too c within (OfNode k n) there = le_trans there within.nodes
kept_too c within _ there = there

-- so it is of the core
pub core_tells : (core : Memory) (c : Config) (w : World) (name : WordName) → CoreShows core c w → IsWord (extents_of c) name →
    core_word core name ≡ Some (read w.words name)
core_tells core c w name shows there =
    let here : IsWord (extents_of core.config) name = subst (λ (x : Config). IsWord (extents_of x) name) (sym shows.config) there in
    let within : IsWithin core.config = subst IsWithin (sym shows.config) shows.within in
    let some : ℕ → Option ℕ = Some in
    ap (λ (b : Bool). if b then some (slice_index core.words (place name)) else None) (found (extents_of core.config) (row name) here)
    ∙ ap some (shows.world.words name (kept_too core.config within (row name) here))
