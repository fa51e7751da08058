-- A gate is there where its count word is, and its counts are summed.
use Rattle.vfs_gates.proofs.Prelude.{Config, Gate, IsWithin, Level, Mount, ap, arith, sym, total, ℕ, ◌%◌, ◌+◌, ◌<◌, ◌∙◌, ◌≡◌}
use Rattle.std.proofs.Common.{add-one}
use Rattle.{cpu_words.specs.Names.IsWord, gate_world.specs.Configs.{extents_kept, extents_of}}
use Rattle.vfs_gates.specs.Sums.{IsGate, count_word}

some_processor : (c : Config) → IsWithin c → 0 < c.processors
some_processor c within = let some = within.some_processor in omega arith

pub has_count : (c : Config) → IsWithin c → (g : Gate) → IsGate c g → IsWord (extents_of c) (count_word g 0)
has_count c within (Mount m) h = (h, some_processor c within)
has_count c within (Level i) h = (h.0, h.1, some_processor c within)

pub is_gate : (c : Config) (g : Gate) → IsWord (extents_of c) (count_word g 0) → IsGate c g
is_gate c (Mount m) h = h.0
is_gate c (Level i) h = (h.0, h.1)

-- and there it is on each processor
pub counts_on : (c : Config) (g : Gate) → IsWord (extents_of c) (count_word g 0) → (p : ℕ) → p < c.processors →
    IsWord (extents_kept c) (count_word g p)
counts_on c (Mount m) h p lt = (h.0, lt)
counts_on c (Level i) h p lt = (h.0, h.1, lt)

wraps : (sum before count here : ℕ) → sum ≡ before % 18446744073709551616 → count ≡ here →
    (sum + count) % 18446744073709551616 ≡ (before + here) % 18446744073709551616
wraps sum before count here is same = omega arith

-- the wrapping sum of one count more
pub counts_one_more : (count : ℕ → ℕ) (p sum found : ℕ) → sum ≡ total p count % 18446744073709551616 → found ≡ count p →
    (sum + found) % 18446744073709551616 ≡ total (p + 1) count % 18446744073709551616
counts_one_more count p sum found is same =
    wraps sum (total p count) found (count p) is same ∙ ap (λ n. total n count % 18446744073709551616) (sym (add-one p))
