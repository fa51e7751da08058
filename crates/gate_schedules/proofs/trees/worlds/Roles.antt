-- What the phases of each operation are not at the tree.
use Rattle.gate_schedules.proofs.Prelude.{ClosePhase, FreezeStep, arith, ℕ, ◌≡◌}
use Rattle.{gate_world.specs.Roles.{close_tree_role, freeze_tree_role}, gated_tree.specs.Roles.{cleared, frees, is_bare, words_read}}

-- of a close, but that it frees its node
pub close_apart : (x : ClosePhase) → (cleared (close_tree_role x) ≡ 0) × (is_bare (close_tree_role x) ≡ 0) × (words_read (close_tree_role x) ≡ 0)
close_apart x = grind arith

-- of a freeze, but that it clears marks
pub freeze_apart : (nodes : ℕ) (s : FreezeStep) →
    (is_bare (freeze_tree_role nodes s) ≡ 0) × (words_read (freeze_tree_role nodes s) ≡ 0) × ((n : ℕ) → frees n (freeze_tree_role nodes s) ≡ 0)
freeze_apart nodes s = grind arith
