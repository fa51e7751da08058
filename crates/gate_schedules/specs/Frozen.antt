-- What reports itself frozen.
use Rattle.std.specs.Prelude.{false, true, ℕ, ◌<◌, ◌≡◌, ◌≤◌, ◌⊎◌}
use Rattle.gate_world.specs.{Shown.shown, Worlds.World, declared.config.Config.Config}

-- What reports itself frozen has no writer inside: at stage 4 all three levels are passed, so no task is inside one; or the superblock is read-only,
-- so no task holds an access at a mount.
pub record FrozenIsClosed (c : Config) (w : World) : Type 0 where
  pub shut : w.words.stage ≡ 4 → ((shown c w).passed ≡ 3) ⊎ ((shown c w).sb_ro ≡ true)
  pub empty : w.words.stage ≡ 4 → ((t i : ℕ) → t < c.tasks → 1 ≤ i → i ≤ 3 → (shown c w).levels t i ≡ false) ⊎
      ((t m : ℕ) → t < c.tasks → m < c.mounts → (shown c w).mounts t m ≡ 0)
