-- What a sum in progress is sure to find, at a mount as at a level.
use Rattle.std.specs.Prelude.{ℕ, ◌*◌, ◌+◌, ◌<◌, ◌≡◌, ◌≤◌}
use Rattle.{cpu_words.specs.{Sums.lead, gate_counts.{Gates.unread, Levels.{Summing as SumsLevel, level_as_gate}}}, finite_sums.specs.Sums.total}
use Rattle.gate_world.specs.{Headline.LevelsLead, Levels.{at_level, level_role_of}, Rules.{at_mount, role_of}, Worlds.World}
use Rattle.gate_world.specs.declared.config.Config.{Config}
use Rattle.mount_counts.specs.Roles.{Summing, admitted, hold_bit, mount_as_gate}

-- who seeks an access at a mount, isn't admitted, and has added to word k or a later one
abbrev pub to_come_at_mount : Config → World → ℕ → ℕ → ℕ
to_come_at_mount c w m k = total c.tasks (λ x. unread k (mount_as_gate (at_mount m (w.views x))))

-- and at a level
abbrev pub to_come_at_level : Config → World → ℕ → ℕ → ℕ
to_come_at_level c w i k = total c.tasks (λ x. unread k (level_as_gate (at_level i (w.views x))))

-- While a change or a remount sums a mount's words, from its store of HOLD to its last load: HOLD is set, and what it has read, with the present
-- values of the words to come, is at least what is admitted there, with who seeks an access and has added to a word to come.
abbrev pub MountsLead : Config → World → Type 0
MountsLead c w = (t m read sum : ℕ) → t < c.tasks → m < c.mounts → role_of m (w.views t).phase ≡ Summing read sum →
    (hold_bit (w.words.flags m) ≡ 1) ×
    (total c.tasks (λ x. admitted (at_mount m (w.views x))) + to_come_at_mount c w m read ≤ lead c.processors (w.words.count m) read sum)

-- Both with their bound. Each of 64 tasks holds at most 1,024 accesses and seeks one, and leaves behind at most one at each word read. So a lead,
-- which is a number below 2^64, is far below it: it has not wrapped, and a sum of 0 has found nobody.
pub record SumsLead (c : Config) (w : World) : Type 0 where
  pub levels : LevelsLead c w
  pub mounts : MountsLead c w
  pub level_bound : (t i read sum : ℕ) → t < c.tasks → 1 ≤ i → i ≤ 3 → level_role_of i (w.views t).phase ≡ SumsLevel read sum →
      lead c.processors (w.words.level i) read sum ≤ 65600 + 64 * read + to_come_at_level c w i read
  pub mount_bound : (t m read sum : ℕ) → t < c.tasks → m < c.mounts → role_of m (w.views t).phase ≡ Summing read sum →
      lead c.processors (w.words.count m) read sum ≤ 65600 + 64 * read + to_come_at_mount c w m read
