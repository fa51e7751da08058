-- Phases that stand for one another: all that the invariant reads of the one it reads of the other. So an operation that goes through the
-- phases of another, as a part of its own, needs no second proof of its steps.
use Rattle.std.specs.Prelude.{Bool, List, None, Option, ℕ, ◌≡◌}
use Rattle.{cpu_words.specs.gate_counts.Levels.LevelRole, finite_sums.specs.Sums.update}
use Rattle.{freeze_laws.specs.{levels.Roles.SyncRole, stages.Roles.StageRole}, freeze_levels.specs.holder_laws.Roles.HolderRole}
use Rattle.{gated_tree.specs.Roles.Role as TreeRole, mount_counts.specs.Roles.Role}
use Rattle.gate_world.specs.{Fits.file_of, Levels.{inside, level_role_of, sync_role_of}, Rules.{holder_role_of, owns, remounts, role_of}}
use Rattle.gate_world.specs.{Rules.stage_role_of, Trees.tree_role_of, Worlds.World, declared.{views.{Traced.Traced, View.View}, work.Phase.Phase}}

-- all that the invariant and the shown state read of what a task is at
pub record Roles : Type 0 where
  -- what it is doing at each mount
  pub mount : ℕ → Role
  -- at the counts of each level
  pub count : ℕ → LevelRole
  -- and at its rcu_sync
  pub sync : ℕ → SyncRole
  -- 1 inside a read-side section
  pub inside : ℕ
  -- what it is doing with the stage
  pub stage : StageRole
  -- with those who hold a freeze
  pub holder : HolderRole
  -- and at the tree, after these steps of its operation
  pub tree : List Traced → TreeRole
  -- 1 between the lock of `umount` and its release
  pub owns : ℕ
  -- 1 while it has `remount` set
  pub remounts : ℕ
  -- the file that it relies on its task to have open, or not to have open
  pub file : Option (ℕ × Bool)

-- these of what a task is at
abbrev pub roles_of : Option Phase → Roles
roles_of p = record {
  mount = λ m. role_of m p;
  count = λ i. level_role_of i p;
  sync = λ i. sync_role_of i p;
  inside = inside p;
  stage = stage_role_of p;
  holder = holder_role_of p;
  tree = λ trace. tree_role_of trace p;
  owns = owns p;
  remounts = remounts p;
  file = file_of p;
}

-- who has a part in nothing
abbrev pub no_roles : Roles
no_roles = roles_of None

-- all that the invariant and the shown state read of a phase, but for the accesses that it asks for, is the same of both
abbrev pub SameRoles : Option Phase → Option Phase → Type 0
SameRoles p q = roles_of q ≡ roles_of p

-- and these roles but for what is done at the tree, and for the file that is relied on
abbrev pub off_tree : Roles → Roles
off_tree r = record r { tree = no_roles.tree; file = None }

-- so it is but for these two
abbrev pub SameRolesOffTree : Option Phase → Option Phase → Type 0
SameRolesOffTree p q = off_tree (roles_of q) ≡ off_tree (roles_of p)

-- the view of a task that stands at this phase
abbrev pub at_phase : View → Option Phase → View
at_phase v q = record v { phase = q }

-- the state in which a task stands at this phase
abbrev pub rephased : World → ℕ → Option Phase → World
rephased w t q = record { words = w.words; views = update w.views t (at_phase (w.views t) q) }
