-- What calls leave of a task's numbers, and of whether they have frozen.
use Rattle.std.specs.Prelude.{◌≡◌, ◌≤◌, [], ◌∷◌, length}
use Rattle.vfs_gates.specs.{Frozen.{NeverFreezes}, Seating.{DealtNumbers}, TaskStates.{SeatedTask, IsIdle, own_number, spare_of}}

-- calls of its own leave a task its number, and the others that it has to give
pub record KeepsNumbers (first last : SeatedTask) : Type 0 where
  pub config : last.config ≡ first.config
  pub own : own_number last.items ≡ own_number first.items
  pub spare : spare_of last.items ≡ spare_of first.items
  pub idle : IsIdle first → IsIdle last
  pub there : 1 ≤ length first.items → 1 ≤ length last.items

-- none of these numbers has frozen or thawed
abbrev pub HaveNotFrozen : DealtNumbers → Type 0
HaveNotFrozen [] = Unit {0}
HaveNotFrozen (x ∷ xs) = NeverFreezes x.view.actions × HaveNotFrozen xs

-- such calls, and none of them freezes or thaws
pub record FreezesNothing (first last : SeatedTask) : Type 0 where
  pub numbers : KeepsNumbers first last
  pub none : HaveNotFrozen first.items → HaveNotFrozen last.items
