-- Who holds a freeze.
use Rattle.std.specs.Prelude.{Bool, false, not, ◌&&◌}
use Rattle.access_model.specs.declared.actions.{Holder.{Holder, TheVariants.{Kernel, User}}, Holders.{Holders}}

-- no freeze is held
abbrev pub nobody : Holders
nobody = record { kernel = false; user = false }

-- whether this one holds a freeze
abbrev pub held_by : Holders → Holder → Bool
held_by held Kernel = held.kernel
held_by held User = held.user

-- the same holders, but for this one, who holds a freeze or doesn't
abbrev pub with_holder : Holder → Bool → Holders → Holders
with_holder Kernel holds held = record held { kernel = holds }
with_holder User holds held = record held { user = holds }

-- whether no freeze is held
abbrev pub is_unheld : Holders → Bool
is_unheld held = not held.kernel && not held.user
