-- The laws of the holders.
use Rattle.std.specs.Prelude.{false, ℕ, ◌<◌, ◌≡◌}
use Rattle.access_model.specs.{Holders.is_unheld, declared.actions.Holders.Holders}
use Rattle.freeze_levels.specs.{Holders.holders_in, holder_laws.{Events.{Happens, HolderEvent, HolderMoment, HoldsAt}, Roles.{Apart, Found, between}}}

-- nothing is frozen, and everybody is apart
abbrev pub opening : HolderMoment
opening = record { stage = 0; holders = 0; at = λ t. Apart }

-- each step keeps what holds of the holders
abbrev pub EventsKeep : Type 0
EventsKeep = (tasks t : ℕ) (x x' : HolderMoment) (kind : HolderEvent) → HoldsAt tasks x → t < tasks → Happens tasks t x x' kind →
    HoldsAt tasks x'

-- some freeze is held exactly at stage 4, where no freeze and no thaw is between its two stores
abbrev pub HeldExactly : Type 0
HeldExactly = (tasks : ℕ) (x : HolderMoment) → HoldsAt tasks x →
    ((x.holders ≡ 0 → ⊥) → (x.stage ≡ 4) × ((t : ℕ) → t < tasks → between (x.at t) ≡ 0)) ×
    (x.stage ≡ 4 → ((t : ℕ) → t < tasks → between (x.at t) ≡ 0) → x.holders ≡ 0 → ⊥)

-- Where a task is between its two stores nobody holds a freeze; and who has found some holders finds them there.
abbrev pub RolesTell : Type 0
RolesTell = (tasks t : ℕ) (x : HolderMoment) → HoldsAt tasks x → t < tasks →
    ((between (x.at t) ≡ 1 → (x.holders ≡ 0) × (x.stage ≡ 4)) ×
    ((held : Holders) → x.at t ≡ Found held → (holders_in x.holders ≡ held) × (is_unheld held ≡ false)))
