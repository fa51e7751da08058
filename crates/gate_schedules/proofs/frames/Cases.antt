-- A test that is done, with what it tells.
use Rattle.gate_schedules.proofs.Prelude.{Bool, false, refl, true, ◌≡◌}

pub both : (b : Bool) (P : Bool → Type 0) → (b ≡ true → P true) → (b ≡ false → P false) → P b
both true P first second = first refl
both false P first second = second refl
