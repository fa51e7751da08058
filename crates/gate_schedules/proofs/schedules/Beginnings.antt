-- What it means that an operation may begin.
use Rattle.gate_schedules.proofs.Prelude.{Bool, Config, Err, Fits, GateError, Holdings, None, Ok, Op, Option, Result, Some, ap, cases_Bool, false}
use Rattle.gate_schedules.proofs.Prelude.{if◌then◌else◌, inl, inr, is_some, refl, sym, true, true≢false, ℕ, ◌≡◌}
use Rattle.gate_schedules.proofs.operations.AllOperations.{op_keeps}
use Rattle.gate_world.specs.{Beginnings.{first_phase, is_in_order, is_in_range, is_within_room, or_refusal, refusal}, Holdings.Agree}

-- nothing else is under way, its numbers are in range, and the task holds what it may
pub record MayBegin (c : Config) (under_way : Bool) (held : Holdings) (op : Op) : Type 0 where
  pub idle : under_way ≡ false
  pub range : is_in_range c op ≡ true
  pub order : is_in_order c held op ≡ true
  pub room : is_within_room held op ≡ true

not_some : {A : Type 0} (x : A) {B : Type 0} → Some x ≡ None → B
not_some x h = absurd (true≢false (ap is_some h))

-- what isn't refused may begin
pub may_begin : (c : Config) (under_way : Bool) (held : Holdings) (op : Op) →
    refusal c under_way held op ≡ None → MayBegin c under_way held op
may_begin c true held op h = not_some GateError.Order h
may_begin c false held op h =
    elim (cases_Bool (is_in_range c op)) [
      | inl b ↦ elim (cases_Bool (is_in_order c held op)) [
        | inl d ↦ elim (cases_Bool (is_within_room held op)) [
          | inl e ↦ record { idle = refl; range = b; order = d; room = e }
          | inr e ↦ not_some GateError.TooMany (rw (b, d, e) at h)
        ]
        | inr d ↦ not_some GateError.Order (rw (b, d) at h)
      ]
      | inr b ↦ not_some GateError.Invalid (rw b at h)
    ]

pub first_fits : (c : Config) (t : ℕ) (under_way : Bool) (held : Holdings) (op : Op) →
    MayBegin c under_way held op → Fits c t held (Some (first_phase c t op))
first_fits c t under_way held op may = (op_keeps c op).fits t held may.range may.order may.room

-- why an operation can't begin is the same of holdings that agree
pub refusal_agree : (c : Config) (held seen : Holdings) → Agree c held seen → (under_way : Bool) (op : Op) →
    refusal c under_way held op ≡ refusal c under_way seen op
refusal_agree c held seen same true op = refl
refusal_agree c held seen same false op =
    elim (cases_Bool (is_in_range c op)) [
      | inl there ↦ rw there
          (λ i. if (op_keeps c op).order_agrees held seen same there i
          then (if (op_keeps c op).room_agrees held seen same there i then None else Some GateError.TooMany)
          else Some GateError.Order)
      | inr there ↦ rw there refl
    ]

-- what a beginning's answer says of the refusal: there was none, and the phase is the first
pub ok_means : {A : Type 0} (x : A) (r : Option GateError) (y : A) → Ok y ≡ or_refusal x r → (r ≡ None) × (y ≡ x)
ok_means x None y e = (refl, (let same : Ok y ≡ Ok x = e in cc))
ok_means {A} x (Some refused) y e = absurd (let same : ◌≡◌ {A = Result A GateError} (Ok y) (Err refused) = e in let no : ⊥ = cc in no)

pub err_means : {A : Type 0} (x : A) (r : Option GateError) (refused : GateError) →
    ◌≡◌ {A = Result A GateError} (Err refused) (or_refusal x r) → r ≡ Some refused
err_means {A} x None refused e = absurd (let same : ◌≡◌ {A = Result A GateError} (Err refused) (Ok x) = e in let no : ⊥ = cc in no)
err_means {A} x (Some other) refused e = let same : ◌≡◌ {A = Result A GateError} (Err refused) (Err other) = e in let is : refused ≡ other =
    cc in ap (λ y. Some y) (sym is)
