-- What holds of every role, of the numbers that say how far a freeze has come, and of sums in which at most one place counts.
use Rattle.std.proofs.{Common.{Bool, arith, refl, suc, sym, zero, ℕ, ◌%◌, ◌*◌, ◌+◌, ◌-◌, ◌/◌, ◌<◌, ◌≡◌, ◌≤◌}, lemmas.Bool.{Decides.nat_tests, le-leb}}
use Rattle.std.{proofs.lemmas.Bool.lt-leb, specs.Prelude.{if◌then◌else◌, ◌&&◌, ◌==◌}}
use Rattle.finite_sums.{proofs.Totals.{each_updated, total_at, total_same, total_updated, total_zero, update_off}, specs.Sums.{total, update}}
use Rattle.freeze_laws.specs.stages.Roles.{Freezing, KnowsStage, Place, StageRole, closes, freezes, has_position, is_full, owns, passed_by, passes}
use Rattle.freeze_laws.specs.stages.Roles.{remounts, reopens, sums, under_way, up_to}

pub owns_le : (r : StageRole) → owns r ≤ 1
owns_le r = grind arith

-- only an owner opens levels or has `remount` set
pub owner_only : (r : StageRole) → (reopens r + remounts r ≤ owns r) × (freezes r + reopens r + remounts r ≤ 1)
owner_only r = grind arith

pub up_to_le : (i n : ℕ) → i ≤ n → up_to i n ≡ 1
up_to_le i n h = rw (le-leb i n h) refl

pub up_to_off : (i n : ℕ) → n < i → up_to i n ≡ 0
up_to_off i n h = rw (lt-leb i n h) refl

pub up_to_next : (i n : ℕ) → (i ≡ suc n → ⊥) → up_to i (suc n) ≡ up_to i n
up_to_next i n h = grind (arith, nat_tests)

pub three : (n : ℕ) → n ≤ 3 → up_to 1 n + (up_to 2 n + up_to 3 n) ≡ n
three n h = grind arith

pub closes_le : (i : ℕ) → 1 ≤ i → (r : StageRole) → closes i r ≤ has_position r
closes_le i low r = grind arith

-- a level that is closed is passed, or its sum is still to be 0
pub parts : (i : ℕ) → 1 ≤ i → (r : StageRole) → sums i r + passes i r ≡ closes i r
parts i low r = grind arith

pub reopens_at : (stage sb : ℕ) (r : StageRole) → KnowsStage stage sb r → 0 < reopens r → stage ≡ 0
reopens_at stage sb r k h = grind arith

-- a freeze knows the stage, and passes at most as many levels; nobody passes more than 3
pub passed_three : (stage sb : ℕ) (r : StageRole) → KnowsStage stage sb r → stage * freezes r ≤ 3 → passed_by r ≤ 3
passed_three stage sb r k h = grind arith

pub way_is : (stage : ℕ) → stage ≤ 4 → under_way stage ≡ (stage % 4 + 3) / 4
way_is stage h = grind arith

pub full_is : (stage sb : ℕ) → stage ≤ 4 → sb ≤ 1 → is_full stage sb ≡ stage / 4 - sb
full_is stage sb h k = grind arith

pub passed_test : (b s : ℕ) → b ≤ 1 → (if b == 1 && s == 0 then 1 else 0) ≡ b - s
passed_test b s h = grind (arith, nat_tests)

-- in a sum that is at most 1, a place that counts is the only one
pub other_zero : (n t : ℕ) (f : ℕ → ℕ) → total n f ≤ 1 → t < n → f t ≡ 1 → (x : ℕ) → x < n → (x ≡ t → ⊥) → f x ≡ 0
other_zero n t f le lt one x lx ne =
    let a : total n (update f t 0) + f t ≡ total n f + 0 = total_updated (λ v. v) n t f 0 lt in
    let b : update f t 0 x ≤ total n (update f t 0) = total_at n x (update f t 0) lx in
    omega (arith, le, one, a, b, update_off f t 0 x ne)

-- a sum in which only one place may count
pub total_alone : (n t : ℕ) (f : ℕ → ℕ) → t < n → ((x : ℕ) → x < n → (x ≡ t → ⊥) → f x ≡ 0) → total n f ≡ f t
total_alone n t f lt none =
    let e : total n f ≡ total n (update (λ x. 0) t (f t)) =
    total_same n _ _ (λ x lx. sym (each_updated (λ y w. w ≡ f y) (λ x. 0) t (f t) x refl (λ ne. sym (none x lx ne)))) in
    omega (arith, e, total_updated (λ w. w) n t (λ x. 0) (f t) lt, total_zero n)

pub at_level : (P : ℕ → Type 0) → P 1 × P 2 × P 3 → (i : ℕ) → 1 ≤ i → i ≤ 3 → P i
at_level P h i low high = grind arith

pub nonzero : (a b : ℕ) → (a ≡ 0 → ⊥) → (b ≡ 0 → ⊥) → a * b ≡ 0 → ⊥
nonzero a b h k e = grind arith

pub stage_bound : (stage f : ℕ) → stage ≤ 4 → f ≤ 1 → (stage ≡ 4 → f ≡ 0) → stage * f ≤ 3
stage_bound stage f h k n = grind arith

pub no_levels : (r : StageRole) → has_position r ≡ 0 → passed_by r ≡ 0
no_levels r h = grind arith

pub up_to_below : (i n : ℕ) → 1 ≤ n → (i ≡ n → ⊥) → up_to i n ≡ up_to i (n - 1)
up_to_below i zero h ne = absurd (omega (arith, h))
up_to_below i (suc n) h ne = let e : suc n - 1 ≡ n = omega arith in rw e (up_to_next i n ne)

pub full_levels : (i : ℕ) → 1 ≤ i → i ≤ 3 → (full : ℕ) → full ≤ 1 → 0 + full ≡ up_to i (3 * full)
full_levels i low high full le = grind arith

pub some_position : (r : StageRole) → (has_position r ≡ 0 → ⊥) → has_position r ≡ 1
some_position r h = grind arith

-- who is in a freeze at this stage has stored it last
pub freeze_role : (stage sb : ℕ) (r : StageRole) → KnowsStage stage sb r → freezes r ≡ 1 →
    (place : Place) × (owner : Bool) × (r ≡ Freezing stage place owner)
freeze_role stage sb r k f = grind arith
