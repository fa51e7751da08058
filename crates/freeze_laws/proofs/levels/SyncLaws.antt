-- one level: what its predicate says, and how it is kept where one task's role changes
use Rattle.std.proofs.Common.{Bool, arith, refl, true, ℕ, ◌+◌, ◌<◌, ◌≡◌, ◌≤◌}
use Rattle.finite_sums.{proofs.Totals.{each_updated, total_add, total_at, total_le, total_updated, update_off}, specs.Sums.{total, update}}
use Rattle.percpu_rwsem.{proofs.SyncWords.bit_small, specs.{SyncWords.{bit, is_lawful}, declared.sync_word.{GpState.GpState, SyncWord.SyncWord}}}
use Rattle.freeze_laws.specs.levels.Roles.{RoleHolds, SyncHolds, SyncRole, claimed, closed, enter_bit, entered, entering, fast, idle_bit}

-- what a lawful word with a count of at most 1 says in numbers
pub record LawfulSays (s : GpState) (t : Bool) (c : ℕ) : Type 0 where
  pub idle : idle_bit s + c ≤ 1
  pub enter : enter_bit s ≤ c
  pub free : idle_bit s + enter_bit s + bit t ≤ 1

-- a lawful word says it, whatever its state
pub lawful_says : (s : GpState) (t : Bool) (c : ℕ) → c ≤ 1 → is_lawful s t c ≡ true → LawfulSays s t c
lawful_says s t c l h = grind arith

pub role_kept : (section section' : ℕ → ℕ) (at at' : ℕ → SyncRole) → ((u : ℕ) → fast (at' u) ≤ fast (at u)) →
    ((u : ℕ) → fast (at' u) ≡ 1 → section' u ≡ section u) →
    (tasks : ℕ) (r : SyncRole) → RoleHolds section at tasks r → RoleHolds section' at' tasks r
role_kept section section' at at' less same tasks r h = grind arith

pub role_free : (section : ℕ → ℕ) (at : ℕ → SyncRole) (tasks : ℕ) (r : SyncRole) → entering r ≡ 0 → RoleHolds section at tasks r
role_free section at tasks r e = grind arith

pub parts_entered : (r : SyncRole) → closed r + entering r ≤ entered r
parts_entered r = grind arith

-- closed writers and entering ones are apart
pub parts_of : (tasks : ℕ) (at : ℕ → SyncRole) →
    total tasks (λ x. closed (at x)) + total tasks (λ x. entering (at x)) ≤ total tasks (λ x. entered (at x))
parts_of tasks at = omega (
  arith,
  total_add tasks (λ x. closed (at x)) (λ x. entering (at x)),
  total_le tasks (λ x. closed (at x) + entering (at x))
      (λ x. entered (at x)) (λ x l. parts_entered (at x)),
)

pub two_places : (n t u : ℕ) (f : ℕ → ℕ) → t < n → u < n → (u ≡ t → ⊥) → f t + f u ≤ total n f
two_places n t u f lt lu ne =
    let e : total n (λ x. update f t 0 x) + f t ≡ total n f + 0 = total_updated (λ v. v) n t f 0 lt in
    omega (arith, e, total_at n u (update f t 0) lu, update_off f t 0 u ne)

module _ (tasks : ℕ) (word : SyncWord) (block full : ℕ) (section : ℕ → ℕ) (at : ℕ → SyncRole)
    (good : SyncHolds tasks word block full section at) where
  pub says : LawfulSays word.state word.taken word.count
  says = lawful_says word.state word.taken word.count good.once good.lawful

  pub parts : total tasks (λ x. closed (at x)) + total tasks (λ x. entering (at x)) ≤ total tasks (λ x. entered (at x))
  parts = parts_of tasks at

  pub open_while_fast : idle_bit word.state + enter_bit word.state ≡ 1 → (block ≡ 0) × (full ≡ 0)
  open_while_fast h = (omega (arith, says, parts, good), omega (arith, says, parts, good))

  -- and at most one has claimed
  pub claimed_alone : (t u : ℕ) → t < tasks → u < tasks → (u ≡ t → ⊥) → claimed (at t) + claimed (at u) ≤ 1
  claimed_alone t u lt lu ne = omega (arith, good.taken, bit_small word.taken, two_places tasks t u (λ x. claimed (at x)) lt lu ne)

  module _ (t : ℕ) (lt : t < tasks) where
    -- one task's role changes, not to the fast path, and with it the word, the block and whether the level is frozen
    pub moves : (r : SyncRole) (word' : SyncWord) (block' full' : ℕ) →
        is_lawful word'.state word'.taken word'.count ≡ true → word'.count ≤ 1 →
        entered r + full' + word.count ≡ entered (at t) + full + word'.count →
        entering r + enter_bit word.state ≡ entering (at t) + enter_bit word'.state →
        claimed r + bit word.taken ≡ claimed (at t) + bit word'.taken →
        closed r + full' + block ≡ closed (at t) + full + block' →
        fast r ≡ 0 →
        (idle_bit word'.state + enter_bit word'.state ≡ 0 → total tasks (λ x. fast (at x)) ≡ fast (at t)) →
        RoleHolds section at tasks r →
        SyncHolds tasks word' block' full' section (update at t r)
    moves r word' block' full' lawful once count enter taken blocked slow others own =
        let less : (u : ℕ) → fast (update at t r u) ≤ fast (at u) = λ u. each_updated (λ y w. fast w ≤ fast (at y)) at t r u (omega arith)
        (λ ne. omega arith) in
        record {
          lawful = lawful;
          count = omega (arith, count, good.count, total_updated entered tasks t at r lt);
          once = once;
          enter = omega (arith, enter, good.enter, total_updated entering tasks t at r lt);
          taken = omega (arith, taken, good.taken, total_updated claimed tasks t at r lt);
          slow = λ e. omega (arith, others e, total_updated fast tasks t at r lt);
          roles = λ x lx. each_updated (λ y w. RoleHolds section (update at t r) tasks w) at t r x
              (role_kept section section at (update at t r) less (λ u e. refl) tasks r own)
              (λ ne. role_kept section section at (update at t r) less (λ u e. refl) tasks (at x) (good.roles x lx));
          blocked = omega (arith, blocked, good.blocked, total_updated closed tasks t at r lt);
        }
