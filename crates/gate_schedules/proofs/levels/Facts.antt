-- What the invariant says of a level's sync word where a writer or a callback makes a transition of it: the transition is defined.
use Rattle.gate_schedules.proofs.Prelude.{Bool, DownReadStep, None, Option, Some, Transition, TransitionNext, ap, arith, closed, eqb_tells, found_by}
use Rattle.gate_schedules.proofs.Prelude.{inl, inr, left, lt-ltb, nat_lt, on_exit, refl, suc, total, total_at, total_none, transition_after, true}
use Rattle.gate_schedules.proofs.Prelude.{unpack, zero, ℕ, ◌<◌, ◌∙◌, ◌≡◌, ◌≤◌}
use Rattle.percpu_rwsem.specs.{Readers.step_in, SyncWords.{bit, is_awaited, is_lawful, is_passed, on_callback, on_enter}, Transitions.transition_next}
use Rattle.percpu_rwsem.specs.declared.sync_word.{GpState.GpState, SyncWord.SyncWord}
use Rattle.freeze_laws.{proofs.stages.Facts.other_zero, specs.levels.Roles.{SyncHolds, SyncRole, claimed, enter_bit, entered, entering}}
use Rattle.gate_schedules.{proofs.operations.deadlocks.FreezeProgress.not_none, specs.operations.Ranks.exchange_rank}

-- what comes after a step of a transition has a lower rank, or it is made, or it is not defined, which is this
abbrev pub ExchangeFalls : ℕ → ℕ → Type 0 → TransitionNext → Type 0
ExchangeFalls sync n undefined (TransitionNext.More next) = exchange_rank sync next < n
ExchangeFalls sync n undefined TransitionNext.Undefined = undefined
ExchangeFalls sync n undefined (TransitionNext.Made state) = Unit {0}

pub defined_falls : (sync n : ℕ) (undefined : Type 0) → (undefined → ⊥) → (next : TransitionNext) → ExchangeFalls sync n undefined next →
    ExchangeFalls sync n ⊥ next
defined_falls sync n undefined never next h = grind arith

module _ (makes : SyncWord → Option SyncWord) (sync after level : ℕ) (word : SyncWord) (packed : unpack sync ≡ Some word) where
  -- each step of a transition: a word that was changed since it was loaded is loaded again, once
  pub exchange_falls : (x : Transition) → after ≡ left (transition_next level x).1 sync →
      ExchangeFalls after (exchange_rank sync x) (makes word ≡ None)
      (transition_after makes x (found_by (transition_next level x).1 sync))
  exchange_falls x is = grind arith

entering_le : (r : SyncRole) → entering r ≤ entered r
entering_le r = grind arith

-- only one that has entered has the block set
closed_le : (r : SyncRole) → closed r ≤ entered r
closed_le r = grind arith

-- with a writer that has entered and none in its grace period, the state is at least GP_PASSED
passed_state : (s : GpState) (taken : Bool) (count : ℕ) → is_lawful s taken count ≡ true → 1 ≤ count → enter_bit s ≡ 0 → is_passed s ≡ true
passed_state s taken count h some none = grind arith

awaited_enter : (s : GpState) (taken : Bool) → 1 ≤ enter_bit s → is_awaited s taken ≡ true
awaited_enter s taken h = grind arith

awaited_taken : (s : GpState) (taken : Bool) (count : ℕ) → is_lawful s taken count ≡ true → 1 ≤ bit taken → is_awaited s taken ≡ true
awaited_taken s taken count h some = grind arith

module _ (tasks : ℕ) (word : SyncWord) (block full : ℕ) (section : ℕ → ℕ) (at : ℕ → SyncRole)
    (h : SyncHolds tasks word block full section at) (t : ℕ) (lt : t < tasks) where
  pub enter_defined : on_enter word ≡ None → ⊥
  enter_defined e = grind arith

  module _ (own : entered (at t) ≡ 1) where
    -- a writer that has entered is the only one
    only_one : (total tasks (λ y. entered (at y)) ≡ 1) × (full ≡ 0) × (word.count ≡ 1)
    only_one =
        let one : entered (at t) ≤ total tasks (λ y. entered (at y)) = total_at tasks t (λ y. entered (at y)) lt in
        (omega (arith, one, own, h.count, h.once), omega (arith, one, own, h.count, h.once), omega (arith, one, own, h.count, h.once))

    others_none : (y : ℕ) → y < tasks → (y ≡ t → ⊥) → entered (at y) ≡ 0
    others_none y ly ne = other_zero tasks t (λ u. entered (at u)) (omega (arith, only_one.0)) lt own y ly ne

    module _ (past : entering (at t) ≡ 0) where
      -- so, past its grace period, the state is at least GP_PASSED
      pub writer_passed : is_passed word.state ≡ true
      writer_passed =
          let none : total tasks (λ y. entering (at y)) ≡ 0 = total_none tasks _ (λ y ly. elim (eqb_tells y t) [
            | inl q ↦ ap (λ u. entering (at u)) q.1 ∙ past
            | inr q ↦ omega (arith, entering_le (at y), others_none y ly q.1)
          ]) in
          passed_state word.state word.taken word.count h.lawful (omega (arith, only_one.2)) (omega (arith, none, h.enter))

      -- and it may leave
      pub exit_defined : on_exit word ≡ None → ⊥
      exit_defined e =
          let p : is_passed word.state ≡ true = writer_passed in
          let q : nat_lt 0 word.count ≡ true = lt-ltb 0 word.count (omega (arith, only_one.2)) in
          not_none _ (rw (p, q) at e)

    pub block_clear : closed (at t) ≡ 0 → block ≡ 0
    block_clear unset =
        let none : total tasks (λ y. closed (at y)) ≡ 0 = total_none tasks _ (λ y ly. elim (eqb_tells y t) [
          | inl q ↦ ap (λ u. closed (at u)) q.1 ∙ unset
          | inr q ↦ omega (arith, closed_le (at y), others_none y ly q.1)
        ]) in
        omega (arith, none, h.blocked, only_one.1)

  -- a writer past its grace period may end it
  pub writer_called : entering (at t) ≡ 1 → on_callback word ≡ None → ⊥
  writer_called own e =
      let a : is_awaited word.state word.taken ≡ true =
      awaited_enter word.state word.taken (omega (arith, own, h.enter, total_at tasks t (λ y. entering (at y)) lt)) in
      not_none _ (rw a at e)

  -- and so may a callback
  pub callback_called : claimed (at t) ≡ 1 → on_callback word ≡ None → ⊥
  callback_called own e =
      let a : is_awaited word.state word.taken ≡ true =
      awaited_taken word.state word.taken word.count h.lawful (omega (arith, own, h.taken, total_at tasks t (λ y. claimed (at y)) lt)) in
      not_none _ (rw a at e)

slow_state : (s : GpState) (taken : Bool) (count : ℕ) → is_lawful s taken count ≡ true → 1 ≤ count → step_in s ≡ DownReadStep.CountsUpSlow
slow_state s taken count h some = grind arith

pub blocked_slow : (tasks : ℕ) (word : SyncWord) (block full : ℕ) (section : ℕ → ℕ) (at : ℕ → SyncRole) →
    SyncHolds tasks word block full section at → block ≡ 1 → step_in word.state ≡ DownReadStep.CountsUpSlow
blocked_slow tasks word block full section at h set =
    slow_state word.state word.taken word.count h.lawful (some word.count refl)
  where
    some : (count : ℕ) → word.count ≡ count → 1 ≤ count
    some zero e =
        let none : total tasks (λ y. closed (at y)) ≡ 0 = total_none tasks _ (λ y ly.
        omega (arith, closed_le (at y), total_at tasks y (λ u. entered (at u)) ly, h.count, e)) in
        absurd (omega (arith, none, h.blocked, h.count, e, set))
    some (suc n) e = omega arith
