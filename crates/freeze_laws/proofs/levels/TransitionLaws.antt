-- what each transition leaves, of the words that it is met at
use Rattle.std.{proofs.Common.{Bool, arith, false, refl, suc, true, zero, ℕ, ◌+◌, ◌≡◌, ◌≤◌}, specs.Prelude.{Some, if◌then◌else◌, nat_lt}}
use Rattle.percpu_rwsem.specs.SyncWords.{bit, emptied_state, entered_state, is_lawful, is_queued, left_state, on_callback, on_claim, on_enter}
use Rattle.percpu_rwsem.specs.{SyncWords.on_exit, declared.sync_word.{GpState.GpState, SyncWord.SyncWord}}
use Rattle.freeze_laws.specs.levels.{Changes.role_entered, Roles.{claimed, closed, enter_bit, entered, entering, fast, idle_bit}}

-- an enter where nobody has entered: GP_ENTER and GP_PASSED are not found
pub record Enters (tasks : ℕ) (s : GpState) (t : Bool) (c : ℕ) : Type 0 where
  pub puts : on_enter record { state = s; taken = t; count = c } ≡ Some record { state = entered_state s; taken = t; count = 1 }
  pub lawful : is_lawful (entered_state s) t 1 ≡ true
  pub fast_none : fast (role_entered tasks s) ≡ 0
  pub entered_one : entered (role_entered tasks s) ≡ 1
  pub closed_none : closed (role_entered tasks s) ≡ 0
  pub claimed_none : claimed (role_entered tasks s) ≡ 0
  pub before : enter_bit s ≡ 0
  pub after : entering (role_entered tasks s) ≡ enter_bit (entered_state s)
  pub slow : idle_bit (entered_state s) + enter_bit (entered_state s) ≡ idle_bit s

pub enters : (tasks : ℕ) (s : GpState) (t : Bool) (c : ℕ) → c ≡ 0 → is_lawful s t c ≡ true → Enters tasks s t c
enters tasks s t c e l = grind arith

-- an exit of the only writer that has entered, in GP_PASSED, GP_EXIT or GP_REPLAY
pub record Exits (s : GpState) (t : Bool) (c : ℕ) : Type 0 where
  pub puts : on_exit record { state = s; taken = t; count = c } ≡ Some record { state = left_state s; taken = t; count = 0 }
  pub lawful : is_lawful (left_state s) t 0 ≡ true
  pub queued : is_queued (left_state s) ≡ true
  pub slow : idle_bit (left_state s) + enter_bit (left_state s) ≡ 0

pub exits : (s : GpState) (t : Bool) (c : ℕ) → c ≡ 1 → idle_bit s + enter_bit s ≡ 0 → Exits s t c
exits s t c e h = grind arith

-- the transition of a writer after its grace period
pub passes : (s : GpState) (t : Bool) (c : ℕ) → enter_bit s ≡ 1 → 1 ≤ c →
    on_callback record { state = s; taken = t; count = c } ≡ Some record { state = GpState.Passed; taken = false; count = c }
passes s t c e h = grind arith

-- the transition of a callback after its grace period
pub record Calls (s : GpState) (t : Bool) (c : ℕ) : Type 0 where
  pub puts : on_callback record { state = s; taken = t; count = c } ≡ Some record
      { state = if nat_lt 0 c then GpState.Passed else emptied_state s; taken = false; count = c }
  pub lawful : is_lawful (if nat_lt 0 c then GpState.Passed else emptied_state s) false c ≡ true
  pub taken : t ≡ true
  pub queued : is_queued s ≡ true
  pub before : idle_bit s + enter_bit s ≡ 0
  pub after : enter_bit (if nat_lt 0 c then GpState.Passed else emptied_state s) ≡ 0

-- the transition of a callback that is taken, of a lawful word
pub calls : (s : GpState) (t : Bool) (c : ℕ) → c ≤ 1 → bit t ≡ 1 → idle_bit s + enter_bit s + bit t ≤ 1 → is_lawful s t c ≡ true →
    Calls s t c
calls s false c m b f l = absurd (omega arith)
calls s true (suc (suc c)) m b f l = absurd (omega arith)
calls GpState.Idle true zero m b f l = absurd (omega arith)
calls GpState.Idle true (suc zero) m b f l = absurd (omega arith)
calls GpState.Enter true zero m b f l = absurd (omega arith)
calls GpState.Enter true (suc zero) m b f l = absurd (omega arith)
calls GpState.Passed true zero m b f l = cc
calls GpState.Passed true (suc zero) m b f l = cc
calls GpState.Exit true zero m b f l = record { puts = refl; lawful = refl; taken = refl; queued = refl; before = refl; after = refl }
calls GpState.Exit true (suc zero) m b f l = record { puts = refl; lawful = refl; taken = refl; queued = refl; before = refl; after = refl }
calls GpState.Replay true zero m b f l = record { puts = refl; lawful = refl; taken = refl; queued = refl; before = refl; after = refl }
calls GpState.Replay true (suc zero) m b f l = record { puts = refl; lawful = refl; taken = refl; queued = refl; before = refl; after = refl }

-- only GP_EXIT becomes GP_IDLE by it
pub calls_idle : (s : GpState) (c : ℕ) → is_queued s ≡ true → c ≤ 1 → (if nat_lt 0 c then GpState.Passed else emptied_state s) ≡ GpState.Idle → s ≡ GpState.Exit
calls_idle s c q m e = grind arith

pub entered_not_idle : (s : GpState) → entered_state s ≡ GpState.Idle → ⊥
entered_not_idle s e = grind arith

-- a claim of a callback that is queued and not taken
pub record Claims (s : GpState) (t : Bool) (c : ℕ) : Type 0 where
  pub puts : on_claim record { state = s; taken = t; count = c } ≡ Some record { state = s; taken = true; count = c }
  pub lawful : is_lawful s true c ≡ true

pub claims_queued : (s : GpState) (t : Bool) (c : ℕ) → is_queued s ≡ true → t ≡ false → Claims s t c
claims_queued s t c q h = grind arith

pub claims_defined : (s : GpState) (t : Bool) (c : ℕ) (w : SyncWord) → on_claim record { state = s; taken = t; count = c } ≡ Some w →
    (is_queued s ≡ true) × (t ≡ false)
claims_defined s t c w h = grind arith
