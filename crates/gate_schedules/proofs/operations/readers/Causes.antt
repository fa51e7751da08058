-- The cause of a down-read's wait or refusal, along an execution: the level was closed when it last asked. What is said here of a task that
-- asks as a down-read does serves an operation that goes through one as a part of its own.
use Rattle.gate_schedules.proofs.Prelude.{Bool, CauseOf, Config, Done, DownRead, DownReadStep, DownReads, Go, HookAnswer, IsGood, List, Next, Some}
use Rattle.gate_schedules.proofs.Prelude.{SyncAt, SyncHoldsIn, SyncRole, Wait, World, ap, arith, closed, down_read_after, eqb_tells, false, found_at}
use Rattle.gate_schedules.proofs.Prelude.{if◌then◌else◌, inl, inr, is_frozen_whole, map_next, phase_after, refl, subst, sym, sync_role_if}
use Rattle.gate_schedules.proofs.Prelude.{sync_role_of, total, true, unpack, ℕ, ◌&&◌, ◌+◌, ◌==◌, ◌∙◌, ◌∷◌, ◌≡◌, ◌≤◌, ◌⊎◌}
use Rattle.{finite_sums.proofs.Totals.{HasPlace, total_place}, freeze_laws.specs.levels.Operations.down_read_role}
use Rattle.gate_world.specs.refusals.{Causes.{WasClosed, asks_level, last_asked, read_asks}, KeptCauses.ReadCause}
use Rattle.percpu_rwsem.specs.Readers.{at_down_read, left_blocked}
use Rattle.percpu_rwsem.specs.declared.readers.DownReadStep.TheVariants.{CountsDown, LeavesBlocked, LoadsBlock, LoadsSync}
use Rattle.gate_schedules.proofs.{frames.OperationLaws.by_bool, operations.readers.Trace.by_word}

-- a task has closed a level once at most
closed_small : (role : SyncRole) → closed role ≤ 1
closed_small role = grind arith

-- no step of a down-read has
step_not_closed : (s : DownReadStep) → closed (down_read_role s) ≡ 0
step_not_closed s = grind arith

-- nor has a down-read of one level at any level
pub read_not_closed : (i j : ℕ) (s : DownReadStep) → closed (sync_role_if (i == j) (down_read_role s)) ≡ 0
read_not_closed i j s = by_bool (i == j) (λ b. closed (sync_role_if b (down_read_role s)) ≡ 0) (step_not_closed s) refl

-- 1 where this is true
abbrev one_if : Bool → ℕ
one_if b = if b then 1 else 0

-- which is 1 or 0
one_or_none : (b : Bool) → (one_if b ≡ 1) ⊎ (one_if b ≡ 0)
one_or_none true = inl refl
one_or_none false = inr refl

-- where a level's `block` is set, the level is closed for a task that has not closed it
pub block_closed : (c : Config) (w : World) → IsGood c w → (t i : ℕ) → 1 ≤ i → i ≤ 3 → closed (sync_role_of i (w.views t).phase) ≡ 0 →
    (w.words.block i ≡ 0 → ⊥) → WasClosed c t i (Some w)
block_closed c w good t i l1 l3 apart set =
    let level : SyncHoldsIn c w i = good (SyncAt i) l1 l3 in
    let sum : total c.tasks (λ y. closed (sync_role_of i (w.views y).phase)) + is_frozen_whole w.words ≡ w.words.block i =
    level.holds.blocked in
    elim (one_or_none (w.words.stage == 4 && w.words.sb == 0)) [
      | inl h ↦ inl h
      | inr h ↦
          let place : HasPlace c.tasks (λ y. closed (sync_role_of i (w.views y).phase)) =
          total_place c.tasks (λ y. closed (sync_role_of i (w.views y).phase)) (λ z. set (omega (arith, z, h, sum))) in
          inr (
            place.0,
            place.1,
            (λ e. place.2 (ap (λ y. closed (sync_role_of i (w.views y).phase)) e ∙ apart)),
            omega (arith, place.2, closed_small (sync_role_of i (w.views place.0).phase)),
          )
    ]

-- the last question, one state on
module _ (t : ℕ) (w : World) (earlier : List World) where
  -- where the task doesn't ask, it is as before
  pub asked_skips : asks_level (w.views t).phase ≡ false → last_asked t (w ∷ earlier) ≡ last_asked t earlier
  asked_skips h = rw h refl

  -- where it asks, it is in this state
  pub asked_stands : asks_level (w.views t).phase ≡ true → last_asked t (w ∷ earlier) ≡ Some w
  asked_stands h = rw h refl

module _ (c : Config) (t : ℕ) (w next : World) (earlier : List World) where
  -- a cause that is kept stays in a state in which the task doesn't ask
  cause_skips : (i : ℕ) → asks_level (next.views t).phase ≡ false → WasClosed c t i (last_asked t (w ∷ earlier)) →
      WasClosed c t i (last_asked t (next ∷ (w ∷ earlier)))
  cause_skips i skip h = subst (WasClosed c t i) (sym (asked_skips t next (w ∷ earlier) skip)) h

  -- a task whose view another transition leaves alone
  pub read_stays : (i : ℕ) (s : DownReadStep) → asks_level (next.views t).phase ≡ read_asks s → ReadCause c t w earlier i s →
      ReadCause c t next (w ∷ earlier) i s
  read_stays i s e h = grind arith

  -- in the next state the task asks where this comes next and asks
  abbrev pub AsksNext : Next DownRead → Type 0
  AsksNext (Go r) = asks_level (next.views t).phase ≡ read_asks r.step
  AsksNext (Wait r) = asks_level (next.views t).phase ≡ read_asks r.step
  AsksNext (Done answer) = Unit {0}

  -- what comes next has its cause there
  abbrev pub HasNextCause : Next DownRead → Type 0
  HasNextCause (Go r) = ReadCause c t next (w ∷ earlier) r.level r.step
  HasNextCause (Wait r) = ReadCause c t next (w ∷ earlier) r.level r.step
  HasNextCause (Done answer) = Unit {0}

  module _ (good : IsGood c w) (r : DownRead) (l1 : 1 ≤ r.level) (l3 : r.level ≤ 3) where
    -- what comes after a step that this program point leads to has its cause
    abbrev OwnCause : DownReadStep → ℕ → Type 0
    OwnCause s found = asks_level (w.views t).phase ≡ read_asks s → closed (sync_role_of r.level (w.views t).phase) ≡ 0 →
        ReadCause c t w earlier r.level s → AsksNext (down_read_after r s found).0 → HasNextCause (down_read_after r s found).0

    -- after the load of `block`: where it was set, the level is closed
    block_own : OwnCause LoadsBlock (w.words.block r.level)
    block_own asks apart h next_asks =
        elim (eqb_tells (w.words.block r.level) 0) [
          | inl f ↦ rw f.0 tt
          | inr f ↦
              let skip : asks_level (next.views t).phase ≡ false = rw f.0 at next_asks in
              rw f.0 (subst (WasClosed c t r.level)
              (sym (asked_skips t next (w ∷ earlier) skip ∙ asked_stands t w earlier asks))
              (block_closed c w good t r.level l1 l3 apart f.1))
        ]

    -- so it is after each step
    pub read_own : (hook : HookAnswer) (s : DownReadStep) → OwnCause s (found_at w.words (DownReads (at_down_read r s)) hook)
    read_own hook LoadsSync asks apart h next_asks =
        by_word (λ s. HasNextCause (Go (at_down_read r s))) tt tt tt (unpack (w.words.sync r.level))
    read_own hook LoadsBlock asks apart h next_asks = block_own asks apart h next_asks
    read_own hook CountsDown asks apart h next_asks = cause_skips r.level next_asks h
    read_own hook LeavesBlocked asks apart h next_asks = by_bool r.wait (λ b. HasNextCause (left_blocked r b)) tt tt
    read_own hook other asks apart h next_asks = tt

  -- of a down-read that stands alone: whether its next phase asks
  pub asks_next : (n : Next DownRead) → (next.views t).phase ≡ phase_after (map_next DownReads n) → AsksNext n
  asks_next n e = grind arith

  -- and what is kept of it
  pub next_cause : (n : Next DownRead) → HasNextCause n → CauseOf c t next (w ∷ earlier) (phase_after (map_next DownReads n))
  next_cause n h = grind arith
