-- A level is closed, where nobody is inside a section and nothing is counted there, and opened, in a bounded number of steps.
use Rattle.gate_schedules.proofs.Prelude.{Config, DownWrite, DownWriteStep, IsGood, Next, None, RankDecreases, Some, Sum, SyncAt, SyncHoldsIn}
use Rattle.gate_schedules.proofs.Prelude.{SyncRole, Transition, TransitionNext, UpWrite, UpWriteStep, WordName, Words, World, add-one, ap, arith}
use Rattle.gate_schedules.proofs.Prelude.{at_down_write, cases_Bool, closed, down_write_after, down_write_next, down_write_role, eq-eqb, eqb_tells}
use Rattle.gate_schedules.proofs.Prelude.{exit_made, found_by, inl, inr, is_frozen_whole, left, ltb-false, ltb-true, nat_lt, on_callback, on_enter}
use Rattle.gate_schedules.proofs.Prelude.{on_exit, read, refl, subst, suc, sym, sync_role_of, total, transition_after, true, unpack, up_write_after}
use Rattle.gate_schedules.proofs.Prelude.{up_write_next, update_at, wrap_add, ℕ, ◌%◌, ◌*◌, ◌+◌, ◌-◌, ◌<◌, ◌==◌, ◌≡◌, ◌≤◌}
use Rattle.cpu_words.{proofs.gate_counts.Numbers.{ahead_past, ahead_step}, specs.Sums.{ahead, lead}}
use Rattle.{freeze_laws.specs.levels.{Operations.up_write_role, Roles.{Entered, Past, entered, entering}}, gate_world.specs.Fits.DownWriteStepFits}
use Rattle.percpu_rwsem.specs.{Graces.looked, SyncWords.is_passed, Transitions.transition_next, Writers.{callback_step, enter_step, sections_awaited}}
use Rattle.percpu_rwsem.specs.declared.grace.GraceNext.{GraceNext}
use Rattle.gate_schedules.proofs.{frames.Words.load_same, levels.Facts.{ExchangeFalls, block_clear, defined_falls, enter_defined, exchange_falls}}
use Rattle.gate_schedules.proofs.{levels.Facts.{exit_defined, writer_called, writer_passed}, operations.callback.Progress.{GraceFalls, look_falls}}
use Rattle.gate_schedules.{proofs.operations.deadlocks.RankDecreases.after_event, specs.operations.Ranks.{down_rank, exchange_rank, grace_rank}}
use Rattle.gate_schedules.specs.operations.{Ranks.{reopens_rank, sum_rank, up_rank}, Unblocked.{NobodyInside, NothingCounted}}

-- a sum has taken one word more: what is ahead of it is as it was
pub lead_on : (processors : ℕ) (count : ℕ → ℕ) (k sum : ℕ) → k < processors →
    lead processors count (k + 1) (wrap_add sum (count k)) ≡ lead processors count k sum
lead_on processors count k sum lt =
    omega (arith, ahead_step processors k count lt, ap (ahead processors count) (add-one k))

-- after the last word it is what the sum came to
pub lead_last : (processors : ℕ) (count : ℕ → ℕ) (k sum : ℕ) → k < processors → processors ≤ k + 1 →
    wrap_add sum (count k) ≡ lead processors count k sum
lead_last processors count k sum lt le =
    omega (arith, ahead_step processors k count lt, ahead_past processors (suc k) count (omega arith))

-- where nothing is counted, a sum that begins comes to 0
begun_rank : (processors : ℕ) (count : ℕ → ℕ) → total processors count % 18446744073709551616 ≡ 0 →
    sum_rank processors count (record { words = 0; total = 0 }) ≤ processors - 1
begun_rank processors count none = grind arith

-- a down-write's next phase is at its level
abbrev pub DownFalls : Words → DownWrite → ℕ → Next DownWrite → Type 0
DownFalls after d n next = RankDecreases (λ (y : DownWrite). down_rank after y y.step) (λ (y : DownWrite). y.level ≡ d.level) n next

module _ (after : Words) (d : DownWrite) where
  enters_falls : (n : ℕ) (next : TransitionNext) → ExchangeFalls (after.sync d.level) n ⊥ next →
      DownFalls after d (d.processors + d.tasks + 3 + n) (Next.Go (at_down_write d (enter_step d.tasks next)))
  enters_falls n next h = grind arith

  waits_falls : (n : ℕ) (next : GraceNext) → 1 ≤ n → GraceFalls n next → DownFalls after d (d.processors + n + 2) (sections_awaited d next)
  waits_falls n next some h = grind arith

  calls_falls : (n : ℕ) (next : TransitionNext) → ExchangeFalls (after.sync d.level) n ⊥ next →
      DownFalls after d (d.processors + 1 + n) (Next.Go (at_down_write d (callback_step next)))
  calls_falls n next h = grind arith

  -- a sum takes one word more
  sums_falls : (sum : Sum) → sum.words < d.processors → total d.processors (after.level d.level) % 18446744073709551616 ≡ 0 →
      DownFalls after d (sum_rank d.processors (after.level d.level) sum)
      (down_write_after d (DownWriteStep.Sums sum) (after.level d.level sum.words)).0
  sums_falls sum lt none =
      let count : ℕ → ℕ = after.level d.level in
      elim (cases_Bool (nat_lt (sum.words + 1) d.processors)) [
        | inl h ↦ rw (h, lead_on d.processors count sum.words sum.total lt) (
            elim (eqb_tells (lead d.processors count sum.words sum.total) 0) [
              | inl z ↦ rw z.0 (omega (arith, ltb-true (sum.words + 1) d.processors h), refl)
              | inr z ↦ rw z.0 (omega (arith, ltb-true (sum.words + 1) d.processors h), refl)
            ]
            )
        | inr h ↦
            let e : wrap_add sum.total (count sum.words) ≡ lead d.processors count sum.words sum.total =
            lead_last d.processors count sum.words sum.total lt (ltb-false (sum.words + 1) d.processors h) in
            rw (h, e) (
            elim (eqb_tells (lead d.processors count sum.words sum.total) 0) [
              | inl z ↦ rw z.0 tt
              | inr z ↦ rw z.0 (omega (arith, begun_rank d.processors count none), refl)
            ]
            )
      ]

module _ (c : Config) (w : World) (good : IsGood c w) (t : ℕ) (lt : t < c.tasks) where
  module _ (d : DownWrite) (one : 1 ≤ d.level) (three : d.level ≤ 3) (some : 1 ≤ c.processors) (processors : d.processors ≡ c.processors)
      (even : NobodyInside c w.words) (none : NothingCounted c w.words d.level) where
    abbrev role : ℕ → SyncRole
    role u = sync_role_of d.level (w.views u).phase

    rule : SyncHoldsIn c w d.level
    rule = good (SyncAt d.level) one three

    -- an enter
    enter_by : (x : Transition) (sync : ℕ → ℕ) → sync d.level ≡ left (transition_next d.level x).1 (w.words.sync d.level) →
        ExchangeFalls (sync d.level) (exchange_rank (w.words.sync d.level) x) ⊥
        (transition_after on_enter x (found_by (transition_next d.level x).1 (w.words.sync d.level)))
    enter_by x sync is =
        defined_falls (sync d.level) (exchange_rank (w.words.sync d.level) x) (on_enter rule.word ≡ None)
        (enter_defined c.tasks rule.word (w.words.block d.level) (is_frozen_whole w.words) w.words.section role rule.holds t lt)
        (transition_after on_enter x (found_by (transition_next d.level x).1 (w.words.sync d.level)))
        (exchange_falls on_enter (w.words.sync d.level) (sync d.level) d.level rule.word rule.packed x is)

    -- and the transition that ends its grace period
    call_by : role t ≡ Past → (x : Transition) (sync : ℕ → ℕ) →
        sync d.level ≡ left (transition_next d.level x).1 (w.words.sync d.level) →
        ExchangeFalls (sync d.level) (exchange_rank (w.words.sync d.level) x) ⊥
        (transition_after on_callback x (found_by (transition_next d.level x).1 (w.words.sync d.level)))
    call_by here x sync is =
        defined_falls (sync d.level) (exchange_rank (w.words.sync d.level) x) (on_callback rule.word ≡ None)
        (writer_called c.tasks rule.word (w.words.block d.level) (is_frozen_whole w.words) w.words.section role rule.holds t lt
        (ap entering here))
        (transition_after on_callback x (found_by (transition_next d.level x).1 (w.words.sync d.level)))
        (exchange_falls on_callback (w.words.sync d.level) (sync d.level) d.level rule.word rule.packed x is)

    pub down_falls : (s : DownWriteStep) → role t ≡ down_write_role s → DownWriteStepFits c s →
        DownFalls (after_event w.words (down_write_next d s)) d (down_rank w.words d s)
        (down_write_after d s (found_by (down_write_next d s).1 (read w.words (down_write_next d s).0))).0
    down_falls (DownWriteStep.Enters Transition.Loads) here fits =
        let after : Words = after_event w.words (down_write_next d (DownWriteStep.Enters Transition.Loads)) in
        enters_falls after d 1 (transition_after on_enter Transition.Loads (w.words.sync d.level))
        (enter_by Transition.Loads after.sync (update_at w.words.sync d.level (w.words.sync d.level)))
    down_falls (DownWriteStep.Enters (Transition.Exchanges from to)) here fits =
        let after : Words = after_event w.words (down_write_next d (DownWriteStep.Enters (Transition.Exchanges from to))) in
        enters_falls after d (exchange_rank (w.words.sync d.level) (Transition.Exchanges from to))
        (transition_after on_enter (Transition.Exchanges from to) (w.words.sync d.level))
        (enter_by (Transition.Exchanges from to) after.sync
        (update_at w.words.sync d.level (left (transition_next d.level (Transition.Exchanges from to)).1 (w.words.sync d.level))))
    down_falls (DownWriteStep.AwaitsSections g) here fits =
        waits_falls (after_event w.words (down_write_next d (DownWriteStep.AwaitsSections g))) d (grace_rank g) (looked g (w.words.section g.task))
        (omega (arith, fits.0, fits.1)) (look_falls g (w.words.section g.task) (even g.task fits.1))
    down_falls (DownWriteStep.CallsBack Transition.Loads) here fits =
        let after : Words = after_event w.words (down_write_next d (DownWriteStep.CallsBack Transition.Loads)) in
        calls_falls after d 1 (transition_after on_callback Transition.Loads (w.words.sync d.level))
        (call_by here Transition.Loads after.sync (update_at w.words.sync d.level (w.words.sync d.level)))
    down_falls (DownWriteStep.CallsBack (Transition.Exchanges from to)) here fits =
        let after : Words = after_event w.words (down_write_next d (DownWriteStep.CallsBack (Transition.Exchanges from to))) in
        calls_falls after d (exchange_rank (w.words.sync d.level) (Transition.Exchanges from to))
        (transition_after on_callback (Transition.Exchanges from to) (w.words.sync d.level))
        (call_by here (Transition.Exchanges from to) after.sync
        (update_at w.words.sync d.level (left (transition_next d.level (Transition.Exchanges from to)).1 (w.words.sync d.level))))
    down_falls DownWriteStep.AwaitsPassed here fits =
        let p : is_passed rule.word.state ≡ true =
        writer_passed c.tasks rule.word (w.words.block d.level) (is_frozen_whole w.words) w.words.section role rule.holds t lt
        (ap entered here) (ap entering here) in
        let u : unpack (w.words.sync d.level) ≡ Some rule.word = rule.packed in
        rw (u, p) (omega arith, refl)
    down_falls DownWriteStep.SetsBlock here fits =
        let b : w.words.block d.level ≡ 0 =
        block_clear c.tasks rule.word (w.words.block d.level) (is_frozen_whole w.words) w.words.section role rule.holds t lt
        (ap entered here) (ap closed here) in
        let e : (w.words.block d.level == 0) ≡ true = eq-eqb (w.words.block d.level) 0 b in
        let k : total d.processors (w.words.level d.level) % 18446744073709551616 ≡ 0 =
        subst (λ p. total p (w.words.level d.level) % 18446744073709551616 ≡ 0) (sym processors) none in
        rw e (omega (arith, some, processors, begun_rank d.processors (w.words.level d.level) k), refl)
    down_falls (DownWriteStep.Sums sum) here fits =
        let same : after_event w.words (down_write_next d (DownWriteStep.Sums sum)) ≡ w.words = load_same w.words (WordName.LevelCount d.level sum.words) in
        let k : total d.processors (w.words.level d.level) % 18446744073709551616 ≡ 0 =
        subst (λ p. total p (w.words.level d.level) % 18446744073709551616 ≡ 0) (sym processors) none in
        subst (λ (after : Words). DownFalls after d (sum_rank d.processors (w.words.level d.level) sum)
        (down_write_after d (DownWriteStep.Sums sum) (w.words.level d.level sum.words)).0) (sym same)
        (sums_falls w.words d sum (omega (arith, fits, processors)) k)

  -- each step of an up-write
  module _ (u : UpWrite) (one : 1 ≤ u.level) (three : u.level ≤ 3) where
    exits_falls : (after : Words) (n : ℕ) (next : TransitionNext) → ExchangeFalls (after.sync u.level) n ⊥ next →
        RankDecreases (reopens_rank after) (λ (y : UpWrite). Unit {0}) (n + 3 * (u.level - 1) + 1) (exit_made u next)
    exits_falls after n next h = grind arith

    exit_by : sync_role_of u.level (w.views t).phase ≡ Entered → (x : Transition) (sync : ℕ → ℕ) →
        sync u.level ≡ left (transition_next u.level x).1 (w.words.sync u.level) →
        ExchangeFalls (sync u.level) (exchange_rank (w.words.sync u.level) x) ⊥
        (transition_after on_exit x (found_by (transition_next u.level x).1 (w.words.sync u.level)))
    exit_by here x sync is =
        let s : SyncHoldsIn c w u.level = good (SyncAt u.level) one three in
        defined_falls (sync u.level) (exchange_rank (w.words.sync u.level) x) (on_exit s.word ≡ None)
        (exit_defined c.tasks s.word (w.words.block u.level) (is_frozen_whole w.words) w.words.section
        (λ y. sync_role_of u.level (w.views y).phase) s.holds t lt (ap entered here) (ap entering here))
        (transition_after on_exit x (found_by (transition_next u.level x).1 (w.words.sync u.level)))
        (exchange_falls on_exit (w.words.sync u.level) (sync u.level) u.level s.word s.packed x is)

    pub up_falls : (s : UpWriteStep) → sync_role_of u.level (w.views t).phase ≡ up_write_role s →
        RankDecreases (reopens_rank (after_event w.words (up_write_next u s))) (λ (y : UpWrite). Unit {0})
        (up_rank (w.words.sync u.level) s + 3 * (u.level - 1) + 1)
        (up_write_after u s (found_by (up_write_next u s).1 (read w.words (up_write_next u s).0))).0
    up_falls UpWriteStep.ClearsBlock here = (omega arith, tt)
    up_falls (UpWriteStep.Exits Transition.Loads) here =
        let after : Words = after_event w.words (up_write_next u (UpWriteStep.Exits Transition.Loads)) in
        exits_falls after 1 (transition_after on_exit Transition.Loads (w.words.sync u.level))
        (exit_by here Transition.Loads after.sync (update_at w.words.sync u.level (w.words.sync u.level)))
    up_falls (UpWriteStep.Exits (Transition.Exchanges from to)) here =
        let after : Words = after_event w.words (up_write_next u (UpWriteStep.Exits (Transition.Exchanges from to))) in
        exits_falls after (exchange_rank (w.words.sync u.level) (Transition.Exchanges from to))
        (transition_after on_exit (Transition.Exchanges from to) (w.words.sync u.level))
        (exit_by here (Transition.Exchanges from to) after.sync
        (update_at w.words.sync u.level (left (transition_next u.level (Transition.Exchanges from to)).1 (w.words.sync u.level))))
