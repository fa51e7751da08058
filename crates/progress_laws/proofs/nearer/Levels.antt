-- Starts, grace periods, exchanges and sums: each step that doesn't wait comes nearer, and each that waits stays.
use Rattle.progress_laws.proofs.Prelude.{Config, DownRead, DownReadStep, DownWrite, DownWriteStep, DownWriteStepFits, Grace, GraceNext, IsGood, Next}
use Rattle.progress_laws.proofs.Prelude.{None, Option, Some, Sum, SyncAt, SyncHoldsIn, Transition, TransitionNext, UpWrite, UpWriteStep, WordName}
use Rattle.progress_laws.proofs.Prelude.{Words, World, after_event, ap, arith, cases_Bool, closed, closing_left, closing_tries, closing_waits}
use Rattle.progress_laws.proofs.Prelude.{down_read_after, down_read_next, down_write_after, down_write_next, eq-eqb, eqb_tells, exchange_rank, false}
use Rattle.progress_laws.proofs.Prelude.{found_by, inl, inr, is_frozen_whole, load_same, looked, nat_lt, not, opening_left, opening_tries, read, refl}
use Rattle.progress_laws.proofs.Prelude.{sections_awaited, start_waits, subst, sym, sync_role_of, total, transition_after, true, true≢false}
use Rattle.progress_laws.proofs.Prelude.{update_at, ℕ, ◌&&◌, ◌*◌, ◌+◌, ◌<◌, ◌==◌, ◌≡◌, ◌≤◌, ◌⊎◌}
use Rattle.std.proofs.{Common.◌%◌, lemmas.Bool.{and_parts, ltb-false, ltb-true}}
use Rattle.cpu_words.specs.{Sums.{lead, sum_taking}, Touches.{left, wrap_add}}
use Rattle.freeze_laws.specs.levels.{Operations.{down_write_role, up_write_role}, Roles.{SyncRole, entered, entering}}
use Rattle.gate_schedules.proofs.levels.Facts.{ExchangeFalls, block_clear, defined_falls, enter_defined, exchange_falls, exit_defined, writer_called}
use Rattle.gate_schedules.proofs.{levels.Facts.writer_passed, writers.Progress.{lead_last, lead_on}}
use Rattle.gate_world.specs.traces.TraceStates.{WordIsValid}
use Rattle.percpu_rwsem.specs.{SyncWords.{is_passed, on_callback, on_enter, on_exit, unpack}, Transitions.transition_next, Writers.at_down_write}
use Rattle.percpu_rwsem.specs.Writers.{callback_step, down_write_summed, enter_step, entered_from, exit_made, up_write_after, up_write_next}
use Rattle.percpu_rwsem.specs.declared.sync_word.{GpState.GpState, SyncWord.SyncWord}
use Rattle.progress_laws.{proofs.nearer.Nearer.{FewerLeft, NearsBy, StaysBy}, specs.StepsLeft.{grace_left, start_left}}
use Rattle.progress_laws.specs.Waiting.{grace_waits, sum_waits, was_found}

-- each step of a start that doesn't stand outside a closed level
pub start_nears : (w : Words) (r : DownRead) (s : DownReadStep) → WordIsValid (down_read_next r s).0 (read w (down_read_next r s).0) →
    start_waits w r s ≡ false →
    FewerLeft (λ (y : DownRead). start_left (w.block y.level) y.wait y.step) (start_left (w.block r.level) r.wait s)
    (down_read_after r s (found_by (down_read_next r s).1 (read w (down_read_next r s).0))).0
start_nears w r s may free = grind arith

-- a look at a task's section
abbrev pub LookNears : ℕ → GraceNext → Type 0
LookNears n (GraceNext.More g) = grace_left g < n
LookNears n (GraceNext.Wait g) = grace_left g < n
LookNears n GraceNext.Ended = Unit {0}

pub look_nears : (g : Grace) (found : ℕ) → g.task < g.tasks → ((found % 2 == 1) && was_found g.first found) ≡ false →
    LookNears (grace_left g) (looked g found)
look_nears g found lt free = grind arith

-- one that finds the task in the same section again
abbrev pub LookStays : Grace → GraceNext → Type 0
LookStays g (GraceNext.Wait next) = next ≡ g
LookStays g other = ⊥

found_again : (first : Option ℕ) (found : ℕ) → was_found first found ≡ true → first ≡ Some found
found_again first found h = grind arith

pub look_stays : (g : Grace) (found : ℕ) → ((found % 2 == 1) && was_found g.first found) ≡ true → LookStays g (looked g found)
look_stays g found h = grind (arith, found_again)

-- an exchange that goes on has left all words as they were
abbrev pub IfMore : Type 0 → TransitionNext → Type 0
IfMore A (TransitionNext.More x) = A
IfMore A other = Unit {0}

any_more : (A : Type 0) → A → (next : TransitionNext) → IfMore A next
any_more A a (TransitionNext.More x) = a
any_more A a other = tt

pub more_same : (makes : SyncWord → Option SyncWord) (w : Words) (level : ℕ) (x : Transition) →
    IfMore (after_event w (transition_next level x) ≡ w)
    (transition_after makes x (found_by (transition_next level x).1 (w.sync level)))
more_same makes w level x = grind (arith, any_more, load_same)

pub begun_lead : (processors : ℕ) (count : ℕ → ℕ) → lead processors count 0 0 ≡ total processors count % 18446744073709551616
begun_lead processors count = grind arith

-- what comes after a step of the closing of a level, by its own phases
abbrev pub ClosingNears : Words → Words → DownWrite → DownWriteStep → Next DownWrite → Type 0
ClosingNears w after d s next =
    NearsBy (λ (y : DownWrite). closing_left y.tasks y.step) (λ (y : DownWrite). 0) (λ (y : DownWrite). closing_tries after y y.step)
    (closing_left d.tasks s) 0 (closing_tries w d s) (after.block ≡ w.block) (after ≡ w) next

abbrev pub ClosingStays : Words → DownWrite → DownWriteStep → Next DownWrite → Type 0
ClosingStays w d s next =
    StaysBy (λ (y : DownWrite). closing_waits w y y.step ≡ true) (λ (y : DownWrite). closing_left y.tasks y.step) (λ (y : DownWrite). 0)
    (λ (y : DownWrite). closing_tries w y y.step) (closing_left d.tasks s) 0 (closing_tries w d s) next

not_zero : (n : ℕ) → not (n == 0) ≡ true → (n == 0) ≡ false
not_zero n h = grind arith

module _ (w : Words) (d : DownWrite) (sum : Sum) (lt : sum.words < d.processors) where
  abbrev count : ℕ → ℕ
  count = w.level d.level

  -- a sum that comes to 0 takes one word more
  sums_near : sum_waits d.processors count sum ≡ false →
      ClosingNears w w d (DownWriteStep.Sums sum) (down_write_summed d (sum_taking sum (count sum.words) d.processors)).0
  sums_near free =
      elim (cases_Bool (nat_lt (sum.words + 1) d.processors)) [
        | inl h ↦ rw (h, lead_on d.processors count sum.words sum.total lt) (
            elim (eqb_tells (lead d.processors count sum.words sum.total) 0) [
              | inl z ↦ rw z.0 (inr (inr (omega arith, omega arith, omega (arith, ltb-true (sum.words + 1) d.processors h), refl)))
              | inr z ↦ elim (cases_Bool (total d.processors count % 18446744073709551616 == 0)) [
                | inl n ↦ rw (z.0, n) (inr (inr (omega arith, omega arith, omega (arith, ltb-true (sum.words + 1) d.processors h), refl)))
                | inr n ↦ absurd (true≢false (rw (z.0, n) at free))
              ]
            ]
            )
        | inr h ↦
            let e : wrap_add sum.total (count sum.words) ≡ lead d.processors count sum.words sum.total =
            lead_last d.processors count sum.words sum.total lt (ltb-false (sum.words + 1) d.processors h) in
            rw (h, e) (
            elim (eqb_tells (lead d.processors count sum.words sum.total) 0) [
              | inl z ↦ rw z.0 tt
              | inr z ↦ elim (eqb_tells (total d.processors count % 18446744073709551616) 0) [
                | inl n ↦
                    rw (z.0, n.0, begun_lead d.processors count, n.1)
                    (inr (inr (omega arith, omega arith, omega (arith, lt, ltb-false (sum.words + 1) d.processors h), refl)))
                | inr n ↦ absurd (true≢false (rw (z.0, n.0) at free))
              ]
            ]
            )
      ]

  -- one that doesn't goes on so
  sums_stay : sum_waits d.processors count sum ≡ true →
      ClosingStays w d (DownWriteStep.Sums sum) (down_write_summed d (sum_taking sum (count sum.words) d.processors)).0
  sums_stay waits =
      let b = and_parts (not (lead d.processors count sum.words sum.total == 0)) (not (total d.processors count % 18446744073709551616 == 0)) waits in
      let z : (lead d.processors count sum.words sum.total == 0) ≡ false = not_zero _ b.0 in
      let n : (total d.processors count % 18446744073709551616 == 0) ≡ false = not_zero _ b.1 in
      elim (cases_Bool (nat_lt (sum.words + 1) d.processors)) [
        | inl h ↦ rw (h, lead_on d.processors count sum.words sum.total lt, z, n) (refl, refl, refl, refl)
        | inr h ↦
            let e : wrap_add sum.total (count sum.words) ≡ lead d.processors count sum.words sum.total =
            lead_last d.processors count sum.words sum.total lt (ltb-false (sum.words + 1) d.processors h) in
            rw (h, e, z, begun_lead d.processors count, n) (refl, refl, refl, refl)
      ]

made_left : (tasks : ℕ) (s : GpState) → closing_left tasks (entered_from tasks s) < 2 * tasks + 5
made_left tasks s = grind arith

module _ (w after : Words) (d : DownWrite) where
  abbrev Nears : ℕ → ℕ → Next DownWrite → Type 0
  Nears a n next =
      NearsBy (λ (y : DownWrite). closing_left y.tasks y.step) (λ (y : DownWrite). 0) (λ (y : DownWrite). closing_tries after y y.step)
      a 0 n (after.block ≡ w.block) (after ≡ w) next

  enters_near : (n : ℕ) (next : TransitionNext) → ExchangeFalls (after.sync d.level) n ⊥ next → IfMore (after ≡ w) next →
      Nears (2 * d.tasks + 5) n (Next.Go (at_down_write d (enter_step d.tasks next)))
  enters_near n next h same = grind (arith, made_left)

  calls_near : (n : ℕ) (next : TransitionNext) → ExchangeFalls (after.sync d.level) n ⊥ next → IfMore (after ≡ w) next →
      Nears 3 n (Next.Go (at_down_write d (callback_step next)))
  calls_near n next h same = grind arith

  waits_near : (a n : ℕ) (next : GraceNext) → 1 ≤ a → LookNears a next → Nears (a + 3) n (sections_awaited d next)
  waits_near a n next some h = grind arith

looks_stay : (w : Words) (d : DownWrite) (g : Grace) (next : GraceNext) → grace_waits w g ≡ true → LookStays g next →
    ClosingStays w d (DownWriteStep.AwaitsSections g) (sections_awaited d next)
looks_stay w d g next waits is = grind arith

module _ (c : Config) (w : World) (good : IsGood c w) (t : ℕ) (lt : t < c.tasks) where
  module _ (d : DownWrite) (one : 1 ≤ d.level) (three : d.level ≤ 3) (processors : d.processors ≡ c.processors) where
    abbrev role : ℕ → SyncRole
    role u = sync_role_of d.level (w.views u).phase

    rule : SyncHoldsIn c w d.level
    rule = good (SyncAt d.level) one three

    enter_by : (x : Transition) (sync : ℕ → ℕ) → sync d.level ≡ left (transition_next d.level x).1 (w.words.sync d.level) →
        ExchangeFalls (sync d.level) (exchange_rank (w.words.sync d.level) x) ⊥
        (transition_after on_enter x (found_by (transition_next d.level x).1 (w.words.sync d.level)))
    enter_by x sync is =
        defined_falls (sync d.level) (exchange_rank (w.words.sync d.level) x) (on_enter rule.word ≡ None)
        (enter_defined c.tasks rule.word (w.words.block d.level) (is_frozen_whole w.words) w.words.section role rule.holds t lt)
        (transition_after on_enter x (found_by (transition_next d.level x).1 (w.words.sync d.level)))
        (exchange_falls on_enter (w.words.sync d.level) (sync d.level) d.level rule.word rule.packed x is)

    call_by : entering (role t) ≡ 1 → (x : Transition) (sync : ℕ → ℕ) →
        sync d.level ≡ left (transition_next d.level x).1 (w.words.sync d.level) →
        ExchangeFalls (sync d.level) (exchange_rank (w.words.sync d.level) x) ⊥
        (transition_after on_callback x (found_by (transition_next d.level x).1 (w.words.sync d.level)))
    call_by here x sync is =
        defined_falls (sync d.level) (exchange_rank (w.words.sync d.level) x) (on_callback rule.word ≡ None)
        (writer_called c.tasks rule.word (w.words.block d.level) (is_frozen_whole w.words) w.words.section role rule.holds t lt here)
        (transition_after on_callback x (found_by (transition_next d.level x).1 (w.words.sync d.level)))
        (exchange_falls on_callback (w.words.sync d.level) (sync d.level) d.level rule.word rule.packed x is)

    -- each step of the closing of a level
    pub closing_nears : (s : DownWriteStep) → role t ≡ down_write_role s → DownWriteStepFits c s → closing_waits w.words d s ≡ false →
        ClosingNears w.words (after_event w.words (down_write_next d s)) d s
        (down_write_after d s (found_by (down_write_next d s).1 (read w.words (down_write_next d s).0))).0
    closing_nears (DownWriteStep.Enters Transition.Loads) here fits free =
        let after : Words = after_event w.words (down_write_next d (DownWriteStep.Enters Transition.Loads)) in
        enters_near w.words after d 1 (transition_after on_enter Transition.Loads (w.words.sync d.level))
        (enter_by Transition.Loads after.sync (update_at w.words.sync d.level (w.words.sync d.level)))
        (more_same on_enter w.words d.level Transition.Loads)
    closing_nears (DownWriteStep.Enters (Transition.Exchanges from to)) here fits free =
        let after : Words = after_event w.words (down_write_next d (DownWriteStep.Enters (Transition.Exchanges from to))) in
        enters_near w.words after d (exchange_rank (w.words.sync d.level) (Transition.Exchanges from to))
        (transition_after on_enter (Transition.Exchanges from to) (w.words.sync d.level))
        (enter_by (Transition.Exchanges from to) after.sync
        (update_at w.words.sync d.level (left (transition_next d.level (Transition.Exchanges from to)).1 (w.words.sync d.level))))
        (more_same on_enter w.words d.level (Transition.Exchanges from to))
    closing_nears (DownWriteStep.AwaitsSections g) here fits free =
        waits_near w.words (after_event w.words (down_write_next d (DownWriteStep.AwaitsSections g))) d (grace_left g) 1
        (looked g (w.words.section g.task))
        (omega (arith, fits.0, fits.1)) (look_nears g (w.words.section g.task) (omega (arith, fits.0, fits.1)) free)
    closing_nears (DownWriteStep.CallsBack Transition.Loads) here fits free =
        let after : Words = after_event w.words (down_write_next d (DownWriteStep.CallsBack Transition.Loads)) in
        calls_near w.words after d 1 (transition_after on_callback Transition.Loads (w.words.sync d.level))
        (call_by (ap entering here) Transition.Loads after.sync (update_at w.words.sync d.level (w.words.sync d.level)))
        (more_same on_callback w.words d.level Transition.Loads)
    closing_nears (DownWriteStep.CallsBack (Transition.Exchanges from to)) here fits free =
        let after : Words = after_event w.words (down_write_next d (DownWriteStep.CallsBack (Transition.Exchanges from to))) in
        calls_near w.words after d (exchange_rank (w.words.sync d.level) (Transition.Exchanges from to))
        (transition_after on_callback (Transition.Exchanges from to) (w.words.sync d.level))
        (call_by (ap entering here) (Transition.Exchanges from to) after.sync
        (update_at w.words.sync d.level (left (transition_next d.level (Transition.Exchanges from to)).1 (w.words.sync d.level))))
        (more_same on_callback w.words d.level (Transition.Exchanges from to))
    closing_nears DownWriteStep.AwaitsPassed here fits free =
        let p : is_passed rule.word.state ≡ true =
        writer_passed c.tasks rule.word (w.words.block d.level) (is_frozen_whole w.words) w.words.section role rule.holds t lt
        (ap entered here) (ap entering here) in
        let u : unpack (w.words.sync d.level) ≡ Some rule.word = rule.packed in
        rw (u, p) (inl (omega arith))
    closing_nears DownWriteStep.SetsBlock here fits free =
        let b : w.words.block d.level ≡ 0 =
        block_clear c.tasks rule.word (w.words.block d.level) (is_frozen_whole w.words) w.words.section role rule.holds t lt
        (ap entered here) (ap closed here) in
        let e : (w.words.block d.level == 0) ≡ true = eq-eqb (w.words.block d.level) 0 b in
        rw e (inl (omega arith))
    closing_nears (DownWriteStep.Sums sum) here fits free =
        let same : after_event w.words (down_write_next d (DownWriteStep.Sums sum)) ≡ w.words = load_same w.words (WordName.LevelCount d.level sum.words) in
        subst (λ (after : Words). ClosingNears w.words after d (DownWriteStep.Sums sum)
        (down_write_after d (DownWriteStep.Sums sum) (w.words.level d.level sum.words)).0) (sym same)
        (sums_near w.words d sum (omega (arith, fits, processors)) free)

    -- and each that waits
    pub closing_stays : (s : DownWriteStep) → DownWriteStepFits c s → closing_waits w.words d s ≡ true →
        (after_event w.words (down_write_next d s) ≡ w.words) ×
        ClosingStays w.words d s (down_write_after d s (found_by (down_write_next d s).1 (read w.words (down_write_next d s).0))).0
    closing_stays s fits waits = grind (arith, load_same, looks_stay, look_stays, sums_stay)

  -- what comes after a step of the opening of a level
  module _ (u : UpWrite) (one : 1 ≤ u.level) (three : u.level ≤ 3) where
    abbrev pub OpeningNears : Words → UpWriteStep → Next UpWrite → Type 0
    OpeningNears after s (Next.Go y) =
        (y.level ≡ u.level) × ((opening_left y.level y.step < opening_left u.level s) ⊎
        ((opening_left y.level y.step ≤ opening_left u.level s) × (opening_tries after y y.step < opening_tries w.words u s) × (after ≡ w.words)))
    OpeningNears after s (Next.Wait y) = ⊥
    OpeningNears after s (Next.Done answer) = 2 * u.level ≤ opening_left u.level s

    exits_near : (after : Words) (x : Transition) (next : TransitionNext) →
        ExchangeFalls (after.sync u.level) (exchange_rank (w.words.sync u.level) x) ⊥ next → IfMore (after ≡ w.words) next →
        OpeningNears after (UpWriteStep.Exits x) (exit_made u next)
    exits_near after x next h same = grind arith

    exit_by : entered (sync_role_of u.level (w.views t).phase) ≡ 1 → entering (sync_role_of u.level (w.views t).phase) ≡ 0 →
        (x : Transition) (sync : ℕ → ℕ) → sync u.level ≡ left (transition_next u.level x).1 (w.words.sync u.level) →
        ExchangeFalls (sync u.level) (exchange_rank (w.words.sync u.level) x) ⊥
        (transition_after on_exit x (found_by (transition_next u.level x).1 (w.words.sync u.level)))
    exit_by here past x sync is =
        let s : SyncHoldsIn c w u.level = good (SyncAt u.level) one three in
        defined_falls (sync u.level) (exchange_rank (w.words.sync u.level) x) (on_exit s.word ≡ None)
        (exit_defined c.tasks s.word (w.words.block u.level) (is_frozen_whole w.words) w.words.section
        (λ y. sync_role_of u.level (w.views y).phase) s.holds t lt here past)
        (transition_after on_exit x (found_by (transition_next u.level x).1 (w.words.sync u.level)))
        (exchange_falls on_exit (w.words.sync u.level) (sync u.level) u.level s.word s.packed x is)

    pub opening_nears : (s : UpWriteStep) → sync_role_of u.level (w.views t).phase ≡ up_write_role s →
        OpeningNears (after_event w.words (up_write_next u s)) s
        (up_write_after u s (found_by (up_write_next u s).1 (read w.words (up_write_next u s).0))).0
    opening_nears UpWriteStep.ClearsBlock here = (refl, inl (omega arith))
    opening_nears (UpWriteStep.Exits Transition.Loads) here =
        let after : Words = after_event w.words (up_write_next u (UpWriteStep.Exits Transition.Loads)) in
        exits_near after Transition.Loads (transition_after on_exit Transition.Loads (w.words.sync u.level))
        (exit_by (ap entered here) (ap entering here) Transition.Loads after.sync (update_at w.words.sync u.level (w.words.sync u.level)))
        (more_same on_exit w.words u.level Transition.Loads)
    opening_nears (UpWriteStep.Exits (Transition.Exchanges from to)) here =
        let after : Words = after_event w.words (up_write_next u (UpWriteStep.Exits (Transition.Exchanges from to))) in
        exits_near after (Transition.Exchanges from to) (transition_after on_exit (Transition.Exchanges from to) (w.words.sync u.level))
        (exit_by (ap entered here) (ap entering here) (Transition.Exchanges from to) after.sync
        (update_at w.words.sync u.level (left (transition_next u.level (Transition.Exchanges from to)).1 (w.words.sync u.level))))
        (more_same on_exit w.words u.level (Transition.Exchanges from to))
