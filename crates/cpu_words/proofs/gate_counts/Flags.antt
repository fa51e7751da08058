-- Each step of a task that bars a gate keeps what holds there: it sets the flag, reads the words, shuts what may be shut, clears the flag.
use Rattle.finite_sums.{proofs.Totals.{total_add, total_at, total_bound, total_le, total_none, total_zero}, specs.Sums.{total, update}}
use Rattle.std.proofs.{Common.{ap, arith, subst, suc, ℕ, ◌%◌, ◌*◌, ◌+◌, ◌<◌, ◌≡◌, ◌≤◌}, lemmas.Grind.common_steps}
use Rattle.cpu_words.proofs.gate_counts.{Events.{flag_event, words_sum}, Numbers.{ahead_none, ahead_past, ahead_step, below_first, below_le}}
use Rattle.cpu_words.{proofs.gate_counts.Numbers.below_step, specs.{Sums.ahead, Touches.wrap_add, gate_counts.Gates.{Apart, Barring, BarringHolds}}}
use Rattle.cpu_words.specs.gate_counts.Gates.{GateHolds, GateView, ReadZero, Reading, admitted, bars, counted, past, unread}

module _ {tasks processors bit unowned : ℕ} {shut : ℕ → Type 0} {count : ℕ → ℕ} {at : ℕ → GateView}
    (good : GateHolds tasks processors bit unowned shut count at) where
  pub nobody : total tasks (λ x. admitted (at x)) ≡ 0 → (i : ℕ) → total tasks (λ x. past i (at x)) ≡ 0
  nobody none i =
      total_none tasks _ (λ x lx. omega (arith, none, total_at tasks x (λ y. admitted (at y)) lx, below_first i (at x).questions))

  pub none_held : (i : ℕ) → total tasks (λ x. past i (at x)) ≡ 0 → total tasks (λ x. (at x).held) ≡ 0
  none_held i none = total_none tasks _ (λ x lx. omega (arith, none, total_at tasks x (λ y. past i (at y)) lx))

  -- what a task that has the flag set may say here
  abbrev pub MaySay : Barring → Type 0
  MaySay = BarringHolds processors count (total tasks (λ x. admitted (at x))) (λ k. total tasks (λ x. unread k (at x)))

  -- nobody is admitted where a sum was 0, as long as the flag is set
  pub none_admitted : (t : ℕ) → t < tasks → (at t).barring ≡ ReadZero → total tasks (λ x. admitted (at x)) ≡ 0
  none_admitted t lt e = subst MaySay e (good.sums t lt)

  -- conditions begin to stand, or end, where no task is past their questions
  pub shuts : (shut' : ℕ → Type 0) → ((i : ℕ) → shut' i → total tasks (λ x. past i (at x)) ≡ 0) →
      GateHolds tasks processors bit unowned shut' count at
  shuts shut' h = record { counts = good.counts; room = good.room; flag = good.flag; sums = good.sums; open_to = h }

  module _ (few : tasks ≤ 64) (narrow : processors ≤ 64) where
    pub sum_begins : 0 < processors → MaySay (Reading 0 0)
    sum_begins some =
        let a : total tasks (λ x. admitted (at x)) ≤ tasks * 1024 = total_bound tasks 1024 _ good.room in
        let u : total tasks (λ x. unread 0 (at x)) ≤ tasks * 1 = total_bound tasks 1 _ (λ x lx. below_le 0 (at x).sought_on) in
        let parts : total tasks (λ x. counted (at x)) ≡ total tasks (λ x. admitted (at x)) + total tasks (λ x. unread 0 (at x)) =
        total_add tasks (λ x. admitted (at x)) (λ x. unread 0 (at x)) in
        let facts : (total processors count % 18446744073709551616 ≡ total tasks (λ x. counted (at x)) % 18446744073709551616) ×
        (ahead processors count 0 ≡ total processors count) = (words_sum good.counts, ahead_none processors count) in
        (some, omega (arith, a, u, parts, facts), omega (arith, a, u, parts, facts))

    pub sum_goes : (k sum : ℕ) → suc k < processors → MaySay (Reading k sum) → MaySay (Reading (suc k) (wrap_add sum (count k)))
    sum_goes k sum more d =
        let s : ahead processors count k ≡ count k + ahead processors count (suc k) = ahead_step processors k count d.0 in
        let down : total tasks (λ x. unread (suc k) (at x)) ≤ total tasks (λ x. unread k (at x)) =
        total_le tasks _ _ (λ x lx. (below_step k (at x).sought_on).0) in
        let up : total tasks (λ x. unread k (at x)) ≤ total tasks (λ x. unread (suc k) (at x) + 1) =
        total_le tasks _ _ (λ x lx. (below_step k (at x).sought_on).1) in
        let one : total tasks (λ x. unread (suc k) (at x) + 1) ≡ total tasks (λ x. unread (suc k) (at x)) + total tasks (λ x. 1) =
        total_add tasks _ _ in
        let b : total tasks (λ x. 1) ≤ tasks * 1 = total_bound tasks 1 _ (λ x lx. omega arith) in
        (more, omega (arith, d), omega (arith, d))

    pub sum_ends : (k sum : ℕ) → suc k ≡ processors → wrap_add sum (count k) ≡ 0 → MaySay (Reading k sum) → MaySay ReadZero
    sum_ends k sum last zero_sum d = grind (arith, common_steps, ahead, ahead_step, ahead_past)

  module _ (t : ℕ) (lt : t < tasks) where
    -- the gate after a step of the task that bars it
    abbrev HoldsAfter : (bit' unowned' : ℕ) → Barring → Type 0
    HoldsAfter bit' unowned' b = GateHolds tasks processors bit' unowned' shut count (update at t (record (at t) { barring = b }))

    pub bars_gate : tasks ≤ 64 → processors ≤ 64 → 0 < processors → (at t).barring ≡ Apart → bit ≡ 0 → HoldsAfter 1 unowned (Reading 0 0)
    bars_gate few narrow some apart clear =
        flag_event good t lt (Reading 0 0) 1 unowned shut (omega (arith, ap bars apart, clear)) (sum_begins few narrow some) good.open_to

    -- a word is read, and more are to come
    pub reads_on : tasks ≤ 64 → processors ≤ 64 → (k sum : ℕ) → (at t).barring ≡ Reading k sum → suc k < processors →
        HoldsAfter bit unowned (Reading (suc k) (wrap_add sum (count k)))
    reads_on few narrow k sum e more =
        flag_event good t lt (Reading (suc k) (wrap_add sum (count k))) bit unowned shut (omega (arith, ap bars e))
        (sum_goes few narrow k sum more (subst MaySay e (good.sums t lt))) good.open_to

    -- the last word is read, and the sum is 0
    pub reads_zero : tasks ≤ 64 → processors ≤ 64 → (k sum : ℕ) → (at t).barring ≡ Reading k sum → suc k ≡ processors →
        wrap_add sum (count k) ≡ 0 → HoldsAfter bit unowned ReadZero
    reads_zero few narrow k sum e last z =
        flag_event good t lt ReadZero bit unowned shut (omega (arith, ap bars e))
        (sum_ends few narrow k sum last z (subst MaySay e (good.sums t lt))) good.open_to

    pub begins_anew : tasks ≤ 64 → processors ≤ 64 → bars (at t).barring ≡ 1 → 0 < processors → HoldsAfter bit unowned (Reading 0 0)
    begins_anew few narrow one some =
        flag_event good t lt (Reading 0 0) bit unowned shut (omega (arith, one)) (sum_begins few narrow some) good.open_to

    pub opens_gate : bars (at t).barring ≡ 1 → bit ≡ 1 → HoldsAfter 0 unowned Apart
    opens_gate one set = flag_event good t lt Apart 0 unowned shut (omega (arith, one, set)) tt good.open_to

    -- after a sum of 0 the flag may be left set, while conditions begin
    pub leaves_it_set : (shut' : ℕ → Type 0) → (at t).barring ≡ ReadZero → unowned ≡ 0 →
        GateHolds tasks processors bit 1 shut' count (update at t (record (at t) { barring = Apart }))
    leaves_it_set shut' e none =
        flag_event good t lt Apart bit 1 shut' (omega (arith, ap bars e, none)) tt (λ i s. nobody (none_admitted t lt e) i)

    -- who finds it left so, and nobody admitted, may take it over
    pub takes_it_over : (shut' : ℕ → Type 0) → (at t).barring ≡ Apart → unowned ≡ 1 → shut 0 →
        GateHolds tasks processors bit 0 shut' count (update at t (record (at t) { barring = ReadZero }))
    takes_it_over shut' e one none =
        flag_event good t lt ReadZero bit 0 shut' (omega (arith, ap bars e, one)) (good.open_to 0 none)
        (λ i s. nobody (good.open_to 0 none) i)

-- where nobody has done anything, every condition may stand
pub gate_begins : (tasks processors : ℕ) (shut : ℕ → Type 0) →
    GateHolds tasks processors 0 0 shut (λ p. 0)
    (λ t. record { held = 0; added = λ p. 0; taken = λ p. 0; questions = 0; sought_on = 0; barring = Apart })
gate_begins tasks processors shut = grind (arith, common_steps, total_zero, total_none)
