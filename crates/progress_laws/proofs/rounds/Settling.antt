-- A step that doesn't wait lowers the potential, and one that has to wait leaves it: so all comes to wait, whoever of the others is lost.
use Rattle.progress_laws.proofs.Prelude.{AllWait, Bool, Config, DownWrite, DownWriteStep, FreezeStep, HookAnswer, IsGood, IsWithin, Next, None, Ok}
use Rattle.progress_laws.proofs.Prelude.{Option, Phase, Some, ThawStep, UpWrite, UpWriteStep, View, Words, World, after_of, after_step, ap, arith}
use Rattle.progress_laws.proofs.Prelude.{cases_Bool, closing_tries, eqb_tells, exchange_rank, false, fits_at, found_at, freeze_tries, happens_is}
use Rattle.progress_laws.proofs.Prelude.{held_of, inl, inr, is_outside, must_wait, opening_tries, phase_after, refl, stands_after, start_steps}
use Rattle.progress_laws.proofs.Prelude.{steps_left, subst, suc, sym, total, total_le, tries_left, true, true≢false, turns_left, update_off, value_at}
use Rattle.progress_laws.proofs.Prelude.{view_after, zero, ℕ, ◌*◌, ◌+◌, ◌<◌, ◌∙◌, ◌≡◌, ◌≤◌, ◌⊎◌}
use Rattle.finite_sums.proofs.Totals.{total_add, total_bound, total_same}
use Rattle.gate_schedules.proofs.operations.{AllOperations.phase_keeps, deadlocks.FreezeProgress.{not_none, search_below}}
use Rattle.gate_schedules.specs.operations.Progress.{IsUnderWay}
use Rattle.progress_laws.proofs.nearer.AllNearer.{RoomFalls, phase_comes, room_falls, starts_small, steps_small, tries_small}
use Rattle.progress_laws.proofs.nearer.Changes.{CountsChanges, EndsBy, KeepsBy, SameLevels, changes_count, changes_small, waits_keep}
use Rattle.progress_laws.proofs.nearer.Nearer.{ComesNearer, StaysWaiting, goes_on, on_waits, waits_on}
use Rattle.progress_laws.{proofs.rounds.Potentials.{as_one_small, moves_fall, steps_fall, total_lower_by, tries_fall}, specs.LostTasks.SettlesAmong}
use Rattle.progress_laws.specs.StepsLeft.{all_changes, all_start_steps, all_steps, all_tries, as_one, changes_left, changes_of, most_changes}
use Rattle.progress_laws.specs.StepsLeft.{most_steps, most_turns, potential, start_room, start_room_of, start_steps_of, steps_of, thaw_tries}
use Rattle.progress_laws.specs.StepsLeft.{tries_of, try_room, try_room_of}

-- a start reads nothing but `block`
starts_same : (w after : Words) → after.block ≡ w.block → (p : Option Phase) → start_steps_of after p ≡ start_steps_of w p
starts_same w after same p = grind arith

-- a try reads nothing but a level's sync word and its counts
closing_same : (w after : Words) → SameLevels w after → (d : DownWrite) (s : DownWriteStep) → closing_tries after d s ≡ closing_tries w d s
closing_same w after same d s = grind arith

opening_same : (w after : Words) → SameLevels w after → (u : UpWrite) (s : UpWriteStep) → opening_tries after u s ≡ opening_tries w u s
opening_same w after same u (UpWriteStep.Exits x) = ap (λ f. exchange_rank (f u.level) x) same.1
opening_same w after same u s = refl

freeze_same : (w after : Words) → SameLevels w after → (s : FreezeStep) → freeze_tries after s ≡ freeze_tries w s
freeze_same w after same s = grind (arith, closing_same, opening_same)

thaw_same : (w after : Words) → SameLevels w after → (s : ThawStep) → thaw_tries after s ≡ thaw_tries w s
thaw_same w after same (ThawStep.Reopens u) = opening_same w after same u u.step
thaw_same w after same s = refl

tries_same : (w after : Words) → SameLevels w after → (p : Option Phase) → tries_of after p ≡ tries_of w p
tries_same w after same p = grind (arith, freeze_same, thaw_same)

-- what a task is at has to wait, or is nothing
abbrev pub waits_of : Words → Option Phase → Bool
waits_of w None = true
waits_of w (Some phase) = must_wait w phase

abbrev pub waits_at : World → ℕ → Bool
waits_at w t = waits_of w.words (w.views t).phase

pub start_room_few : (p : Option Phase) → start_room_of p ≤ 7
start_room_few p = grind arith

try_room_few : (processors : ℕ) (p : Option Phase) → try_room_of processors p ≤ 2 * processors + 2
try_room_few processors p = grind arith

-- the last two numbers have no more room than this
abbrev pub IsRoomy : ℕ → ℕ → Config → World → Type 0
IsRoomy starts tries c w = (start_room c w ≤ starts) × (try_room c w ≤ tries)

module _ (c : Config) (lim : IsWithin c) where
  pub step_good : (w : World) → IsGood c w → (t : ℕ) → t < c.tasks → (hook : HookAnswer) → (phase : Phase) → (w.views t).phase ≡ Some phase →
      IsGood c (after_step w t phase hook)
  step_good w good t lt hook phase at = ((phase_keeps c phase).step lim w good t lt hook at).0

  -- the numbers of all tasks are below their bounds
  module _ (w : World) (good : IsGood c w) where
    steps_at : (t : ℕ) → t < c.tasks → (p : Option Phase) → (w.views t).phase ≡ p → steps_of p ≤ most_steps c
    steps_at t lt None at = omega arith
    steps_at t lt (Some phase) at = steps_small c lim w.words t (held_of (w.views t)) phase (fits_at c w good t lt phase at)

    starts_at : (p : Option Phase) → start_steps_of w.words p ≤ start_room_of p
    starts_at None = omega arith
    starts_at (Some phase) = starts_small w.words phase

    tries_at : (t : ℕ) → t < c.tasks → (p : Option Phase) → (w.views t).phase ≡ p → tries_of w.words p ≤ try_room_of c.processors p
    tries_at t lt None at = omega arith
    tries_at t lt (Some phase) at = tries_small c w.words t (held_of (w.views t)) phase (fits_at c w good t lt phase at)

    steps_below : all_steps c w ≤ c.tasks * most_steps c
    steps_below = total_bound c.tasks (most_steps c) (λ t. steps_of (w.views t).phase) (λ t lt. steps_at t lt (w.views t).phase refl)

    starts_below : all_start_steps c w ≤ start_room c w
    starts_below =
        total_le c.tasks (λ t. start_steps_of w.words (w.views t).phase) (λ t. start_room_of (w.views t).phase) (λ t lt. starts_at (w.views t).phase)

    tries_below : all_tries c w ≤ try_room c w
    tries_below =
        total_le c.tasks (λ t. tries_of w.words (w.views t).phase) (λ t. try_room_of c.processors (w.views t).phase)
        (λ t lt. tries_at t lt (w.views t).phase refl)

    room_few : start_room c w ≤ c.tasks * 7
    room_few = total_bound c.tasks 7 (λ t. start_room_of (w.views t).phase) (λ t lt. start_room_few (w.views t).phase)

    tries_few : try_room c w ≤ c.tasks * (2 * c.processors + 2)
    tries_few =
        total_bound c.tasks (2 * c.processors + 2) (λ t. try_room_of c.processors (w.views t).phase)
        (λ t lt. try_room_few c.processors (w.views t).phase)

    moves_at : (turn t : ℕ) → t < c.tasks → (p : Option Phase) → (w.views t).phase ≡ p → changes_of turn p + start_steps_of w.words p ≤ 6 * turn + 9
    moves_at turn t lt None at = omega arith
    moves_at turn t lt (Some phase) at = changes_small turn c w.words t (held_of (w.views t)) phase (fits_at c w good t lt phase at)

    moves_few : all_changes (start_room c w + 1) c w + all_start_steps c w ≤ c.tasks * most_changes c
    moves_few =
        let few : total c.tasks (λ t. changes_of (start_room c w + 1) (w.views t).phase + start_steps_of w.words (w.views t).phase) ≤ c.tasks * most_changes c =
        total_bound c.tasks (most_changes c) (λ t. changes_of (start_room c w + 1) (w.views t).phase + start_steps_of w.words (w.views t).phase)
        (λ t lt. omega (arith, moves_at (start_room c w + 1) t lt (w.views t).phase refl, room_few)) in
        omega (arith, few, total_add c.tasks (λ t. changes_of (start_room c w + 1) (w.views t).phase) (λ t. start_steps_of w.words (w.views t).phase))

    pub turns_few : turns_left c w ≤ most_turns c
    turns_few =
        omega (
          arith,
          as_one_small (try_room c w) (c.tasks * (2 * c.processors + 2)) (c.tasks * most_steps c) (c.tasks * most_changes c) (all_steps c w)
              (all_changes (start_room c w + 1) c w) (all_start_steps c w) (all_tries c w) tries_few steps_below moves_few tries_below,
        )

  module _ (w : World) (good : IsGood c w) (t : ℕ) (lt : t < c.tasks) (phase : Phase) (at : (w.views t).phase ≡ Some phase) (hook : HookAnswer) where
    abbrev next : World
    next = after_step w t phase hook

    next_good : IsGood c next
    next_good = step_good w good t lt hook phase at

    beside : (x : ℕ) → (x ≡ t → ⊥) → (next.views x).phase ≡ (w.views x).phase
    beside x ne = ap (λ (v : View). v.phase) (update_off w.views t (view_after (w.views t) phase (value_at w.words phase hook) hook) x ne)

    -- what comes next has no more room
    room_by : (coming : Next Phase) → (next.views t).phase ≡ phase_after coming → RoomFalls c phase coming →
        (start_room_of (next.views t).phase ≤ start_room_of (Some phase)) ×
        (try_room_of c.processors (next.views t).phase ≤ try_room_of c.processors (Some phase))
    room_by coming is h = grind arith

    pub next_roomy : (starts tries : ℕ) → IsRoomy starts tries c w → IsRoomy starts tries c next
    next_roomy starts tries roomy =
        let h = room_by (after_of phase (found_at w.words phase hook) hook).0 (stands_after c w t lt hook phase at)
        (room_falls c phase (found_at w.words phase hook) hook) in
        let a : start_room c next ≤ start_room c w =
        total_le c.tasks (λ x. start_room_of (next.views x).phase) (λ x. start_room_of (w.views x).phase) (λ x lx. elim (eqb_tells x t) [
          | inl e ↦ omega (arith, h.0, ap start_room_of at, ap (λ y. start_room_of (next.views y).phase) e.1, ap (λ y. start_room_of (w.views y).phase) e.1)
          | inr ne ↦ omega (arith, ap start_room_of (beside x ne.1))
        ]) in
        let b : try_room c next ≤ try_room c w =
        total_le c.tasks (λ x. try_room_of c.processors (next.views x).phase) (λ x. try_room_of c.processors (w.views x).phase)
        (λ x lx. elim (eqb_tells x t) [
          | inl e ↦ omega (
            arith,
            h.1,
            ap (try_room_of c.processors) at,
            ap (λ y. try_room_of c.processors (next.views y).phase) e.1,
            ap (λ y. try_room_of c.processors (w.views y).phase) e.1,
          )
          | inr ne ↦ omega (arith, ap (try_room_of c.processors) (beside x ne.1))
        ]) in
        (omega (arith, a, roomy.0), omega (arith, b, roomy.1))

    module _ (starts tries : ℕ) (roomy : IsRoomy starts tries c w) where
      few_starts : all_start_steps c next ≤ starts
      few_starts = omega (arith, starts_below next next_good, (next_roomy starts tries roomy).0)

      few_tries : all_tries c next ≤ tries
      few_tries = omega (arith, tries_below next next_good, (next_roomy starts tries roomy).1)

    -- of all tasks, from what this one has
    all_le : (f g : Option Phase → ℕ) → ((x : ℕ) → (x ≡ t → ⊥) → f (next.views x).phase ≤ g (w.views x).phase) → f (next.views t).phase ≤ g (w.views t).phase →
        total c.tasks (λ x. f (next.views x).phase) ≤ total c.tasks (λ x. g (w.views x).phase)
    all_le f g others here =
        total_le c.tasks (λ x. f (next.views x).phase) (λ x. g (w.views x).phase) (λ x lx. elim (eqb_tells x t) [
          | inl e ↦ omega (arith, here, ap (λ y. f (next.views y).phase) e.1, ap (λ y. g (w.views y).phase) e.1)
          | inr ne ↦ others x ne.1
        ])

    all_lower : (by : ℕ) (f g : Option Phase → ℕ) → ((x : ℕ) → (x ≡ t → ⊥) → f (next.views x).phase ≤ g (w.views x).phase) →
        f (next.views t).phase + by ≤ g (w.views t).phase →
        total c.tasks (λ x. f (next.views x).phase) + by ≤ total c.tasks (λ x. g (w.views x).phase)
    all_lower by f g others here =
        total_lower_by c.tasks t by (λ x. g (w.views x).phase) (λ x. f (next.views x).phase) lt (λ x lx ne. others x ne) here

    -- of another task: as many steps and changes; as many steps of a start if each `block` is as it was; as many tries if no level's words are changed
    steps_beside : (x : ℕ) → (x ≡ t → ⊥) → steps_of (next.views x).phase ≤ steps_of (w.views x).phase
    steps_beside x ne = omega (arith, ap steps_of (beside x ne))

    changes_beside : (turn x : ℕ) → (x ≡ t → ⊥) → changes_of turn (next.views x).phase ≤ changes_of turn (w.views x).phase
    changes_beside turn x ne = omega (arith, ap (changes_of turn) (beside x ne))

    starts_beside : next.words.block ≡ w.words.block → (x : ℕ) → (x ≡ t → ⊥) →
        start_steps_of next.words (next.views x).phase ≤ start_steps_of w.words (w.views x).phase
    starts_beside same x ne =
        omega (arith, starts_same w.words next.words same (next.views x).phase, ap (start_steps_of w.words) (beside x ne))

    tries_beside : SameLevels w.words next.words → (x : ℕ) → (x ≡ t → ⊥) → tries_of next.words (next.views x).phase ≤ tries_of w.words (w.views x).phase
    tries_beside same x ne = omega (arith, tries_same w.words next.words same (next.views x).phase, ap (tries_of w.words) (beside x ne))

    all_moves_lower : (turn : ℕ) → next.words.block ≡ w.words.block →
        changes_of turn (next.views t).phase + start_steps_of next.words (next.views t).phase <
        changes_of turn (w.views t).phase + start_steps_of w.words (w.views t).phase →
        all_changes turn c next + all_start_steps c next < all_changes turn c w + all_start_steps c w
    all_moves_lower turn same here =
        let a : total c.tasks (λ x. changes_of turn (next.views x).phase + start_steps_of next.words (next.views x).phase) + 1 ≤
        total c.tasks (λ x. changes_of turn (w.views x).phase + start_steps_of w.words (w.views x).phase) =
        all_lower 1 (λ p. changes_of turn p + start_steps_of next.words p) (λ p. changes_of turn p + start_steps_of w.words p)
        (λ x ne. omega (arith, changes_beside turn x ne, starts_beside same x ne)) (omega (arith, here)) in
        omega (
          arith,
          a,
          total_add c.tasks (λ x. changes_of turn (next.views x).phase) (λ x. start_steps_of next.words (next.views x).phase),
          total_add c.tasks (λ x. changes_of turn (w.views x).phase) (λ x. start_steps_of w.words (w.views x).phase),
        )

    module _ (starts tries : ℕ) (roomy : IsRoomy starts tries c w) where
      abbrev turn : ℕ
      turn = starts + 1

      -- what each number of this task leaves of the potential
      by_steps : steps_of (next.views t).phase < steps_of (w.views t).phase →
          changes_of turn (next.views t).phase ≤ changes_of turn (w.views t).phase →
          start_steps_of next.words (next.views t).phase ≤ start_steps_of w.words (w.views t).phase →
          tries_of next.words (next.views t).phase ≤ tries_of w.words (w.views t).phase → SameLevels w.words next.words →
          potential starts tries c next < potential starts tries c w
      by_steps a k b d same =
          steps_fall tries (all_steps c w) (all_steps c next) (all_changes turn c w) (all_changes turn c next) (all_start_steps c w)
          (all_start_steps c next) (all_tries c w) (all_tries c next)
          (omega (arith, all_lower 1 steps_of steps_of steps_beside (omega (arith, a))))
          (omega (
            arith,
            all_le (changes_of turn) (changes_of turn) (changes_beside turn) k,
            all_le (start_steps_of next.words) (start_steps_of w.words) (starts_beside same.0) b,
          ))
          (all_le (tries_of next.words) (tries_of w.words) (tries_beside same) d)

      by_moves : steps_of (next.views t).phase ≤ steps_of (w.views t).phase → next.words.block ≡ w.words.block →
          changes_of turn (next.views t).phase + start_steps_of next.words (next.views t).phase <
          changes_of turn (w.views t).phase + start_steps_of w.words (w.views t).phase →
          potential starts tries c next < potential starts tries c w
      by_moves a same m =
          moves_fall tries (all_steps c w) (all_steps c next) (all_changes turn c w) (all_changes turn c next) (all_start_steps c w)
          (all_start_steps c next) (all_tries c w) (all_tries c next)
          (all_le steps_of steps_of steps_beside a) (all_moves_lower turn same m) (few_tries starts tries roomy)

      by_turn : steps_of (next.views t).phase ≤ steps_of (w.views t).phase →
          changes_of turn (next.views t).phase + turn ≤ changes_of turn (w.views t).phase →
          potential starts tries c next < potential starts tries c w
      by_turn a k =
          moves_fall tries (all_steps c w) (all_steps c next) (all_changes turn c w) (all_changes turn c next) (all_start_steps c w)
          (all_start_steps c next) (all_tries c w) (all_tries c next)
          (all_le steps_of steps_of steps_beside a)
          (omega (arith, all_lower turn (changes_of turn) (changes_of turn) (changes_beside turn) k, few_starts starts tries roomy))
          (few_tries starts tries roomy)

      by_tries : steps_of (next.views t).phase ≤ steps_of (w.views t).phase →
          changes_of turn (next.views t).phase ≤ changes_of turn (w.views t).phase →
          start_steps_of next.words (next.views t).phase ≤ start_steps_of w.words (w.views t).phase →
          tries_of next.words (next.views t).phase < tries_of w.words (w.views t).phase → SameLevels w.words next.words →
          potential starts tries c next < potential starts tries c w
      by_tries a k b d same =
          tries_fall tries (all_steps c w) (all_steps c next) (all_changes turn c w) (all_changes turn c next) (all_start_steps c w)
          (all_start_steps c next) (all_tries c w) (all_tries c next)
          (all_le steps_of steps_of steps_beside a)
          (omega (
            arith,
            all_le (changes_of turn) (changes_of turn) (changes_beside turn) k,
            all_le (start_steps_of next.words) (start_steps_of w.words) (starts_beside same.0) b,
          ))
          (omega (arith, all_lower 1 (tries_of next.words) (tries_of w.words) (tries_beside same) (omega (arith, d))))

      few_steps : (q : Phase) → (next.views t).phase ≡ Some q → ComesNearer w.words next.words phase (Next.Go q) →
          steps_of (next.views t).phase ≤ steps_of (w.views t).phase
      few_steps q is h = grind arith

      -- what comes next lowers the potential
      falls_to : (q : Phase) → (next.views t).phase ≡ Some q →
          ComesNearer w.words next.words phase (Next.Go q) → CountsChanges turn w.words next.words phase (Next.Go q) →
          potential starts tries c next < potential starts tries c w
      falls_to q is nears (inl k) = by_turn (few_steps q is nears) (omega (arith, k, ap (changes_of turn) is, ap (changes_of turn) at))
      falls_to q is nears (inr (inl m)) =
          by_moves (few_steps q is nears) m.1
          (omega (arith, m.0, ap (changes_of turn) is, ap (changes_of turn) at, ap (start_steps_of next.words) is, ap (start_steps_of w.words) at))
      falls_to q is (inl a) (inr (inr m)) =
          by_steps (omega (arith, a, ap steps_of is, ap steps_of at)) (omega (arith, m.0, ap (changes_of turn) is, ap (changes_of turn) at))
          (omega (arith, m.1, ap (start_steps_of next.words) is, ap (start_steps_of w.words) at))
          (omega (arith, m.2 a, ap (tries_of next.words) is, ap (tries_of w.words) at)) m.3
      falls_to q is (inr (inl h)) (inr (inr m)) =
          by_moves (omega (arith, h.0, ap steps_of is, ap steps_of at)) h.2
          (omega (arith, m.0, h.1, ap (changes_of turn) is, ap (changes_of turn) at, ap (start_steps_of next.words) is, ap (start_steps_of w.words) at))
      falls_to q is (inr (inr h)) (inr (inr m)) =
          by_tries (omega (arith, h.0, ap steps_of is, ap steps_of at)) (omega (arith, m.0, ap (changes_of turn) is, ap (changes_of turn) at))
          (omega (arith, h.1, ap (start_steps_of next.words) is, ap (start_steps_of w.words) at))
          (omega (arith, h.2, ap (tries_of next.words) is, ap (tries_of w.words) at)) m.3

      ends_to : (next.views t).phase ≡ None → EndsBy w.words next.words (changes_left turn phase + start_steps w.words phase) →
          potential starts tries c next < potential starts tries c w
      ends_to is h = grind (arith, by_steps, by_moves)

      falls_by : (coming : Next Phase) → (next.views t).phase ≡ phase_after coming → ComesNearer w.words next.words phase coming →
          CountsChanges turn w.words next.words phase coming → potential starts tries c next < potential starts tries c w
      falls_by coming is h k = grind (arith, falls_to, ends_to)

    pub step_falls : (starts tries : ℕ) → IsRoomy starts tries c w → waits_on w.words phase hook ≡ false → potential starts tries c next < potential starts tries c w
    step_falls starts tries roomy free =
        falls_by starts tries roomy (after_of phase (found_at w.words phase hook) hook).0 (stands_after c w t lt hook phase at)
        ((phase_comes c phase).nears lim w good t lt hook at free) (changes_count (starts + 1) c lim w good t lt hook phase at free)

    -- a step that has to wait leaves the potential, and who has to wait
    stays_to : (q : Phase) → (next.views t).phase ≡ Some q → must_wait w.words phase ≡ true → next.words ≡ w.words →
        ((turn : ℕ) → changes_left turn q ≡ changes_left turn phase) → (must_wait w.words q ≡ true) × (steps_left q ≡ steps_left phase) × (start_steps w.words q ≡ start_steps w.words phase) ×
        (tries_left w.words q ≡ tries_left w.words phase) →
        ((starts tries : ℕ) → potential starts tries c next ≡ potential starts tries c w) × ((y : ℕ) → waits_at next y ≡ waits_at w y)
    stays_to q is waits same keeps h =
        let a : all_steps c next ≡ all_steps c w =
        total_same c.tasks (λ x. steps_of (next.views x).phase) (λ x. steps_of (w.views x).phase) (λ x lx. elim (eqb_tells x t) [
          | inl e ↦ omega (arith, h.1, ap steps_of is, ap steps_of at, ap (λ y. steps_of (next.views y).phase) e.1, ap (λ y. steps_of (w.views y).phase) e.1)
          | inr ne ↦ ap steps_of (beside x ne.1)
        ]) in
        let b : all_start_steps c next ≡ all_start_steps c w =
        total_same c.tasks (λ x. start_steps_of next.words (next.views x).phase) (λ x. start_steps_of w.words (w.views x).phase)
        (λ x lx. ap (λ (v : Words). start_steps_of v (next.views x).phase) same ∙ elim (eqb_tells x t) [
          | inl e ↦ omega (
            arith,
            h.2,
            ap (start_steps_of w.words) is,
            ap (start_steps_of w.words) at,
            ap (λ y. start_steps_of w.words (next.views y).phase) e.1,
            ap (λ y. start_steps_of w.words (w.views y).phase) e.1,
          )
          | inr ne ↦ ap (start_steps_of w.words) (beside x ne.1)
        ]) in
        let k : (turn : ℕ) → all_changes turn c next ≡ all_changes turn c w =
        λ turn. total_same c.tasks (λ x. changes_of turn (next.views x).phase) (λ x. changes_of turn (w.views x).phase) (λ x lx. elim (eqb_tells x t) [
          | inl e ↦
              omega (
                arith,
                keeps turn,
                ap (changes_of turn) is,
                ap (changes_of turn) at,
                ap (λ y. changes_of turn (next.views y).phase) e.1,
                ap (λ y. changes_of turn (w.views y).phase) e.1,
              )
          | inr ne ↦ ap (changes_of turn) (beside x ne.1)
        ]) in
        let d : all_tries c next ≡ all_tries c w =
        total_same c.tasks (λ x. tries_of next.words (next.views x).phase) (λ x. tries_of w.words (w.views x).phase)
        (λ x lx. ap (λ (v : Words). tries_of v (next.views x).phase) same ∙ elim (eqb_tells x t) [
          | inl e ↦ omega (
            arith,
            h.3,
            ap (tries_of w.words) is,
            ap (tries_of w.words) at,
            ap (λ y. tries_of w.words (next.views y).phase) e.1,
            ap (λ y. tries_of w.words (w.views y).phase) e.1,
          )
          | inr ne ↦ ap (tries_of w.words) (beside x ne.1)
        ]) in (
          λ starts tries. ap (λ n. as_one tries n (all_changes (starts + 1) c next) (all_start_steps c next) (all_tries c next)) a ∙
              (ap (λ n. as_one tries (all_steps c w) n (all_start_steps c next) (all_tries c next)) (k (starts + 1)) ∙
              (ap (λ n. as_one tries (all_steps c w) (all_changes (starts + 1) c w) n (all_tries c next)) b ∙
              ap (λ n. as_one tries (all_steps c w) (all_changes (starts + 1) c w) (all_start_steps c w) n) d)),
          λ y. ap (λ (v : Words). waits_of v (next.views y).phase) same ∙ elim (eqb_tells y t) [
            | inl e ↦ ap (λ x. waits_of w.words (next.views x).phase) e.1 ∙ (ap (waits_of w.words) is ∙ (h.0 ∙ (sym waits ∙
                (sym (ap (waits_of w.words) at) ∙ sym (ap (λ x. waits_of w.words (w.views x).phase) e.1)))))
            | inr ne ↦ ap (waits_of w.words) (beside y ne.1)
          ],
        )

    stays_by : (coming : Next Phase) → (next.views t).phase ≡ phase_after coming → must_wait w.words phase ≡ true → next.words ≡ w.words →
        ((turn : ℕ) → KeepsBy (changes_left turn) (changes_left turn phase) coming) → StaysWaiting w.words phase coming →
        ((starts tries : ℕ) → potential starts tries c next ≡ potential starts tries c w) × ((y : ℕ) → waits_at next y ≡ waits_at w y)
    stays_by (Next.Go q) is waits same keeps h = stays_to q is waits same keeps h
    stays_by (Next.Wait q) is waits same keeps h = stays_to q is waits same keeps h
    stays_by (Next.Done answer) is waits same keeps h = absurd h

    pub step_stays : waits_on w.words phase hook ≡ true → is_outside w.words phase ≡ false →
        ((starts tries : ℕ) → potential starts tries c next ≡ potential starts tries c w) × ((y : ℕ) → waits_at next y ≡ waits_at w y)
    step_stays waits out =
        let h = (phase_comes c phase).stays lim w good t lt hook at waits out in
        stays_by (after_of phase (found_at w.words phase hook) hook).0 (stands_after c w t lt hook phase at) (on_waits w.words phase hook waits) h.0
        (λ turn. waits_keep turn w.words hook phase waits (found_at w.words phase hook)) h.1

    stays_on : (coming : Next Phase) → (next.views t).phase ≡ phase_after coming → StaysWaiting w.words phase coming → IsUnderWay next t
    stays_on (Next.Go q) is h = (q, is)
    stays_on (Next.Wait q) is h = (q, is)
    stays_on (Next.Done answer) is h = absurd h

    -- it changes no word, and is no reply
    pub step_same : waits_on w.words phase hook ≡ true → is_outside w.words phase ≡ false → (next.words ≡ w.words) × IsUnderWay next t
    step_same waits out =
        let h = (phase_comes c phase).stays lim w good t lt hook at waits out in
        (h.0, stays_on (after_of phase (found_at w.words phase hook) hook).0 (stands_after c w t lt hook phase at) h.1)

    pub others_same : (x : ℕ) → (x ≡ t → ⊥) → (next.views x).phase ≡ (w.views x).phase
    others_same = beside

  -- each of those that aren't lost has to wait, or one of them comes nearer
  pub wait_or_go : (lost : ℕ → Bool) (w : World) →
      ((t : ℕ) × (t < c.tasks) × (lost t ≡ false) × (phase : Phase) × ((w.views t).phase ≡ Some phase) × (must_wait w.words phase ≡ false)) ⊎
      AllWait c lost w
  wait_or_go lost w =
      elim (search_below c.tasks
      (λ t. (lost t ≡ false) × (phase : Phase) × ((w.views t).phase ≡ Some phase) × (must_wait w.words phase ≡ false))
      (λ t. lost t ≡ false → (phase : Phase) → (w.views t).phase ≡ Some phase → must_wait w.words phase ≡ true)
      (λ t lt. one t (w.views t).phase refl)) [
        | inl s ↦ inl (s.0, s.1, s.2.0, s.2.1, s.2.2, s.2.3)
        | inr all ↦ inr all
      ]
    where
      some_same : (p q : Phase) → Some p ≡ Some q → p ≡ q
      some_same p q e = ap (λ (o : Option Phase). elim o [ None ↦ p | Some x ↦ x ]) e

      one : (t : ℕ) (p : Option Phase) → (w.views t).phase ≡ p →
          ((lost t ≡ false) × (phase : Phase) × ((w.views t).phase ≡ Some phase) × (must_wait w.words phase ≡ false)) ⊎
          (lost t ≡ false → (phase : Phase) → (w.views t).phase ≡ Some phase → must_wait w.words phase ≡ true)
      one t None at = inr (λ live phase is. absurd (not_none phase (sym is ∙ at)))
      one t (Some q) at =
          elim (cases_Bool (lost t)) [
            | inl dead ↦ inr (λ live phase is. absurd (true≢false (sym dead ∙ live)))
            | inr live ↦ elim (cases_Bool (must_wait w.words q)) [
              | inl waits ↦ inr (λ also phase is. subst (λ (x : Phase). must_wait w.words x ≡ true) (some_same q phase (sym at ∙ is)) waits)
              | inr free ↦ inl (live, q, at, free)
            ]
          ]

  -- So a scheduler that steps only who needn't wait brings all to wait.
  pub settles_by : (lost : ℕ → Bool) (starts tries n : ℕ) (w : World) → IsGood c w → IsRoomy starts tries c w → potential starts tries c w ≤ n →
      SettlesAmong c lost n w
  settles_by lost starts tries zero w good roomy le =
      elim (wait_or_go lost w) [
        | inl s ↦ absurd (omega (arith, le, step_falls w good s.0 s.1 s.3 s.4 (Ok tt) starts tries roomy (goes_on w.words s.3 (Ok tt) s.5)))
        | inr all ↦ all
      ]
  settles_by lost starts tries (suc n) w good roomy le =
      elim (wait_or_go lost w) [
        | inl s ↦ inr (
          s.0,
          s.1,
          s.2,
          (s.3, s.4),
          λ hook.
              subst (SettlesAmong c lost n) (sym (happens_is c w s.0 s.1 hook s.3 s.4))
              (settles_by lost starts tries n (after_step w s.0 s.3 hook) (step_good w good s.0 s.1 hook s.3 s.4)
              (next_roomy w good s.0 s.1 s.3 s.4 hook starts tries roomy)
              (omega (arith, le, step_falls w good s.0 s.1 s.3 s.4 hook starts tries roomy (goes_on w.words s.3 hook s.5)))),
        )
        | inr all ↦ inl all
      ]

  pub settles_within : (lost : ℕ → Bool) (w : World) → IsGood c w → SettlesAmong c lost (turns_left c w) w
  settles_within lost w good =
      settles_by lost (start_room c w) (try_room c w) (turns_left c w) w good (omega arith, omega arith) (omega arith)
