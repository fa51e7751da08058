-- Each step at a freeze level keeps what holds of its counts.
use Rattle.std.proofs.{Common.{◌≡◌, ℕ, zero, suc, ◌+◌, ◌<◌, ◌≤◌, refl, sym, ap, ◌∙◌, subst, inl, inr, arith}, lemmas.Bool.Decides.eqb_tells}
use Rattle.finite_sums.{proofs.Totals.{total_at, update_map}, specs.Sums.{update, total}}
use Rattle.cpu_words.specs.{Touches.{wrap_add, wrap_sub}, gate_counts.Gates.{Apart, bars, below, GateHolds}}
use Rattle.cpu_words.specs.gate_counts.Levels.{LevelRole, Out, Seeking, BackingOff, Summing, Passed, LevelView, processor_of, barring_of, sums_up, level_as_gate}
use Rattle.cpu_words.specs.gate_counts.Levels.{LevelHolds}
use Rattle.cpu_words.proofs.gate_counts.Flags.{none_held, none_admitted, bars_gate, reads_on, reads_zero, begins_anew, opens_gate, leaves_it_set, takes_it_over}
use Rattle.cpu_words.proofs.gate_counts.Readers.{is_granted as gate_grants, is_refused as gate_refuses, adds, adds_granted, backs_off, returns}

has_passed : (r : LevelRole) → 0 < bars (barring_of r) → sums_up r ≡ 0 → r ≡ Passed
has_passed r h z = grind arith

some_place : (n : ℕ) (f : ℕ → ℕ) → 0 < total n f → (t : ℕ) × (t < n) × (0 < f t)
some_place zero f h = absurd (omega arith)
some_place (suc n) f h = elim (eqb_tells (f n) 0) [
  | inl z ↦ let p : (t : ℕ) × (t < n) × (0 < f t) = some_place n f (omega (arith, h, z.1)) in (p.0, omega (arith, p.1), p.2)
  | inr z ↦ (n, omega arith, omega (arith, z.1))
]

module _ {tasks processors block full : ℕ} {count : ℕ → ℕ} {at : ℕ → LevelView}
    (good : LevelHolds tasks processors block full count at) where
  pub none_frozen : full ≡ 1 → total tasks (λ x. (at x).held) ≡ 0
  none_frozen e = none_held good.gate 0 (good.gate.open_to 0 e)

  pub none_passed : (t : ℕ) → t < tasks → (at t).role ≡ Passed → total tasks (λ x. (at x).held) ≡ 0
  none_passed t lt e = none_held good.gate 0 (none_admitted good.gate t lt (ap barring_of e))

  pub none_closed : block ≡ 1 → total tasks (λ x. sums_up (at x).role) ≡ 0 → total tasks (λ x. (at x).held) ≡ 0
  none_closed set none = elim (eqb_tells full 1) [
    | inl e ↦ none_frozen e.1
    | inr e ↦
        let p : (t : ℕ) × (t < tasks) × (0 < bars (barring_of (at t).role)) =
        some_place tasks _ (omega (arith, set, e.1, good.gate.flag)) in
        none_passed p.0 p.1 (has_passed (at p.0).role p.2 (omega (arith, none, total_at tasks p.0 (λ x. sums_up (at x).role) p.1)))
  ]

  module _ (t : ℕ) (lt : t < tasks) where
    -- the level after a step that makes this of the words and of the task's view
    abbrev HoldsAfter : (ℕ → ℕ) → LevelView → Type 0
    HoldsAfter count' v = LevelHolds tasks processors block full count' (update at t v)

    follows : (v : LevelView) {block' full' : ℕ} {count' : ℕ → ℕ} → block' ≤ 1 →
        GateHolds tasks processors block' full' (λ i. full' ≡ 1) count' (update (λ x. level_as_gate (at x)) t (level_as_gate v)) →
        LevelHolds tasks processors block' full' count' (update at t v)
    follows v known gate = record {
      known = known;
      gate = subst (GateHolds tasks processors _ _ (λ i. _ ≡ 1) _) (sym (update_map level_as_gate at t v)) gate;
    }

    -- a load of `block` finds 0: the task is granted the level. Meets: `block` is set before the words are summed
    pub is_granted : (p : ℕ) → (at t).role ≡ Seeking p → block ≡ 0 → (at t).held < 1024 →
        HoldsAfter count (record (at t) { held = (at t).held + 1; role = Out })
    is_granted p e clear room =
        follows (record (at t) { held = (at t).held + 1; role = Out }) good.known
        (gate_grants good.gate t lt 0 Apart (sym (ap barring_of e)) refl (omega (arith, ap (λ r. below 0 (processor_of r)) e)) (inl clear)
        (λ i le s. omega (arith, s, clear, good.gate.flag)) room)

    pub is_refused : (p : ℕ) → (at t).role ≡ Seeking p → HoldsAfter count (record (at t) { role = BackingOff p })
    is_refused p e =
        follows (record (at t) { role = BackingOff p }) good.known
        (gate_refuses good.gate t lt p Apart (sym (ap barring_of e)) (inl (ap processor_of e, refl)))

    module _ (few : tasks ≤ 64) (narrow : processors ≤ 64) where
      module _ (p : ℕ) (lp : p < processors) where
        -- the words and the view after an addition on p, and after a subtraction
        abbrev count_up : ℕ → ℕ
        count_up = update count p (wrap_add (count p) 1)

        abbrev count_down : ℕ → ℕ
        count_down = update count p (wrap_sub (count p) 1)

        abbrev added_more : ℕ → ℕ
        added_more = update (at t).added p ((at t).added p + 1)

        abbrev taken_more : ℕ → ℕ
        taken_more = update (at t).taken p ((at t).taken p + 1)

        -- an addition on the slow path, before `block` is loaded. Meets: `block` is set before the words are summed
        pub adds_slow : (at t).role ≡ Out → HoldsAfter count_up (record (at t) { added = added_more; role = Seeking p })
        adds_slow e =
            follows (record (at t) { added = added_more; role = Seeking p }) good.known
            (adds good.gate t lt few narrow p lp Apart (sym (ap barring_of e)) (omega (arith, ap (λ r. below 0 (processor_of r)) e)))

        -- one on the fast path, which is a grant
        pub adds_fast : block ≡ 0 → (at t).held < 1024 → HoldsAfter count_up (record (at t) { held = (at t).held + 1; added = added_more })
        adds_fast clear room =
            follows (record (at t) { held = (at t).held + 1; added = added_more }) good.known
            (adds_granted good.gate t lt few narrow p lp clear (λ i s. omega (arith, s, clear, good.gate.flag)) (omega (arith, room)))

        -- a back-off, on its own processor
        pub backs_away : (at t).role ≡ BackingOff p → HoldsAfter count_down (record (at t) { taken = taken_more; role = Out })
        backs_away e =
            follows (record (at t) { taken = taken_more; role = Out }) good.known
            (backs_off good.gate t lt few narrow p lp Apart (sym (ap barring_of e)) (ap processor_of e) refl)

        -- a return, on any
        pub gives_back : (h : ℕ) → (at t).role ≡ Out → (at t).held ≡ suc h →
            HoldsAfter count_down (record (at t) { held = h; taken = taken_more; role = Out })
        gives_back h e held =
            follows (record (at t) { held = h; taken = taken_more; role = Out }) good.known
            (returns good.gate t lt few narrow p lp h Apart (sym (ap barring_of e)) held
            (omega (arith, ap (λ r. below 0 (processor_of r)) e)))

      -- the level after a step of the writer, which goes from one role to another
      abbrev Becomes : (block' full' : ℕ) → LevelRole → Type 0
      Becomes block' full' r = LevelHolds tasks processors block' full' count (update at t (record (at t) { role = r }))

      -- a step of the writer keeps the level where it keeps it as a gate
      writes : (r0 r : LevelRole) (block' full' : ℕ) → (at t).role ≡ r0 → processor_of r0 ≡ 0 → processor_of r ≡ 0 → block' ≤ 1 →
          GateHolds tasks processors block' full' (λ i. full' ≡ 1) count
          (update (λ x. level_as_gate (at x)) t (record (level_as_gate (at t)) { barring = barring_of r })) → Becomes block' full' r
      writes r0 r block' full' e now later known gate =
          follows (record (at t) { role = r }) known
          (subst (λ v. GateHolds tasks processors block' full' (λ i. full' ≡ 1) count (update (λ x. level_as_gate (at x)) t v))
          (λ j. record (level_as_gate (at t)) { sought_on = ((ap processor_of e ∙ now) ∙ sym later) j; barring = barring_of r }) gate)

      -- the swap of `block` finds 0: a sum begins. Meets: a reader adds before it loads `block`
      pub swaps : (at t).role ≡ Out → block ≡ 0 → 0 < processors → Becomes 1 full (Summing 0 0)
      swaps e clear some =
          writes Out (Summing 0 0) 1 full e refl refl (omega arith) (bars_gate good.gate t lt few narrow some (ap barring_of e) clear)

      -- a word is read, and more are to come
      pub sums_on : (k sum : ℕ) → (at t).role ≡ Summing k sum → suc k < processors →
          Becomes block full (Summing (suc k) (wrap_add sum (count k)))
      sums_on k sum e more =
          writes (Summing k sum) (Summing (suc k) (wrap_add sum (count k))) block full e refl refl good.known
          (reads_on good.gate t lt few narrow k sum (ap barring_of e) more)

      -- the last is read, and the sum is 0: the level is passed
      pub passes : (k sum : ℕ) → (at t).role ≡ Summing k sum → suc k ≡ processors → wrap_add sum (count k) ≡ 0 → Becomes block full Passed
      passes k sum e last z =
          writes (Summing k sum) Passed block full e refl refl good.known
          (reads_zero good.gate t lt few narrow k sum (ap barring_of e) last z)

      -- or a new sum begins
      pub sums_anew : (k sum : ℕ) → (at t).role ≡ Summing k sum → suc k ≡ processors → Becomes block full (Summing 0 0)
      sums_anew k sum e last =
          writes (Summing k sum) (Summing 0 0) block full e refl refl good.known
          (begins_anew good.gate t lt few narrow (ap (λ r. bars (barring_of r)) e) (omega (arith, last)))

      alone : (at t).role ≡ Passed → (block ≡ 1) × (full ≡ 0)
      alone e =
          let one : bars (barring_of (at t).role) ≡ 1 = ap (λ r. bars (barring_of r)) e in
          let at_most : bars (barring_of (at t).role) ≤ total tasks (λ x. bars (barring_of (at x).role)) =
          total_at tasks t (λ x. bars (barring_of (at x).role)) lt in
          (omega (arith, one, at_most, good.known, good.gate.flag), omega (arith, one, at_most, good.known, good.gate.flag))

      -- `block` is stored 0
      pub reopens : (at t).role ≡ Passed → Becomes 0 full Out
      reopens e =
          writes Passed Out 0 full e refl refl (omega arith) (opens_gate good.gate t lt (ap (λ r. bars (barring_of r)) e) (alone e).0)

      -- so it is where the writer gives up, while it sums
      pub gives_up : (k sum : ℕ) → (at t).role ≡ Summing k sum → Becomes 0 full Out
      gives_up k sum e =
          let one : bars (barring_of (at t).role) ≡ 1 = ap (λ r. bars (barring_of r)) e in
          let at_most : bars (barring_of (at t).role) ≤ total tasks (λ x. bars (barring_of (at x).role)) =
          total_at tasks t (λ x. bars (barring_of (at x).role)) lt in
          writes (Summing k sum) Out 0 full e refl refl (omega arith)
          (opens_gate good.gate t lt one (omega (arith, one, at_most, good.known, good.gate.flag)))

      -- a freeze that is full leaves `block` to no task
      pub is_left_frozen : (at t).role ≡ Passed → Becomes block 1 Out
      is_left_frozen e =
          writes Passed Out block 1 e refl refl good.known
          (leaves_it_set good.gate t lt (λ i. ◌≡◌ {A = ℕ} 1 1) (ap barring_of e) (alone e).1)

      -- and a thaw takes it over
      pub thaws : (at t).role ≡ Out → full ≡ 1 → Becomes block 0 Passed
      thaws e one =
          writes Out Passed block 0 e refl refl good.known
          (takes_it_over good.gate t lt (λ i. ◌≡◌ {A = ℕ} 0 1) (ap barring_of e) one one)
