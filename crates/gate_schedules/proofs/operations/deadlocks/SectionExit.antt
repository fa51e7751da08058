-- Who is inside a read-side section leaves it by a few steps of its own, so where a reply is near once nobody is inside one, it is near.
use Rattle.gate_schedules.proofs.Prelude.{Config, Done, DownReads, EventsKeepRule, Go, HookAnswer, IsGood, IsWithin, Next, Option, Phase, ReadIsValid}
use Rattle.gate_schedules.proofs.Prelude.{ReplyWithin, Some, View, Wait, Words, World, after_of, after_step, ap, arith, eqb_tells, false, found_at}
use Rattle.gate_schedules.proofs.Prelude.{inl, inr, inside, next_of, phase_after, suc, sym, total, total_updated, value_at, view_after, words_after}
use Rattle.gate_schedules.proofs.Prelude.{zero, ℕ, ◌*◌, ◌+◌, ◌<◌, ◌∙◌, ◌≡◌, ◌≤◌, ◌⊎◌}
use Rattle.composite_ops.specs.declared.file_closes.phases.ClosePhase.TheVariants.{Enters as EntersLevel}
use Rattle.composite_ops.specs.declared.write_access.phases.WritePhase.TheVariants.{Takes}
use Rattle.{finite_sums.proofs.Totals.{HasPlace, total_place}, gate_world.specs.declared.work.Phase.TheVariants.{Closes as FileCloses, Writes}}
use Rattle.gate_schedules.proofs.{frames.ValidWords.events_may_be, operations.deadlocks.RankDecreases.{near_after, no_further, stands_after}}
use Rattle.gate_schedules.specs.operations.{Progress.HasReply, Ranks.read_rank}

-- how many steps may still come after the next one, until it is outside
abbrev pub leave_rank : Phase → ℕ
leave_rank (DownReads r) = read_rank false r.step
leave_rank (Writes (Takes m r)) = read_rank false r.step
leave_rank (FileCloses (EntersLevel f node r)) = read_rank false r.step
leave_rank phase = 0

-- what comes after a step inside a section is outside, or inside and nearer to its end, or the reply
abbrev pub ExitsSection : {P : Type 0} → (P → ℕ) → (P → ℕ) → ℕ → Next P → Type 0
ExitsSection is_inside rank_of n (Go q) = (is_inside q ≡ 0) ⊎ ((is_inside q ≡ 1) × (rank_of q < n))
ExitsSection is_inside rank_of n (Wait q) = (is_inside q ≡ 0) ⊎ ((is_inside q ≡ 1) × (rank_of q < n))
ExitsSection is_inside rank_of n (Done answer) = Unit {0}

-- of any phase
abbrev pub PhaseLeaves : ℕ → Next Phase → Type 0
PhaseLeaves n next = ExitsSection (λ (q : Phase). inside (Some q)) leave_rank n next

-- each step of a phase inside a section
pub phase_leaves : (w : Words) (phase : Phase) (hook : HookAnswer) → ReadIsValid phase (next_of phase hook).0 (value_at w phase hook) →
    inside (Some phase) ≡ 1 → PhaseLeaves (leave_rank phase) (after_of phase (found_at w phase hook) hook).0
phase_leaves w phase hook may h = grind arith

-- what a step inside a section leaves of the words that a freeze looks at
pub record StaysBeside (w next : Words) : Type 0 where
  pub umount_same : next.umount ≡ w.umount
  pub stage_same : next.stage ≡ w.stage
  pub sb_same : next.sb ≡ w.sb

pub phase_beside : (w : Words) (phase : Phase) (hook : HookAnswer) → inside (Some phase) ≡ 1 → StaysBeside w (words_after w phase hook)
phase_beside w phase hook h = grind arith

leave_small : (phase : Phase) → inside (Some phase) ≡ 1 → leave_rank phase < 5
leave_small phase h = grind arith

-- a task is inside one section at most
pub inside_le : (p : Option Phase) → inside p ≤ 1
inside_le p = grind arith

-- how many tasks are inside one
abbrev pub all_within : Config → World → ℕ
all_within c w = total c.tasks (λ y. inside (w.views y).phase)

-- a task that is inside one is at a phase
pub phase_inside : (p : Option Phase) → inside p ≡ 1 → (phase : Phase) × (p ≡ Some phase)
phase_inside p h = grind arith

module _ (c : Config) (lim : IsWithin c)
    (keeps : EventsKeepRule c)
    (Cond : World → Type 0)
    (stays : (w : World) → (z : ℕ) → z < c.tasks → (phase : Phase) → (w.views z).phase ≡ Some phase → inside (Some phase) ≡ 1 →
    (hook : HookAnswer) → (q : Phase) → ((after_step w z phase hook).views z).phase ≡ Some q → Cond w → Cond (after_step w z phase hook))
    (n : ℕ) (base : (w : World) → IsGood c w → Cond w → all_within c w ≡ 0 → ReplyWithin c n w) where
  -- a step changes how many are inside by its own task
  within_after : (w : World) (z : ℕ) → z < c.tasks → (phase : Phase) → (w.views z).phase ≡ Some phase → (hook : HookAnswer) (q : Phase) →
      ((after_step w z phase hook).views z).phase ≡ Some q →
      all_within c (after_step w z phase hook) + inside (Some phase) ≡ all_within c w + inside (Some q)
  within_after w z lz phase at hook q is =
      let v : View = view_after (w.views z) phase (value_at w.words phase hook) hook in
      let e : all_within c (after_step w z phase hook) + inside (w.views z).phase ≡ all_within c w + inside v.phase =
      total_updated (λ (u : View). inside u.phase) c.tasks z w.views v lz in
      let k : inside v.phase ≡ inside (Some q) = ap inside (sym (stands_after c w z lz hook phase at) ∙ is) in
      omega (arith, e, k, ap inside at)

  -- what comes after a step of a task inside
  then_leaves : (m k : ℕ) (w : World) → IsGood c w → Cond w → (z : ℕ) → z < c.tasks → (phase : Phase) → (w.views z).phase ≡ Some phase →
      inside (Some phase) ≡ 1 → (hook : HookAnswer) → leave_rank phase ≤ m → all_within c w ≤ suc k →
      ((next : World) → IsGood c next → Cond next → all_within c next ≤ k → ReplyWithin c (n + 5 * k) next) →
      ((next : World) → IsGood c next → Cond next → (q : Phase) → (next.views z).phase ≡ Some q → inside (Some q) ≡ 1 →
      leave_rank q < m → all_within c next ≤ suc k → ReplyWithin c (n + 5 * k + m) next) →
      (coming : Next Phase) → ((after_step w z phase hook).views z).phase ≡ phase_after coming → PhaseLeaves (leave_rank phase) coming →
      HasReply (after_step w z phase hook) z ⊎ ReplyWithin c (n + 5 * k + m) (after_step w z phase hook)
  then_leaves m k w good cond z lz phase at within hook le few rest again (Done answer) is h = inl is
  then_leaves m k w good cond z lz phase at within hook le few rest again (Go q) is h =
      let next : World = after_step w z phase hook in
      let after : IsGood c next = keeps w good z lz hook phase at in
      let cond' : Cond next = stays w z lz phase at within hook q is cond in
      let count : all_within c next + inside (Some phase) ≡ all_within c w + inside (Some q) = within_after w z lz phase at hook q is in
      elim h [
        | inl out ↦ inr (no_further c (n + 5 * k) (n + 5 * k + m) next (omega arith)
            (rest next after cond' (omega (arith, count, out, within, few))))
        | inr on ↦ inr (again next after cond' q is on.0 (omega (arith, on.1, le)) (omega (arith, count, on.0, within, few)))
      ]
  then_leaves m k w good cond z lz phase at within hook le few rest again (Wait q) is h =
      let next : World = after_step w z phase hook in
      let after : IsGood c next = keeps w good z lz hook phase at in
      let cond' : Cond next = stays w z lz phase at within hook q is cond in
      let count : all_within c next + inside (Some phase) ≡ all_within c w + inside (Some q) = within_after w z lz phase at hook q is in
      elim h [
        | inl out ↦ inr (no_further c (n + 5 * k) (n + 5 * k + m) next (omega arith)
            (rest next after cond' (omega (arith, count, out, within, few))))
        | inr on ↦ inr (again next after cond' q is on.0 (omega (arith, on.1, le)) (omega (arith, count, on.0, within, few)))
      ]

  -- one task leaves its section
  one_leaves : (m k : ℕ) (w : World) → IsGood c w → Cond w → (z : ℕ) → z < c.tasks → (phase : Phase) → (w.views z).phase ≡ Some phase →
      inside (Some phase) ≡ 1 → leave_rank phase < m → all_within c w ≤ suc k →
      ((next : World) → IsGood c next → Cond next → all_within c next ≤ k → ReplyWithin c (n + 5 * k) next) →
      ReplyWithin c (n + 5 * k + m) w
  one_leaves zero k w good cond z lz phase at within le few rest = absurd (omega (arith, le))
  one_leaves (suc m) k w good cond z lz phase at within le few rest =
      no_further c (suc (n + 5 * k + m)) (n + 5 * k + suc m) w (omega arith)
      (near_after c (n + 5 * k + m) w z lz phase at (λ hook.
      then_leaves m k w good cond z lz phase at within hook (omega (arith, le)) few rest
      (λ next after cond' q is on le' few'. one_leaves m k next after cond' z lz q is on le' few' rest)
      (after_of phase (found_at w.words phase hook) hook).0 (stands_after c w z lz hook phase at)
      (phase_leaves w.words phase hook (events_may_be c lim w good z lz phase hook at) within)))

  -- all of them do
  pub all_leave : (k : ℕ) (w : World) → IsGood c w → Cond w → all_within c w ≤ k → ReplyWithin c (n + 5 * k) w
  all_leave zero w good cond few = no_further c n (n + 5 * 0) w (omega arith) (base w good cond (omega (arith, few)))
  all_leave (suc k) w good cond few =
      elim (eqb_tells (all_within c w) 0) [
        | inl none ↦ no_further c n (n + 5 * suc k) w (omega arith) (base w good cond none.1)
        | inr some ↦
            let place : HasPlace c.tasks (λ y. inside (w.views y).phase) = total_place c.tasks (λ y. inside (w.views y).phase) some.1 in
            let z : ℕ = place.0 in
            let is : inside (w.views z).phase ≡ 1 = omega (arith, place.2, inside_le (w.views z).phase) in
            let at : (phase : Phase) × ((w.views z).phase ≡ Some phase) = phase_inside (w.views z).phase is in
            no_further c (n + 5 * k + 5) (n + 5 * suc k) w (omega arith)
            (one_leaves 5 k w good cond z place.1 at.0 at.1 (sym (ap inside at.1) ∙ is) (leave_small at.0 (sym (ap inside at.1) ∙ is)) few
            (λ next after cond' few'. all_leave k next after cond' few'))
      ]
