-- A freeze runs out where it finds `umount` free at its locks, nobody inside a section, and nothing counted at the levels that it has to pass.
use Rattle.gate_schedules.proofs.Prelude.{ClearMarks, Config, DownWrite, DownWriteStep, Err, Fits, Fitting, Freeze, FreezeFits, FreezeStep}
use Rattle.gate_schedules.proofs.Prelude.{HookAnswer, IsGood, IsUnblocked, Next, Ok, Phase, PhaseEnds, PhaseFits, RankDecreases, Transition}
use Rattle.gate_schedules.proofs.Prelude.{TransitionNext, UpWrite, UpWriteStep, Words, World, after_closing, ap, arith, at_freeze, cases_Bool}
use Rattle.gate_schedules.proofs.Prelude.{clear_after, down_write_after, down_write_next, down_write_role, eq-eqb, eqb_tells, exit_made, found_at}
use Rattle.gate_schedules.proofs.Prelude.{found_by, held_by, held_of, holders_in, inl, inr, nat_lt, on_exit, position_sync, rank, read, refl, subst}
use Rattle.gate_schedules.proofs.Prelude.{sync_role_of, total, transition_after, up_write_after, up_write_next, words_after, ℕ, ◌%◌, ◌*◌, ◌+◌, ◌-◌}
use Rattle.gate_schedules.proofs.Prelude.{◌<◌, ◌∙◌, ◌≡◌, ◌≤◌}
use Rattle.freeze_laws.{proofs.stages.Facts.at_level, specs.levels.Operations.up_write_role}
use Rattle.freeze_levels.specs.Freezes.{after_clearing, after_reopening, after_undoing, freeze_after, freeze_fails, freeze_next}
use Rattle.{gate_world.specs.Roles.{freeze_position, sync_beside}, node_words.specs.Phases.clear_next}
use Rattle.gate_schedules.proofs.operations.{calls.Progress.clear_falls, deadlocks.RankDecreases.{after_event, falls_as}}
use Rattle.gate_schedules.proofs.writers.Progress.{DownFalls, down_falls, up_falls}
use Rattle.gate_schedules.specs.operations.Ranks.{closed_rank, closing_rank, down_rank, exchange_rank, freeze_rank, reopens_rank, up_rank}
use Rattle.gate_schedules.specs.operations.Unblocked.{FreezeIsUnblocked, LevelsAreFree, NobodyInside, NothingCounted}

module _ (w : Words) (d : DownWrite) where
  down_sections : (s : DownWriteStep) → (after_event w (down_write_next d s)).section ≡ w.section
  down_sections s = grind arith

  down_umount : (s : DownWriteStep) → (after_event w (down_write_next d s)).umount ≡ w.umount
  down_umount s = grind arith

  down_counts : (s : DownWriteStep) → (after_event w (down_write_next d s)).level ≡ w.level
  down_counts s = grind arith

up_sections : (w : Words) (u : UpWrite) (s : UpWriteStep) → (after_event w (up_write_next u s)).section ≡ w.section
up_sections w u s = grind arith

up_umount : (w : Words) (u : UpWrite) (s : UpWriteStep) → (after_event w (up_write_next u s)).umount ≡ w.umount
up_umount w u s = grind arith

-- what comes after a step of a freeze, with these words
abbrev FreezeFalls : Config → Words → ℕ → Next Freeze → Type 0
FreezeFalls c after n next = RankDecreases (λ (y : Freeze). freeze_rank after y y.step) (λ (y : Freeze). FreezeIsUnblocked c after y.step) n next

module _ (c : Config) (after : Words) (x : Freeze) (even : NobodyInside c after) where
  -- after a step of the closing of a level
  closes_falls : (d : DownWrite) (n : ℕ) (next : Next DownWrite) → (d.level ≡ 1 → after.umount ≡ 0) → LevelsAreFree c after (FreezeStep.Closes d) →
      DownFalls after d n next → FreezeFalls c after (n + closed_rank x d.level + 1) (after_closing x d.level next)
  closes_falls d n next lock levels h = grind arith

  cleans_falls : (n : ℕ) (next : Next ClearMarks) → 1 ≤ n → ((i : ℕ) → 3 ≤ i → i ≤ 3 → NothingCounted c after i) →
      RankDecreases (λ (y : ClearMarks). y.nodes - y.node) (λ (y : ClearMarks). Unit {0}) n next →
      FreezeFalls c after (closing_rank x + n + 11) (after_clearing x next)
  cleans_falls n next some levels h = grind arith

  -- after a step by which the rcu_sync of a level is left that was given up
  undoes_falls : (level r code : ℕ) (transition : Transition) (n : TransitionNext) → (level ≡ 1 → after.umount ≡ 0) →
      RankDecreases (reopens_rank after) (λ (y : UpWrite). Unit {0}) (r + 3 * (level - 1) + 1)
      (exit_made (record { level = level; step = UpWriteStep.Exits transition }) n) →
      1 ≤ level → FreezeFalls c after (r + 3 * level) (after_undoing x level code n)
  undoes_falls level r code transition n lock h low = grind arith

  -- after a step of the reopening of a level
  reopens_falls : (level r code : ℕ) (next : Next UpWrite) →
      RankDecreases (reopens_rank after) (λ (y : UpWrite). Unit {0}) (r + 3 * (level - 1) + 1) next →
      FreezeFalls c after (r + 3 * (level - 1) + 1) (after_reopening x level code next)
  reopens_falls level r code next h = grind arith

module _ (c : Config) (some : 1 ≤ c.processors) (w : World) (good : IsGood c w) (t : ℕ) (lt : t < c.tasks) (x : Freeze) where
  freeze_falls : (hook : HookAnswer) (s : FreezeStep) → ((i : ℕ) → sync_role_of i (w.views t).phase ≡ position_sync i (freeze_position s)) →
      FreezeFits c x.holder s → FreezeIsUnblocked c w.words s →
      FreezeFalls c (after_event w.words (freeze_next x s hook)) (freeze_rank w.words x s)
      (freeze_after x s (found_by (freeze_next x s hook).1 (read w.words (freeze_next x s hook).0)) hook).0
  freeze_falls hook FreezeStep.Locks role fits free = rw free.1 (omega arith, (free.0, tt, free.2))
  freeze_falls hook FreezeStep.LoadsStage role fits free =
      elim (eqb_tells w.words.stage 0) [
        | inl h ↦ rw h.0 (omega arith, (free.0, tt, λ i low high. free.2 i (rw h.0 low) high))
        | inr h ↦ elim (eqb_tells w.words.stage 4) [
          | inl q ↦ rw (h.0, q.0) (omega arith, (free.0, tt, λ i low high. absurd (omega (arith, low, high))))
          | inr q ↦ rw (h.0, q.0) (omega arith, (free.0, tt, λ i low high. absurd (omega (arith, low, high))))
        ]
      ]
  freeze_falls hook FreezeStep.LoadsHolders role fits free =
      elim (cases_Bool (held_by (holders_in w.words.holders) x.holder)) [
        | inl h ↦ rw h (omega arith, (free.0, tt, λ i low high. absurd (omega (arith, low, high))))
        | inr h ↦ rw h (omega arith, (free.0, tt, λ i low high. absurd (omega (arith, low, high))))
      ]
  freeze_falls hook (FreezeStep.Holds beside) role fits free = (omega arith, (free.0, tt, λ i low high. absurd (omega (arith, low, high))))
  freeze_falls hook FreezeStep.LoadsSuperblock role fits free =
      elim (eqb_tells w.words.sb 0) [
        | inl h ↦ rw h.0 (omega arith, (free.0, tt, λ i low high. free.2 i (rw h.0 low) high))
        | inr h ↦ rw h.0 (omega arith, (free.0, tt, λ i low high. absurd (omega (arith, low, high))))
      ]
  freeze_falls hook FreezeStep.CompletesReadOnly role fits free = (omega arith, (free.0, tt, λ i low high. absurd (omega (arith, low, high))))
  freeze_falls hook FreezeStep.SetsWrite role fits free = (omega arith, (free.0, tt, free.2))
  freeze_falls hook FreezeStep.Unlocks role fits free = (omega arith, (free.0, λ q. refl, free.2))
  freeze_falls hook (FreezeStep.Closes d) role fits free =
      let after : Words = after_event w.words (down_write_next d d.step) in
      let here : position_sync d.level (freeze_position (FreezeStep.Closes d)) ≡ down_write_role d.step =
      ap (λ q. sync_beside q (nat_lt d.level d.level) (down_write_role d.step)) (eq-eqb d.level d.level refl) in
      let even : NobodyInside c after =
      λ y ly. ap (λ (f : ℕ → ℕ). f y % 2) (down_sections w.words d d.step) ∙ free.0 y ly in
      let levels : LevelsAreFree c after (FreezeStep.Closes d) =
      λ i low high. ap (λ (f : ℕ → ℕ → ℕ). total c.processors (f i) % 18446744073709551616) (down_counts w.words d d.step) ∙
      free.2 i low high in
      closes_falls c after x even d (down_rank w.words d d.step)
      (down_write_after d d.step (found_by (down_write_next d d.step).1 (read w.words (down_write_next d d.step).0))).0
      (λ q. down_umount w.words d d.step ∙ free.1 q) levels
      (down_falls c w good t lt d fits.0 fits.1 some fits.3 free.0 (free.2 d.level (omega arith) fits.1) d.step (role d.level ∙ here) fits.4)
  freeze_falls (Ok answer) (FreezeStep.Waits d) role fits free =
      let after : Words = after_event w.words (down_write_next d d.step) in
      let here : position_sync d.level (freeze_position (FreezeStep.Waits d)) ≡ down_write_role d.step =
      ap (λ q. sync_beside q (nat_lt d.level d.level) (down_write_role d.step)) (eq-eqb d.level d.level refl) in
      let even : NobodyInside c after =
      λ y ly. ap (λ (f : ℕ → ℕ). f y % 2) (down_sections w.words d d.step) ∙ free.0 y ly in
      let levels : LevelsAreFree c after (FreezeStep.Closes d) =
      λ i low high. ap (λ (f : ℕ → ℕ → ℕ). total c.processors (f i) % 18446744073709551616) (down_counts w.words d d.step) ∙
      free.2 i low high in
      closes_falls c after x even d (down_rank w.words d d.step)
      (down_write_after d d.step (found_by (down_write_next d d.step).1 (read w.words (down_write_next d d.step).0))).0
      (λ q. down_umount w.words d d.step ∙ free.1 q) levels
      (down_falls c w good t lt d fits.0.0 fits.0.1 some fits.0.3 free.0 (free.2 d.level (omega arith) fits.0.1) d.step (role d.level ∙ here) fits.0.4)
  freeze_falls (Err code) (FreezeStep.Waits d) role fits free = (
    at_level (λ i. exchange_rank (w.words.sync d.level) Transition.Loads + 3 * i < down_rank w.words d d.step + closed_rank x i + 1)
        (omega arith, omega arith, omega arith) d.level fits.0.0 fits.0.1,
    (free.0, free.1, λ i low high. absurd (omega (arith, low, high))),
  )
  freeze_falls hook (FreezeStep.Undoes level transition code) role fits free =
      let u : UpWrite = record { level = level; step = UpWriteStep.Exits transition } in
      let after : Words = after_event w.words (up_write_next u u.step) in
      let here : position_sync level (freeze_position (FreezeStep.Undoes level transition code)) ≡ up_write_role u.step =
      ap (λ q. sync_beside q (nat_lt level level) (up_write_role u.step)) (eq-eqb level level refl) in
      let even : NobodyInside c after = λ y ly. ap (λ (f : ℕ → ℕ). f y % 2) (up_sections w.words u u.step) ∙ free.0 y ly in
      undoes_falls c after x even level (exchange_rank (w.words.sync level) transition) code transition
      (transition_after on_exit transition (found_by (up_write_next u u.step).1 (read w.words (up_write_next u u.step).0)))
      (λ q. up_umount w.words u u.step ∙ free.1 q)
      (up_falls c w good t lt u fits.0 fits.1 u.step (role level ∙ here)) fits.0
  freeze_falls hook (FreezeStep.LocksToUndo code) role fits free =
      rw free.1 (omega arith, (free.0, tt, λ i low high. absurd (omega (arith, low, high))))
  freeze_falls hook (FreezeStep.GivesUp level code) role fits free =
      at_level (λ i. FreezeFalls c (record w.words { stage = 0 }) (3 * (i - 1) + 1) (Next.Go (at_freeze x (freeze_fails (i - 1) code)))) (
        (omega arith, (free.0, tt, λ i low high. absurd (omega (arith, low, high)))),
        (omega arith, (free.0, tt, λ i low high. absurd (omega (arith, low, high)))),
        (omega arith, (free.0, tt, λ i low high. absurd (omega (arith, low, high)))),
      )
      level fits.0 fits.1
  freeze_falls hook FreezeStep.LocksAgain role fits free = rw free.1 (omega arith, (free.0, tt, free.2))
  freeze_falls hook FreezeStep.SetsPageFault role fits free = (omega arith, (free.0, λ q. absurd (omega (arith, q)), free.2))
  freeze_falls hook (FreezeStep.Cleans marks) role fits free =
      cleans_falls c (after_event w.words (clear_next marks)) x free.0 (marks.nodes - marks.node)
      (clear_after marks (w.words.node marks.node)).0 (omega (arith, fits.0, fits.2)) free.2
      (clear_falls w.words marks (w.words.node marks.node))
  freeze_falls (Ok answer) FreezeStep.SetsFs role fits free = (omega arith, (free.0, λ q. absurd (omega (arith, q)), free.2))
  freeze_falls (Err code) FreezeStep.SetsFs role fits free = (omega arith, (free.0, tt, λ i low high. absurd (omega (arith, low, high))))
  freeze_falls (Ok answer) FreezeStep.SetsComplete role fits free = (omega arith, (free.0, tt, λ i low high. absurd (omega (arith, low, high))))
  freeze_falls (Err code) FreezeStep.SetsComplete role fits free = (omega arith, (free.0, tt, λ i low high. absurd (omega (arith, low, high))))
  freeze_falls hook (FreezeStep.Reopens u code) role fits free =
      let after : Words = after_event w.words (up_write_next u u.step) in
      let here : position_sync u.level (freeze_position (FreezeStep.Reopens u code)) ≡ up_write_role u.step =
      ap (λ q. sync_beside q (nat_lt u.level u.level) (up_write_role u.step)) (eq-eqb u.level u.level refl) in
      let even : NobodyInside c after = λ y ly. ap (λ (f : ℕ → ℕ). f y % 2) (up_sections w.words u u.step) ∙ free.0 y ly in
      reopens_falls c after x even u.level (up_rank (w.words.sync u.level) u.step) code
      (up_write_after u u.step (found_by (up_write_next u u.step).1 (read w.words (up_write_next u u.step).0))).0
      (up_falls c w good t lt u fits.0 fits.1 u.step (role u.level ∙ here))
  freeze_falls hook (FreezeStep.Releases answer) role fits free = tt

pub freeze_ends : (c : Config) (x : Freeze) → PhaseEnds c (Phase.Freezes x)
freeze_ends c x = record {
  falls = λ lim w good t lt hook at free.
      let f : PhaseFits c t (held_of (w.views t)) (Phase.Freezes x) =
      subst (Fits c t (held_of (w.views t))) at (good Fitting t lt) in
      let after : Words = words_after w.words (Phase.Freezes x) hook in
      falls_as Phase.Freezes (rank after) (IsUnblocked c after) (freeze_rank w.words x x.step)
      (freeze_after x x.step (found_at w.words (Phase.Freezes x) hook) hook).0
      (freeze_falls c lim.some_processor w good t lt x hook x.step (λ i. ap (sync_role_of i) at) f.5 free);
}
