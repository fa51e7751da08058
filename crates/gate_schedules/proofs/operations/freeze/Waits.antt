-- A freeze waits only where another task has `umount`, where one is inside a read-side section, or where something was counted at the level
-- that it closes, and is refused only for its cause.
use Rattle.gate_schedules.proofs.Prelude.{ClearMarks, Config, DownWrite, DownWriteStep, Err, Freeze, FreezeFits, FreezeStep, GateError, HasReason}
use Rattle.gate_schedules.proofs.Prelude.{HookAnswer, IsGood, List, Next, Ok, Phase, Sections, Some, Sum, SyncLevelHolds, TransitionNext, UpWrite}
use Rattle.gate_schedules.proofs.Prelude.{UpWriteStep, World, after_closing, after_of, ap, arith, at_down_write, at_freeze, cases_Bool, clear_after}
use Rattle.gate_schedules.proofs.Prelude.{closed, down_write_after, down_write_next, down_write_role, eq-eqb, eqb_tells, found_at, found_by, inl, inr}
use Rattle.gate_schedules.proofs.Prelude.{inside, level_in, ltb-false, map_next, nat_lt, on_exit, owns, read, refl, subst, sym, sync_role_of}
use Rattle.gate_schedules.proofs.Prelude.{transition_after, true, up_write_after, wrap_add, ℕ, ◌%◌, ◌+◌, ◌<◌, ◌∙◌, ◌≡◌, ◌≤◌, ◌⊎◌}
use Rattle.freeze_laws.{proofs.levels.CitedLaws.writers_find, specs.levels.Changes.{state_found, state_found_in}}
use Rattle.freeze_laws.specs.levels.Roles.{Entered, entered, entering}
use Rattle.freeze_levels.specs.Freezes.{after_clearing, after_reopening, after_undoing}
use Rattle.gate_world.specs.{Fits.DownWriteStepFits, refusals.{KeptCauses.{DownWriteCause, FreezeCause}, Waits.HasCulprit}}
use Rattle.percpu_rwsem.specs.{Graces.{is_first, passed_on}, SyncWords.{is_passed, is_queued}, Writers.sections_awaited, declared.grace.Grace.Grace}
use Rattle.percpu_rwsem.specs.declared.sync_word.GpState.{GpState}
use Rattle.gate_schedules.proofs.{frames.Owners.umount_taken, levels.{DownWrite.queued_passed, Worlds.level_right}}
use Rattle.gate_schedules.proofs.operations.freeze.Causes.{level_ends}

state_passed : (s : GpState) → Some s ≡ Some GpState.Passed → is_passed s ≡ true
state_passed s h = grind arith

closing_role : (x : Freeze) (d : DownWrite) (s : DownWriteStep) →
    sync_role_of d.level (Some (Phase.Freezes (at_freeze x (FreezeStep.Closes (at_down_write d s))))) ≡ down_write_role s
closing_role x d s = rw (eq-eqb d.level d.level refl) refl

module _ (c : Config) (w : World) (earlier : List World) (good : IsGood c w) (t : ℕ) (lt : t < c.tasks) (x : Freeze) where
  -- what is said of the wait of a freeze that is at this step
  abbrev Waits : FreezeStep → Next Freeze → Type 0
  Waits s n = HasReason c w earlier t (Phase.Freezes (at_freeze x s)) (map_next Phase.Freezes n)

  module _ (d : DownWrite) (one : 1 ≤ d.level) (three : d.level ≤ 3) where
    passed_waits : (s : FreezeStep) (g : Grace) → Waits s (after_closing x d.level (sections_awaited d (passed_on g)))
    passed_waits s g = elim (cases_Bool (nat_lt (g.task + 1) g.tasks)) [ inl f ↦ rw f tt | inr f ↦ rw f tt ]

    inside_found : (g : Grace) → g.task < c.tasks →
        (w.views t).phase ≡ Some (Phase.Freezes (at_freeze x (FreezeStep.Closes (at_down_write d (DownWriteStep.AwaitsSections g))))) →
        w.words.section g.task % 2 ≡ 1 → HasCulprit c w t (Phase.Freezes (at_freeze x (FreezeStep.Closes (at_down_write d (DownWriteStep.AwaitsSections g)))))
    inside_found g there e odd =
        let is_in : inside (w.views g.task).phase ≡ 1 = sym (good Sections g.task there) ∙ odd in
        record {
          task = g.task;
          there = there;
          other = λ same. omega (arith, is_in, ap (λ y. inside (w.views y).phase) same ∙ ap inside e);
          stands = is_in;
        }

    module _ (s : DownWriteStep) (e : (w.views t).phase ≡ Some (Phase.Freezes (at_freeze x (FreezeStep.Closes (at_down_write d s)))))
        (has : down_write_role s ≡ Entered) where
      right : SyncLevelHolds c.tasks (level_in w d.level)
      right = level_right c w good d.level one three

      role_there : sync_role_of d.level (w.views t).phase ≡ Entered
      role_there = ap (sync_role_of d.level) e ∙ (closing_role x d s ∙ has)

      -- past its grace period it finds the level open, and a state of at least GP_PASSED
      found_there : (w.words.block d.level ≡ 0) ×
          ((state_found (w.words.sync d.level) ≡ Some GpState.Passed) ⊎ (is_queued right.level.word.state ≡ true))
      found_there =
          let h = writers_find c.tasks (level_in w d.level) right t lt (ap entered role_there) (ap entering role_there) in
          (h.2 ∙ ap closed role_there, h.3)

      -- so the state that it loads is one
      passed_there : is_passed right.level.word.state ≡ true
      passed_there =
          elim found_there.1 [
            | inl p ↦ state_passed right.level.word.state (sym (ap state_found_in right.level.packed) ∙ p)
            | inr q ↦ queued_passed right.level.word.state q
          ]

    -- where the last word makes the sum other than 0, something was counted at the level meanwhile
    sum_waits : (sum : Sum) → sum.words < c.processors → d.processors ≡ c.processors → DownWriteCause c t w earlier d.level (DownWriteStep.Sums sum) →
        Waits (FreezeStep.Closes (at_down_write d (DownWriteStep.Sums sum)))
        (after_closing x d.level (down_write_after d (DownWriteStep.Sums sum) (w.words.level d.level sum.words)).0)
    sum_waits sum there same h =
        elim (cases_Bool (nat_lt (sum.words + 1) d.processors)) [
          | inl more ↦ rw more tt
          | inr less ↦ elim (eqb_tells (wrap_add sum.total (w.words.level d.level sum.words)) 0) [
            | inl z ↦ rw (less, z.0) tt
            | inr z ↦
                rw (less, z.0) (level_ends c t d.level w earlier sum h there
                (omega (arith, there, same, ltb-false (sum.words + 1) d.processors less)) z.1)
          ]
        ]

    -- so it is of a sum that begins after a wait
    sum_again : (sum : Sum) → sum.words < c.processors → d.processors ≡ c.processors → DownWriteCause c t w earlier d.level (DownWriteStep.Sums sum) →
        Waits (FreezeStep.Waits (at_down_write d (DownWriteStep.Sums sum)))
        (after_closing x d.level (down_write_after d (DownWriteStep.Sums sum) (w.words.level d.level sum.words)).0)
    sum_again sum there same h =
        elim (cases_Bool (nat_lt (sum.words + 1) d.processors)) [
          | inl more ↦ rw more tt
          | inr less ↦ elim (eqb_tells (wrap_add sum.total (w.words.level d.level sum.words)) 0) [
            | inl z ↦ rw (less, z.0) tt
            | inr z ↦
                rw (less, z.0) (level_ends c t d.level w earlier sum h there
                (omega (arith, there, same, ltb-false (sum.words + 1) d.processors less)) z.1)
          ]
        ]

    closing_waits : (hook : HookAnswer) (s : DownWriteStep) →
        (w.views t).phase ≡ Some (Phase.Freezes (at_freeze x (FreezeStep.Closes (at_down_write d s)))) → d.processors ≡ c.processors →
        DownWriteStepFits c s → DownWriteCause c t w earlier d.level s →
        Waits (FreezeStep.Closes (at_down_write d s))
        (after_closing x d.level (down_write_after d s (found_at w.words (Phase.Freezes (at_freeze x (FreezeStep.Closes (at_down_write d s)))) hook)).0)
    closing_waits hook (DownWriteStep.Enters transition) e same f h = tt
    closing_waits hook (DownWriteStep.AwaitsSections g) e same f h =
        elim (eqb_tells (w.words.section g.task % 2) 1) [
          | inl odd ↦ elim (cases_Bool (is_first g.first (w.words.section g.task))) [
            | inl k ↦ rw (odd.0, k) (inside_found g f.1 e odd.1)
            | inr k ↦ rw (odd.0, k) (passed_waits (FreezeStep.Closes (at_down_write d (DownWriteStep.AwaitsSections g))) g)
          ]
          | inr even ↦ rw even.0 (passed_waits (FreezeStep.Closes (at_down_write d (DownWriteStep.AwaitsSections g))) g)
        ]
    closing_waits hook (DownWriteStep.CallsBack transition) e same f h = tt
    closing_waits hook DownWriteStep.AwaitsPassed e same f h =
        let now = passed_there DownWriteStep.AwaitsPassed e refl in
        rw ((right DownWriteStep.AwaitsPassed e refl).level.packed, now) tt
    closing_waits hook DownWriteStep.SetsBlock e same f h = rw (eq-eqb (w.words.block d.level) 0 (found_there DownWriteStep.SetsBlock e refl).0) tt
    closing_waits hook (DownWriteStep.Sums sum) e same f h = sum_waits sum f same h

  -- so none of its reopening is
  reopening_waits : (s : FreezeStep) (u : UpWrite) (step : UpWriteStep) (level code found : ℕ) →
      Waits s (after_reopening x level code (up_write_after u step found).0)
  reopening_waits s u step level code found = grind arith

  undoing_waits : (s : FreezeStep) (level code : ℕ) (n : TransitionNext) → Waits s (after_undoing x level code n)
  undoing_waits s level code n = grind arith

  clearing_waits : (s : FreezeStep) (marks : ClearMarks) (found : ℕ) → Waits s (after_clearing x (clear_after marks found).0)
  clearing_waits s marks found = elim (cases_Bool (nat_lt (marks.node + 1) marks.nodes)) [ inl h ↦ rw h tt | inr h ↦ rw h tt ]

  pub freeze_waits : (hook : HookAnswer) (s : FreezeStep) → (w.views t).phase ≡ Some (Phase.Freezes (at_freeze x s)) → FreezeFits c x.holder s →
      FreezeCause c t w earlier x.holder s →
      HasReason c w earlier t (Phase.Freezes (at_freeze x s))
      (after_of (Phase.Freezes (at_freeze x s)) (found_at w.words (Phase.Freezes (at_freeze x s)) hook) hook).0
  freeze_waits hook FreezeStep.Locks e f h =
      elim (eqb_tells w.words.umount 0) [
        | inl k ↦ rw k.0 tt
        | inr k ↦ rw k.0 (umount_taken c w good t lt (Phase.Freezes (at_freeze x FreezeStep.Locks)) (λ y own. own) k.1 (ap owns e))
      ]
  freeze_waits hook FreezeStep.LoadsStage e f h =
      elim (eqb_tells w.words.stage 0) [
        | inl k ↦ rw k.0 tt
        | inr k ↦ elim (eqb_tells w.words.stage 4) [ inl z ↦ rw (k.0, z.0) tt | inr z ↦ rw (k.0, z.0) tt ]
      ]
  freeze_waits hook FreezeStep.LoadsSuperblock e f h = elim (eqb_tells w.words.sb 0) [ inl k ↦ rw k.0 tt | inr k ↦ rw k.0 tt ]
  freeze_waits hook (FreezeStep.Closes d) e f h = closing_waits d f.0 f.1 hook d.step e f.3 f.4 h
  freeze_waits (Ok answer) (FreezeStep.Waits d) e f h =
      subst (λ s. DownWriteStepFits c s → DownWriteCause c t w earlier d.level s → Waits (FreezeStep.Waits (at_down_write d s))
      (after_closing x d.level (down_write_after d s (found_by (down_write_next d s).1 (read w.words (down_write_next d s).0))).0)) (sym f.1)
      (λ there cause. sum_again d f.0.0 f.0.1 (record { words = 0; total = 0 }) there f.0.3 cause) f.0.4 h
  freeze_waits (Err code) (FreezeStep.Waits d) e f h = tt
  freeze_waits hook (FreezeStep.Undoes level transition code) e f h =
      undoing_waits (FreezeStep.Undoes level transition code) level code
      (transition_after on_exit transition (found_at w.words (Phase.Freezes (at_freeze x (FreezeStep.Undoes level transition code))) hook))
  freeze_waits hook (FreezeStep.LocksToUndo code) e f h =
      elim (eqb_tells w.words.umount 0) [
        | inl k ↦ rw k.0 tt
        | inr k ↦ rw k.0 (umount_taken c w good t lt (Phase.Freezes (at_freeze x (FreezeStep.LocksToUndo code))) (λ y own. own) k.1 (ap owns e))
      ]
  freeze_waits hook FreezeStep.LocksAgain e f h =
      elim (eqb_tells w.words.umount 0) [
        | inl k ↦ rw k.0 tt
        | inr k ↦ rw k.0 (umount_taken c w good t lt (Phase.Freezes (at_freeze x FreezeStep.LocksAgain)) (λ y own. own) k.1 (ap owns e))
      ]
  freeze_waits hook (FreezeStep.Cleans marks) e f h = clearing_waits (FreezeStep.Cleans marks) marks (w.words.node marks.node)
  freeze_waits (Ok answer) FreezeStep.SetsFs e f h = tt
  freeze_waits (Err code) FreezeStep.SetsFs e f h = tt
  freeze_waits (Ok answer) FreezeStep.SetsComplete e f h = tt
  freeze_waits (Err code) FreezeStep.SetsComplete e f h = tt
  freeze_waits hook (FreezeStep.Reopens u code) e f h =
      reopening_waits (FreezeStep.Reopens u code) u u.step u.level code (found_at w.words (Phase.Freezes (at_freeze x (FreezeStep.Reopens u code))) hook)
  freeze_waits hook (FreezeStep.Releases (Ok reply)) e f h = tt
  freeze_waits hook (FreezeStep.Releases (Err GateError.Busy)) e f h = h refl
  freeze_waits hook (FreezeStep.Releases (Err refusal)) e f h = tt
  freeze_waits hook other e f h = tt
