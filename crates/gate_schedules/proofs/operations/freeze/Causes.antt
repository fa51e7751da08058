-- The causes of a freeze's refusal and of the sums of its levels, along an execution.
use Rattle.gate_schedules.proofs.Prelude.{AtLevel, CauseOf, ClearMarks, Config, DownWrite, DownWriteStep, Err, Freeze, FreezeFits, FreezeStep}
use Rattle.gate_schedules.proofs.Prelude.{GateError, HookAnswer, IsGood, List, Next, Ok, Option, Phase, Some, Sum, SyncWord, TransitionNext, UpWrite}
use Rattle.gate_schedules.proofs.Prelude.{WordName, Words, World, [], add-one, after_closing, after_of, ap, arith, at_down_write, at_freeze}
use Rattle.gate_schedules.proofs.Prelude.{cases_Bool, clear_after, down_write_after, down_write_next, eqb_tells, false, found_at, found_by, held_by}
use Rattle.gate_schedules.proofs.Prelude.{holders_in, inl, inr, left, map_next, nat_lt, on_callback, on_enter, on_exit, phase_after, put, read, refl}
use Rattle.gate_schedules.proofs.Prelude.{subst, suc, sym, total, transition_after, true, unpack, up_write_after, words_after, wrap_add, ℕ, ◌%◌, ◌+◌}
use Rattle.gate_schedules.proofs.Prelude.{◌-◌, ◌<◌, ◌==◌, ◌∙◌, ◌∷◌, ◌≡◌, ◌≤◌}
use Rattle.cpu_words.{proofs.gate_counts.{Events.words_sum, Numbers.{ahead_none, ahead_past, ahead_step}}, specs.Sums.{ahead, lead}}
use Rattle.freeze_levels.specs.Freezes.{after_clearing, after_reopening, after_undoing, freeze_fails, level_closed}
use Rattle.gate_world.specs.{Fits.DownWriteStepFits, Rules.LevelHoldsIn, refusals.Causes.{all_inside, moments_of_sum, was_inside, words_read}}
use Rattle.gate_world.specs.refusals.KeptCauses.{DownWriteCause, FreezeCause}
use Rattle.percpu_rwsem.specs.{Graces.looked, Writers.{callback_step, enter_step, passed_awaited, sections_awaited, sum_begun}}
use Rattle.percpu_rwsem.specs.declared.grace.GraceNext.{GraceNext}
use Rattle.gate_schedules.proofs.{frames.{OperationLaws.IsQuiet, Words.load_same}, operations.freeze.Fits.found_cases}
use Rattle.gate_schedules.proofs.traces.Moments.{look_skips, sum_begins, sum_goes}

-- where nothing is counted at a level, a sum that begins leads by 0
fresh_level : (c : Config) (w : World) → IsGood c w → (i : ℕ) → 1 ≤ i → i ≤ 3 → all_inside c i w ≡ 0 →
    lead c.processors (w.words.level i) 0 0 ≡ 0
fresh_level c w good i one three none =
    let g : LevelHoldsIn c w i = good (AtLevel i) one three in
    let s : total c.processors (w.words.level i) % 18446744073709551616 ≡ all_inside c i w % 18446744073709551616 =
    words_sum g.gate.counts in
    let a : ahead c.processors (w.words.level i) 0 ≡ total c.processors (w.words.level i) =
    ahead_none c.processors (w.words.level i) in
    omega (arith, s, a, none)

-- nothing was counted at the level in any of these states
none_inside : (c : Config) (i : ℕ) (w : World) (earlier : List World) → was_inside c i (w ∷ earlier) ≡ false →
    (all_inside c i w ≡ 0) × (was_inside c i earlier ≡ false)
none_inside c i w earlier h = grind arith

module _ (c : Config) (t i : ℕ) where
  -- in this state and the earlier ones
  module _ (w : World) (earlier : List World) where
    -- a sum of a level that begins has its cause
    level_starts : IsGood c w → 1 ≤ i → i ≤ 3 → words_read (w.views t).phase ≡ Some 0 →
        DownWriteCause c t w earlier i (DownWriteStep.Sums record { words = 0; total = 0 })
    level_starts good one three e = (
      λ z. refl,
      λ none. fresh_level c w good i one three
          (none_inside c i w [] (sym (ap (was_inside c i) (sum_begins t w earlier e)) ∙ none)).0,
    )

    -- where nothing was counted while a sum was read so far, nothing is counted now, and nothing was before
    none_so_far : (k : ℕ) → words_read (w.views t).phase ≡ Some k → (k ≡ 0 → ⊥) →
        was_inside c i (moments_of_sum t (w ∷ earlier)) ≡ false →
        (all_inside c i w ≡ 0) × (was_inside c i (moments_of_sum t earlier) ≡ false)
    none_so_far k e ne none =
        none_inside c i w (moments_of_sum t earlier) (sym (ap (was_inside c i) (sum_goes t w earlier k e ne)) ∙ none)

  -- where the last word makes a sum other than 0, something was counted at its level
  pub level_ends : (w : World) (earlier : List World) (sum : Sum) → DownWriteCause c t w earlier i (DownWriteStep.Sums sum) →
      sum.words < c.processors → suc sum.words ≡ c.processors → (wrap_add sum.total (w.words.level i sum.words) ≡ 0 → ⊥) →
      was_inside c i (moments_of_sum t (w ∷ earlier)) ≡ true
  level_ends w earlier sum h there last busy =
      let past : ahead c.processors (w.words.level i) (suc sum.words) ≡ 0 =
      ahead_past c.processors (suc sum.words) (w.words.level i) (omega (arith, last)) in
      elim (cases_Bool (was_inside c i (moments_of_sum t (w ∷ earlier)))) [
        | inl then_inside ↦ then_inside
        | inr none ↦ absurd (busy (omega (arith, h.1 none, ahead_step c.processors sum.words (w.words.level i) there, past)))
      ]

  -- in this state, the next one and the earlier ones, with a sum whose cause is known
  module _ (w next : World) (earlier : List World) (sum : Sum) (h : DownWriteCause c t w earlier i (DownWriteStep.Sums sum)) where
    -- the cause of a sum stays while others step
    level_stays : IsGood c next → 1 ≤ i → i ≤ 3 → words_read (next.views t).phase ≡ Some sum.words →
        words_read (w.views t).phase ≡ Some sum.words →
        (all_inside c i w ≡ 0 → all_inside c i next ≡ 0 → next.words.level i ≡ w.words.level i) →
        DownWriteCause c t next (w ∷ earlier) i (DownWriteStep.Sums sum)
    level_stays good one three e was quiet = (
      h.0,
      λ none.
          elim (eqb_tells sum.words 0) [
            | inl z ↦ (λ j. lead c.processors (next.words.level i) (z.1 j) (h.0 z.1 j)) ∙
                (level_starts next (w ∷ earlier) good one three (e ∙ ap Some z.1)).1 none
            | inr z ↦
                let now : (all_inside c i next ≡ 0) × (was_inside c i (moments_of_sum t (w ∷ earlier)) ≡ false) =
                none_so_far next (w ∷ earlier) sum.words e z.1 none in
                let before : (all_inside c i w ≡ 0) × (was_inside c i (moments_of_sum t earlier) ≡ false) =
                none_so_far w earlier sum.words was z.1 now.1 in
                ap (λ f. lead c.processors f sum.words sum.total) (quiet before.0 now.0) ∙ h.1 now.1
          ],
    )

    level_takes : sum.words < c.processors → next.words.level i ≡ w.words.level i →
        words_read (next.views t).phase ≡ Some (sum.words + 1) →
        DownWriteCause c t next (w ∷ earlier) i
        (DownWriteStep.Sums record { words = sum.words + 1; total = wrap_add sum.total (w.words.level i sum.words) })
    level_takes there same e = (
      λ z. absurd (omega (arith, z)),
      λ none.
          let now : (all_inside c i next ≡ 0) × (was_inside c i (moments_of_sum t (w ∷ earlier)) ≡ false) =
          none_so_far next (w ∷ earlier) (sum.words + 1) e (λ z. omega (arith, z)) none in
          let found : ℕ = w.words.level i sum.words in
          let on : lead c.processors (w.words.level i) (suc sum.words) (wrap_add sum.total found) ≡ 0 =
          omega (arith, h.1 now.1, ahead_step c.processors sum.words (w.words.level i) there) in
          (λ j. lead c.processors (same j) (add-one sum.words j) (wrap_add sum.total found)) ∙ on,
    )

-- a task whose view another transition leaves alone
module _ (c : Config) (t : ℕ) (w next : World) (earlier : List World) (good : IsGood c next) (x : Freeze) where
  closing_stays : (d : DownWrite) (s : DownWriteStep) → 1 ≤ d.level → d.level ≤ 3 →
      (next.views t).phase ≡ Some (Phase.Freezes (at_freeze x (FreezeStep.Closes (at_down_write d s)))) →
      (w.views t).phase ≡ Some (Phase.Freezes (at_freeze x (FreezeStep.Closes (at_down_write d s)))) → IsQuiet c w next →
      DownWriteCause c t w earlier d.level s → DownWriteCause c t next (w ∷ earlier) d.level s
  closing_stays d s one three e was quiet h = grind (arith, level_stays)

  waiting_stays : (d : DownWrite) (s : DownWriteStep) → 1 ≤ d.level → d.level ≤ 3 →
      (next.views t).phase ≡ Some (Phase.Freezes (at_freeze x (FreezeStep.Waits (at_down_write d s)))) →
      (w.views t).phase ≡ Some (Phase.Freezes (at_freeze x (FreezeStep.Waits (at_down_write d s)))) → IsQuiet c w next →
      DownWriteCause c t w earlier d.level s → DownWriteCause c t next (w ∷ earlier) d.level s
  waiting_stays d s one three e was quiet h = grind (arith, level_stays)

  pub freeze_stays : (s : FreezeStep) → FreezeFits c x.holder s → (next.views t).phase ≡ Some (Phase.Freezes (at_freeze x s)) →
      (w.views t).phase ≡ Some (Phase.Freezes (at_freeze x s)) → IsQuiet c w next → FreezeCause c t w earlier x.holder s →
      FreezeCause c t next (w ∷ earlier) x.holder s
  freeze_stays s f e was quiet h = grind (arith, waiting_stays, closing_stays, look_skips)

-- the task that steps: what its next phase says, in the state after the step
module _ (c : Config) (t : ℕ) (w next : World) (earlier : List World) (after : IsGood c next) (x : Freeze) where
  -- what comes after a step has its cause, where it is what the task is at in the next state
  abbrev Own : Next Freeze → Type 0
  Own n = (next.views t).phase ≡ phase_after (map_next Phase.Freezes n) →
      CauseOf c t next (w ∷ earlier) (phase_after (map_next Phase.Freezes n))

  closed_own : (level : ℕ) → Own (Next.Go (at_freeze x (level_closed level x.nodes)))
  closed_own level e = grind arith

  fails_own : (level code : ℕ) → Own (Next.Go (at_freeze x (freeze_fails level code)))
  fails_own level code e = elim (cases_Bool (level == 0)) [ inl h ↦ rw h (λ r. absurd (cc)) | inr h ↦ rw h tt ]

  module _ (d : DownWrite) where
    enter_own : (n : TransitionNext) → Own (after_closing x d.level (Next.Go (at_down_write d (enter_step d.tasks n))))
    enter_own n e = grind arith

    callback_own : (n : TransitionNext) → Own (after_closing x d.level (Next.Go (at_down_write d (callback_step n))))
    callback_own n e = grind arith

    sections_own : (n : GraceNext) → Own (after_closing x d.level (sections_awaited d n))
    sections_own n e = grind arith

    passed_own : (o : Option SyncWord) → Own (after_closing x d.level (passed_awaited d o))
    passed_own o e = grind arith

    -- after the swap of `block` a sum begins, or the swap is done again
    block_own : (found : ℕ) → 1 ≤ d.level → d.level ≤ 3 → Own (after_closing x d.level (down_write_after d DownWriteStep.SetsBlock found).0)
    block_own found one three e =
        elim (cases_Bool (found == 0)) [
          | inl h ↦ rw h (level_starts c t d.level next (w ∷ earlier) after one three (ap words_read (rw h at e)))
          | inr h ↦ rw h tt
        ]

    -- a sum with one word more: it goes on, the level is closed, or a new sum begins
    sum_own : (sum : Sum) → 1 ≤ d.level → d.level ≤ 3 → sum.words < c.processors →
        next.words.level d.level ≡ w.words.level d.level → DownWriteCause c t w earlier d.level (DownWriteStep.Sums sum) →
        Own (after_closing x d.level (down_write_after d (DownWriteStep.Sums sum) (w.words.level d.level sum.words)).0)
    sum_own sum one three there same h e =
        elim (cases_Bool (nat_lt (sum.words + 1) d.processors)) [
          | inl more ↦ rw more (level_takes c t d.level w next earlier sum h there same (ap words_read (rw more at e)))
          | inr less ↦ elim (cases_Bool (wrap_add sum.total (w.words.level d.level sum.words) == 0)) [
            | inl z ↦ rw (less, z) (closed_own d.level (rw (less, z) at e))
            | inr z ↦
                rw (less, z) (level_starts c t d.level next (w ∷ earlier) after one three (ap words_read (rw (less, z) at e)))
          ]
        ]

    -- so it is after each step of the closing of a level
    closing_own : (hook : HookAnswer) (s : DownWriteStep) → 1 ≤ d.level → d.level ≤ 3 → DownWriteStepFits c s →
        next.words ≡ words_after w.words (Phase.Freezes (at_freeze x (FreezeStep.Closes (at_down_write d s)))) hook → DownWriteCause c t w earlier d.level s →
        Own (after_closing x d.level
        (down_write_after d s (found_at w.words (Phase.Freezes (at_freeze x (FreezeStep.Closes (at_down_write d s)))) hook)).0)
    closing_own hook (DownWriteStep.Enters transition) one three f same h e =
        enter_own (transition_after on_enter transition
        (found_at w.words (Phase.Freezes (at_freeze x (FreezeStep.Closes (at_down_write d (DownWriteStep.Enters transition))))) hook)) e
    closing_own hook (DownWriteStep.AwaitsSections grace) one three f same h e = sections_own (looked grace (w.words.section grace.task)) e
    closing_own hook (DownWriteStep.CallsBack transition) one three f same h e =
        callback_own (transition_after on_callback transition
        (found_at w.words (Phase.Freezes (at_freeze x (FreezeStep.Closes (at_down_write d (DownWriteStep.CallsBack transition))))) hook)) e
    closing_own hook DownWriteStep.AwaitsPassed one three f same h e = passed_own (unpack (w.words.sync d.level)) e
    closing_own hook DownWriteStep.SetsBlock one three f same h e = block_own (w.words.block d.level) one three e
    closing_own hook (DownWriteStep.Sums sum) one three f same h e =
        sum_own sum one three f (ap (λ (ws : Words). ws.level d.level) (same ∙ load_same w.words (WordName.LevelCount d.level sum.words))) h e

  -- a sum that begins after a wait
  waiting_own : (d : DownWrite) (s : DownWriteStep) → s ≡ sum_begun → 1 ≤ d.level → d.level ≤ 3 → DownWriteStepFits c s →
      next.words.level d.level ≡ (put w.words (down_write_next d s).0 (left (down_write_next d s).1 (read w.words (down_write_next d s).0))).level d.level →
      DownWriteCause c t w earlier d.level s →
      Own (after_closing x d.level (down_write_after d s (found_by (down_write_next d s).1 (read w.words (down_write_next d s).0))).0)
  waiting_own d s begun one three =
      subst (λ k. DownWriteStepFits c k →
      next.words.level d.level ≡ (put w.words (down_write_next d k).0 (left (down_write_next d k).1 (read w.words (down_write_next d k).0))).level d.level →
      DownWriteCause c t w earlier d.level k →
      Own (after_closing x d.level (down_write_after d k (found_by (down_write_next d k).1 (read w.words (down_write_next d k).0))).0)) (sym begun)
      (λ there same h. sum_own d (record { words = 0; total = 0 }) one three there
      (same ∙ ap (λ (ws : Words). ws.level d.level) (load_same w.words (WordName.LevelCount d.level 0))) h)

  undoing_own : (level code : ℕ) (n : TransitionNext) → Own (after_undoing x level code n)
  undoing_own level code n e = grind arith

  reopening_own : (level code : ℕ) (n : Next UpWrite) → Own (after_reopening x level code n)
  reopening_own level code n e = grind arith

  clearing_own : (n : Next ClearMarks) → Own (after_clearing x n)
  clearing_own n e = grind arith

  -- where a freeze was found under way, it was so when the freeze looked
  stage_own : (w.views t).phase ≡ Some (Phase.Freezes (at_freeze x FreezeStep.LoadsStage)) → (w.words.stage ≡ 0 → ⊥) → (w.words.stage ≡ 4 → ⊥) →
      Own (Next.Go (at_freeze x (FreezeStep.Releases (Err GateError.Busy))))
  stage_own e started unfinished e' r = grind arith

  holder_own : (w.views t).phase ≡ Some (Phase.Freezes (at_freeze x FreezeStep.LoadsHolders)) → w.words.stage ≡ 4 →
      held_by (holders_in w.words.holders) x.holder ≡ true → Own (Next.Go (at_freeze x (FreezeStep.Releases (Err GateError.Busy))))
  holder_own e four own e' r = grind arith

  -- what comes after a step has its cause
  pub freeze_own : (hook : HookAnswer) (s : FreezeStep) → FreezeFits c x.holder s → (s ≡ FreezeStep.LoadsHolders → w.words.stage ≡ 4) →
      (w.views t).phase ≡ Some (Phase.Freezes (at_freeze x s)) → next.words ≡ words_after w.words (Phase.Freezes (at_freeze x s)) hook →
      FreezeCause c t w earlier x.holder s →
      let comes : Option Phase =
      phase_after (after_of (Phase.Freezes (at_freeze x s)) (found_at w.words (Phase.Freezes (at_freeze x s)) hook) hook).0 in
      (next.views t).phase ≡ comes → CauseOf c t next (w ∷ earlier) comes
  freeze_own hook FreezeStep.Locks f four e same h e' = elim (eqb_tells w.words.umount 0) [ inl z ↦ rw z.0 tt | inr z ↦ rw z.0 tt ]
  freeze_own hook FreezeStep.LoadsStage f four e same h e' =
      elim (eqb_tells w.words.stage 0) [
        | inl z ↦ rw z.0 tt
        | inr z ↦ elim (eqb_tells w.words.stage 4) [
          | inl q ↦ rw (z.0, q.0) tt
          | inr q ↦ rw (z.0, q.0) (stage_own e z.1 q.1 (rw (z.0, q.0) at e'))
        ]
      ]
  freeze_own hook FreezeStep.LoadsHolders f four e same h e' =
      found_cases x (holders_in w.words.holders) (λ s. (next.views t).phase ≡ Some (Phase.Freezes (at_freeze x s)) →
      CauseOf c t next (w ∷ earlier) (Some (Phase.Freezes (at_freeze x s)))) (λ own. holder_own e (four refl) own) (λ other is. tt) e'
  freeze_own hook (FreezeStep.Holds beside) f four e same h e' = λ r. absurd (cc)
  freeze_own hook FreezeStep.LoadsSuperblock f four e same h e' = elim (eqb_tells w.words.sb 0) [ inl z ↦ rw z.0 tt | inr z ↦ rw z.0 tt ]
  freeze_own hook (FreezeStep.Closes d) f four e same h e' = closing_own d hook d.step f.0 f.1 f.4 same h e'
  freeze_own (Ok answer) (FreezeStep.Waits d) f four e same h e' =
      waiting_own d d.step f.1 f.0.0 f.0.1 f.0.4 (ap (λ (ws : Words). ws.level d.level) same) h e'
  freeze_own (Err code) (FreezeStep.Waits d) f four e same h e' = tt
  freeze_own hook (FreezeStep.Undoes level transition code) f four e same h e' =
      undoing_own level code
      (transition_after on_exit transition (found_at w.words (Phase.Freezes (at_freeze x (FreezeStep.Undoes level transition code))) hook)) e'
  freeze_own hook (FreezeStep.LocksToUndo code) f four e same h e' =
      elim (eqb_tells w.words.umount 0) [ inl z ↦ rw z.0 tt | inr z ↦ rw z.0 tt ]
  freeze_own hook (FreezeStep.GivesUp level code) f four e same h e' = fails_own (level - 1) code e'
  freeze_own hook FreezeStep.LocksAgain f four e same h e' = elim (eqb_tells w.words.umount 0) [ inl z ↦ rw z.0 tt | inr z ↦ rw z.0 tt ]
  freeze_own hook (FreezeStep.Cleans marks) f four e same h e' = clearing_own (clear_after marks (w.words.node marks.node)).0 e'
  freeze_own (Ok answer) FreezeStep.SetsFs f four e same h e' = tt
  freeze_own (Err code) FreezeStep.SetsFs f four e same h e' = fails_own 2 code e'
  freeze_own (Ok answer) FreezeStep.SetsComplete f four e same h e' = tt
  freeze_own (Err code) FreezeStep.SetsComplete f four e same h e' = fails_own 3 code e'
  freeze_own hook (FreezeStep.Reopens u code) f four e same h e' =
      reopening_own u.level code (up_write_after u u.step (found_at w.words (Phase.Freezes (at_freeze x (FreezeStep.Reopens u code))) hook)).0 e'
  freeze_own hook other f four e same h e' = tt
