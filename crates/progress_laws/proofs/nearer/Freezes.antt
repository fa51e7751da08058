-- Freezes and thaws: each step that doesn't wait comes nearer.
use Rattle.progress_laws.proofs.Prelude.{Config, DownWrite, DownWriteStep, Err, Freeze, FreezeFits, FreezeStep, HookAnswer, IsGood, Next, Ok, Option}
use Rattle.progress_laws.proofs.Prelude.{Phase, PhaseFits, ThawStep, Transition, TransitionNext, UpWrite, UpWriteStep, WordName, Words, World}
use Rattle.progress_laws.proofs.Prelude.{after_closing, after_event, ap, arith, at_freeze, cases_Bool, closing_left, closing_tries, down_write_after}
use Rattle.progress_laws.proofs.Prelude.{down_write_next, eq-eqb, eqb_tells, false, found_at, found_by, freeze_after, freeze_left, freeze_next}
use Rattle.progress_laws.proofs.Prelude.{freeze_tries, freeze_waits, held_of, inl, inr, level_closed, load_same, nat_lt, opening_left, opening_tries}
use Rattle.progress_laws.proofs.Prelude.{read, refl, subst, sym, sync_role_of, thaw_after, thaw_waits, transition_after, true, true≢false}
use Rattle.progress_laws.proofs.Prelude.{words_after, ℕ, ◌*◌, ◌+◌, ◌-◌, ◌<◌, ◌==◌, ◌∙◌, ◌≡◌, ◌≤◌}
use Rattle.access_model.specs.{Holders.{held_by, is_unheld, with_holder}, declared.actions.Action.Action}
use Rattle.freeze_laws.{proofs.stages.Facts.at_level, specs.levels.Operations.{down_write_role, up_write_role}}
use Rattle.freeze_levels.specs.{Freezes.{after_clearing, after_reopening, after_undoing, freeze_fails, freeze_undone}, Holders.holders_in}
use Rattle.freeze_levels.specs.{Thaws.{after_opening, thaw_next, thaw_opens}, declared.thaws.Thaw.Thaw}
use Rattle.gate_schedules.proofs.operations.{deadlocks.BlockedCloses.{StaysAtLevel, down_stays}, freeze.Closes.by_wait}
use Rattle.gate_world.specs.{Fits.{Fits, ThawFits}, Roles.{freeze_position, position_sync, sync_beside, thaw_position}, Rules.Fitting}
use Rattle.node_words.specs.{Phases.{clear_after, clear_next}, declared.marks.ClearMarks.ClearMarks}
use Rattle.percpu_rwsem.specs.{SyncWords.on_exit, Writers.{exit_made, up_write_after, up_write_next}}
use Rattle.progress_laws.proofs.nearer.{Calls.{lock_found, lock_free}, Levels.{ClosingNears, ClosingStays, OpeningNears, closing_nears}}
use Rattle.progress_laws.proofs.nearer.{Levels.{closing_stays, opening_nears}, Nearer.{NearsBy, NearsPhase, StaysBy, freeze_waits_on, phase_nears}}
use Rattle.progress_laws.{proofs.nearer.Nearer.phase_stays, specs.StepsLeft.{closed_left, thaw_left, thaw_tries}}

-- what comes after a step of a freeze, and of a thaw
abbrev FreezeNears : Words → Words → ℕ → ℕ → Next Freeze → Type 0
FreezeNears w after a n next =
    NearsBy (λ (y : Freeze). freeze_left y y.step) (λ (y : Freeze). 0) (λ (y : Freeze). freeze_tries after y.step) a 0 n (after.block ≡ w.block)
    (after ≡ w) next

abbrev ThawNears : Words → Words → ℕ → ℕ → Next Thaw → Type 0
ThawNears w after a n next =
    NearsBy (λ (y : Thaw). thaw_left y.step) (λ (y : Thaw). 0) (λ (y : Thaw). thaw_tries after y.step) a 0 n (after.block ≡ w.block) (after ≡ w) next

-- a level that is closed
closed_next : (x : Freeze) (level : ℕ) → 1 ≤ x.nodes → freeze_left x (level_closed level x.nodes) < closed_left x level
closed_next x level some =
    elim (cases_Bool (level == 1)) [
      | inl h ↦ rw h (omega arith)
      | inr h ↦ elim (cases_Bool (level == 2)) [ inl q ↦ rw (h, q) (omega arith) | inr q ↦ rw (h, q) (omega arith) ]
    ]

-- after a step of the closing of a level
closes_on : (w after : Words) (x : Freeze) (d : DownWrite) (s : DownWriteStep) (y : DownWrite) → y.level ≡ d.level → ClosingNears w after d s (Next.Go y) →
    FreezeNears w after (closing_left d.tasks s + closed_left x d.level) (closing_tries w d s) (Next.Go (at_freeze x (FreezeStep.Closes y)))
closes_on w after x d s y level h = grind arith

closes_near : (w after : Words) (x : Freeze) (d : DownWrite) (s : DownWriteStep) (next : Next DownWrite) (action : Option Action) → 1 ≤ x.nodes →
    StaysAtLevel d next action → ClosingNears w after d s next →
    FreezeNears w after (closing_left d.tasks s + closed_left x d.level) (closing_tries w d s) (after_closing x d.level next)
closes_near w after x d s next action some level h = grind (arith, closes_on, by_wait, closed_next)

abbrev FreezeStays : Words → (a n : ℕ) → Next Freeze → Type 0
FreezeStays w a n next =
    StaysBy (λ (y : Freeze). freeze_waits w y.step ≡ true) (λ (y : Freeze). freeze_left y y.step) (λ (y : Freeze). 0)
    (λ (y : Freeze). freeze_tries w y.step) a 0 n next

stays_on : (w : Words) (x : Freeze) (d : DownWrite) (s : DownWriteStep) (y : DownWrite) → y.level ≡ d.level → ClosingStays w d s (Next.Go y) →
    FreezeStays w (closing_left d.tasks s + closed_left x d.level) (closing_tries w d s) (Next.Go (at_freeze x (FreezeStep.Closes y)))
stays_on w x d s y level h = (h.0, omega (arith, h.1, ap (closed_left x) level), refl, h.3)

closes_stay : (w : Words) (x : Freeze) (d : DownWrite) (s : DownWriteStep) (next : Next DownWrite) (action : Option Action) →
    StaysAtLevel d next action → ClosingStays w d s next →
    FreezeStays w (closing_left d.tasks s + closed_left x d.level) (closing_tries w d s) (after_closing x d.level next)
closes_stay w x d s next action level h = grind (arith, stays_on, by_wait)

clears_near : (w after : Words) (x : Freeze) (marks : ClearMarks) (found : ℕ) → marks.node < marks.nodes →
    FreezeNears w after (freeze_left x (FreezeStep.Cleans marks)) 1 (after_clearing x (clear_after marks found).0)
clears_near w after x marks found lt =
    elim (cases_Bool (nat_lt (marks.node + 1) marks.nodes)) [ inl h ↦ rw h (inl (omega (arith, lt))) | inr h ↦ rw h (inl (omega (arith, lt))) ]

-- the opening of a level is followed by that of the one below
fails_left : (x : Freeze) (level code : ℕ) → 1 ≤ level → freeze_left x (freeze_fails (level - 1) code) < 2 * level
fails_left x level code one =
    elim (eqb_tells (level - 1) 0) [ inl h ↦ rw h.0 (omega (arith, one)) | inr h ↦ rw h.0 (omega (arith, one)) ]

-- a level that is given up has fewer steps left than one that is closed
gives_up_left : (x : Freeze) (level : ℕ) → 1 ≤ level → level ≤ 3 → 2 * level + 2 < closed_left x level
gives_up_left x level one three = at_level (λ i. 2 * i + 2 < closed_left x i) (omega arith, omega arith, omega arith) level one three

undone_left : (x : Freeze) (level code : ℕ) → freeze_left x (freeze_undone level code) < 2 * level + 2
undone_left x level code = elim (eqb_tells level 1) [ inl h ↦ rw h.0 (omega (arith, h.1)) | inr h ↦ rw h.0 (omega arith) ]

opens_left : (level : ℕ) → 1 ≤ level → thaw_left (thaw_opens (level - 1)) < 2 * level
opens_left level one =
    elim (eqb_tells (level - 1) 0) [ inl h ↦ rw h.0 (omega (arith, one)) | inr h ↦ rw h.0 (omega (arith, one)) ]

module _ (c : Config) (w : World) (good : IsGood c w) (t : ℕ) (lt : t < c.tasks) where
  module _ (u : UpWrite) (one : 1 ≤ u.level) (three : u.level ≤ 3) (after : Words) (s : UpWriteStep) where
    reopens_near : (x : Freeze) (code : ℕ) (next : Next UpWrite) → OpeningNears c w good t lt u one three after s next →
        FreezeNears w.words after (opening_left u.level s) (opening_tries w.words u s) (after_reopening x u.level code next)
    reopens_near x code next h = grind (arith, fails_left)

    undoes_near : (x : Freeze) (code : ℕ) (transition : Transition) (n : TransitionNext) →
        OpeningNears c w good t lt u one three after (UpWriteStep.Exits transition) (exit_made u n) →
        FreezeNears w.words after (2 * u.level + 2) (opening_tries w.words u (UpWriteStep.Exits transition)) (after_undoing x u.level code n)
    undoes_near x code transition n h = grind (arith, undone_left)

    thaws_near : (x : Thaw) (next : Next UpWrite) → OpeningNears c w good t lt u one three after s next →
        ThawNears w.words after (opening_left u.level s) (opening_tries w.words u s) (after_opening x u.level next)
    thaws_near x next h = grind (arith, opens_left)

  module _ (x : Freeze) (some : 1 ≤ x.nodes) where
    freeze_nears : (hook : HookAnswer) (s : FreezeStep) → ((i : ℕ) → sync_role_of i (w.views t).phase ≡ position_sync i (freeze_position s)) →
        FreezeFits c x.holder s → freeze_waits_on w.words s hook ≡ false →
        FreezeNears w.words (after_event w.words (freeze_next x s hook)) (freeze_left x s) (freeze_tries w.words s)
        (freeze_after x s (found_by (freeze_next x s hook).1 (read w.words (freeze_next x s hook).0)) hook).0
    freeze_nears hook FreezeStep.Locks role fits free = rw (lock_free w.words free) (inl (omega arith))
    freeze_nears hook FreezeStep.LoadsStage role fits free =
        elim (eqb_tells w.words.stage 0) [
          | inl h ↦ rw h.0 (inl (omega arith))
          | inr h ↦ elim (eqb_tells w.words.stage 4) [ inl q ↦ rw (h.0, q.0) (inl (omega arith)) | inr q ↦ rw (h.0, q.0) (inl (omega arith)) ]
        ]
    freeze_nears hook FreezeStep.LoadsHolders role fits free =
        elim (cases_Bool (held_by (holders_in w.words.holders) x.holder)) [ inl h ↦ rw h (inl (omega arith)) | inr h ↦ rw h (inl (omega arith)) ]
    freeze_nears hook (FreezeStep.Holds beside) role fits free = inl (omega arith)
    freeze_nears hook FreezeStep.LoadsSuperblock role fits free =
        elim (eqb_tells w.words.sb 0) [ inl h ↦ rw h.0 (inl (omega arith)) | inr h ↦ rw h.0 (inl (omega arith)) ]
    freeze_nears hook FreezeStep.CompletesReadOnly role fits free = inl (omega arith)
    freeze_nears hook FreezeStep.SetsWrite role fits free = inl (omega arith)
    freeze_nears hook FreezeStep.Unlocks role fits free = inl (omega arith)
    freeze_nears hook (FreezeStep.Closes d) role fits free =
        let here : position_sync d.level (freeze_position (FreezeStep.Closes d)) ≡ down_write_role d.step =
        ap (λ q. sync_beside q (nat_lt d.level d.level) (down_write_role d.step)) (eq-eqb d.level d.level refl) in
        let found : ℕ = found_by (down_write_next d d.step).1 (read w.words (down_write_next d d.step).0) in
        closes_near w.words (after_event w.words (down_write_next d d.step)) x d d.step (down_write_after d d.step found).0
        (down_write_after d d.step found).1 some (down_stays d d.step found)
        (closing_nears c w good t lt d fits.0 fits.1 fits.3 d.step (role d.level ∙ here) fits.4 free)
    freeze_nears (Ok answer) (FreezeStep.Waits d) role fits free =
        let here : position_sync d.level (freeze_position (FreezeStep.Waits d)) ≡ down_write_role d.step =
        ap (λ q. sync_beside q (nat_lt d.level d.level) (down_write_role d.step)) (eq-eqb d.level d.level refl) in
        let found : ℕ = found_by (down_write_next d d.step).1 (read w.words (down_write_next d d.step).0) in
        closes_near w.words (after_event w.words (down_write_next d d.step)) x d d.step (down_write_after d d.step found).0
        (down_write_after d d.step found).1 some (down_stays d d.step found)
        (closing_nears c w good t lt d fits.0.0 fits.0.1 fits.0.3 d.step (role d.level ∙ here) fits.0.4 free)
    freeze_nears (Err code) (FreezeStep.Waits d) role fits free = inl (omega (arith, gives_up_left x d.level fits.0.0 fits.0.1))
    freeze_nears hook (FreezeStep.Undoes level transition code) role fits free =
        let u : UpWrite = record { level = level; step = UpWriteStep.Exits transition } in
        let here : position_sync level (freeze_position (FreezeStep.Undoes level transition code)) ≡ up_write_role u.step =
        ap (λ q. sync_beside q (nat_lt level level) (up_write_role u.step)) (eq-eqb level level refl) in
        undoes_near u fits.0 fits.1 (after_event w.words (up_write_next u u.step)) u.step x code transition
        (transition_after on_exit transition (found_by (up_write_next u u.step).1 (read w.words (up_write_next u u.step).0)))
        (opening_nears c w good t lt u fits.0 fits.1 u.step (role level ∙ here))
    freeze_nears hook (FreezeStep.LocksToUndo code) role fits free = rw (lock_free w.words free) (inl (omega arith))
    freeze_nears hook (FreezeStep.GivesUp level code) role fits free = inl (omega (arith, fails_left x level code fits.0))
    freeze_nears hook FreezeStep.LocksAgain role fits free = rw (lock_free w.words free) (inl (omega arith))
    freeze_nears hook FreezeStep.SetsPageFault role fits free = inl (omega arith)
    freeze_nears hook (FreezeStep.Cleans marks) role fits free =
        clears_near w.words (after_event w.words (clear_next marks)) x marks (w.words.node marks.node) (omega (arith, fits.0, fits.2))
    freeze_nears (Ok answer) FreezeStep.SetsFs role fits free = inl (omega arith)
    freeze_nears (Err code) FreezeStep.SetsFs role fits free = inl (omega arith)
    freeze_nears (Ok answer) FreezeStep.SetsComplete role fits free = inl (omega arith)
    freeze_nears (Err code) FreezeStep.SetsComplete role fits free = inl (omega arith)
    freeze_nears hook (FreezeStep.Reopens u code) role fits free =
        let here : position_sync u.level (freeze_position (FreezeStep.Reopens u code)) ≡ up_write_role u.step =
        ap (λ q. sync_beside q (nat_lt u.level u.level) (up_write_role u.step)) (eq-eqb u.level u.level refl) in
        reopens_near u fits.0 fits.1 (after_event w.words (up_write_next u u.step)) u.step x code
        (up_write_after u u.step (found_by (up_write_next u u.step).1 (read w.words (up_write_next u u.step).0))).0
        (opening_nears c w good t lt u fits.0 fits.1 u.step (role u.level ∙ here))
    freeze_nears hook (FreezeStep.Releases answer) role fits free = tt

    freeze_stays : (hook : HookAnswer) (s : FreezeStep) → FreezeFits c x.holder s → freeze_waits_on w.words s hook ≡ true →
        (after_event w.words (freeze_next x s hook) ≡ w.words) ×
        FreezeStays w.words (freeze_left x s) (freeze_tries w.words s)
        (freeze_after x s (found_by (freeze_next x s hook).1 (read w.words (freeze_next x s hook).0)) hook).0
    freeze_stays hook FreezeStep.Locks fits waits =
        let z : (w.words.umount == 0) ≡ false = lock_found w.words waits in
        rw z (load_same w.words WordName.Umount, (waits, refl, refl, refl))
    freeze_stays hook (FreezeStep.Closes d) fits waits =
        let found : ℕ = found_by (down_write_next d d.step).1 (read w.words (down_write_next d d.step).0) in
        let h = closing_stays c w good t lt d fits.0 fits.1 fits.3 d.step fits.4 waits in (
          h.0,
          closes_stay w.words x d d.step (down_write_after d d.step found).0 (down_write_after d d.step found).1 (down_stays d d.step found) h.1,
        )
    freeze_stays (Ok answer) (FreezeStep.Waits d) fits waits =
        let found : ℕ = found_by (down_write_next d d.step).1 (read w.words (down_write_next d d.step).0) in
        let h = closing_stays c w good t lt d fits.0.0 fits.0.1 fits.0.3 d.step fits.0.4 waits in (
          h.0,
          closes_stay w.words x d d.step (down_write_after d d.step found).0 (down_write_after d d.step found).1 (down_stays d d.step found) h.1,
        )
    freeze_stays (Err code) (FreezeStep.Waits d) fits waits = absurd (true≢false (sym waits))
    freeze_stays hook (FreezeStep.LocksToUndo code) fits waits =
        let z : (w.words.umount == 0) ≡ false = lock_found w.words waits in
        rw z (load_same w.words WordName.Umount, (waits, refl, refl, refl))
    freeze_stays hook FreezeStep.LocksAgain fits waits =
        let z : (w.words.umount == 0) ≡ false = lock_found w.words waits in
        rw z (load_same w.words WordName.Umount, (waits, refl, refl, refl))
    freeze_stays hook s fits waits = absurd (true≢false (sym waits))

  module _ (x : Thaw) where
    thaw_nears : (hook : HookAnswer) (s : ThawStep) → ((i : ℕ) → sync_role_of i (w.views t).phase ≡ position_sync i (thaw_position s)) →
        ThawFits x.holder s → thaw_waits w.words s ≡ false →
        ThawNears w.words (after_event w.words (thaw_next x s hook)) (thaw_left s) (thaw_tries w.words s)
        (thaw_after x s (found_by (thaw_next x s hook).1 (read w.words (thaw_next x s hook).0)) hook).0
    thaw_nears hook ThawStep.Locks role fits free = rw (lock_free w.words free) (inl (omega arith))
    thaw_nears hook ThawStep.LoadsStage role fits free =
        elim (eqb_tells w.words.stage 4) [ inl h ↦ rw h.0 (inl (omega arith)) | inr h ↦ rw h.0 (inl (omega arith)) ]
    thaw_nears hook ThawStep.LoadsHolders role fits free =
        elim (cases_Bool (held_by (holders_in w.words.holders) x.holder)) [
          | inl h ↦ elim (cases_Bool (is_unheld (with_holder x.holder false (holders_in w.words.holders)))) [
            | inl q ↦ rw (h, q) (inl (omega arith))
            | inr q ↦ rw (h, q) (inl (omega arith))
          ]
          | inr h ↦ rw h (inl (omega arith))
        ]
    thaw_nears hook ThawStep.LoadsSuperblock role fits free =
        elim (eqb_tells w.words.sb 0) [ inl h ↦ rw h.0 (inl (omega arith)) | inr h ↦ rw h.0 (inl (omega arith)) ]
    thaw_nears (Ok answer) ThawStep.LeavesLast role fits free = inl (omega arith)
    thaw_nears (Err code) ThawStep.LeavesLast role fits free = tt
    thaw_nears hook (ThawStep.Reopens u) role fits free =
        let here : position_sync u.level (thaw_position (ThawStep.Reopens u)) ≡ up_write_role u.step =
        ap (λ q. sync_beside q (nat_lt u.level u.level) (up_write_role u.step)) (eq-eqb u.level u.level refl) in
        thaws_near u fits.0 fits.1 (after_event w.words (up_write_next u u.step)) u.step x
        (up_write_after u u.step (found_by (up_write_next u u.step).1 (read w.words (up_write_next u u.step).0))).0
        (opening_nears c w good t lt u fits.0 fits.1 u.step (role u.level ∙ here))
    thaw_nears hook (ThawStep.Releases answer) role fits free = tt
    thaw_nears hook other role fits free = inl (omega arith)

thaw_stays : (w : Words) (x : Thaw) (s : ThawStep) (hook : HookAnswer) → thaw_waits w s ≡ true →
    (after_event w (thaw_next x s hook) ≡ w) ×
    StaysBy (λ (y : Thaw). thaw_waits w y.step ≡ true) (λ (y : Thaw). thaw_left y.step) (λ (y : Thaw). 0)
    (λ (y : Thaw). thaw_tries w y.step) (thaw_left s) 0 (thaw_tries w s)
    (thaw_after x s (found_by (thaw_next x s hook).1 (read w (thaw_next x s hook).0)) hook).0
thaw_stays w x s hook waits = grind (arith, lock_found, load_same)

pub freeze_phase : (c : Config) (x : Freeze) → NearsPhase c (Phase.Freezes x)
freeze_phase c x = record {
  nears = λ lim w good t lt hook at free.
      let f : PhaseFits c t (held_of (w.views t)) (Phase.Freezes x) =
      subst (Fits c t (held_of (w.views t))) at (good Fitting t lt) in
      phase_nears Phase.Freezes w.words (words_after w.words (Phase.Freezes x) hook) (freeze_left x x.step) 0 (freeze_tries w.words x.step)
      (freeze_after x x.step (found_at w.words (Phase.Freezes x) hook) hook).0
      (freeze_nears c w good t lt x (omega (arith, f.3, lim.some_node)) hook x.step (λ i. ap (sync_role_of i) at) f.5 free);
  stays = λ lim w good t lt hook at waits out.
      let f : PhaseFits c t (held_of (w.views t)) (Phase.Freezes x) =
      subst (Fits c t (held_of (w.views t))) at (good Fitting t lt) in
      let h = freeze_stays c w good t lt x (omega (arith, f.3, lim.some_node)) hook x.step f.5 waits in (
        h.0,
        phase_stays Phase.Freezes w.words (freeze_left x x.step) 0 (freeze_tries w.words x.step)
            (freeze_after x x.step (found_at w.words (Phase.Freezes x) hook) hook).0 h.1,
      );
}

pub thaw_phase : (c : Config) (x : Thaw) → NearsPhase c (Phase.Thaws x)
thaw_phase c x = record {
  nears = λ lim w good t lt hook at free.
      let f : PhaseFits c t (held_of (w.views t)) (Phase.Thaws x) =
      subst (Fits c t (held_of (w.views t))) at (good Fitting t lt) in
      phase_nears Phase.Thaws w.words (words_after w.words (Phase.Thaws x) hook) (thaw_left x.step) 0 (thaw_tries w.words x.step)
      (thaw_after x x.step (found_at w.words (Phase.Thaws x) hook) hook).0
      (thaw_nears c w good t lt x hook x.step (λ i. ap (sync_role_of i) at) f.2 free);
  stays = λ lim w good t lt hook at waits out.
      let h = thaw_stays w.words x x.step hook waits in (
        h.0,
        phase_stays Phase.Thaws w.words (thaw_left x.step) 0 (thaw_tries w.words x.step)
            (thaw_after x x.step (found_at w.words (Phase.Thaws x) hook) hook).0 h.1,
      );
}
