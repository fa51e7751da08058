-- Where each operation under way is blocked, no step of one of them is a reply, and all stay blocked.
use Rattle.gate_schedules.proofs.Prelude.{Action, Bool, ClearMarks, Config, Done, DownRead, DownReads, DownWrite, DownWriteStep, Freeze, FreezeFits}
use Rattle.gate_schedules.proofs.Prelude.{FreezeStep, Go, HookAnswer, IsGood, KnowsStage, Next, Ok, Option, Owner, Phase, PhaseFits, Some, Stages}
use Rattle.gate_schedules.proofs.Prelude.{SyncAt, SyncHoldsIn, Tree, View, Wait, Words, World, after_closing, after_of, after_step, ap, arith}
use Rattle.gate_schedules.proofs.Prelude.{at_freeze, cases_Bool, down_read_after, down_read_next, down_write_after, down_write_next, each_updated}
use Rattle.gate_schedules.proofs.Prelude.{eqb_tells, false, found_at, found_by, freeze_stage_role, held_of, holds_level, if◌then◌else◌, inl, inr}
use Rattle.gate_schedules.proofs.Prelude.{is_frozen_whole, left, map_next, nat_lt, ne_eqb, opens_in, owns, phase_action, phase_after, put, read, refl}
use Rattle.gate_schedules.proofs.Prelude.{shown, stage_role_of, subst, sym, sync_role_of, true, true≢false, update_off, value_at, view_after}
use Rattle.gate_schedules.proofs.Prelude.{words_after, ℕ, ◌&&◌, ◌+◌, ◌<◌, ◌==◌, ◌∙◌, ◌≡◌, ◌≤◌}
use Rattle.std.proofs.lemmas.Bool.{eqb-true}
use Rattle.access_model.specs.declared.actions.Action.TheVariants.{Pass}
use Rattle.composite_ops.specs.declared.file_closes.phases.ClosePhase.TheVariants.{Enters as EntersLevel, LoadsFile as CloseLoadsFile}
use Rattle.composite_ops.specs.declared.{file_closes.phases.Closing.Closing, write_access.phases.WritePhase.TheVariants.Takes}
use Rattle.composite_ops.specs.{file_closes.Phases.{after as close_after, enters, then_frees}, write_access.Phases.then_wants}
use Rattle.{cpu_words.specs.declared.{events.Touch.TheVariants.Cas, names.WordName.TheVariants.{Node, Umount}}, freeze_laws.specs.stages.Roles.bit}
use Rattle.freeze_levels.specs.Freezes.{closing_waits, freeze_closes, level_closed}
use Rattle.freeze_levels.specs.declared.freezes.FreezeStep.TheVariants.{Cleans, Closes, LoadsStage, LoadsSuperblock, Locks as FreezeLocks, LocksAgain}
use Rattle.freeze_levels.specs.declared.freezes.FreezeStep.TheVariants.{SetsFs, SetsPageFault, SetsWrite, Unlocks, Waits}
use Rattle.gate_world.specs.{Roles.freeze_owns, Rules.Moves as MovesModel}
use Rattle.gate_world.specs.declared.work.Phase.TheVariants.{Closes as FileCloses, Freezes, Mounts, Remounts, Thaws, Trees, Writes}
use Rattle.gated_tree.specs.declared.phases.TreePhase.TheVariants.{Snapshot as Snapshots}
use Rattle.mount_counts.specs.declared.phases.MountPhase.TheVariants.{Change as Changes}
use Rattle.node_words.{proofs.ClearedMarks.{IsCleared, clears_mark, without_mark}, specs.Nodes.{IsPacked, node_of, removed_in}}
use Rattle.percpu_rwsem.specs.Readers.{step_found}
use Rattle.gate_schedules.proofs.{frames.{Owners.owns_le, Words.load_same}, levels.Facts.blocked_slow}
use Rattle.gate_schedules.proofs.operations.deadlocks.{BlockedCloses.{StaysAtLevel, down_stays}, BlockedOrProgress.{first_finds, first_is, or_phase}}
use Rattle.gate_schedules.proofs.operations.deadlocks.{BlockedStarts.{StaysKept, start_stays}, FreezeProgress.{next_same, not_none}}
use Rattle.gate_schedules.proofs.operations.deadlocks.{RankDecreases.{after_event, happens_is, stands_after}, WhoCanStep.fits_at}
use Rattle.gate_schedules.specs.operations.Progress.{AllAreBlocked, BlockedIfFreeze, BlockedIsStable, EventsMoveModel, FreezeIsBlocked, HasReply}
use Rattle.gate_schedules.specs.operations.Progress.{HeldLevelAhead, IsAgreed, IsBlockedAt, IsHeldIdle, LockIsBlocked, StartIsBlocked, begins_freeze}
use Rattle.gate_schedules.specs.operations.Progress.{is_admitted, is_first_lock, is_last_close, next_level}

-- a step of a down-write leaves a closed level closed, the nodes, the stage and the superblock's flag
down_blocks : (w : Words) (d : DownWrite) (s : DownWriteStep) (i : ℕ) → w.block i ≡ 1 → (after_event w (down_write_next d s)).block i ≡ 1
down_blocks w d s i h = grind arith

down_nodes : (w : Words) (d : DownWrite) (s : DownWriteStep) (f : ℕ) → is_last_close (w.node f) ≡ true →
    is_last_close ((after_event w (down_write_next d s)).node f) ≡ true
down_nodes w d s f h = grind arith

down_stage : (w : Words) (d : DownWrite) (s : DownWriteStep) → (after_event w (down_write_next d s)).stage ≡ w.stage
down_stage w d s = grind arith

down_sb : (w : Words) (d : DownWrite) (s : DownWriteStep) → (after_event w (down_write_next d s)).sb ≡ w.sb
down_sb w d s = grind arith

far_same : (w next : Words) (s : FreezeStep) → 2 ≤ next_level w s → next_level w s ≤ 3 → next_level next s ≡ next_level w s
far_same w next s two three = grind arith

-- nor does one that isn't at its first lock and doesn't own `umount`
apart_same : (w next : Words) (s : FreezeStep) → freeze_owns s ≡ 0 → is_first_lock s ≡ false →
    next_level next s ≡ next_level w s
apart_same w next s none later = grind arith

later_kept : (c : Config) (v : World) (s : FreezeStep) → is_first_lock s ≡ false → FreezeIsBlocked c v s → HeldLevelAhead c v s
later_kept c v s later h = grind arith

kept_later : (c : Config) (v : World) (s : FreezeStep) → is_first_lock s ≡ false → HeldLevelAhead c v s → FreezeIsBlocked c v s
kept_later c v s later h = grind arith

-- a phase of an operation that is blocked only at its lock of `umount`
abbrev asks_lock : Phase → Bool
asks_lock (Mounts (Changes x)) = true
asks_lock (Remounts x) = true
asks_lock (Thaws x) = true
asks_lock (Trees (Snapshots x)) = true
asks_lock phase = false

-- what is blocked at its lock of `umount` waits for a freeze that is, owns nothing itself, and tries again what leaves all words
record WaitsForLock (c : Config) (w : World) (phase : Phase) : Type 0 where
  blocked : LockIsBlocked c w
  none : owns (Some phase) ≡ 0
  stays : (v : World) → LockIsBlocked c v → IsBlockedAt c v phase
  again : (hook : HookAnswer) → (w.words.umount == 0) ≡ false →
      (phase_after (after_of phase (found_at w.words phase hook) hook).0 ≡ Some phase) × (words_after w.words phase hook ≡ w.words)

lock_waits : (c : Config) (w : World) (phase : Phase) → asks_lock phase ≡ true → IsBlockedAt c w phase → WaitsForLock c w phase
lock_waits c w phase asks h = grind (arith, load_same)

-- what a step of a task that is blocked, from this phase to that one, leaves to others that are blocked
pub record LeavesKept (c : Config) (w next : World) (t : ℕ) (p q : Phase) : Type 0 where
  pub here : (next.views t).phase ≡ Some q
  -- closed levels stay closed, and last closes the last
  pub blocks : (i : ℕ) → w.words.block i ≡ 1 → next.words.block i ≡ 1
  pub last : (f : ℕ) → is_last_close (w.words.node f) ≡ true → is_last_close (next.words.node f) ≡ true
  -- a freeze that has `umount` to its end goes on so
  pub owner : BlockedIfFreeze c w (Some p) → owns (Some p) ≡ 1 → (owns (Some q) ≡ 1) × BlockedIfFreeze c next (Some q)
  -- who doesn't own `umount` leaves the stage and the superblock's flag
  pub stage : owns (Some p) ≡ 0 → (next.words.stage ≡ w.words.stage) × (next.words.sb ≡ w.words.sb)
  -- and `umount` where a freeze at its first lock is blocked there
  pub free : w.words.umount ≡ 0 → w.words.stage ≡ 0 → begins_freeze (Some p) ≡ false →
      (next.words.umount ≡ 0) × (begins_freeze (Some q) ≡ false)

module _ (c : Config) (w : World) (good : IsGood c w) (t : ℕ) (lt : t < c.tasks) (p : Phase) (at : (w.views t).phase ≡ Some p)
    (hook : HookAnswer) where
  abbrev next : World
  next = after_step w t p hook

  beside : (y : ℕ) → (y ≡ t → ⊥) → next.views y ≡ w.views y
  beside y ne = update_off w.views t (view_after (w.views t) p (value_at w.words p hook) hook) y ne

  -- an idle task stays one, so a freeze stays blocked by it
  idle_stays : (i : ℕ) → IsHeldIdle c w i → IsHeldIdle c next i
  idle_stays i z = grind arith

  kept_by : (s s' : FreezeStep) → next_level next.words s' ≤ next_level w.words s → HeldLevelAhead c w s → HeldLevelAhead c next s'
  kept_by s s' le k = (k.0, omega (arith, le, k.1), k.2, idle_stays k.0 k.3)

  -- two owners of `umount` are one task
  one_owner : (y : ℕ) → y < c.tasks → owns (w.views y).phase ≡ 1 → owns (Some p) ≡ 1 → y ≡ t
  one_owner y ly own mine =
      omega (arith, (good Owner).locked y ly own, (good Owner).locked t lt (ap owns at ∙ mine))

  module _ (q : Phase) (k : LeavesKept c w next t p q) where
    -- who waits for `umount` waits for a freeze that is blocked still
    locks_stay : LockIsBlocked c w → LockIsBlocked c next
    locks_stay l =
        elim (eqb_tells l.0 t) [
          | inl e ↦
              let mine : (w.views l.0).phase ≡ Some p = ap (λ y. (w.views y).phase) e.1 ∙ at in
              let goes : (owns (Some q) ≡ 1) × BlockedIfFreeze c next (Some q) =
              k.owner (subst (BlockedIfFreeze c w) mine l.3) (sym (ap owns mine) ∙ l.2) in
              (t, lt, ap owns k.here ∙ goes.0, subst (BlockedIfFreeze c next) (sym k.here) goes.1)
          | inr ne ↦
              let same : (next.views l.0).phase ≡ (w.views l.0).phase = ap (λ (v : View). v.phase) (beside l.0 ne.1) in
              (l.0, l.1, ap owns same ∙ l.2, subst (BlockedIfFreeze c next) (sym same) (far_stays (w.views l.0).phase l.3))
        ]
      where
        far_stays : (o : Option Phase) → BlockedIfFreeze c w o → BlockedIfFreeze c next o
        far_stays (Some (Freezes x)) h =
            let e : next_level next.words x.step ≡ next_level w.words x.step =
            far_same w.words next.words x.step h.0 (omega (arith, h.1.1, h.1.2)) in
            (omega (arith, e, h.0), kept_by x.step x.step (omega (arith, e)) h.1)
        far_stays p h = absurd h

    -- so does whoever waits for it
    waits_stay : (phase : Phase) → asks_lock phase ≡ true → IsBlockedAt c w phase → IsBlockedAt c next phase
    waits_stay phase asks h = let l = lock_waits c w phase asks h in l.stays next (locks_stay l.blocked)

    -- a freeze of another task at its first lock
    first_stays : (y : ℕ) → y < c.tasks → (y ≡ t → ⊥) → begins_freeze (w.views y).phase ≡ true → FreezeIsBlocked c w FreezeLocks →
        FreezeIsBlocked c next FreezeLocks
    first_stays y ly ne begins (inl l) = inl (locks_stay l)
    first_stays y ly ne begins (inr (u, one, h)) =
        let facts : ((w.words.stage == 0) ≡ true) × ((w.words.sb == 0) ≡ true) = first_finds w.words h.0 h.1 h.2 in
        let later : begins_freeze (Some p) ≡ false = elim (cases_Bool (begins_freeze (Some p))) [
          | inl b ↦ absurd (ne (one y t ly lt begins (ap begins_freeze at ∙ b)))
          | inr b ↦ b
        ] in
        let after : (next.words.umount ≡ 0) × (begins_freeze (Some q) ≡ false) = k.free u (eqb-true w.words.stage 0 facts.0) later in
        let none : owns (Some p) ≡ 0 = elim (eqb_tells (owns (Some p)) 1) [
          | inl o ↦ absurd (omega (arith, (good Owner).locked t lt (ap owns at ∙ o.1), u))
          | inr o ↦ omega (arith, owns_le (Some p), o.1)
        ] in
        let same : (next.words.stage ≡ w.words.stage) × (next.words.sb ≡ w.words.sb) = k.stage none in
        inr (
          after.0,
          λ a b la lb fa fb. one a b la lb (was a fa after.1) (was b fb after.1),
          kept_by FreezeLocks FreezeLocks (omega (arith, next_same w.words next.words FreezeLocks same.0 same.1)) h,
        )
      where
        was : (a : ℕ) → begins_freeze (next.views a).phase ≡ true → begins_freeze (Some q) ≡ false → begins_freeze (w.views a).phase ≡ true
        was a f not =
            elim (eqb_tells a t) [
              | inl e ↦ absurd (true≢false (sym f ∙ (ap (λ y. begins_freeze (next.views y).phase) e.1 ∙ (ap begins_freeze k.here ∙ not))))
              | inr e ↦ sym (ap (λ (v : View). begins_freeze v.phase) (beside a e.1)) ∙ f
            ]

    -- and at any step
    freeze_stays : (y : ℕ) → y < c.tasks → (y ≡ t → ⊥) → (x : Freeze) → (w.views y).phase ≡ Some (Freezes x) →
        FreezeIsBlocked c w x.step → FreezeIsBlocked c next x.step
    freeze_stays y ly ne x is h =
        elim (cases_Bool (is_first_lock x.step)) [
          | inl f ↦
              let e : x.step ≡ FreezeLocks = first_is x.step f in
              subst (FreezeIsBlocked c next) (sym e) (first_stays y ly ne (ap begins_freeze is ∙ f) (subst (FreezeIsBlocked c w) e h))
          | inr later ↦
              let same : next_level next.words x.step ≡ next_level w.words x.step = elim (eqb_tells (owns (Some p)) 1) [
                | inl mine ↦ apart_same w.words next.words x.step (elim (eqb_tells (owns (w.views y).phase) 1) [
                  | inl own ↦ absurd (ne (one_owner y ly own.1 mine.1))
                  | inr none ↦ omega (arith, owns_le (w.views y).phase, none.1, ap owns is)
                ]) later
                | inr none ↦
                    let stays : (next.words.stage ≡ w.words.stage) × (next.words.sb ≡ w.words.sb) =
                    k.stage (omega (arith, owns_le (Some p), none.1)) in
                    next_same w.words next.words x.step stays.0 stays.1
              ] in
              kept_later c next x.step later (kept_by x.step x.step (omega (arith, same)) (later_kept c w x.step later h))
        ]

    reads_stay : (r : DownRead) → StartIsBlocked w r → StartIsBlocked next r
    reads_stay r h = (h.0, h.1, k.blocks r.level h.2)

    -- so each other operation stays blocked
    phase_stays : (y : ℕ) → y < c.tasks → (y ≡ t → ⊥) → (phase : Phase) → (w.views y).phase ≡ Some phase → IsBlockedAt c w phase →
        IsBlockedAt c next phase
    phase_stays y ly ne (Mounts (Changes x)) is h = waits_stay (Mounts (Changes x)) refl h
    phase_stays y ly ne (Remounts x) is h = waits_stay (Remounts x) refl h
    phase_stays y ly ne (DownReads r) is h = reads_stay r h
    phase_stays y ly ne (Writes (Takes m r)) is h = reads_stay r h
    phase_stays y ly ne (Freezes x) is h = freeze_stays y ly ne x is h
    phase_stays y ly ne (Thaws x) is h = waits_stay (Thaws x) refl h
    phase_stays y ly ne (Trees (Snapshots x)) is h = waits_stay (Trees (Snapshots x)) refl h
    phase_stays y ly ne (FileCloses (CloseLoadsFile x)) is h = (h.0, k.last x.file h.1, k.blocks 3 h.2)
    phase_stays y ly ne (FileCloses (EntersLevel f node r)) is h = reads_stay r h
    phase_stays y ly ne phase is h = absurd h

-- where `umount` is another's, a try for it leaves all words
tried : (w : Words) (n : ℕ) → (w.umount ≡ 0 → ⊥) → put w Umount (left (Cas 0 n) w.umount) ≡ w
tried w n taken = rw (ne_eqb w.umount 0 taken) (load_same w Umount)

lock_taken : (c : Config) (w : World) → IsGood c w → LockIsBlocked c w → w.words.umount ≡ 0 → ⊥
lock_taken c w good l free = absurd (omega (arith, (good Owner).locked l.0 l.1 l.2, free))

-- a close of this file is the last one
last_goes : (x : Closing) (word : ℕ) → IsPacked word → is_last_close word ≡ true →
    (close_after (CloseLoadsFile x) word).0 ≡ Go (enters x (node_of word))
last_goes x word packed last = grind arith

module _ (c : Config) (w : World) (good : IsGood c w) (t : ℕ) (lt : t < c.tasks) (hook : HookAnswer) where
  abbrev after : Phase → World
  after p = after_step w t p hook

  -- what the step of a blocked operation comes to
  record Goes (p : Phase) : Type 0 where
    then_at : Phase
    leaves : LeavesKept c w (after p) t p then_at
    kept : IsBlockedAt c (after p) then_at

  -- a start that is blocked
  start_facts : (r : DownRead) → StartIsBlocked w r → 1 ≤ r.level → r.level ≤ 3 →
      StaysKept r (down_read_after r r.step (found_by (down_read_next r r.step).1 (read w.words (down_read_next r r.step).0))).0
  start_facts r h one three =
      let s : SyncHoldsIn c w r.level = good (SyncAt r.level) one three in
      start_stays w.words r h.0 h.2 (ap step_found s.packed ∙
      blocked_slow c.tasks s.word (w.words.block r.level) (is_frozen_whole w.words) w.words.section
      (λ y. sync_role_of r.level (w.views y).phase) s.holds h.2) r.step h.1

  module _ (r : DownRead) (h : StartIsBlocked w r) (one : 1 ≤ r.level) (three : r.level ≤ 3) where
    -- what it comes to in a phase that goes through its steps, as a start, a write access and a close do
    module _ (p : Phase) (at : (w.views t).phase ≡ Some p) (to : DownRead → Phase)
        (words : (after p).words ≡ after_event w.words (down_read_next r r.step)) (none : owns (Some p) ≡ 0)
        (later : (x : DownRead) → begins_freeze (Some (to x)) ≡ false)
        (keeps : (x : DownRead) → StartIsBlocked (after p) x → IsBlockedAt c (after p) (to x)) where
      start_goes : (x : DownRead) → ((after p).views t).phase ≡ Some (to x) → (x.wait ≡ true) × (is_admitted x.step ≡ false) ×
          (x.level ≡ r.level) → Goes p
      start_goes x here k = grind arith

      through : (outer : Next DownRead → Next Phase) → ((x : DownRead) → phase_after (outer (Go x)) ≡ Some (to x)) →
          ((x : DownRead) → phase_after (outer (Wait x)) ≡ Some (to x)) → (coming : Next DownRead) →
          ((after p).views t).phase ≡ phase_after (outer coming) → StaysKept r coming → Goes p
      through outer go wait (Go x) is k = start_goes x (is ∙ go x) k
      through outer go wait (Wait x) is k = start_goes x (is ∙ wait x) k
      through outer go wait (Done answer) is k = absurd k

  -- a try for `umount`, which is another's
  module _ (p q : Phase) (at : (w.views t).phase ≡ Some p) (here : ((after p).views t).phase ≡ Some q) (same : (after p).words ≡ w.words)
      (none : owns (Some p) ≡ 0) (begins : begins_freeze (Some p) ≡ false → begins_freeze (Some q) ≡ false) where
    tried_leaves : LeavesKept c w (after p) t p q
    tried_leaves = grind arith

    tried_locks : LockIsBlocked c w → LockIsBlocked c (after p)
    tried_locks l = locks_stay c w good t lt p at hook q tried_leaves l

  -- so one that waits for a freeze that is blocked leaves its operation so
  try_goes : (p : Phase) → (w.views t).phase ≡ Some p → owns (Some p) ≡ 0 →
      ((w.words.umount == 0) ≡ false → (phase_after (after_of p (found_at w.words p hook) hook).0 ≡ Some p) × ((after p).words ≡ w.words)) →
      (LockIsBlocked c (after p) → IsBlockedAt c (after p) p) → LockIsBlocked c w → Goes p
  try_goes p at none again blocked l =
      let tries = again (ne_eqb w.words.umount 0 (lock_taken c w good l)) in
      let here : ((after p).views t).phase ≡ Some p = stands_after c w t lt hook p at ∙ tries.0 in
      record {
        then_at = p;
        leaves = tried_leaves p p at here tries.1 none (λ b. b);
        kept = blocked (tried_locks p p at here tries.1 none (λ b. b) l);
      }

  lock_goes : (phase : Phase) → (w.views t).phase ≡ Some phase → asks_lock phase ≡ true → IsBlockedAt c w phase → Goes phase
  lock_goes phase at asks h =
      let l = lock_waits c w phase asks h in try_goes phase at l.none (l.again hook) (l.stays (after phase)) l.blocked

  module _ (x : Freeze) (s : FreezeStep) (at : (w.views t).phase ≡ Some (Freezes (at_freeze x s))) where
    abbrev here_at : FreezeStep → Phase
    here_at s' = Freezes (at_freeze x s')

    -- one that owns `umount` finds it taken
    owned : owns (Some (here_at s)) ≡ 1 → w.words.umount ≡ 0 → ⊥
    owned own free = absurd (omega (arith, (good Owner).locked t lt (ap owns at ∙ own), free))

    -- it knows the stage
    knows : KnowsStage w.words.stage w.words.sb (freeze_stage_role x.nodes s)
    knows = subst (λ p. KnowsStage w.words.stage w.words.sb (stage_role_of p)) at ((good Stages).knows t lt)

    -- a freeze that is past its first lock
    freeze_makes : (s' : FreezeStep) → ((after (here_at s)).views t).phase ≡ Some (here_at s') →
        ((i : ℕ) → w.words.block i ≡ 1 → (after (here_at s)).words.block i ≡ 1) →
        ((f : ℕ) → is_last_close (w.words.node f) ≡ true → is_last_close ((after (here_at s)).words.node f) ≡ true) →
        (2 ≤ next_level w.words s → owns (Some (here_at s)) ≡ 1 →
        (owns (Some (here_at s')) ≡ 1) × (2 ≤ next_level (after (here_at s)).words s')) →
        (owns (Some (here_at s)) ≡ 0 →
        ((after (here_at s)).words.stage ≡ w.words.stage) × ((after (here_at s)).words.sb ≡ w.words.sb)) →
        (w.words.umount ≡ 0 → w.words.stage ≡ 0 → is_first_lock s ≡ false → ⊥) → HeldLevelAhead c (after (here_at s)) s' →
        is_first_lock s' ≡ false → Goes (here_at s)
    freeze_makes s' here blocks last far stage early kept later = grind arith

    goes_by : (s' : FreezeStep) → next_level (after (here_at s)).words s' ≤ next_level w.words s → HeldLevelAhead c w s → HeldLevelAhead c (after (here_at s)) s'
    goes_by s' le k = kept_by c w good t lt (here_at s) at hook s s' le k

  -- the levels that a freeze has to pass from here on are some
  sb_found : (i : ℕ) → (if w.words.sb == 0 then 1 else 4) ≤ i → i ≤ 3 → (w.words.sb == 0) ≡ true
  sb_found i low high =
      elim (cases_Bool (w.words.sb == 0)) [ inl b ↦ b | inr b ↦ let l : 4 ≤ i = rw b at low in absurd (omega (arith, l, high)) ]

  -- a node whose mark is cleared is as removed and as open as before
  last_cleared : (n : ℕ) → IsPacked (w.words.node n) → is_last_close (w.words.node n) ≡ true →
      is_last_close (without_mark (w.words.node n)) ≡ true
  last_cleared n packed h =
      let word : ℕ = w.words.node n in
      let m : IsCleared word (without_mark word) = clears_mark word packed in
      ap (λ r. (r == 1) && (opens_in (without_mark word) == 1)) m.removed ∙ (ap (λ o. (removed_in word == 1) && (o == 1)) m.opens ∙ h)

  module _ (x : Freeze) where
    -- after a step of the closing of a level, also of a freeze that waits at it and whose hook has answered Ok
    module _ (d : DownWrite) (one : 1 ≤ d.level) (s : FreezeStep) (at : (w.views t).phase ≡ Some (Freezes (at_freeze x s)))
        (level : next_level w.words s ≡ d.level) (own : owns (Some (Freezes (at_freeze x s))) ≡ bit (nat_lt 1 d.level))
        (begun : w.words.stage ≡ 0 → ⊥) (words : (after (Freezes (at_freeze x s))).words ≡ after_event w.words (down_write_next d d.step))
        (k : HeldLevelAhead c w s) where
      abbrev closing : Phase
      closing = Freezes (at_freeze x s)

      closes_to : (s' : FreezeStep) → ((after closing).views t).phase ≡ Some (Freezes (at_freeze x s')) →
          (2 ≤ d.level → owns (Some closing) ≡ 1 →
          (owns (Some (Freezes (at_freeze x s'))) ≡ 1) × (2 ≤ next_level (after closing).words s')) →
          HeldLevelAhead c (after closing) s' → is_first_lock s' ≡ false → Goes closing
      closes_to s' here far kept later =
          freeze_makes x s at s' here (λ i h. ap (λ (v : Words). v.block i) words ∙ down_blocks w.words d d.step i h)
          (λ f h. ap (λ (v : Words). is_last_close (v.node f)) words ∙ down_nodes w.words d d.step f h)
          (λ two. far (omega (arith, level, two)))
          (λ none. (ap (λ (v : Words). v.stage) words ∙ down_stage w.words d d.step, ap (λ (v : Words). v.sb) words ∙ down_sb w.words d d.step))
          (λ free z past. begun z) kept later

      above : (s' : FreezeStep) → next_level (after closing).words s' ≤ k.0 → HeldLevelAhead c (after closing) s'
      above s' le = (k.0, le, k.2, idle_stays c w good t lt closing at hook k.0 k.3)

      level_goes : (e : DownWrite) → ((after closing).views t).phase ≡ Some (Freezes (at_freeze x (Closes e))) → e.level ≡ d.level → Goes closing
      level_goes e here same =
          closes_to (Closes e) here (λ two mine. (ap (λ l. bit (nat_lt 1 l)) same ∙ (sym own ∙ mine), omega (arith, two, same)))
          (above (Closes e) (omega (arith, same, level, k.1))) refl

      waits_goes : (e : DownWrite) → ((after closing).views t).phase ≡ Some (Freezes (at_freeze x (Waits e))) → e.level ≡ d.level → Goes closing
      waits_goes e here same =
          closes_to (Waits e) here (λ two mine. (ap (λ l. bit (nat_lt 1 l)) same ∙ (sym own ∙ mine), omega (arith, two, same)))
          (above (Waits e) (omega (arith, same, level, k.1))) refl

      -- so it is where its down-write waits
      wait_goes : (e : DownWrite) (z : DownWriteStep) → ((after closing).views t).phase ≡ Some (Freezes (at_freeze x (closing_waits e z))) →
          e.level ≡ d.level → Goes closing
      wait_goes e (DownWriteStep.Sums sum) here same = waits_goes e here same
      wait_goes e z here same = level_goes e here same

      -- a level that an idle task holds isn't passed
      passed_apart : MovesModel c (shown c w) t (Some (Pass d.level)) (shown c (after closing)) → (k.0 ≡ d.level → ⊥)
      passed_apart m e =
          true≢false (sym k.3.3 ∙ (ap (holds_level (w.views k.3.0)) e ∙ m.0.1.3 k.3.0 k.3.1))

      passes : ((after closing).views t).phase ≡ Some (Freezes (at_freeze x (level_closed d.level x.nodes))) →
          MovesModel c (shown c w) t (Some (Pass d.level)) (shown c (after closing)) → Goes closing
      passes here m =
          let apart : k.0 ≡ d.level → ⊥ = passed_apart m in
          elim (eqb_tells d.level 1) [
            | inl e ↦ closes_to LocksAgain (here ∙ rw e.0 refl) (λ two mine. absurd (omega (arith, two, e.1)))
                (above LocksAgain (omega (arith, level, k.1, apart, e.1))) refl
            | inr e ↦ elim (eqb_tells d.level 2) [
              | inl f ↦
                  let marks : ClearMarks = record { node = 1; nodes = x.nodes } in
                  closes_to (Cleans marks) (here ∙ rw (e.0, f.0) refl) (λ two mine. (refl, omega arith))
                  (above (Cleans marks) (omega (arith, level, k.1, apart, f.1))) refl
              | inr f ↦ absurd (omega (arith, level, k.1, k.2, apart, e.1, f.1, one))
            ]
          ]

      closes_goes : (coming : Next DownWrite) (action : Option Action) →
          ((after closing).views t).phase ≡ phase_after (map_next Freezes (after_closing (at_freeze x s) d.level coming)) →
          MovesModel c (shown c w) t action (shown c (after closing)) → StaysAtLevel d coming action → Goes closing
      closes_goes (Go e) action here m l = level_goes e here l
      closes_goes (Wait e) action here m l = wait_goes e e.step here l
      closes_goes (Done answer) action here m l =
          passes here (subst (λ a. MovesModel c (shown c w) t a (shown c (after closing))) l m)

    -- a freeze at each step
    freeze_goes : (s : FreezeStep) → (at : (w.views t).phase ≡ Some (Freezes (at_freeze x s))) → FreezeFits c x.holder s → x.nodes ≡ c.nodes →
        IsAgreed (Freezes (at_freeze x s)) hook →
        MovesModel c (shown c w) t (phase_action w hook (Some (Freezes (at_freeze x s)))) (shown c (after (Freezes (at_freeze x s)))) →
        FreezeIsBlocked c w s → Goes (Freezes (at_freeze x s))
    freeze_goes FreezeLocks at fits nodes agreed m (inl l) =
        let p : Phase = Freezes (at_freeze x FreezeLocks) in
        try_goes p at refl (λ e. (rw e refl, rw e (load_same w.words Umount))) (λ k. inl k) l
    freeze_goes FreezeLocks at fits nodes agreed m (inr (u, only, k)) =
        freeze_makes x FreezeLocks at LoadsStage (stands_after c w t lt hook (Freezes (at_freeze x FreezeLocks)) at ∙ rw u refl)
        (λ i h. h) (λ f h. h) (λ two own. absurd (omega (arith, own))) (λ none. (refl, refl)) (λ u z b. absurd (true≢false b))
        (goes_by x FreezeLocks at LoadsStage (omega arith) k) refl
    freeze_goes LoadsStage at fits nodes agreed m k =
        let facts : ((w.words.stage == 0) ≡ true) × ((w.words.sb == 0) ≡ true) = first_finds w.words k.0 k.1 k.2 in
        freeze_makes x LoadsStage at LoadsSuperblock
        (stands_after c w t lt hook (Freezes (at_freeze x LoadsStage)) at ∙ rw facts.0 refl) (λ i h. h) (λ f h. h)
        (λ two own. let l : 2 ≤ 1 = rw (facts.0, facts.1) at two in absurd (omega (arith, l)))
        (λ none. absurd (omega (arith, none))) (λ u z b. owned x LoadsStage at refl u)
        (goes_by x LoadsStage at LoadsSuperblock (rw (facts.0, facts.1) (omega arith)) k) refl
    freeze_goes LoadsSuperblock at fits nodes agreed m k =
        let fact : (w.words.sb == 0) ≡ true = sb_found k.0 k.1 k.2 in
        freeze_makes x LoadsSuperblock at SetsWrite
        (stands_after c w t lt hook (Freezes (at_freeze x LoadsSuperblock)) at ∙ rw fact refl) (λ i h. h) (λ f h. h)
        (λ two own. let l : 2 ≤ 1 = rw fact at two in absurd (omega (arith, l)))
        (λ none. absurd (omega (arith, none))) (λ u z b. owned x LoadsSuperblock at refl u)
        (goes_by x LoadsSuperblock at SetsWrite (rw fact (omega arith)) k) refl
    freeze_goes SetsWrite at fits nodes agreed m k =
        freeze_makes x SetsWrite at Unlocks (stands_after c w t lt hook (Freezes (at_freeze x SetsWrite)) at) (λ i h. h) (λ f h. h)
        (λ two own. absurd (omega (arith, two))) (λ none. absurd (omega (arith, none))) (λ u z b. owned x SetsWrite at refl u)
        (goes_by x SetsWrite at Unlocks (omega arith) k) refl
    freeze_goes Unlocks at fits nodes agreed m k =
        freeze_makes x Unlocks at (freeze_closes x 1) (stands_after c w t lt hook (Freezes (at_freeze x Unlocks)) at) (λ i h. h) (λ f h. h)
        (λ two own. absurd (omega (arith, two))) (λ none. absurd (omega (arith, none))) (λ u z b. owned x Unlocks at refl u)
        (goes_by x Unlocks at (freeze_closes x 1) (omega arith) k) refl
    freeze_goes (Closes d) at fits nodes agreed m k =
        let p : Phase = Freezes (at_freeze x (Closes d)) in
        let r : Next DownWrite × Option Action = down_write_after d d.step (found_at w.words p hook) in
        closes_goes d fits.0 (Closes d) at refl refl (λ z. omega (arith, knows x (Closes d) at, z, fits.0)) refl k r.0 r.1
        (stands_after c w t lt hook p at) m (down_stays d d.step (found_at w.words p hook))
    freeze_goes (Waits d) at fits nodes agreed m k =
        let p : Phase = Freezes (at_freeze x (Waits d)) in
        elim agreed [
          | inl none ↦ absurd (not_none _ none)
          | inr e ↦
              let r : Next DownWrite × Option Action = down_write_after d d.step (found_at w.words p (Ok tt)) in
              closes_goes d fits.0.0 (Waits d) at refl refl (λ z. omega (arith, knows x (Waits d) at, z, fits.0.0))
              (ap (λ (h : HookAnswer). words_after w.words p h) e) k r.0 r.1
              (stands_after c w t lt hook p at ∙ ap (λ (h : HookAnswer). phase_after (after_of p (found_at w.words p h) h).0) e)
              (subst (λ (h : HookAnswer). MovesModel c (shown c w) t (phase_action w h (Some p)) (shown c (after p))) e m)
              (down_stays d d.step (found_at w.words p (Ok tt)))
        ]
    freeze_goes LocksAgain at fits nodes agreed m k =
        let p : Phase = Freezes (at_freeze x LocksAgain) in
        let known : w.words.stage ≡ 1 = knows x LocksAgain at in
        elim (eqb_tells w.words.umount 0) [
          | inl u ↦ freeze_makes x LocksAgain at SetsPageFault (stands_after c w t lt hook p at ∙ rw u.0 refl) (λ i h. h) (λ f h. h)
              (λ two own. absurd (omega (arith, own))) (λ none. (refl, refl)) (λ v z b. omega (arith, known, z))
              (goes_by x LocksAgain at SetsPageFault (omega arith) k) refl
          | inr u ↦
              let here : ((after p).views t).phase ≡ Some p = stands_after c w t lt hook p at ∙ rw u.0 refl in
              let same : (after p).words ≡ w.words = tried w.words (x.task + 1) u.1 in
              record {
                then_at = p;
                leaves = tried_leaves p p at here same refl (λ b. b);
                kept = goes_by x LocksAgain at LocksAgain (omega arith) k;
              }
        ]
    freeze_goes SetsPageFault at fits nodes agreed m k =
        freeze_makes x SetsPageFault at (freeze_closes x 2) (stands_after c w t lt hook (Freezes (at_freeze x SetsPageFault)) at)
        (λ i h. h) (λ f h. h) (λ two own. (refl, omega arith)) (λ none. absurd (omega (arith, none)))
        (λ u z b. owned x SetsPageFault at refl u) (goes_by x SetsPageFault at (freeze_closes x 2) (omega arith) k) refl
    freeze_goes (Cleans marks) at fits nodes agreed m k =
        let p : Phase = Freezes (at_freeze x (Cleans marks)) in
        let last : (f : ℕ) → is_last_close (w.words.node f) ≡ true → is_last_close ((after p).words.node f) ≡ true =
        λ f h. each_updated (λ y v. is_last_close (w.words.node y) ≡ true → is_last_close v ≡ true) w.words.node marks.node
        (without_mark (w.words.node marks.node)) f
        (last_cleared marks.node ((good Tree).words marks.node fits.2).packed) (λ ne q. q) h in
        elim (cases_Bool (nat_lt (marks.node + 1) marks.nodes)) [
          | inl more ↦
              let s' : FreezeStep = Cleans (record marks { node = marks.node + 1 }) in
              freeze_makes x (Cleans marks) at s' (stands_after c w t lt hook p at ∙ rw more refl) (λ i h. h) last
              (λ two own. (refl, omega arith)) (λ none. absurd (omega (arith, none))) (λ u z b. owned x (Cleans marks) at refl u)
              (goes_by x (Cleans marks) at s' (omega arith) k) refl
          | inr end ↦ freeze_makes x (Cleans marks) at SetsFs (stands_after c w t lt hook p at ∙ rw end refl) (λ i h. h) last
              (λ two own. (refl, omega arith)) (λ none. absurd (omega (arith, none))) (λ u z b. owned x (Cleans marks) at refl u)
              (goes_by x (Cleans marks) at SetsFs (omega arith) k) refl
        ]
    freeze_goes SetsFs at fits nodes agreed m k =
        let p : Phase = Freezes (at_freeze x SetsFs) in
        elim agreed [
          | inl none ↦ absurd (not_none _ none)
          | inr e ↦
              let goes : phase_after (after_of p (found_at w.words p hook) hook).0 ≡ Some (Freezes (at_freeze x (freeze_closes x 3))) =
              ap (λ (h : HookAnswer). phase_after (after_of p (found_at w.words p h) h).0) e in
              freeze_makes x SetsFs at (freeze_closes x 3) (stands_after c w t lt hook p at ∙ goes)
              (λ i h. ap (λ (a : HookAnswer). (words_after w.words p a).block i) e ∙ h)
              (λ f h. ap (λ (a : HookAnswer). is_last_close ((words_after w.words p a).node f)) e ∙ h)
              (λ two own. (refl, omega arith)) (λ none. absurd (omega (arith, none))) (λ u z b. owned x SetsFs at refl u)
              (goes_by x SetsFs at (freeze_closes x 3) (omega arith) k) refl
        ]
    freeze_goes s at fits nodes agreed m k = absurd (omega (arith, k.1, k.2))

  -- a close that is to be the last one goes on to level 3
  load_goes : (x : Closing) → (w.views t).phase ≡ Some (FileCloses (CloseLoadsFile x)) → x.file < c.nodes → x.wait ≡ true →
      is_last_close (w.words.node x.file) ≡ true → w.words.block 3 ≡ 1 → Goes (FileCloses (CloseLoadsFile x))
  load_goes x at lf wait last set =
      let p : Phase = FileCloses (CloseLoadsFile x) in
      let word : ℕ = w.words.node x.file in
      let q : Phase = FileCloses (enters x (node_of word)) in
      let goes : (close_after (CloseLoadsFile x) word).0 ≡ Go (enters x (node_of word)) =
      last_goes x word ((good Tree).words x.file lf).packed last in
      let here : ((after p).views t).phase ≡ Some q =
      stands_after c w t lt hook p at ∙ ap (λ n. phase_after (map_next FileCloses n)) goes in
      let same : (after p).words ≡ w.words = load_same w.words (Node x.file) in
      record {
        then_at = q;
        leaves = tried_leaves p q at here same refl (λ b. refl);
        kept = (wait, refl, ap (λ (v : Words). v.block 3) same ∙ set);
      }

  -- each operation that is blocked
  phase_goes : (phase : Phase) (at : (w.views t).phase ≡ Some phase) → PhaseFits c t (held_of (w.views t)) phase →
      IsAgreed phase hook → MovesModel c (shown c w) t (phase_action w hook (Some phase)) (shown c (after phase)) → IsBlockedAt c w phase →
      Goes phase
  phase_goes (Mounts (Changes x)) at f agreed m k = lock_goes (Mounts (Changes x)) at refl k
  phase_goes (Remounts x) at f agreed m k = lock_goes (Remounts x) at refl k
  phase_goes (DownReads r) at f agreed m k =
      through r k f.0 f.1 (DownReads r) at DownReads refl refl (λ x. refl) (λ x h. h) (map_next DownReads) (λ x. refl) (λ x. refl)
      (down_read_after r r.step (found_at w.words (DownReads r) hook)).0 (stands_after c w t lt hook (DownReads r) at) (start_facts r k f.0 f.1)
  phase_goes (Writes (Takes i r)) at f agreed m k =
      through r k f.0.0 f.0.1 (Writes (Takes i r)) at (λ x. Writes (Takes i x)) refl refl (λ x. refl) (λ x h. h)
      (λ next. map_next Writes (then_wants i r.cpu next)) (λ x. refl) (λ x. refl)
      (down_read_after r r.step (found_at w.words (Writes (Takes i r)) hook)).0 (stands_after c w t lt hook (Writes (Takes i r)) at)
      (start_facts r k f.0.0 f.0.1)
  phase_goes (Freezes x) at f agreed m k = freeze_goes x x.step at f.5 f.3 agreed m k
  phase_goes (Thaws x) at f agreed m k = lock_goes (Thaws x) at refl k
  phase_goes (Trees (Snapshots x)) at f agreed m k = lock_goes (Trees (Snapshots x)) at refl k
  phase_goes (FileCloses (CloseLoadsFile x)) at f agreed m k = load_goes x at f.0 k.0 k.1 k.2
  phase_goes (FileCloses (EntersLevel n node r)) at f agreed m k =
      through r k f.2.0 f.2.1 (FileCloses (EntersLevel n node r)) at (λ x. FileCloses (EntersLevel n node x)) refl refl (λ x. refl)
      (λ x h. h) (λ next. map_next FileCloses (then_frees n node r.cpu next)) (λ x. refl) (λ x. refl)
      (down_read_after r r.step (found_at w.words (FileCloses (EntersLevel n node r)) hook)).0
      (stands_after c w t lt hook (FileCloses (EntersLevel n node r)) at) (start_facts r k f.2.0 f.2.1)
  phase_goes phase at f agreed m k = absurd k

  -- so all stay blocked, and none has its reply
  all_stay : (phase : Phase) → (w.views t).phase ≡ Some phase → IsAgreed phase hook →
      MovesModel c (shown c w) t (phase_action w hook (Some phase)) (shown c (after phase)) → AllAreBlocked c w →
      (HasReply (after phase) t → ⊥) × AllAreBlocked c (after phase)
  all_stay phase at agreed m all =
      let g : Goes phase = phase_goes phase at (fits_at c w good t lt phase at) agreed m (all t lt phase at) in (
        λ reply. not_none g.then_at (sym g.leaves.here ∙ reply),
        λ y ly q is. elim (eqb_tells y t) [
          | inl e ↦
              let same : g.then_at ≡ q =
              ap (or_phase q) (sym g.leaves.here ∙ (sym (ap (λ a. ((after phase).views a).phase) e.1) ∙ is)) in
              subst (IsBlockedAt c (after phase)) same g.kept
          | inr ne ↦
              let was : (w.views y).phase ≡ Some q =
              sym (ap (λ (v : View). v.phase) (beside c w good t lt phase at hook y ne.1)) ∙ is in
              phase_stays c w good t lt phase at hook g.then_at g.leaves y ly ne.1 q was (all y ly q was)
        ],
      )

pub blocked_stays : (c : Config) → EventsMoveModel c → (w : World) → IsGood c w → BlockedIsStable c w
blocked_stays c moves w good all t lt phase at hook agreed =
    subst (λ (next : World). (HasReply next t → ⊥) × AllAreBlocked c next) (sym (happens_is c w t lt hook phase at))
    (all_stay c w good t lt hook phase at agreed (moves w good t lt hook phase at) all)
