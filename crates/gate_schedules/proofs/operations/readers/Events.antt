-- Each step of a start.
use Rattle.gate_schedules.proofs.Prelude.{Action, AtLevel, Bool, Config, Done, DownRead, DownReadStep, DownReads, Fits, Fitting, Go, Holdings}
use Rattle.gate_schedules.proofs.Prelude.{HookAnswer, IsGood, IsWithin, Moves, Next, None, Ok, Option, Phase, Some, StepKeeps, SyncWord, Touch, View}
use Rattle.gate_schedules.proofs.Prelude.{WordName, Words, World, after_step, ap, arith, at_level, eqb_tells, false, has_open, held_at, held_of}
use Rattle.gate_schedules.proofs.Prelude.{holds_level, inl, inr, level_role_of, map_next, model_limits, nat_lt, not, phase_after, put, read, refl}
use Rattle.gate_schedules.proofs.Prelude.{shown, subst, sym, sync_role_of, true, true≢false, unpack, update, update_at, update_same, view_with}
use Rattle.gate_schedules.proofs.Prelude.{wrap_add, ℕ, ◌+◌, ◌<◌, ◌==◌, ◌||◌, ◌∙◌, ◌≡◌, ◌≤◌}
use Rattle.std.proofs.lemmas.Bool.{Decides.nat_tests, and_parts}
use Rattle.access_model.specs.{Actions.IsAllowed, declared.actions.{Action.TheVariants.Grant, Gate.TheVariants.Level}}
use Rattle.access_model.specs.declared.replies.Reply.TheVariants.{Unit as UnitReply}
use Rattle.cpu_words.{proofs.gate_counts.LevelLaws.{is_granted, is_refused}, specs.declared.events.Touch.TheVariants.{Add, Load, Sub}}
use Rattle.cpu_words.specs.{declared.names.WordName.TheVariants.{Block, LevelCount, Section, Sync}, gate_counts.Levels.Out as CountsNot}
use Rattle.freeze_laws.specs.levels.Roles.{Fast}
use Rattle.gate_world.specs.{Fits.{ReadFits, ReadStepFits}, Operations.holds_none_from, Roles.{count_role_if, read_count_role}}
use Rattle.percpu_rwsem.specs.Readers.{at_down_read, left_blocked, step_found}
use Rattle.percpu_rwsem.specs.declared.readers.DownReadStep.TheVariants.{CountsDown, CountsUpFast, CountsUpSlow, EntersSection, LeavesAdmitted}
use Rattle.percpu_rwsem.specs.declared.readers.DownReadStep.TheVariants.{LeavesBlocked, LoadsBlock, LoadsSync}
use Rattle.gate_schedules.proofs.{frames.Frames.{count_none, level_view_as}, levels.Counts.{LevelHoldsAfter, SameElsewhere, backs_off, bit_room}}
use Rattle.gate_schedules.proofs.levels.Counts.{count_on, down_beside, enters_fast, held_bit, level_follows, seeks, up_beside, words_down, words_up}
use Rattle.gate_schedules.proofs.levels.Parts.{IsAtLevels, SameAtMounts, SameOffLevels, beside_levels, counts_left_at, level_parts, level_shown}
use Rattle.gate_schedules.proofs.levels.{Parts.{level_still, reads_at_levels}, Worlds.{fast_finds_open, not_passed, sync_on}}
use Rattle.gate_schedules.proofs.operations.readers.Levels.{LevelsHold, read_levels}

-- a level that isn't held, of those that are to be free
or_left : (a b : Bool) → b ≡ false → (b || not a) ≡ true → a ≡ false
or_left true b e h = absurd (true≢false (sym h ∙ ap (λ x. x || false) e))
or_left false b e h = refl

-- a number that isn't below another
not_below : (k i : ℕ) → i ≤ k → nat_lt k i ≡ false
not_below k i h = grind (arith, nat_tests)

-- who holds no level from one up holds none of these
pub none_from : (levels : ℕ → Bool) (i j : ℕ) → holds_none_from i levels ≡ true → 1 ≤ i → i ≤ j → j ≤ 3 → levels j ≡ false
none_from levels i j h l1 le l3 = grind (arith, or_left, nat_lt, not_below, and_parts)

-- What is so of the step that a sync word leads to.
record IsPath (s : DownReadStep) : Type 0 where
  -- it has added nothing
  counts_not : (p : ℕ) → read_count_role p s ≡ CountsNot
  -- it fits what a start that holds nothing from its level up holds
  fits_still : (i : ℕ) (levels : ℕ → Bool) → holds_none_from i levels ≡ true → ReadStepFits i levels s

-- and where the number is no word, which is loaded again
path_found : (o : Option SyncWord) → IsPath (step_found o)
path_found o = grind arith

-- a start that was blocked begins anew or is done, and counts at no level
blocked_counts : (r : DownRead) (b : Bool) (j : ℕ) → level_role_of j (phase_after (map_next DownReads (left_blocked r b))) ≡ CountsNot
blocked_counts r true j = count_none j r.level
blocked_counts r false j = refl

-- it fits what it holds
blocked_fits : (c : Config) (t : ℕ) (held : Holdings) (r : DownRead) (b : Bool) →
    ReadFits c t held (at_down_read r LeavesBlocked) → Fits c t held (phase_after (map_next DownReads (left_blocked r b)))
blocked_fits c t held r true f = f
blocked_fits c t held r false f = tt

module _ (c : Config) (lim : IsWithin c) (w : World) (good : IsGood c w) (t : ℕ) (lt : t < c.tasks) (hook : HookAnswer) (r : DownRead) where
  -- the start is at this step
  abbrev IsAt : DownReadStep → Type 0
  IsAt s = (w.views t).phase ≡ Some (DownReads (at_down_read r s))

  -- its numbers are in range, and its task holds what it may
  abbrev FitsHere : DownReadStep → Type 0
  FitsHere s = ReadFits c t (held_of (w.views t)) (at_down_read r s)

  -- the invariant says so
  fits_here : (s : DownReadStep) → IsAt s → FitsHere s
  fits_here s e = subst (Fits c t (held_of (w.views t))) e (good Fitting t lt)

  -- its step leaves the rcu_sync of each level, and the sections
  levels_hold : (s : DownReadStep) → IsAt s → LevelsHold c (after_step w t (DownReads (at_down_read r s)) hook)
  levels_hold s e =
      let f : FitsHere s = fits_here s e in
      read_levels c w good t lt hook (at_down_read r s) f.3 f.0 f.1 e

  -- its phase is at levels alone
  at_levels : (s : DownReadStep) → IsAt s → IsAtLevels (w.views t).phase
  at_levels s e = subst IsAtLevels (sym e) (reads_at_levels (Go (at_down_read r s)))

  -- it counts at its own level
  counts_here : {q : Option Phase} (s : DownReadStep) → q ≡ Some (DownReads (at_down_read r s)) →
      level_role_of r.level q ≡ read_count_role r.cpu s
  counts_here s e = ap (level_role_of r.level) e ∙ count_on r.level (read_count_role r.cpu s)

  -- or at none
  counts_nowhere : {q : Option Phase} (s : DownReadStep) → q ≡ Some (DownReads (at_down_read r s)) → read_count_role r.cpu s ≡ CountsNot →
      (j : ℕ) → level_role_of j q ≡ CountsNot
  counts_nowhere s e none j =
      ap (level_role_of j) e ∙ (ap (count_role_if (j == r.level)) none ∙ count_none j r.level)

  -- the task holds no level from its own up, and may be granted its level where that is clear
  may_grant : (s : DownReadStep) → IsAt s → holds_none_from r.level (holds_level (w.views t)) ≡ true → w.words.block r.level ≡ 0 →
      IsAllowed (model_limits c) (shown c w) t (Grant (Level r.level))
  may_grant s e none clear =
      let f : FitsHere s = fits_here s e in (
        lt,
        (
          (f.0, f.1),
          not_passed c w good r.level f.0 f.1 clear,
          λ j le l3. none_from (holds_level (w.views t)) r.level j none f.0 le l3,
        ),
      )

  -- its view after an addition to its own section word
  abbrev section_view : Next DownRead → View
  section_view n = view_with (w.views t) (Section r.task, Add 1) (w.words.section r.task) hook (map_next DownReads n, None)

  -- the words then
  abbrev section_words : Words
  section_words = put w.words (Section r.task) (wrap_add (w.words.section r.task) 1)

  -- they are the same beside the levels
  section_beside : SameOffLevels w.words section_words
  section_beside = refl

  -- such an addition keeps the invariant, and leaves the shown state
  abbrev SectionKeeps : Next DownRead → Type 0
  SectionKeeps n =
      let next : World = record { words = section_words; views = update w.views t (section_view n) } in
      IsGood c next × (shown c next ≡ shown c w)

  -- it does, as the task enters its section or leaves it
  turns : (s : DownReadStep) (n : Next DownRead) → IsAt s → read_count_role r.cpu s ≡ CountsNot →
      ((j : ℕ) → level_role_of j (phase_after (map_next DownReads n)) ≡ CountsNot) →
      Fits c t (held_of (w.views t)) (phase_after (map_next DownReads n)) →
      LevelsHold c (record { words = section_words; views = update w.views t (section_view n) }) → SectionKeeps n
  turns s n e counts no_count fits levels =
      let v : View = section_view n in
      let mounts : SameAtMounts (w.views t) v = record { held_same = refl; added_same = refl; taken_same = refl; open_same = refl } in (
        level_parts c w good t lt section_words v section_beside (at_levels s e) (reads_at_levels n) mounts fits
            (counts_left_at c w good t lt section_words v section_beside (at_levels s e) (reads_at_levels n) refl
            (λ j. level_view_as refl refl refl (no_count j ∙ sym (counts_nowhere s e counts j))))
            levels.0 levels.1,
        level_still c w good t lt section_words v section_beside (at_levels s e) (reads_at_levels n) mounts refl,
      )

  -- the task enters its section
  enters_section : IsAt EntersSection → StepKeeps c w t hook (DownReads (at_down_read r EntersSection))
  enters_section e =
      turns EntersSection (Go (at_down_read r LoadsSync)) e refl (counts_nowhere LoadsSync refl refl) (fits_here EntersSection e)
      (levels_hold EntersSection e)

  -- it leaves it, granted
  leaves_admitted : IsAt LeavesAdmitted → StepKeeps c w t hook (DownReads (at_down_read r LeavesAdmitted))
  leaves_admitted e = turns LeavesAdmitted (Done (Ok UnitReply)) e refl (λ j. refl) tt (levels_hold LeavesAdmitted e)

  -- or blocked, and begins anew or is refused
  leaves_blocked : IsAt LeavesBlocked → StepKeeps c w t hook (DownReads (at_down_read r LeavesBlocked))
  leaves_blocked e =
      turns LeavesBlocked (left_blocked r r.wait) e refl (blocked_counts r r.wait)
      (blocked_fits c t (held_of (w.views t)) r r.wait (fits_here LeavesBlocked e)) (levels_hold LeavesBlocked e)

  -- the state after a step on this word, in which its task comes to this
  abbrev then_view : WordName × Touch → Next DownRead × Option Action → View
  then_view next after =
      view_with (w.views t) next (read w.words next.0) hook (map_next DownReads after.0, after.1)

  -- a load of the sync word finds a path, or is done again
  loads_sync : IsAt LoadsSync → StepKeeps c w t hook (DownReads (at_down_read r LoadsSync))
  loads_sync e =
      let i : ℕ = r.level in
      let f : FitsHere LoadsSync = fits_here LoadsSync e in
      let s : DownReadStep = step_found (unpack (w.words.sync i)) in
      let path : IsPath s = path_found (unpack (w.words.sync i)) in
      let n : Next DownRead = Go (at_down_read r s) in
      let v : View = then_view (Sync i, Load) (n, None) in
      let ws : Words = put w.words (Sync i) (w.words.sync i) in
      let beside : SameOffLevels w.words ws = refl in
      let mounts : SameAtMounts (w.views t) v = record { held_same = refl; added_same = refl; taken_same = refl; open_same = refl } in (
        level_parts c w good t lt ws v beside (at_levels LoadsSync e) (reads_at_levels n) mounts
            (f.0, f.1, f.2, f.3, path.fits_still i (holds_level (w.views t)) f.4)
            (counts_left_at c w good t lt ws v beside (at_levels LoadsSync e) (reads_at_levels n) refl
            (λ j. level_view_as refl refl refl
            (counts_nowhere s refl (path.counts_not r.cpu) j ∙ sym (counts_nowhere LoadsSync e refl j))))
            (levels_hold LoadsSync e).0 (levels_hold LoadsSync e).1,
        level_still c w good t lt ws v beside (at_levels LoadsSync e) (reads_at_levels n) mounts refl,
      )

  -- at other levels it counts nowhere before and after a step that leaves what the task holds
  same_elsewhere : (s s' : DownReadStep) → IsAt s → (v : View) → v.phase ≡ Some (DownReads (at_down_read r s')) →
      holds_level v ≡ holds_level (w.views t) → SameElsewhere r.level (w.views t) v
  same_elsewhere s s' e v q held = grind arith

  -- nor after a grant of its level
  granted_elsewhere : (s s' : DownReadStep) → IsAt s → (v : View) → v.phase ≡ Some (DownReads (at_down_read r s')) →
      holds_level v ≡ update (holds_level (w.views t)) r.level true → SameElsewhere r.level (w.views t) v
  granted_elsewhere s s' e v q held = grind arith

  -- an addition on the slow path
  counts_up_slow : IsAt CountsUpSlow → StepKeeps c w t hook (DownReads (at_down_read r CountsUpSlow))
  counts_up_slow e =
      let i : ℕ = r.level in
      let f : FitsHere CountsUpSlow = fits_here CountsUpSlow e in
      let n : Next DownRead = Go (at_down_read r LoadsBlock) in
      let v : View = then_view (LevelCount i r.cpu, Add 1) (n, None) in
      let ws : Words = words_up c lim w good t lt i r.cpu f.2 hook (map_next DownReads n, None) in
      let beside : SameOffLevels w.words ws = up_beside c lim w good t lt i r.cpu f.2 hook (map_next DownReads n, None) in
      let mounts : SameAtMounts (w.views t) v = record { held_same = refl; added_same = refl; taken_same = refl; open_same = refl } in (
        level_parts c w good t lt ws v beside (at_levels CountsUpSlow e) (reads_at_levels n) mounts f
            (seeks c lim w good t lt i r.cpu f.2 hook (map_next DownReads n, None) (counts_here CountsUpSlow e)
            (counts_here LoadsBlock refl) refl (same_elsewhere CountsUpSlow LoadsBlock e v refl refl))
            (levels_hold CountsUpSlow e).0 (levels_hold CountsUpSlow e).1,
        level_still c w good t lt ws v beside (at_levels CountsUpSlow e) (reads_at_levels n) mounts refl,
      )

  -- a subtraction by a task that was blocked
  counts_down : IsAt CountsDown → StepKeeps c w t hook (DownReads (at_down_read r CountsDown))
  counts_down e =
      let i : ℕ = r.level in
      let f : FitsHere CountsDown = fits_here CountsDown e in
      let n : Next DownRead = Go (at_down_read r LeavesBlocked) in
      let v : View = then_view (LevelCount i r.cpu, Sub 1) (n, None) in
      let ws : Words = words_down c lim w good t lt i r.cpu f.2 hook (map_next DownReads n, None) in
      let beside : SameOffLevels w.words ws = down_beside c lim w good t lt i r.cpu f.2 hook (map_next DownReads n, None) in
      let mounts : SameAtMounts (w.views t) v = record { held_same = refl; added_same = refl; taken_same = refl; open_same = refl } in (
        level_parts c w good t lt ws v beside (at_levels CountsDown e) (reads_at_levels n) mounts f
            (backs_off c lim w good t lt i r.cpu f.2 hook (map_next DownReads n, None) (counts_here CountsDown e)
            (counts_here LeavesBlocked refl) refl (same_elsewhere CountsDown LeavesBlocked e v refl refl))
            (levels_hold CountsDown e).0 (levels_hold CountsDown e).1,
        level_still c w good t lt ws v beside (at_levels CountsDown e) (reads_at_levels n) mounts refl,
      )

  -- an addition on the fast path, which is the grant
  counts_up_fast : IsAt CountsUpFast → StepKeeps c w t hook (DownReads (at_down_read r CountsUpFast))
  counts_up_fast e =
      let i : ℕ = r.level in
      let f : FitsHere CountsUpFast = fits_here CountsUpFast e in
      let clear : w.words.block i ≡ 0 = fast_finds_open c w good i f.0 f.1 t lt (ap (sync_role_of i) e ∙ sync_on i Fast) in
      let n : Next DownRead = Go (at_down_read r LeavesAdmitted) in
      let a : Option Action = Some (Grant (Level i)) in
      let v : View = then_view (LevelCount i r.cpu, Add 1) (n, a) in
      let ws : Words = words_up c lim w good t lt i r.cpu f.2 hook (map_next DownReads n, a) in
      let beside : SameOffLevels w.words ws = up_beside c lim w good t lt i r.cpu f.2 hook (map_next DownReads n, a) in
      let mounts : SameAtMounts (w.views t) v = record { held_same = refl; added_same = refl; taken_same = refl; open_same = refl } in (
        level_parts c w good t lt ws v beside (at_levels CountsUpFast e) (reads_at_levels n) mounts
            (f.0, f.1, f.2, f.3, update_at (holds_level (w.views t)) i true)
            (enters_fast c lim w good t lt i r.cpu f.2 hook (map_next DownReads n, a) clear (counts_here CountsUpFast e)
            (counts_here LeavesAdmitted refl) (none_from (holds_level (w.views t)) i i f.4 f.0 (omega arith) f.1)
            (update_at (holds_level (w.views t)) i true) (granted_elsewhere CountsUpFast LeavesAdmitted e v refl refl))
            (levels_hold CountsUpFast e).0 (levels_hold CountsUpFast e).1,
        (may_grant CountsUpFast e f.4 clear, level_shown c w good t lt ws v beside (at_levels CountsUpFast e) (reads_at_levels n) mounts),
      )

  -- the words after a load of `block`
  abbrev block_words : Words
  block_words = put w.words (Block r.level) (w.words.block r.level)

  -- they are the same beside the level
  block_beside : SameOffLevels w.words block_words
  block_beside = λ k. record (beside_levels w.words) { block = update_same w.words.block r.level k }

  -- the state after it, from what it leaves of the counts of the task's own level
  block_law : (s' : DownReadStep) (a : Option Action) → IsAt LoadsBlock →
      let v : View = then_view (Block r.level, Load) (Go (at_down_read r s'), a) in
      held_at v ≡ held_at (w.views t) → has_open v ≡ has_open (w.views t) → ReadStepFits r.level (holds_level v) s' → SameElsewhere r.level (w.views t) v →
      (1 ≤ r.level → r.level ≤ 3 → LevelHoldsAfter c w good t lt r.level (w.words.level r.level)
      (record (at_level r.level (w.views t)) { held = held_bit (holds_level v r.level); role = read_count_role r.cpu s' })) →
      LevelsHold c (record { words = block_words; views = update w.views t v }) →
      IsGood c (record { words = block_words; views = update w.views t v })
  block_law s' a e held opened fits same own levels =
      let i : ℕ = r.level in
      let f : FitsHere LoadsBlock = fits_here LoadsBlock e in
      let n : Next DownRead = Go (at_down_read r s') in
      let v : View = then_view (Block i, Load) (n, a) in
      level_parts c w good t lt block_words v block_beside (at_levels LoadsBlock e) (reads_at_levels n)
      (record { held_same = held; added_same = refl; taken_same = refl; open_same = opened }) (f.0, f.1, f.2, f.3, fits)
      (level_follows c w good t lt i block_words v block_beside (w.words.level i)
      (record (at_level i (w.views t)) { held = held_bit (holds_level v i); role = read_count_role r.cpu s' }) refl
      (level_view_as refl refl refl (counts_here s' refl)) own
      (λ j ne. (refl, level_view_as (same.held_same j ne) refl refl (same.role_same j ne))))
      levels.0 levels.1

  -- a load of `block` that found 0 is the grant
  finds_clear : IsAt LoadsBlock → w.words.block r.level ≡ 0 →
      let v : View = then_view (Block r.level, Load) (Go (at_down_read r LeavesAdmitted), Some (Grant (Level r.level))) in
      let next : World = record { words = block_words; views = update w.views t v } in
      LevelsHold c next → IsGood c next × Moves c (shown c w) t (Some (Grant (Level r.level))) (shown c next)
  finds_clear e clear levels =
      let i : ℕ = r.level in
      let f : FitsHere LoadsBlock = fits_here LoadsBlock e in
      let n : Next DownRead = Go (at_down_read r LeavesAdmitted) in
      let v : View = then_view (Block i, Load) (n, Some (Grant (Level i))) in
      let none : holds_level (w.views t) i ≡ false = none_from (holds_level (w.views t)) i i f.4 f.0 (omega arith) f.1 in
      let now : holds_level v i ≡ true = update_at (holds_level (w.views t)) i true in (
        block_law LeavesAdmitted (Some (Grant (Level i))) e refl refl now (granted_elsewhere LoadsBlock LeavesAdmitted e v refl refl)
            (λ l1 l3. subst (λ h. LevelHoldsAfter c w good t lt i (w.words.level i)
            (record (at_level i (w.views t)) { held = h; role = CountsNot }))
            (sym (ap held_bit now ∙ sym (ap (λ b. held_bit b + 1) none)))
            (is_granted (good (AtLevel i) l1 l3) t lt r.cpu (counts_here LoadsBlock e) clear (bit_room (holds_level (w.views t) i))))
            levels,
        (
          may_grant LoadsBlock e f.4 clear,
          level_shown c w good t lt block_words v block_beside (at_levels LoadsBlock e) (reads_at_levels n)
              (record { held_same = refl; added_same = refl; taken_same = refl; open_same = refl }),
        ),
      )

  -- one that found it set leads to the subtraction
  finds_set : IsAt LoadsBlock →
      let v : View = then_view (Block r.level, Load) (Go (at_down_read r CountsDown), None) in
      let next : World = record { words = block_words; views = update w.views t v } in
      LevelsHold c next → IsGood c next × (shown c next ≡ shown c w)
  finds_set e levels =
      let i : ℕ = r.level in
      let f : FitsHere LoadsBlock = fits_here LoadsBlock e in
      let n : Next DownRead = Go (at_down_read r CountsDown) in
      let v : View = then_view (Block i, Load) (n, None) in (
        block_law CountsDown None e refl refl f.4 (same_elsewhere LoadsBlock CountsDown e v refl refl)
            (λ l1 l3. is_refused (good (AtLevel i) l1 l3) t lt r.cpu (counts_here LoadsBlock e)) levels,
        level_still c w good t lt block_words v block_beside (at_levels LoadsBlock e) (reads_at_levels n)
            (record { held_same = refl; added_same = refl; taken_same = refl; open_same = refl }) refl,
      )

  -- a load of `block`
  loads_block : IsAt LoadsBlock → StepKeeps c w t hook (DownReads (at_down_read r LoadsBlock))
  loads_block e =
      let levels : LevelsHold c (after_step w t (DownReads (at_down_read r LoadsBlock)) hook) = levels_hold LoadsBlock e in
      elim (eqb_tells (w.words.block r.level) 0) [
        | inl h ↦ rw h.0 (finds_clear e h.1 (rw h.0 at levels))
        | inr h ↦ rw h.0 (finds_set e (rw h.0 at levels))
      ]

  -- each step of a start
  each_step : (s : DownReadStep) → IsAt s → StepKeeps c w t hook (DownReads (at_down_read r s))
  each_step EntersSection e = enters_section e
  each_step LoadsSync e = loads_sync e
  each_step CountsUpFast e = counts_up_fast e
  each_step CountsUpSlow e = counts_up_slow e
  each_step LoadsBlock e = loads_block e
  each_step CountsDown e = counts_down e
  each_step LeavesAdmitted e = leaves_admitted e
  each_step LeavesBlocked e = leaves_blocked e

-- Each step of a start keeps the invariant, and moves the shown state by its action or not at all.
pub read_keeps : (c : Config) → IsWithin c → (w : World) → IsGood c w → (t : ℕ) → t < c.tasks → (hook : HookAnswer) → (r : DownRead) →
    (w.views t).phase ≡ Some (DownReads r) → StepKeeps c w t hook (DownReads r)
read_keeps c lim w good t lt hook r e = each_step c lim w good t lt hook r r.step e
