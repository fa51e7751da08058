-- What a step that doesn't wait changes of a level's words is counted: the changes that are left fall with each change of `block`, a sync word or a
-- count; and a step that changes none of these leaves no more of any number than there was.
use Rattle.progress_laws.proofs.Prelude.{Bool, Callback, CallbackStep, ClosePhase, Config, DownRead, DownReadStep, DownWrite, DownWriteStep, Err}
use Rattle.progress_laws.proofs.Prelude.{Freeze, FreezeFits, FreezeStep, Grace, GraceNext, Holdings, HookAnswer, IsGood, IsWithin, MountPhase, Next}
use Rattle.progress_laws.proofs.Prelude.{Ok, Option, Phase, PhaseFits, RemountStep, Some, Sum, SyncAt, SyncHoldsIn, ThawStep, Transition}
use Rattle.progress_laws.proofs.Prelude.{TransitionNext, TreePhase, UpWrite, UpWriteStep, Want, WantStep, WordName, Words, World, WritePhase}
use Rattle.progress_laws.proofs.Prelude.{after_closing, after_event, after_of, ap, arith, at_freeze, callback_after, callback_next, callback_waits}
use Rattle.progress_laws.proofs.Prelude.{cases_Bool, closed, closing_left, closing_tries, closing_waits, common_steps, down_read_after}
use Rattle.progress_laws.proofs.Prelude.{down_read_next, down_write_after, down_write_next, eq-eqb, eqb_tells, false, found_at, found_by}
use Rattle.progress_laws.proofs.Prelude.{freeze_after, freeze_left, freeze_next, freeze_tries, held_of, inl, inr, is_frozen_whole, level_closed}
use Rattle.progress_laws.proofs.Prelude.{load_same, looked, map_next, must_wait, nat_lt, opening_left, opening_tries, read, refl, sections_awaited}
use Rattle.progress_laws.proofs.Prelude.{start_steps, steps_left, subst, suc, sym, sync_role_of, thaw_after, thaw_waits, transition_after, tries_left}
use Rattle.progress_laws.proofs.Prelude.{true, true≢false, words_after, ℕ, ◌*◌, ◌+◌, ◌-◌, ◌<◌, ◌==◌, ◌∙◌, ◌≡◌, ◌≤◌, ◌⊎◌}
use Rattle.std.proofs.Math.Nat.{suc-mul}
use Rattle.access_model.specs.{Holders.{held_by, is_unheld, with_holder}, declared.actions.Action.Action}
use Rattle.composite_ops.specs.file_closes.Phases.{after as close_after, next as close_next, then_frees}
use Rattle.composite_ops.specs.write_access.Phases.{after as write_after, next as write_next, then_gives_back, then_wants}
use Rattle.cpu_words.specs.{Sums.sum_taking, Words.put, declared.{events.Touch.Touch, sums.Taken.Taken}}
use Rattle.freeze_laws.{proofs.stages.Facts.at_level, specs.levels.{Operations.down_write_role, Roles.{SyncRole, entered}}}
use Rattle.freeze_levels.specs.{Freezes.{after_reopening, after_undoing, freeze_fails, freeze_undone}, Holders.holders_in}
use Rattle.freeze_levels.specs.{Thaws.{after_opening, thaw_next, thaw_opens}, declared.thaws.Thaw.Thaw}
use Rattle.gate_schedules.proofs.{frames.ValidWords.events_may_be, levels.Facts.block_clear}
use Rattle.gate_schedules.proofs.operations.{deadlocks.BlockedCloses.{StaysAtLevel, down_stays}, freeze.Closes.by_wait}
use Rattle.gate_world.specs.{Fits.{Fits, ThawFits}, Roles.{freeze_position, position_sync, sync_beside}, Rules.Fitting}
use Rattle.gate_world.specs.traces.TraceStates.{CloseReadIsValid, WordIsValid}
use Rattle.gated_tree.specs.Phases.{next as tree_next}
use Rattle.mount_counts.specs.{Phases.{next as mount_next, want_next}, Remounts.remount_next, declared.remounts.Remount.Remount}
use Rattle.node_words.specs.{Nodes.word_of, declared.nodes.NodeWord.NodeWord}
use Rattle.percpu_rwsem.specs.{Callbacks.{callback_looked, called_back, claimed}, SyncWords.{on_callback, on_claim, on_enter, on_exit, unpack}}
use Rattle.percpu_rwsem.specs.{Transitions.transition_next, Writers.{at_down_write, callback_step, down_write_summed, enter_step, entered_from}}
use Rattle.percpu_rwsem.specs.{Writers.{exit_made, passed_awaited, up_write_after, up_write_next}, declared.sync_word.GpState.GpState}
use Rattle.percpu_rwsem.specs.declared.sync_word.SyncWord.{SyncWord}
use Rattle.progress_laws.proofs.nearer.{Calls.read_blocks, Levels.start_nears, Nearer.{FewerLeft, freeze_waits_on, waits_on}}
use Rattle.progress_laws.proofs.rounds.Potentials.{mul_le}
use Rattle.progress_laws.specs.StepsLeft.{callback_changes, callback_left, callback_tries, changes_left, closed_changes, closing_changes}
use Rattle.progress_laws.specs.StepsLeft.{freeze_changes, opening_changes, start_left, thaw_changes, thaw_left, thaw_tries}

-- what the numbers of others read of a level is as it was
abbrev pub SameLevels : Words → Words → Type 0
SameLevels w after = (after.block ≡ w.block) × (after.sync ≡ w.sync) × (after.level ≡ w.level)

-- of what comes next, by these numbers of it: the changes fall by that of a `block`; or they and the steps of a start do, and each `block` is as it was;
-- or no level's words are changed. At its end this is so.
abbrev pub CountsBy : {P : Type 0} (left changes starts tries : P → ℕ) (a k b d turn : ℕ) (same_block same_levels ended : Type 0) → Next P → Type 0
CountsBy left changes starts tries a k b d turn same_block same_levels ended (Next.Go q) =
    (changes q + turn ≤ k) ⊎ (((changes q + starts q < k + b) × same_block) ⊎
    ((changes q ≤ k) × (starts q ≤ b) × (left q < a → tries q ≤ d) × same_levels))
CountsBy left changes starts tries a k b d turn same_block same_levels ended (Next.Wait q) =
    (changes q + turn ≤ k) ⊎ (((changes q + starts q < k + b) × same_block) ⊎
    ((changes q ≤ k) × (starts q ≤ b) × (left q < a → tries q ≤ d) × same_levels))
CountsBy left changes starts tries a k b d turn same_block same_levels ended (Next.Done answer) = ended

-- a reply has changed no level's words, or was the last change
abbrev pub EndsBy : Words → Words → ℕ → Type 0
EndsBy w after n = SameLevels w after ⊎ ((0 < n) × (after.block ≡ w.block))

-- the same of a phase of any layer
abbrev pub CountsChanges : ℕ → Words → Words → Phase → Next Phase → Type 0
CountsChanges turn w after p next =
    CountsBy steps_left (changes_left turn) (start_steps after) (tries_left after) (steps_left p) (changes_left turn p) (start_steps w p)
    (tries_left w p) turn (after.block ≡ w.block) (SameLevels w after) (EndsBy w after (changes_left turn p + start_steps w p)) next

levels_same : (w after : Words) → after ≡ w → SameLevels w after
levels_same w after e = (ap (λ (v : Words). v.block) e, ap (λ (v : Words). v.sync) e, ap (λ (v : Words). v.level) e)

-- words that no level has
abbrev is_of_level : WordName → Bool
is_of_level (WordName.Block i) = true
is_of_level (WordName.Sync i) = true
is_of_level (WordName.LevelCount i p) = true
is_of_level name = false

beside_levels : (w : Words) (name : WordName) (v : ℕ) → is_of_level name ≡ false → SameLevels w (put w name v)
beside_levels w name v h = grind arith

-- an operation that touches no level's words
aside : {A : Type 0} (to : A → Phase) (turn : ℕ) (w after : Words) (p : Phase) (next : Next A) →
    ((y : A) → (changes_left turn (to y) ≤ changes_left turn p) × (start_steps after (to y) ≤ start_steps w p) ×
    (tries_left after (to y) ≤ tries_left w p)) →
    SameLevels w after → CountsChanges turn w after p (map_next to next)
aside to turn w after p next h same = grind arith

mount_words : (x : MountPhase) (hook : HookAnswer) → is_of_level (mount_next x hook).0 ≡ false
mount_words x hook = grind (arith, common_steps)

remount_words : (x : Remount) (s : RemountStep) (hook : HookAnswer) → is_of_level (remount_next x s hook).0 ≡ false
remount_words x s hook = grind arith

tree_words : (x : TreePhase) (hook : HookAnswer) → is_of_level (tree_next x hook).0 ≡ false
tree_words x hook = grind (arith, common_steps)

-- a transition that isn't made has left all words as they were
abbrev UnlessMade : Type 0 → TransitionNext → Type 0
UnlessMade A (TransitionNext.Made s) = Unit {0}
UnlessMade A other = A

not_made : (A : Type 0) → A → (next : TransitionNext) → UnlessMade A next
not_made A a (TransitionNext.Made s) = tt
not_made A a other = a

unless_made : (makes : SyncWord → Option SyncWord) (w : Words) (level : ℕ) (x : Transition) →
    UnlessMade (after_event w (transition_next level x) ≡ w)
    (transition_after makes x (found_by (transition_next level x).1 (read w (transition_next level x).0)))
unless_made makes w level x = grind (arith, not_made, load_same)

transition_blocks : (w : Words) (level : ℕ) (x : Transition) → (after_event w (transition_next level x)).block ≡ w.block
transition_blocks w level Transition.Loads = refl
transition_blocks w level (Transition.Exchanges from to) = refl

-- the closing of a level
abbrev ClosingCounts : ℕ → Words → Words → DownWrite → DownWriteStep → Next DownWrite → Type 0
ClosingCounts turn w after d s next =
    CountsBy (λ (y : DownWrite). closing_left y.tasks y.step) (λ (y : DownWrite). closing_changes turn y.step) (λ (y : DownWrite). 0)
    (λ (y : DownWrite). closing_tries after y y.step) (closing_left d.tasks s) (closing_changes turn s) 0 (closing_tries w d s) turn
    (after.block ≡ w.block) (SameLevels w after) ((1 ≤ closing_tries w d s) × SameLevels w after) next

entered_changes : (turn tasks : ℕ) (s : GpState) → closing_changes turn (entered_from tasks s) < turn + 2
entered_changes turn tasks s = grind arith

module _ (turn : ℕ) (w after : Words) (d : DownWrite) where
  enters_count : (x : Transition) (next : TransitionNext) → UnlessMade (after ≡ w) next → after.block ≡ w.block →
      ClosingCounts turn w after d (DownWriteStep.Enters x) (Next.Go (at_down_write d (enter_step d.tasks next)))
  enters_count x next same blocks = grind (arith, levels_same, entered_changes)

  calls_count : (x : Transition) (next : TransitionNext) → UnlessMade (after ≡ w) next → after.block ≡ w.block →
      ClosingCounts turn w after d (DownWriteStep.CallsBack x) (Next.Go (at_down_write d (callback_step next)))
  calls_count x next same blocks = grind (arith, levels_same)

  looks_count : (g : Grace) (next : GraceNext) → SameLevels w after →
      ClosingCounts turn w after d (DownWriteStep.AwaitsSections g) (sections_awaited d next)
  looks_count g next same = grind arith

  passed_counts : (word : Option SyncWord) → SameLevels w after →
      ClosingCounts turn w after d DownWriteStep.AwaitsPassed (passed_awaited d word)
  passed_counts word same = grind arith

  sum_some : (sum : Sum) → 1 ≤ closing_tries w d (DownWriteStep.Sums sum)
  sum_some sum = grind arith

  sums_count : (sum : Sum) (taken : Taken) → SameLevels w after →
      ClosingCounts turn w after d (DownWriteStep.Sums sum) (down_write_summed d taken).0
  sums_count sum taken same = grind (arith, sum_some)

module _ (turn : ℕ) (c : Config) (w : World) (good : IsGood c w) (t : ℕ) (lt : t < c.tasks) where
  module _ (d : DownWrite) (one : 1 ≤ d.level) (three : d.level ≤ 3) where
    abbrev role : ℕ → SyncRole
    role u = sync_role_of d.level (w.views u).phase

    rule : SyncHoldsIn c w d.level
    rule = good (SyncAt d.level) one three

    closing_counts : (s : DownWriteStep) → role t ≡ down_write_role s →
        ClosingCounts turn w.words (after_event w.words (down_write_next d s)) d s
        (down_write_after d s (found_by (down_write_next d s).1 (read w.words (down_write_next d s).0))).0
    closing_counts (DownWriteStep.Enters x) here =
        let after : Words = after_event w.words (transition_next d.level x) in
        let found : ℕ = found_by (transition_next d.level x).1 (read w.words (transition_next d.level x).0) in
        enters_count turn w.words after d x (transition_after on_enter x found) (unless_made on_enter w.words d.level x) (transition_blocks w.words d.level x)
    closing_counts (DownWriteStep.AwaitsSections g) here =
        looks_count turn w.words (after_event w.words (WordName.Section g.task, Touch.Load)) d g (looked g (w.words.section g.task))
        (levels_same w.words _ (load_same w.words (WordName.Section g.task)))
    closing_counts (DownWriteStep.CallsBack x) here =
        let after : Words = after_event w.words (transition_next d.level x) in
        let found : ℕ = found_by (transition_next d.level x).1 (read w.words (transition_next d.level x).0) in
        calls_count turn w.words after d x (transition_after on_callback x found) (unless_made on_callback w.words d.level x) (transition_blocks w.words d.level x)
    closing_counts DownWriteStep.AwaitsPassed here =
        passed_counts turn w.words (after_event w.words (WordName.Sync d.level, Touch.Load)) d (unpack (w.words.sync d.level))
        (levels_same w.words _ (load_same w.words (WordName.Sync d.level)))
    closing_counts DownWriteStep.SetsBlock here =
        let b : w.words.block d.level ≡ 0 =
        block_clear c.tasks rule.word (w.words.block d.level) (is_frozen_whole w.words) w.words.section role rule.holds t lt
        (ap entered here) (ap closed here) in
        let e : (w.words.block d.level == 0) ≡ true = eq-eqb (w.words.block d.level) 0 b in
        rw e (inl (omega arith))
    closing_counts (DownWriteStep.Sums sum) here =
        sums_count turn w.words (after_event w.words (WordName.LevelCount d.level sum.words, Touch.Load)) d sum
        (sum_taking sum (w.words.level d.level sum.words) d.processors)
        (levels_same w.words _ (load_same w.words (WordName.LevelCount d.level sum.words)))

-- the opening of a level
abbrev OpeningCounts : ℕ → Words → Words → UpWrite → UpWriteStep → Next UpWrite → Type 0
OpeningCounts turn w after u s (Next.Go y) =
    (y.level ≡ u.level) × ((opening_changes turn y.level y.step + turn ≤ opening_changes turn u.level s) ⊎
    ((opening_changes turn y.level y.step ≤ opening_changes turn u.level s) ×
    (opening_left y.level y.step < opening_left u.level s → opening_tries after y y.step ≤ opening_tries w u s) × SameLevels w after))
OpeningCounts turn w after u s (Next.Wait y) = ⊥
OpeningCounts turn w after u s (Next.Done answer) =
    ((u.level - 1) * (turn + 1) + 1 ≤ opening_changes turn u.level s) × (after.block ≡ w.block)

level_more : (level k : ℕ) → 1 ≤ level → level * k ≡ (level - 1) * k + k
level_more level k one =
    let e : level ≡ suc (level - 1) = omega (arith, one) in
    ap (λ n. n * k) e ∙ suc-mul (level - 1) k

module _ (turn : ℕ) (w : Words) (u : UpWrite) (one : 1 ≤ u.level) where
  exits_count : (after : Words) (x : Transition) (next : TransitionNext) → UnlessMade (after ≡ w) next → after.block ≡ w.block →
      OpeningCounts turn w after u (UpWriteStep.Exits x) (exit_made u next)
  exits_count after x next same blocks = grind (arith, levels_same)

  opening_counts : (s : UpWriteStep) →
      OpeningCounts turn w (after_event w (up_write_next u s)) u s
      (up_write_after u s (found_by (up_write_next u s).1 (read w (up_write_next u s).0))).0
  opening_counts s = grind (arith, level_more, exits_count, after_event, unless_made, transition_blocks)

-- what comes after a step of a freeze, and of a thaw
abbrev FreezeCounts : ℕ → Words → Words → Freeze → FreezeStep → Next Freeze → Type 0
FreezeCounts turn w after x s next =
    CountsBy (λ (y : Freeze). freeze_left y y.step) (λ (y : Freeze). freeze_changes turn y.step) (λ (y : Freeze). 0)
    (λ (y : Freeze). freeze_tries after y.step) (freeze_left x s) (freeze_changes turn s) 0 (freeze_tries w s) turn
    (after.block ≡ w.block) (SameLevels w after) (EndsBy w after (freeze_changes turn s + 0)) next

abbrev ThawCounts : ℕ → Words → Words → Thaw → ThawStep → Next Thaw → Type 0
ThawCounts turn w after x s next =
    CountsBy (λ (y : Thaw). thaw_left y.step) (λ (y : Thaw). thaw_changes turn y.step) (λ (y : Thaw). 0)
    (λ (y : Thaw). thaw_tries after y.step) (thaw_left s) (thaw_changes turn s) 0 (thaw_tries w s) turn
    (after.block ≡ w.block) (SameLevels w after) (EndsBy w after (thaw_changes turn s + 0)) next

-- a level that is closed
closed_counts : (turn level nodes : ℕ) → freeze_changes turn (level_closed level nodes) ≡ closed_changes turn level
closed_counts turn level nodes =
    elim (cases_Bool (level == 1)) [
      | inl h ↦ rw h refl
      | inr h ↦ elim (cases_Bool (level == 2)) [ inl q ↦ rw (h, q) refl | inr q ↦ rw (h, q) refl ]
    ]

closed_tries : (w : Words) (level nodes : ℕ) → freeze_tries w (level_closed level nodes) ≡ 1
closed_tries w level nodes =
    elim (cases_Bool (level == 1)) [
      | inl h ↦ rw h refl
      | inr h ↦ elim (cases_Bool (level == 2)) [ inl q ↦ rw (h, q) refl | inr q ↦ rw (h, q) refl ]
    ]

closes_on : (turn : ℕ) (w after : Words) (x : Freeze) (d y : DownWrite) → y.level ≡ d.level → ClosingCounts turn w after d d.step (Next.Go y) →
    FreezeCounts turn w after x (FreezeStep.Closes d) (Next.Go (at_freeze x (FreezeStep.Closes y)))
closes_on turn w after x d y level h = grind arith

closes_count : (turn : ℕ) (w after : Words) (x : Freeze) (d : DownWrite) (next : Next DownWrite) (action : Option Action) →
    StaysAtLevel d next action → ClosingCounts turn w after d d.step next →
    FreezeCounts turn w after x (FreezeStep.Closes d) (after_closing x d.level next)
closes_count turn w after x d next action level h = grind (arith, closes_on, by_wait, closed_counts, closed_tries)

-- the levels below one that is opened
opens_changes : (turn level code : ℕ) (x : Freeze) → 1 ≤ level →
    freeze_changes turn (freeze_fails (level - 1) code) ≤ (level - 1) * (turn + 1)
opens_changes turn level code x one =
    elim (eqb_tells (level - 1) 0) [ inl h ↦ rw h.0 (omega arith) | inr h ↦ rw h.0 (omega arith) ]

thaw_opens_changes : (turn level : ℕ) → thaw_changes turn (thaw_opens (level - 1)) ≤ (level - 1) * (turn + 1)
thaw_opens_changes turn level =
    elim (eqb_tells (level - 1) 0) [ inl h ↦ rw h.0 (omega arith) | inr h ↦ rw h.0 (omega arith) ]

fails_tries : (w : Words) (level code : ℕ) → freeze_tries w (freeze_fails level code) ≡ 1
fails_tries w level code = elim (eqb_tells level 0) [ inl h ↦ rw h.0 refl | inr h ↦ rw h.0 refl ]

reopens_count : (turn : ℕ) (w after : Words) (x : Freeze) (u : UpWrite) (code : ℕ) (next : Next UpWrite) → 1 ≤ u.level →
    OpeningCounts turn w after u u.step next → FreezeCounts turn w after x (FreezeStep.Reopens u code) (after_reopening x u.level code next)
reopens_count turn w after x u code next one h = grind (arith, opens_changes)

thaws_count : (turn : ℕ) (w after : Words) (x : Thaw) (u : UpWrite) (next : Next UpWrite) →
    OpeningCounts turn w after u u.step next → ThawCounts turn w after x (ThawStep.Reopens u) (after_opening x u.level next)
thaws_count turn w after x u next h = grind (arith, thaw_opens_changes)

-- a level that is given up: its `block` is cleared, and the rest is that of its rcu_sync and of the levels below
gives_up_changes : (turn level : ℕ) → 1 ≤ level → level ≤ 3 → (level - 1) * (turn + 1) + 1 + turn ≤ closed_changes turn level
gives_up_changes turn level one three = at_level (λ i. (i - 1) * (turn + 1) + 1 + turn ≤ closed_changes turn i) (omega arith, omega arith, omega arith) level one three

undone_changes : (turn level code : ℕ) → freeze_changes turn (freeze_undone level code) ≤ (level - 1) * (turn + 1)
undone_changes turn level code = elim (eqb_tells level 1) [ inl h ↦ rw h.0 (omega arith) | inr h ↦ rw h.0 (omega arith) ]

undoes_count : (turn : ℕ) (w after : Words) (x : Freeze) (level code : ℕ) (transition : Transition) (n : TransitionNext) → UnlessMade (after ≡ w) n →
    after.block ≡ w.block → FreezeCounts turn w after x (FreezeStep.Undoes level transition code) (after_undoing x level code n)
undoes_count turn w after x level code transition n same blocks = grind (arith, levels_same, undone_changes)

freeze_counts : (turn : ℕ) (c : Config) (w : World) → IsGood c w → (t : ℕ) → t < c.tasks → (x : Freeze) (hook : HookAnswer) (s : FreezeStep) →
    ((i : ℕ) → sync_role_of i (w.views t).phase ≡ position_sync i (freeze_position s)) → FreezeFits c x.holder s →
    FreezeCounts turn w.words (after_event w.words (freeze_next x s hook)) x s
    (freeze_after x s (found_by (freeze_next x s hook).1 (read w.words (freeze_next x s hook).0)) hook).0
freeze_counts turn c w good t lt x hook FreezeStep.Locks role fits =
    elim (eqb_tells w.words.umount 0) [
      | inl h ↦ rw h.0 (inr (inr (omega arith, omega arith, λ l. omega arith, (refl, refl, refl))))
      | inr h ↦ rw h.0 (inr (inr (omega arith, omega arith, λ l. omega arith, (refl, refl, refl))))
    ]
freeze_counts turn c w good t lt x hook FreezeStep.LoadsStage role fits =
    elim (eqb_tells w.words.stage 0) [
      | inl h ↦ rw h.0 (inr (inr (omega arith, omega arith, λ l. omega arith, (refl, refl, refl))))
      | inr h ↦ elim (eqb_tells w.words.stage 4) [
        | inl q ↦ rw (h.0, q.0) (inr (inr (omega arith, omega arith, λ l. omega arith, (refl, refl, refl))))
        | inr q ↦ rw (h.0, q.0) (inr (inr (omega arith, omega arith, λ l. omega arith, (refl, refl, refl))))
      ]
    ]
freeze_counts turn c w good t lt x hook FreezeStep.LoadsHolders role fits =
    elim (cases_Bool (held_by (holders_in w.words.holders) x.holder)) [
      | inl h ↦ rw h (inr (inr (omega arith, omega arith, λ l. omega arith, (refl, refl, refl))))
      | inr h ↦ rw h (inr (inr (omega arith, omega arith, λ l. omega arith, (refl, refl, refl))))
    ]
freeze_counts turn c w good t lt x hook FreezeStep.LoadsSuperblock role fits =
    elim (eqb_tells w.words.sb 0) [
      | inl h ↦ rw h.0 (inr (inr (omega arith, omega arith, λ l. omega arith, (refl, refl, refl))))
      | inr h ↦ rw h.0 (inr (inr (omega arith, omega arith, λ l. omega arith, (refl, refl, refl))))
    ]
freeze_counts turn c w good t lt x hook (FreezeStep.Closes d) role fits =
    let here : position_sync d.level (freeze_position (FreezeStep.Closes d)) ≡ down_write_role d.step =
    ap (λ q. sync_beside q (nat_lt d.level d.level) (down_write_role d.step)) (eq-eqb d.level d.level refl) in
    let found : ℕ = found_by (down_write_next d d.step).1 (read w.words (down_write_next d d.step).0) in
    closes_count turn w.words (after_event w.words (down_write_next d d.step)) x d (down_write_after d d.step found).0
    (down_write_after d d.step found).1 (down_stays d d.step found)
    (closing_counts turn c w good t lt d fits.0 fits.1 d.step (role d.level ∙ here))
freeze_counts turn c w good t lt x (Ok answer) (FreezeStep.Waits d) role fits =
    let here : position_sync d.level (freeze_position (FreezeStep.Waits d)) ≡ down_write_role d.step =
    ap (λ q. sync_beside q (nat_lt d.level d.level) (down_write_role d.step)) (eq-eqb d.level d.level refl) in
    let found : ℕ = found_by (down_write_next d d.step).1 (read w.words (down_write_next d d.step).0) in
    closes_count turn w.words (after_event w.words (down_write_next d d.step)) x d (down_write_after d d.step found).0
    (down_write_after d d.step found).1 (down_stays d d.step found)
    (closing_counts turn c w good t lt d fits.0.0 fits.0.1 d.step (role d.level ∙ here))
freeze_counts turn c w good t lt x (Err code) (FreezeStep.Waits d) role fits = inl (omega (arith, gives_up_changes turn d.level fits.0.0 fits.0.1))
freeze_counts turn c w good t lt x hook (FreezeStep.Undoes level transition code) role fits =
    undoes_count turn w.words (after_event w.words (transition_next level transition)) x level code transition
    (transition_after on_exit transition (found_by (transition_next level transition).1 (read w.words (transition_next level transition).0)))
    (unless_made on_exit w.words level transition) (transition_blocks w.words level transition)
freeze_counts turn c w good t lt x hook (FreezeStep.LocksToUndo code) role fits =
    elim (eqb_tells w.words.umount 0) [
      | inl h ↦ rw h.0 (inr (inr (omega arith, omega arith, λ l. omega arith, (refl, refl, refl))))
      | inr h ↦ rw h.0 (inr (inr (omega arith, omega arith, λ l. omega arith, (refl, refl, refl))))
    ]
freeze_counts turn c w good t lt x hook (FreezeStep.GivesUp level code) role fits =
    inr (inr (omega (arith, opens_changes turn level code x fits.0), omega arith, λ l. omega (arith, fails_tries w.words (level - 1) code), (refl, refl, refl)))
freeze_counts turn c w good t lt x hook FreezeStep.LocksAgain role fits =
    elim (eqb_tells w.words.umount 0) [
      | inl h ↦ rw h.0 (inr (inr (omega arith, omega arith, λ l. omega arith, (refl, refl, refl))))
      | inr h ↦ rw h.0 (inr (inr (omega arith, omega arith, λ l. omega arith, (refl, refl, refl))))
    ]
freeze_counts turn c w good t lt x hook (FreezeStep.Cleans marks) role fits =
    elim (cases_Bool (nat_lt (marks.node + 1) marks.nodes)) [
      | inl h ↦ rw h (inr (inr (omega arith, omega arith, λ l. omega arith, (refl, refl, refl))))
      | inr h ↦ rw h (inr (inr (omega arith, omega arith, λ l. omega arith, (refl, refl, refl))))
    ]
freeze_counts turn c w good t lt x (Ok answer) FreezeStep.SetsFs role fits = inr (inr (omega arith, omega arith, λ l. omega arith, (refl, refl, refl)))
freeze_counts turn c w good t lt x (Err code) FreezeStep.SetsFs role fits = inr (inr (omega arith, omega arith, λ l. omega arith, (refl, refl, refl)))
freeze_counts turn c w good t lt x (Ok answer) FreezeStep.SetsComplete role fits = inr (inr (omega arith, omega arith, λ l. omega arith, (refl, refl, refl)))
freeze_counts turn c w good t lt x (Err code) FreezeStep.SetsComplete role fits = inr (inr (omega arith, omega arith, λ l. omega arith, (refl, refl, refl)))
freeze_counts turn c w good t lt x hook (FreezeStep.Reopens u code) role fits =
    reopens_count turn w.words (after_event w.words (up_write_next u u.step)) x u code
    (up_write_after u u.step (found_by (up_write_next u u.step).1 (read w.words (up_write_next u u.step).0))).0 fits.0
    (opening_counts turn w.words u fits.0 u.step)
freeze_counts turn c w good t lt x hook (FreezeStep.Releases answer) role fits = inl (refl, refl, refl)
freeze_counts turn c w good t lt x hook other role fits = inr (inr (omega arith, omega arith, λ l. omega arith, (refl, refl, refl)))

thaw_counts : (turn : ℕ) (w : Words) (x : Thaw) (hook : HookAnswer) (s : ThawStep) → ThawFits x.holder s →
    ThawCounts turn w (after_event w (thaw_next x s hook)) x s
    (thaw_after x s (found_by (thaw_next x s hook).1 (read w (thaw_next x s hook).0)) hook).0
thaw_counts turn w x hook ThawStep.Locks fits =
    elim (eqb_tells w.umount 0) [
      | inl h ↦ rw h.0 (inr (inr (omega arith, omega arith, λ l. omega arith, (refl, refl, refl))))
      | inr h ↦ rw h.0 (inr (inr (omega arith, omega arith, λ l. omega arith, (refl, refl, refl))))
    ]
thaw_counts turn w x hook ThawStep.LoadsStage fits =
    elim (eqb_tells w.stage 4) [
      | inl h ↦ rw h.0 (inr (inr (omega arith, omega arith, λ l. omega arith, (refl, refl, refl))))
      | inr h ↦ rw h.0 (inr (inr (omega arith, omega arith, λ l. omega arith, (refl, refl, refl))))
    ]
thaw_counts turn w x hook ThawStep.LoadsHolders fits =
    elim (cases_Bool (held_by (holders_in w.holders) x.holder)) [
      | inl h ↦ elim (cases_Bool (is_unheld (with_holder x.holder false (holders_in w.holders)))) [
        | inl q ↦ rw (h, q) (inr (inr (omega arith, omega arith, λ l. omega arith, (refl, refl, refl))))
        | inr q ↦ rw (h, q) (inr (inr (omega arith, omega arith, λ l. omega arith, (refl, refl, refl))))
      ]
      | inr h ↦ rw h (inr (inr (omega arith, omega arith, λ l. omega arith, (refl, refl, refl))))
    ]
thaw_counts turn w x hook ThawStep.LoadsSuperblock fits =
    elim (eqb_tells w.sb 0) [
      | inl h ↦ rw h.0 (inr (inr (omega arith, omega arith, λ l. omega arith, (refl, refl, refl))))
      | inr h ↦ rw h.0 (inr (inr (omega arith, omega arith, λ l. omega arith, (refl, refl, refl))))
    ]
thaw_counts turn w x (Ok answer) ThawStep.LeavesLast fits = inr (inr (omega arith, omega arith, λ l. omega arith, (refl, refl, refl)))
thaw_counts turn w x (Err code) ThawStep.LeavesLast fits = inl (refl, refl, refl)
thaw_counts turn w x hook (ThawStep.Reopens u) fits =
    thaws_count turn w (after_event w (up_write_next u u.step)) x u
    (up_write_after u u.step (found_by (up_write_next u u.step).1 (read w (up_write_next u u.step).0))).0
    (opening_counts turn w u fits.0 u.step)
thaw_counts turn w x hook (ThawStep.Releases answer) fits = inl (refl, refl, refl)
thaw_counts turn w x hook other fits = inr (inr (omega arith, omega arith, λ l. omega arith, (refl, refl, refl)))

-- a callback
abbrev CallbackCounts : ℕ → Words → Words → Callback → CallbackStep → Next Callback → Type 0
CallbackCounts turn w after b s next =
    CountsBy (λ (y : Callback). callback_left y.tasks y.step) (λ (y : Callback). callback_changes y.step) (λ (y : Callback). 0)
    (λ (y : Callback). callback_tries (after.sync y.level) y.step) (callback_left b.tasks s) (callback_changes s) 0
    (callback_tries (w.sync b.level) s) turn (after.block ≡ w.block) (SameLevels w after) (EndsBy w after (callback_changes s + 0)) next

module _ (turn : ℕ) (w after : Words) (b : Callback) where
  claims_count : (x : Transition) (next : TransitionNext) → UnlessMade (after ≡ w) next → after.block ≡ w.block →
      CallbackCounts turn w after b (CallbackStep.Claims x) (claimed b next)
  claims_count x next same blocks = grind (arith, levels_same)

  ends_count : (x : Transition) (next : TransitionNext) → UnlessMade (after ≡ w) next → after.block ≡ w.block →
      CallbackCounts turn w after b (CallbackStep.CallsBack x) (called_back b next)
  ends_count x next same blocks = grind (arith, levels_same)

  awaits_count : (g : Grace) (next : GraceNext) → SameLevels w after →
      CallbackCounts turn w after b (CallbackStep.AwaitsSections g) (callback_looked b next)
  awaits_count g next same = grind arith

callback_counts : (turn : ℕ) (w : Words) (b : Callback) (s : CallbackStep) →
    CallbackCounts turn w (after_event w (callback_next b s)) b s
    (callback_after b s (found_by (callback_next b s).1 (read w (callback_next b s).0))).0
callback_counts turn w b (CallbackStep.Claims x) =
    claims_count turn w (after_event w (transition_next b.level x)) b x
    (transition_after on_claim x (found_by (transition_next b.level x).1 (read w (transition_next b.level x).0))) (unless_made on_claim w b.level x)
    (transition_blocks w b.level x)
callback_counts turn w b (CallbackStep.AwaitsSections g) =
    awaits_count turn w (after_event w (WordName.Section g.task, Touch.Load)) b g (looked g (w.section g.task))
    (levels_same w _ (load_same w (WordName.Section g.task)))
callback_counts turn w b (CallbackStep.CallsBack x) =
    ends_count turn w (after_event w (transition_next b.level x)) b x
    (transition_after on_callback x (found_by (transition_next b.level x).1 (read w (transition_next b.level x).0))) (unless_made on_callback w b.level x)
    (transition_blocks w b.level x)

-- a start: each step of it is one less, and its last has changed no level's words
abbrev LastIs : {P : Type 0} → Type 0 → Next P → Type 0
LastIs A (Next.Done answer) = A
LastIs A other = Unit {0}

start_last : (w : Words) (r : DownRead) (s : DownReadStep) (found : ℕ) →
    LastIs (SameLevels w (after_event w (down_read_next r s))) (down_read_after r s found).0
start_last w r s found = grind arith

module _ (w after : Words) (same : after.block ≡ w.block) where
  start_same : (y : DownRead) → start_left (after.block y.level) y.wait y.step ≡ start_left (w.block y.level) y.wait y.step
  start_same y = ap (λ f. start_left (f y.level) y.wait y.step) same

  reads_count : (turn : ℕ) (r : DownRead) (next : Next DownRead) →
      FewerLeft (λ (y : DownRead). start_left (w.block y.level) y.wait y.step) (start_left (w.block r.level) r.wait r.step) next →
      LastIs (SameLevels w after) next → CountsChanges turn w after (Phase.DownReads r) (map_next Phase.DownReads next)
  reads_count turn r next h last = grind (arith, start_same)

  takes_count : (turn m p : ℕ) (r : DownRead) (next : Next DownRead) →
      FewerLeft (λ (y : DownRead). start_left (w.block y.level) y.wait y.step) (start_left (w.block r.level) r.wait r.step) next →
      LastIs (SameLevels w after) next → CountsChanges turn w after (Phase.Writes (WritePhase.Takes m r)) (map_next Phase.Writes (then_wants m p next))
  takes_count turn m p r next h last = grind (arith, start_same)

  frees_count : (turn f : ℕ) (node : NodeWord) (p : ℕ) (r : DownRead) (next : Next DownRead) →
      FewerLeft (λ (y : DownRead). start_left (w.block y.level) y.wait y.step) (start_left (w.block r.level) r.wait r.step) next →
      LastIs (SameLevels w after) next →
      CountsChanges turn w after (Phase.Closes (ClosePhase.Enters f node r)) (map_next Phase.Closes (then_frees f node p next))
  frees_count turn f node p r next h last = grind (arith, start_same)

write_counts : (turn : ℕ) (w : Words) (x : WritePhase) → WordIsValid (write_next x).0 (read w (write_next x).0) → must_wait w (Phase.Writes x) ≡ false →
    CountsChanges turn w (after_event w (write_next x)) (Phase.Writes x)
    (map_next Phase.Writes (write_after x (found_by (write_next x).1 (read w (write_next x).0))).0)
write_counts turn w (WritePhase.Takes m r) may free =
    takes_count w (after_event w (down_read_next r r.step)) (read_blocks w r r.step) turn m r.cpu r _ (start_nears w r r.step may free)
    (start_last w r r.step _)
write_counts turn w (WritePhase.Wants x) may free =
    wants turn w (after_event w (want_next x x.step)) x x.mount x.cpu _
    (beside_levels w (want_next x x.step).0 _ (want_words x x.step))
  where
    wants : (turn : ℕ) (w after : Words) (x : Want) (m p : ℕ) (next : Next Want) → SameLevels w after →
        CountsChanges turn w after (Phase.Writes (WritePhase.Wants x)) (map_next Phase.Writes (then_gives_back m p next))
    wants turn w after x m p (Next.Go y) same = inr (inr (omega arith, omega arith, λ lt. omega arith, same))
    wants turn w after x m p (Next.Wait y) same = inr (inr (omega arith, omega arith, λ lt. omega arith, same))
    wants turn w after x m p (Next.Done (Ok reply)) same = inl same
    wants turn w after x m p (Next.Done (Err refusal)) same = inr (inr (omega arith, omega arith, λ lt. omega arith, same))

    want_words : (x : Want) (s : WantStep) → is_of_level (want_next x s).0 ≡ false
    want_words x s = grind arith
write_counts turn w (WritePhase.GivesBack m p refusal) may free = inr (omega arith, refl)
write_counts turn w (WritePhase.Drops m p) may free = inr (inr (omega arith, omega arith, λ lt. omega arith, (refl, refl, refl)))
write_counts turn w (WritePhase.Ends p) may free = inr (omega arith, refl)

pub start_few : (block : ℕ) (wait : Bool) (s : DownReadStep) → start_left block wait s ≤ 7
start_few block wait s = grind arith

close_counts : (turn : ℕ) (w : Words) (x : ClosePhase) → CloseReadIsValid x (read w (close_next x).0) → must_wait w (Phase.Closes x) ≡ false →
    CountsChanges turn w (after_event w (close_next x)) (Phase.Closes x)
    (map_next Phase.Closes (close_after x (found_by (close_next x).1 (read w (close_next x).0))).0)
close_counts turn w (ClosePhase.Enters f node r) may free =
    frees_count w (after_event w (down_read_next r r.step)) (read_blocks w r r.step) turn f node r.cpu r _ (start_nears w r r.step may free)
    (start_last w r r.step _)
close_counts turn w (ClosePhase.LoadsFile x) may free =
    aside Phase.Closes turn w (after_event w (close_next (ClosePhase.LoadsFile x))) (Phase.Closes (ClosePhase.LoadsFile x)) _ (λ y. (omega arith, few (after_event w (close_next (ClosePhase.LoadsFile x))) y, omega arith)) (refl, refl, refl)
  where
    few : (after : Words) (y : ClosePhase) → start_steps after (Phase.Closes y) ≤ 7
    few after (ClosePhase.Enters f node r) = start_few (after.block r.level) r.wait r.step
    few after y = omega arith
close_counts turn w (ClosePhase.LowersCount x node) may free =
    elim (eqb_tells (w.node x.file) (word_of node)) [ inl h ↦ rw h.0 (inl (refl, refl, refl)) | inr h ↦ rw h.0 (inl (refl, refl, refl)) ]
close_counts turn w (ClosePhase.FreesNode f p node) may free =
    elim (eqb_tells (w.node f) (word_of node)) [
      | inl h ↦ rw h.0 (inr (inr (omega arith, omega arith, λ lt. omega arith, (refl, refl, refl))))
      | inr h ↦ rw h.0 (inr (inr (omega arith, omega arith, λ lt. omega arith, (refl, refl, refl))))
    ]
close_counts turn w (ClosePhase.RefundsBlocks p blocks) may free = inr (inr (omega arith, omega arith, λ lt. omega arith, (refl, refl, refl)))
close_counts turn w (ClosePhase.Uncounts p) may free = inr (inr (omega arith, omega arith, λ lt. omega arith, (refl, refl, refl)))
close_counts turn w (ClosePhase.Leaves p) may free = inr (omega arith, refl)

-- into the phases of all layers
phase_counts : {A : Type 0} (to : A → Phase) (turn : ℕ) (w after : Words) (p : Phase) (next : Next A) →
    CountsBy (λ x. steps_left (to x)) (λ x. changes_left turn (to x)) (λ x. start_steps after (to x)) (λ x. tries_left after (to x))
    (steps_left p) (changes_left turn p) (start_steps w p) (tries_left w p) turn (after.block ≡ w.block) (SameLevels w after)
    (EndsBy w after (changes_left turn p + start_steps w p)) next →
    CountsChanges turn w after p (map_next to next)
phase_counts to turn w after p next h = grind arith

pub changes_count : (turn : ℕ) (c : Config) → IsWithin c → (w : World) → IsGood c w → (t : ℕ) → t < c.tasks → (hook : HookAnswer) (phase : Phase) →
    (w.views t).phase ≡ Some phase → waits_on w.words phase hook ≡ false →
    CountsChanges turn w.words (words_after w.words phase hook) phase (after_of phase (found_at w.words phase hook) hook).0
changes_count turn c lim w good t lt hook (Phase.Mounts x) at free =
    aside Phase.Mounts turn w.words (words_after w.words (Phase.Mounts x) hook) (Phase.Mounts x) _ (λ y. (omega arith, omega arith, omega arith))
    (beside_levels w.words (mount_next x hook).0 _ (mount_words x hook))
changes_count turn c lim w good t lt hook (Phase.Remounts x) at free =
    aside Phase.Remounts turn w.words (words_after w.words (Phase.Remounts x) hook) (Phase.Remounts x) _ (λ y. (omega arith, omega arith, omega arith))
    (beside_levels w.words (remount_next x x.step hook).0 _ (remount_words x x.step hook))
changes_count turn c lim w good t lt hook (Phase.Trees x) at free =
    aside Phase.Trees turn w.words (words_after w.words (Phase.Trees x) hook) (Phase.Trees x) _ (λ y. (omega arith, omega arith, omega arith))
    (beside_levels w.words (tree_next x hook).0 _ (tree_words x hook))
changes_count turn c lim w good t lt hook (Phase.DownReads r) at free =
    reads_count w.words (words_after w.words (Phase.DownReads r) hook) (read_blocks w.words r r.step) turn r
    (down_read_after r r.step (found_at w.words (Phase.DownReads r) hook)).0
    (start_nears w.words r r.step (events_may_be c lim w good t lt (Phase.DownReads r) hook at) free)
    (start_last w.words r r.step (found_at w.words (Phase.DownReads r) hook))
changes_count turn c lim w good t lt hook (Phase.UpReads u) at free = inr (omega arith, refl)
changes_count turn c lim w good t lt hook (Phase.Callbacks b) at free =
    phase_counts Phase.Callbacks turn w.words (words_after w.words (Phase.Callbacks b) hook) (Phase.Callbacks b) _ (callback_counts turn w.words b b.step)
changes_count turn c lim w good t lt hook (Phase.Writes x) at free =
    write_counts turn w.words x (events_may_be c lim w good t lt (Phase.Writes x) hook at) free
changes_count turn c lim w good t lt hook (Phase.Closes x) at free =
    close_counts turn w.words x (events_may_be c lim w good t lt (Phase.Closes x) hook at) free
changes_count turn c lim w good t lt hook (Phase.Freezes x) at free =
    let f : PhaseFits c t (held_of (w.views t)) (Phase.Freezes x) = subst (Fits c t (held_of (w.views t))) at (good Fitting t lt) in
    phase_counts Phase.Freezes turn w.words (words_after w.words (Phase.Freezes x) hook) (Phase.Freezes x) _
    (freeze_counts turn c w good t lt x hook x.step (λ i. ap (sync_role_of i) at) f.5)
changes_count turn c lim w good t lt hook (Phase.Thaws x) at free =
    let f : PhaseFits c t (held_of (w.views t)) (Phase.Thaws x) = subst (Fits c t (held_of (w.views t))) at (good Fitting t lt) in
    phase_counts Phase.Thaws turn w.words (words_after w.words (Phase.Thaws x) hook) (Phase.Thaws x) _ (thaw_counts turn w.words x hook x.step f.2)

-- a step that has to wait leaves as many changes
abbrev pub KeepsBy : {P : Type 0} → (P → ℕ) → ℕ → Next P → Type 0
KeepsBy changes k (Next.Go q) = changes q ≡ k
KeepsBy changes k (Next.Wait q) = changes q ≡ k
KeepsBy changes k (Next.Done answer) = Unit {0}

keeps_in : {A : Type 0} (to : A → Phase) (turn k : ℕ) (next : Next A) → KeepsBy (λ y. changes_left turn (to y)) k next →
    KeepsBy (changes_left turn) k (map_next to next)
keeps_in to turn k next h = grind arith

keeps_all : {P : Type 0} (changes : P → ℕ) (k : ℕ) → ((y : P) → changes y ≡ k) → (next : Next P) → KeepsBy changes k next
keeps_all changes k h next = grind arith

looks_keep : (turn : ℕ) (x : Freeze) (d : DownWrite) (next : GraceNext) →
    KeepsBy (λ (y : Freeze). freeze_changes turn y.step) (turn + 1 + closed_changes turn d.level) (after_closing x d.level (sections_awaited d next))
looks_keep turn x d next = grind arith

sums_keep : (turn : ℕ) (x : Freeze) (d : DownWrite) (taken : Taken) →
    KeepsBy (λ (y : Freeze). freeze_changes turn y.step) (0 + closed_changes turn d.level) (after_closing x d.level (down_write_summed d taken).0)
sums_keep turn x d taken = grind (arith, closed_counts)

closing_keeps : (turn : ℕ) (w : Words) (x : Freeze) (d : DownWrite) (s : DownWriteStep) → closing_waits w d s ≡ true → (found : ℕ) →
    KeepsBy (λ (y : Freeze). freeze_changes turn y.step) (closing_changes turn s + closed_changes turn d.level)
    (after_closing x d.level (down_write_after d s found).0)
closing_keeps turn w x d s waits found = grind (arith, looks_keep, sums_keep)

freeze_keeps : (turn : ℕ) (w : Words) (x : Freeze) (s : FreezeStep) (hook : HookAnswer) → freeze_waits_on w s hook ≡ true → (found : ℕ) →
    KeepsBy (λ (y : Freeze). freeze_changes turn y.step) (freeze_changes turn s) (freeze_after x s found hook).0
freeze_keeps turn w x FreezeStep.Locks hook waits found = elim (eqb_tells found 0) [ inl h ↦ rw h.0 refl | inr h ↦ rw h.0 refl ]
freeze_keeps turn w x (FreezeStep.Closes d) hook waits found = closing_keeps turn w x d d.step waits found
freeze_keeps turn w x (FreezeStep.Waits d) (Ok answer) waits found = closing_keeps turn w x d d.step waits found
freeze_keeps turn w x (FreezeStep.Waits d) (Err code) waits found = absurd (true≢false (sym waits))
freeze_keeps turn w x (FreezeStep.LocksToUndo code) hook waits found = elim (eqb_tells found 0) [ inl h ↦ rw h.0 (omega arith) | inr h ↦ rw h.0 refl ]
freeze_keeps turn w x FreezeStep.LocksAgain hook waits found = elim (eqb_tells found 0) [ inl h ↦ rw h.0 refl | inr h ↦ rw h.0 refl ]
freeze_keeps turn w x s hook waits found = absurd (true≢false (sym waits))

thaw_keeps : (turn : ℕ) (w : Words) (x : Thaw) (s : ThawStep) (hook : HookAnswer) → thaw_waits w s ≡ true → (found : ℕ) →
    KeepsBy (λ (y : Thaw). thaw_changes turn y.step) (thaw_changes turn s) (thaw_after x s found hook).0
thaw_keeps turn w x ThawStep.Locks hook waits found = elim (eqb_tells found 0) [ inl h ↦ rw h.0 refl | inr h ↦ rw h.0 refl ]
thaw_keeps turn w x s hook waits found = absurd (true≢false (sym waits))

looked_keeps : (b : Callback) (next : GraceNext) → KeepsBy (λ (y : Callback). callback_changes y.step) 1 (callback_looked b next)
looked_keeps b next = grind arith

callback_keeps : (w : Words) (b : Callback) (s : CallbackStep) → callback_waits w s ≡ true → (found : ℕ) →
    KeepsBy (λ (y : Callback). callback_changes y.step) (callback_changes s) (callback_after b s found).0
callback_keeps w b (CallbackStep.AwaitsSections g) waits found = looked_keeps b (looked g found)
callback_keeps w b s waits found = absurd (true≢false (sym waits))

pub waits_keep : (turn : ℕ) (w : Words) (hook : HookAnswer) (phase : Phase) → waits_on w phase hook ≡ true → (found : ℕ) →
    KeepsBy (changes_left turn) (changes_left turn phase) (after_of phase found hook).0
waits_keep turn w hook (Phase.Mounts x) waits found = keeps_in Phase.Mounts turn 0 _ (keeps_all _ 0 (λ y. refl) _)
waits_keep turn w hook (Phase.Remounts x) waits found = keeps_in Phase.Remounts turn 0 _ (keeps_all _ 0 (λ y. refl) _)
waits_keep turn w hook (Phase.Trees x) waits found = keeps_in Phase.Trees turn 0 _ (keeps_all _ 0 (λ y. refl) _)
waits_keep turn w hook (Phase.DownReads r) waits found = keeps_in Phase.DownReads turn 0 _ (keeps_all _ 0 (λ y. refl) _)
waits_keep turn w hook (Phase.UpReads u) waits found = tt
waits_keep turn w hook (Phase.Callbacks b) waits found = keeps_in Phase.Callbacks turn _ _ (callback_keeps w b b.step waits found)
waits_keep turn w hook (Phase.Writes x) waits found = keeps_in Phase.Writes turn 1 _ (keeps_all _ 1 (λ y. refl) _)
waits_keep turn w hook (Phase.Freezes x) waits found = keeps_in Phase.Freezes turn _ _ (freeze_keeps turn w x x.step hook waits found)
waits_keep turn w hook (Phase.Thaws x) waits found = keeps_in Phase.Thaws turn _ _ (thaw_keeps turn w x x.step hook waits found)
waits_keep turn w hook (Phase.Closes x) waits found = keeps_in Phase.Closes turn 1 _ (keeps_all _ 1 (λ y. refl) _)

-- no operation has more changes, with the steps of a start, than a freeze
closing_few : (turn : ℕ) (s : DownWriteStep) → closing_changes turn s ≤ turn + 2
closing_few turn s = grind arith

closed_few : (turn level : ℕ) → closed_changes turn level ≤ 5 * turn + 7
closed_few turn level =
    elim (cases_Bool (level == 1)) [
      | inl h ↦ rw h (omega arith)
      | inr h ↦ elim (cases_Bool (level == 2)) [ inl q ↦ rw (h, q) (omega arith) | inr q ↦ rw (h, q) (omega arith) ]
    ]

opening_few : (turn level : ℕ) (s : UpWriteStep) → 1 ≤ level → level ≤ 3 → opening_changes turn level s ≤ 3 * turn + 3
opening_few turn level UpWriteStep.ClearsBlock one three = omega (arith, mul_le level 3 (turn + 1) three)
opening_few turn level (UpWriteStep.Exits x) one three = omega (arith, level_more level (turn + 1) one, mul_le level 3 (turn + 1) three)

freeze_few : (turn : ℕ) (c : Config) (x : Freeze) (s : FreezeStep) → FreezeFits c x.holder s → freeze_changes turn s ≤ 6 * turn + 9
freeze_few turn c x s f = grind (arith, closing_few, closed_few, gives_up_changes, opening_few)

pub thaw_few : (turn : ℕ) (x : Thaw) (s : ThawStep) → ThawFits x.holder s → thaw_changes turn s ≤ 3 * turn + 3
thaw_few turn x (ThawStep.Reopens u) f = omega (arith, opening_few turn u.level u.step f.0 f.1)
thaw_few turn x s f = omega arith

callback_few : (s : CallbackStep) → callback_changes s ≤ 2
callback_few s = grind arith

pub changes_small : (turn : ℕ) (c : Config) (w : Words) (t : ℕ) (held : Holdings) (phase : Phase) → PhaseFits c t held phase →
    changes_left turn phase + start_steps w phase ≤ 6 * turn + 9
changes_small turn c w t held phase f = grind (arith, freeze_few, thaw_few, callback_few, start_few)
