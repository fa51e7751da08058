-- Calls at a mount, at a level and at the tree, remounts, write accesses, closes and callbacks: each step that doesn't wait comes nearer.
use Rattle.progress_laws.proofs.Prelude.{Bool, Callback, CallbackStep, ChangeStep, ClosePhase, Config, DownRead, DownReadStep, Grace, GraceNext}
use Rattle.progress_laws.proofs.Prelude.{HookAnswer, IsGood, MountPhase, Next, None, Phase, PhaseFits, RemountStep, SnapshotStep, SyncAt, SyncHoldsIn}
use Rattle.progress_laws.proofs.Prelude.{Transition, TransitionNext, TreePhase, Want, WantStep, WordName, Words, World, WritePhase, after_event, ap}
use Rattle.progress_laws.proofs.Prelude.{arith, callback_after, callback_next, callback_waits, common_steps, down_read_after, down_read_next, eq-eqb}
use Rattle.progress_laws.proofs.Prelude.{exchange_rank, false, found_at, found_by, held_of, inl, is_frozen_whole, is_outside, load_same, looked}
use Rattle.progress_laws.proofs.Prelude.{map_next, must_wait, read, refl, start_steps, steps_left, subst, sym, sync_role_of, transition_after}
use Rattle.progress_laws.proofs.Prelude.{tries_left, true, true≢false, update_at, words_after, ℕ, ◌*◌, ◌+◌, ◌<◌, ◌==◌, ◌∙◌, ◌≡◌, ◌≤◌}
use Rattle.std.proofs.lemmas.Bool.{and_parts}
use Rattle.composite_ops.specs.file_closes.Phases.{after as close_after, next as close_next, then_frees}
use Rattle.composite_ops.specs.write_access.Phases.{after as write_after, next as write_next, then_gives_back, then_wants}
use Rattle.{cpu_words.specs.Touches.left, freeze_laws.specs.levels.{Operations.callback_role, Roles.claimed as has_claimed}}
use Rattle.gate_schedules.proofs.{frames.ValidWords.events_may_be, levels.Facts.{ExchangeFalls, callback_called, defined_falls, exchange_falls}}
use Rattle.gate_schedules.proofs.{mounts.Progress.change_ends, operations.{calls.Progress.tree_ends, remount.Progress.remount_ends}}
use Rattle.gate_schedules.specs.operations.Ranks.{rank, remount_rank}
use Rattle.gate_schedules.specs.operations.Unblocked.{ChangeIsUnblocked, IsUnblocked, RemountIsUnblocked, TreeIsUnblocked}
use Rattle.gate_world.specs.{Fits.{Fits, GraceFits}, Roles.sync_role_if, Rules.Fitting, traces.TraceStates.{CloseReadIsValid, WordIsValid}}
use Rattle.gated_tree.specs.{Phases.{after as tree_after, next as tree_next, snapshot_after, snapshot_next}, Ranks.{snapshot_rank, tree_rank}}
use Rattle.gated_tree.specs.declared.snapshots.Snapshot.{Snapshot}
use Rattle.mount_counts.specs.{Phases.{change_after, change_next, want_after, want_next}, Ranks.{change_rank, want_rank}}
use Rattle.mount_counts.specs.{Remounts.{remount_after, remount_next}, declared.{phases.Change.Change, remounts.Remount.Remount}}
use Rattle.node_words.specs.declared.nodes.NodeWord.{NodeWord}
use Rattle.percpu_rwsem.specs.{Callbacks.{callback_looked, called_back, claimed}, SyncWords.{on_callback, on_claim}, Transitions.transition_next}
use Rattle.percpu_rwsem.specs.declared.readers.UpRead.{UpRead}
use Rattle.progress_laws.proofs.nearer.Levels.{IfMore, LookNears, LookStays, look_nears, look_stays, more_same, start_nears}
use Rattle.progress_laws.proofs.nearer.Nearer.{FewerLeft, NearsBy, NearsPhase, StaysBy, phase_falls, phase_fewer, phase_nears, phase_stays}
use Rattle.progress_laws.specs.StepsLeft.{callback_left, callback_tries, close_left, grace_left, start_left, write_left}
use Rattle.progress_laws.specs.Waiting.{change_waits, grace_waits, lock_taken, remount_waits, snapshot_waits, tree_waits, want_waits}

-- a lock that is taken is found so, and left so
pub lock_found : (w : Words) → lock_taken w ≡ true → (w.umount == 0) ≡ false
lock_found w h = grind arith

pub lock_free : (w : Words) → lock_taken w ≡ false → (w.umount == 0) ≡ true
lock_free w h = grind arith

-- a want
want_nears : (w : Words) (x : Want) (s : WantStep) → want_waits w x s ≡ false →
    FewerLeft (λ (y : Want). want_rank y.step) (want_rank s) (want_after x s (found_by (want_next x s).1 (read w (want_next x s).0))).0
want_nears w x s free = grind arith

want_stays : (w : Words) (x : Want) (s : WantStep) → want_waits w x s ≡ true →
    StaysBy (λ (y : Want). want_waits w y y.step ≡ true) (λ (y : Want). want_rank y.step) (λ (y : Want). 0) (λ (y : Want). 0) (want_rank s) 0 0
    (want_after x s (found_by (want_next x s).1 (read w (want_next x s).0))).0
want_stays w x s waits = grind arith

want_loads : (w : Words) (x : Want) (s : WantStep) → want_waits w x s ≡ true → after_event w (want_next x s) ≡ w
want_loads w x WantStep.LoadsHold waits = load_same w (WordName.MountFlags x.mount)
want_loads w x s waits = absurd (true≢false (sym waits))

-- a change
change_free : (w : Words) (s : ChangeStep) (wait : Bool) → change_waits w wait s ≡ false → ChangeIsUnblocked w s wait
change_free w s wait h = grind arith

change_stays : (w : Words) (x : Change) (s : ChangeStep) → change_waits w x.wait s ≡ true →
    (after_event w (change_next x s) ≡ w) ×
    StaysBy (λ (y : Change). change_waits w y.wait y.step ≡ true) (λ (y : Change). change_rank y.processors y.step) (λ (y : Change). 0)
    (λ (y : Change). 0) (change_rank x.processors s) 0 0 (change_after x s (found_by (change_next x s).1 (read w (change_next x s).0))).0
change_stays w x s waits = grind (arith, and_parts, lock_found, load_same)

-- a remount
remount_free : (w : Words) (s : RemountStep) → remount_waits w s ≡ false → RemountIsUnblocked w s
remount_free w s h = grind arith

remount_stays : (w : Words) (x : Remount) (s : RemountStep) (hook : HookAnswer) → remount_waits w s ≡ true →
    (after_event w (remount_next x s hook) ≡ w) ×
    StaysBy (λ (y : Remount). remount_waits w y.step ≡ true) (λ (y : Remount). remount_rank y.processors y.mounts y.nodes y.step) (λ (y : Remount). 0)
    (λ (y : Remount). 0) (remount_rank x.processors x.mounts x.nodes s) 0 0
    (remount_after x s (found_by (remount_next x s hook).1 (read w (remount_next x s hook).0)) hook).0
remount_stays w x s hook waits = grind (arith, lock_found, load_same)

-- a snapshot, and another call at the tree
tree_free : (w : Words) (x : TreePhase) → tree_waits w x ≡ false → TreeIsUnblocked w x
tree_free w x h = grind arith

snapshot_stays : (w : Words) (x : Snapshot) (s : SnapshotStep) → snapshot_waits w x.wait s ≡ true →
    (after_event w (snapshot_next x s) ≡ w) ×
    StaysBy (λ (y : Snapshot). snapshot_waits w y.wait y.step ≡ true) (λ (y : Snapshot). snapshot_rank y.nodes y.step) (λ (y : Snapshot). 0)
    (λ (y : Snapshot). 0) (snapshot_rank x.nodes s) 0 0 (snapshot_after x s (found_by (snapshot_next x s).1 (read w (snapshot_next x s).0))).0
snapshot_stays w x s waits = grind (arith, and_parts, lock_found, load_same)

-- a start inside a write access or a close
abbrev StartNears : Words → DownRead → ℕ → Next DownRead → Type 0
StartNears w r n next = FewerLeft (λ (y : DownRead). start_left (w.block y.level) y.wait y.step) n next

module _ (w after : Words) where
  abbrev WriteNears : ℕ → ℕ → Next WritePhase → Type 0
  WriteNears a b next =
      NearsBy write_left (λ (y : WritePhase). start_steps after (Phase.Writes y)) (λ (y : WritePhase). 0) a b 0 (after.block ≡ w.block) (after ≡ w) next

  wants_near_any : (m cpu a : ℕ) (next : Next Want) → FewerLeft (λ (y : Want). want_rank y.step) a next →
      WriteNears (a + 1) 0 (then_gives_back m cpu next)
  wants_near_any m cpu a next h = grind arith

  abbrev CloseNears : ℕ → ℕ → Next ClosePhase → Type 0
  CloseNears a b next =
      NearsBy close_left (λ (y : ClosePhase). start_steps after (Phase.Closes y)) (λ (y : ClosePhase). 0) a b 0 (after.block ≡ w.block) (after ≡ w) next

  close_fewer : (a b : ℕ) (next : Next ClosePhase) → FewerLeft close_left a next → CloseNears a b next
  close_fewer a b next h = grind arith

module _ (w after : Words) (same : after.block ≡ w.block) where
  read_near : (r : DownRead) (n : ℕ) (next : Next DownRead) → StartNears w r n next →
      NearsBy (λ (y : DownRead). 0) (λ (y : DownRead). start_left (after.block y.level) y.wait y.step) (λ (y : DownRead). 0) 0 n 0
      (after.block ≡ w.block) (after ≡ w) next
  read_near r n next h = grind arith

  takes_near : (m cpu : ℕ) (r : DownRead) (n : ℕ) (next : Next DownRead) → StartNears w r n next → WriteNears w after 8 n (then_wants m cpu next)
  takes_near m cpu r n next h = grind arith

  frees_near : (f : ℕ) (node : NodeWord) (cpu : ℕ) (r : DownRead) (n : ℕ) (next : Next DownRead) → StartNears w r n next →
      CloseNears w after 4 n (then_frees f node cpu next)
  frees_near f node cpu r n next h = grind arith

-- a down-read leaves each `block`
pub read_blocks : (w : Words) (r : DownRead) (s : DownReadStep) → (after_event w (down_read_next r s)).block ≡ w.block
read_blocks w r s = grind arith

write_nears : (w : Words) (x : WritePhase) → WordIsValid (write_next x).0 (read w (write_next x).0) → must_wait w (Phase.Writes x) ≡ false →
    WriteNears w (after_event w (write_next x)) (write_left x) (start_steps w (Phase.Writes x))
    (write_after x (found_by (write_next x).1 (read w (write_next x).0))).0
write_nears w (WritePhase.Takes m r) may free =
    takes_near w (after_event w (down_read_next r r.step)) (read_blocks w r r.step) m r.cpu r (start_left (w.block r.level) r.wait r.step) _
    (start_nears w r r.step may free)
write_nears w (WritePhase.Wants x) may free =
    wants_near_any w (after_event w (want_next x x.step)) x.mount x.cpu (want_rank x.step) _ (want_nears w x x.step free)
write_nears w (WritePhase.GivesBack m p refusal) may free = tt
write_nears w (WritePhase.Drops m p) may free = inl (omega arith)
write_nears w (WritePhase.Ends p) may free = tt

-- a close outside its start
abbrev is_entering : ClosePhase → Bool
is_entering (ClosePhase.Enters f node r) = true
is_entering x = false

close_lowers : (w : Words) (x : ClosePhase) → is_entering x ≡ false → CloseReadIsValid x (read w (close_next x).0) →
    FewerLeft close_left (close_left x) (close_after x (found_by (close_next x).1 (read w (close_next x).0))).0
close_lowers w x out may = grind (arith, common_steps)

close_nears : (w : Words) (x : ClosePhase) → CloseReadIsValid x (read w (close_next x).0) → must_wait w (Phase.Closes x) ≡ false →
    CloseNears w (after_event w (close_next x)) (close_left x) (start_steps w (Phase.Closes x))
    (close_after x (found_by (close_next x).1 (read w (close_next x).0))).0
close_nears w (ClosePhase.Enters f node r) may free =
    frees_near w (after_event w (down_read_next r r.step)) (read_blocks w r r.step) f node r.cpu r (start_left (w.block r.level) r.wait r.step) _
    (start_nears w r r.step may free)
close_nears w (ClosePhase.LoadsFile x) may free = close_fewer w _ 5 7 _ (close_lowers w (ClosePhase.LoadsFile x) refl may)
close_nears w (ClosePhase.LowersCount x node) may free = close_fewer w _ 0 0 _ (close_lowers w (ClosePhase.LowersCount x node) refl may)
close_nears w (ClosePhase.FreesNode f p node) may free = close_fewer w _ 3 0 _ (close_lowers w (ClosePhase.FreesNode f p node) refl may)
close_nears w (ClosePhase.RefundsBlocks p blocks) may free = inl (omega arith)
close_nears w (ClosePhase.Uncounts p) may free = inl (omega arith)
close_nears w (ClosePhase.Leaves p) may free = tt

-- a callback
abbrev CallbackNears : Words → Words → Callback → ℕ → ℕ → Next Callback → Type 0
CallbackNears w after b a n next =
    NearsBy (λ (y : Callback). callback_left y.tasks y.step) (λ (y : Callback). 0) (λ (y : Callback). callback_tries (after.sync y.level) y.step)
    a 0 n (after.block ≡ w.block) (after ≡ w) next

module _ (w after : Words) (b : Callback) where
  claims_near : (n : ℕ) (undefined : Type 0) (next : TransitionNext) → ExchangeFalls (after.sync b.level) n undefined next →
      IfMore (after ≡ w) next → CallbackNears w after b (2 * b.tasks + 3) n (claimed b next)
  claims_near n undefined next h same = grind arith

  calls_near : (n : ℕ) (next : TransitionNext) → ExchangeFalls (after.sync b.level) n ⊥ next →
      IfMore (after ≡ w) next → CallbackNears w after b 0 n (called_back b next)
  calls_near n next h same = grind arith

  waits_near : (a n : ℕ) (next : GraceNext) → LookNears a next → CallbackNears w after b (a + 1) n (callback_looked b next)
  waits_near a n next h = grind arith

abbrev CallbackStays : Words → Callback → CallbackStep → Next Callback → Type 0
CallbackStays w b s next =
    StaysBy (λ (y : Callback). callback_waits w y.step ≡ true) (λ (y : Callback). callback_left y.tasks y.step) (λ (y : Callback). 0)
    (λ (y : Callback). callback_tries (w.sync y.level) y.step) (callback_left b.tasks s) 0 (callback_tries (w.sync b.level) s) next

looks_stay : (w : Words) (b : Callback) (g : Grace) (next : GraceNext) → grace_waits w g ≡ true → LookStays g next →
    CallbackStays w b (CallbackStep.AwaitsSections g) (callback_looked b next)
looks_stay w b g next waits is = grind arith

callback_stays : (w : Words) (b : Callback) (s : CallbackStep) → callback_waits w s ≡ true →
    (after_event w (callback_next b s) ≡ w) ×
    CallbackStays w b s (callback_after b s (found_by (callback_next b s).1 (read w (callback_next b s).0))).0
callback_stays w b s waits = grind (arith, load_same, looks_stay, look_stays)

module _ (c : Config) (w : World) (good : IsGood c w) (t : ℕ) (lt : t < c.tasks) (b : Callback) (one : 1 ≤ b.level) (three : b.level ≤ 3) where
  claim_by : (x : Transition) (sync : ℕ → ℕ) → sync b.level ≡ left (transition_next b.level x).1 (w.words.sync b.level) →
      ExchangeFalls (sync b.level) (exchange_rank (w.words.sync b.level) x) (on_claim (good (SyncAt b.level) one three).word ≡ None)
      (transition_after on_claim x (found_by (transition_next b.level x).1 (w.words.sync b.level)))
  claim_by x sync is =
      let s : SyncHoldsIn c w b.level = good (SyncAt b.level) one three in
      exchange_falls on_claim (w.words.sync b.level) (sync b.level) b.level s.word s.packed x is

  call_by : has_claimed (sync_role_of b.level (w.views t).phase) ≡ 1 → (x : Transition) (sync : ℕ → ℕ) →
      sync b.level ≡ left (transition_next b.level x).1 (w.words.sync b.level) →
      ExchangeFalls (sync b.level) (exchange_rank (w.words.sync b.level) x) ⊥
      (transition_after on_callback x (found_by (transition_next b.level x).1 (w.words.sync b.level)))
  call_by here x sync is =
      let s : SyncHoldsIn c w b.level = good (SyncAt b.level) one three in
      defined_falls (sync b.level) (exchange_rank (w.words.sync b.level) x) (on_callback s.word ≡ None)
      (callback_called c.tasks s.word (w.words.block b.level) (is_frozen_whole w.words) w.words.section
      (λ u. sync_role_of b.level (w.views u).phase) s.holds t lt here)
      (transition_after on_callback x (found_by (transition_next b.level x).1 (w.words.sync b.level)))
      (exchange_falls on_callback (w.words.sync b.level) (sync b.level) b.level s.word s.packed x is)

  callback_nears : (s : CallbackStep) → sync_role_of b.level (w.views t).phase ≡ callback_role s → GraceFits c.tasks s →
      callback_waits w.words s ≡ false →
      CallbackNears w.words (after_event w.words (callback_next b s)) b (callback_left b.tasks s) (callback_tries (w.words.sync b.level) s)
      (callback_after b s (found_by (callback_next b s).1 (read w.words (callback_next b s).0))).0
  callback_nears (CallbackStep.Claims Transition.Loads) role fits free =
      let after : Words = after_event w.words (callback_next b (CallbackStep.Claims Transition.Loads)) in
      claims_near w.words after b 1 _ (transition_after on_claim Transition.Loads (w.words.sync b.level))
      (claim_by Transition.Loads after.sync (update_at w.words.sync b.level (w.words.sync b.level)))
      (more_same on_claim w.words b.level Transition.Loads)
  callback_nears (CallbackStep.Claims (Transition.Exchanges from to)) role fits free =
      let after : Words = after_event w.words (callback_next b (CallbackStep.Claims (Transition.Exchanges from to))) in
      claims_near w.words after b (exchange_rank (w.words.sync b.level) (Transition.Exchanges from to)) _
      (transition_after on_claim (Transition.Exchanges from to) (w.words.sync b.level))
      (claim_by (Transition.Exchanges from to) after.sync
      (update_at w.words.sync b.level (left (transition_next b.level (Transition.Exchanges from to)).1 (w.words.sync b.level))))
      (more_same on_claim w.words b.level (Transition.Exchanges from to))
  callback_nears (CallbackStep.AwaitsSections g) role fits free =
      waits_near w.words (after_event w.words (callback_next b (CallbackStep.AwaitsSections g))) b (grace_left g) 1
      (looked g (w.words.section g.task))
      (look_nears g (w.words.section g.task) (omega (arith, fits.0, fits.1)) free)
  callback_nears (CallbackStep.CallsBack Transition.Loads) role fits free =
      let after : Words = after_event w.words (callback_next b (CallbackStep.CallsBack Transition.Loads)) in
      calls_near w.words after b 1 (transition_after on_callback Transition.Loads (w.words.sync b.level))
      (call_by (ap has_claimed role) Transition.Loads after.sync (update_at w.words.sync b.level (w.words.sync b.level)))
      (more_same on_callback w.words b.level Transition.Loads)
  callback_nears (CallbackStep.CallsBack (Transition.Exchanges from to)) role fits free =
      let after : Words = after_event w.words (callback_next b (CallbackStep.CallsBack (Transition.Exchanges from to))) in
      calls_near w.words after b (exchange_rank (w.words.sync b.level) (Transition.Exchanges from to))
      (transition_after on_callback (Transition.Exchanges from to) (w.words.sync b.level))
      (call_by (ap has_claimed role) (Transition.Exchanges from to) after.sync
      (update_at w.words.sync b.level (left (transition_next b.level (Transition.Exchanges from to)).1 (w.words.sync b.level))))
      (more_same on_callback w.words b.level (Transition.Exchanges from to))

-- each phase
want_phase : (c : Config) (x : Want) → NearsPhase c (Phase.Mounts (MountPhase.Want x))
want_phase c x = record {
  nears = λ lim w good t lt hook at free.
      phase_fewer Phase.Mounts w.words (words_after w.words (Phase.Mounts (MountPhase.Want x)) hook) (want_rank x.step) 0 0
      (map_next MountPhase.Want (want_after x x.step (found_at w.words (Phase.Mounts (MountPhase.Want x)) hook)).0)
      (wants (want_rank x.step) (want_after x x.step (found_at w.words (Phase.Mounts (MountPhase.Want x)) hook)).0 (want_nears w.words x x.step free));
  stays = λ lim w good t lt hook at waits out. (
    want_loads w.words x x.step waits,
    phase_stays Phase.Mounts w.words (want_rank x.step) 0 0
        (map_next MountPhase.Want (want_after x x.step (found_at w.words (Phase.Mounts (MountPhase.Want x)) hook)).0)
        (waiting w.words (want_rank x.step) (want_after x x.step (found_at w.words (Phase.Mounts (MountPhase.Want x)) hook)).0
        (want_stays w.words x x.step waits)),
  );
}
  where
    wants : (a : ℕ) (next : Next Want) → FewerLeft (λ (y : Want). want_rank y.step) a next →
        FewerLeft (λ (y : MountPhase). steps_left (Phase.Mounts y)) a (map_next MountPhase.Want next)
    wants a (Next.Go q) h = h
    wants a (Next.Wait q) h = h
    wants a (Next.Done answer) h = tt

    waiting : (w : Words) (a : ℕ) (next : Next Want) →
        StaysBy (λ (y : Want). want_waits w y y.step ≡ true) (λ (y : Want). want_rank y.step) (λ (y : Want). 0) (λ (y : Want). 0) a 0 0 next →
        StaysBy (λ (y : MountPhase). must_wait w (Phase.Mounts y) ≡ true) (λ (y : MountPhase). steps_left (Phase.Mounts y))
        (λ (y : MountPhase). start_steps w (Phase.Mounts y)) (λ (y : MountPhase). tries_left w (Phase.Mounts y)) a 0 0 (map_next MountPhase.Want next)
    waiting w a next h = grind arith

change_phase : (c : Config) (x : Change) → NearsPhase c (Phase.Mounts (MountPhase.Change x))
change_phase c x = record {
  nears = λ lim w good t lt hook at free.
      let after : Words = words_after w.words (Phase.Mounts (MountPhase.Change x)) hook in
      phase_falls Phase.Mounts w.words after (rank after) (IsUnblocked c after) (change_rank x.processors x.step) 0 0
      (map_next MountPhase.Change (change_after x x.step (found_at w.words (Phase.Mounts (MountPhase.Change x)) hook)).0) (λ y. refl)
      ((change_ends c x).falls lim w good t lt hook at (change_free w.words x.step x.wait free));
  stays = λ lim w good t lt hook at waits out.
      let h = change_stays w.words x x.step waits in (
        h.0,
        phase_stays Phase.Mounts w.words (change_rank x.processors x.step) 0 0
            (map_next MountPhase.Change (change_after x x.step (found_at w.words (Phase.Mounts (MountPhase.Change x)) hook)).0)
            (waiting w.words (change_rank x.processors x.step) (change_after x x.step (found_at w.words (Phase.Mounts (MountPhase.Change x)) hook)).0 h.1),
      );
}
  where
    waiting : (w : Words) (a : ℕ) (next : Next Change) →
        StaysBy (λ (y : Change). change_waits w y.wait y.step ≡ true) (λ (y : Change). change_rank y.processors y.step) (λ (y : Change). 0)
        (λ (y : Change). 0) a 0 0 next →
        StaysBy (λ (y : MountPhase). must_wait w (Phase.Mounts y) ≡ true) (λ (y : MountPhase). steps_left (Phase.Mounts y))
        (λ (y : MountPhase). start_steps w (Phase.Mounts y)) (λ (y : MountPhase). tries_left w (Phase.Mounts y)) a 0 0 (map_next MountPhase.Change next)
    waiting w a (Next.Go q) h = h
    waiting w a (Next.Wait q) h = h
    waiting w a (Next.Done answer) h = absurd h

pub mount_phase : (c : Config) (x : MountPhase) → NearsPhase c (Phase.Mounts x)
mount_phase c x = grind (arith, want_phase, change_phase)

pub remount_phase : (c : Config) (x : Remount) → NearsPhase c (Phase.Remounts x)
remount_phase c x = record {
  nears = λ lim w good t lt hook at free.
      let after : Words = words_after w.words (Phase.Remounts x) hook in
      phase_falls Phase.Remounts w.words after (rank after) (IsUnblocked c after) (remount_rank x.processors x.mounts x.nodes x.step) 0 0
      (remount_after x x.step (found_at w.words (Phase.Remounts x) hook) hook).0 (λ y. refl)
      ((remount_ends c x).falls lim w good t lt hook at (remount_free w.words x.step free));
  stays = λ lim w good t lt hook at waits out.
      let h = remount_stays w.words x x.step hook waits in (
        h.0,
        phase_stays Phase.Remounts w.words (remount_rank x.processors x.mounts x.nodes x.step) 0 0
            (remount_after x x.step (found_at w.words (Phase.Remounts x) hook) hook).0 h.1,
      );
}

pub tree_phase : (c : Config) (x : TreePhase) → NearsPhase c (Phase.Trees x)
tree_phase c x = record {
  nears = λ lim w good t lt hook at free.
      let after : Words = words_after w.words (Phase.Trees x) hook in
      phase_falls Phase.Trees w.words after (rank after) (IsUnblocked c after) (tree_rank x) 0 0
      (tree_after x (found_at w.words (Phase.Trees x) hook) hook).0 (λ y. refl)
      ((tree_ends c x).falls lim w good t lt hook at (tree_free w.words x free));
  stays = λ lim w good t lt hook at waits out.
      let h = waiting w.words x hook waits in (
        h.0,
        phase_stays Phase.Trees w.words (tree_rank x) 0 0 (tree_after x (found_at w.words (Phase.Trees x) hook) hook).0 h.1,
      );
}
  where
    snapshots : (w : Words) (a : ℕ) (next : Next Snapshot) →
        StaysBy (λ (y : Snapshot). snapshot_waits w y.wait y.step ≡ true) (λ (y : Snapshot). snapshot_rank y.nodes y.step) (λ (y : Snapshot). 0)
        (λ (y : Snapshot). 0) a 0 0 next →
        StaysBy (λ (y : TreePhase). must_wait w (Phase.Trees y) ≡ true) (λ (y : TreePhase). steps_left (Phase.Trees y))
        (λ (y : TreePhase). start_steps w (Phase.Trees y)) (λ (y : TreePhase). tries_left w (Phase.Trees y)) a 0 0 (map_next TreePhase.Snapshot next)
    snapshots w a (Next.Go q) h = h
    snapshots w a (Next.Wait q) h = h
    snapshots w a (Next.Done answer) h = absurd h

    waiting : (w : Words) (x : TreePhase) (hook : HookAnswer) → tree_waits w x ≡ true →
        (after_event w (tree_next x hook) ≡ w) ×
        StaysBy (λ (y : TreePhase). must_wait w (Phase.Trees y) ≡ true) (λ (y : TreePhase). steps_left (Phase.Trees y))
        (λ (y : TreePhase). start_steps w (Phase.Trees y)) (λ (y : TreePhase). tries_left w (Phase.Trees y)) (tree_rank x) 0 0
        (tree_after x (found_by (tree_next x hook).1 (read w (tree_next x hook).0)) hook).0
    waiting w x hook waits = grind (arith, snapshot_stays, snapshots)

pub start_phase : (c : Config) (r : DownRead) → NearsPhase c (Phase.DownReads r)
start_phase c r = record {
  nears = λ lim w good t lt hook at free.
      let after : Words = words_after w.words (Phase.DownReads r) hook in
      phase_nears Phase.DownReads w.words after 0 (start_left (w.words.block r.level) r.wait r.step) 0
      (down_read_after r r.step (found_at w.words (Phase.DownReads r) hook)).0
      (read_near w.words after (read_blocks w.words r r.step) r (start_left (w.words.block r.level) r.wait r.step)
      (down_read_after r r.step (found_at w.words (Phase.DownReads r) hook)).0
      (start_nears w.words r r.step (events_may_be c lim w good t lt (Phase.DownReads r) hook at) free));
  stays = λ lim w good t lt hook at waits out. absurd (true≢false (sym waits ∙ out));
}

pub end_phase : (c : Config) (u : UpRead) → NearsPhase c (Phase.UpReads u)
end_phase c u = record {
  nears = λ lim w good t lt hook at free. tt;
  stays = λ lim w good t lt hook at waits out. absurd (true≢false (sym waits));
}

pub write_phase : (c : Config) (x : WritePhase) → NearsPhase c (Phase.Writes x)
write_phase c x = record {
  nears = λ lim w good t lt hook at free.
      let after : Words = words_after w.words (Phase.Writes x) hook in
      phase_nears Phase.Writes w.words after (write_left x) (start_steps w.words (Phase.Writes x)) 0
      (write_after x (found_at w.words (Phase.Writes x) hook)).0
      (write_nears w.words x (events_may_be c lim w good t lt (Phase.Writes x) hook at) free);
  stays = λ lim w good t lt hook at waits out.
      let h = waiting w.words x waits out in (
        h.0,
        phase_stays Phase.Writes w.words (write_left x) (start_steps w.words (Phase.Writes x)) 0
            (write_after x (found_at w.words (Phase.Writes x) hook)).0 h.1,
      );
}
  where
    wants : (w : Words) (m cpu a : ℕ) (next : Next Want) →
        StaysBy (λ (y : Want). want_waits w y y.step ≡ true) (λ (y : Want). want_rank y.step) (λ (y : Want). 0) (λ (y : Want). 0) a 0 0 next →
        StaysBy (λ (y : WritePhase). must_wait w (Phase.Writes y) ≡ true) write_left (λ (y : WritePhase). start_steps w (Phase.Writes y))
        (λ (y : WritePhase). tries_left w (Phase.Writes y)) (a + 1) 0 0 (then_gives_back m cpu next)
    wants w m cpu a (Next.Go q) h = (h.0, ap (λ n. n + 1) h.1, refl, refl)
    wants w m cpu a (Next.Wait q) h = (h.0, ap (λ n. n + 1) h.1, refl, refl)
    wants w m cpu a (Next.Done answer) h = absurd h

    waiting : (w : Words) (x : WritePhase) → must_wait w (Phase.Writes x) ≡ true → is_outside w (Phase.Writes x) ≡ false →
        (after_event w (write_next x) ≡ w) ×
        StaysBy (λ (y : WritePhase). must_wait w (Phase.Writes y) ≡ true) write_left (λ (y : WritePhase). start_steps w (Phase.Writes y))
        (λ (y : WritePhase). tries_left w (Phase.Writes y)) (write_left x) (start_steps w (Phase.Writes x)) 0
        (write_after x (found_by (write_next x).1 (read w (write_next x).0))).0
    waiting w x waits out = grind (arith, want_loads, wants, want_stays)

pub close_phase : (c : Config) (x : ClosePhase) → NearsPhase c (Phase.Closes x)
close_phase c x = record {
  nears = λ lim w good t lt hook at free.
      let after : Words = words_after w.words (Phase.Closes x) hook in
      phase_nears Phase.Closes w.words after (close_left x) (start_steps w.words (Phase.Closes x)) 0
      (close_after x (found_at w.words (Phase.Closes x) hook)).0
      (close_nears w.words x (events_may_be c lim w good t lt (Phase.Closes x) hook at) free);
  stays = λ lim w good t lt hook at waits out. absurd (waiting w.words x waits out);
}
  where
    waiting : (w : Words) (x : ClosePhase) → must_wait w (Phase.Closes x) ≡ true → is_outside w (Phase.Closes x) ≡ false → ⊥
    waiting w (ClosePhase.Enters f node r) waits out = true≢false (sym waits ∙ out)
    waiting w x waits out = true≢false (sym waits)

pub callback_phase : (c : Config) (b : Callback) → NearsPhase c (Phase.Callbacks b)
callback_phase c b = record {
  nears = λ lim w good t lt hook at free.
      let f : PhaseFits c t (held_of (w.views t)) (Phase.Callbacks b) =
      subst (Fits c t (held_of (w.views t))) at (good Fitting t lt) in
      let after : Words = words_after w.words (Phase.Callbacks b) hook in
      let here : sync_role_if (b.level == b.level) (callback_role b.step) ≡ callback_role b.step =
      ap (λ q. sync_role_if q (callback_role b.step)) (eq-eqb b.level b.level refl) in
      phase_nears Phase.Callbacks w.words after (callback_left b.tasks b.step) 0 (callback_tries (w.words.sync b.level) b.step)
      (callback_after b b.step (found_at w.words (Phase.Callbacks b) hook)).0
      (callback_nears c w good t lt b f.0 f.1 b.step (ap (sync_role_of b.level) at ∙ here) f.3 free);
  stays = λ lim w good t lt hook at waits out.
      let h = callback_stays w.words b b.step waits in (
        h.0,
        phase_stays Phase.Callbacks w.words (callback_left b.tasks b.step) 0 (callback_tries (w.words.sync b.level) b.step)
            (callback_after b b.step (found_at w.words (Phase.Callbacks b) hook)).0 h.1,
      );
}
