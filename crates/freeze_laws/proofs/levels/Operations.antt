-- each step of an operation at a level is one of the level
use Rattle.std.proofs.{Common.{Option, Some, ap, arith, refl, sym, true, ℕ, ◌+◌, ◌<◌, ◌==◌, ◌∙◌, ◌≡◌}, lemmas.{Bool.eq-eqb, Grind.common_steps}}
use Rattle.cpu_words.specs.{Sums.sum_taking, Touches.left, declared.sums.Taken.Taken}
use Rattle.finite_sums.{proofs.Totals.update_same, specs.Sums.{total, update}}
use Rattle.percpu_rwsem.specs.{Callbacks.{callback_looked, called_back, claimed as claim_made}, Graces.looked}
use Rattle.percpu_rwsem.specs.{SyncWords.{on_callback, on_claim, on_enter, on_exit, unpack}, Transitions.{transition_after, transition_next}}
use Rattle.percpu_rwsem.specs.Writers.{callback_step, down_write_summed, enter_step, entered_from, exit_made, passed_awaited, sections_awaited}
use Rattle.percpu_rwsem.specs.declared.{callbacks.{Callback.Callback, CallbackStep.CallbackStep}, grace.GraceNext.GraceNext}
use Rattle.percpu_rwsem.specs.declared.{sync_word.{GpState.GpState, SyncWord.SyncWord}, transitions.Transition.Transition}
use Rattle.percpu_rwsem.specs.declared.{transitions.TransitionNext.TransitionNext, writers.{DownWrite.DownWrite, DownWriteStep.DownWriteStep}}
use Rattle.percpu_rwsem.specs.declared.writers.{UpWrite.UpWrite, UpWriteStep.UpWriteStep}
use Rattle.freeze_laws.proofs.levels.{EventLaws.swap_keeps, Exchanges.exchanges_make_transitions}
use Rattle.freeze_laws.specs.levels.Changes.{claims, role_entered, role_found, state_found, transition, waits}
use Rattle.freeze_laws.specs.levels.Events.{Calls, Claims, Enters, Exits, Happens, Looks, LooksClaimed, Opens, Passes, Stays, Swaps, SyncEvent}
use Rattle.freeze_laws.specs.levels.{Events.{SyncLevel, SyncLevelHolds, SyncStep}, Exchanges.{KnowsWords, MakesTransition}}
use Rattle.freeze_laws.specs.levels.Operations.{CallbackIsThere, CallbacksAreThere, DownWriteIsThere, DownWritesAreThere, HoldsOfNext, KnowsCallback}
use Rattle.freeze_laws.specs.levels.Operations.{KnowsDownWrite, KnowsUpWrite, UpWriteIsThere, UpWritesAreThere, by_next, callback_role}
use Rattle.freeze_laws.specs.levels.{Operations.{down_write_role, up_write_role}, Roles.{Closed, Entered, Out, Past, Ready, SyncRole, entered}}

role_from : (tasks : ℕ) (s : GpState) → down_write_role (entered_from tasks s) ≡ role_entered tasks s
role_from tasks s = grind arith

module _ (tasks t : ℕ) (lt : t < tasks) (l : SyncLevel) where
  -- a step of this task
  step_by : (l' : SyncLevel) (k : SyncEvent) → Happens tasks t l l' k → SyncStep tasks l l'
  step_by l' k h = record { task = t; there = lt; kind = k; happens = h }

  -- one that leaves the sync word and the role
  unmoved : (v : ℕ) (r : SyncRole) → v ≡ l.sync → l.at t ≡ r → SyncStep tasks l (record l { sync = v; at = update l.at t r })
  unmoved v r e here =
      let p : update l.at t r ≡ l.at = ap (update l.at t) (sym here) ∙ update_same l.at t in
      step_by _ Stays (λ q. record { sync = e q; block = l.block; full = l.full; section = l.section; inside = l.inside; at = p q })

  -- one of a transition: either nothing has changed, or it is made
  exchanged_by : (makes : SyncWord → Option SyncWord) (role : TransitionNext → SyncRole) (r : SyncRole) → l.at t ≡ r →
      ((x : Transition) → role (TransitionNext.More x) ≡ r) → role TransitionNext.Undefined ≡ r →
      ((s : GpState) (v : ℕ) → state_found l.sync ≡ Some s → transition makes l.sync ≡ Some v →
      SyncStep tasks l (record l { sync = v; at = update l.at t (role (TransitionNext.Made s)) })) →
      (v : ℕ) (n : TransitionNext) → MakesTransition makes l.sync v n → SyncStep tasks l (record l { sync = v; at = update l.at t (role n) })
  exchanged_by makes role r here more none made v n h = grind (arith, common_steps, unmoved)

  enter_made : l.at t ≡ Out → total tasks (λ x. entered (l.at x)) + l.full ≡ 0 → (s : GpState) (v : ℕ) → state_found l.sync ≡ Some s →
      transition on_enter l.sync ≡ Some v →
      SyncStep tasks l (record l { sync = v; at = update l.at t (down_write_role (entered_from tasks s)) })
  enter_made out none s v f e =
      let p : down_write_role (entered_from tasks s) ≡ role_found tasks (state_found l.sync) =
      role_from tasks s ∙ sym (ap (role_found tasks) f) in
      step_by _ Enters (out, none, e, λ q. record l { sync = v; at = update l.at t (p q) })

  -- a load of a section word
  looked_by : (g : ℕ) (r r' : SyncRole) (k : SyncEvent) → r' ≡ r → Happens tasks t l (record l { at = update l.at t r }) k →
      SyncStep tasks l (record l { section = update l.section g (l.section g); at = update l.at t r' })
  looked_by g r r' k e h = grind (arith, update, update_same, step_by)

pub enter_knows : (tasks found v : ℕ) (n : TransitionNext) → MakesTransition on_enter found v n → KnowsDownWrite (enter_step tasks n)
enter_knows tasks found v next h = grind arith

pub callback_knows : (found v : ℕ) (n : TransitionNext) → MakesTransition on_callback found v n → KnowsDownWrite (callback_step n)
callback_knows found v next h = grind arith

-- a down-write goes on with its grace period, or to its transition
looked_role : (d : DownWrite) (n : GraceNext) → by_next (λ (x : DownWrite). down_write_role x.step) Closed (sections_awaited d n) ≡ waits n
looked_role d next = grind arith

-- and no exchange is to come yet
looked_knows : (d : DownWrite) (n : GraceNext) →
    HoldsOfNext (λ (x : DownWrite). (x.tasks ≡ d.tasks) × KnowsDownWrite x.step) (sections_awaited d n)
looked_knows d next = grind arith

-- a load for GP_PASSED leaves it entered
passed_role : (d : DownWrite) (o : Option SyncWord) →
    by_next (λ (x : DownWrite). down_write_role x.step) Closed (passed_awaited d o) ≡ Entered
passed_role d found = grind arith

-- and no exchange is to come
passed_knows : (d : DownWrite) (o : Option SyncWord) →
    HoldsOfNext (λ (x : DownWrite). (x.tasks ≡ d.tasks) × KnowsDownWrite x.step) (passed_awaited d o)
passed_knows d found = grind arith

-- a word more of the sum leaves the level closed
summed_role : (d : DownWrite) (taken : Taken) →
    by_next (λ (x : DownWrite). down_write_role x.step) Closed (down_write_summed d taken).0 ≡ Closed
summed_role d taken = grind arith

-- and no exchange is to come
summed_knows : (d : DownWrite) (taken : Taken) →
    HoldsOfNext (λ (x : DownWrite). (x.tasks ≡ d.tasks) × KnowsDownWrite x.step) (down_write_summed d taken).0
summed_knows d taken = grind arith

module _ (t other : ℕ) (l : SyncLevel) (d : DownWrite) (lt : t < d.tasks) where
  -- a step of the enter
  enters_by : (x : Transition) → KnowsWords on_enter x → l.at t ≡ Out → total d.tasks (λ x. entered (l.at x)) + l.full ≡ 0 →
      SyncStep d.tasks l (record l {
        sync = left (transition_next d.level x).1 l.sync;
        at = update l.at t (down_write_role (enter_step d.tasks (transition_after on_enter x l.sync)));
      }) × KnowsDownWrite (enter_step d.tasks (transition_after on_enter x l.sync))
  enters_by x k here none =
      let shown = exchanges_make_transitions on_enter d.level l.sync x k in (
        exchanged_by d.tasks t lt l on_enter (λ n. down_write_role (enter_step d.tasks n)) Out here (λ y. refl) refl
            (enter_made d.tasks t lt l here none) _ _ shown,
        enter_knows d.tasks l.sync _ _ shown,
      )

  -- one of the transition that ends its grace period
  passes_by : (x : Transition) → KnowsWords on_callback x → l.at t ≡ Past →
      SyncStep d.tasks l (record l {
        sync = left (transition_next d.level x).1 l.sync;
        at = update l.at t (down_write_role (callback_step (transition_after on_callback x l.sync)));
      }) × KnowsDownWrite (callback_step (transition_after on_callback x l.sync))
  passes_by x k here =
      let shown = exchanges_make_transitions on_callback d.level l.sync x k in (
        exchanged_by d.tasks t lt l on_callback (λ n. down_write_role (callback_step n)) Past here (λ y. refl) refl
            (λ s v f e. step_by d.tasks t lt l _ Passes (here, e, refl)) _ _ shown,
        callback_knows l.sync _ _ shown,
      )

  down_write_there : (s : DownWriteStep) → SyncLevelHolds d.tasks l → l.at t ≡ down_write_role s → KnowsDownWrite s →
      (l.at t ≡ Out → total d.tasks (λ x. entered (l.at x)) + l.full ≡ 0) → DownWriteIsThere t other l d s
  down_write_there (DownWriteStep.Enters Transition.Loads) right here k none =
      let e = enters_by Transition.Loads tt here (none here) in (e.0, (refl, e.1))
  down_write_there (DownWriteStep.Enters (Transition.Exchanges from to)) right here k none =
      let e = enters_by (Transition.Exchanges from to) k here (none here) in (e.0, (refl, e.1))
  down_write_there (DownWriteStep.AwaitsSections g) right here k none =
      let n : GraceNext = looked g (l.section g.task) in
      (looked_by d.tasks t lt l g.task (waits n) _ Looks (looked_role d n) (g, here, refl), looked_knows d n)
  down_write_there (DownWriteStep.CallsBack Transition.Loads) right here k none =
      let e = passes_by Transition.Loads tt here in (e.0, (refl, e.1))
  down_write_there (DownWriteStep.CallsBack (Transition.Exchanges from to)) right here k none =
      let e = passes_by (Transition.Exchanges from to) k here in (e.0, (refl, e.1))
  down_write_there DownWriteStep.AwaitsPassed right here k none =
      (unmoved d.tasks t lt l l.sync _ refl (here ∙ sym (passed_role d (unpack l.sync))), passed_knows d (unpack l.sync))
  down_write_there DownWriteStep.SetsBlock right here k none =
      let b = swap_keeps d.tasks right.level.word l.block l.full l.section l.at right.level.holds t lt here in
      let e : (l.block == 0) ≡ true = eq-eqb l.block 0 b.0 in
      rw e (step_by d.tasks t lt l _ Swaps (here, refl), (refl, tt))
  down_write_there (DownWriteStep.Sums sum) right here k none =
      let taken : Taken = sum_taking sum other d.processors in
      (unmoved d.tasks t lt l l.sync _ refl (here ∙ sym (summed_role d taken)), summed_knows d taken)

pub down_writes_are_there : DownWritesAreThere
down_writes_are_there t other l d lt right here k none = down_write_there t other l d lt d.step right here k none

-- an up-write that goes on knows what is to come
exit_knows : (u : UpWrite) (found v : ℕ) (n : TransitionNext) → MakesTransition on_exit found v n →
    HoldsOfNext (λ (x : UpWrite). KnowsUpWrite x.step) (exit_made u n)
exit_knows u found v next h = grind arith

module _ (tasks t other : ℕ) (l : SyncLevel) (u : UpWrite) (lt : t < tasks) where
  -- a step of the exit
  exits_by : (x : Transition) → KnowsWords on_exit x → l.at t ≡ Entered →
      SyncStep tasks l (record l {
        sync = left (transition_next u.level x).1 l.sync;
        at = update l.at t (by_next (λ (y : UpWrite). up_write_role y.step) Out (exit_made u (transition_after on_exit x l.sync)));
      }) × HoldsOfNext (λ (y : UpWrite). KnowsUpWrite y.step) (exit_made u (transition_after on_exit x l.sync))
  exits_by x k here =
      let shown = exchanges_make_transitions on_exit u.level l.sync x k in (
        exchanged_by tasks t lt l on_exit (λ n. by_next (λ (y : UpWrite). up_write_role y.step) Out (exit_made u n)) Entered here
            (λ y. refl) refl (λ s v f e. step_by tasks t lt l _ Exits (here, e, refl)) _ _ shown,
        exit_knows u l.sync _ _ shown,
      )

  up_write_there : (s : UpWriteStep) → l.at t ≡ up_write_role s → KnowsUpWrite s → UpWriteIsThere tasks t other l u s
  up_write_there UpWriteStep.ClearsBlock here k = (step_by tasks t lt l _ Opens (here, refl), tt)
  up_write_there (UpWriteStep.Exits Transition.Loads) here k = exits_by Transition.Loads tt here
  up_write_there (UpWriteStep.Exits (Transition.Exchanges from to)) here k = exits_by (Transition.Exchanges from to) k here

pub up_writes_are_there : UpWritesAreThere
up_writes_are_there tasks t other l u lt here k = up_write_there tasks t other l u lt u.step here k

-- a callback that has claimed waits for its grace period, and one that claims knows what is to come
claim_knows : (b : Callback) (found v : ℕ) (n : TransitionNext) → MakesTransition on_claim found v n →
    HoldsOfNext (λ (x : Callback). (x.tasks ≡ b.tasks) × KnowsCallback x.step) (claim_made b n)
claim_knows b found v next h = grind arith

-- one past its grace period knows it too
call_knows : (b : Callback) (found v : ℕ) (n : TransitionNext) → MakesTransition on_callback found v n →
    HoldsOfNext (λ (x : Callback). (x.tasks ≡ b.tasks) × KnowsCallback x.step) (called_back b n)
call_knows b found v next h = grind arith

-- a callback goes on with its grace period, or to its transition
grace_role : (b : Callback) (n : GraceNext) → by_next (λ (x : Callback). callback_role x.step) Out (callback_looked b n) ≡ claims n
grace_role b next = grind arith

-- and no exchange is to come yet
grace_knows : (b : Callback) (n : GraceNext) →
    HoldsOfNext (λ (x : Callback). (x.tasks ≡ b.tasks) × KnowsCallback x.step) (callback_looked b n)
grace_knows b next = grind arith

module _ (t other : ℕ) (l : SyncLevel) (b : Callback) (lt : t < b.tasks) where
  -- a step of the claim
  claims_by : (x : Transition) → KnowsWords on_claim x → l.at t ≡ Out →
      SyncStep b.tasks l (record l {
        sync = left (transition_next b.level x).1 l.sync;
        at = update l.at t (by_next (λ (y : Callback). callback_role y.step) Out (claim_made b (transition_after on_claim x l.sync)));
      }) × HoldsOfNext (λ (y : Callback). (y.tasks ≡ b.tasks) × KnowsCallback y.step) (claim_made b (transition_after on_claim x l.sync))
  claims_by x k here =
      let shown = exchanges_make_transitions on_claim b.level l.sync x k in (
        exchanged_by b.tasks t lt l on_claim (λ n. by_next (λ (y : Callback). callback_role y.step) Out (claim_made b n)) Out here
            (λ y. refl) refl (λ s v f e. step_by b.tasks t lt l _ Claims (here, e, refl)) _ _ shown,
        claim_knows b l.sync _ _ shown,
      )

  -- one of its own transition
  calls_by : (x : Transition) → KnowsWords on_callback x → l.at t ≡ Ready →
      SyncStep b.tasks l (record l {
        sync = left (transition_next b.level x).1 l.sync;
        at = update l.at t (by_next (λ (y : Callback). callback_role y.step) Out (called_back b (transition_after on_callback x l.sync)));
      }) × HoldsOfNext (λ (y : Callback). (y.tasks ≡ b.tasks) × KnowsCallback y.step)
      (called_back b (transition_after on_callback x l.sync))
  calls_by x k here =
      let shown = exchanges_make_transitions on_callback b.level l.sync x k in (
        exchanged_by b.tasks t lt l on_callback (λ n. by_next (λ (y : Callback). callback_role y.step) Out (called_back b n)) Ready here
            (λ y. refl) refl (λ s v f e. step_by b.tasks t lt l _ Calls (here, e, refl)) _ _ shown,
        call_knows b l.sync _ _ shown,
      )

  callback_there : (s : CallbackStep) → l.at t ≡ callback_role s → KnowsCallback s → CallbackIsThere t other l b s
  callback_there (CallbackStep.Claims Transition.Loads) here k = claims_by Transition.Loads tt here
  callback_there (CallbackStep.Claims (Transition.Exchanges from to)) here k = claims_by (Transition.Exchanges from to) k here
  callback_there (CallbackStep.AwaitsSections g) here k =
      let n : GraceNext = looked g (l.section g.task) in
      (looked_by b.tasks t lt l g.task (claims n) _ LooksClaimed (grace_role b n) (g, here, refl), grace_knows b n)
  callback_there (CallbackStep.CallsBack Transition.Loads) here k = calls_by Transition.Loads tt here
  callback_there (CallbackStep.CallsBack (Transition.Exchanges from to)) here k = calls_by (Transition.Exchanges from to) k here

pub callbacks_are_there : CallbacksAreThere
callbacks_are_there t other l b lt here k = callback_there t other l b lt b.step here k
