-- each kind of step at one level keeps its predicate
use Rattle.std.proofs.Common.{Bool, ap, arith, false, if◌then◌else◌, inl, inr, nat_lt, refl, subst, sym, true, ℕ, ◌%◌, ◌+◌, ◌<◌, ◌∙◌, ◌≡◌, ◌≤◌}
use Rattle.std.proofs.lemmas.Bool.Decides.{eqb_tells, nat_tests}
use Rattle.cpu_words.specs.Touches.{wrap_add}
use Rattle.finite_sums.{proofs.Totals.{each_updated, total_at, total_none, total_updated}, specs.Sums.{total, update}}
use Rattle.percpu_rwsem.{proofs.SyncWords.bit_small, specs.Graces.{looked, started}}
use Rattle.percpu_rwsem.specs.SyncWords.{bit, emptied_state, entered_state, is_queued, left_state, on_callback, on_claim, on_enter, on_exit}
use Rattle.percpu_rwsem.specs.declared.{grace.{Grace.Grace, GraceNext.GraceNext}, sync_word.{GpState.GpState, SyncWord.SyncWord}}
use Rattle.freeze_laws.proofs.levels.{SyncLaws.{moves, open_while_fast, parts_of, role_free, says}, TransitionLaws.{Calls, Claims, Enters, Exits}}
use Rattle.freeze_laws.{proofs.levels.TransitionLaws.{calls, claims_queued, enters, exits, passes}, specs.levels.Changes.{Leaves, claims}}
use Rattle.freeze_laws.specs.levels.{Changes.{role_entered, waits}, Roles.{Claimed, Closed, Entered, Fast, Out, Past, Ready, RoleHolds, SectionsHold}}
use Rattle.freeze_laws.specs.levels.Roles.{SyncHolds, SyncRole, Waiting, claimed, closed, enter_bit, entered, entering, fast, idle_bit}

-- a grace period that has not loaded yet says nothing
entered_says : (section : ℕ → ℕ) (at : ℕ → SyncRole) (tasks : ℕ) → 0 < tasks → (s : GpState) →
    RoleHolds section at tasks (role_entered tasks s)
entered_says section at tasks some s = grind arith

pub by_test : {A : Type 0} (P : A → Type 0) (b : Bool) (x y : A) → (b ≡ true → P x) → (b ≡ false → P y) → P (if b then x else y)
by_test P true x y f g = f refl
by_test P false x y f g = g refl

-- what a load by a writer in its grace period shows
looked_says : (section : ℕ → ℕ) (at : ℕ → SyncRole) (tasks : ℕ) (g : Grace) → fast (at g.task) ≤ section g.task % 2 →
    RoleHolds section at tasks (Waiting g) →
    RoleHolds section at tasks (waits (looked g (section g.task)))
looked_says section at tasks g f h = grind arith

-- the numbers of a role, by what its load led to
pub waits_entering : (n : GraceNext) →
    (entering (waits n) ≡ 1) × (entered (waits n) ≡ 1) × (claimed (waits n) ≡ 0) × (closed (waits n) ≡ 0) × (fast (waits n) ≡ 0)
waits_entering role = grind arith

-- the same, of a callback
pub claims_claimed : (n : GraceNext) →
    (entering (claims n) ≡ 0) × (entered (claims n) ≡ 0) × (claimed (claims n) ≡ 1) × (closed (claims n) ≡ 0) × (fast (claims n) ≡ 0)
claims_claimed role = grind arith

module _ (tasks : ℕ) (word : SyncWord) (block full : ℕ) (section : ℕ → ℕ) (at : ℕ → SyncRole)
    (good : SyncHolds tasks word block full section at) (t : ℕ) (lt : t < tasks) where
  -- a role without a transition: the word stays
  pub role_moves : (r : SyncRole) (block' full' : ℕ) →
      entered r + full' ≡ entered (at t) + full → entering r ≡ entering (at t) → claimed r ≡ claimed (at t) →
      closed r + full' + block ≡ closed (at t) + full + block' → fast r ≡ 0 → RoleHolds section at tasks r →
      SyncHolds tasks word block' full' section (update at t r)
  role_moves r block' full' count enter taken blocked slow own =
      moves tasks word block full section at good t lt r word block' full' good.lawful good.once (omega arith) (omega arith)
      (omega arith) blocked slow
      (λ e. omega (arith, good.slow e, total_at tasks t (λ x. fast (at x)) lt)) own

  pub finds_idle : at t ≡ Out → word.state ≡ GpState.Idle → SyncHolds tasks word block full section (update at t Fast)
  finds_idle out idle =
      let i : idle_bit word.state ≡ 1 = ap idle_bit idle in
      record {
        lawful = good.lawful;
        count = omega (arith, good.count, ap entered out, total_updated entered tasks t at Fast lt);
        once = good.once;
        enter = omega (arith, good.enter, ap entering out, total_updated entering tasks t at Fast lt);
        taken = omega (arith, good.taken, ap claimed out, total_updated claimed tasks t at Fast lt);
        slow = λ e. absurd (omega arith);
        roles = λ x lx. each_updated (λ y w. RoleHolds section (update at t Fast) tasks w) at t Fast x tt
            (λ ne. role_free section (update at t Fast) tasks (at x)
            (omega (arith, good.enter, says tasks word block full section at good, total_at tasks x (λ y. entering (at y)) lx)));
        blocked = omega (arith, good.blocked, ap closed out, total_updated closed tasks t at Fast lt);
      }

  pub fast_finds : fast (at t) ≡ 1 → (idle_bit word.state + enter_bit word.state ≡ 1) × (block ≡ 0) × (full ≡ 0)
  fast_finds e =
      let some : 1 ≤ total tasks (λ x. fast (at x)) = omega (arith, total_at tasks t (λ x. fast (at x)) lt) in
      let q : idle_bit word.state + enter_bit word.state ≡ 1 = elim (eqb_tells (idle_bit word.state + enter_bit word.state) 0) [
        | inl z ↦ absurd (omega (arith, good.slow z.1))
        | inr z ↦ omega (arith, z.1, says tasks word block full section at good)
      ] in
      let o : (block ≡ 0) × (full ≡ 0) = open_while_fast tasks word block full section at good q in
      (q, o.0, o.1)

  pub fast_adds : at t ≡ Fast → SyncHolds tasks word block full section (update at t Out)
  fast_adds f = role_moves Out block full (omega (arith, ap entered f)) (sym (ap entering f)) (sym (ap claimed f))
      (omega (arith, ap closed f)) refl tt

  -- an enter where nobody has entered
  pub enter_keeps : at t ≡ Out → word.count ≡ 0 →
      Leaves (on_enter word)
      (λ w. (w.state ≡ entered_state word.state) × SyncHolds tasks w block full section (update at t (role_entered tasks word.state)))
  enter_keeps out none =
      let e : Enters tasks word.state word.taken word.count = enters tasks word.state word.taken word.count none good.lawful in
      subst (λ o. Leaves o
      (λ w. (w.state ≡ entered_state word.state) × SyncHolds tasks w block full section (update at t (role_entered tasks word.state))))
      (sym e.puts) (
        refl,
        moves tasks word block full section at good t lt
            (role_entered tasks word.state) record { state = entered_state word.state; taken = word.taken; count = 1 } block full
            e.lawful (omega arith) (omega (arith, ap entered out, e.entered_one, none)) (omega (arith, ap entering out, e.before, e.after))
            (omega (arith, ap claimed out, e.claimed_none))
            (omega (arith, ap closed out, e.closed_none)) e.fast_none
            (λ h. omega (arith, ap fast out, good.slow (omega (arith, h, e.slow, e.before))))
            (entered_says section at tasks (omega arith) word.state),
      )

  -- a load of a section word by a writer in its grace period
  pub look_keeps : (inside : ℕ → ℕ) → SectionsHold tasks section inside at → (g : Grace) → at t ≡ Waiting g →
      SyncHolds tasks word block full section (update at t (waits (looked g (section g.task))))
  look_keeps inside sections g here =
      let h : RoleHolds section at tasks (Waiting g) = subst (RoleHolds section at tasks) here (good.roles t lt) in
      let n : GraceNext = looked g (section g.task) in
      let w = waits_entering n in
      let f : fast (at g.task) ≤ section g.task % 2 = omega (arith, sections.odd g.task h.1, sections.fast_inside g.task h.1) in
      role_moves (waits n) block full (omega (arith, w, ap entered here)) (w.0 ∙ sym (ap entering here)) (w.2 ∙ sym (ap claimed here))
      (omega (arith, w, ap closed here)) w.4
      (looked_says section at tasks g f h)

  pub callback_looks : (g : Grace) (n : GraceNext) → at t ≡ Claimed g → SyncHolds tasks word block full section (update at t (claims n))
  callback_looks g n here =
      let w = claims_claimed n in
      role_moves (claims n) block full (omega (arith, w, ap entered here)) (w.0 ∙ sym (ap entering here)) (w.2 ∙ sym (ap claimed here))
      (omega (arith, w, ap closed here)) w.4
      (role_free section at tasks (claims n) w.0)

  -- after its grace period a writer finds GP_ENTER with a count of 1, and nobody on the fast path
  pub past_finds : at t ≡ Past →
      (enter_bit word.state ≡ 1) × (word.count ≡ 1) × (bit word.taken ≡ 0) × ((u : ℕ) → u < tasks → fast (at u) ≡ 0)
  past_finds past =
      let h : RoleHolds section at tasks Past = subst (RoleHolds section at tasks) past (good.roles t lt) in
      let e : 1 ≤ total tasks (λ x. entering (at x)) = omega (arith, ap entering past, total_at tasks t (λ x. entering (at x)) lt) in
      let s = says tasks word block full section at good in
      (omega (arith, s, good), omega (arith, s, good), omega (arith, s, good), h)

  -- the transition of a writer after its grace period: GP_ENTER becomes GP_PASSED
  pub pass_keeps : at t ≡ Past →
      Leaves (on_callback word) (λ w. (w.state ≡ GpState.Passed) × SyncHolds tasks w block full section (update at t Entered))
  pass_keeps past =
      let f : (enter_bit word.state ≡ 1) × (word.count ≡ 1) × (bit word.taken ≡ 0) × ((u : ℕ) → u < tasks → fast (at u) ≡ 0) =
      past_finds past in
      subst (λ o. Leaves o (λ w. (w.state ≡ GpState.Passed) × SyncHolds tasks w block full section (update at t Entered)))
      (sym (passes word.state word.taken word.count f.0 (omega arith))) (
        refl,
        moves tasks word block full section at good t lt Entered record { state = GpState.Passed; taken = false; count = word.count } block full
            (grind (arith, nat_tests, f.1)) (omega (arith, f.1)) (omega (arith, ap entered past)) (omega (arith, ap entering past, f.0))
            (omega (arith, ap claimed past, f.2))
            (omega (arith, ap closed past)) refl (λ e. omega (arith, ap fast past, total_none tasks (λ x. fast (at x)) f.3)) tt,
      )

  -- where a writer has entered and is past its grace period, the count is 1, and the state GP_PASSED, GP_EXIT or GP_REPLAY
  pub entered_finds : entered (at t) ≡ 1 → entering (at t) ≡ 0 →
      (word.count ≡ 1) × (full ≡ 0) × (idle_bit word.state + enter_bit word.state ≡ 0) × (block ≡ closed (at t))
  entered_finds e n =
      let s = says tasks word block full section at good in
      let one : total tasks (λ x. entered (update at t Out x)) + 1 ≡ total tasks (λ x. entered (at x)) =
      omega (arith, e, total_updated entered tasks t at Out lt) in
      let none : total tasks (λ x. entering (update at t Out x)) ≡ total tasks (λ x. entering (at x)) =
      omega (arith, n, total_updated entering tasks t at Out lt) in
      let shut : total tasks (λ x. closed (update at t Out x)) + closed (at t) ≡ total tasks (λ x. closed (at x)) =
      omega (arith, total_updated closed tasks t at Out lt) in
      let p : total tasks (λ x. closed (update at t Out x)) + total tasks (λ x. entering (update at t Out x)) ≤ total tasks
      (λ x. entered (update at t Out x)) = parts_of tasks (update at t Out) in
      (omega (arith, s, good), omega (arith, s, good), omega (arith, s, good, p), omega (arith, s, good, p))

  pub swap_keeps : at t ≡ Entered → (block ≡ 0) × SyncHolds tasks word 1 full section (update at t Closed)
  swap_keeps here =
      let f = entered_finds (ap entered here) (ap entering here) in
      let b : block ≡ 0 = f.3 ∙ ap closed here in (
        b,
        role_moves Closed 1 full (omega (arith, ap entered here)) (sym (ap entering here)) (sym (ap claimed here))
            (omega (arith, b, ap closed here)) refl tt,
      )

  pub open_keeps : at t ≡ Closed → (block ≡ 1) × SyncHolds tasks word 0 full section (update at t Entered)
  open_keeps here =
      let f = entered_finds (ap entered here) (ap entering here) in
      let b : block ≡ 1 = f.3 ∙ ap closed here in (
        b,
        role_moves Entered 0 full (omega (arith, ap entered here)) (sym (ap entering here)) (sym (ap claimed here))
            (omega (arith, b, ap closed here)) refl tt,
      )

  -- the exit of the writer: it is defined, and queues a callback
  pub exit_keeps : at t ≡ Entered →
      Leaves (on_exit word) (λ w. ((w.count ≡ 0) × (is_queued w.state ≡ true)) × SyncHolds tasks w block full section (update at t Out))
  exit_keeps here =
      let f = entered_finds (ap entered here) (ap entering here) in
      let e : Exits word.state word.taken word.count = exits word.state word.taken word.count f.0 f.2 in
      subst (λ o. Leaves o (λ w. ((w.count ≡ 0) × (is_queued w.state ≡ true)) × SyncHolds tasks w block full section (update at t Out)))
      (sym e.puts) (
        (refl, e.queued),
        moves tasks word block full section at good t lt Out record { state = left_state word.state; taken = word.taken; count = 0 } block
            full
            e.lawful (omega arith) (omega (arith, ap entered here, f.0)) (omega (arith, ap entering here, f.2, e.slow))
            (omega (arith, ap claimed here))
            (omega (arith, ap closed here)) refl (λ h. omega (arith, ap fast here, good.slow f.2)) tt,
      )

  -- the claim of a queued callback
  pub claim_keeps : at t ≡ Out → is_queued word.state ≡ true → word.taken ≡ false →
      Leaves (on_claim word) (λ w. (w.state ≡ word.state) × SyncHolds tasks w block full section (update at t (Claimed (started tasks))))
  claim_keeps out queued free =
      let e : Claims word.state word.taken word.count = claims_queued word.state word.taken word.count queued free in
      subst (λ o. Leaves o (λ w. (w.state ≡ word.state) × SyncHolds tasks w block full section (update at t (Claimed (started tasks)))))
      (sym e.puts) (
        refl,
        moves tasks word block full section at good t lt
            (Claimed (started tasks)) record { state = word.state; taken = true; count = word.count } block full
            e.lawful good.once (omega (arith, ap entered out)) (omega (arith, ap entering out)) (omega (arith, ap claimed out, ap bit free))
            (omega (arith, ap closed out)) refl (λ h. omega (arith, ap fast out, good.slow h)) tt,
      )

  pub ready_finds : at t ≡ Ready → Calls word.state word.taken word.count
  ready_finds ready =
      let b : bit word.taken ≡ 1 =
      omega (arith, ap claimed ready, good.taken, bit_small word.taken, total_at tasks t (λ x. claimed (at x)) lt) in
      calls word.state word.taken word.count good.once b (says tasks word block full section at good).free good.lawful

  -- the transition of a callback after its grace period
  pub call_keeps : at t ≡ Ready →
      Leaves (on_callback word)
      (λ w. (w.state ≡ (if nat_lt 0 word.count then GpState.Passed else emptied_state word.state)) × SyncHolds tasks w block full section
      (update at t Out))
  call_keeps ready =
      let e : Calls word.state word.taken word.count = ready_finds ready in
      subst (λ o. Leaves o
      (λ w. (w.state ≡ (if nat_lt 0 word.count then GpState.Passed else emptied_state word.state)) × SyncHolds tasks w block full section
      (update at t Out))) (sym e.puts) (
        refl,
        moves tasks word block full section at good t lt Out record
            { state = if nat_lt 0 word.count then GpState.Passed else emptied_state word.state; taken = false; count = word.count } block full
            e.lawful good.once (omega (arith, ap entered ready)) (omega (arith, ap entering ready, e.before, e.after))
            (omega (arith, ap claimed ready, ap bit e.taken))
            (omega (arith, ap closed ready)) refl (λ h. omega (arith, ap fast ready, good.slow e.before)) tt,
      )

  pub freeze_keeps : at t ≡ Closed → (full ≡ 0) × SyncHolds tasks word block 1 section (update at t Out)
  freeze_keeps here =
      let f = entered_finds (ap entered here) (ap entering here) in (
        f.1,
        role_moves Out block 1 (omega (arith, ap entered here, f.1)) (sym (ap entering here)) (sym (ap claimed here))
            (omega (arith, ap closed here, f.1)) refl tt,
      )

  pub thaw_keeps : at t ≡ Out → full ≡ 1 → SyncHolds tasks word block 0 section (update at t Closed)
  thaw_keeps out k = role_moves Closed block 0 (omega (arith, ap entered out)) (sym (ap entering out)) (sym (ap claimed out))
      (omega (arith, ap closed out)) refl tt

  pub section_keeps : (value : ℕ) → fast (at t) ≡ 0 → SyncHolds tasks word block full (update section t value) at
  section_keeps value slow = grind arith

-- the sections: a task begins or ends its section by one addition
pub section_turns : (tasks : ℕ) (section inside : ℕ → ℕ) (at : ℕ → SyncRole) → SectionsHold tasks section inside at → (t v : ℕ) →
    v + inside t ≡ 1 → fast (at t) ≡ 0 →
    SectionsHold tasks (update section t (wrap_add (section t) 1)) (update inside t v) at
section_turns tasks section inside at sections t v other slow = grind arith

-- a role changes, to the fast path only inside a section
pub section_stays : (tasks : ℕ) (section inside : ℕ → ℕ) (at : ℕ → SyncRole) → SectionsHold tasks section inside at →
    (t : ℕ) (r : SyncRole) → fast r ≤ inside t →
    SectionsHold tasks section inside (update at t r)
section_stays tasks section inside at sections t r h = grind arith
