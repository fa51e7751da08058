-- What a task tells of its waits, as its operations begin, go on and end.
use Rattle.vfs_gates.proofs.Prelude.{Accesses, Action, Bool, Callback, ChangeMount, Close, Config, DealtNumbers, Done, Entry, Event, Freeze}
use Rattle.vfs_gates.proofs.Prelude.{GhostAgrees, Go, HookAnswer, List, Next, None, Op, Option, Phase, RemountSb, SeatedTask, Some, Start, Stepped}
use Rattle.vfs_gates.proofs.Prelude.{TableId, TaskState, Thaw, Traced, View, Wait, WaitsTell, Want, WantWrite, [], after_of, ap, arith, deal, done_by}
use Rattle.vfs_gates.proofs.Prelude.{event_of, false, first_items, found_by, given_of, is_some, items_after, items_at, kept_of, length, next_of}
use Rattle.vfs_gates.proofs.Prelude.{opening_view, own_number, own_view, phase_after, ran_items, refl, state_at, state_of_trace, subst, suc, sym}
use Rattle.vfs_gates.proofs.Prelude.{task_state, true, true≢false, zero, ℕ, ◌++◌, ◌+◌, ◌∙◌, ◌∷◌, ◌≡◌, ◌≤◌}
use Rattle.std.proofs.Common.{add-zero}
use Rattle.gate_steps.{proofs.call_events.Running.{course_is, same_wait}, specs.{Seating.knows, call_events.GhostAgrees.PhaseOk}}
use Rattle.gate_steps.specs.call_events.{Refused.{IsHonestWait, WaitsHonestly}, Runs.{IsBounded, begins_at}, Step.Step, Turns.step_was}
use Rattle.gate_steps.specs.call_events.Waited.{OpAfterStepWaiting, OpUnderWayWaiting, waits_by, waits_in}
use Rattle.gate_world.specs.{Views.{begun_view, view_after_with_others, with_hook}, declared.operations.Op.TheVariants.Snapshot}
use Rattle.gate_world.specs.traces.{TraceStates.TraceState, Traces.{MayWait, most_events}}
use Rattle.vfs_gates.{proofs.Calling.{Call, Left, same}, specs.Waits.{StandsBy, counted, is_wait}}

-- an idle number with no operation has none to tell
pub tell_none : (c : Config) (t : ℕ) (v : View) → v.op ≡ None → v.phase ≡ None → WaitsTell c t v 0
tell_none c t v none idle = record {
  stands = subst (StandsBy c t v) (sym none) idle;
  told = ap (λ o. counted (waits_by c t o v.trace)) (sym none);
}

-- the same number, with the same view
pub tell_same : (c : Config) (items left : DealtNumbers) (waited : ℕ) → own_number left ≡ own_number items → own_view left ≡ own_view items →
    WaitsTell c (own_number items) (own_view items) waited → WaitsTell c (own_number left) (own_view left) waited
tell_same c items left waited number view tells =
    let P : ℕ × View → Type 0 = λ z. WaitsTell c z.0 z.1 waited in
    subst P (λ i. (sym number i, sym view i)) tells

-- so it is where a number was given, or others were taken back
pub kept_number : (n : ℕ) (l : DealtNumbers) → own_number (kept_of n l) ≡ own_number l
kept_number n [] = refl
kept_number n (x ∷ xs) = refl

pub joined_number : (number : ℕ) (c : Config) (begins : Option Op) (state : TaskState) (flags : List Bool) (l k : DealtNumbers) →
    GhostAgrees number c begins state flags l → own_number (l ++ k) ≡ own_number l
joined_number number c begins state flags [] k ghost_agrees = absurd ghost_agrees
joined_number number c begins state flags (x ∷ xs) k ghost_agrees = refl

-- numbers that were dealt have done nothing
dealt_view : (n k : ℕ) → own_view (deal n k) ≡ opening_view
dealt_view n zero = refl
dealt_view n (suc k) = refl

pub first_tells : (c : Config) (items : DealtNumbers) → items ≡ first_items c → WaitsTell c (own_number items) (own_view items) 0
first_tells c items is =
    let seen : own_view items ≡ opening_view = ap own_view is ∙ dealt_view 0 c.tasks in
    tell_none c (own_number items) (own_view items) (ap (λ (v : View). v.op) seen) (ap (λ (v : View). v.phase) seen)

-- a number that was given has no operation, and is idle as its task is
given_op : (n : ℕ) (l : DealtNumbers) → (own_view (given_of n l)).op ≡ None
given_op n [] = refl
given_op n (x ∷ xs) = refl

idle_view : (number : ℕ) (c : Config) (begins : Option Op) (state : TaskState) (flags : List Bool) (l : DealtNumbers) →
    GhostAgrees number c begins state flags l → state.phase ≡ None → (own_view l).phase ≡ None
idle_view number c begins state flags [] ghost_agrees idle = absurd ghost_agrees
idle_view number c begins state flags (x ∷ xs) ghost_agrees idle = let at : PhaseOk c begins None x = subst (λ o. PhaseOk c begins o x) idle ghost_agrees.may in at.1

pub given_tells : (number : ℕ) (c : Config) (state : TaskState) (flags : List Bool) (n : ℕ) (l items : DealtNumbers) → items ≡ given_of n l →
    GhostAgrees number c None state flags items → state.phase ≡ None → WaitsTell c (own_number items) (own_view items) 0
given_tells number c state flags n l items is ghost_agrees idle =
    tell_none c (own_number items) (own_view items) (ap (λ k. (own_view k).op) is ∙ given_op n l)
    (idle_view number c None state flags items ghost_agrees idle)

-- a count that stands still at its end counts on from the same
still : (had more : ℕ) → counted (counted had + more) ≡ counted (had + more)
still had more = omega arith

-- a step more
module _ (c : Config) (t : ℕ) (phase : Phase) (hook : HookAnswer) (found : ℕ) (others : List (ℕ × ℕ)) where
  -- what comes after it
  abbrev after : Next Phase
  after = (after_of phase (found_by (next_of phase hook).1 found) hook).0

  -- of an operation that has come to the step's phase
  of_op : (op : Op) (v : View) (waited : ℕ) → v.op ≡ Some op → phase_after (state_of_trace c t op v.trace).comes ≡ Some phase →
      waited ≡ counted (waits_in c t op v.trace) → WaitsTell c t (view_after_with_others others v phase found hook) (counted (waited + is_wait after))
  of_op op v waited is at told =
      let e : Traced = with_hook (event_of (next_of phase hook).0 (next_of phase hook).1 found) hook in
      let here = course_is (state_of_trace c t op v.trace).comes phase (state_of_trace c t op v.trace).added e at in
      let all : counted (waited + is_wait after) ≡ counted (waits_in c t op v.trace + is_wait after) =
      ap (λ n. counted (n + is_wait after)) told ∙ still (waits_in c t op v.trace) (is_wait after) in
      record {
        stands = subst (StandsBy c t (view_after_with_others others v phase found hook)) (sym is) (ap (λ (o : TraceState). phase_after o.comes) (sym here));
        told = all ∙ (ap (λ (o : TraceState). counted (waits_in c t op v.trace + is_wait o.comes)) (sym here) ∙
            ap (λ o. counted (waits_by c t o (e ∷ v.trace))) (sym is));
      }

  -- of a number that has come there, by its operation
  of_view : (v : View) (waited : ℕ) (o : Option Op) → v.op ≡ o → StandsBy c t v o → waited ≡ counted (waits_by c t o v.trace) →
      v.phase ≡ Some phase → WaitsTell c t (view_after_with_others others v phase found hook) (counted (waited + is_wait after))
  of_view v waited None is idle told at = absurd (let none : None ≡ Some phase = sym idle ∙ at in let f : ⊥ = cc in f)
  of_view v waited (Some op) is stands told at = of_op op v waited is (sym stands ∙ at) told

-- what is told so far of an operation that has begun and has had no step: none
abbrev pub since : Option Op → ℕ → ℕ
since None waited = waited
since (Some op) waited = 0

pub since_begun : (begins : Option Op) (waited : ℕ) → is_some begins ≡ true → since begins waited ≡ 0
since_begun None waited is = absurd (true≢false (sym is))
since_begun (Some op) waited is = refl

pub since_going : (begins : Option Op) (waited : ℕ) → is_some begins ≡ false → since begins waited ≡ waited
since_going None waited is = refl
since_going (Some op) waited is = absurd (true≢false is)

-- a task's own number, after a step
after_event : (c : Config) (begins : Option Op) (phase : Phase) (hook : HookAnswer) (found : ℕ) (items : DealtNumbers) (number waited : ℕ)
    (accesses : Accesses) (flags : List Bool) → GhostAgrees number c begins (state_at (Some phase) accesses) flags items →
    WaitsTell c (own_number items) (own_view items) waited →
    WaitsTell c (own_number (items_after begins phase hook found items)) (own_view (items_after begins phase hook found items))
    (counted (since begins waited + is_wait (after_of phase (found_by (next_of phase hook).1 found) hook).0))
after_event c begins phase hook found [] number waited accesses flags ghost_agrees tells = absurd ghost_agrees
after_event c None phase hook found (x ∷ xs) number waited accesses flags ghost_agrees tells =
    of_view c x.number phase hook found (done_by xs) x.view waited x.view.op refl tells.stands tells.told ghost_agrees.may
after_event c (Some op) phase hook found (x ∷ xs) number waited accesses flags ghost_agrees tells =
    of_op c x.number phase hook found (done_by xs) op (begun_view x.view op phase) 0 refl (ap (λ (p : Phase). Some p) (sym ghost_agrees.may.1)) refl

-- so it is of a task that notes it, where the gates name the configuration otherwise
pub noted_tells : {d c : Config} {seen gone : List (List Entry)} → d ≡ c → (begins : Option Op) (phase : Phase) (hook : HookAnswer) (table table_left : TableId)
    (items left : DealtNumbers) (event : Event) (action : Option Action) (next : Next Phase) (number waited noted : ℕ) (accesses : Accesses)
    (flags : List Bool) → GhostAgrees number c begins (state_at (Some phase) accesses) flags items →
    Stepped phase hook (task_state table c begins (Some phase) (knows items seen)) (step_was event action next)
    (task_state table_left c None (phase_after next) (knows left gone)) → WaitsTell d (own_number items) (own_view items) waited →
    noted ≡ counted (since begins waited + is_wait next) → WaitsTell d (own_number left) (own_view left) noted
noted_tells {d} {c} {seen} {gone} config begins phase hook table table_left items left event action next number waited noted accesses flags ghost_agrees stepped tells is =
    let after : Next Phase = (after_of phase (found_by (next_of phase hook).1 stepped.found) hook).0 in
    let there : left ≡ items_after begins phase hook stepped.found items = ap (λ (s : SeatedTask). s.items) stepped.new in
    let so : is_wait next ≡ is_wait after = same_wait next after (ap (λ (s : Step). s.progress) stepped.step) in
    let noted_so : noted ≡ counted (since begins waited + is_wait after) = is ∙ ap (λ n. counted (since begins waited + n)) so in
    let P : Config × DealtNumbers × ℕ → Type 0 = λ z. WaitsTell z.0 (own_number z.1) (own_view z.1) z.2 in
    subst P (λ i. (sym config i, sym there i, sym noted_so i)) (after_event c begins phase hook stepped.found items number waited accesses flags ghost_agrees
    (subst (λ e. WaitsTell e (own_number items) (own_view items) waited) config tells))

-- a number that has done an operation, as far as this
ran_tells : (c : Config) (op : Op) (trace : List Traced) (items : DealtNumbers) (waits : ℕ) → 1 ≤ length items →
    waits_in c (own_number items) op trace ≡ waits →
    WaitsTell c (own_number (ran_items c op trace items)) (own_view (ran_items c op trace items)) (counted waits)
ran_tells c op trace [] waits there is = absurd (omega arith)
ran_tells c op trace (x ∷ xs) waits there is = record { stands = refl; told = ap (λ n. counted n) (sym is) }

-- one that has begun and has had a step
has_ran : (c : Config) (op : Op) (trace : List Traced) (items : DealtNumbers) → None ≡ begins_at op trace →
    items_at c op trace items ≡ ran_items c op trace items
has_ran c op [] items is = absurd (let f : ⊥ = cc in f)
has_ran c op (e ∷ earlier) items is = refl

goes_tells : (waits : ℕ) (op : Op) (start now : SeatedTask) → 1 ≤ length start.items → now.begins ≡ None → OpUnderWayWaiting waits op start now →
    WaitsTell start.config (own_number now.items) (own_view now.items) (counted waits)
goes_tells waits op start now there none goes =
    let at : now.items ≡ ran_items start.config op goes.0.trace start.items =
    goes.0.items ∙ has_ran start.config op goes.0.trace start.items (sym none ∙ goes.0.begins) in
    subst (λ l. WaitsTell start.config (own_number l) (own_view l) (counted waits)) (sym at)
    (ran_tells start.config op goes.0.trace start.items waits there goes.1)

went_tells : (waits : ℕ) (op : Op) (start : SeatedTask) (next : Next Phase) (now : SeatedTask) → 1 ≤ length start.items → now.begins ≡ None →
    OpAfterStepWaiting waits op start next now →
    WaitsTell start.config (own_number now.items) (own_view now.items) (counted (waits + is_wait next))
went_tells waits op start (Go phase) now there none went =
    goes_tells (waits + 0) op start now there none (went.0, went.1 ∙ sym (add-zero waits))
went_tells waits op start (Wait phase) now there none went = goes_tells (waits + 1) op start now there none went
went_tells waits op start (Done answer) now there none went =
    let at : now.items ≡ ran_items start.config op went.0.trace start.items = ap (λ (s : SeatedTask). s.items) went.0.after in
    subst (λ l. WaitsTell start.config (own_number l) (own_view l) (counted (waits + 0))) (sym at)
    (ran_tells start.config op went.0.trace start.items (waits + 0) there (went.1 ∙ sym (add-zero waits)))

-- a task has a number
pub has_number : (number : ℕ) (c : Config) (begins : Option Op) (state : TaskState) (flags : List Bool) (l : DealtNumbers) →
    GhostAgrees number c begins state flags l → 1 ≤ length l
has_number number c begins state flags [] ghost_agrees = absurd ghost_agrees
has_number number c begins state flags (x ∷ xs) ghost_agrees = omega arith

-- so a call tells how many of the steps that it has done came to a wait
pub left_tells : (call : Call) (left : Left call) (waited : ℕ) → waited ≡ counted (left.waits + is_wait left.next) →
    WaitsTell call.task.config (own_number left.known.items) (own_view left.known.items) waited
left_tells call left waited is =
    let task = call.task in
    let there : 1 ≤ length call.start.items = subst (λ (s : SeatedTask). 1 ≤ length s.items) call.start_is
    (has_number task.number task.config task.begins task.state task.spare task.seat.me.0.items call.ghost_agrees) in
    let tells = went_tells left.waits call.op call.start left.next (task_state left.table call.gates None (phase_after left.next) left.known) there
    refl left.went in
    let P : Config × ℕ → Type 0 = λ z. WaitsTell z.0 (own_number left.known.items) (own_view left.known.items) z.1 in
    subst P (λ i. ((call.from ∙ sym (same call)) i, sym is i)) tells

-- where none came to one before the last step of a line
pub once : (next : Next Phase) (waited : ℕ) → waited ≡ is_wait next → waited ≡ counted (0 + is_wait next)
once (Go phase) waited is = is
once (Wait phase) waited is = is
once (Done answer) waited is = is

-- an operation that has a most number of steps waits for nobody
never_waits : (c : Config) (op : Op) (trace : List Traced) → IsBounded (most_events c op) → MayWait c op trace → ⊥
never_waits c (Want m p true) trace bounded waits = bounded
never_waits c (Want m p false) trace bounded waits = true≢false (sym waits.0)
never_waits c (ChangeMount m read_only true) trace bounded waits = bounded
never_waits c (ChangeMount m read_only false) trace bounded waits = true≢false (sym waits.0)
never_waits c (RemountSb read_only) trace bounded waits = bounded
never_waits c (Start i p true) trace bounded waits = bounded
never_waits c (Start i p false) trace bounded waits = true≢false (sym waits.0)
never_waits c (WantWrite m p) trace bounded waits = bounded
never_waits c (Callback i) trace bounded waits = bounded
never_waits c (Freeze holder) trace bounded waits = bounded
never_waits c (Thaw holder) trace bounded waits = bounded
never_waits c (Close file p true) trace bounded waits = bounded
never_waits c (Close file p false) trace bounded waits = true≢false (sym waits.0)
never_waits c (Snapshot true) trace bounded waits = bounded
never_waits c (Snapshot false) trace bounded waits = true≢false (sym waits.0)
never_waits c op trace bounded waits = waits

none_waits : (c : Config) (op : Op) (trace : List Traced) (next : Next Phase) → IsBounded (most_events c op) → IsHonestWait c op trace next →
    is_wait next ≡ 0
none_waits c op trace (Go phase) bounded honest = refl
none_waits c op trace (Wait phase) bounded honest = absurd (never_waits c op trace bounded honest)
none_waits c op trace (Done answer) bounded honest = refl

pub waits_for_nobody : (c : Config) (t : ℕ) (op : Op) (trace : List Traced) → IsBounded (most_events c op) → WaitsHonestly c t op trace →
    waits_in c t op trace ≡ 0
waits_for_nobody c t op [] bounded honest = refl
waits_for_nobody c t op (e ∷ earlier) bounded honest =
    let last = none_waits c op (e ∷ earlier) (state_of_trace c t op (e ∷ earlier)).comes bounded honest.0 in
    let before = waits_for_nobody c t op earlier bounded honest.1 in
    omega arith
