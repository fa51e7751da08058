-- An operation, step after step, from its beginning to its reply.
use Rattle.gate_steps.proofs.Prelude.{Action, AreMoves, Ask, Called, Config, DealtNumbers, Done, Entry, Err, GateError, Go, HasWitness, HookAnswer}
use Rattle.gate_steps.proofs.Prelude.{IsNextMove, IsWithin, List, Next, None, Ok, Op, Option, Phase, Reply, Result, SeatedTask, Some, Stepped, Traced}
use Rattle.gate_steps.proofs.Prelude.{View, Wait, [], actions_after, actions_of, after_of, ap, arith, asks_of, asks_with, call_at, done_by, entered}
use Rattle.gate_steps.proofs.Prelude.{event_of, first_phase, found_by, held_of, items_after, length, next_of, numbered, own_number, own_view}
use Rattle.gate_steps.proofs.Prelude.{phase_after, progress_of, refl, state_of_trace, subst, sym, view_after_with_others, ℕ, ◌++◌, ◌+◌, ◌<◌, ◌∙◌, ◌∷◌}
use Rattle.gate_steps.proofs.Prelude.{◌≡◌, ◌≤◌}
use Rattle.std.proofs.Common.{add-zero, is_some, ◌-◌}
use Rattle.gate_schedules.proofs.{frames.OperationLaws.{IsSmall, most_events_of_all}, operations.AllOperations.op_keeps}
use Rattle.gate_schedules.proofs.schedules.Beginnings.{may_begin}
use Rattle.gate_transitions.specs.{Answers.unless_refused, declared.steps.{Progress.{Progress, TheVariants.{Done as Ended, Waiting}}, Step.Step}}
use Rattle.gate_world.specs.{Views.with_hook, declared.operations.Op.TheVariants.Callback, traces.Snapshots.{completes, last_snapshot}}
use Rattle.gate_world.specs.traces.TraceStates.{IsEventOf, IsNext, IsTrace, ReadIsValid, TraceState, trace_state_after, trace_state_with}
use Rattle.gate_world.specs.traces.Traces.{IsShort, MayWait, ReplyMatchesTrace, Tells, most_events}
use Rattle.gate_steps.{proofs.call_events.{Grown.same_stays_seen, Refused.{is_unchanged, waits_honestly}}, specs.Seating.{HaveHistory, world_left}}
use Rattle.gate_steps.specs.call_events.{Asking.{OpAfterStepWith, OpUnderWayWith, next_call}, Refused.{IsHonestWait, IsUnchanged, IsUnchangedBy}}
use Rattle.gate_steps.specs.call_events.Runs.{IsBounded, IsMoveOf, IsRanReply, OpAfterStep, OpUnderWay, ProgressMatches, Replies, begins_at}
use Rattle.gate_steps.specs.call_events.Runs.{completed_by, events_onto, items_at, ran_items, ran_snapshot, ran_view, the_reply, told_as}
use Rattle.gate_steps.specs.call_events.{SeatedTasks.refusal_at, Waited.{is_wait, waits_in}}

-- the numbers of a task whose own number has begun the operation
abbrev pub entered_items : Option Op → Option Phase → DealtNumbers → DealtNumbers
entered_items begins None l = l
entered_items begins (Some p) [] = []
entered_items begins (Some p) (x ∷ xs) = numbered x.number (entered x.view begins p) ∷ xs

-- nothing begins where no operation has just begun
not_entered : (o : Option Phase) (l : DealtNumbers) → entered_items None o l ≡ l
not_entered o l = grind arith

-- a step that begins an operation is one of the numbers that have begun it
after_entered : (begins : Option Op) (p : Phase) (h : HookAnswer) (found : ℕ) (l : DealtNumbers) →
    items_after None p h found (entered_items begins (Some p) l) ≡ items_after begins p h found l
after_entered begins p h found l = grind arith

-- the step of the phase that stands comes next
next_is : (s : Next Phase) (p : Phase) (e : Traced) → phase_after s ≡ Some p → IsEventOf p e → IsNext s e
next_is s p e is h = grind arith

-- and so does its move
move_is : (c : Config) (op : Op) (items : DealtNumbers) (earlier : List Traced) (e : Traced) (seen gone : List (List Entry)) (s : Next Phase) (p : Phase) →
    phase_after s ≡ Some p → IsMoveOf c op items earlier e seen gone p → IsNextMove c op items earlier e seen gone s
move_is c op items earlier e seen gone s p is h = grind arith

-- what a step found is what its word may hold
move_holds : (c : Config) (begins : Option Op) (p : Phase) (hook : HookAnswer) (items : DealtNumbers) (found : ℕ)
    (seen gone : List (List Entry)) → HasWitness c begins p hook items found seen gone → ReadIsValid p (next_of p hook).0 found
move_holds c begins p hook items found seen gone move = grind arith

-- a step leaves one history
move_has_history : (c : Config) (begins : Option Op) (p : Phase) (hook : HookAnswer) (items : DealtNumbers) (found : ℕ)
    (seen gone : List (List Entry)) → HasWitness c begins p hook items found seen gone → HaveHistory c (items_after begins p hook found items) gone
move_has_history c begins p hook [] found seen gone move = absurd move
move_has_history c begins p hook (x ∷ xs) found seen gone move =
    record {
      within = move.within;
      world = world_left c move.world begins p hook x.number xs;
      good = move.after;
      history = move.history;
      mine = move.left;
      last = move.leaves;
    }

-- what the step of this phase completes
pub completed_is : (s : Next Phase) (p : Phase) (earlier : List Traced) (e : Traced) → phase_after s ≡ Some p →
    completed_by s earlier e ≡ completes p earlier e.event.found
completed_is s p earlier e is = grind arith

-- the hook that the step of this phase reads
call_is : (s : Next Phase) (p : Phase) → phase_after s ≡ Some p → next_call s ≡ call_at p
call_is s p is = grind arith

-- where the operation is after it
pub course_is : (s : Next Phase) (p : Phase) (added : List Action) (e : Traced) → phase_after s ≡ Some p → trace_state_after s added e ≡
    trace_state_with added (after_of p e.event.found e.hook)
course_is s p added e is = grind arith

-- its action goes before all earlier ones
actions_append : (a : Option Action) (l m : List Action) → actions_after a (l ++ m) ≡ actions_after a l ++ m
actions_append a l m = grind arith

-- a step that ended has an answer
done_is : (x : Next Phase) (a : Result Reply GateError) → progress_of x ≡ Ended a → x ≡ Done a
done_is x a e = grind arith

-- and one that did not has a phase
goes_on : (x : Next Phase) → ((a : Result Reply GateError) → progress_of x ≡ Ended a → ⊥) → (q : Phase) × (phase_after x ≡ Some q)
goes_on (Go q) not = (q, refl)
goes_on (Wait q) not = (q, refl)
goes_on (Done a) not = absurd (not a refl)

-- and who waits is told so
abbrev waits_told : Progress → ℕ
waits_told Waiting = 1
waits_told progress = 0

wait_told : (x : Next Phase) → is_wait x ≡ waits_told (progress_of x)
wait_told x = grind arith

pub same_wait : (x y : Next Phase) → progress_of x ≡ progress_of y → is_wait x ≡ is_wait y
same_wait x y same = wait_told x ∙ (ap waits_told same ∙ sym (wait_told y))

-- how many steps the operation under way has had
abbrev pub steps_of : SeatedTask → ℕ
steps_of now = length (own_view (entered_items now.begins now.phase now.items)).trace

-- the steps that may be left to an operation that has a most number of them
abbrev pub events_left : SeatedTask → ℕ
events_left now = most_events_of_all + 1 - steps_of now

-- why an operation can't begin, said of the answer of a beginning
pub refused_as : (e : GateError) (o : Option GateError) {A : Type 0} (r : GateError) → Err e ≡ unless_refused o → o ≡ Some r →
    ◌≡◌ {A = Result A GateError} (Err e) (Err r)
refused_as e o r is at = grind arith

-- a refused beginning has a refusal
pub refused_none : (e : GateError) (o : Option GateError) → Err e ≡ unless_refused o → o ≡ None → ⊥
refused_none e o is at = grind arith

-- what was not refused has no refusal
pub not_refused : (o : Option GateError) → Ok tt ≡ unless_refused o → o ≡ None
not_refused o is = grind arith

-- an admitted one has none
pub admitted_some : (o : Option GateError) (r : GateError) → Ok tt ≡ unless_refused o → o ≡ Some r → ⊥
admitted_some o r is at = grind arith

-- and of one under way
ran_so_far : (op : Op) (start now : SeatedTask) (goes : OpUnderWay op start now) → entered_items now.begins now.phase now.items ≡
    ran_items start.config op goes.trace start.items
ran_so_far op start now goes = grind arith

-- as it begins, with no hook asked and no wait
pub starts_asking_none : (op : Op) (start now : SeatedTask) → Ok tt ≡ unless_refused (refusal_at op start) → now ≡ record start {
  begins = Some op;
  phase =
      Some (first_phase start.config (own_number start.items) op);
} → OpUnderWayWith [] 0 op start now
starts_asking_none op start now admitted is = subst (OpUnderWayWith [] 0 op start) (sym is) (
  record {
    trace = [];
    admitted = not_refused (refusal_at op start) admitted;
    table = refl;
    config = refl;
    follows = tt;
    phase = refl;
    going = (first_phase start.config (own_number start.items) op, refl);
    begins = refl;
    items = refl;
    moves = (start.seen, refl, refl);
  },
  refl,
  refl,
)

pub starts : (op : Op) (start now : SeatedTask) → Ok tt ≡ unless_refused (refusal_at op start) → now ≡ record start {
  begins = Some op;
  phase =
      Some (first_phase start.config (own_number start.items) op);
} → OpUnderWay op start now
starts op start now admitted is = (starts_asking_none op start now admitted is).0

-- one step of it, where a hook of the file system answers this
module _ (op : Op) (start now left : SeatedTask) (step : Step) (h : HookAnswer) (goes : OpUnderWay op start now)
    (after_step : (p : Phase) → now.phase ≡ Some p → Stepped p h now step left) where
  -- the configuration
  abbrev c : Config
  c = start.config

  -- the own number
  abbrev n : ℕ
  n = own_number start.items

  -- the phase that stands
  abbrev p : Phase
  p = goes.going.0

  -- its step
  did : Stepped p h now step left
  did = after_step p goes.going.1

  -- what the step found
  abbrev found : ℕ
  found = did.found

  -- what comes after it, and its action
  abbrev after : Next Phase × Option Action
  after = after_of p (found_by (next_of p h).1 found) h

  -- the step with the hook
  abbrev e : Traced
  e = with_hook (event_of (next_of p h).0 (next_of p h).1 found) h

  -- the trace with it
  abbrev trace : List Traced
  trace = e ∷ goes.trace

  -- the phase is the one that comes next
  stands_there : phase_after (state_of_trace c n op goes.trace).comes ≡ Some p
  stands_there = sym goes.phase ∙ goes.going.1

  -- the trace is one of the operation
  follows_after : IsTrace c n op trace
  follows_after = (next_is (state_of_trace c n op goes.trace).comes p e stands_there (found, refl, move_holds now.config now.begins p h now.items found now.seen left.seen did.moves), goes.follows)

  -- where the operation is after the step
  course_here : state_of_trace c n op trace ≡ trace_state_with (state_of_trace c n op goes.trace).added after
  course_here = course_is (state_of_trace c n op goes.trace).comes p (state_of_trace c n op goes.trace).added e stands_there

  -- the snapshot that it completes, if any
  completes_here : completed_by (state_of_trace c n op goes.trace).comes goes.trace e ≡ completes p goes.trace (found_by (next_of p h).1 found)
  completes_here = completed_is (state_of_trace c n op goes.trace).comes p goes.trace e stands_there

  -- a view after it
  ran_more : (others : List (ℕ × ℕ)) (x : View) →
      view_after_with_others others (ran_view c n op others goes.trace x) p found h ≡ ran_view c n op others trace x
  ran_more others x = λ i. record {
    op = Some op;
    phase = phase_after (sym course_here i).comes;
    actions = (actions_append after.1 (state_of_trace c n op goes.trace).added x.actions ∙
        ap (λ (o : TraceState). o.added ++ x.actions) (sym course_here)) i;
    before = x.actions;
    events = events_onto trace x.events;
    trace = trace;
    snapshot = last_snapshot (sym completes_here i) ((state_of_trace c n op goes.trace).added ++ x.actions) others
        (ran_snapshot c n op others goes.trace x);
  }

  -- all numbers after it
  ran_all : (l : DealtNumbers) → own_number l ≡ n → items_after None p h found (ran_items c op goes.trace l) ≡ ran_items c op trace l
  ran_all l same = grind (arith, ran_view, done_by, items_after, numbered, ran_more)

  -- the phase that is left
  phase_then : left.phase ≡ phase_after (state_of_trace c n op trace).comes
  phase_then = ap (λ (s : SeatedTask). s.phase) did.new ∙ ap (λ (o : TraceState). phase_after o.comes) (sym course_here)

  -- the numbers that are left
  items_then : left.items ≡ ran_items c op trace start.items
  items_then = grind (arith, did, after_entered, items_after, ran_so_far, ran_all)

  -- how the operation stands
  progress_then : step.progress ≡ progress_of after.0
  progress_then = ap (λ (s : Step). s.progress) did.step

  -- the table is the same
  table_then : left.table ≡ start.table
  table_then = ap (λ (s : SeatedTask). s.table) did.new ∙ goes.table

  -- and so is the configuration
  config_then : left.config ≡ c
  config_then = ap (λ (s : SeatedTask). s.config) did.new ∙ goes.config

  -- nothing has just begun
  begins_then : left.begins ≡ None
  begins_then = ap (λ (s : SeatedTask). s.begins) did.new

  -- each step was a move
  moves_then : AreMoves c op start.items start.seen trace left.seen
  moves_then =
      let P : Config × Option Op × DealtNumbers → Type 0 = λ z. HasWitness z.0 z.1 p h z.2 found now.seen left.seen in
      let moved : HasWitness c (begins_at op goes.trace) p h (items_at c op goes.trace start.items) found now.seen left.seen =
      subst P (λ j. (goes.config j, goes.begins j, goes.items j)) did.moves in
      let next = move_is c op start.items goes.trace e now.seen left.seen (state_of_trace c n op goes.trace).comes p stands_there (found, refl, moved) in
      (now.seen, next, goes.moves.0, goes.moves.1, goes.moves.2)

  -- what it leaves has one history
  history_then : HaveHistory c left.items left.seen
  history_then = grind (arith, items_after, move_has_history, did)

  -- where it does not reply, it goes on, with this step more
  goes_with_it : ((a : Result Reply GateError) → step.progress ≡ Ended a → ⊥) → (goes : OpUnderWay op start left) × (goes.trace ≡ trace)
  goes_with_it not = (
    record {
      trace = trace;
      admitted = goes.admitted;
      table = table_then;
      config = config_then;
      follows = follows_after;
      phase = phase_then;
      going =
          let g = goes_on after.0 (λ a is. not a (progress_then ∙ is)) in
          (g.0, ap (λ (s : SeatedTask). s.phase) did.new ∙ g.1);
      begins = begins_then;
      items = items_then;
      moves = (left.seen, same_stays_seen left.seen, moves_then);
    },
    refl,
  )

  pub goes_further : ((a : Result Reply GateError) → step.progress ≡ Ended a → ⊥) → OpUnderWay op start left
  goes_further not = (goes_with_it not).0

  -- a refusal leaves all unchanged
  unchanged_then : (a : Result Reply GateError) → (state_of_trace c n op trace).added ≡ actions_of op a trace →
      IsUnchangedBy a (state_of_trace c n op trace).added (own_view start.items) (own_view left.items)
  unchanged_then (Ok reply) is = tt
  unchanged_then (Err refusal) is =
      subst (λ l. IsUnchanged (state_of_trace c n op trace).added (own_view start.items) (own_view l)) (sym items_then)
      (is_unchanged c op refusal trace start.items
      (may_begin c (is_some start.phase) (held_of (own_view start.items)) op
      goes.admitted).order is)

  -- where it replies, it was done whole, with this step more
  ends_with_it : IsWithin c → (a : Result Reply GateError) → step.progress ≡ Ended a →
      (called : Called op start left a) × (called.trace ≡ trace)
  ends_with_it within a is =
      let last : after.0 ≡ Done a = done_is after.0 a (sym progress_then ∙ is) in
      let ends : (state_of_trace c n op trace).comes ≡ Done a = ap (λ (o : TraceState). o.comes) course_here ∙ last in
      let tells : Tells c op trace (Done a) (state_of_trace c n op trace).added =
      subst (λ s. Tells c op trace s (state_of_trace c n op trace).added) ends (((op_keeps c op).traces within).tells n trace follows_after) in
      let idle : left.phase ≡ None = phase_then ∙ ap (λ s. phase_after s) ends in (
        record {
          trace = trace;
          follows = follows_after;
          ends = ends;
          after = λ i. record { table = table_then i; config = config_then i; begins = begins_then i; phase = idle i; items = items_then i; seen = left.seen };
          moves = moves_then;
          added = tells.0;
          honest = tells.1;
          unchanged = unchanged_then a tells.0;
          waits = waits_honestly c n op within trace follows_after;
          short = ((op_keeps c op).traces within).short n trace follows_after;
          history = history_then;
        },
        refl,
      )

  pub ends_there : IsWithin c → (a : Result Reply GateError) → step.progress ≡ Ended a → Called op start left a
  ends_there within a is = (ends_with_it within a is).0

  -- so a step tells how it stands
  by_next : IsWithin c → (next : Next Phase) → after.0 ≡ next → ProgressMatches op start (progress_of next) left
  by_next within (Go q) is = goes_further (λ a ended. absurd (let told = progress_then ∙ ap progress_of is in let f : ⊥ = cc in f))
  by_next within (Wait q) is =
      let g = goes_with_it (λ a ended. absurd (let told = progress_then ∙ ap progress_of is in let f : ⊥ = cc in f)) in
      let comes : (state_of_trace c n op trace).comes ≡ Wait q = ap (λ (o : TraceState). o.comes) course_here ∙ is in
      let waits : IsHonestWait c op trace (state_of_trace c n op trace).comes = (waits_honestly c n op within trace follows_after).0 in
      (g.0, subst (MayWait c op) (sym g.1) (subst (IsHonestWait c op trace) comes waits))
  by_next within (Done a) is = ends_there within a (progress_then ∙ ap progress_of is)

  pub told_then : IsWithin c → ProgressMatches op start step.progress left
  told_then within = subst (λ p. ProgressMatches op start p left) (sym progress_then) (by_next within after.0 refl)

  -- the hooks that it has asked then
  asks_then : (asks : List Ask) → asks_of c op start.items goes.trace ≡ asks →
      asks_of c op start.items trace ≡ asks_with (call_at p) now.items h asks
  asks_then asks is = λ i.
      asks_with (call_is (state_of_trace c n op goes.trace).comes p stands_there i) (sym goes.items i) h (is i)

  -- how many of its steps have come to a wait then
  waits_then : (waits : ℕ) → waits_in c n op goes.trace ≡ waits → (next : Next Phase) → step.progress ≡ progress_of next →
      waits_in c n op trace ≡ waits + is_wait next
  waits_then waits is next at = λ i.
      is i + (ap (λ (o : TraceState). is_wait o.comes) course_here ∙ same_wait after.0 next (sym progress_then ∙ at)) i

  -- so it went, by what comes after the step
  pub went_asking : (asks : List Ask) (waits : ℕ) → asks_of c op start.items goes.trace ≡ asks → waits_in c n op goes.trace ≡ waits →
      IsWithin c → (next : Next Phase) → step.progress ≡ progress_of next →
      OpAfterStepWith (asks_with (call_at p) now.items h asks) waits op start next left
  went_asking asks waits is came within (Go q) at =
      let g = goes_with_it (λ a ended. absurd (let f : ⊥ = cc in f)) in (
        g.0,
        ap (asks_of c op start.items) g.1 ∙ asks_then asks is,
        ap (waits_in c n op) g.1 ∙ (waits_then waits came (Go q) at ∙ add-zero waits),
      )
  went_asking asks waits is came within (Wait q) at =
      let g = goes_with_it (λ a ended. absurd (let f : ⊥ = cc in f)) in
      (g.0, ap (asks_of c op start.items) g.1 ∙ asks_then asks is, ap (waits_in c n op) g.1 ∙ waits_then waits came (Wait q) at)
  went_asking asks waits is came within (Done a) at =
      let g = ends_with_it within a at in (
        g.0,
        ap (asks_of c op start.items) g.1 ∙ asks_then asks is,
        ap (waits_in c n op) g.1 ∙ (waits_then waits came (Done a) at ∙ add-zero waits),
      )

  -- and its trace has one step more
  grown : (begins : Option Op) (o : Option Phase) (l : DealtNumbers) → o ≡ Some p →
      HasWitness now.config begins p h l found now.seen left.seen →
      length (own_view (items_after begins p h found l)).trace ≡ length (own_view (entered_items begins o l)).trace + 1
  grown begins o l is moves = grind arith

  -- so it has had one step more
  one_more : steps_of left ≡ steps_of now + 1
  one_more = grind (arith, length, own_view, begins_then, not_entered, did, grown)

-- what is no more than the most is no more than the most of all
few : (most : Option ℕ) (trace : List Traced) → IsBounded most → IsShort most trace → IsSmall most → length trace ≤ most_events_of_all
few most trace bounded short small = grind arith

-- the own view's trace is the operation's
own_trace : (c : Config) (op : Op) (trace : List Traced) (l : DealtNumbers) → length (own_view (ran_items c op trace l)).trace ≤ length trace
own_trace c op trace l = grind arith

-- an operation that has a most number of steps has no more than the most of all
pub few_steps : (op : Op) (start now : SeatedTask) → IsWithin start.config → IsBounded (most_events start.config op) → OpUnderWay op start now →
    steps_of now ≤ most_events_of_all
few_steps op start now within tries goes =
    let c : Config = start.config in
    let keeps = op_keeps c op in
    let short = few (most_events c op) goes.trace tries ((keeps.traces within).short (own_number start.items) goes.trace goes.follows)
    (keeps.most_small within) in
    let own = own_trace c op goes.trace start.items in
    let same = ap (λ l. length (own_view l).trace) (ran_so_far op start now goes) in
    omega (arith, short, own, same)

-- what comes after the step tells whether it goes on
pub went_on : (op : Op) (start now left : SeatedTask) (step : Step) (hook : HookAnswer) (goes : OpUnderWay op start now)
    (after_step : (p : Phase) → now.phase ≡ Some p → Stepped p hook now step left) → IsWithin start.config →
    (next : Next Phase) → step.progress ≡ progress_of next → OpAfterStep op start next left
went_on op start now left step hook goes after_step within (Go q) is =
    goes_further op start now left step hook goes after_step (λ a ended. absurd (let f : ⊥ = cc in f))
went_on op start now left step hook goes after_step within (Wait q) is =
    goes_further op start now left step hook goes after_step (λ a ended. absurd (let f : ⊥ = cc in f))
went_on op start now left step hook goes after_step within (Done a) is = ends_there op start now left step hook goes after_step within a is

-- fewer steps are left after each
pub falls : (op : Op) (start now left : SeatedTask) (step : Step) (hook : HookAnswer) (goes : OpUnderWay op start now)
    (after_step : (p : Phase) → now.phase ≡ Some p → Stepped p hook now step left) → IsWithin start.config →
    IsBounded (most_events start.config op) →
    ((a : Result Reply GateError) → step.progress ≡ Ended a → ⊥) → events_left left < events_left now
falls op start now left step hook goes after_step within tries not =
    let few = few_steps op start left within tries (goes_further op start now left step hook goes after_step not) in
    let more = one_more op start now left step hook goes after_step in
    omega arith

-- a beginning that is refused
pub was_refused : {A : Type 0} (read : Reply → A) (op : Op) (old left : SeatedTask) (e : GateError) → Err e ≡
    unless_refused (refusal_at op old) → left ≡ old →
    Replies read op old left (Err e)
was_refused {A} read op old left e is same = record {
  table = ap (λ (s : SeatedTask). s.table) same;
  config = ap (λ (s : SeatedTask). s.config) same;
  refused = λ r at. (refused_as e (refusal_at op old) r is at, same);
  done = λ at. absurd (refused_none e (refusal_at op old) is at);
}

-- and one that isn't
abbrev pub was_done : {A : Type 0} (read : Reply → A) (op : Op) (old left : SeatedTask) (answer : Result Reply GateError)
    (outcome : Result A GateError) →
    outcome ≡ told_as read answer → Ok tt ≡ unless_refused (refusal_at op old) → Called op old left answer →
    Replies read op old left outcome
was_done read op old left answer outcome told is called = record {
  table = ap (λ (s : SeatedTask). s.table) called.after;
  config = ap (λ (s : SeatedTask). s.config) called.after;
  refused = λ r at. absurd (admitted_some (refusal_at op old) r is at);
  done = λ at. (answer, told, called);
}

-- an answer that is told whole
pub told_whole : (answer : Result Reply GateError) → told_as the_reply answer ≡ answer
told_whole answer = grind arith

-- what is told of an answer that was told whole
pub told_twice : {A : Type 0} (read : Reply → A) (answer : Result Reply GateError) → told_as read (told_as the_reply answer) ≡
    told_as read answer
told_twice read answer = grind arith

-- a call that tells of another's answer what it reads of replies
abbrev pub was_told : {A : Type 0} (read : Reply → A) (op : Op) (old left : SeatedTask) (answer : Result Reply GateError)
    (outcome : Result A GateError) →
    Replies the_reply op old left answer → outcome ≡ told_as read answer → Replies read op old left outcome
was_told read op old left answer outcome replies told = record {
  table = replies.table;
  config = replies.config;
  refused = λ r at. (told ∙ ap (told_as read) (replies.refused r at).0, (replies.refused r at).1);
  done = λ at. let done = replies.done at in (done.0, told ∙ (ap (told_as read) done.1 ∙ told_twice read done.0), done.2);
}

-- a callback's
pub ran_told : (level : ℕ) (reply : Reply) (events : List Traced) → ReplyMatchesTrace (Callback level) reply events → IsRanReply reply
ran_told level reply events told = grind arith
