-- A call that begins an operation and does its steps on what the task keeps, and what it writes down at the end.
use Rattle.vfs_gates.proofs.Prelude.{Accesses, Bool, Called, Config, Done, Err, GateError, GhostAgrees, Go, HookAnswer, HookCall, List, Next, None}
use Rattle.vfs_gates.proofs.Prelude.{Numbered, Ok, Op, OpUnderWay, Option, Phase, Reply, Result, SeatedTask, Some, TableId, TaskState, Wait, [], ap}
use Rattle.vfs_gates.proofs.Prelude.{false, first_phase, held_of, is_some, own_number, own_view, phase_after, refl, refusal_at, state_at, subst, sym}
use Rattle.vfs_gates.proofs.Prelude.{task_state, ℕ, ◌∙◌, ◌∷◌, ◌≡◌}
use Rattle.gate_steps.proofs.call_events.{Beginnings.{MayBegin, first_fits, may_begin}, Running.{not_refused, starts_asking_none}}
use Rattle.gate_steps.specs.call_events.{Answers.unless_refused, Asking.{CalledAsking, OpUnderWayWith}, GhostAgrees.{OwnNumberAgrees, PhaseOk}}
use Rattle.gate_steps.specs.call_events.{Seating.DealtNumbers, Turns.{AgreesAfter, StateAgrees}, Waited.OpAfterStepWaiting}
use Rattle.gate_steps.specs.declared.seating.Knowledge.{Knowledge}
use Rattle.gate_world.specs.{Beginnings.refusal, Fits.Fits}
use Rattle.vfs_gates.proofs.Admitting.{admitted_unless, first_so}
use Rattle.vfs_gates.specs.declared.task.Task.TheInside.{Inside}

-- an option that has nothing in it
none_of : (o : Option Phase) → is_some o ≡ false → o ≡ None
none_of None is = refl
none_of (Some phase) is = absurd (cc)

-- A call of an operation that was admitted: the task's fields, its state before the call, the configuration as the gates name it, and the
-- first phase of the operation.
pub record Call : Type 0 where
  pub op : Op
  pub task : Inside
  pub gates : Config
  pub start : SeatedTask
  pub start_is : task_state task.seat.table_id task.config task.begins task.state.phase task.seat.me.0 ≡ start
  pub from : start.config ≡ gates
  pub ghost_agrees : GhostAgrees task.number task.config task.begins task.state task.spare task.seat.me.0.items
  pub admitted : Ok tt ≡ unless_refused (refusal_at op start)
  pub first : Phase
  pub first_is : first ≡ first_phase task.config task.number op

-- of these parts
abbrev pub call_of : (op : Op) (task : Inside) (gates : Config) (start : SeatedTask) →
    task_state task.seat.table_id task.config task.begins task.state.phase task.seat.me.0 ≡ start → start.config ≡ gates →
    GhostAgrees task.number task.config task.begins task.state task.spare task.seat.me.0.items → Ok tt ≡ unless_refused (refusal_at op start) →
    (first : Phase) → first ≡ first_phase task.config task.number op → Call
call_of op task gates start start_is from ghost_agrees admitted first first_is = record {
  op = op;
  task = task;
  gates = gates;
  start = start;
  start_is = start_is;
  from = from;
  ghost_agrees = ghost_agrees;
  admitted = admitted;
  first = first;
  first_is = first_is;
}

-- the call of an operation that was not refused, and whose first phase is this
abbrev pub call_with : (op : Op) (task : Inside) (gates : Config) (start : SeatedTask) →
    task_state task.seat.table_id task.config task.begins task.state.phase task.seat.me.0 ≡ start → start.config ≡ gates →
    GhostAgrees task.number task.config task.begins task.state task.spare task.seat.me.0.items → (answer : Result (Unit {0}) GateError) →
    answer ≡ unless_refused (refusal_at op start) → ((refused : GateError) → answer ≡ Err refused → ⊥) →
    (first : Phase) → first ≡ first_phase start.config (own_number start.items) op → Call
call_with op task gates start start_is from ghost_agrees answer answer_is granted first is =
    call_of op task gates start start_is from ghost_agrees (admitted_unless op start answer answer_is granted) first
    (first_so op task start start_is ghost_agrees first is)

-- the numbers of the task, as the call finds them
abbrev pub items_of : Call → DealtNumbers
items_of call = call.task.seat.me.0.items

-- What comes after the last step of a call that has done some, and what it has left of the accesses and the numbers. Before that step so
-- many came to a wait.
pub record Left (call : Call) : Type 0 where
  pub next : Next Phase
  pub accesses : Accesses
  pub known : Knowledge
  pub table : TableId
  pub agrees : AgreesAfter call.gates (Some call.op) (Some call.first) call.task.state.accesses (items_of call) (phase_after next) accesses known.items
  pub waits : ℕ
  pub went : OpAfterStepWaiting waits call.op call.start next (task_state table call.gates None (phase_after next) known)

-- where a phase comes next, the operation goes on
goes_on : (op : Op) (start now : SeatedTask) (next : Next Phase) (phase : Phase) → phase_after next ≡ Some phase → (waits : ℕ) →
    OpAfterStepWaiting waits op start next now → OpUnderWay op start now
goes_on op start now (Go q) phase is waits went = went.0
goes_on op start now (Wait q) phase is waits went = went.0
goes_on op start now (Done answer) phase is waits went = absurd (let f : ⊥ = cc in f)

-- before the first step
module _ (call : Call) where
  -- the task's own number
  abbrev number : ℕ
  number = call.task.number

  -- its configuration
  abbrev c : Config
  c = call.task.config

  -- what it keeps of its phase and accesses
  abbrev state : TaskState
  state = call.task.state

  -- the numbers that it has to give
  abbrev flags : List Bool
  flags = call.task.spare

  -- the operation
  abbrev op : Op
  op = call.op

  -- the gates name the same configuration
  pub same : c ≡ call.gates
  same = ap (λ (s : SeatedTask). s.config) call.start_is ∙ call.from

  -- the beginning has no refusal
  none_refused : refusal c (is_some state.phase) (held_of (own_view (items_of call))) op ≡ None
  none_refused = ap (refusal_at op) call.start_is ∙ not_refused (refusal_at op call.start) call.admitted

  -- so the operation may begin
  begins_here : MayBegin c (is_some state.phase) (held_of (own_view (items_of call))) op
  begins_here = may_begin c (is_some state.phase) (held_of (own_view (items_of call))) op none_refused

  -- and its first phase fits
  first_here : Fits c number (held_of (own_view (items_of call))) (Some (first_phase c number op))
  first_here = first_fits c number (is_some state.phase) (held_of (own_view (items_of call))) op begins_here

  -- the task was idle
  pub idle : state.phase ≡ None
  idle = none_of state.phase begins_here.idle

  -- the operation's first phase
  abbrev the_first : Phase
  the_first = first_phase c number op

  -- the own view stands where the task does
  at_rest : (x : Numbered) (xs : DealtNumbers) → OwnNumberAgrees number c call.task.begins state flags x xs →
      (call.task.begins ≡ None) × (x.view.phase ≡ None)
  at_rest x xs t = subst (λ o. PhaseOk c call.task.begins o x) idle t.may

  -- a beginning leaves an own number that agrees
  begun_own : (x : Numbered) (xs : DealtNumbers) → items_of call ≡ x ∷ xs → OwnNumberAgrees number c call.task.begins state flags x xs →
      OwnNumberAgrees number c (Some op) (state_at (Some the_first) state.accesses) flags x xs
  begun_own x xs here t = record {
    within = t.within;
    same_number = t.same_number;
    below = t.below;
    may = (
      let at : refusal c (is_some state.phase) (held_of x.view) op ≡ None =
          subst (λ (l : DealtNumbers). refusal c (is_some state.phase) (held_of (own_view l)) op ≡ None) here
          none_refused in
          ap (λ (o : Option Phase). refusal c (is_some o) (held_of x.view) op) ((at_rest x xs t).1 ∙ sym idle) ∙ at,
      ap (λ (n : ℕ). first_phase c n op) (sym t.same_number),
    );
    fits =
        subst (λ (n : ℕ). Fits c n (held_of x.view) (Some the_first)) (sym t.same_number)
        (subst (λ (l : DealtNumbers). Fits c number (held_of (own_view l)) (Some the_first)) here first_here);
    keeps = record { long = t.keeps.long; wide = t.keeps.wide; deep = t.keeps.deep; held = t.keeps.held };
    rest = t.rest;
    marks = t.marks;
  }

  -- and all numbers
  begun_ghost_agrees : (l : DealtNumbers) → items_of call ≡ l → GhostAgrees number c call.task.begins state flags l →
      GhostAgrees number c (Some op) (state_at (Some the_first) state.accesses) flags l
  begun_ghost_agrees [] here t = absurd t
  begun_ghost_agrees (x ∷ xs) here t = begun_own x xs here t

  -- what agreement says of the own number
  own_same : (l : DealtNumbers) → GhostAgrees number c call.task.begins state flags l → (call.task.begins ≡ None) × (own_number l ≡ number)
  own_same [] t = absurd t
  own_same (x ∷ xs) t = ((at_rest x xs t).0, t.same_number)

  -- no operation had begun
  pub not_begun : call.task.begins ≡ None
  not_begun = (own_same (items_of call) call.ghost_agrees).0

  -- the task's own number is its first
  pub own_is : own_number (items_of call) ≡ number
  own_is = (own_same (items_of call) call.ghost_agrees).1

  -- the fields that a beginning leaves
  pub begun : GhostAgrees number c (Some op) (state_at (Some call.first) state.accesses) flags (items_of call)
  begun = subst (λ (p : Phase). GhostAgrees number c (Some op) (state_at (Some p) state.accesses) flags (items_of call)) (sym call.first_is)
      (begun_ghost_agrees (items_of call) refl call.ghost_agrees)

  -- and the state
  pub begun_state : task_state call.task.seat.table_id c (Some op) (Some call.first) call.task.seat.me.0 ≡
      record call.start { begins = Some op; phase = Some (first_phase call.start.config (own_number call.start.items) op) }
  begun_state =
      (λ i. task_state call.task.seat.table_id c (Some op) (Some ((call.first_is ∙ ap (λ (n : ℕ). first_phase c n op) (sym own_is)) i))
      call.task.seat.me.0) ∙
      ap (λ (s : SeatedTask). record s { begins = Some op; phase = Some (first_phase s.config (own_number s.items) op) }) call.start_is

  -- as the first step finds them
  pub after_begin : GhostAgrees number call.gates (Some op) (state_at (Some call.first) state.accesses) flags (items_of call)
  after_begin = subst (λ (d : Config). GhostAgrees number d (Some op) (state_at (Some call.first) state.accesses) flags (items_of call)) same begun

  -- so the first step may be done
  pub is_agrees : StateAgrees call.gates (Some op) (Some call.first) state.accesses (items_of call)
  is_agrees = record { number = number; flags = flags; ghost_agrees = after_begin }

  -- the operation goes on from there, with no hook asked and no wait
  pub has_asked_none : OpUnderWayWith [] 0 op call.start (task_state call.task.seat.table_id call.gates (Some op) (Some call.first) call.task.seat.me.0)
  has_asked_none =
      starts_asking_none op call.start (task_state call.task.seat.table_id call.gates (Some op) (Some call.first) call.task.seat.me.0) call.admitted
      ((λ i. task_state call.task.seat.table_id (sym same i) (Some op) (Some call.first) call.task.seat.me.0) ∙ begun_state)

  pub has_begun : OpUnderWay op call.start (task_state call.task.seat.table_id call.gates (Some op) (Some call.first) call.task.seat.me.0)
  has_begun = has_asked_none.0

  -- after the last step, as it is written down
  module _ (left : Left call) where
    -- the state that the last step left
    abbrev found : SeatedTask
    found = task_state left.table call.gates None (phase_after left.next) left.known

    -- the fields, where what comes next is this phase or none
    pub ghost_agrees_at : (o : Option Phase) → phase_after left.next ≡ o → GhostAgrees number c call.task.begins (state_at o left.accesses) flags left.known.items
    ghost_agrees_at o is =
        let P : Config × Option Op × Option Phase → Type 0 = λ z. GhostAgrees number z.0 z.1 (state_at z.2 left.accesses) flags left.known.items in
        subst P (λ i. (sym same i, sym not_begun i, is i)) (left.agrees number flags after_begin)

    -- the same where nothing comes next: what is kept of the phase stays as it was
    pub ghost_agrees_done : (answer : Result Reply GateError) → left.next ≡ Done answer →
        GhostAgrees number c call.task.begins (state_at state.phase left.accesses) flags left.known.items
    ghost_agrees_done answer is = ghost_agrees_at state.phase (ap (λ (n : Next Phase). phase_after n) is ∙ sym idle)

    -- it is the state that the task shows then
    there_at : (o : Option Phase) → phase_after left.next ≡ o → found ≡ task_state left.table c call.task.begins o left.known
    there_at o is = λ i. task_state left.table (sym same i) (sym not_begun i) (is i) left.known

    -- the operation goes on at this phase
    pub goes_at : (phase : Phase) → phase_after left.next ≡ Some phase →
        OpUnderWay op call.start (task_state left.table c call.task.begins (Some phase) left.known)
    goes_at phase is = subst (OpUnderWay op call.start) (there_at (Some phase) is) (goes_on op call.start found left.next phase is left.waits left.went)

    -- or it was done whole
    pub ended_at : (answer : Result Reply GateError) → left.next ≡ Done answer →
        Called op call.start (task_state left.table c call.task.begins state.phase left.known) answer
    ended_at answer is =
        let stands : phase_after left.next ≡ state.phase = ap (λ (n : Next Phase). phase_after n) is ∙ sym idle in
        subst (λ (s : SeatedTask). Called op call.start s answer) (there_at state.phase stands)
        (subst (λ (n : Next Phase). OpAfterStepWaiting left.waits op call.start n found) is left.went).0

    -- with the hooks that it has asked
    pub ended_asking : {H : Type 0} (answers : HookCall → DealtNumbers → H → HookAnswer → H → Type 0) (before hooks : H)
        (answer : Result Reply GateError) (waited : ℕ) → left.next ≡ Done answer →
        CalledAsking answers op call.start before (task_state left.table call.gates None None left.known) answer waited hooks →
        CalledAsking answers op call.start before (task_state left.table c call.task.begins state.phase left.known) answer waited hooks
    ended_asking answers before hooks answer waited is called =
        let at : task_state left.table call.gates None None left.known ≡ task_state left.table c call.task.begins state.phase left.known =
        λ i. task_state left.table (sym same i) (sym not_begun i) (sym idle i) left.known in
        subst (λ s. CalledAsking answers op call.start before s answer waited hooks) at called
