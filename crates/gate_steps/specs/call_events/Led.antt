-- Where an operation stands, and where lines of steps lead it.
use Rattle.std.specs.Prelude.{List, None, Option, ℕ, ◌≡◌}
use Rattle.{access_model.specs.declared.replies.Next.Next, atomic_table.specs.declared.Seat.Seat, cpu_words.specs.Hooks.HookAnswer}
use Rattle.freeze_levels.specs.declared.hooks.HookCall.{HookCall}
use Rattle.gate_world.specs.{Views.phase_after, declared.{accesses.Accesses.Accesses, operations.Op.Op, work.Phase.Phase}}
use Rattle.gate_steps.specs.{Seating.DealtNumbers, call_events.Asking.{Ask, OpAfterStepAsking, OpAfterStepWith}}
use Rattle.gate_steps.specs.call_events.{SeatedTasks.{SeatedTask, task_state}, Turns.{AgreesAfter, StateAgrees}}
use Rattle.gate_steps.specs.declared.{call_events.words.GateWords.GateWords, seating.Knowledge.Knowledge}

-- the seat of a task at the table
abbrev pub TaskSeat : Type 0
TaskSeat = Seat (Unit {0}) Knowledge

-- a task with this seat, whose operation stands there
abbrev pub seated_at : GateWords → Option Op → Next Phase → TaskSeat → SeatedTask
seated_at gates begins next seat = task_state seat.table_id gates.config begins (phase_after next) seat.me.0

-- An operation stands there: the seat of its task is one of these gates' table, and the fields of the task are what the seat knows.
pub record Stands (gates : GateWords) (begins : Option Op) (next : Next Phase) (accesses : Accesses) (seat : TaskSeat) : Type 0 where
  pub table : seat.table_id ≡ gates.table.shared.table_id
  pub agrees : StateAgrees gates.config begins (phase_after next) accesses seat.me.0.items

-- A task that stood there is seated further on: its seat is one of the same table, with the same slots, and its fields are what the seat knows,
-- as before.
pub record StaysSeated (gates : GateWords) (begins : Option Op) (next : Next Phase) (accesses : Accesses) (seat : TaskSeat)
    (further : Next Phase) (accesses_left : Accesses) (left : TaskSeat) : Type 0 where
  pub same_table : left.table_id ≡ seat.table_id
  pub same_slots : left.me.1 ≡ seat.me.1
  pub agrees : AgreesAfter gates.config begins (phase_after next) accesses seat.me.0.items (phase_after further) accesses_left left.me.0.items

-- Steps that ask no hook have led an operation from where it stood to where it stands: its task stays seated, and whichever operation has gone
-- there with these asks has come here with no other. Where it had begun and had no step yet, it has had its first.
pub record Led (gates : GateWords) (begins : Option Op) (next : Next Phase) (accesses : Accesses) (seat : TaskSeat) (further : Next Phase)
    (accesses_left : Accesses) (left : TaskSeat) : Type 0 where
  pub seated : StaysSeated gates begins next accesses seat further accesses_left left
  pub went : (op : Op) (start : SeatedTask) (asks : List Ask) (waits : ℕ) →
      OpAfterStepWith asks waits op start next (seated_at gates begins next seat) →
      OpAfterStepWith asks waits op start further (seated_at gates None further left)

-- Steps that may ask hooks: whichever operation has gone there, and has asked just the hooks whose answers its steps read, has come
-- here, and has asked just those.
pub record LedAsking {H : Type 0} (answers : HookCall → DealtNumbers → H → HookAnswer → H → Type 0) (gates : GateWords) (begins : Option Op)
    (next : Next Phase) (accesses : Accesses) (seat : TaskSeat) (hooks : H) (further : Next Phase) (accesses_left : Accesses)
    (left : TaskSeat) (hooks_left : H) : Type 0 where
  pub seated : StaysSeated gates begins next accesses seat further accesses_left left
  pub went : (op : Op) (start : SeatedTask) (before : H) (waits : ℕ) →
      OpAfterStepAsking answers waits op start before next (seated_at gates begins next seat) hooks →
      OpAfterStepAsking answers waits op start before further (seated_at gates None further left) hooks_left
