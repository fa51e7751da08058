-- Where lines of steps lead.
use Rattle.gate_steps.proofs.Prelude.{Accesses, Action, Ask, DealtNumbers, Event, Go, HasWitness, HookAnswer, List, Next, None, Op, Option, Phase}
use Rattle.gate_steps.proofs.Prelude.{SeatedTask, Touch, WordName, after_of, ap, asks_with, call_at, event_of, found_by, items_after, next_of}
use Rattle.gate_steps.proofs.Prelude.{phase_after, refl, subst, sym, ℕ, ◌∙◌, ◌≡◌}
use Rattle.{freeze_levels.specs.declared.hooks.HookCall.HookCall, gate_world.specs.Accesses.accesses_after}
use Rattle.gate_steps.proofs.call_events.{Asking.{AskedFor, asks_more}, Turning.{stay_agrees, stepped_so, went_with_so}}
use Rattle.gate_steps.specs.call_events.{Asking.{OpAfterStepWith, OpUnderWayWith, WereAsked}, Led.{Led, LedAsking, Stands, StaysSeated, TaskSeat}}
use Rattle.gate_steps.specs.{call_events.{Led.seated_at, Turns.{AgreesAfter, StateAgrees}}, declared.call_events.words.GateWords.GateWords}

-- one step, whose word and touch are known
module _ (gates : GateWords) (begins : Option Op) (phase : Phase) (accesses accesses_left : Accesses) (seat left : TaskSeat) (hook : HookAnswer)
    (found : ℕ) (known : WordName × Touch) (known_is : known ≡ next_of phase hook) (finds : found_by known.1 found ≡ found)
    (leaves : accesses_left ≡ accesses_after accesses (after_of phase found hook).1) (stands : Stands gates begins (Go phase) accesses seat)
    (items : left.me.0.items ≡ items_after begins phase hook found seat.me.0.items)
    (moves : HasWitness gates.table.shared.key begins phase hook seat.me.0.items found seat.me.0.seen left.me.0.seen)
    (table : left.table_id ≡ seat.table_id) (slots : left.me.1 ≡ seat.me.1) where
  -- the step as it is printed
  abbrev event : Event
  event = event_of (next_of phase hook).0 (next_of phase hook).1 found

  -- it has found what the touch did
  here : event.found ≡ found
  here = subst (λ (z : WordName × Touch). found_by z.1 found ≡ found) known_is finds

  -- what comes after it
  done_is : after_of phase found hook ≡ after_of phase event.found hook
  done_is = ap (λ n. after_of phase n hook) (sym here)

  -- its task stays seated
  stays : StaysSeated gates begins (Go phase) accesses seat (after_of phase found hook).0 accesses_left left
  stays = record {
    same_table = table;
    same_slots = slots;
    agrees = λ number flags ghost_agrees.
        stay_agrees gates.config gates.table.shared.key gates.key begins phase accesses accesses_left hook seat.me.0.items left.me.0.items found
        event refl (after_of phase found hook) done_is leaves items number flags ghost_agrees;
  }

  -- and so has every operation that came here
  went_by : (op : Op) (start : SeatedTask) (asks : List Ask) (waits : ℕ) →
      OpAfterStepWith asks waits op start (Go phase) (seated_at gates begins (Go phase) seat) →
      OpAfterStepWith (asks_with (call_at phase) seat.me.0.items hook asks) waits op start (after_of phase found hook).0
      (seated_at gates None (after_of phase found hook).0 left)
  went_by op start asks waits went =
      let done : Next Phase × Option Action = after_of phase found hook in
      let agrees = stands.agrees in
      went_with_so gates.config gates.within op start event done.1 done.0 hook asks waits {items = seat.me.0} {left = left.me.0} went
      (stepped_so gates.config gates.table.shared.key gates.key begins phase accesses accesses_left hook seat.me.0.items left.me.0.items found
      event refl done done_is leaves items agrees.number agrees.flags agrees.ghost_agrees seat.me.0.seen left.me.0.seen moves left.table_id
      seat.table_id table)

  -- where it reads no hook
  pub led_by : call_at phase ≡ None → Led gates begins (Go phase) accesses seat (after_of phase found hook).0 accesses_left left
  led_by unasked = record {
    seated = stays;
    went = λ op start asks waits went.
        subst (λ wanted. OpAfterStepWith (asks_with wanted seat.me.0.items hook asks) waits op start (after_of phase found hook).0
        (seated_at gates None (after_of phase found hook).0 left)) unasked (went_by op start asks waits went);
  }

  -- where it reads one, which was asked right before it
  pub led_asking_by : {H : Type 0} (answers : HookCall → DealtNumbers → H → HookAnswer → H → Type 0) (hooks asked : H) →
      AskedFor answers (call_at phase) seat.me.0.items hook hooks asked →
      LedAsking answers gates begins (Go phase) accesses seat hooks (after_of phase found hook).0 accesses_left left asked
  led_asking_by answers hooks asked was = record {
    seated = stays;
    went = λ op start first waits went. (
      asks_with (call_at phase) seat.me.0.items hook went.0,
      went_by op start went.0 waits went.1,
      asks_more answers (call_at phase) seat.me.0.items hook went.0 first hooks asked went.2 was,
    );
  }

module _ {gates : GateWords} {begins : Option Op} {accesses accesses_left : Accesses} {a b : Next Phase} {sa sb : TaskSeat} where
  -- a task that stays seated stands where the steps have led
  pub seated_stands : StaysSeated gates begins a accesses sa b accesses_left sb → Stands gates begins a accesses sa →
      Stands gates None b accesses_left sb
  seated_stands seated stands = let t = stands.agrees in record {
    table = seated.same_table ∙ stands.table;
    agrees = record { number = t.number; flags = t.flags; ghost_agrees = seated.agrees t.number t.flags t.ghost_agrees };
  }

  -- and stays so by further ones
  pub seated_on : {d : Next Phase} {accesses_last : Accesses} {sd : TaskSeat} → StaysSeated gates begins a accesses sa b accesses_left sb →
      StaysSeated gates None b accesses_left sb d accesses_last sd → StaysSeated gates begins a accesses sa d accesses_last sd
  seated_on one two = record {
    same_table = two.same_table ∙ one.same_table;
    same_slots = two.same_slots ∙ one.same_slots;
    agrees = λ number flags ghost_agrees. two.agrees number flags (one.agrees number flags ghost_agrees);
  }

  -- one line after the other
  pub led_on : {d : Next Phase} {accesses_last : Accesses} {sd : TaskSeat} → Led gates begins a accesses sa b accesses_left sb →
      Led gates None b accesses_left sb d accesses_last sd → Led gates begins a accesses sa d accesses_last sd
  led_on one two = record {
    seated = seated_on one.seated two.seated;
    went = λ op start asks waits went. two.went op start asks waits (one.went op start asks waits went);
  }

  -- what comes next, said otherwise
  pub led_to : {d : Next Phase} → b ≡ d → Led gates begins a accesses sa b accesses_left sb → Led gates begins a accesses sa d accesses_left sb
  led_to is led = subst (λ (n : Next Phase). Led gates begins a accesses sa n accesses_left sb) is led

  -- and where it stood
  pub led_from : {d : Next Phase} → a ≡ d → Led gates begins a accesses sa b accesses_left sb → Led gates begins d accesses sa b accesses_left sb
  led_from is led = subst (λ (n : Next Phase). Led gates begins n accesses sa b accesses_left sb) is led

  -- where a line has led, the operation stands
  pub still_stands : Led gates begins a accesses sa b accesses_left sb → Stands gates begins a accesses sa → Stands gates None b accesses_left sb
  still_stands led = seated_stands led.seated

  module _ {H : Type 0} {answers : HookCall → DealtNumbers → H → HookAnswer → H → Type 0} {ha hb : H} where
    -- a line that asks no hook
    pub led_unasked : Led gates begins a accesses sa b accesses_left sb → hb ≡ ha →
        LedAsking answers gates begins a accesses sa ha b accesses_left sb hb
    led_unasked led same = record {
      seated = led.seated;
      went = λ op start before waits went. (
        went.0,
        led.went op start went.0 waits went.1,
        subst (λ (h : H). WereAsked answers went.0 before h) (sym same) went.2,
      );
    }

    -- one line after the other
    pub asking_on : {d : Next Phase} {accesses_last : Accesses} {sd : TaskSeat} {hd : H} →
        LedAsking answers gates begins a accesses sa ha b accesses_left sb hb → LedAsking answers gates None b accesses_left sb hb d accesses_last sd hd →
        LedAsking answers gates begins a accesses sa ha d accesses_last sd hd
    asking_on one two = record {
      seated = seated_on one.seated two.seated;
      went = λ op start before waits went. two.went op start before waits (one.went op start before waits went);
    }

    -- what comes next, said otherwise
    pub asking_to : {d : Next Phase} → b ≡ d → LedAsking answers gates begins a accesses sa ha b accesses_left sb hb →
        LedAsking answers gates begins a accesses sa ha d accesses_left sb hb
    asking_to is led = subst (λ (n : Next Phase). LedAsking answers gates begins a accesses sa ha n accesses_left sb hb) is led

    -- and where it stood
    pub asking_from : {d : Next Phase} → a ≡ d → LedAsking answers gates begins a accesses sa ha b accesses_left sb hb →
        LedAsking answers gates begins d accesses sa ha b accesses_left sb hb
    asking_from is led = subst (λ (n : Next Phase). LedAsking answers gates begins n accesses sa ha b accesses_left sb hb) is led

    -- where a line has led, the operation stands
    pub asking_stands : LedAsking answers gates begins a accesses sa ha b accesses_left sb hb → Stands gates begins a accesses sa →
        Stands gates None b accesses_left sb
    asking_stands led = seated_stands led.seated

-- one step of an operation, which reads no answer of a hook
pub led_once : {gates : GateWords} {begins : Option Op} {accesses accesses_left : Accesses} {phase : Phase} {next : Next Phase}
    {sa sb : TaskSeat} (hook : HookAnswer) → call_at phase ≡ None → StaysSeated gates begins (Go phase) accesses sa next accesses_left sb →
    ((op : Op) (start : SeatedTask) (asks : List Ask) (waits : ℕ) → OpUnderWayWith asks waits op start (seated_at gates begins (Go phase) sa) →
    OpAfterStepWith (asks_with (call_at phase) sa.me.0.items hook asks) waits op start next (seated_at gates None next sb)) →
    Led gates begins (Go phase) accesses sa next accesses_left sb
led_once {gates} {begins} {accesses} {accesses_left} {phase} {next} {sa} {sb} hook unasked seated went = record {
  seated = seated;
  went = λ op start asks waits goes.
      subst (λ wanted. OpAfterStepWith (asks_with wanted sa.me.0.items hook asks) waits op start next (seated_at gates None next sb)) unasked
      (went op start asks waits goes);
}

-- no step
pub seated_nowhere : (gates : GateWords) (a : Next Phase) (accesses : Accesses) (sa : TaskSeat) → StaysSeated gates None a accesses sa a accesses sa
seated_nowhere gates a accesses sa = record { same_table = refl; same_slots = refl; agrees = λ number flags ghost_agrees. ghost_agrees }

pub led_nowhere : (gates : GateWords) (a : Next Phase) (accesses : Accesses) (sa : TaskSeat) → Led gates None a accesses sa a accesses sa
led_nowhere gates a accesses sa = record {
  seated = seated_nowhere gates a accesses sa;
  went = λ op start asks waits went. went;
}

-- where it stands, said otherwise
pub stands_from : {gates : GateWords} {begins : Option Op} {accesses : Accesses} {a b : Next Phase} {sa : TaskSeat} → a ≡ b →
    Stands gates begins b accesses sa → Stands gates begins a accesses sa
stands_from {gates} {begins} {accesses} {a} {b} {sa} is stands = subst (λ (n : Next Phase). Stands gates begins n accesses sa) (sym is) stands

-- an operation that waits at a phase stands there as one that goes on
pub stands_as : {gates : GateWords} {begins : Option Op} {accesses : Accesses} {a b : Next Phase} {sa : TaskSeat} → phase_after a ≡ phase_after b →
    Stands gates begins a accesses sa → Stands gates begins b accesses sa
stands_as {gates} {begins} {accesses} {a} {b} {sa} is stands = record {
  table = stands.table;
  agrees = subst (λ (o : Option Phase). StateAgrees gates.config begins o accesses sa.me.0.items) is stands.agrees;
}

pub seated_as : {gates : GateWords} {begins : Option Op} {accesses accesses_left : Accesses} {a b d : Next Phase} {sa sb : TaskSeat} →
    phase_after b ≡ phase_after d → StaysSeated gates begins a accesses sa b accesses_left sb →
    StaysSeated gates begins a accesses sa d accesses_left sb
seated_as {gates} {begins} {accesses} {accesses_left} {a} {b} {d} {sa} {sb} is seated = record {
  same_table = seated.same_table;
  same_slots = seated.same_slots;
  agrees = subst (λ (o : Option Phase). AgreesAfter gates.config begins (phase_after a) accesses sa.me.0.items o accesses_left sb.me.0.items) is
      seated.agrees;
}
