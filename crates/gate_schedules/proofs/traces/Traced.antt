-- Each view follows its operation, after every execution.
use Rattle.gate_schedules.proofs.Prelude.{Config, Entry, GateError, HookAnswer, None, Op, Option, Phase, Some, View, World, arith, cases_Bool}
use Rattle.gate_schedules.proofs.Prelude.{cases_lt, each_updated, happens, inl, inr, le-ltb, lt-ltb, nat_lt, next_of, refl, step_of, value_at}
use Rattle.gate_schedules.proofs.Prelude.{view_after, ℕ, ◌<◌, ◌≡◌}
use Rattle.gate_world.specs.{Beginnings.view_refusal, Worlds.{begin_of, begin_refusal, opening}, declared.entries.Entry.TheVariants.{Begins, Steps}}
use Rattle.gate_world.specs.traces.TraceStates.{AllTraced, EventsMayBe, IsTraced, ReadIsValid}

-- the next step of a view that follows its operation
step_follows : (c : Config) (t : ℕ) (v : View) (op : Option Op) (phase : Phase) (value : ℕ) (hook : HookAnswer) → v.phase ≡ Some phase →
    ReadIsValid phase (next_of phase hook).0 value → IsTraced c t v op → IsTraced c t (view_after v phase value hook) op
step_follows c t v op phase value hook e may h = grind arith

-- a beginning empties the trace, and notes the actions so far
begin_keeps : (c : Config) (w : World) (t : ℕ) (op : Op) (refused : Option GateError) → view_refusal c (w.views t) op ≡ refused →
    AllTraced c w →
    AllTraced c (begin_of c w t op refused)
begin_keeps c w t op refused e h x = grind arith

begin_entry : (c : Config) (w : World) (t : ℕ) (op : Op) → AllTraced c w → AllTraced c (begin_of c w t op (begin_refusal c w t op))
begin_entry c w t op h =
    elim (cases_Bool (nat_lt t c.tasks)) [
      | inl f ↦ rw f (begin_keeps c w t op (view_refusal c (w.views t) op) refl h)
      | inr f ↦ rw f h
    ]

-- a transition adds the step that the phase wants, on a word that holds what it may
step_keeps : (c : Config) (w : World) (t : ℕ) (hook : HookAnswer) (phase : Option Phase) → (w.views t).phase ≡ phase → t < c.tasks →
    EventsMayBe c w → AllTraced c w → AllTraced c (step_of w t hook phase)
step_keeps c w t hook None e lt may h x = h x
step_keeps c w t hook (Some phase) e lt may h x =
    each_updated (λ y (v : View). IsTraced c y v v.op) w.views t (view_after (w.views t) phase (value_at w.words phase hook) hook) x
    (step_follows c t (w.views t) (w.views t).op phase (value_at w.words phase hook) hook e (may t lt phase hook e) (h t)) (λ ne. h x)

pub entry_keeps : (c : Config) (w : World) (e : Entry) → EventsMayBe c w → AllTraced c w → AllTraced c (happens c w e)
entry_keeps c w (Begins t op) may h = begin_entry c w t op h
entry_keeps c w (Steps t hook) may h =
    elim (cases_lt t c.tasks) [
      | inl l ↦ rw (lt-ltb t c.tasks l) (step_keeps c w t hook (w.views t).phase refl l may h)
      | inr l ↦ rw (le-ltb t c.tasks l) h
    ]

pub opening_traced : (c : Config) → AllTraced c opening
opening_traced c t = (refl, refl, refl)
