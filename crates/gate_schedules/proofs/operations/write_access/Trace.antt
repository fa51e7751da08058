-- Traces of a taking and of a return of write access: those of their gates, one after the other.
use Rattle.gate_schedules.proofs.Prelude.{Action, Config, DownRead, DownReadStep, Err, Gate, GateError, HookAnswer, List, Next, Ok, Op, Phase}
use Rattle.gate_schedules.proofs.Prelude.{ReadIsValid, Traced, Want, WantStep, WritePhase, [], actions_after, ap, arith, down_read_after}
use Rattle.gate_schedules.proofs.Prelude.{down_read_next, event_of, found_by, inl, length, map_next, next_of, refl, subst, sym, true, want_after}
use Rattle.gate_schedules.proofs.Prelude.{with_hook, ℕ, ◌∷◌, ◌≡◌, ◌≤◌}
use Rattle.composite_ops.specs.write_access.Phases.{next as write_next, then_gives_back, then_wants}
use Rattle.{gate_world.specs.traces.{TraceStates.WordIsValid, Traces.IsHonest}, mount_counts.specs.Phases.want_next}
use Rattle.gate_schedules.proofs.operations.readers.Trace.{ReadNext, ReadSays, read_at, read_event}
use Rattle.gate_schedules.proofs.operations.want.Trace.{WantNext, WantSays, want_at, want_event}
use Rattle.gate_schedules.proofs.traces.TraceInvariant.{InvariantAfter, InvariantAfterStep, IsInductive, IsInductiveGivenReads, event_at}

-- what stands of the actions while the mount is wanted
abbrev level_taken : List Action
level_taken = Action.Grant (Gate.Level 1) ∷ []

-- What a trace says, by the gate at which a taking stands: what the gate's own operation says, on top of what was added and done before it.
-- Where the level is to be left, the mount's refusal has its cause.
abbrev WriteSays : Config → ℕ → ℕ → ℕ → WritePhase → List Traced → List Action → Type 0
WriteSays c m p t (WritePhase.Takes n r) trace added = (n ≡ m) × ((s : DownReadStep) × (r ≡ read_at 1 p t true s) × ReadSays 0 1 true s trace added)
WriteSays c m p t (WritePhase.Wants x) trace added =
    (below : List Traced) × (s : WantStep) × (x ≡ want_at m p true s) × WantSays c m p true level_taken below s trace added
WriteSays c m p t (WritePhase.GivesBack n q refusal) trace added = (added ≡ level_taken) × IsHonest c (Op.WantWrite m p) refusal trace
WriteSays c m p t (WritePhase.Drops n q) trace added = ⊥
WriteSays c m p t (WritePhase.Ends q) trace added = ⊥

-- what it says at a phase
abbrev pub WriteAt : Config → ℕ → ℕ → ℕ → List Traced → Phase → List Action → Type 0
WriteAt c m p t trace phase added = (x : WritePhase) × (phase ≡ Phase.Writes x) × WriteSays c m p t x trace added

module _ (c : Config) (m p t : ℕ) (e : Traced) (earlier : List Traced) (added : List Action) where
  -- what the trace says after a step at level 1
  taken_says : (n : Next DownRead) → ReadNext 0 1 p t true (e ∷ earlier) added n →
      InvariantAfter (WriteAt c m p t) c (Op.WantWrite m p) (e ∷ earlier) (map_next Phase.Writes (then_wants m p n)) added
  taken_says (Next.Go r) h = (WritePhase.Takes m r, refl, (refl, h))
  taken_says (Next.Wait r) h = ((WritePhase.Takes m r, refl, (refl, h.0)), inl h.2)
  taken_says (Next.Done (Ok reply)) h =
      (WritePhase.Wants (want_at m p true WantStep.CountsUp), refl, (e ∷ earlier, WantStep.CountsUp, refl, (h.0, λ q. absurd (cc), refl)))
  taken_says (Next.Done (Err GateError.Again)) h = absurd (cc)
  taken_says (Next.Done (Err refusal)) h = absurd h

  -- what the trace says after a step at the mount
  wanted_says : (below : List Traced) (n : Next Want) → WantNext c m p true level_taken below (e ∷ earlier) added n →
      InvariantAfter (WriteAt c m p t) c (Op.WantWrite m p) (e ∷ earlier) (map_next Phase.Writes (then_gives_back m p n)) added
  wanted_says below n h = grind arith

module _ (c : Config) (m p t : ℕ) (value : ℕ) (hook : HookAnswer) (earlier : List Traced) (added : List Action) where
  -- what the trace says after the step of a phase
  abbrev TraceAfterStep : WritePhase → Type 0
  TraceAfterStep x = InvariantAfterStep (WriteAt c m p t) c (Op.WantWrite m p) (Phase.Writes x) value hook earlier added

  -- a step at level 1
  takes_event : (s : DownReadStep) → WordIsValid (down_read_next (read_at 1 p t true s) s).0 value → ReadSays 0 1 true s earlier added →
      TraceAfterStep (WritePhase.Takes m (read_at 1 p t true s))
  takes_event s may h =
      let r : DownRead = read_at 1 p t true s in
      let found : ℕ = found_by (down_read_next r s).1 value in
      taken_says c m p t (with_hook (event_of (down_read_next r s).0 (down_read_next r s).1 value) hook) earlier
      (actions_after (down_read_after r s found).1 added) (down_read_after r s found).0
      (read_event 0 1 p t value hook earlier added true s may h)

  -- a step at the mount
  wants_event : (below : List Traced) (s : WantStep) → WantSays c m p true level_taken below s earlier added →
      TraceAfterStep (WritePhase.Wants (want_at m p true s))
  wants_event below s h =
      let x : Want = want_at m p true s in
      let found : ℕ = found_by (want_next x s).1 value in
      wanted_says c m p t (with_hook (event_of (want_next x s).0 (want_next x s).1 value) hook) earlier
      (actions_after (want_after x s found).1 added) below (want_after x s found).0
      (want_event c m p level_taken below value hook earlier added true s h)

  -- giving the level back leaves the cause of the refusal
  cause_stays : (n q : ℕ) (refusal : GateError) → IsHonest c (Op.WantWrite m p) refusal earlier →
      IsHonest c (Op.WantWrite m p) refusal (with_hook (event_at (Phase.Writes (WritePhase.GivesBack n q refusal)) value hook) hook ∷ earlier)
  cause_stays n q refusal h = grind arith

  write_event : (x : WritePhase) → WordIsValid (write_next x).0 value → WriteSays c m p t x earlier added → TraceAfterStep x
  write_event (WritePhase.Takes n r) may h =
      subst (λ y. TraceAfterStep (WritePhase.Takes y r)) (sym h.0)
      (subst (λ (y : DownRead). WordIsValid (down_read_next y y.step).0 value → TraceAfterStep (WritePhase.Takes m y)) (sym h.1.1)
      (λ holds. takes_event h.1.0 holds h.1.2) may)
  write_event (WritePhase.Wants x) may h = subst (λ y. TraceAfterStep (WritePhase.Wants y)) (sym h.2) (wants_event h.0 h.1 h.3)
  write_event (WritePhase.GivesBack n q refusal) may h = ((ap (λ (l : List Action). Action.Return (Gate.Level 1) ∷ l) h.0, cause_stays n q refusal h.1), tt)
  write_event (WritePhase.Drops n q) may h = absurd h
  write_event (WritePhase.Ends q) may h = absurd h

pub write_inductive : (c : Config) (t m p : ℕ) → IsInductiveGivenReads (WriteAt c m p t) c t (Op.WantWrite m p)
write_inductive c t m p = record {
  first = (WritePhase.Takes m (read_at 1 p t true DownReadStep.EntersSection), refl, (refl, (DownReadStep.EntersSection, refl, (refl, λ q. omega arith, tt))));
  more = λ phase value hook earlier added may here.
      subst (λ (x : Phase). ReadIsValid x (next_of x hook).0 value → InvariantAfterStep (WriteAt c m p t) c (Op.WantWrite m p) x value hook earlier added)
      (sym here.1) (λ holds. write_event c m p t value hook earlier added here.0 holds here.2) may;
  short = λ trace phase added here. tt;
}

-- what a trace says of a return: it gives the mount back, and then the level
abbrev DropSays : ℕ → ℕ → WritePhase → List Traced → List Action → Type 0
DropSays m p (WritePhase.Drops n q) trace added = (n ≡ m) × (trace ≡ []) × (added ≡ [])
DropSays m p (WritePhase.Ends q) trace added = (length trace ≤ 1) × (added ≡ Action.Return (Gate.Mount m) ∷ [])
DropSays m p other trace added = ⊥

-- what it says at a phase
abbrev pub DropAt : ℕ → ℕ → List Traced → Phase → List Action → Type 0
DropAt m p trace phase added = (x : WritePhase) × (phase ≡ Phase.Writes x) × DropSays m p x trace added

pub drop_inductive : (c : Config) (t m p : ℕ) → IsInductive (DropAt m p) c t (Op.DropWrite m p)
drop_inductive c t m p = grind arith
