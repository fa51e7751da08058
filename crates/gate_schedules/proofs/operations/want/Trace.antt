-- Traces of a want and of a drop. A want may stand in a longer operation, which has done something before it.
use Rattle.gate_schedules.proofs.Prelude.{Action, Bool, Config, Err, Gate, GateError, HookAnswer, List, MountPhase, Next, Ok, Op, Phase, Traced, Want}
use Rattle.gate_schedules.proofs.Prelude.{WantStep, [], actions_after, arith, eq-eqb, event_of, false, found_by, has_flag, inl, inr, length, map_next}
use Rattle.gate_schedules.proofs.Prelude.{most_events, refl, subst, sym, true, want_after, with_hook, ℕ, ◌&&◌, ◌+◌, ◌||◌, ◌∷◌, ◌≡◌, ◌≤◌, ◌⊎◌}
use Rattle.gate_world.specs.traces.{Found.{adds_to, each_but_first, finds_hold, holds_since, looks_again, newest}, Traces.{IsHonest, IsShort}}
use Rattle.mount_counts.specs.Phases.{want_next}
use Rattle.gate_schedules.proofs.traces.TraceInvariant.{InvariantAfter, InvariantAfterStep, IsInductive, event_at}

or_other : (a b : Bool) → b ≡ true → (a || b) ≡ true
or_other a b h = grind arith

-- a want of this mount, processor and way to wait, at this step
abbrev pub want_at : ℕ → ℕ → Bool → WantStep → Want
want_at m p wait step = record { mount = m; cpu = p; wait = wait; step = step }

-- the same as a phase of its own operation
abbrev pub want : ℕ → ℕ → Bool → WantStep → Phase
want m p wait step = Phase.Mounts (MountPhase.Want (want_at m p wait step))

-- how many steps a want that waits for nobody has done before a program point, at most
abbrev events_before : WantStep → ℕ
events_before WantStep.CountsUp = 0
events_before WantStep.LoadsHold = 1
events_before WantStep.LoadsRemount = 2
events_before WantStep.LoadsReadOnly = 3
events_before WantStep.LoadsSuperblock = 4
events_before (WantStep.CountsDown refusal) = 5

-- the steps on top of these are an addition to the mount's count, and after it loads that found HOLD
abbrev HeldSince : ℕ → List Traced → List Traced → Type 0
HeldSince m below [] = ⊥
HeldSince m below (e ∷ earlier) =
    ((adds_to m e.event.word e.event.touch ≡ true) × (earlier ≡ below)) ⊎ ((finds_hold m e.event ≡ true) × HeldSince m below earlier)

and_true : (a b : Bool) → a ≡ true → b ≡ true → (a && b) ≡ true
and_true a b h k = rw (h, k) refl

-- so the newest of them is the addition, or has found HOLD as has each before it back to the addition
began : (m : ℕ) (below trace : List Traced) → HeldSince m below trace →
    (newest (λ d. adds_to m d.word d.touch) trace || holds_since m trace) ≡ true
began m below [] h = absurd h
began m below (e ∷ earlier) (inl h) = rw h.0 refl
began m below (e ∷ earlier) (inr h) =
    or_other (adds_to m e.event.word e.event.touch) (holds_since m (e ∷ earlier))
    (and_true (finds_hold m e.event) (newest (λ d. adds_to m d.word d.touch) earlier || holds_since m earlier) h.0
    (began m below earlier h.1))

-- and where nothing is below them, each but the oldest has found HOLD
alone : (m : ℕ) (trace : List Traced) → HeldSince m [] trace → each_but_first (finds_hold m) trace ≡ true
alone m [] h = absurd h
alone m (e ∷ []) h = refl
alone m (e ∷ (d ∷ earlier)) (inl h) = absurd (cc)
alone m (e ∷ (d ∷ earlier)) (inr h) =
    and_true (finds_hold m e.event) (each_but_first (finds_hold m) (d ∷ earlier)) h.0 (alone m (d ∷ earlier) h.1)

-- a want that adds has done nothing on top of what came before it, one that looks for HOLD has found nothing but HOLD since its addition,
-- and one that takes its count back has the cause of its refusal in its trace
abbrev HasFound : Config → ℕ → ℕ → Bool → List Traced → WantStep → List Traced → Type 0
HasFound c m p wait below WantStep.CountsUp trace = trace ≡ below
HasFound c m p wait below WantStep.LoadsHold trace = HeldSince m below trace
HasFound c m p wait below (WantStep.CountsDown refusal) trace = IsHonest c (Op.Want m p wait) refusal trace
HasFound c m p wait below step trace = Unit {0}

-- what a trace says at a program point of a want that began on top of these actions and steps: it has added nothing yet
abbrev pub WantSays : Config → ℕ → ℕ → Bool → List Action → List Traced → WantStep → List Traced → List Action → Type 0
WantSays c m p wait base below step trace added =
    (added ≡ base) × (wait ≡ false → length trace ≤ length below + events_before step) × HasFound c m p wait below step trace

-- the same of what comes after a step, which is at some program point
abbrev WantGoes : Config → ℕ → ℕ → Bool → List Action → List Traced → List Traced → List Action → Want → Type 0
WantGoes c m p wait base below trace added x =
    (step : WantStep) × (x ≡ want_at m p wait step) × WantSays c m p wait base below step trace added

-- what a trace says by what comes after a step of a want, whatever operation the want stands in
abbrev pub WantNext : Config → ℕ → ℕ → Bool → List Action → List Traced → List Traced → List Action → Next Want → Type 0
WantNext c m p wait base below trace added (Next.Go x) = WantGoes c m p wait base below trace added x
WantNext c m p wait base below trace added (Next.Wait x) =
    WantGoes c m p wait base below trace added x × (wait ≡ true) × (holds_since m trace ≡ true) ×
    (below ≡ [] → looks_again (finds_hold m) trace ≡ true)
WantNext c m p wait base below trace added (Next.Done (Ok reply)) =
    (added ≡ Action.Grant (Gate.Mount m) ∷ base) × (wait ≡ false → length trace ≤ length below + 6)
WantNext c m p wait base below trace added (Next.Done (Err refusal)) =
    (added ≡ base) × IsHonest c (Op.Want m p wait) refusal trace × (wait ≡ false → length trace ≤ length below + 6)

-- what the trace of a want's own operation says at a phase
abbrev pub WantAt : Config → ℕ → ℕ → Bool → List Traced → Phase → List Action → Type 0
WantAt c m p wait trace phase added =
    (step : WantStep) × (phase ≡ want m p wait step) × WantSays c m p wait [] [] step trace added

within_six : (step : WantStep) (n : ℕ) → n ≤ 0 + events_before step → n ≤ 6
within_six step n h = grind arith

want_short : (c : Config) (m p : ℕ) (wait : Bool) (trace : List Traced) → (wait ≡ false → length trace ≤ 6) →
    IsShort (most_events c (Op.Want m p wait)) trace
want_short c m p true trace h = tt
want_short c m p false trace h = h refl

-- the last step of a refused want leaves its cause
cause_stays : (c : Config) (m p : ℕ) (wait : Bool) (refusal : GateError) (value : ℕ) (hook : HookAnswer) (earlier : List Traced) →
    IsHonest c (Op.Want m p wait) refusal earlier → IsHonest c (Op.Want m p wait) refusal
    (with_hook (event_at (want m p wait (WantStep.CountsDown refusal)) value hook) hook ∷ earlier)
cause_stays c m p wait refusal value hook earlier h = grind arith

module _ (c : Config) (m p : ℕ) (base : List Action) (below : List Traced) (value : ℕ) (hook : HookAnswer) (earlier : List Traced)
    (added : List Action) where
  -- what the trace says after the step at a program point
  abbrev pub AfterWant : Bool → WantStep → Type 0
  AfterWant wait step =
      let x : Want = want_at m p wait step in
      let found : ℕ = found_by (want_next x step).1 value in
      WantNext c m p wait base below (with_hook (event_of (want_next x step).0 (want_next x step).1 value) hook ∷ earlier)
      (actions_after (want_after x step found).1 added) (want_after x step found).0

  hold_found : (wait : Bool) → WantSays c m p wait base below WantStep.LoadsHold earlier added → has_flag value 2 ≡ true → AfterWant wait WantStep.LoadsHold
  hold_found wait h f = grind (arith, event_at, eq-eqb, and_true, began, alone)

  -- each step of a want keeps what its trace says, whatever operation the want stands in
  pub want_event : (wait : Bool) (step : WantStep) → WantSays c m p wait base below step earlier added → AfterWant wait step
  want_event wait step h = grind (arith, eq-eqb, hold_found, cause_stays)

-- what comes after a step of a want that stands alone
want_says : (c : Config) (m p : ℕ) (wait : Bool) (e : Traced) (earlier : List Traced) (added : List Action) (n : Next Want) →
    WantNext c m p wait [] [] (e ∷ earlier) added n →
    InvariantAfter (WantAt c m p wait) c (Op.Want m p wait) (e ∷ earlier) (map_next Phase.Mounts (map_next MountPhase.Want n)) added
want_says c m p wait e earlier added n h = grind arith

pub want_inductive : (c : Config) (t m p : ℕ) (wait : Bool) → IsInductive (WantAt c m p wait) c t (Op.Want m p wait)
want_inductive c t m p wait = record {
  first = (WantStep.CountsUp, refl, (refl, λ q. omega arith, refl));
  more = λ phase value hook earlier added here.
      let x : Want = want_at m p wait here.0 in
      let found : ℕ = found_by (want_next x here.0).1 value in
      subst (λ (y : Phase). InvariantAfterStep (WantAt c m p wait) c (Op.Want m p wait) y value hook earlier added) (sym here.1)
      (want_says c m p wait (with_hook (event_of (want_next x here.0).0 (want_next x here.0).1 value) hook) earlier
      (actions_after (want_after x here.0 found).1 added) (want_after x here.0 found).0
      (want_event c m p [] [] value hook earlier added wait here.0 here.2));
  short = λ trace phase added here. want_short c m p wait trace (λ q. within_six here.0 (length trace) (here.2.1 q));
}

-- what a drop's trace says at a phase
abbrev pub DropAt : ℕ → ℕ → List Traced → Phase → List Action → Type 0
DropAt m p trace phase added = (phase ≡ Phase.Mounts (MountPhase.Drop m p)) × (trace ≡ []) × (added ≡ [])

pub drop_inductive : (c : Config) (t m p : ℕ) → IsInductive (DropAt m p) c t (Op.DropMount m p)
drop_inductive c t m p = grind arith
