-- An operation that waits for nobody has its reply within its bound of its own steps.
use Rattle.progress_laws.proofs.Prelude.{Begins, Config, Entry, GateError, HookAnswer, IsGood, IsWithin, List, None, Ok, Op, Option, Phase, Some}
use Rattle.progress_laws.proofs.Prelude.{Steps, View, World, [], after_step, ap, arith, cases_Bool, eq-eqb, eqb_tells, happens, happens_is, held_of}
use Rattle.progress_laws.proofs.Prelude.{inl, inr, nat_lt, refl, subst, suc, sym, update_at, update_off, value_at, view_after, whole_rule}
use Rattle.progress_laws.proofs.Prelude.{world_after, ℕ, ◌+◌, ◌<◌, ◌==◌, ◌∙◌, ◌∷◌, ◌≡◌, ◌≤◌}
use Rattle.std.proofs.Common.{is_some, length}
use Rattle.gate_schedules.proofs.{frames.ValidWords.events_may_be, operations.AllOperations.op_keeps, schedules.HeadlineProof.whole_operations}
use Rattle.gate_schedules.proofs.{schedules.Schedule.happens_keeps, traces.Traced.entry_keeps}
use Rattle.gate_world.specs.{Beginnings.refusal, Worlds.{begin_of, begin_refusal, step_of}, traces.TraceStates.{AllTraced, IsTraced}}
use Rattle.gate_world.specs.traces.Traces.{IsShort, most_events}
use Rattle.progress_laws.specs.WaitFreedom.{IsWaitFree, RepliesDuring, steps_by}

module _ (c : Config) (lim : IsWithin c) (t : ℕ) (lt : t < c.tasks) (op : Op) (most : ℕ) (bound : most_events c op ≡ Some most) where
  -- at each point the trace is no longer than the bound
  short_at : (w : World) → AllTraced c w → (w.views t).op ≡ Some op → length (w.views t).trace ≤ most
  short_at w traced is =
      let h : IsTraced c t (w.views t) (Some op) = subst (IsTraced c t (w.views t)) is (traced t) in
      subst (λ m. IsShort m (w.views t).trace) bound (((op_keeps c op).traces lim).short t (w.views t).trace h.trace)

  -- so where the operation is under way, it is shorter
  shorter_at : (w : World) → IsGood c w → AllTraced c w → (w.views t).op ≡ Some op → (phase : Phase) → (w.views t).phase ≡ Some phase →
      length (w.views t).trace < most
  shorter_at w good traced is phase at =
      let next : World = after_step w t phase (Ok tt) in
      let same : happens c w (Steps t (Ok tt)) ≡ next = happens_is c w t lt (Ok tt) phase at in
      let v : View = view_after (w.views t) phase (value_at w.words phase (Ok tt)) (Ok tt) in
      let after : AllTraced c next = subst (AllTraced c) same (entry_keeps c w (Steps t (Ok tt)) (events_may_be c lim w good) traced) in
      let here : next.views t ≡ v = update_at w.views t v in
      let le : length (next.views t).trace ≤ most = short_at next after (ap (λ (x : View). x.op) here ∙ is) in
      let longer : length (next.views t).trace ≡ suc (length (w.views t).trace) = ap (λ (x : View). length x.trace) here in
      omega (arith, le, longer)

  -- what a transition leaves of a task that is under way: one step more, by its own step
  record Leaves (w : World) (e : Entry) : Type 0 where
    op_same : ((happens c w e).views t).op ≡ (w.views t).op
    count : length (w.views t).trace + steps_by t (e ∷ []) ≤ length ((happens c w e).views t).trace

  -- a transition of another task leaves its view
  same_begin : (w : World) (u : ℕ) (other : Op) → (t ≡ u → ⊥) → (refused : Option GateError) → (begin_of c w u other refused).views t ≡ w.views t
  same_begin w u other ne None = update_off w.views u _ t ne
  same_begin w u other ne (Some refused) = refl

  same_step : (w : World) (u : ℕ) (hook : HookAnswer) → (t ≡ u → ⊥) → (p : Option Phase) → (step_of w u hook p).views t ≡ w.views t
  same_step w u hook ne None = refl
  same_step w u hook ne (Some phase) = update_off w.views u (view_after (w.views u) phase (value_at w.words phase hook) hook) t ne

  same_entry : (w : World) (u : ℕ) (hook : HookAnswer) → (t ≡ u → ⊥) → (happens c w (Steps u hook)).views t ≡ w.views t
  same_entry w u hook ne =
      elim (cases_Bool (nat_lt u c.tasks)) [ inl h ↦ rw h (same_step w u hook ne (w.views u).phase) | inr h ↦ rw h refl ]

  -- no beginning of a task that is under way is granted
  not_begun : (w : World) (u : ℕ) (other : Op) (phase : Phase) → (w.views u).phase ≡ Some phase → happens c w (Begins u other) ≡ w
  not_begun w u other phase at =
      elim (cases_Bool (nat_lt u c.tasks)) [
        | inl h ↦ rw h (ap (λ p. begin_of c w u other (refusal c (is_some p) (held_of (w.views u)) other)) at)
        | inr h ↦ rw h refl
      ]

  by_same : (w : World) (e : Entry) → (happens c w e).views t ≡ w.views t → steps_by t (e ∷ []) ≡ 0 → Leaves w e
  by_same w e same none = record {
    op_same = ap (λ (v : View). v.op) same;
    count = let l : length ((happens c w e).views t).trace ≡ length (w.views t).trace = ap (λ (v : View). length v.trace) same in omega (arith, l, none);
  }

  entry_leaves : (w : World) (e : Entry) → (phase : Phase) → (w.views t).phase ≡ Some phase → Leaves w e
  entry_leaves w (Begins u other) phase at =
      elim (eqb_tells t u) [
        | inl e ↦ by_same w (Begins u other)
            (ap (λ (v : World). v.views t) (not_begun w u other phase (sym (ap (λ x. (w.views x).phase) e.1) ∙ at))) refl
        | inr ne ↦ by_same w (Begins u other) (same_begin w u other ne.1 (begin_refusal c w u other)) refl
      ]
  entry_leaves w (Steps u hook) phase at =
      elim (eqb_tells u t) [
        | inr ne ↦ by_same w (Steps u hook) (same_entry w u hook (λ e. ne.1 (sym e))) (rw ne.0 refl)
        | inl e ↦ subst (λ x. Leaves w (Steps x hook)) (sym e.1) own
      ]
    where
      own : Leaves w (Steps t hook)
      own =
          let v : View = view_after (w.views t) phase (value_at w.words phase hook) hook in
          let here : (happens c w (Steps t hook)).views t ≡ v =
          ap (λ (x : World). x.views t) (happens_is c w t lt hook phase at) ∙ update_at w.views t v in
          let one : steps_by t (Steps t hook ∷ []) ≡ 1 = rw (eq-eqb t t refl) refl in
          let l : length ((happens c w (Steps t hook)).views t).trace ≡ suc (length (w.views t).trace) = ap (λ (x : View). length x.trace) here in
          record { op_same = ap (λ (x : View). x.op) here; count = omega (arith, one, l) }

  split : (e : Entry) (es : List Entry) → steps_by t (e ∷ es) ≡ steps_by t (e ∷ []) + steps_by t es
  split (Begins u other) es = omega arith
  split (Steps u hook) es = elim (cases_Bool (u == t)) [ inl h ↦ rw h (omega arith) | inr h ↦ rw h (omega arith) ]

  pub replies : (es : List Entry) (w : World) → IsGood c w → AllTraced c w → (w.views t).op ≡ Some op →
      (p : Option Phase) → (w.views t).phase ≡ p → most ≤ length (w.views t).trace + steps_by t es → RepliesDuring c w t es
  replies [] w good traced is None at le = at
  replies [] w good traced is (Some phase) at le = absurd (omega (arith, le, shorter_at w good traced is phase at))
  replies (e ∷ es) w good traced is None at le = inl at
  replies (e ∷ es) w good traced is (Some phase) at le =
      let l : Leaves w e = entry_leaves w e phase at in
      inr (replies es (happens c w e) (happens_keeps c lim w good e).0 (entry_keeps c w e (events_may_be c lim w good) traced) (l.op_same ∙ is)
      ((happens c w e).views t).phase refl (omega (arith, le, l.count, split e es)))

pub wait_free : (c : Config) → IsWithin c → (entries : List Entry) → IsWaitFree c entries
wait_free c lim entries t lt op most is bound more le =
    replies c lim t lt op most bound more (world_after c entries) (whole_rule c lim entries) (λ y. (whole_operations c lim entries y).traced) is
    ((world_after c entries).views t).phase refl (omega (arith, le))
