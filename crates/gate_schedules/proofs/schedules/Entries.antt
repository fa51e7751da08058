-- Each transition, and so each execution, keeps what is said of the causes of refusals.
use Rattle.gate_schedules.proofs.Prelude.{CauseOf, Config, Entry, Fits, Fitting, GateError, HookAnswer, IsGood, IsWord, List, None, Op, Option, Phase}
use Rattle.gate_schedules.proofs.Prelude.{Some, View, World, [], after_step, ap, arith, eqb_tells, happens, held_of, inl, inr, left, ltb-true, nat_lt}
use Rattle.gate_schedules.proofs.Prelude.{next_of, refl, step_of, subst, sym, update_at, update_off, value_at, view_after, ℕ, ◌<◌, ◌∷◌, ◌≡◌}
use Rattle.gate_world.specs.{Beginnings.first_phase, Views.begun_view, Worlds.{after_begin, begin_of, run}, refusals.Causes.{since_begun, trail}}
use Rattle.gate_world.specs.refusals.KeptCauses.{Causes}
use Rattle.gate_schedules.proofs.frames.{OperationLaws.{IsQuiet, extents_touched}, ZeroCountsUnchanged.write_quiet}
use Rattle.gate_schedules.proofs.operations.AllOperations.{op_keeps, phase_keeps}

-- a task that is at an operation had begun it, so its states go on
pub begun_on : (t : ℕ) (w : World) (earlier : List World) (phase : Phase) → (w.views t).phase ≡ Some phase →
    since_begun t (w ∷ earlier) ≡ w ∷ since_begun t earlier
begun_on t w earlier phase e = rw e refl

module _ (c : Config) (w : World) (earlier : List World) (good : IsGood c w) (holds : Causes c w earlier) where
  -- a task that another transition leaves alone
  module _ (next : World) (after : IsGood c next) (t : ℕ) (lt : t < c.tasks) (quiet : IsQuiet c w next) where
    kept : (p : Option Phase) → Fits c t (held_of (w.views t)) p → (next.views t).phase ≡ p →
        (w.views t).phase ≡ p → CauseOf c t w (since_begun t earlier) p → CauseOf c t next (since_begun t (w ∷ earlier)) p
    kept None f e was h = tt
    kept (Some phase) f e was h =
        subst (λ (ws : List World). CauseOf c t next ws (Some phase)) (sym (begun_on t w earlier phase was))
        ((phase_keeps c phase).stays w next (since_begun t earlier) after t f e was quiet h)

    pub alone : next.views t ≡ w.views t → CauseOf c t next (since_begun t (w ∷ earlier)) (next.views t).phase
    alone same = kept (next.views t).phase
        (subst (λ (v : View). Fits c t (held_of (w.views t)) v.phase) (sym same) (good Fitting t lt)) refl
        (ap (λ (v : View). v.phase) (sym same))
        (subst (λ (v : View). CauseOf c t w (since_begun t earlier) v.phase) (sym same) (holds t lt))

  same_causes : Causes c w (w ∷ earlier)
  same_causes t lt = alone w good t lt (record { mounts = λ m a b. refl; levels = λ i a b. refl }) refl

  step_causes : (u : ℕ) → u < c.tasks → (hook : HookAnswer) (p : Option Phase) → (w.views u).phase ≡ p → IsGood c (step_of w u hook p) →
      Causes c (step_of w u hook p) (w ∷ earlier)
  step_causes u lu hook None e after t lt = same_causes t lt
  step_causes u lu hook (Some phase) e after t lt =
      let next : World = after_step w u phase hook in
      let v : View = view_after (w.views u) phase (value_at w.words phase hook) hook in
      elim (eqb_tells t u) [
        | inl h ↦
            let is : next.views u ≡ v = update_at w.views u v in
            let own : CauseOf c u next (w ∷ since_begun u earlier) (next.views u).phase =
            subst (CauseOf c u next (w ∷ since_begun u earlier)) (sym (ap (λ (x : View). x.phase) is))
            ((phase_keeps c phase).causes w (since_begun u earlier) good u lu hook e after (ap (λ (x : View). x.phase) is)
            (subst (CauseOf c u w (since_begun u earlier)) e (holds u lu))) in
            let there : CauseOf c u next (since_begun u (w ∷ earlier)) (next.views u).phase =
            subst (λ (ws : List World). CauseOf c u next ws (next.views u).phase) (sym (begun_on u w earlier phase e)) own in
            subst (λ y. CauseOf c y next (since_begun y (w ∷ earlier)) (next.views y).phase) (sym h.1) there
        | inr h ↦
            let fits : Fits c u (held_of (w.views u)) (Some phase) =
            subst (Fits c u (held_of (w.views u))) e (good Fitting u lu) in
            let there : IsWord (extents_touched c.tasks c) (next_of phase hook).0 =
            (phase_keeps c phase).word c.tasks (omega arith) u lu (held_of (w.views u)) hook fits in
            alone next after t lt
            (write_quiet c w good next.views (left (next_of phase hook).1 (value_at w.words phase hook)) (next_of phase hook).0 there after)
            (update_off w.views u v t h.1)
      ]

  first_causes : (u : ℕ) (op : Op) (next : World) → CauseOf c u next (since_begun u (w ∷ earlier)) (Some (first_phase c u op))
  first_causes u op next = (op_keeps c op).cause u next (since_begun u (w ∷ earlier))

  begin_causes : (u : ℕ) (op : Op) (r : Option GateError) → IsGood c (begin_of c w u op r) → Causes c (begin_of c w u op r) (w ∷ earlier)
  begin_causes u op (Some refused) after t lt = same_causes t lt
  begin_causes u op None after t lt =
      let next : World = after_begin c w u op in
      let v : View = begun_view (w.views u) op (first_phase c u op) in
      elim (eqb_tells t u) [
        | inl h ↦
            let is : next.views u ≡ v = update_at w.views u v in
            let there : CauseOf c u next (since_begun u (w ∷ earlier)) (next.views u).phase =
            subst (CauseOf c u next (since_begun u (w ∷ earlier))) (sym (ap (λ (x : View). x.phase) is)) (first_causes u op next) in
            subst (λ y. CauseOf c y next (since_begun y (w ∷ earlier)) (next.views y).phase) (sym h.1) there
        | inr h ↦ alone next after t lt (record { mounts = λ m a b. refl; levels = λ i a b. refl }) (update_off w.views u v t h.1)
      ]

  pub happens_causes : (e : Entry) → IsGood c (happens c w e) → Causes c (happens c w e) (w ∷ earlier)
  happens_causes e after = grind (arith, nat_lt, begin_causes, same_causes, step_causes, ltb-true)

-- along an execution whose transitions keep the invariant
module _ (c : Config) (keeps : (w : World) → IsGood c w → (e : Entry) → IsGood c (happens c w e)) where
  pub record TrailHolds (w : World) (earlier : List World) (es : List Entry) : Type 0 where
    pub rest : List World
    pub is : trail c earlier w es ≡ run c w es ∷ rest
    pub causes : Causes c (run c w es) rest

  pub trail_holds : (es : List Entry) (w : World) (earlier : List World) → IsGood c w → Causes c w earlier → TrailHolds w earlier es
  trail_holds [] w earlier good h = record { rest = earlier; is = refl; causes = h }
  trail_holds (e ∷ es) w earlier good h =
      let t : TrailHolds (happens c w e) (w ∷ earlier) es = trail_holds es (happens c w e) (w ∷ earlier) (keeps w good e)
      (happens_causes c w earlier good h e (keeps w good e)) in
      record { rest = t.rest; is = t.is; causes = t.causes }
