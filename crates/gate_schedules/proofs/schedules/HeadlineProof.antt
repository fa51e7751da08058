-- What holds of every execution from the opening on.
use Rattle.gate_schedules.proofs.Prelude.{Action, CauseOf, Config, Entry, Err, GateError, HasReason, HookAnswer, IsGood, IsWithin, List, Next, None}
use Rattle.gate_schedules.proofs.Prelude.{Op, Option, Phase, Some, State, Traced, View, World, [], after_of, ap, arith, found_at, happens, held_by}
use Rattle.gate_schedules.proofs.Prelude.{holdings_of, inl, inr, model_limits, refl, shown, subst, sym, ℕ, ◌<◌, ◌∙◌, ◌∷◌, ◌≡◌}
use Rattle.std.specs.Prelude.{false, true, ◌++◌}
use Rattle.access_model.{proofs.{Closed.closed, Frozen.{frozen_shut, frozen_still}}, specs.{Histories.{Done, IsLegal, end_of}, Laws.FrozenIsShut}}
use Rattle.access_model.specs.Laws.{IsFrozenStill, NobodyHoldsClosed}
use Rattle.gate_world.specs.Headline.{FreezeIsUnderWay, FrozenTreeIsWhole, FrozenTreeStays, HoldersAreTold, IdleSumsHold, IsOneRun, MovesTheModel}
use Rattle.gate_world.specs.Headline.{NobodyIsInside, NothingIsLeft, OperationsAreKept, SnapshotsStand, SumsHold, ViewTells, actions_so_far}
use Rattle.gate_world.specs.{Headline.world_after, Views.HoldsAsBefore, Worlds.{history, opening, run}, refusals.Causes.HasCause}
use Rattle.gate_world.specs.refusals.{Causes.{RefusalsHaveCauses, since_begun, trail_of}, Waits.{EachWaitHasCulprit, HasCulpritAmong}}
use Rattle.gate_world.specs.traces.{TraceStates.{AllTraced, FollowsOrder, IsTraced, state_of_trace}, Traces.{Tells, actions_of}}
use Rattle.gate_schedules.proofs.{frames.ValidWords.events_may_be, operations.AllOperations.{op_keeps, phase_keeps}, schedules.Beginnings.may_begin}
use Rattle.gate_schedules.proofs.schedules.{BetweenStores.{AllTold, entry_told, holders_told, opening_told}, Entries.{TrailHolds, begun_on}}
use Rattle.gate_schedules.proofs.schedules.{Entries.trail_holds, Leads.sums_lead, Lists.run_lists, Rests.{a_freeze_is_under_way, at_rest}}
use Rattle.gate_schedules.proofs.schedules.{Runs.history_on, Schedule.{gate_sums, happens_keeps, idle_sums, opening_good, opening_shown, run_keeps}}
use Rattle.gate_schedules.proofs.{schedules.{SnapshotStability.snapshots_stand, Snapshots.run_moments}, traces.Traced.{entry_keeps, opening_traced}}
use Rattle.gate_schedules.{proofs.trees.worlds.Frozen.frozen_whole, specs.{Frozen.FrozenIsClosed, Leads.SumsLead}}

module _ (c : Config) (lim : IsWithin c) where
  pub whole_rule : (es : List Entry) → IsGood c (world_after c es)
  whole_rule es = (run_keeps c lim es opening [] (opening_good c lim) tt (opening_shown c lim)).0

  pub whole_run : (es : List Entry) → IsOneRun c es
  whole_run es = record {
    legal = (run_keeps c lim es opening [] (opening_good c lim) tt (opening_shown c lim)).1;
    end = (run_keeps c lim es opening [] (opening_good c lim) tt (opening_shown c lim)).2;
    lists = run_lists c es opening [] (λ t. refl);
    snapshots = run_moments c lim es opening [] (opening_good c lim) tt (opening_shown c lim) (λ t. refl) (λ t. tt);
  }

  pub whole_moves : (es : List Entry) (e : Entry) → MovesTheModel c es e
  whole_moves es e = (happens_keeps c lim (world_after c es) (whole_rule es) e).1

  pub whole_nobody : (es : List Entry) → NobodyIsInside c (world_after c es)
  whole_nobody es = subst (λ (s : State). NobodyHoldsClosed (model_limits c) s) (whole_run es).end
      (closed (model_limits c) (actions_so_far c es) (whole_run es).legal)

  pub whole_frozen : (es : List Entry) → FrozenIsClosed c (world_after c es)
  whole_frozen es =
      let nobody : NobodyIsInside c (world_after c es) = whole_nobody es in
      let shut : FrozenIsShut (model_limits c) (shown c (world_after c es)) = subst (FrozenIsShut (model_limits c)) (whole_run es).end
      (frozen_shut (model_limits c) (actions_so_far c es) (whole_run es).legal) in record {
        shut = shut.shut;
        empty = λ four. elim (shut.shut four) [
          | inl all ↦ inl (λ t i lt one three. nobody.levels t i lt one (omega (arith, all, three)))
          | inr ro ↦ inr (λ t m lt there. nobody.mounts t m lt there (inr ro))
        ];
      }

  whole_trail : (es : List Entry) → TrailHolds c (λ w good e. (happens_keeps c lim w good e).0) opening [] es
  whole_trail es = trail_holds c (λ w good e. (happens_keeps c lim w good e).0) es opening [] (opening_good c lim) (λ x lx. tt)

  pub whole_sums : (es : List Entry) → SumsHold c (world_after c es)
  whole_sums es = gate_sums c lim (world_after c es) (whole_rule es)

  pub whole_idle : (es : List Entry) → IdleSumsHold c (world_after c es)
  whole_idle es = idle_sums c lim (world_after c es) (whole_rule es)

  pub whole_leads : (es : List Entry) → SumsLead c (world_after c es)
  whole_leads es = sums_lead c (world_after c es) (whole_rule es)

  pub whole_rests : (es : List Entry) → NothingIsLeft c (world_after c es)
  whole_rests es = at_rest c (world_after c es) (whole_rule es)

  pub whole_freezes : (es : List Entry) → FreezeIsUnderWay c (world_after c es)
  whole_freezes es = a_freeze_is_under_way c (world_after c es) (whole_rule es)

  run_told : (es : List Entry) (w : World) → IsGood c w → AllTold w → AllTold (run c w es)
  run_told [] w good told = told
  run_told (e ∷ es) w good told =
      let after : IsGood c (happens c w e) = (happens_keeps c lim w good e).0 in
      run_told es (happens c w e) after (entry_told c w e good after told)

  pub whole_holders : (es : List Entry) → HoldersAreTold c (world_after c es)
  whole_holders es = holders_told c (world_after c es) (whole_rule es) (run_told es opening (opening_good c lim) opening_told)

  pub whole_trees : (es : List Entry) → FrozenTreeIsWhole c (world_after c es)
  whole_trees es = frozen_whole c lim (world_after c es) (whole_rule es)

  -- what was done until a state, and what was done since, is one allowed trace, so what is frozen there stays so
  pub whole_stays : (es more : List Entry) → FrozenTreeStays c es more
  whole_stays es more h held never =
      let w : World = world_after c es in
      let earlier : List Done = actions_so_far c es in
      let first : IsOneRun c es = whole_run es in
      let all = run_keeps c lim more w earlier (whole_rule es) first.legal first.end in
      let between : List Done = history c w [] more in
      let is : history c w earlier more ≡ between ++ earlier = history_on c w earlier more in
      let legal : IsLegal (model_limits c) (between ++ earlier) = subst (λ (l : List Done). IsLegal (model_limits c) l) is all.1 in
      let end : end_of (between ++ earlier) ≡ shown c (run c w more) = ap end_of (sym is) ∙ all.2 in
      let own : held_by (end_of earlier).holders h ≡ true = ap (λ (s : State). held_by s.holders h) first.end ∙ held in
      subst (λ (z : State × State). IsFrozenStill h z.0 z.1) (λ i. (first.end i, end i))
      (frozen_still (model_limits c) h between earlier legal own never)

  pub whole_snapshots : (es : List Entry) → SnapshotsStand c (world_after c es)
  whole_snapshots es = snapshots_stand c (world_after c es) (whole_rule es)

  -- what comes after the next step of a task has its reason, among the states since the task began its operation
  reason_told : (es : List Entry) (t : ℕ) (phase : Phase) (hook : HookAnswer) → t < c.tasks → ((world_after c es).views t).phase ≡ Some phase →
      (since : List World) × (since_begun t (trail_of c es) ≡ world_after c es ∷ since) ×
      HasReason c (world_after c es) since t phase (after_of phase (found_at (world_after c es).words phase hook) hook).0
  reason_told es t phase hook lt at =
      let h : TrailHolds c (λ w good e. (happens_keeps c lim w good e).0) opening [] es = whole_trail es in
      let since : List World = since_begun t h.rest in (
        since,
        ap (since_begun t) h.is ∙ begun_on t (world_after c es) h.rest phase at,
        (phase_keeps c phase).reasons lim (world_after c es) since (whole_rule es) t lt hook at
            (subst (CauseOf c t (world_after c es) since) at (h.causes t lt)),
      )

  pub whole_causes : (es : List Entry) → RefusalsHaveCauses c es
  whole_causes es t phase hook refusal lt at e =
      let h = reason_told es t phase hook lt at in
      subst (λ (ws : List World). HasCause c t ws phase refusal) (sym h.1)
      (subst (λ (s : Next Phase). HasReason c (world_after c es) h.0 t phase s) e h.2)

  pub whole_waits : (es : List Entry) → EachWaitHasCulprit c es
  whole_waits es t phase again hook lt at e =
      let h = reason_told es t phase hook lt at in
      subst (λ (ws : List World). HasCulpritAmong c ws t phase) (sym h.1)
      (subst (λ (s : Next Phase). HasReason c (world_after c es) h.0 t phase s) e h.2)

  -- an operation that was refused has added what its refusals add
  refused_adds : (op : Op) (trace : List Traced) (comes : Next Phase) (added : List Action) (refusal : GateError) →
      Tells c op trace comes added → comes ≡ Next.Done (Err refusal) → added ≡ actions_of op (Err refusal) trace
  refused_adds op trace comes added refusal h e =
      let k : Tells c op trace (Next.Done (Err refusal)) added = subst (λ (s : Next Phase). Tells c op trace s added) e h in k.0

  -- so its task holds what it held when it began
  holds_as_before : (t : ℕ) (v : View) (op : Op) (refusal : GateError) → FollowsOrder c t v op →
      v.actions ≡ actions_of op (Err refusal) v.trace ++ v.before →
      HoldsAsBefore v
  holds_as_before t v op refusal h is =
      ap holdings_of is ∙ (op_keeps c op).restores refusal v.trace v.before (may_begin c false (holdings_of v.before) op h.begins).order

  op_tells : (t : ℕ) (v : View) (op : Option Op) → IsTraced c t v op → ViewTells c t v op
  op_tells t v None h = tt
  op_tells t v (Some op) h =
      let k : Tells c op v.trace (state_of_trace c t op v.trace).comes (state_of_trace c t op v.trace).added =
      ((op_keeps c op).traces lim).tells t v.trace h.trace in
      record {
        tells = k;
        refused = λ refusal e. holds_as_before t v op refusal h
            (h.actions ∙ ap (λ l. l ++ v.before) (refused_adds op v.trace (state_of_trace c t op v.trace).comes
            (state_of_trace c t op v.trace).added refusal k e));
        short = ((op_keeps c op).traces lim).short t v.trace h.trace;
      }

  -- each view follows its operation, as each step is on a word that holds what it may
  run_traced : (es : List Entry) (w : World) → IsGood c w → AllTraced c w → AllTraced c (run c w es)
  run_traced [] w good h = h
  run_traced (e ∷ es) w good h =
      run_traced es (happens c w e) (happens_keeps c lim w good e).0 (entry_keeps c w e (events_may_be c lim w good) h)

  pub whole_operations : (es : List Entry) (t : ℕ) → OperationsAreKept c es t
  whole_operations es t =
      let traced : IsTraced c t ((world_after c es).views t) ((world_after c es).views t).op =
      run_traced es opening (opening_good c lim) (opening_traced c) t in
      record { traced = traced; tells = op_tells t ((world_after c es).views t) ((world_after c es).views t).op traced }
