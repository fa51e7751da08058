-- Each last snapshot has its moment in the history, and keeps it.
use Rattle.gate_schedules.proofs.Prelude.{Action, Config, Entry, GateError, HookAnswer, IsGood, IsWithin, List, Moves, NodeInfo, None, Op, Option}
use Rattle.gate_schedules.proofs.Prelude.{Phase, Some, State, Steps, View, World, [], ap, arith, begin_of, cases_Bool, each_updated, found_at}
use Rattle.gate_schedules.proofs.Prelude.{happens, inl, inr, length, ltb-true, model_limits, nat_lt, phase_action, refl, run, shown, step_of, subst}
use Rattle.gate_schedules.proofs.Prelude.{sym, value_at, ℕ, ◌<◌, ◌∙◌, ◌∷◌, ◌≡◌}
use Rattle.std.proofs.Common.{slice_index}
use Rattle.{access_model.specs.{Histories.{Done, IsLegal, IsMerge, end_of, own_part}, States.size_of}, finite_sums.proofs.Totals.total_same}
use Rattle.freeze_laws.{proofs.moments.Moments.{is_now, stays}, specs.moments.Moments.HaveDone}
use Rattle.gate_world.specs.{Beginnings.view_refusal, Headline.FrozenTreeIsWhole, Moments.{AllHaveMoments, CompletesNow, HasMoment, IsPresentTree}}
use Rattle.gate_world.specs.{Views.view_after_with_others, Worlds.{action_of, after_step_with_others, history, task_of, with_action}}
use Rattle.gate_world.specs.{declared.{entries.Entry.TheVariants.Begins, views.Snapshot.Snapshot}, traces.Snapshots.{completes, last_snapshot}}
use Rattle.gated_tree.specs.{Trees.{HasDirectory, IsSound, LoadedClean, LoadedSound, is_child, node_at}, declared.trees.TreeWords.TreeWords}
use Rattle.gate_schedules.proofs.{operations.AllOperations.phase_keeps, schedules.Lists.{happens_lists, lists}}
use Rattle.gate_schedules.proofs.{schedules.Schedule.{happens_keeps, legal_more}, trees.worlds.Frozen.frozen_whole}

-- the parent of a node is a directory also in a tree that shows the same nodes
directory_as : (nodes : ℕ) (old new : ℕ → Option NodeInfo) → ((n : ℕ) → n < nodes → old n ≡ new n) → (node : Option NodeInfo) →
    HasDirectory nodes old node → HasDirectory nodes new node
directory_as nodes old new same node h = grind arith

-- and such a tree is as sound
pub sound_as : (nodes used used' : ℕ) (old new : ℕ → Option NodeInfo) (kids kids' : ℕ → ℕ) → used ≡ used' →
    ((n : ℕ) → n < nodes → old n ≡ new n) → ((n : ℕ) → n < nodes → kids n ≡ kids' n) →
    IsSound nodes used old kids → IsSound nodes used' new kids'
sound_as nodes used used' old new kids kids' same_used same same_kids sound = record {
  blocks = sym same_used ∙ sound.blocks ∙ total_same nodes _ _ (λ n lt. ap size_of (same n lt));
  children = λ d ld. sym (same_kids d ld) ∙ sound.children d ld ∙ total_same nodes _ _ (λ n lt. ap (is_child d n) (same n lt));
  parents = λ n lt. subst (HasDirectory nodes new) (same n lt) (directory_as nodes old new same (old n) (sound.parents n lt));
}

module _ (c : Config) where
  -- a moment in the history is one in the longer history
  moment_stays : (log : List Done) (t : ℕ) (last : Option Snapshot) → HasMoment c log t last → (u : ℕ) (a : Option Action) →
      HasMoment c (with_action u a log) t last
  moment_stays log t last h u a = grind (arith, stays)

  -- where what was loaded are the present words of a frozen tree, that is sound and clean
  module _ (w : World) (tree : FrozenTreeIsWhole c w) (loaded : TreeWords) (present : IsPresentTree c w.words loaded) where
    loaded_same : (n : ℕ) → n < c.nodes → (shown c w).tree n ≡ node_at loaded n
    loaded_same n lt = present.nodes n lt

    loaded_sound : LoadedSound loaded
    loaded_sound =
        subst (λ nodes. IsSound nodes loaded.used (node_at loaded) (slice_index loaded.kids)) (sym present.whole)
        (sound_as c.nodes w.words.used loaded.used (shown c w).tree (node_at loaded) w.words.kids (slice_index loaded.kids) present.used
        loaded_same present.kids (tree present.frozen).0)

    loaded_clean : LoadedClean loaded
    loaded_clean = grind arith

  -- a history that leads to the present has the moment of a snapshot of the present tree
  module _ (w : World) (tree : FrozenTreeIsWhole c w) (log : List Done) (ends : end_of log ≡ shown c w) where
    present_moment : (t : ℕ) (actions : List Action) (others : List (ℕ × ℕ)) (loaded : TreeWords) → own_part t log ≡ actions →
        HaveDone others log → IsPresentTree c w.words loaded →
        HasMoment c log t (Some (record { loaded = loaded; done = length actions; others = others }))
    present_moment t actions others loaded own done present = record {
      whole = present.whole;
      sound = loaded_sound w tree loaded present;
      clean = loaded_clean w tree loaded present;
      stands = is_now c.nodes (node_at loaded) ((t, length actions) ∷ others) log (record {
        frozen = ap (λ (s : State). s.stage) ends ∙ present.frozen;
        same_tree = λ n lt. ap (λ (s : State). s.tree n) ends ∙ loaded_same w tree loaded present n lt;
        have_done = (ap length own, done);
      });
    }

    -- so the last snapshot has one, also where it is completed now
    last_moment : (t : ℕ) (taken : Option TreeWords) (actions : List Action) (others : List (ℕ × ℕ)) (last : Option Snapshot) →
        own_part t log ≡ actions → HaveDone others log → ((loaded : TreeWords) → taken ≡ Some loaded → IsPresentTree c w.words loaded) →
        HasMoment c log t last → HasMoment c log t (last_snapshot taken actions others last)
    last_moment t taken actions others last own done present h = grind (arith, present_moment)

    -- after a step, also one of a task that has other numbers
    pub beside_moments : (others : List (ℕ × ℕ)) (t : ℕ) (hook : HookAnswer) (phase : Phase) → IsMerge (lists w) log → HaveDone others log →
        CompletesNow c w t hook phase → AllHaveMoments c log w →
        AllHaveMoments c (with_action t (phase_action w hook (Some phase)) log) (after_step_with_others others w t phase hook)
    beside_moments others t hook phase merge done now all x =
        let a : Option Action = phase_action w hook (Some phase) in
        let v : View = w.views t in
        let taken : Option TreeWords = completes phase v.trace (found_at w.words phase hook) in
        each_updated (λ y (u : View). HasMoment c (with_action t a log) y u.snapshot) w.views t
        (view_after_with_others others v phase (value_at w.words phase hook) hook) x
        (moment_stays log t (last_snapshot taken v.actions others v.snapshot)
        (last_moment t taken v.actions others v.snapshot (merge t) done now (all t)) t a)
        (λ ne. moment_stays log x (w.views x).snapshot (all x) t a)

  pub begin_moments : (w : World) (log : List Done) (t : ℕ) (op : Op) (r : Option GateError) → AllHaveMoments c log w →
      AllHaveMoments c log (begin_of c w t op r)
  begin_moments w log t op r all x = grind arith

module _ (c : Config) (lim : IsWithin c) where
  module _
      (w : World) (good : IsGood c w) (log : List Done) (ends : end_of log ≡ shown c w) (merge : IsMerge (lists w) log)
      (all : AllHaveMoments c log w) where
    step_moments : (t : ℕ) → t < c.tasks → (hook : HookAnswer) (p : Option Phase) → (w.views t).phase ≡ p →
        AllHaveMoments c (with_action t (phase_action w hook p) log) (step_of w t hook p)
    step_moments t lt hook None e = all
    step_moments t lt hook (Some phase) e =
        beside_moments c w (frozen_whole c lim w good) log ends [] t hook phase merge tt ((phase_keeps c phase).completes lim w good t lt hook e) all

    happens_moments : (e : Entry) → AllHaveMoments c (with_action (task_of e) (action_of c w e) log) (happens c w e)
    happens_moments (Begins t op) =
        elim (cases_Bool (nat_lt t c.tasks)) [
          | inl h ↦ rw h (begin_moments c w log t op (view_refusal c (w.views t) op) all)
          | inr h ↦ rw h all
        ]
    happens_moments (Steps t hook) =
        elim (cases_Bool (nat_lt t c.tasks)) [
          | inl h ↦ rw h (step_moments t (ltb-true t c.tasks h) hook (w.views t).phase refl)
          | inr h ↦ rw h all
        ]

  -- after any execution
  pub run_moments : (es : List Entry) (w : World) (log : List Done) → IsGood c w → IsLegal (model_limits c) log → end_of log ≡ shown c w →
      IsMerge (lists w) log → AllHaveMoments c log w → AllHaveMoments c (history c w log es) (run c w es)
  run_moments [] w log good legal ends merge all = all
  run_moments (e ∷ es) w log good legal ends merge all =
      let t : ℕ = task_of e in
      let a : Option Action = action_of c w e in
      let kept : IsGood c (happens c w e) × Moves c (shown c w) t a (shown c (happens c w e)) = happens_keeps c lim w good e in
      let more : IsLegal (model_limits c) (with_action t a log) × (end_of (with_action t a log) ≡ shown c (happens c w e)) =
      legal_more c lim (shown c w) (shown c (happens c w e)) t a log kept.1 legal ends in
      run_moments es (happens c w e) (with_action t a log) kept.0 more.0 more.1 (happens_lists c w log e merge)
      (happens_moments w good log ends merge all e)
