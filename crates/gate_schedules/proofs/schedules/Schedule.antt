-- Every execution keeps the invariant, and its actions are one run of the access model.
use Rattle.gate_schedules.proofs.Prelude.{Action, AtLevel, AtMount, Config, Entry, Files, Fitting, GateError, HasFile, Holding, Holds, HookAnswer}
use Rattle.gate_schedules.proofs.Prelude.{IsGood, IsWithin, Known, List, MountHoldsIn, Moves, None, Op, Option, Owner, Part, Phase, Sections, Some}
use Rattle.gate_schedules.proofs.Prelude.{Stages, State, Steps, SyncAt, Tree, View, World, [], ap, arith, at_level, at_mount, begin_of, cases_Bool}
use Rattle.gate_schedules.proofs.Prelude.{each_updated, eqb_tells, false, file_of, first_phase, happens, has_open, held_of, inl, inr, is_some}
use Rattle.gate_schedules.proofs.Prelude.{level_role_of, ltb-true, model_limits, nat_lt, one_if, openers, opens_in, owns, phase_action, refl, role_of}
use Rattle.gate_schedules.proofs.Prelude.{run, shown, step_of, sym, total, total_bound, total_none, tree_bounds, tree_role_of, true≢false, update, ℕ}
use Rattle.gate_schedules.proofs.Prelude.{◌%◌, ◌*◌, ◌<◌, ◌∙◌, ◌∷◌, ◌≡◌, ◌≤◌}
use Rattle.std.proofs.Math.Path.{fun_ext}
use Rattle.access_model.specs.{Histories.{Done, IsLegal, end_of}, States.{most_tasks, opening_state}}
use Rattle.cpu_words.proofs.gate_counts.{Events.words_sum, Flags.gate_begins, Numbers.below_le}
use Rattle.cpu_words.specs.gate_counts.{Gates.{below, counted as counted_of}, Levels.{level_as_gate, processor_of as level_processor}}
use Rattle.finite_sums.proofs.Totals.{total_same}
use Rattle.freeze_laws.proofs.{levels.CitedLaws.opening_is_right, stages.CitedLaws.opening_is_right as stages_open}
use Rattle.freeze_levels.proofs.holder_laws.HolderLaws.{opens as holders_open}
use Rattle.gate_world.specs.{Beginnings.view_refusal, Headline.{IdleSumsHold, SumsHold}, Owners.KnowsWords, Rules.LevelHoldsIn}
use Rattle.gate_world.specs.{SameRoles.{SameRolesOffTree, off_tree}, Views.begun_view}
use Rattle.gate_world.specs.{Worlds.{action_of, after_begin, history, opening, task_of, with_action}, declared.entries.Entry.TheVariants.Begins}
use Rattle.mount_counts.specs.Roles.{counted, mount_shut, processor_of, sought}
use Rattle.gate_schedules.proofs.frames.{Frames.{left_alone, opens_left, same_words}, SameRolesOffTree.{SameCounts, good_off_tree, roles_off_tree}}
use Rattle.gate_schedules.proofs.{frames.SameRolesOffTree.view_shown_off_tree, operations.AllOperations.{op_keeps, phase_keeps}}
use Rattle.gate_schedules.proofs.{schedules.Beginnings.{MayBegin, first_fits, may_begin}, trees.{Each.opening_holds, worlds.Trees.tree_within}}

pub idle_is : (p : Option Phase) → is_some p ≡ false → p ≡ None
idle_is p h = grind arith

-- a task with this view may begin the operation
abbrev pub MayBeginAt : Config → View → Op → Type 0
MayBeginAt c v op = MayBegin c (is_some v.phase) (held_of v) op

module _ (c : Config) (lim : IsWithin c) (w : World) (good : IsGood c w) (t : ℕ) (lt : t < c.tasks) where
  pub step_keeps : (hook : HookAnswer) (p : Option Phase) → (w.views t).phase ≡ p →
      IsGood c (step_of w t hook p) × Moves c (shown c w) t (phase_action w hook p) (shown c (step_of w t hook p))
  step_keeps hook None e = (good, refl)
  step_keeps hook (Some phase) e = (phase_keeps c phase).step lim w good t lt hook e

  -- an operation that begins has no role, but that it may rely on a file
  begins_aside : (op : Op) → MayBeginAt c (w.views t) op → SameRolesOffTree (w.views t).phase (Some (first_phase c t op))
  begins_aside op h = roles_off_tree (idle_is (w.views t).phase h.idle) (λ j. off_tree ((op_keeps c op).starts_aside t j))

  -- so a beginning leaves each conjunct of the invariant but that of its own phase
  pub begun_keeps : (op : Op) → MayBeginAt c (w.views t) op → IsGood c (after_begin c w t op) × (shown c (after_begin c w t op) ≡ shown c w)
  begun_keeps op h =
      let v : View = begun_view (w.views t) op (first_phase c t op) in
      let counts : SameCounts (w.views t) v = assumption in
      let known : Holds c (after_begin c w t op) Known =
      λ x lx. each_updated (λ y (u : View). owns u.phase ≡ 1 → KnowsWords w.words u.trace) w.views t v x
      (λ o word value k. absurd (true≢false (ap is_some (sym k)))) (λ ne. good Known x lx) in
      let files : Holds c (after_begin c w t op) Files = record {
        counted = λ n ln. (good Files).counted n ln ∙ sym (ap (λ f. openers f n) (opens_left c w t lt v refl));
        own = λ y ly. each_updated (λ z (u : View). HasFile (has_open u) (file_of u.phase)) w.views t v y
            ((op_keeps c op).file t (held_of (w.views t)) h.order h.room) (λ ne. (good Files).own y ly);
      } in (
        good_off_tree c w t lt v counts (begins_aside op h)
            (first_fits c t (is_some (w.views t).phase) (held_of (w.views t)) op h) good known
            (left_alone c w t lt Tree w.words v (same_words w.words Tree)
            ((λ j. ((op_keeps c op).starts_aside t j).tree []) ∙ sym (ap (tree_role_of (w.views t).trace) (idle_is (w.views t).phase h.idle)))
            (good Tree)) files,
        view_shown_off_tree c w t lt v counts (begins_aside op h),
      )

module _ (c : Config) (lim : IsWithin c) where
  begin_keeps : (w : World) → IsGood c w → (t : ℕ) (op : Op) → t < c.tasks → (r : Option GateError) → view_refusal c (w.views t) op ≡ r →
      IsGood c (begin_of c w t op r) × (shown c (begin_of c w t op r) ≡ shown c w)
  begin_keeps w good t op lt None e = begun_keeps c lim w good t lt op
      (may_begin c (is_some (w.views t).phase) (held_of (w.views t)) op e)
  begin_keeps w good t op lt (Some refused) e = (good, refl)

  -- each transition keeps the invariant, and moves the shown state by its action
  pub happens_keeps : (w : World) → IsGood c w → (e : Entry) → IsGood c (happens c w e) ×
      Moves c (shown c w) (task_of e) (action_of c w e) (shown c (happens c w e))
  happens_keeps w good (Begins t op) =
      elim (cases_Bool (nat_lt t c.tasks)) [
        | inl h ↦ rw h (begin_keeps w good t op (ltb-true t c.tasks h) (view_refusal c (w.views t) op) refl)
        | inr h ↦ rw h (good, refl)
      ]
  happens_keeps w good (Steps t hook) =
      elim (cases_Bool (nat_lt t c.tasks)) [
        | inl h ↦ rw h (step_keeps c lim w good t (ltb-true t c.tasks h) hook (w.views t).phase refl)
        | inr h ↦ rw h (good, refl)
      ]

  -- an allowed trace that ends in what a state shows, with one more transition
  pub legal_more : (old new : State) (t : ℕ) (a : Option Action) (earlier : List Done) → Moves c old t a new →
      IsLegal (model_limits c) earlier → end_of earlier ≡ old →
      IsLegal (model_limits c) (with_action t a earlier) × (end_of (with_action t a earlier) ≡ new)
  legal_more old new t a earlier m legal ends = grind arith

  pub run_keeps : (es : List Entry) (w : World) (earlier : List Done) → IsGood c w → IsLegal (model_limits c) earlier →
      end_of earlier ≡ shown c w →
      IsGood c (run c w es) × IsLegal (model_limits c) (history c w earlier es) × (end_of (history c w earlier es) ≡ shown c (run c w es))
  run_keeps [] w earlier good legal ends = (good, legal, ends)
  run_keeps (e ∷ es) w earlier good legal ends =
      let k : IsGood c (happens c w e) × Moves c (shown c w) (task_of e) (action_of c w e) (shown c (happens c w e)) =
      happens_keeps w good e in
      let n : IsLegal (model_limits c) (with_action (task_of e) (action_of c w e) earlier) ×
      (end_of (with_action (task_of e) (action_of c w e) earlier) ≡ shown c (happens c w e)) =
      legal_more (shown c w) (shown c (happens c w e)) (task_of e) (action_of c w e) earlier k.1 legal ends in
      run_keeps es (happens c w e) (with_action (task_of e) (action_of c w e) earlier) k.0 n.0 n.1

  zeros : (n : ℕ) → total n (λ x. 0) ≡ 0
  zeros n = total_none n (λ x. 0) (λ x lx. refl)

  none_open : (n : ℕ) → opens_in (opening.words.node n) ≡ openers (λ t. has_open (opening.views t)) n
  none_open n =
      let nobody : openers (λ t. has_open (opening.views t)) n ≡ 0 = total_none most_tasks (λ t. one_if false) (λ t lt. refl) in
      elim (eqb_tells n 0) [ inl h ↦ rw (h.0, update) (sym nobody) | inr h ↦ rw (h.0, update) (sym nobody) ]

  pub opening_good : (part : Part) → Holds c opening part
  opening_good Owner = record {
    locked = λ t lt h. absurd (omega arith);
    owned = λ t lt h. absurd (omega arith);
    known = omega arith;
    bit =
        omega arith;
    remounting = sym (zeros c.tasks);
  }
  opening_good Stages = (stages_open c.tasks c.nodes).stages
  opening_good Holding = holders_open c.tasks
  opening_good Tree = opening_holds (tree_bounds c) (tree_within c lim)
  opening_good Files = record { counted = λ n ln. none_open n; own = λ t lt. tt }
  opening_good Known = λ t lt o. absurd (omega (arith, o))
  opening_good Fitting = λ t lt. tt
  opening_good (AtLevel i) = λ l1 l3. record { known = omega arith; gate = gate_begins c.tasks c.processors (λ j. 0 ≡ 1) }
  opening_good (SyncAt i) = λ l1 l3. (opening_is_right c.tasks).level
  opening_good Sections = λ t lt. refl
  opening_good (AtMount m) = λ lm. record {
    bits = omega arith;
    gate = gate_begins c.tasks c.processors (mount_shut 0 0 0);
    skipped = λ t lt h. absurd (omega (arith, h));
  }

  opening_tree : (n : ℕ) → opening_state.tree n ≡ (shown c opening).tree n
  opening_tree n = elim (eqb_tells n 0) [ inl h ↦ rw (h.0, update) refl | inr h ↦ rw (h.0, update) refl ]

  pub opening_shown : opening_state ≡ shown c opening
  opening_shown =
      λ i. record opening_state { tree = fun_ext opening_tree i }

  -- a mount's words sum to what is counted, as a whole number
  mount_sums : (w : World) → IsGood c w → (m : ℕ) → m < c.mounts →
      total c.processors (w.words.count m) % 18446744073709551616 ≡ total c.tasks (λ t. counted (at_mount m (w.views t)))
  mount_sums w good m lm =
      let g : MountHoldsIn c w m = good (AtMount m) lm in
      let s : total c.processors (w.words.count m) % 18446744073709551616 ≡
      total c.tasks (λ t. counted (at_mount m (w.views t))) % 18446744073709551616 = words_sum g.gate.counts in
      let b : total c.tasks (λ t. counted (at_mount m (w.views t))) ≤ c.tasks * 1025 =
      total_bound c.tasks 1025 _ (λ x lx. omega (arith, g.gate.room x lx, below_le 0 (processor_of (role_of m (w.views x).phase)))) in
      omega (arith, lim.tasks)

  level_sums : (w : World) → IsGood c w → (i : ℕ) → 1 ≤ i → i ≤ 3 →
      total c.processors (w.words.level i) % 18446744073709551616 ≡ total c.tasks (λ t. counted_of (level_as_gate (at_level i (w.views t))))
  level_sums w good i l1 l3 =
      let g : LevelHoldsIn c w i = good (AtLevel i) l1 l3 in
      let s : total c.processors (w.words.level i) % 18446744073709551616 ≡
      total c.tasks (λ t. counted_of (level_as_gate (at_level i (w.views t)))) % 18446744073709551616 = words_sum g.gate.counts in
      let b : total c.tasks (λ t. counted_of (level_as_gate (at_level i (w.views t)))) ≤ c.tasks * 1025 =
      total_bound c.tasks 1025 _ (λ x lx. omega (arith, g.gate.room x lx, below_le 0 (level_processor (level_role_of i (w.views x).phase)))) in
      omega (arith, lim.tasks)

  pub gate_sums : (w : World) → IsGood c w → SumsHold c w
  gate_sums w good = record { mounts = mount_sums w good; levels = level_sums w good }

  pub idle_sums : (w : World) → IsGood c w → IdleSumsHold c w
  idle_sums w good idle = record {
    mounts = λ m lm.
        mount_sums w good m lm ∙ total_same c.tasks _ _ (λ x lx. omega (arith, ap (λ u. sought (role_of m u)) (idle x lx)));
    levels = λ i l1 l3.
        level_sums w good i l1 l3 ∙
        total_same c.tasks _ _ (λ x lx. omega (arith, ap (λ u. below 0 (level_processor (level_role_of i u))) (idle x lx)));
  }
