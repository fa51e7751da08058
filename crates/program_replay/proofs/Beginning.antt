-- What the gates show as they begin, and after a beginning.
use Rattle.std.proofs.Common.{List, None, Option, Some, ap, arith, inl, inr, is_some, length, slice_index_or, subst, sym, ℕ, ◌<◌, ◌∙◌, ◌≡◌, ◌≢◌}
use Rattle.std.proofs.lemmas.{Bool.{Decides.eqb_tells, lt-ltb}, List.get_or_default}
use Rattle.{access_model.specs.declared.errors.GateError.GateError, finite_sums.proofs.Totals.{update_at, update_off}}
use Rattle.{gate_schedules.proofs.schedules.Beginnings.{first_fits, may_begin}, gate_transitions.specs.Answers.{begin_answer, unless_refused}}
use Rattle.gate_world.specs.{Beginnings.{first_phase, refusal}, Fits.Fits, Holdings.holdings_of, Views.{begun_view, held_of}}
use Rattle.gate_world.specs.{Worlds.{World, after_begin, begin_of, begin_refusal, happens}, declared.config.Config.Config}
use Rattle.gate_world.specs.declared.{entries.Entry.TheVariants.Begins, operations.Op.Op, views.View.View, work.Phase.Phase}
use Rattle.vfs_gates.specs.TaskStates.{SeatedTask, own_number, own_view, refusal_at}
use Rattle.program_replay.specs.{Shown.{IsShown, TasksShow}, Standing.with_begun}

module _ (c : Config) (w : World) (old new : List SeatedTask) (list : List ℕ) (shows : TasksShow old list c w) (t : ℕ) (lt : t < c.tasks) (op : Op)
    (d : SeatedTask) where
  abbrev first : ℕ → SeatedTask
  first k = slice_index_or old k d

  was : (k : ℕ) → k < c.tasks → IsShown c shows.entries w k (first k)
  was k lk = shows.shown k d lk

  pub refusal_same : refusal_at op (first t) ≡ begin_refusal c w t op
  refusal_same =
      let s : IsShown c shows.entries w t (first t) = was t lt in
      rw (lt-ltb t c.tasks lt)
      (ap (λ (k : Config). refusal k (is_some (first t).phase) (held_of (own_view (first t).items)) op) s.config ∙
      (ap (λ (p : Option Phase). refusal c (is_some p) (held_of (own_view (first t).items)) op) (sym s.phase) ∙
      ap (λ l. refusal c (is_some (w.views t).phase) (holdings_of l) op) (sym s.actions)))

  pub begin_answered : unless_refused (refusal_at op (first t)) ≡ begin_answer c w t op
  begin_answered = ap unless_refused refusal_same

  module _ (none : refusal_at op (first t) ≡ None) (begun : slice_index_or new t d ≡ with_begun op (first t))
      (others : (k : ℕ) → k ≢ t → slice_index_or new k d ≡ first k) (count : length new ≡ length old) where
    abbrev view : View
    view = begun_view (w.views t) op (first_phase c t op)

    abbrev next : World
    next = after_begin c w t op

    next_is : happens c w (Begins t op) ≡ next
    next_is = ap (begin_of c w t op) (sym refusal_same ∙ none)

    shown_own : IsShown c shows.entries next t (slice_index_or new t d)
    shown_own =
        let s : IsShown c shows.entries w t (first t) = was t lt in
        let at : first_phase (first t).config (own_number (first t).items) op ≡ first_phase c t op = λ i. first_phase (s.config i) (s.own i) op in
        let clear : refusal c (is_some (first t).phase) (held_of (own_view (first t).items)) op ≡ None =
        subst (λ (k : Config). refusal k (is_some (first t).phase) (held_of (own_view (first t).items)) op ≡ None) s.config none in
        subst (IsShown c shows.entries next t) (sym begun) (record {
          there = s.there;
          own = s.own;
          config = s.config;
          seen = s.seen;
          stands = record { phase = s.stands.phase; events = s.stands.events };
          phase = ap (λ (v : View). v.phase) (update_at w.views t view) ∙ ap (λ (p : Phase). Some p) (sym at);
          actions = ap (λ (v : View). v.actions) (update_at w.views t view) ∙ s.actions;
          fits = subst (λ (p : Phase). Fits c t (held_of (own_view (first t).items)) (Some p)) (sym at)
              (first_fits c t (is_some (first t).phase) (held_of (own_view (first t).items)) op
              (may_begin c (is_some (first t).phase) (held_of (own_view (first t).items)) op clear));
        })

    shown_other : (k : ℕ) → k < c.tasks → k ≢ t → IsShown c shows.entries next k (slice_index_or new k d)
    shown_other k lk ne =
        let s : IsShown c shows.entries w k (first k) = was k lk in
        let same : next.views k ≡ w.views k = update_off w.views t view k ne in
        subst (IsShown c shows.entries next k) (sym (others k ne)) (record {
          there = s.there;
          own = s.own;
          config = s.config;
          seen = s.seen;
          stands = s.stands;
          phase = ap (λ (v : View). v.phase) same ∙ s.phase;
          actions = ap (λ (v : View). v.actions) same ∙ s.actions;
          fits = s.fits;
        })

    shown_after : (k : ℕ) → k < c.tasks → IsShown c shows.entries next k (slice_index_or new k d)
    shown_after k lk = elim (eqb_tells k t) [
      | inl is ↦ subst (λ (n : ℕ). IsShown c shows.entries next n (slice_index_or new n d)) (sym is.1) shown_own
      | inr ne ↦ shown_other k lk ne.1
    ]

    pub begin_shown : TasksShow new list c (happens c w (Begins t op))
    begin_shown =
        let many : length new ≡ c.tasks = count ∙ shows.count in
        subst (λ (x : World). TasksShow new list c x) (sym next_is) (record {
          within = shows.within;
          count = many;
          long = shows.long;
          entries = shows.entries;
          words = shows.words;
          shown = λ k e lk. subst (IsShown c shows.entries next k) (get_or_default new k d e (omega (arith, many, lk))) (shown_after k lk);
          listed = shows.listed;
        })

  -- one that is refused changes nothing
  pub refused_shown : (refused : GateError) → refusal_at op (first t) ≡ Some refused → happens c w (Begins t op) ≡ w
  refused_shown refused is = ap (begin_of c w t op) (sym refusal_same ∙ is)
