-- What some schedule makes of the opening, a table's state is again after each beginning, step and gift of a number.
use Rattle.gate_steps.proofs.Prelude.{Begins, Config, Entry, HookAnswer, List, None, Op, Option, Phase, Some, Steps, View, World, [], actions_after}
use Rattle.gate_steps.proofs.Prelude.{after_of, ap, arith, event_of, first_phase, happens, held_of, next_of, opening, phase_after, refl, run, subst}
use Rattle.gate_steps.proofs.Prelude.{sym, view_after_with_others, ℕ, ◌++◌, ◌<◌, ◌∙◌, ◌∷◌, ◌≡◌}
use Rattle.std.proofs.{Common.{false, is_some}, lemmas.Bool.lt-ltb}
use Rattle.{access_model.specs.Histories.Done, finite_sums.{proofs.Totals.each_updated, specs.Sums.update}}
use Rattle.gate_schedules.proofs.schedules.{Beginnings.may_begin, Runs.run_more}
use Rattle.gate_world.specs.{Beginnings.{refusal, view_refusal}, Holdings.holdings_of, Views.{begun_view, view_after, with_hook}}
use Rattle.gate_world.specs.Worlds.{action_of, after_begin, after_step, after_step_with_others, found_at, history, phase_action, task_of, value_at}
use Rattle.gate_world.specs.Worlds.{with_action, words_after}
use Rattle.gate_steps.specs.{Histories.{BeginsIdle, IsLike, IsReached, IsWellFormed, then_steps}, Seating.renewed}

-- views that agree agree after one of each is replaced by views that agree
like_update : (f g : ℕ → View) (t : ℕ) (v u : View) → IsLike v u → ((x : ℕ) → IsLike (f x) (g x)) → (x : ℕ) →
    IsLike (update f t v x) (update g t u x)
like_update f g t v u like each x = grind arith

-- the opening is reached by no transition
pub opening_reached : (c : Config) → (r : IsReached c [] opening) × (r.entries ≡ [])
opening_reached c = (
  record {
    entries = [];
    words = refl;
    views = λ t. record { phase = refl; actions = refl; events = refl; same = λ op is. (is, refl, refl) };
    made = refl;
    formed = tt;
  },
  refl,
)

-- the actions of a schedule with one transition more
history_more : (c : Config) (w : World) (earlier : List Done) (es : List Entry) (e : Entry) →
    history c w earlier (es ++ e ∷ []) ≡ with_action (task_of e) (action_of c (run c w es) e) (history c w earlier es)
history_more c w earlier [] e = refl
history_more c w earlier (x ∷ es) e = history_more c (happens c w x) (with_action (task_of x) (action_of c w x) earlier) es e

-- a well-formed schedule with one transition more
formed_more : (c : Config) (w : World) (es : List Entry) (e : Entry) → IsWellFormed c w es → BeginsIdle (run c w es) e →
    IsWellFormed c w (es ++ e ∷ [])
formed_more c w [] e formed idle = (idle, tt)
formed_more c w (x ∷ es) e formed idle = (formed.0, formed_more c (happens c w x) es e formed.1 idle)

-- what isn't under way has no phase
none_of : (o : Option Phase) → is_some o ≡ false → o ≡ None
none_of o is = grind arith

-- so a number that may begin an operation has none
pub begins_idle : (c : Config) (v : View) (op : Op) → view_refusal c v op ≡ None → v.phase ≡ None
begins_idle c v op may = none_of v.phase (may_begin c (is_some v.phase) (held_of v) op may).idle

-- a number that was given to a new task has no operation
no_operation : (op : Op) (v u : View) → u.op ≡ None → u.op ≡ Some op → (v.op ≡ Some op) × (v.trace ≡ u.trace) × (v.before ≡ u.before)
no_operation op v u none is = absurd (let no : ⊥ = cc in no)

module _ (c : Config) (log : List Done) (w : World) (reached : IsReached c log w) where
  -- the state of the schedule so far
  abbrev there : World
  there = run c opening reached.entries

  -- after a number is given to a new task
  pub renewed_reached : (n : ℕ) →
      (now : IsReached c log (record { words = w.words; views = update w.views n (renewed (w.views n)) })) × (now.entries ≡ reached.entries)
  renewed_reached n = (
    record {
      entries = reached.entries;
      words = reached.words;
      views = λ x. each_updated (λ y (u : View). IsLike (there.views y) u) w.views n (renewed (w.views n)) x
          (let like = reached.views n in record {
            phase = like.phase;
            actions = like.actions;
            events = like.events;
            same = λ op. no_operation op (there.views n) (renewed (w.views n)) refl;
          })
          (λ ne. reached.views x);
      made = reached.made;
      formed = reached.formed;
    },
    refl,
  )

  module _ (t : ℕ) (lt : t < c.tasks) where
    -- an operation is refused there as here
    refused_there : (op : Op) → view_refusal c (there.views t) op ≡ view_refusal c (w.views t) op
    refused_there op = let like = reached.views t in λ i. refusal c (is_some (like.phase i)) (holdings_of (like.actions i)) op

    -- so the schedule may go on with a beginning that isn't refused here
    pub begun_reached : (op : Op) → view_refusal c (w.views t) op ≡ None →
        (now : IsReached c log (after_begin c w t op)) × (now.entries ≡ reached.entries ++ Begins t op ∷ [])
    begun_reached op may =
        let same : run c opening (reached.entries ++ Begins t op ∷ []) ≡ after_begin c there t op =
        run_more c opening reached.entries (Begins t op) ∙ rw (lt-ltb t c.tasks lt, refused_there op ∙ may) refl in
        let like = reached.views t in
        let begun : IsLike (begun_view (there.views t) op (first_phase c t op)) (begun_view (w.views t) op (first_phase c t op)) =
        record { phase = refl; actions = like.actions; events = like.events; same = λ o is. (is, refl, like.actions) } in (
          record {
            entries = reached.entries ++ Begins t op ∷ [];
            words = ap (λ (v : World). v.words) same ∙ reached.words;
            views = λ x. subst (λ (v : World). IsLike (v.views x) ((after_begin c w t op).views x)) (sym same)
                (like_update there.views w.views t (begun_view (there.views t) op (first_phase c t op))
                (begun_view (w.views t) op (first_phase c t op))
                begun reached.views x);
            made = history_more c opening [] reached.entries (Begins t op) ∙ reached.made;
            formed = formed_more c opening reached.entries (Begins t op) reached.formed (like.phase ∙ begins_idle c (w.views t) op may);
          },
          refl,
        )

    -- a step of a task adds there what it adds here
    acts_there : (phase : Phase) (hook : HookAnswer) → (w.views t).phase ≡ Some phase →
        action_of c there (Steps t hook) ≡ phase_action w hook (Some phase)
    acts_there phase hook at = grind arith

    -- and with the next step of a task
    pub stepped_reached : (others : List (ℕ × ℕ)) (phase : Phase) (hook : HookAnswer) → (w.views t).phase ≡ Some phase →
        (now : IsReached c (with_action t (phase_action w hook (Some phase)) log) (after_step_with_others others w t phase hook)) ×
        (now.entries ≡ then_steps t hook reached.entries)
    stepped_reached others phase hook at =
        let same : run c opening (reached.entries ++ Steps t hook ∷ []) ≡ after_step there t phase hook =
        run_more c opening reached.entries (Steps t hook) ∙ rw (lt-ltb t c.tasks lt, (reached.views t).phase ∙ at) refl in
        let like = reached.views t in
        let before : View = view_after (there.views t) phase (value_at there.words phase hook) hook in
        let after : View = view_after_with_others others (w.views t) phase (value_at w.words phase hook) hook in
        let stepped : IsLike before after = record {
          phase = λ i. phase_after (after_of phase (found_at (reached.words i) phase hook) hook).0;
          actions = λ i. actions_after (after_of phase (found_at (reached.words i) phase hook) hook).1 (like.actions i);
          events = λ i. event_of (next_of phase hook).0 (next_of phase hook).1 (value_at (reached.words i) phase hook) ∷ like.events i;
          same = λ op is. let same_op = like.same op is in (
            same_op.0,
            (λ i. with_hook (event_of (next_of phase hook).0 (next_of phase hook).1 (value_at (reached.words i) phase hook)) hook ∷ same_op.1 i),
            same_op.2,
          );
        } in (
          record {
            entries = reached.entries ++ Steps t hook ∷ [];
            words = ap (λ (v : World). v.words) same ∙ (λ i. words_after (reached.words i) phase hook);
            views = λ x. subst (λ (v : World). IsLike (v.views x) ((after_step_with_others others w t phase hook).views x)) (sym same)
                (like_update there.views w.views t before after stepped reached.views x);
            made = history_more c opening [] reached.entries (Steps t hook) ∙
                (λ i. with_action t (acts_there phase hook at i) (reached.made i));
            formed = formed_more c opening reached.entries (Steps t hook) reached.formed tt;
          },
          refl,
        )
