-- The invariant and the shown state read no snapshot.
use Rattle.gate_schedules.proofs.Prelude.{Config, Holds, HookAnswer, IsGood, List, None, Part, Phase, Traced, View, Words, World, after_of}
use Rattle.gate_schedules.proofs.Prelude.{after_step, ap, arith, eqb_tells, found_at, found_by, inl, inr, is_some, next_of, refl, shown, subst, sym}
use Rattle.gate_schedules.proofs.Prelude.{update, value_at, view_after, view_with, words_after, ℕ, ◌∙◌, ◌≡◌}
use Rattle.std.proofs.{Math.Path.fun_ext, lemmas.Bool.true≢false}
use Rattle.gate_world.specs.{Moments.CompletesNow, Views.view_after_with_others, Worlds.after_step_with_others, traces.Snapshots.completes}

-- a view, and a state, without their snapshots
abbrev view_without_snapshot : View → View
view_without_snapshot v = record v { snapshot = None }

abbrev bare : World → World
bare w = record { words = w.words; views = λ t. view_without_snapshot (w.views t) }

bare_part : (c : Config) (w : World) (part : Part) → Holds c (bare w) part ≡ Holds c w part
bare_part c w part = grind arith

bare_views : (f : ℕ → View) (t : ℕ) (u v : View) → view_without_snapshot u ≡ view_without_snapshot v → (x : ℕ) →
    view_without_snapshot (update f t u x) ≡ view_without_snapshot (update f t v x)
bare_views f t u v e x = elim (eqb_tells x t) [ inl h ↦ rw (h.0, update) e | inr h ↦ rw (h.0, update) refl ]

-- views that differ in their snapshot alone serve alike: in each conjunct of the invariant, and in the shown state
module _ (c : Config) (ws : Words) (f : ℕ → View) (t : ℕ) (u v : View) (same : view_without_snapshot u ≡ view_without_snapshot v) where
  abbrev old : World
  old = record { words = ws; views = update f t u }

  abbrev new : World
  new = record { words = ws; views = update f t v }

  same_bare : bare old ≡ bare new
  same_bare = λ i. record { words = ws; views = fun_ext (bare_views f t u v same) i }

  pub part_apart : (part : Part) → Holds c (record { words = ws; views = update f t u }) part →
      Holds c (record { words = ws; views = update f t v }) part
  part_apart part h =
      let parts : Holds c old part ≡ Holds c new part =
      sym (bare_part c old part) ∙ (ap (λ w. Holds c w part) same_bare ∙ bare_part c new part) in
      subst (λ X. X) parts h

  pub shown_apart : shown c (record { words = ws; views = update f t u }) ≡ shown c (record { words = ws; views = update f t v })
  shown_apart = ap (shown c) same_bare

-- what the other numbers of a task have done is noted in its snapshot alone: the invariant and the shown state are as without them
pub others_apart : (c : Config) (others : List (ℕ × ℕ)) (w : World) (t : ℕ) (phase : Phase) (hook : HookAnswer) →
    IsGood c (after_step w t phase hook) →
    IsGood c (after_step_with_others others w t phase hook) ×
    (shown c (after_step w t phase hook) ≡ shown c (after_step_with_others others w t phase hook))
others_apart c others w t phase hook good =
    let ws : Words = words_after w.words phase hook in
    let value : ℕ = value_at w.words phase hook in
    let alone : View = view_after (w.views t) phase value hook in
    let beside : View = view_after_with_others others (w.views t) phase value hook in
    (λ part. part_apart c ws w.views t alone beside refl part (good part), shown_apart c ws w.views t alone beside refl)

-- the view, and the state, after a step where a snapshot that it completes is not noted
abbrev plain_view : View → Phase → ℕ → HookAnswer → View
plain_view v phase value hook = view_with v (next_of phase hook) value hook (after_of phase (found_by (next_of phase hook).1 value) hook)

abbrev pub after_plain_step : World → ℕ → Phase → HookAnswer → World
after_plain_step w t phase hook = record {
  words = words_after w.words phase hook;
  views = update w.views t (plain_view (w.views t) phase (value_at w.words phase hook) hook);
}

-- so the law of a step that completes a snapshot may be proved as if none were noted
module _ (c : Config) (w : World) (t : ℕ) (phase : Phase) (hook : HookAnswer) where
  abbrev plain : View
  plain = plain_view (w.views t) phase (value_at w.words phase hook) hook

  abbrev noted : View
  noted = view_after (w.views t) phase (value_at w.words phase hook) hook

  pub noted_part : (part : Part) → Holds c (after_plain_step w t phase hook) part → Holds c (after_step w t phase hook) part
  noted_part part h = part_apart c (words_after w.words phase hook) w.views t plain noted refl part h

-- a phase whose step completes no snapshot, whatever it finds
pub completes_none : (c : Config) (w : World) (t : ℕ) (hook : HookAnswer) (phase : Phase) →
    ((trace : List Traced) (found : ℕ) → completes phase trace found ≡ None) → CompletesNow c w t hook phase
completes_none c w t hook phase none loaded e =
    absurd (true≢false (sym (ap is_some e) ∙ ap is_some (none (w.views t).trace (found_at w.words phase hook))))
