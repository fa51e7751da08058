-- Loads of a task at a mount: they leave the words and the shown state.
use Rattle.gate_schedules.proofs.Prelude.{AtMount, Config, Fits, Fitting, HookAnswer, IsGood, MountPhase, Next, None, Option, Phase, Some, Touch}
use Rattle.gate_schedules.proofs.Prelude.{View, WordName, World, added_by, ap, arith, at_mount, closing, held_of, owns, phase_after, put, read, refl}
use Rattle.gate_schedules.proofs.Prelude.{remounts, role_of, shown, subst, sym, taken_by, update, update_same, view_with, ℕ, ◌<◌, ◌∙◌, ◌≡◌}
use Rattle.gate_schedules.proofs.frames.Frames.{MountHoldsAfter, added_load, gates_after, holds_as, owner_same, shown_still, taken_load, view_as}
use Rattle.gate_schedules.proofs.frames.Words.{load_same}
use Rattle.gate_world.specs.{Fits.MountFits, Roles.mount_owns, Rules.{GatesHold, IsSteady}}

pub steady : {p q r : Option Phase} → p ≡ r → IsSteady r q → IsSteady p q
steady e s = grind arith

-- steps of a layer that closes no level and sets no `remount`
pub as_owner : {p q : Option Phase} (phase : MountPhase) → p ≡ Some (Phase.Mounts phase) → owns q ≡ mount_owns phase → remounts q ≡ 0 →
    ((i : ℕ) → closing i q ≡ 0) → IsSteady p q
as_owner phase e o r c = steady e (record { owns_same = o; remounts_same = r; closing_same = c })

-- the state after a load, after which this comes
abbrev pub after_load : World → ℕ → WordName → HookAnswer → Next Phase → World
after_load w t name hook coming = record {
  words = put w.words name (read w.words name);
  views = update w.views t (view_with (w.views t) (name, Touch.Load) (read w.words name) hook (coming, None));
}

module _ (c : Config) (w : World) (good : IsGood c w) (t : ℕ) (lt : t < c.tasks) where
  -- the phase fits its task's accesses
  pub fits_now : (phase : MountPhase) → (w.views t).phase ≡ Some (Phase.Mounts phase) →
      MountFits c t (held_of (w.views t)) phase
  fits_now phase e = subst (Fits c t (held_of (w.views t))) e (good Fitting t lt)

  -- a load, after which the task's role is another at one mount at most
  pub load_law : (m : ℕ) (name : WordName) (hook : HookAnswer) (coming : Next Phase) →
      ((n : ℕ) → (n ≡ m → ⊥) → role_of n (phase_after coming) ≡ role_of n (w.views t).phase) →
      IsSteady (w.views t).phase (phase_after coming) →
      Fits c t (held_of (w.views t)) (phase_after coming) →
      (m < c.mounts → MountHoldsAfter c w t m (w.words.flags m) (w.words.count m)
      (record (at_mount m (w.views t)) { role = role_of m (phase_after coming) })) →
      GatesHold c (after_load w t name hook coming) × (shown c (after_load w t name hook coming) ≡ shown c w)
  load_law m name hook coming off same fits own =
      let v : View = view_with (w.views t) (name, Touch.Load) (read w.words name) hook (coming, None) in
      let ea : added_by v.events ≡ added_by (w.views t).events = added_load name (added_by (w.views t).events) in
      let et : taken_by v.events ≡ taken_by (w.views t).events = taken_load name (taken_by (w.views t).events) in
      let there : GatesHold c (record { words = w.words; views = update w.views t v }) =
      gates_after c w t lt good m w.words v refl refl (owner_same c w t lt good v same) fits
      (λ n ne. (refl, refl, view_as refl (ap (λ f. f n) ea) (ap (λ f. f n) et) (off n ne)))
      (λ lm. subst (MountHoldsAfter c w t m (w.words.flags m) (w.words.count m))
      (view_as refl (ap (λ f. f m) (sym ea)) (ap (λ f. f m) (sym et)) refl) (own lm)) in
      subst (λ ws. let next_world : World = record { words = ws; views = update w.views t v } in GatesHold c next_world ×
      (shown c next_world ≡ shown c w)) (sym (load_same w.words name))
      (there, shown_still c w t lt w.words v refl refl refl refl refl refl refl same.closing_same refl)

  -- a load, after which the task's role is the same at each mount
  pub still_load : (name : WordName) (hook : HookAnswer) (coming : Next Phase) →
      ((n : ℕ) → role_of n (phase_after coming) ≡ role_of n (w.views t).phase) →
      IsSteady (w.views t).phase (phase_after coming) →
      Fits c t (held_of (w.views t)) (phase_after coming) →
      GatesHold c (after_load w t name hook coming) × (shown c (after_load w t name hook coming) ≡ shown c w)
  still_load name hook coming role same fits =
      load_law 0 name hook coming (λ n ne. role n) same fits
      (λ lm. holds_as refl refl refl refl
      (ap (update (λ x. at_mount 0 (w.views x)) t) (view_as refl refl refl (role 0)) ∙ update_same (λ x. at_mount 0 (w.views x)) t)
      (good (AtMount 0) lm))
