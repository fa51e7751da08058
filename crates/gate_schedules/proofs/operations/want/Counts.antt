-- Steps of a want or a drop on a count word.
use Rattle.gate_schedules.proofs.Prelude.{Action, AtMount, Bool, Config, Err, Gate, GateError, GateStepKeeps, GatesHold, HookAnswer, IsGood, IsSteady}
use Rattle.gate_schedules.proofs.Prelude.{IsWithin, MountPhase, Next, None, Ok, Option, Phase, Reply, Result, Some, Touch, View, WantStep, WordName}
use Rattle.gate_schedules.proofs.Prelude.{Words, World, added_by, ap, arith, at_mount, has_open, held_at, refl, role_of, shown, sym, taken_by, update}
use Rattle.gate_schedules.proofs.Prelude.{update_at, update_off, update_same, view_with, wrap_add, ℕ, ◌+◌, ◌-◌, ◌<◌, ◌∙◌, ◌≡◌}
use Rattle.{access_model.specs.Actions.after_action, cpu_words.specs.Touches.wrap_sub}
use Rattle.mount_counts.{proofs.laws.MountLaws.{adds, backs_off, returns}, specs.Roles.{Asking, Out}}
use Rattle.gate_schedules.proofs.frames.Frames.{MountHoldsAfter, gates_after, holds_as, owner_same, role_off, role_on, shown_as, shown_still, view_as}
use Rattle.gate_schedules.proofs.{mounts.Loads.{as_owner, fits_now}, operations.want.Loads.{want, want_here, want_off}}

module _ (c : Config) (lim : IsWithin c) (w : World) (good : IsGood c w) (t : ℕ) (lt : t < c.tasks) where
  -- adds before it looks for HOLD; meets: HOLD is set before the words are summed
  pub counts_up : (m p : ℕ) (wait : Bool) (hook : HookAnswer) → (w.views t).phase ≡ Some (Phase.Mounts (want m p wait WantStep.CountsUp)) →
      GateStepKeeps c w t hook (Phase.Mounts (want m p wait WantStep.CountsUp))
  counts_up m p wait hook e =
      let f : (m < c.mounts) × (p < c.processors) × (held_at (w.views t) m < 1024) = fits_now c w good t lt (want m p wait WantStep.CountsUp) e in
      let word : ℕ → ℕ = update (w.words.count m) p (wrap_add (w.words.count m p) 1) in
      let net : ℕ → ℕ = update (added_by (w.views t).events m) p (added_by (w.views t).events m p + 1) in
      let ws : Words = record w.words { count = update w.words.count m word } in
      let v : View = view_with (w.views t) (WordName.MountCount m p, Touch.Add 1) (w.words.count m p) hook
      (Next.Go (Phase.Mounts (want m p wait WantStep.LoadsHold)), None) in
      let same : IsSteady (w.views t).phase v.phase = as_owner (want m p wait WantStep.CountsUp) e refl refl (λ i. refl) in (
        gates_after c w t lt good m ws v refl refl (owner_same c w t lt good v same) f
            (λ y ne. (
              refl,
              update_off w.words.count m word y ne,
              view_as refl (update_off (added_by (w.views t).events) m net y ne) refl
                  (role_off y m (Asking p) ne ∙ sym (want_off m p wait WantStep.CountsUp e y ne)),
            ))
            (λ lm. holds_as refl refl refl (update_at w.words.count m word)
            (ap (update (λ x. at_mount m (w.views x)) t)
            (view_as refl (update_at (added_by (w.views t).events) m net) refl (role_on m (Asking p))))
            (adds (good (AtMount m) lm) t lt lim.tasks lim.processors p f.1 (want_here m p wait WantStep.CountsUp e))),
        shown_still c w t lt ws v refl refl refl refl refl refl refl same.closing_same refl,
      )

  module _ (m p : ℕ) (hook : HookAnswer) where
    -- the counts of the mount after a subtraction, and what the task has taken from them
    abbrev less : ℕ → ℕ
    less = update (w.words.count m) p (wrap_sub (w.words.count m p) 1)

    abbrev net : ℕ → ℕ
    net = update (taken_by (w.views t).events m) p (taken_by (w.views t).events m p + 1)

    -- all words then, and the view of a task that is done
    abbrev words_less : Words
    words_less = record w.words { count = update w.words.count m less }

    abbrev done : Result Reply GateError → Option Action → View
    done answer action = view_with (w.views t) (WordName.MountCount m p, Touch.Sub 1) (w.words.count m p) hook (Next.Done answer, action)

    -- a subtraction after which the task is idle, with h accesses at this mount
    pub take_law : (h : ℕ) (answer : Result Reply GateError) (action : Option Action) →
        ((y : ℕ) → (y ≡ m → ⊥) → role_of y (w.views t).phase ≡ Out) → IsSteady (w.views t).phase None →
        held_at (done answer action) m ≡ h → ((y : ℕ) → (y ≡ m → ⊥) → held_at (done answer action) y ≡ held_at (w.views t) y) →
        MountHoldsAfter c w t m (w.words.flags m) less (record (at_mount m (w.views t)) { held = h; taken = net; role = Out }) →
        GatesHold c (record { words = words_less; views = update w.views t (done answer action) })
    take_law h answer action off same held others own =
        gates_after c w t lt good m words_less (done answer action) refl refl (owner_same c w t lt good (done answer action) same) tt
        (λ y ne. (
          refl,
          update_off w.words.count m less y ne,
          view_as (others y ne) refl (update_off (taken_by (w.views t).events) m net y ne) (sym (off y ne)),
        ))
        (λ lm. holds_as refl refl refl (update_at w.words.count m less)
        (ap (update (λ x. at_mount m (w.views x)) t) (view_as held refl (update_at (taken_by (w.views t).events) m net) refl)) own)

    -- takes back what it added, on its own processor; meets: a sum reads each word once
    pub counts_down : (wait : Bool) (refusal : GateError) → (w.views t).phase ≡ Some (Phase.Mounts (want m p wait (WantStep.CountsDown refusal))) →
        GateStepKeeps c w t hook (Phase.Mounts (want m p wait (WantStep.CountsDown refusal)))
    counts_down wait refusal e =
        let f : (m < c.mounts) × (p < c.processors) × (held_at (w.views t) m < 1024) =
        fits_now c w good t lt (want m p wait (WantStep.CountsDown refusal)) e in
        let same : IsSteady (w.views t).phase None = as_owner (want m p wait (WantStep.CountsDown refusal)) e refl refl (λ i. refl) in (
          take_law (held_at (w.views t) m) (Err refusal) None (want_off m p wait (WantStep.CountsDown refusal) e) same refl (λ y ne. refl)
              (backs_off (good (AtMount m) f.0) t lt lim.tasks lim.processors p f.1 (want_here m p wait (WantStep.CountsDown refusal) e)),
          shown_still c w t lt words_less (done (Err refusal) None) refl refl refl refl refl refl refl same.closing_same refl,
        )

    pub drops : (w.views t).phase ≡ Some (Phase.Mounts (MountPhase.Drop m p)) → GateStepKeeps c w t hook (Phase.Mounts (MountPhase.Drop m p))
    drops e =
        let f : (m < c.mounts) × (p < c.processors) × (0 < held_at (w.views t) m) = fits_now c w good t lt (MountPhase.Drop m p) e in
        let same : IsSteady (w.views t).phase None = as_owner (MountPhase.Drop m p) e refl refl (λ i. refl) in
        let fewer : ℕ = held_at (w.views t) m - 1 in (
          take_law fewer (Ok Reply.Unit) (Some (Action.Return (Gate.Mount m))) (λ y ne. ap (role_of y) e) same
              (update_at (held_at (w.views t)) m fewer) (update_off (held_at (w.views t)) m fewer)
              (returns (good (AtMount m) f.0) t lt lim.tasks lim.processors p f.1 fewer (ap (role_of m) e) (omega (arith, f.2))),
          (
            (lt, (f.0, f.2)),
            shown_as c w t lt words_less (done (Ok Reply.Unit) (Some (Action.Return (Gate.Mount m)))) refl same.closing_same ∙
                (λ j. record (after_action (shown c w) t (Action.Return (Gate.Mount m))) { opens = update_same (λ x. has_open (w.views x)) t j }),
          ),
        )
