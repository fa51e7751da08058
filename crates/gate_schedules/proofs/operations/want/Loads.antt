-- Loads of a want: for HOLD, and the three of the read-only question.
use Rattle.gate_schedules.proofs.Prelude.{Action, AtMount, Bool, Config, Fits, Gate, GateError, GateStepKeeps, GatesHold, HookAnswer, IsGood}
use Rattle.gate_schedules.proofs.Prelude.{IsSteady, MountHoldsIn, MountPhase, Next, None, Ok, Option, Phase, Reply, Some, Touch, View, WantStep}
use Rattle.gate_schedules.proofs.Prelude.{WordName, World, ap, arith, at_mount, cases_Bool, closing, eqb_tells, false, has_flag, has_hold, has_open}
use Rattle.gate_schedules.proofs.Prelude.{held_at, held_of, inl, inr, ne_eqb, owns, phase_after, refl, remounts, ro_bit, role_of, shown, subst, suc}
use Rattle.gate_schedules.proofs.Prelude.{sym, total_at, true, update, update_at, update_off, update_same, view_with, ℕ, ◌+◌, ◌<◌, ◌∙◌, ◌≡◌, ◌⊎◌}
use Rattle.{access_model.specs.Actions.after_action, gate_world.specs.Roles.want_role}
use Rattle.mount_counts.proofs.laws.{Bits.{hold_clear, read_only_clear}, MountLaws.{closed, finds_hold_clear, finds_no_remount, finds_writable}}
use Rattle.mount_counts.proofs.laws.MountLaws.{is_granted, is_refused, remounting, waits_on}
use Rattle.mount_counts.specs.Roles.{Out, PastFlags, passed_hold, past_flags, past_remount, processor_of, questions_of}
use Rattle.gate_schedules.proofs.frames.Frames.{MountHoldsAfter, gates_after, holds_as, owner_same, role_off, role_on, shown_as, view_as}
use Rattle.gate_schedules.proofs.mounts.Loads.{after_load, as_owner, fits_now, load_law}

abbrev pub want : ℕ → ℕ → Bool → WantStep → MountPhase
want m p wait step = MountPhase.Want (record { mount = m; cpu = p; wait = wait; step = step })

-- a want has its role at its own mount
pub want_here : {q : Option Phase} (m p : ℕ) (wait : Bool) (s : WantStep) → q ≡ Some (Phase.Mounts (want m p wait s)) →
    role_of m q ≡ want_role p s
want_here m p wait s e = ap (role_of m) e ∙ role_on m (want_role p s)

-- and none at others
pub want_off : {q : Option Phase} (m p : ℕ) (wait : Bool) (s : WantStep) → q ≡ Some (Phase.Mounts (want m p wait s)) →
    (y : ℕ) → (y ≡ m → ⊥) → role_of y q ≡ Out
want_off m p wait s e y ne = ap (role_of y) e ∙ role_off y m (want_role p s) ne

module _ (c : Config) (w : World) (good : IsGood c w) (t : ℕ) (lt : t < c.tasks) (m p : ℕ) (wait : Bool) (hook : HookAnswer) where
  -- the want is at this step
  abbrev pub IsAt : WantStep → Type 0
  IsAt s = (w.views t).phase ≡ Some (Phase.Mounts (want m p wait s))

  -- the mount after the task's role there is that of a step
  abbrev pub Becomes : WantStep → Type 0
  Becomes s = MountHoldsAfter c w t m (w.words.flags m) (w.words.count m) (record (at_mount m (w.views t)) { role = want_role p s })

  pub fits_here : (s : WantStep) → IsAt s → (m < c.mounts) × (p < c.processors) × (held_at (w.views t) m < 1024)
  fits_here s e = fits_now c w good t lt (want m p wait s) e

  pub mount_here : (s : WantStep) → IsAt s → MountHoldsIn c w m
  mount_here s e = good (AtMount m) (fits_here s e).0

  pub want_load : (name : WordName) (s s' : WantStep) (coming : Next Phase) →
      IsAt s → phase_after coming ≡ Some (Phase.Mounts (want m p wait s')) → Becomes s' →
      GatesHold c (after_load w t name hook coming) × (shown c (after_load w t name hook coming) ≡ shown c w)
  want_load name s s' coming e ec own =
      load_law c w good t lt m name hook coming (λ y ne. want_off m p wait s' ec y ne ∙ sym (want_off m p wait s e y ne))
      (as_owner (want m p wait s) e (ap owns ec) (ap remounts ec) (λ i. ap (closing i) ec))
      (subst (Fits c t (held_of (w.views t))) (sym ec) (fits_here s e))
      (λ lm. holds_as refl refl refl refl
      (ap (update (λ x. at_mount m (w.views x)) t) (view_as refl refl refl (want_here m p wait s' ec))) own)

  -- a refusal: the access is sought still, on its word
  pub want_refused : (name : WordName) (s : WantStep) (refusal : GateError) → IsAt s → has_hold (want_role p s) ≡ 0 →
      ((processor_of (want_role p s) ≡ suc p) × (questions_of (want_role p s) ≡ 0)) ⊎
      ((processor_of (want_role p s) ≡ 0) × (passed_hold (want_role p s) ≡ 1)) →
      let coming : Next Phase = Next.Go (Phase.Mounts (want m p wait (WantStep.CountsDown refusal))) in
      GatesHold c (after_load w t name hook coming) × (shown c (after_load w t name hook coming) ≡ shown c w)
  want_refused name s refusal e none seeks =
      want_load name s (WantStep.CountsDown refusal) (Next.Go (Phase.Mounts (want m p wait (WantStep.CountsDown refusal)))) e refl
      (is_refused (mount_here s e) t lt p (want_role p s) (want_here m p wait s e) none seeks)

  -- loads `remount` after HOLD was found clear; meets: `remount` is set before HOLD is cleared
  pub loads_remount : IsAt WantStep.LoadsRemount → GateStepKeeps c w t hook (Phase.Mounts (want m p wait WantStep.LoadsRemount))
  loads_remount e =
      elim (eqb_tells w.words.remount 0) [
        | inl h ↦ rw h.0 (want_load WordName.Remount WantStep.LoadsRemount WantStep.LoadsReadOnly
            (Next.Go (Phase.Mounts (want m p wait WantStep.LoadsReadOnly))) e refl
            (finds_no_remount (mount_here WantStep.LoadsRemount e) t lt p (want_here m p wait WantStep.LoadsRemount e) h.1))
        | inr h ↦ rw h.0 (want_refused WordName.Remount WantStep.LoadsRemount GateError.ReadOnly e refl (inr (refl, refl)))
      ]

  -- loads READONLY after HOLD was found clear; meets: READONLY is set before HOLD is cleared
  pub loads_read_only : IsAt WantStep.LoadsReadOnly → GateStepKeeps c w t hook (Phase.Mounts (want m p wait WantStep.LoadsReadOnly))
  loads_read_only e =
      elim (cases_Bool (has_flag (w.words.flags m) 1)) [
        | inl h ↦ rw h (want_refused (WordName.MountFlags m) WantStep.LoadsReadOnly GateError.ReadOnly e refl (inr (refl, refl)))
        | inr h ↦ rw h (want_load (WordName.MountFlags m) WantStep.LoadsReadOnly WantStep.LoadsSuperblock
            (Next.Go (Phase.Mounts (want m p wait WantStep.LoadsSuperblock))) e refl
            (finds_writable (mount_here WantStep.LoadsReadOnly e) t lt p (want_here m p wait WantStep.LoadsReadOnly e)
            (read_only_clear (w.words.flags m) (mount_here WantStep.LoadsReadOnly e).bits h)))
      ]

  pub hold_was_clear : IsAt WantStep.LoadsHold → has_flag (w.words.flags m) 2 ≡ false → Becomes WantStep.LoadsRemount
  hold_was_clear e h =
      finds_hold_clear (mount_here WantStep.LoadsHold e) t lt p (want_here m p wait WantStep.LoadsHold e)
      (hold_clear (w.words.flags m) (mount_here WantStep.LoadsHold e).bits h) (fits_here WantStep.LoadsHold e).2

module _ (c : Config) (w : World) (good : IsGood c w) (t : ℕ) (lt : t < c.tasks) (m p : ℕ) (hook : HookAnswer) where
  -- loads HOLD after it added, and where it is set waits or backs off; meets: HOLD is set before the words are summed
  pub loads_hold : (wait : Bool) → IsAt c w good t lt m p wait hook WantStep.LoadsHold →
      GateStepKeeps c w t hook (Phase.Mounts (want m p wait WantStep.LoadsHold))
  loads_hold true e =
      elim (cases_Bool (has_flag (w.words.flags m) 2)) [
        | inl h ↦ rw h (want_load c w good t lt m p true hook (WordName.MountFlags m) WantStep.LoadsHold WantStep.LoadsHold
            (Next.Wait (Phase.Mounts (want m p true WantStep.LoadsHold))) e refl
            (waits_on (mount_here c w good t lt m p true hook WantStep.LoadsHold e) t lt p (want_here m p true WantStep.LoadsHold e)))
        | inr h ↦ rw h (want_load c w good t lt m p true hook (WordName.MountFlags m) WantStep.LoadsHold WantStep.LoadsRemount
            (Next.Go (Phase.Mounts (want m p true WantStep.LoadsRemount))) e refl (hold_was_clear c w good t lt m p true hook e h))
      ]
  loads_hold false e =
      elim (cases_Bool (has_flag (w.words.flags m) 2)) [
        | inl h ↦ rw h (want_refused c w good t lt m p false hook (WordName.MountFlags m) WantStep.LoadsHold GateError.Again e refl (inl (refl, refl)))
        | inr h ↦ rw h (want_load c w good t lt m p false hook (WordName.MountFlags m) WantStep.LoadsHold WantStep.LoadsRemount
            (Next.Go (Phase.Mounts (want m p false WantStep.LoadsRemount))) e refl (hold_was_clear c w good t lt m p false hook e h))
      ]

module _ (c : Config) (w : World) (good : IsGood c w) (t : ℕ) (lt : t < c.tasks) (m p : ℕ) (wait : Bool) (hook : HookAnswer) where
  -- nothing read-only stands where a task has passed its three loads
  not_read_only : IsAt c w good t lt m p wait hook WantStep.LoadsSuperblock → w.words.sb ≡ 0 →
      ((shown c w).mount_ro m ≡ false) × ((shown c w).sb_ro ≡ false)
  not_read_only e z =
      let r : role_of m (w.views t).phase ≡ PastFlags p = want_here m p wait WantStep.LoadsSuperblock e in
      let g : MountHoldsIn c w m = mount_here c w good t lt m p wait hook WantStep.LoadsSuperblock e in
      let open_now : ro_bit (w.words.flags m) ≡ 1 → ⊥ = λ q.
      omega (
        arith,
        closed g q,
        ap past_flags r,
        total_at c.tasks t (λ x. held_at (w.views x) m + past_flags (role_of m (w.views x).phase)) lt,
      ) in
      let writable : w.words.remount ≡ 1 → ⊥ = λ q.
      omega (
        arith,
        remounting g q z (omega (arith, open_now)),
        ap past_remount r,
        total_at c.tasks t (λ x. held_at (w.views x) m + past_remount (role_of m (w.views x).phase)) lt,
      ) in
      (ne_eqb (ro_bit (w.words.flags m)) 1 open_now, rw (ne_eqb w.words.remount 1 writable, z) refl)

  -- loads the superblock's flag last, and where it is clear the access is granted; meets: a superblock is sealed while `remount` is set
  pub loads_superblock : IsAt c w good t lt m p wait hook WantStep.LoadsSuperblock →
      GateStepKeeps c w t hook (Phase.Mounts (want m p wait WantStep.LoadsSuperblock))
  loads_superblock e =
      let f : (m < c.mounts) × (p < c.processors) × (held_at (w.views t) m < 1024) =
      fits_here c w good t lt m p wait hook WantStep.LoadsSuperblock e in
      elim (eqb_tells w.words.sb 0) [
        | inl h ↦
            let v : View = view_with (w.views t) (WordName.SbFlags, Touch.Load) w.words.sb hook
            (Next.Done (Ok Reply.Unit), Some (Action.Grant (Gate.Mount m))) in
            let same : IsSteady (w.views t).phase None = as_owner (want m p wait WantStep.LoadsSuperblock) e refl refl (λ i. refl) in
            let r : ((shown c w).mount_ro m ≡ false) × ((shown c w).sb_ro ≡ false) = not_read_only e h.1 in
            let more : ℕ = held_at (w.views t) m + 1 in
            let there : GatesHold c (record { words = w.words; views = update w.views t v }) =
            gates_after c w t lt good m w.words v refl refl (owner_same c w t lt good v same) tt
            (λ y ne. (
              refl,
              refl,
              view_as (update_off (held_at (w.views t)) m more y ne) refl refl (sym (want_off m p wait WantStep.LoadsSuperblock e y ne)),
            ))
            (λ lm. holds_as refl refl refl refl
            (ap (update (λ x. at_mount m (w.views x)) t) (view_as (update_at (held_at (w.views t)) m more) refl refl refl))
            (is_granted (mount_here c w good t lt m p wait hook WantStep.LoadsSuperblock e) t lt p
            (want_here m p wait WantStep.LoadsSuperblock e) h.1 f.2)) in
            rw h.0 (
              there,
              (
                (lt, (f.0, r.0, r.1, f.2)),
                shown_as c w t lt w.words v refl same.closing_same ∙
                    (λ j. record (after_action (shown c w) t (Action.Grant (Gate.Mount m))) { opens = update_same (λ x. has_open (w.views x)) t j }),
              ),
            )
        | inr h ↦ rw h.0 (want_refused c w good t lt m p wait hook WordName.SbFlags WantStep.LoadsSuperblock GateError.ReadOnly e refl (inr (refl, refl)))
      ]
