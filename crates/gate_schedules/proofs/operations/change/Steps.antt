-- Steps of a change that hold, sum, set, clear, lock and release.
use Rattle.gate_schedules.proofs.Prelude.{Action, AtMount, Bool, ChangeStep, Config, Err, Event, GateError, GateStepKeeps, GatesHold, HookAnswer}
use Rattle.gate_schedules.proofs.Prelude.{IsGood, IsSteady, IsWithin, MountHoldsIn, MountPhase, Next, None, Ok, Option, Phase, Reply, Result, Some}
use Rattle.gate_schedules.proofs.Prelude.{Sum, Touch, View, ViewFits, WordName, World, add-one, added_by, ap, arith, at_mount, cases_Bool, closing}
use Rattle.gate_schedules.proofs.Prelude.{eq-eqb, eqb_tells, false, has_hold, held_of, inl, inr, ltb-false, ltb-true, nat_lt, ne_eqb, owns, refl}
use Rattle.gate_schedules.proofs.Prelude.{remounts, role_of, shown, subst, suc, sym, taken_by, total, total_at, true, update, view_with, wrap_add, ℕ}
use Rattle.gate_schedules.proofs.Prelude.{◌+◌, ◌<◌, ◌==◌, ◌∙◌, ◌∷◌, ◌≡◌}
use Rattle.std.proofs.Common.{bit_or}
use Rattle.gate_world.specs.{Fits.SumFits, Roles.{change_owns, change_role}}
use Rattle.mount_counts.proofs.laws.Bits.{IsWithHold, IsWithReadOnly, IsWithoutHold, IsWithoutReadOnly, and_not_hold, and_not_read_only, or_hold}
use Rattle.mount_counts.proofs.laws.{Bits.{or_read_only, without_hold, without_read_only}, MountLaws.{SeeksNone, clears_hold as mount_clears_hold}}
use Rattle.mount_counts.proofs.laws.MountLaws.{clears_read_only as mount_clears_read_only, empties, sets_hold as mount_sets_hold}
use Rattle.mount_counts.proofs.laws.MountLaws.{sets_read_only as mount_sets_read_only, sums_on, sums_to_none, sums_to_some}
use Rattle.mount_counts.specs.Roles.{Summing, admitted, hold_bit}
use Rattle.gate_schedules.proofs.frames.Frames.{MountHoldsAfter, holds_as, owner_same, role_none, role_off, role_on, view_as}
use Rattle.gate_schedules.proofs.frames.Owners.{flag_law, flags_after, flags_show_same, flags_shown, locks_umount, no_hold, no_remount, no_skip}
use Rattle.gate_schedules.proofs.{frames.Owners.{releases_umount, umount_law}, mounts.Loads.{after_load, as_owner, load_law}}
use Rattle.gate_schedules.proofs.operations.change.Loads.{FitsHere, IsAt, change, change_here, change_off, fits_here}

-- who is to clear HOLD has it set, and seeks no access
to_clear : (answer : Result Reply GateError) →
    SeeksNone (change_role (ChangeStep.ClearsHold answer)) × (has_hold (change_role (ChangeStep.ClearsHold answer)) ≡ 1)
to_clear answer = grind arith

module _ (c : Config) (lim : IsWithin c) (w : World) (good : IsGood c w) (t : ℕ) (lt : t < c.tasks)
    (m : ℕ) (ro wait : Bool) (task processors : ℕ) (hook : HookAnswer) where
  abbrev here : ChangeStep → MountPhase
  here s = change m ro wait task processors s

  abbrev IsHere : ChangeStep → Type 0
  IsHere s = IsAt c w good t lt m ro wait task processors hook s

  abbrev FitsNow : ChangeStep → Type 0
  FitsNow s = FitsHere c w good t lt m ro wait task processors hook s

  role_here : (s : ChangeStep) → IsHere s → role_of m (w.views t).phase ≡ change_role s
  role_here s e = change_here m ro wait task processors s e

  mount_here : (s : ChangeStep) → IsHere s → MountHoldsIn c w m
  mount_here s e = good (AtMount m) (fits_here c w good t lt m ro wait task processors hook s e).0

  flag_step : (s s' : ChangeStep) (f : ℕ) (v : View) → IsHere s → IsSteady (w.views t).phase v.phase →
      v.phase ≡ Some (Phase.Mounts (here s')) → ViewFits c t v → held_of v ≡ held_of (w.views t) →
      added_by v.events ≡ added_by (w.views t).events → taken_by v.events ≡ taken_by (w.views t).events →
      MountHoldsAfter c w t m f (w.words.count m) (record (at_mount m (w.views t)) { role = change_role s' }) →
      GatesHold c (flags_after c w t lt m f v)
  flag_step s s' f v e same e' fits held added taken own =
      flag_law c w good t lt m f v (change_role s') (fits_here c w good t lt m ro wait task processors hook s e).0
      same fits held added taken
      (λ y ne. change_off m ro wait task processors s' e' y ne ∙ sym (change_off m ro wait task processors s e y ne))
      (change_here m ro wait task processors s' e') own

  -- clears READONLY as the owner; meets: whoever relies on READONLY owns `umount`
  pub clears_read_only : IsHere ChangeStep.ClearsReadOnly → GateStepKeeps c w t hook (Phase.Mounts (here ChangeStep.ClearsReadOnly))
  clears_read_only e =
      let f : FitsNow ChangeStep.ClearsReadOnly = fits_here c w good t lt m ro wait task processors hook ChangeStep.ClearsReadOnly e in
      let g : MountHoldsIn c w m = mount_here ChangeStep.ClearsReadOnly e in
      let word : ℕ = without_read_only (w.words.flags m) in
      let b : IsWithoutReadOnly (w.words.flags m) word = and_not_read_only (w.words.flags m) g.bits in
      let s' : ChangeStep = ChangeStep.Releases (Ok Reply.Unit) in
      let v : View = view_with (w.views t) (WordName.MountFlags m, Touch.And 18446744073709551614) (w.words.flags m) hook
      (Next.Go (Phase.Mounts (here s')), Some (Action.MountRw m)) in
      let same : IsSteady (w.views t).phase v.phase = as_owner (here ChangeStep.ClearsReadOnly) e refl refl (λ i. refl) in (
        flag_step ChangeStep.ClearsReadOnly s' word v e same refl (f.0, f.1, f.2, f.3, tt) refl refl refl
            (mount_clears_read_only g t lt (role_here ChangeStep.ClearsReadOnly e) (no_remount c w good t lt (ap owns e) (ap remounts e))
            (λ x lx ne. no_skip c w good t lt m x lx ne (ap owns e))),
        ((lt, f.0), flags_shown c w t lt m word v false same (ne_eqb _ 1 (λ q. omega (arith, b, q))) refl),
      )

  -- sets HOLD before it sums the words; meets: a task adds before it looks for HOLD
  pub sets_hold : IsHere ChangeStep.SetsHold → GateStepKeeps c w t hook (Phase.Mounts (here ChangeStep.SetsHold))
  sets_hold e =
      let f : FitsNow ChangeStep.SetsHold = fits_here c w good t lt m ro wait task processors hook ChangeStep.SetsHold e in
      let g : MountHoldsIn c w m = mount_here ChangeStep.SetsHold e in
      let word : ℕ = bit_or (w.words.flags m) 2 in
      let b : IsWithHold (w.words.flags m) word = or_hold (w.words.flags m) g.bits in
      let s' : ChangeStep = ChangeStep.Sums record { words = 0; total = 0 } in
      let v : View = view_with (w.views t) (WordName.MountFlags m, Touch.Or 2) (w.words.flags m) hook (Next.Go (Phase.Mounts (here s')), None) in
      let same : IsSteady (w.views t).phase v.phase = as_owner (here ChangeStep.SetsHold) e refl refl (λ i. refl) in
      let clear : hold_bit (w.words.flags m) ≡ 0 = no_hold c w good t lt m f.0 (ap owns e) (ap has_hold (role_here ChangeStep.SetsHold e)) in (
        flag_step ChangeStep.SetsHold s' word v e same refl (f.0, f.1, f.2, f.3, lim.some_processor) refl refl refl
            (mount_sets_hold g t lt lim.tasks lim.processors lim.some_processor (role_here ChangeStep.SetsHold e) clear),
        flags_show_same c w t lt m word v same b.1 refl,
      )

  -- sets READONLY under HOLD, after a sum of 0; meets: READONLY is loaded after HOLD was found clear
  pub sets_read_only : IsHere ChangeStep.SetsReadOnly → GateStepKeeps c w t hook (Phase.Mounts (here ChangeStep.SetsReadOnly))
  sets_read_only e =
      let f : FitsNow ChangeStep.SetsReadOnly = fits_here c w good t lt m ro wait task processors hook ChangeStep.SetsReadOnly e in
      let g : MountHoldsIn c w m = mount_here ChangeStep.SetsReadOnly e in
      let word : ℕ = bit_or (w.words.flags m) 1 in
      let b : IsWithReadOnly (w.words.flags m) word = or_read_only (w.words.flags m) g.bits in
      let s' : ChangeStep = ChangeStep.ClearsHold (Ok Reply.Unit) in
      let v : View = view_with (w.views t) (WordName.MountFlags m, Touch.Or 1) (w.words.flags m) hook
      (Next.Go (Phase.Mounts (here s')), Some (Action.MountRo m)) in
      let same : IsSteady (w.views t).phase v.phase = as_owner (here ChangeStep.SetsReadOnly) e refl refl (λ i. refl) in
      let none : total c.tasks (λ x. admitted (at_mount m (w.views x))) ≡ 0 = empties g t lt (role_here ChangeStep.SetsReadOnly e) in (
        flag_step ChangeStep.SetsReadOnly s' word v e same refl (f.0, f.1, f.2, f.3, tt) refl refl refl
            (mount_sets_read_only g t lt (role_here ChangeStep.SetsReadOnly e) (no_remount c w good t lt (ap owns e) (ap remounts e))),
        (
          (lt, (f.0, λ x lx. omega (arith, none, total_at c.tasks x (λ y. admitted (at_mount m (w.views y))) lx))),
          flags_shown c w t lt m word v true same (eq-eqb _ 1 b.1) refl,
        ),
      )

  -- clears HOLD after READONLY was set, or after a sum that was not 0; meets: READONLY is loaded after HOLD was found clear
  pub clears_hold : (answer : Result Reply GateError) → IsHere (ChangeStep.ClearsHold answer) →
      GateStepKeeps c w t hook (Phase.Mounts (here (ChangeStep.ClearsHold answer)))
  clears_hold answer e =
      let f : FitsNow (ChangeStep.ClearsHold answer) = fits_here c w good t lt m ro wait task processors hook (ChangeStep.ClearsHold answer) e in
      let g : MountHoldsIn c w m = mount_here (ChangeStep.ClearsHold answer) e in
      let word : ℕ = without_hold (w.words.flags m) in
      let b : IsWithoutHold (w.words.flags m) word = and_not_hold (w.words.flags m) g.bits in
      let s' : ChangeStep = ChangeStep.Releases answer in
      let v : View = view_with (w.views t) (WordName.MountFlags m, Touch.And 18446744073709551613) (w.words.flags m) hook
      (Next.Go (Phase.Mounts (here s')), None) in
      let r : role_of m (w.views t).phase ≡ change_role (ChangeStep.ClearsHold answer) = role_here (ChangeStep.ClearsHold answer) e in
      let same : IsSteady (w.views t).phase v.phase = as_owner (here (ChangeStep.ClearsHold answer)) e refl refl (λ i. refl) in (
        flag_step (ChangeStep.ClearsHold answer) s' word v e same refl (f.0, f.1, f.2, f.3, tt) refl refl refl
            (mount_clears_hold g t lt (subst SeeksNone (sym r) (to_clear answer).0) (ap has_hold r ∙ (to_clear answer).1)),
        flags_show_same c w t lt m word v same b.1 refl,
      )

  -- the mount after the change's role there is that of a step
  abbrev Becomes : ChangeStep → Type 0
  Becomes s = MountHoldsAfter c w t m (w.words.flags m) (w.words.count m) (record (at_mount m (w.views t)) { role = change_role s })

  sum_load : (sum : Sum) (s : ChangeStep) → IsHere (ChangeStep.Sums sum) → change_owns s ≡ 1 → SumFits c s → Becomes s →
      let coming : Next Phase = Next.Go (Phase.Mounts (here s)) in
      GatesHold c (after_load w t (WordName.MountCount m sum.words) hook coming) ×
      (shown c (after_load w t (WordName.MountCount m sum.words) hook coming) ≡ shown c w)
  sum_load sum s e o fit own =
      let f : FitsNow (ChangeStep.Sums sum) = fits_here c w good t lt m ro wait task processors hook (ChangeStep.Sums sum) e in
      load_law c w good t lt m (WordName.MountCount m sum.words) hook (Next.Go (Phase.Mounts (here s)))
      (λ y ne. role_off y m (change_role s) ne ∙ sym (change_off m ro wait task processors (ChangeStep.Sums sum) e y ne))
      (as_owner (here (ChangeStep.Sums sum)) e o refl (λ i. refl)) (f.0, f.1, f.2, f.3, fit)
      (λ lm. holds_as refl refl refl refl
      (ap (update (λ x. at_mount m (w.views x)) t) (view_as refl refl refl (role_on m (change_role s)))) own)

  -- reads a word under HOLD; meets: a task adds before it looks for HOLD
  pub sums : (sum : Sum) → IsHere (ChangeStep.Sums sum) → GateStepKeeps c w t hook (Phase.Mounts (here (ChangeStep.Sums sum)))
  sums sum e =
      let f : FitsNow (ChangeStep.Sums sum) = fits_here c w good t lt m ro wait task processors hook (ChangeStep.Sums sum) e in
      let g : MountHoldsIn c w m = mount_here (ChangeStep.Sums sum) e in
      let k : ℕ = sum.words in
      let now : ℕ = wrap_add sum.total (w.words.count m k) in
      let r : role_of m (w.views t).phase ≡ Summing k sum.total = role_here (ChangeStep.Sums sum) e in
      elim (cases_Bool (nat_lt (k + 1) processors)) [
        | inl h ↦
            let more : suc k < c.processors = omega (arith, f.2, ltb-true (k + 1) processors h) in
            rw h (sum_load sum (ChangeStep.Sums record { words = k + 1; total = now }) e refl (omega (arith, more))
            (subst (λ j. Becomes (ChangeStep.Sums record { words = j; total = now })) (sym (add-one k))
            (sums_on g t lt lim.tasks lim.processors k sum.total r more)))
        | inr h ↦
            let last : suc k ≡ c.processors = omega (arith, f.4, ltb-false (k + 1) processors h, f.2) in
            elim (eqb_tells now 0) [
              | inl z ↦ rw (h, z.0) (sum_load sum ChangeStep.SetsReadOnly e refl tt
                  (sums_to_none g t lt lim.tasks lim.processors k sum.total r last z.1))
              | inr z ↦ rw (h, z.0) (sum_load sum (ChangeStep.ClearsHold (Err GateError.Busy)) e refl tt (sums_to_some g t lt k sum.total r))
            ]
      ]

  -- gives `umount` back; meets: the next owner takes it
  pub releases : (answer : Result Reply GateError) → IsHere (ChangeStep.Releases answer) →
      GateStepKeeps c w t hook (Phase.Mounts (here (ChangeStep.Releases answer)))
  releases answer e =
      let v : View = view_with (w.views t) (WordName.Umount, Touch.Store 0) w.words.umount hook (Next.Done answer, None) in
      umount_law c w good t lt 0 v (releases_umount c w good t lt v (ap owns e) refl (sym (ap remounts e))) tt refl refl refl
      (λ y. sym (ap (role_of y) e ∙ role_none y m)) (λ i. sym (ap (closing i) e))

module _ (c : Config) (w : World) (good : IsGood c w) (t : ℕ) (lt : t < c.tasks)
    (m : ℕ) (ro : Bool) (task processors : ℕ) (hook : HookAnswer) where
  -- the view after the lock was tried, which left this in `umount`
  abbrev tried : ℕ → Option Phase → View
  tried n phase =
      let e : Event = record { word = WordName.Umount; touch = Touch.Cas 0 (task + 1); found = w.words.umount; left = n } in
      record (w.views t) { phase = phase; events = e ∷ (w.views t).events; trace = record { event = e; hook = hook } ∷ (w.views t).trace }

  -- `umount` is another's: it is looked at again, or given up
  lock_taken : (wait : Bool) → IsAt c w good t lt m ro wait task processors hook ChangeStep.Locks → (w.words.umount == 0) ≡ false →
      GateStepKeeps c w t hook (Phase.Mounts (change m ro wait task processors ChangeStep.Locks))
  lock_taken true e h =
      let x : MountPhase = change m ro true task processors ChangeStep.Locks in
      let v : View = tried w.words.umount (Some (Phase.Mounts x)) in
      rw h (umount_law c w good t lt w.words.umount v (owner_same c w t lt good v (as_owner x e refl refl (λ i. refl)))
      (fits_here c w good t lt m ro true task processors hook ChangeStep.Locks e) refl refl refl
      (λ y. sym (ap (role_of y) e)) (λ i. sym (ap (closing i) e)))
  lock_taken false e h =
      let x : MountPhase = change m ro false task processors ChangeStep.Locks in
      let v : View = tried w.words.umount None in
      rw h (umount_law c w good t lt w.words.umount v (owner_same c w t lt good v (as_owner x e refl refl (λ i. refl)))
      tt refl refl refl (λ y. sym (ap (role_of y) e ∙ role_none y m)) (λ i. sym (ap (closing i) e)))

  -- takes `umount` where it is free; meets: its owner gives it back last
  pub locks : (wait : Bool) → IsAt c w good t lt m ro wait task processors hook ChangeStep.Locks →
      GateStepKeeps c w t hook (Phase.Mounts (change m ro wait task processors ChangeStep.Locks))
  locks wait e =
      let f : FitsHere c w good t lt m ro wait task processors hook ChangeStep.Locks =
      fits_here c w good t lt m ro wait task processors hook ChangeStep.Locks e in
      elim (eqb_tells w.words.umount 0) [
        | inl h ↦ rw h.0 (
            let v : View = tried (task + 1) (Some (Phase.Mounts (change m ro wait task processors ChangeStep.LoadsFlags))) in
            umount_law c w good t lt (task + 1) v
            (locks_umount c w good t lt (task + 1) v h.1 (omega (arith, f.1)) refl (sym (ap remounts e)))
            (f.0, f.1, f.2, f.3, tt) refl refl refl
            (λ y. role_none y m ∙ sym (ap (role_of y) e ∙ role_none y m)) (λ i. sym (ap (closing i) e)))
        | inr h ↦ lock_taken wait e h.0
      ]
