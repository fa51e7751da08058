-- A remount that finds `umount` free runs out.
use Rattle.gate_schedules.proofs.Prelude.{Bool, Config, Err, Fits, Fitting, HookAnswer, IsUnblocked, IsWithin, MountSet, Ok, Phase, PhaseEnds}
use Rattle.gate_schedules.proofs.Prelude.{PhaseFits, RankDecreases, Remount, RemountFits, RemountStep, Sum, Words, ap, arith, cases_Bool, eqb_tells}
use Rattle.gate_schedules.proofs.Prelude.{false, found_at, found_by, give_up, has_flag, has_mount, held_of, inl, inr, leave_holds, let_go, ltb-true}
use Rattle.gate_schedules.proofs.Prelude.{nat_lt, not, past_mount, rank, read, subst, suc, sym, total, total_bound, total_updated, true, update}
use Rattle.gate_schedules.proofs.Prelude.{update_at, update_off, words_after, ℕ, ◌%◌, ◌+◌, ◌-◌, ◌<◌, ◌==◌, ◌∙◌, ◌≡◌, ◌≤◌}
use Rattle.finite_sums.proofs.Totals.{total_same}
use Rattle.mount_counts.{proofs.laws.Sets.{leaves_here, leaves_there, lowest_held}, specs.Remounts.{remount_after, remount_from, remount_next}}
use Rattle.mount_counts.specs.Sets.{lowest, with_mount, without_lowest}
use Rattle.percpu_rwsem.specs.SyncWords.{bit}
use Rattle.gate_schedules.{proofs.operations.deadlocks.RankDecreases.falls_as, specs.operations.Ranks.{held_size, loop_rank, mount_bit, remount_rank}}
use Rattle.gate_schedules.specs.operations.Unblocked.{RemountIsUnblocked}

bit_le : (b : Bool) → bit b ≤ 1
bit_le true = omega arith
bit_le false = omega arith

pub size_small : (held : MountSet) → held_size held ≤ 8
unfolding held_size
size_small held = omega (arith, total_bound 8 1 (mount_bit held) (λ m lm. bit_le (has_mount held m)))

size_falls : (held : MountSet) → 0 < held.bits → held.bits < 256 → held_size (without_lowest held) < held_size held
unfolding held_size
size_falls held some within =
    let l : ℕ = lowest held in
    let low : l < 8 = (lowest_held held some within).0 in
    let same : held_size (without_lowest held) ≡ total 8 (update (mount_bit held) l 0) = total_same 8 _ _ (λ m lm. elim (eqb_tells m l) [
      | inl e ↦
          let a : mount_bit (without_lowest held) l ≡ 0 = ap bit (leaves_here held some within) in
          ap (mount_bit (without_lowest held)) e.1 ∙ (a ∙ sym (ap (update (mount_bit held) l 0) e.1 ∙ update_at (mount_bit held) l 0))
      | inr e ↦
          let a : mount_bit (without_lowest held) m ≡ mount_bit held m =
          ap bit (leaves_there held m some within e.1) in
          a ∙ sym (update_off (mount_bit held) l 0 m e.1)
    ]) in
    let here : mount_bit held l ≡ 1 = ap bit (lowest_held held some within).1 in
    let moved : total 8 (update (mount_bit held) l 0) + mount_bit held l ≡ total 8 (mount_bit held) + 0 =
    total_updated (λ n. n) 8 l (mount_bit held) 0 low in
    omega (arith, same, here, moved)

pub loop_step : (p mounts m : ℕ) → m < mounts → loop_rank p (mounts - m) ≡ loop_rank p (mounts - (m + 1)) + p + 2
loop_step p mounts m lt = let e : mounts - m ≡ suc (mounts - (m + 1)) = omega arith in ap (loop_rank p) e

module _ (w : Words) (p mounts nodes : ℕ) where
  from_rank : (a b : Bool) → remount_rank p mounts nodes (remount_from a b) ≤ loop_rank p mounts + nodes + 13
  from_rank a b = grind arith

  from_free : (a b : Bool) → RemountIsUnblocked w (remount_from a b)
  from_free a b = grind arith

  past_rank : (m : ℕ) (held : MountSet) →
      remount_rank p mounts nodes (past_mount mounts m held) ≤ loop_rank p (mounts - (m + 1)) + nodes + 12
  past_rank m held = elim (cases_Bool (nat_lt (m + 1) mounts)) [ inl h ↦ rw h (omega arith) | inr h ↦ rw h (omega arith) ]

  past_free : (m : ℕ) (held : MountSet) → RemountIsUnblocked w (past_mount mounts m held)
  past_free m held = elim (cases_Bool (nat_lt (m + 1) mounts)) [ inl h ↦ rw h tt | inr h ↦ rw h tt ]

  go_rank : (held : MountSet) → remount_rank p mounts nodes (let_go held) ≤ held_size held + (nodes - 1) + 2
  go_rank held = elim (eqb_tells held.bits 0) [ inl h ↦ rw h.0 (omega arith) | inr h ↦ rw h.0 (omega arith) ]

  go_free : (held : MountSet) → RemountIsUnblocked w (let_go held)
  go_free held = elim (eqb_tells held.bits 0) [ inl h ↦ rw h.0 tt | inr h ↦ rw h.0 tt ]

  leave_rank : (held : MountSet) → remount_rank p mounts nodes (leave_holds held) ≤ held_size held
  leave_rank held = elim (eqb_tells held.bits 0) [ inl h ↦ rw h.0 (omega arith) | inr h ↦ rw h.0 (omega arith) ]

  leave_free : (held : MountSet) → RemountIsUnblocked w (leave_holds held)
  leave_free held = elim (eqb_tells held.bits 0) [ inl h ↦ rw h.0 tt | inr h ↦ rw h.0 tt ]

  give_rank : (m : ℕ) (held : MountSet) → remount_rank p mounts nodes (give_up m held) ≤ held_size held
  give_rank m held = elim (eqb_tells held.bits 0) [ inl h ↦ rw h.0 (omega arith) | inr h ↦ rw h.0 (omega arith) ]

  give_free : (m : ℕ) (held : MountSet) → RemountIsUnblocked w (give_up m held)
  give_free m held = elim (eqb_tells held.bits 0) [ inl h ↦ rw h.0 tt | inr h ↦ rw h.0 tt ]

module _ (c : Config) (lim : IsWithin c) (w after : Words) (x : Remount) (processors : x.processors ≡ c.processors)
    (mounts : x.mounts ≡ c.mounts) (nodes : x.nodes ≡ c.nodes) where
  abbrev RemountFalls : RemountStep → HookAnswer → ℕ → Type 0
  RemountFalls s hook found =
      RankDecreases (λ (y : Remount). remount_rank y.processors y.mounts y.nodes y.step) (λ (y : Remount). RemountIsUnblocked after y.step)
      (remount_rank x.processors x.mounts x.nodes s) (remount_after x s found hook).0

  sums_falls : (m : ℕ) (held : MountSet) (sum : Sum) (hook : HookAnswer) (found : ℕ) → RemountFits c (RemountStep.Sums m held sum) →
      RemountFalls (RemountStep.Sums m held sum) hook found
  sums_falls m held sum hook found fits =
      let sum_read : ℕ = (sum.total + found) % 18446744073709551616 in
      elim (cases_Bool (nat_lt (sum.words + 1) x.processors)) [
        | inl h ↦ rw h (omega (arith, ltb-true (sum.words + 1) x.processors h), tt)
        | inr h ↦ rw h (
            elim (eqb_tells sum_read 0) [
              | inl z ↦ rw z.0 (
                omega (arith, past_rank after x.processors x.mounts x.nodes m (with_mount held m), fits.2, processors),
                past_free after x.processors x.mounts x.nodes m (with_mount held m),
              )
              | inr z ↦ rw z.0 (
                omega (arith, size_small (with_mount held m), give_rank after x.processors x.mounts x.nodes m (with_mount held m)),
                give_free after x.processors x.mounts x.nodes m (with_mount held m),
              )
            ]
            )
      ]

  -- each step of a remount
  remount_falls : (hook : HookAnswer) (s : RemountStep) → RemountFits c s → RemountIsUnblocked w s →
      RemountFalls s hook (found_by (remount_next x s hook).1 (read w (remount_next x s hook).0))
  remount_falls hook RemountStep.Locks fits free = rw free (omega arith, tt)
  remount_falls hook RemountStep.LoadsStage fits free =
      elim (eqb_tells w.stage 0) [ inl h ↦ rw h.0 (omega arith, tt) | inr h ↦ rw h.0 (omega arith, tt) ]
  remount_falls hook RemountStep.LoadsSuperblock fits free = (
    omega (arith, from_rank after x.processors x.mounts x.nodes x.read_only (not (w.sb == 0))),
    from_free after x.processors x.mounts x.nodes x.read_only (not (w.sb == 0)),
  )
  remount_falls (Ok answer) RemountStep.SetsWritable fits free = (omega arith, tt)
  remount_falls (Err code) RemountStep.SetsWritable fits free = tt
  remount_falls hook RemountStep.LoadsRemoved fits free =
      let e : x.mounts - 0 ≡ x.mounts = omega arith in
      elim (eqb_tells w.removed 0) [ inl h ↦ rw h.0 (omega (arith, ap (loop_rank x.processors) e), tt) | inr h ↦ rw h.0 (omega arith, tt) ]
  remount_falls hook (RemountStep.LoadsFlags m held) fits free =
      elim (cases_Bool (has_flag (w.flags m) 1)) [
        | inl h ↦ rw h (
          omega (
            arith,
            past_rank after x.processors x.mounts x.nodes m held,
            loop_step x.processors x.mounts m (omega (arith, fits.0, mounts)),
          ),
          past_free after x.processors x.mounts x.nodes m held,
        )
        | inr h ↦ rw h (omega arith, tt)
      ]
  remount_falls hook (RemountStep.SetsHold m held) fits free =
      (omega (arith, loop_step x.processors x.mounts m (omega (arith, fits.0, mounts))), tt)
  remount_falls hook (RemountStep.Sums m held sum) fits free = sums_falls m held sum hook (w.count m sum.words) fits
  remount_falls hook (RemountStep.LoadsRemovedAgain held) fits free =
      elim (eqb_tells w.removed 0) [
        | inl h ↦ rw h.0 (omega arith, tt)
        | inr h ↦ rw h.0 (
          omega (arith, size_small held, leave_rank after x.processors x.mounts x.nodes held),
          leave_free after x.processors x.mounts x.nodes held,
        )
      ]
  remount_falls hook (RemountStep.LeavesHolds held) fits free = (
    omega (arith, size_falls held fits.0 fits.1.0, leave_rank after x.processors x.mounts x.nodes (without_lowest held)),
    leave_free after x.processors x.mounts x.nodes (without_lowest held),
  )
  remount_falls hook (RemountStep.SetsRemount held) fits free = (
    omega (arith, size_small held, nodes, lim.some_node, go_rank after x.processors x.mounts x.nodes held),
    go_free after x.processors x.mounts x.nodes held,
  )
  remount_falls hook (RemountStep.ClearsHold held) fits free = (
    omega (arith, size_falls held fits.0 fits.1.0, go_rank after x.processors x.mounts x.nodes (without_lowest held)),
    go_free after x.processors x.mounts x.nodes (without_lowest held),
  )
  remount_falls hook (RemountStep.GivesUp m held) fits free = (
    omega (arith, size_falls held fits.0 fits.1.0, give_rank after x.processors x.mounts x.nodes m (without_lowest held)),
    give_free after x.processors x.mounts x.nodes m (without_lowest held),
  )
  remount_falls hook (RemountStep.ClearsMark n) fits free =
      elim (cases_Bool (nat_lt (n + 1) x.nodes)) [
        | inl h ↦ rw h (omega (arith, ltb-true (n + 1) x.nodes h), tt)
        | inr h ↦ rw h (omega (arith, fits.1, nodes), tt)
      ]
  remount_falls (Ok answer) RemountStep.SetsReadOnly fits free = (omega arith, tt)
  remount_falls (Err code) RemountStep.SetsReadOnly fits free = (omega arith, tt)
  remount_falls hook RemountStep.ClearsRemount fits free = (omega arith, tt)
  remount_falls hook (RemountStep.Releases answer) fits free = tt

pub remount_ends : (c : Config) (x : Remount) → PhaseEnds c (Phase.Remounts x)
remount_ends c x = record {
  falls = λ lim w good t lt hook at free.
      let f : PhaseFits c t (held_of (w.views t)) (Phase.Remounts x) =
      subst (Fits c t (held_of (w.views t))) at (good Fitting t lt) in
      let after : Words = words_after w.words (Phase.Remounts x) hook in
      falls_as Phase.Remounts (rank after) (IsUnblocked c after) (remount_rank x.processors x.mounts x.nodes x.step)
      (remount_after x x.step (found_at w.words (Phase.Remounts x) hook) hook).0
      (remount_falls c lim w.words after x f.1 f.2 f.3 hook x.step f.5 free);
}
