-- The rank of a phase that fits is small.
use Rattle.gate_schedules.proofs.Prelude.{Bool, Config, Holdings, IsWithin, Phase, PhaseFits, RemountStep, SnapshotStep, TreePhase, Words, ap, arith}
use Rattle.gate_schedules.proofs.Prelude.{cases_lt, false, inl, inr, rank, refl, suc, sym, true, zero, ℕ, ◌+◌, ◌<◌, ◌∙◌, ◌≡◌, ◌≤◌}
use Rattle.std.{proofs.{Common.◌*◌, Math.Nat.{le-max_left, le-max_right, suc-mul, zero-mul}}, specs.Prelude.◌-◌}
use Rattle.gate_world.specs.Remounts.{RemountFits}
use Rattle.gate_schedules.{proofs.operations.remount.Progress.{loop_step, size_small}, specs.operations.Ranks.{loop_rank, most_alone, most_beside}}
use Rattle.gate_schedules.specs.operations.Ranks.{most_in_loop, most_settled, remount_rank, snapshot_rank}

loop_mono : (p a b : ℕ) → a ≤ b → loop_rank p a ≤ loop_rank p b
loop_mono p a zero le = let e : a ≡ 0 = omega (arith, le) in omega (arith, ap (loop_rank p) e)
loop_mono p a (suc b) le =
    elim (cases_lt a (suc b)) [
      | inl l ↦ omega (arith, loop_mono p a b (omega (arith, l)))
      | inr l ↦ let e : a ≡ suc b = omega (arith, l, le) in omega (arith, ap (loop_rank p) e)
    ]

module _ (c : Config) (lim : IsWithin c) where
  remount_small : (p mounts nodes : ℕ) → (s : RemountStep) → RemountFits c s → mounts ≡ c.mounts →
      remount_rank p mounts nodes s < loop_rank p mounts + nodes + 17
  remount_small p mounts nodes (RemountStep.LoadsFlags m held) fits e = omega (arith, loop_mono p (mounts - m) mounts (omega arith))
  remount_small p mounts nodes (RemountStep.SetsHold m held) fits e = omega (arith, loop_mono p (mounts - m) mounts (omega arith))
  remount_small p mounts nodes (RemountStep.Sums m held sum) fits e =
      omega (arith, loop_step p mounts m (omega (arith, fits.0, e)), loop_mono p (mounts - m) mounts (omega arith))
  remount_small p mounts nodes (RemountStep.LeavesHolds held) fits e = omega (arith, size_small held)
  remount_small p mounts nodes (RemountStep.ClearsHold held) fits e = omega (arith, size_small held)
  remount_small p mounts nodes (RemountStep.GivesUp m held) fits e = omega (arith, size_small held)
  remount_small p mounts nodes (RemountStep.ClearsMark n) fits e = omega arith
  remount_small p mounts nodes s fits e = omega arith

snapshot_small : (n : ℕ) (s : SnapshotStep) → snapshot_rank n s < n + n + 7
snapshot_small n s = grind arith

-- the loop's rank as a product
loop_is : (p n : ℕ) → loop_rank p n ≡ n * (p + 2)
loop_is p zero = sym (zero-mul (p + 2))
loop_is p (suc n) =
    let e : loop_rank p n + p + 2 ≡ loop_rank p n + (p + 2) = omega arith in
    e ∙ (ap (λ k. k + (p + 2)) (loop_is p n) ∙ sym (suc-mul n (p + 2)))

-- it is no remount and no snapshot
abbrev pub is_beside : Phase → Bool
is_beside (Phase.Remounts x) = false
is_beside (Phase.Trees (TreePhase.Snapshot x)) = false
is_beside phase = true

pub beside_small : (c : Config) → IsWithin c → (w : Words) (t : ℕ) (held : Holdings) (phase : Phase) →
    PhaseFits c t held phase → is_beside phase ≡ true → rank w phase < most_beside c
beside_small c lim w t held phase f b = grind arith

pub rank_small : (c : Config) → IsWithin c → (w : Words) (t : ℕ) (held : Holdings) (phase : Phase) →
    PhaseFits c t held phase → rank w phase < most_alone c
rank_small c lim w t held (Phase.Remounts x) f =
    omega (
      arith,
      remount_small c lim x.processors x.mounts x.nodes x.step f.5 f.2,
      ap (λ p. loop_rank p x.mounts) f.1,
      ap (loop_rank c.processors) f.2,
      loop_is c.processors c.mounts,
      f.3,
      le-max_left (most_in_loop c) (most_beside c),
    )
rank_small c lim w t held (Phase.Trees (TreePhase.Snapshot x)) f =
    omega (arith, snapshot_small x.nodes x.step, f.0.1, le-max_left (most_in_loop c) (most_beside c))
rank_small c lim w t held phase f =
    omega (arith, beside_small c lim w t held phase f refl, le-max_right (most_in_loop c) (most_beside c))

pub alone_settled : (c : Config) → most_alone c ≤ most_settled c
alone_settled c = grind arith

pub beside_settled : (c : Config) → most_beside c + 5 * (c.tasks - 1) ≤ most_settled c
beside_settled c = le-max_right (most_in_loop c) (most_beside c + 5 * (c.tasks - 1))
