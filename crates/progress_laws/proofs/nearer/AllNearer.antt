-- Each phase of each layer; and that its three numbers are small.
use Rattle.progress_laws.proofs.Prelude.{CallbackStep, ClosePhase, Config, DownWriteStep, DownWriteStepFits, Freeze, FreezeFits, FreezeStep, Grace}
use Rattle.progress_laws.proofs.Prelude.{Holdings, HookAnswer, IsWithin, Next, Phase, PhaseFits, Some, ThawStep, Transition, UpWriteStep, WantStep}
use Rattle.progress_laws.proofs.Prelude.{Words, WritePhase, after_of, arith, cases_Bool, closing_left, common_steps, exchange_rank, freeze_left}
use Rattle.progress_laws.proofs.Prelude.{freeze_tries, inl, inr, is_outside, map_next, must_wait, opening_left, start_steps, steps_left, subst, sym}
use Rattle.progress_laws.proofs.Prelude.{tries_left, true, ℕ, ◌*◌, ◌+◌, ◌==◌, ◌≡◌, ◌≤◌}
use Rattle.std.proofs.Math.Nat.{le-max_left, le-max_right}
use Rattle.access_model.specs.declared.actions.Holder.{Holder}
use Rattle.composite_ops.specs.{file_closes.Phases.after as close_after, write_access.Phases.after as write_after}
use Rattle.gate_schedules.{proofs.operations.deadlocks.Bounds.rank_small, specs.operations.Ranks.most_alone}
use Rattle.{gate_world.specs.Fits.{GraceFits, ThawFits}, mount_counts.specs.Ranks.want_rank}
use Rattle.progress_laws.proofs.nearer.Calls.{callback_phase, close_phase, end_phase, mount_phase, remount_phase, start_phase, tree_phase}
use Rattle.progress_laws.proofs.nearer.{Calls.write_phase, Changes.start_few, Freezes.{freeze_phase, thaw_phase}, Nearer.NearsPhase}
use Rattle.progress_laws.specs.StepsLeft.{callback_left, close_left, closed_left, grace_left, most_steps, start_room_of, thaw_left, try_room_of}
use Rattle.progress_laws.specs.StepsLeft.{write_left}

pub phase_comes : (c : Config) (phase : Phase) → NearsPhase c phase
phase_comes c (Phase.Mounts x) = mount_phase c x
phase_comes c (Phase.Remounts x) = remount_phase c x
phase_comes c (Phase.DownReads r) = start_phase c r
phase_comes c (Phase.UpReads u) = end_phase c u
phase_comes c (Phase.Callbacks b) = callback_phase c b
phase_comes c (Phase.Writes x) = write_phase c x
phase_comes c (Phase.Freezes x) = freeze_phase c x
phase_comes c (Phase.Thaws x) = thaw_phase c x
phase_comes c (Phase.Trees x) = tree_phase c x
phase_comes c (Phase.Closes x) = close_phase c x

-- who stands outside a closed level has to wait
pub outside_waits : (w : Words) (phase : Phase) → is_outside w phase ≡ true → must_wait w phase ≡ true
outside_waits w phase h = grind arith

pub starts_small : (w : Words) (phase : Phase) → start_steps w phase ≤ start_room_of (Some phase)
starts_small w phase = grind (arith, start_few)

pub exchange_few : (sync : ℕ) (x : Transition) → exchange_rank sync x ≤ 2
exchange_few sync x = grind arith

module _ (c : Config) (w : Words) where
  freeze_few : (x : Freeze) (s : FreezeStep) → FreezeFits c x.holder s → freeze_tries w s ≤ 2 * c.processors + 2
  freeze_few x s f = grind (arith, exchange_few)

  pub tries_small : (t : ℕ) (held : Holdings) (phase : Phase) → PhaseFits c t held phase → tries_left w phase ≤ try_room_of c.processors (Some phase)
  tries_small t held (Phase.Freezes x) f = freeze_few x x.step f.5
  tries_small t held phase f = grind (arith, exchange_few)

pub grace_few : (g : Grace) → grace_left g ≤ 2 * g.tasks + 1
grace_few g = grind arith

pub callback_few : (tasks : ℕ) (s : CallbackStep) → GraceFits tasks s → callback_left tasks s ≤ 2 * tasks + 3
callback_few tasks s f = grind (arith, grace_few)

closing_few : (c : Config) (tasks : ℕ) (s : DownWriteStep) → tasks ≡ c.tasks → DownWriteStepFits c s → closing_left tasks s ≤ 2 * c.tasks + 5
closing_few c tasks s e f = grind (arith, grace_few)

closed_few : (x : Freeze) (level : ℕ) → closed_left x level ≤ 4 * x.tasks + x.nodes + 23
closed_few x level =
    elim (cases_Bool (level == 1)) [
      | inl h ↦ rw h (omega arith)
      | inr h ↦ elim (cases_Bool (level == 2)) [ inl q ↦ rw (h, q) (omega arith) | inr q ↦ rw (h, q) (omega arith) ]
    ]

opening_few : (level : ℕ) (s : UpWriteStep) → opening_left level s ≤ 2 * level + 1
opening_few level UpWriteStep.ClearsBlock = omega arith
opening_few level (UpWriteStep.Exits x) = omega arith

pub freeze_steps : (c : Config) (x : Freeze) (s : FreezeStep) → x.tasks ≡ c.tasks → x.nodes ≡ c.nodes → FreezeFits c x.holder s →
    freeze_left x s ≤ 6 * c.tasks + c.nodes + 33
freeze_steps c x s tasks nodes f = grind (arith, closing_few, closed_few, opening_few)

pub thaw_steps : (x : Holder) (s : ThawStep) → ThawFits x s → thaw_left s ≤ 14
thaw_steps x (ThawStep.Reopens u) f = omega (arith, opening_few u.level u.step, f.1)
thaw_steps x s f = omega arith

pub want_few : (s : WantStep) → want_rank s ≤ 5
want_few s = grind arith

pub write_steps : (x : WritePhase) → write_left x ≤ 8
write_steps (WritePhase.Wants x) = omega (arith, want_few x.step)
write_steps x = omega arith

pub close_steps : (x : ClosePhase) → close_left x ≤ 5
close_steps x = grind arith

pub steps_small : (c : Config) → IsWithin c → (w : Words) (t : ℕ) (held : Holdings) (phase : Phase) → PhaseFits c t held phase →
    steps_left phase + 1 ≤ most_steps c
steps_small c lim w t held (Phase.Mounts x) f =
    omega (arith, rank_small c lim w t held (Phase.Mounts x) f, le-max_left (most_alone c) (6 * c.tasks + c.nodes + 34))
steps_small c lim w t held (Phase.Remounts x) f =
    omega (arith, rank_small c lim w t held (Phase.Remounts x) f, le-max_left (most_alone c) (6 * c.tasks + c.nodes + 34))
steps_small c lim w t held (Phase.Trees x) f =
    omega (arith, rank_small c lim w t held (Phase.Trees x) f, le-max_left (most_alone c) (6 * c.tasks + c.nodes + 34))
steps_small c lim w t held (Phase.Freezes x) f =
    omega (arith, freeze_steps c x x.step f.1 f.3 f.5, le-max_right (most_alone c) (6 * c.tasks + c.nodes + 34))
steps_small c lim w t held (Phase.Callbacks b) f =
    let fits : GraceFits b.tasks b.step = subst (λ n. GraceFits n b.step) (sym f.2) f.3 in
    omega (arith, callback_few b.tasks b.step fits, f.2, le-max_right (most_alone c) (6 * c.tasks + c.nodes + 34))
steps_small c lim w t held (Phase.Thaws x) f =
    omega (arith, thaw_steps x.holder x.step f.2, le-max_right (most_alone c) (6 * c.tasks + c.nodes + 34))
steps_small c lim w t held (Phase.Writes x) f = omega (arith, write_steps x, le-max_right (most_alone c) (6 * c.tasks + c.nodes + 34))
steps_small c lim w t held (Phase.Closes x) f = omega (arith, close_steps x, le-max_right (most_alone c) (6 * c.tasks + c.nodes + 34))
steps_small c lim w t held (Phase.DownReads r) f = omega (arith, le-max_right (most_alone c) (6 * c.tasks + c.nodes + 34))
steps_small c lim w t held (Phase.UpReads u) f = omega (arith, le-max_right (most_alone c) (6 * c.tasks + c.nodes + 34))

-- What comes after a step has no more room in the last two numbers.
abbrev pub RoomFalls : Config → Phase → Next Phase → Type 0
RoomFalls c p (Next.Go q) =
    (start_room_of (Some q) ≤ start_room_of (Some p)) × (try_room_of c.processors (Some q) ≤ try_room_of c.processors (Some p))
RoomFalls c p (Next.Wait q) =
    (start_room_of (Some q) ≤ start_room_of (Some p)) × (try_room_of c.processors (Some q) ≤ try_room_of c.processors (Some p))
RoomFalls c p (Next.Done answer) = Unit {0}

room_in : {A : Type 0} (c : Config) (to : A → Phase) (p : Phase) (next : Next A) →
    ((x : A) → (start_room_of (Some (to x)) ≤ start_room_of (Some p)) × (try_room_of c.processors (Some (to x)) ≤ try_room_of c.processors (Some p))) →
    RoomFalls c p (map_next to next)
room_in c to p next h = grind arith

writes_left : (m cpu : ℕ) (found : ℕ) (x : WritePhase) (c : Config) → RoomFalls c (Phase.Writes x) (map_next Phase.Writes (write_after x found).0)
writes_left m cpu found x c = grind arith

closes_left : (found : ℕ) (x : ClosePhase) (c : Config) → RoomFalls c (Phase.Closes x) (map_next Phase.Closes (close_after x found).0)
closes_left found x c = grind (arith, common_steps)

pub room_falls : (c : Config) (p : Phase) (found : ℕ) (hook : HookAnswer) → RoomFalls c p (after_of p found hook).0
room_falls c p found hook = grind (arith, room_in, writes_left, closes_left)
