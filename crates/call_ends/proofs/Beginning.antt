-- An operation that has begun stands at its first step.
use Rattle.call_ends.proofs.Prelude.{Accesses, Bool, Go, Loads, Op, Phase, Some, ap, arith, calling_at, remounting_at, standing, subst, sym, ℕ, ◌≡◌}
use Rattle.freeze_levels.specs.declared.{freezes.{Freeze.Freeze, FreezeStep.TheVariants.Locks as FreezeLocks}, thaws.Thaw.Thaw}
use Rattle.freeze_levels.specs.declared.thaws.ThawStep.TheVariants.{Locks as ThawLocks}
use Rattle.gate_steps.specs.{Seating.DealtNumbers, call_events.{GhostAgrees.GhostAgrees, Turns.{StateAgrees, state_at}}}
use Rattle.gate_world.specs.{Beginnings.first_phase, declared.{config.Config.Config, work.Phase.TheVariants.{Callbacks, Freezes, Remounts, Thaws}}}
use Rattle.mount_counts.specs.declared.remounts.{Remount.Remount, RemountStep.TheVariants.Locks as RemountLocks}
use Rattle.percpu_rwsem.specs.declared.callbacks.{Callback.Callback, CallbackStep.{CallbackStep, TheVariants.Claims}}
use Rattle.std.proofs.Common.{List, [], ◌∷◌}
use Rattle.call_ends.specs.Reopenings.{thaw_at}

-- where one that may wait begins
abbrev IsFirst : Phase → Type 0
IsFirst (Freezes x) = x.step ≡ FreezeLocks
IsFirst (Thaws x) = x.step ≡ ThawLocks
IsFirst (Remounts x) = x.step ≡ RemountLocks
IsFirst (Callbacks x) = x.step ≡ Claims Loads
IsFirst phase = Unit {0}

is_first : (c : Config) (n : ℕ) (op : Op) → IsFirst (first_phase c n op)
is_first c n op = grind arith

begun_items : (number : ℕ) (c : Config) (op : Op) (phase : Phase) (accesses : Accesses) (flags : List Bool) (items : DealtNumbers) →
    GhostAgrees number c (Some op) (state_at (Some phase) accesses) flags items → IsFirst phase
begun_items number c op phase accesses flags [] ghost_agrees = absurd ghost_agrees
begun_items number c op phase accesses flags (x ∷ xs) ghost_agrees = subst IsFirst (sym ghost_agrees.may.1) (is_first c x.number op)

begun : {c : Config} {op : Op} {phase : Phase} {accesses : Accesses} {items : DealtNumbers} → StateAgrees c (Some op) (Some phase) accesses items → IsFirst phase
begun {c} {op} {phase} {accesses} {items} agrees = begun_items agrees.number c op phase accesses agrees.flags items agrees.ghost_agrees

-- so each form of one does
module _ {c : Config} {op : Op} {accesses : Accesses} {items : DealtNumbers} where
  pub freeze_begun : (x : Freeze) → StateAgrees c (Some op) (Some (Freezes x)) accesses items → Go (standing x FreezeLocks) ≡ Go (Freezes x)
  freeze_begun x agrees = ap (λ s. Go (standing x s)) (sym (begun agrees))

  pub thaw_begun : (x : Thaw) → StateAgrees c (Some op) (Some (Thaws x)) accesses items → Go (thaw_at x ThawLocks) ≡ Go (Thaws x)
  thaw_begun x agrees = ap (λ s. Go (thaw_at x s)) (sym (begun agrees))

  pub remount_begun : (x : Remount) → StateAgrees c (Some op) (Some (Remounts x)) accesses items → Go (remounting_at x RemountLocks) ≡ Go (Remounts x)
  remount_begun x agrees = ap (λ s. Go (remounting_at x s)) (sym (begun agrees))

  pub callback_begun : (x : Callback) → StateAgrees c (Some op) (Some (Callbacks x)) accesses items → Go (calling_at x.level x.tasks (Claims Loads)) ≡ Go (Callbacks x)
  callback_begun x agrees = ap (λ s. Go (calling_at x.level x.tasks s)) (sym (begun agrees))

-- a callback stands at a step
pub callback_stands : (x : Callback) (s : CallbackStep) → x.step ≡ s → Go (calling_at x.level x.tasks s) ≡ Go (Callbacks x)
callback_stands x s at = ap (λ t. Go (calling_at x.level x.tasks t)) (sym at)
