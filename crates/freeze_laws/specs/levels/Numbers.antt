-- The transitions of a sync word as the number that it is in memory.
use Rattle.std.specs.Prelude.{Option, Some, ℕ, ◌+◌, ◌<◌, ◌≡◌}
use Rattle.{finite_sums.specs.Sums.total, percpu_rwsem.specs.{SyncWords.{on_callback, on_enter, on_exit}, declared.sync_word.SyncWord.SyncWord}}
use Rattle.freeze_laws.specs.levels.{Changes.transition, Roles.{Entered, Past, Ready, SyncNumberHolds, SyncRole, entered}}

-- the transition that a loaded word asks for is defined
abbrev pub CanGoOn : (SyncWord → Option SyncWord) → ℕ → Type 0
CanGoOn on loaded = (put : ℕ) × (transition on loaded ≡ Some put)

-- Wherever a writer or a callback loads the word, it can go on: before its enter, where nobody has entered; past its grace period;
-- before its exit; and past the grace period of a claimed callback.
pub record TransitionsAreDefined (tasks sync full : ℕ) (at : ℕ → SyncRole) : Type 0 where
  pub enters : total tasks (λ x. entered (at x)) + full ≡ 0 → CanGoOn on_enter sync
  pub passes : (t : ℕ) → t < tasks → at t ≡ Past → CanGoOn on_callback sync
  pub exits : (t : ℕ) → t < tasks → at t ≡ Entered → CanGoOn on_exit sync
  pub calls : (t : ℕ) → t < tasks → at t ≡ Ready → CanGoOn on_callback sync

-- wherever the level holds, a transition that is asked for is defined, so no word is loaded again for want of one
abbrev pub TransitionsAreAlwaysDefined : Type 0
TransitionsAreAlwaysDefined = (tasks sync block full : ℕ) (section : ℕ → ℕ) (at : ℕ → SyncRole) → SyncNumberHolds tasks sync block full section at →
    TransitionsAreDefined tasks sync full at
